-- What the reader hands out can stand in an answer, so the answer writer takes the control ID of every message from an accepted block.
use Rattle.std.specs.Prelude.{Option, Some, None}
use mathlib.Core.Path.{◌≡◌, ap}
use mathlib.Core.List.{List}
use mathlib.Core.Bool.{true, false, ◌&&◌}
use Prim.Native.Nat.{ℕ, ◌+◌, ◌≤◌}
use native.Mathlib.Omega.{arith}
use lib.ListN.{length, drop}
use lib.Dec.{leb}
use borrow.Author.Tests.{le-leb}
use Rattle.lists.specs.Bytes.{bytes, has_any}
use Rattle.lists.proofs.All.{all_take, all_drop}
use Rattle.lists.proofs.Search.{clear_free}
use Rattle.settings.specs.Settings.{allowed}
use Rattle.lists.proofs.Tests.{and_right, cond_ind}
use Rattle.settings.specs.DataBytes.{all_allowed}
use Rattle.fields.specs.Fields.{bar, field_of, bytes_of}
use Rattle.fields.specs.declared.Field.{Field}
use Rattle.header.specs.Header.{begins, ended, control_id_field, sequence_field, readable_header, header_of}
use Rattle.header.specs.declared.Code.{Code}
use Rattle.header.specs.declared.Header.{Header}
use Rattle.numbers.specs.declared.SequenceNumber.{SequenceNumber}
use Rattle.messages.specs.Messages.{answer_message, valid_control_id, answerable}
use Rattle.messages.specs.Write.{write_answer_of}
use Rattle.writer.specs.Write.{wrote}
use Rattle.message_theorems.proofs.Segments.{bytes-length}
use Rattle.message_theorems.proofs.Answer.{answer_reads_back}
use Rattle.message_theorems.specs.ReadBack.{ReadsAnswer}

-- neither bar nor CR is in a field
field_free : (m : List ℕ) (from k : ℕ) → has_any bar 0x0D (bytes_of (field_of bar from k m) m) ≡ false
unfolding bytes_of field_of
field_free m from k = clear_free bar 0x0D (drop (field_of bar from k m).start m)

id_length_lem : (m : List ℕ) → readable_header m ≡ true → (leb 1 (control_id_field m).length && leb (control_id_field m).length 20) ≡ true
unfolding readable_header
id_length_lem m h =
    let l = leb 1 (control_id_field m).length && leb (control_id_field m).length 20 in
    and_right (ended m) l (and_right (begins (bytes "MSH|") m) (ended m && l) h)

-- "MSH-10 has 1 to 20 bytes"; "prove that whatever the reader hands out is such a control ID"
pub handed_out : (m : List ℕ) → readable_header m ≡ true → valid_control_id (bytes_of (control_id_field m) m) ≡ true
unfolding valid_control_id
handed_out m h = rw (bytes-length m 9, id_length_lem m h, field_free m 0 9)

-- the same of the field in the reader's answer
pub handed_out_read : (m : List ℕ) (id sequence : Field) → header_of m ≡ Some (record { control_id = id; sequence = sequence }) → valid_control_id (bytes_of id m) ≡ true
unfolding header_of
handed_out_read m id sequence =
    cond_ind (λ (r : Option Header). r ≡ Some (record { control_id = id; sequence = sequence }) → valid_control_id (bytes_of id m) ≡ true) (readable_header m)
    (Some (record { control_id = control_id_field m; sequence = sequence_field m })) None
    (λ h e.
    let j : ◌≡◌ {A = Header} (record { control_id = control_id_field m; sequence = sequence_field m }) (record { control_id = id; sequence = sequence }) = cc in
    let i : control_id_field m ≡ id = ap (λ (z : Header). z.control_id) j in
    rw (← i) (handed_out m h))
    (λ h e. absurd (unread id sequence e))
  where
    unread : (id sequence : Field) → ◌≡◌ {A = Option Header} None (Some (record { control_id = id; sequence = sequence })) → ⊥
    unread id sequence e = let z : ◌≡◌ {A = ℕ} 0 1 = cc in omega arith

-- "Data bytes are 20 to 7E and CR.": and so are the bytes of every field of data
pub handed_out_allowed : (m : List ℕ) (f : Field) → all_allowed m ≡ true → all_allowed (bytes_of f m) ≡ true
unfolding bytes_of
handed_out_allowed m f a = all_take allowed f.length (drop f.start m) (all_drop allowed f.start m a)

-- "An answer's MSH-10 and MSA-2 are both the request's MSH-10"
pub answer_to_request : (m : List ℕ) (code : Code) (n : SequenceNumber) → readable_header m ≡ true → answerable n ≡ true
    → ReadsAnswer (answer_message (bytes_of (control_id_field m) m) code n) code (bytes_of (control_id_field m) m) n
answer_to_request m code n h v = answer_reads_back (bytes_of (control_id_field m) m) code n (handed_out m h) v

-- the answer writer never refuses, by 3 or 9, a control ID that was read from the data of an accepted block
pub answer_taken_lem : (m : List ℕ) (code : Code) (n : SequenceNumber) (start : ℕ) (b : List ℕ)
    → all_allowed m ≡ true → readable_header m ≡ true → answerable n ≡ true
    → start + length (answer_message (bytes_of (control_id_field m) m) code n) ≤ length b
    → write_answer_of (bytes_of (control_id_field m) m) code n start b ≡ wrote b start (answer_message (bytes_of (control_id_field m) m) code n)
unfolding write_answer_of
answer_taken_lem m code n start b a h v l =
    let id = bytes_of (control_id_field m) m in
    rw (le-leb (start + length (answer_message id code n)) (length b) l, handed_out_allowed m (control_id_field m) a, handed_out m h, v)
