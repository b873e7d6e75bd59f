-- What the answer writer wrote reads back, and is data that fits into a block.
use Rattle.std.specs.Prelude.{Some}
use mathlib.Core.Path.{◌≡◌, refl, ap, ◌∙◌}
use mathlib.Core.List.{List, [], ◌∷◌, ◌++◌, append_assoc}
use mathlib.Core.Bool.{true, false, not, ◌&&◌}
use Prim.Native.Nat.{ℕ, ◌≤◌}
use native.Mathlib.Omega.{arith}
use lib.ListN.{length, get_or}
use lib.Dec.{leb}
use borrow.Author.Tests.{leb-true, not-true}
use Rattle.lists.specs.Bytes.{bytes, has_any, same}
use Rattle.lists.proofs.Tests.{and_left, and_right}
use Rattle.settings.specs.DataBytes.{all_allowed}
use Rattle.fields.specs.Fields.{bar, field_of, bytes_of}
use Rattle.fields.specs.Joined.{joined_fields}
use Rattle.fields.proofs.Joined.{Each}
use Rattle.header.specs.Header.{begins, answer_field, readable_header, readable_answer, acknowledgment_of, code_field}
use Rattle.header.specs.declared.Code.{Code}
use Rattle.header.specs.declared.Code.TheVariants.{AA, AE, AR}
use Rattle.numbers.specs.Numbers.{number_field, greatest_expected, text_of}
use Rattle.numbers.specs.declared.SequenceNumber.{SequenceNumber}
use Rattle.numbers.specs.declared.SequenceNumber.TheVariants.{MinusOne, Number}
use Rattle.numbers.proofs.Reading.{is_within, text_back, text_no_end, text_allowed, text_length_lem}
use Rattle.messages.specs.Messages.{code_text, answer_message, valid_control_id, answerable}
use Rattle.messages.proofs.Shapes.{length_answer}
use Rattle.message_theorems.proofs.Bytes.{each_of_lem, segment_allowed}
use Rattle.message_theorems.proofs.Segments.{header_fields, first_field, first_ended, second_is, second_field, header_readable}
use Rattle.message_theorems.specs.ReadBack.{ReadsAnswer}

-- what a valid control ID is
record ControlId (id : List ℕ) : Type 0 where
  some : 1 ≤ length id
  few : length id ≤ 20
  free : has_any bar 0x0D id ≡ false

control_id_lem : (id : List ℕ) → valid_control_id id ≡ true → ControlId id
unfolding valid_control_id
control_id_lem id h =
    let l : (leb 1 (length id) && leb (length id) 20) ≡ true = and_left (leb 1 (length id) && leb (length id) 20) (not (has_any bar 0x0D id)) h in
    record {
      some = leb-true 1 (length id) (and_left (leb 1 (length id)) (leb (length id) 20) l);
      few = leb-true (length id) 20 (and_right (leb 1 (length id)) (leb (length id) 20) l);
      free = not-true (has_any bar 0x0D id) (and_right (leb 1 (length id) && leb (length id) 20) (not (has_any bar 0x0D id)) h);
    }

expected_within : (n : SequenceNumber) → answerable n ≡ true → is_within greatest_expected n ≡ true
unfolding answerable
expected_within MinusOne h = h
expected_within (Number n) h = and_right (leb 1 n) (leb n greatest_expected) h

code_free : (code : Code) → has_any bar 0x0D (code_text code) ≡ false
code_free AA = refl
code_free AE = refl
code_free AR = refl

code_allowed : (code : Code) → all_allowed (code_text code) ≡ true
code_allowed AA = refl
code_allowed AE = refl
code_allowed AR = refl

code_back : (code : Code) → code_field (code_text code) ≡ Some code
unfolding code_field same
code_back AA = refl
code_back AE = refl
code_back AR = refl

-- the answer after ACK, put together of fields
fields_of : (i c t : List ℕ)
    → i ++ bytes "|P|2.3.1\rMSA|" ++ c ++ bytes "|" ++ i ++ bytes "||" ++ t ++ bytes "\r"
    ≡ (i ++ bytes "|P|2.3.1") ++ (bytes "\rMSA|" ++ ((c ++ bar ∷ (i ++ bar ∷ bar ∷ t)) ++ bytes "\r"))
fields_of i c t = simp append_assoc

module _ (id : List ℕ) (code : Code) (n : SequenceNumber) where
  -- the fields after MSA, the MSA segment, and the whole answer
  abbrev answer_fields : List (List ℕ)
  answer_fields = code_text code ∷ id ∷ [] ∷ text_of n ∷ []

  abbrev second : List ℕ
  second = joined_fields bar (bytes "MSA") answer_fields ++ 0x0D ∷ []

  abbrev whole : List ℕ
  whole = joined_fields bar (bytes "MSH") (header_fields (bytes "ACK") id []) ++ 0x0D ∷ second

  whole_is : answer_message id code n ≡ whole
  unfolding answer_message
  whole_is = ap (λ (z : List ℕ). bytes "MSH|^~\\&|||||||ACK|" ++ z) (fields_of id (code_text code) (text_of n))

  module _ (c : ControlId id) where
    header_each : Each bar (bytes "MSH" ∷ header_fields (bytes "ACK") id [])
    header_each = each_of_lem (bytes "MSH" ∷ header_fields (bytes "ACK") id []) (rw c.free)

    answer_each : Each bar (bytes "MSA" ∷ answer_fields)
    answer_each = each_of_lem (bytes "MSA" ∷ answer_fields) (rw (code_free code, c.free, text_no_end n))

    own_field : (k : ℕ) → bytes_of (field_of bar 0 k whole) whole ≡ get_or (bytes "MSH" ∷ header_fields (bytes "ACK") id []) k []
    own_field k = first_field (bytes "MSH") (header_fields (bytes "ACK") id []) second header_each k

    answer_field_lem : (k : ℕ) → bytes_of (answer_field k whole) whole ≡ get_or (bytes "MSA" ∷ answer_fields) k []
    answer_field_lem k = second_field (bytes "MSH") (header_fields (bytes "ACK") id []) second header_each (bytes "MSA") answer_fields [] answer_each refl k

    whole_readable : readable_answer whole ≡ true
    unfolding readable_answer begins same
    whole_readable =
        let h : readable_header whole ≡ true =
        header_readable whole id refl (first_ended (bytes "MSH") (header_fields (bytes "ACK") id []) second header_each) (own_field 9) c.some c.few in
        rw (h, second_is (bytes "MSH") (header_fields (bytes "ACK") id []) second header_each, first_ended (bytes "MSA") answer_fields [] answer_each)

    whole_reads : answerable n ≡ true → ReadsAnswer whole code id n
    whole_reads v =
        record {
          readable = whole_readable;
          own_id = own_field 9;
          code_read = ap code_field (answer_field_lem 1) ∙ code_back code;
          id_read = answer_field_lem 2;
          expected =
              ap (λ (z : List ℕ). number_field greatest_expected z) (answer_field_lem 4) ∙ text_back greatest_expected (omega arith) n (expected_within n v);
        }

  -- "An answer's MSH-10 and MSA-2 are both the request's MSH-10; only these, MSA-1 and MSA-4 vary."
  pub answer_reads_back : valid_control_id id ≡ true → answerable n ≡ true → ReadsAnswer (answer_message id code n) code id n
  answer_reads_back h v = rw whole_is (whole_reads (control_id_lem id h) v)

  -- "Data bytes are 20 to 7E and CR."
  pub answer_allowed : all_allowed id ≡ true → all_allowed (answer_message id code n) ≡ true
  answer_allowed a =
      rw whole_is
      (segment_allowed (bytes "MSH") (header_fields (bytes "ACK") id []) second (rw a)
      (segment_allowed (bytes "MSA") answer_fields [] (rw (code_allowed code, a, text_allowed n)) refl))

  -- 38 bytes, twice the 20 of MSH-10, and 15 digits
  pub answer_length : valid_control_id id ≡ true → answerable n ≡ true → length (answer_message id code n) ≤ 93
  answer_length h v =
      let c = control_id_lem id h in
      let t = text_length_lem n (expected_within n v) in
      omega (arith, length_answer id code n, c.few, t.1)

-- what reads as an answer is one to the reader
pub answer_acknowledges : (m : List ℕ) (code : Code) (id : List ℕ) (n : SequenceNumber) → ReadsAnswer m code id n
    → acknowledgment_of m ≡ Some (record { code = answer_field 1 m; control_id = answer_field 2 m; expected = answer_field 4 m })
unfolding acknowledgment_of
answer_acknowledges m code id n r = rw r.readable
