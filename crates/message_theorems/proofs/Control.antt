-- What the writer of control messages wrote reads back, and is data that fits into a block.
use Rattle.std.specs.Prelude.{Some}
use mathlib.Core.Path.{◌≡◌, refl, ap, ◌∙◌}
use mathlib.Core.List.{List, [], ◌∷◌, ◌++◌, append_assoc}
use mathlib.Core.Bool.{true, false}
use Prim.Native.Nat.{ℕ, ◌≤◌}
use Prim.Native.Char.{code}
use native.Mathlib.Omega.{arith}
use lib.ListN.{length}
use lib.Dec.{leb, eqb}
use borrow.Author.Tests.{leb-true, le-leb, ne_eqb}
use Rattle.lists.specs.Bytes.{bytes, has_any, all, same}
use Rattle.lists.proofs.Tests.{and_left, and_right}
use Rattle.settings.specs.Settings.{allowed}
use Rattle.settings.specs.DataBytes.{all_allowed}
use Rattle.fields.specs.Fields.{bar}
use Rattle.fields.specs.Joined.{joined_fields}
use Rattle.fields.proofs.Joined.{Each}
use Rattle.header.specs.Header.{begins, control_id_field, sequence_field, header_of}
use Rattle.numbers.specs.Numbers.{number_field, greatest_sent, text_of}
use Rattle.numbers.specs.declared.SequenceNumber.{SequenceNumber}
use Rattle.numbers.proofs.Reading.{is_within, text_back, text_no_end, text_least, text_allowed, number_most}
use Rattle.messages.specs.Messages.{type_text, numbered_message, control_number, control_message, is_capital, valid_type}
use Rattle.messages.specs.declared.Control.{Control}
use Rattle.messages.specs.declared.Control.TheVariants.{Resynchronize, Query}
use Rattle.messages.specs.declared.MessageType.{MessageType}
use Rattle.messages.proofs.Shapes.{length_resynchronize, length_query}
use Rattle.message_theorems.proofs.Bytes.{each_of_lem, segment_allowed}
use Rattle.message_theorems.proofs.Segments.{header_fields, first_field, first_ended, header_readable}
use Rattle.message_theorems.specs.ReadBack.{ReadsControl}

-- what a capital letter is: neither bar nor CR, and allowed
record Letter (x : ℕ) : Type 0 where
  not-bar : eqb x bar ≡ false
  not_return : eqb x 0x0D ≡ false
  permitted : allowed x ≡ true

letter : (x : ℕ) → is_capital x ≡ true → Letter x
letter x h =
    let l : code "A" ≤ x = leb-true (code "A") x (and_left (leb (code "A") x) (leb x (code "Z")) h) in
    let m : x ≤ code "Z" = leb-true x (code "Z") (and_right (leb (code "A") x) (leb x (code "Z")) h) in
    record {
      not-bar = ne_eqb x bar (λ (e : x ≡ 124). omega arith);
      not_return = ne_eqb x 0x0D (λ (e : x ≡ 13). omega arith);
      permitted = rw (le-leb 0x20 x (omega arith), le-leb x 0x7E (omega arith));
    }

letters_free : (s : List ℕ) → all is_capital s ≡ true → has_any bar 0x0D s ≡ false
letters_free [] h = refl
letters_free (x ∷ xs) h =
    let l = letter x (and_left (is_capital x) (all is_capital xs) h) in
    rw (l.not-bar, l.not_return, letters_free xs (and_right (is_capital x) (all is_capital xs) h))

letters_allowed : (s : List ℕ) → all is_capital s ≡ true → all_allowed s ≡ true
letters_allowed [] h = refl
letters_allowed (x ∷ xs) h =
    rw ((letter x (and_left (is_capital x) (all is_capital xs) h)).permitted, letters_allowed xs (and_right (is_capital x) (all is_capital xs) h))

type_letters : (t : MessageType) → valid_type t ≡ true → all is_capital (type_text t) ≡ true
unfolding valid_type
type_letters t v = v

number_sent : (c : Control) → is_within greatest_sent (control_number c) ≡ true
number_sent Resynchronize = refl
number_sent Query = refl

number_few : (c : Control) → length (text_of (control_number c)) ≤ 20
number_few Resynchronize = omega arith
number_few Query = let h = number_most 0 (omega arith) in omega (arith, h)

-- the message after its type, put together of fields
fields_of : (i : List ℕ) → i ++ bytes "|P|2.3.1|" ++ i ++ bytes "\r" ≡ (i ++ (bytes "|P|2.3.1|" ++ i)) ++ bytes "\r"
fields_of i = simp append_assoc

module _ (t : MessageType) (n : SequenceNumber) (v : valid_type t ≡ true) where
  -- the fields after MSH, and the whole message
  abbrev fields : List (List ℕ)
  fields = header_fields (type_text t) (text_of n) (text_of n ∷ [])

  abbrev whole : List ℕ
  whole = joined_fields bar (bytes "MSH") fields ++ 0x0D ∷ []

  whole_is : numbered_message t n ≡ whole
  whole_is = ap (λ (z : List ℕ). bytes "MSH|^~\\&|||||||" ++ (type_text t ++ (bytes "|" ++ z))) (fields_of (text_of n))

  each : Each bar (bytes "MSH" ∷ fields)
  each = each_of_lem (bytes "MSH" ∷ fields) (rw (letters_free (type_text t) (type_letters t v), text_no_end n))

  whole_reads : is_within greatest_sent n ≡ true → length (text_of n) ≤ 20 → ReadsControl whole n
  unfolding begins same
  whole_reads s l =
      record {
        readable = header_readable whole (text_of n) refl (first_ended (bytes "MSH") fields [] each) (first_field (bytes "MSH") fields [] each 9) (text_least n) l;
        id_read = first_field (bytes "MSH") fields [] each 9;
        number_read = ap (λ (z : List ℕ). number_field greatest_sent z) (first_field (bytes "MSH") fields [] each 12) ∙ text_back greatest_sent (omega arith) n s;
      }

  pub numbered_reads : is_within greatest_sent n ≡ true → length (text_of n) ≤ 20 → ReadsControl (numbered_message t n) n
  numbered_reads s l = rw whole_is (whole_reads s l)

  pub numbered_allowed : all_allowed (numbered_message t n) ≡ true
  numbered_allowed =
      ap all_allowed whole_is ∙ segment_allowed (bytes "MSH") fields [] (rw (letters_allowed (type_text t) (type_letters t v), text_allowed n)) refl

-- "The sender's control message for 0 .. For -1, both fields with 0 read -1"
pub control_reads_back : (t : MessageType) (c : Control) → valid_type t ≡ true → ReadsControl (control_message t c) (control_number c)
unfolding control_message
control_reads_back t c v = numbered_reads t (control_number c) v (number_sent c) (number_few c)

-- "Data bytes are 20 to 7E and CR."
pub control_allowed : (t : MessageType) (c : Control) → valid_type t ≡ true → all_allowed (control_message t c) ≡ true
unfolding control_message
control_allowed t c v = numbered_allowed t (control_number c) v

-- "31 bytes", "33 bytes"
pub control_length : (t : MessageType) (c : Control) → length (control_message t c) ≤ 33
control_length t Resynchronize = omega (arith, length_resynchronize t)
control_length t Query = omega (arith, length_query t)

-- what reads as a control message has a header to the reader
pub control_header : (m : List ℕ) (n : SequenceNumber) → ReadsControl m n → header_of m ≡ Some (record { control_id = control_id_field m; sequence = sequence_field m })
unfolding header_of
control_header m n r = rw r.readable
