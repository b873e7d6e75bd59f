-- Document 01, 'Header fields': what the readers find in a message that the library wrote.
use Rattle.std.specs.Prelude.{◌≡◌, List, true, ℕ, Some, Ok}
use Rattle.fields.specs.Fields.{bytes_of}
use Rattle.header.specs.Header.{control_id_field, sequence_field, answer_field, readable_header, readable_answer, code_field}
use Rattle.header.specs.declared.Code.{Code}
use Rattle.numbers.specs.Numbers.{number_field, greatest_sent, greatest_expected, text_of}
use Rattle.numbers.specs.declared.SequenceNumber.{SequenceNumber}

-- "An answer's MSH-10 and MSA-2 are both the request's MSH-10; only these, MSA-1 and MSA-4 vary.": m reads as the answer with these
pub record ReadsAnswer (m : List ℕ) (code : Code) (id : List ℕ) (n : SequenceNumber) : Type 0 where
  pub readable : readable_answer m ≡ true
  -- MSH-10
  pub own_id : bytes_of (control_id_field m) m ≡ id
  -- MSA-1
  pub code_read : code_field (bytes_of (answer_field 1 m) m) ≡ Some code
  -- MSA-2
  pub id_read : bytes_of (answer_field 2 m) m ≡ id
  -- MSA-4
  pub expected : number_field greatest_expected (bytes_of (answer_field 4 m) m) ≡ Ok n

-- "The sender's control message for 0 .. For -1, both fields with 0 read -1": m reads as the control message with this number
pub record ReadsControl (m : List ℕ) (n : SequenceNumber) : Type 0 where
  pub readable : readable_header m ≡ true
  -- MSH-10
  pub id_read : bytes_of (control_id_field m) m ≡ text_of n
  -- MSH-13
  pub number_read : number_field greatest_sent (bytes_of (sequence_field m) m) ≡ Ok n
