-- What gmv_header_read, gmv_answer_read, gmv_answer_write and gmv_control_write return and leave in what was passed, for every input (include/giamuvich.h).
use Rattle.std.specs.Prelude.{List, [], ◌∷◌, cond, ℕ, length, leb, eqb, Option, Some, None, Result, Ok, Err}
use Rattle.fields.specs.Fields.{bytes_of}
use Rattle.fields.specs.declared.Field.{Field}
use Rattle.numbers.specs.Numbers.{number_field, greatest_sent, greatest_expected}
use Rattle.numbers.specs.declared.SequenceNumber.{SequenceNumber}
use Rattle.numbers.specs.declared.SequenceNumber.TheVariants.{MinusOne, Number}
use Rattle.numbers.specs.declared.NumberError.{NumberError}
use Rattle.numbers.specs.declared.NumberError.TheVariants.{Missing, NotNumber}
use Rattle.header.specs.Header.{header_of, acknowledgment_of, code_field}
use Rattle.header.specs.declared.Header.{Header}
use Rattle.header.specs.declared.Acknowledgment.{Acknowledgment}
use Rattle.header.specs.declared.Code.TheVariants.{AA, AE, AR}
use Rattle.header.specs.declared.Code.{Code}
use Rattle.messages.specs.Write.{write_answer_of, write_control_of}
use Rattle.messages.specs.declared.Control.TheVariants.{Resynchronize, Query}
use Rattle.lists.specs.Bytes.{greatest_word, over}
use Rattle.lists.specs.Outcome.{need, Called, called}
use Rattle.refusal.specs.Refusal.{SETTING, TOO_SHORT, HEAD}
use Rattle.words.specs.Words.{with_report}
use Rattle.messages.specs.declared.Control.{Control}
use Rattle.messages.specs.declared.MessageType.{MessageType}
use Rattle.messages.specs.Messages.{message_type}

-- GMV_MINUS_ONE
abbrev pub minus_one : ℕ
minus_one = greatest_word

-- GMV_FIELD_MISSING, GMV_FIELD_NOT_NUMBER, GMV_FIELD_NUMBER
abbrev pub kind_of : Result SequenceNumber NumberError → ℕ
kind_of (Err Missing) = 0
kind_of (Err NotNumber) = 1
kind_of (Ok n) = 2

-- the value of each case: the number, or GMV_MINUS_ONE; 0 where the field holds none
abbrev pub word_of : SequenceNumber → ℕ
word_of MinusOne = minus_one
word_of (Number n) = n

abbrev pub value_of : Result SequenceNumber NumberError → ℕ
value_of (Err why) = 0
value_of (Ok n) = word_of n

-- GMV_CODE_OTHER, GMV_CODE_AA, GMV_CODE_AE, GMV_CODE_AR
abbrev pub code_word : Option Code → ℕ
code_word None = 0
code_word (Some AA) = 1
code_word (Some AE) = 2
code_word (Some AR) = 3

-- GMV_HEADER_CONTROL_ID_OFFSET, _LENGTH, GMV_HEADER_SEQUENCE_OFFSET, _LENGTH, _FIELD, _NUMBER
abbrev pub header_words : Field → Field → Result SequenceNumber NumberError → List ℕ
header_words id seq n = id.start ∷ id.length ∷ seq.start ∷ seq.length ∷ kind_of n ∷ value_of n ∷ []

abbrev pub header_finished : List ℕ → List ℕ → Option Header → Called
header_finished m ws None = called HEAD [] [] ws
header_finished m ws (Some h) = called 0 [] [] (over ws (header_words h.control_id h.sequence (number_field greatest_sent (bytes_of h.sequence m))))

unfoldable pub header_call : List ℕ → List ℕ → Called
header_call m ws = need (leb 6 (length ws)) (called TOO_SHORT [] [] ws) (header_finished m ws (header_of m))

-- GMV_ANSWER_CODE_OFFSET, _LENGTH, GMV_ANSWER_CODE, GMV_ANSWER_CONTROL_ID_OFFSET, _LENGTH, GMV_ANSWER_EXPECTED_OFFSET, _LENGTH, _FIELD, _NUMBER
abbrev pub answer_words : Field → Option Code → Field → Field → Result SequenceNumber NumberError → List ℕ
answer_words code c id expected n =
    code.start ∷ code.length ∷ code_word c ∷ id.start ∷ id.length ∷ expected.start ∷ expected.length ∷ kind_of n ∷ value_of n ∷ []

abbrev pub answer_finished : List ℕ → List ℕ → Option Acknowledgment → Called
answer_finished m ws None = called HEAD [] [] ws
answer_finished m ws (Some a) =
    called 0 [] [] (over ws (answer_words a.code (code_field (bytes_of a.code m)) a.control_id a.expected (number_field greatest_expected (bytes_of a.expected m))))

unfoldable pub answer_call : List ℕ → List ℕ → Called
answer_call m ws = need (leb 9 (length ws)) (called TOO_SHORT [] [] ws) (answer_finished m ws (acknowledgment_of m))

-- numbers as they come from C
abbrev pub code_from : ℕ → Option Code
code_from n = cond (eqb n 1) (Some AA) (cond (eqb n 2) (Some AE) (cond (eqb n 3) (Some AR) None))

abbrev pub number_from : ℕ → SequenceNumber
number_from n = cond (eqb n minus_one) MinusOne (Number n)

abbrev pub control_from : ℕ → Option Control
control_from n = cond (eqb n 0) (Some Query) (cond (eqb n minus_one) (Some Resynchronize) None)

abbrev pub answer_with : Option Code → List ℕ → SequenceNumber → List ℕ → ℕ → List ℕ → Called
answer_with None id n b start p = called SETTING [] b p
answer_with (Some c) id n b start p = with_report b p (write_answer_of id c n start b)

unfoldable pub answer_write_call : List ℕ → ℕ → ℕ → List ℕ → ℕ → List ℕ → Called
answer_write_call id code n b start p = answer_with (code_from code) id (number_from n) b start p

abbrev pub control_with : Option MessageType → Option Control → List ℕ → ℕ → List ℕ → Called
control_with None c b start p = called SETTING [] b p
control_with (Some t) None b start p = called SETTING [] b p
control_with (Some t) (Some c) b start p = with_report b p (write_control_of t c start b)

unfoldable pub control_write_call : List ℕ → ℕ → List ℕ → ℕ → List ℕ → Called
control_write_call type n b start p = control_with (message_type type) (control_from n) b start p
