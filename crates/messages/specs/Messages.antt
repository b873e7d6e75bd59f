-- Document 01, 'Header fields': the two messages that the library writes, byte for byte.
use Rattle.std.specs.Prelude.{List, [], ◌∷◌, ◌++◌, Bool, true, not, ◌&&◌, ℕ, length, get_or, leb, eqb, Option, Some, None}
use Prim.Native.Char.{code}
use Rattle.lists.specs.Bytes.{bytes, all, has_any}
use Rattle.lists.specs.Outcome.{need}
use Rattle.fields.specs.Fields.{bar}
use Rattle.header.specs.declared.Code.{Code}
use Rattle.header.specs.declared.Code.TheVariants.{AA, AE, AR}
use Rattle.numbers.specs.Numbers.{text_of, greatest_expected}
use Rattle.numbers.specs.declared.SequenceNumber.{SequenceNumber}
use Rattle.numbers.specs.declared.SequenceNumber.TheVariants.{MinusOne, Number}
use Rattle.messages.specs.declared.Control.{Control}
use Rattle.messages.specs.declared.Control.TheVariants.{Resynchronize, Query}
use Rattle.messages.specs.declared.MessageType.{MessageType}

abbrev pub code_text : Code → List ℕ
code_text AA = bytes "AA"
code_text AE = bytes "AE"
code_text AR = bytes "AR"

-- MSH|^~\&|||||||ACK|17|P|2.3.1<CR>MSA|AA|17||17<CR>: "MSH-10 and MSA-2 are both the request's MSH-10; only these, MSA-1 and MSA-4 vary."
unfoldable pub answer_message : List ℕ → Code → SequenceNumber → List ℕ
answer_message id c n =
    bytes "MSH|^~\\&|||||||ACK|" ++ id ++ bytes "|P|2.3.1\rMSA|" ++ code_text c ++ bytes "|" ++ id ++ bytes "||" ++ text_of n ++ bytes "\r"

abbrev pub type_text : MessageType → List ℕ
type_text t = t.first ∷ t.second ∷ t.third ∷ []

-- MSH|^~\&|||||||ADT|0|P|2.3.1|0<CR>: a message of one segment whose MSH-10 and MSH-13 are one number
abbrev pub numbered_message : MessageType → SequenceNumber → List ℕ
numbered_message t n =
    bytes "MSH|^~\\&|||||||" ++ type_text t ++ bytes "|" ++ text_of n ++ bytes "|P|2.3.1|" ++ text_of n ++ bytes "\r"

-- "The sender's control message for 0 .. For -1, both fields with 0 read -1"
abbrev pub control_number : Control → SequenceNumber
control_number Resynchronize = MinusOne
control_number Query = Number 0

unfoldable pub control_message : MessageType → Control → List ℕ
control_message t c = numbered_message t (control_number c)

-- "type setting ADT (three capital letters)"
abbrev pub is_capital : ℕ → Bool
is_capital x = leb (code "A") x && leb x (code "Z")

unfoldable pub valid_type : MessageType → Bool
valid_type t = all is_capital (type_text t)

-- what is made of letters that come from outside
unfoldable pub message_type : List ℕ → Option MessageType
message_type s =
    need (eqb (length s) 3 && all is_capital s) None (Some (record { first = get_or s 0 0; second = get_or s 1 0; third = get_or s 2 0 }))

-- which control IDs can stand in MSH-10 and MSA-2 and be read back: 1 to 20 bytes, and among them neither bar nor CR
unfoldable pub valid_control_id : List ℕ → Bool
valid_control_id id = (leb 1 (length id) && leb (length id) 20) && not (has_any bar 0x0D id)

-- which numbers MSA-4 may have: no row of the receiver's table has 0 there
unfoldable pub answerable : SequenceNumber → Bool
answerable MinusOne = true
answerable (Number n) = leb 1 n && leb n greatest_expected
