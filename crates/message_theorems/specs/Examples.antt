-- Document 01, 'Header fields': the three messages that it gives byte for byte. Each is a statement of its own, so that it can stand in a list of cases.
use Rattle.std.specs.Prelude.{◌≡◌, List, ℕ, length}
use Prim.Native.Char.{code}
use Rattle.lists.specs.Bytes.{bytes}
use Rattle.header.specs.declared.Code.TheVariants.{AA}
use Rattle.numbers.specs.declared.SequenceNumber.TheVariants.{Number}
use Rattle.messages.specs.Messages.{answer_message, control_message}
use Rattle.messages.specs.declared.Control.TheVariants.{Resynchronize, Query}
use Rattle.messages.specs.declared.MessageType.{MessageType}

-- how many bytes, and which
pub record Sized : Type 0 where
  pub size : ℕ
  pub content : List ℕ

abbrev pub sized : List ℕ → Sized
sized m = record { size = length m; content = m }

-- "For request 17, accepted, the whole answer is 44 bytes: MSH|^~\&|||||||ACK|17|P|2.3.1<CR>MSA|AA|17||17<CR>"
abbrev pub AnswerFor17 : Type 0
AnswerFor17 =
    sized (answer_message (bytes "17") AA (Number 17)) ≡ record { size = 44; content = bytes "MSH|^~\\&|||||||ACK|17|P|2.3.1\rMSA|AA|17||17\r" }

-- "type setting ADT"
abbrev pub adt : MessageType
adt = record { first = code "A"; second = code "D"; third = code "T" }

-- "The sender's control message for 0, with type setting ADT (three capital letters), has 31 bytes: MSH|^~\&|||||||ADT|0|P|2.3.1|0<CR>"
abbrev pub ControlFor0 : Type 0
ControlFor0 = sized (control_message adt Query) ≡ record { size = 31; content = bytes "MSH|^~\\&|||||||ADT|0|P|2.3.1|0\r" }

-- "For -1, both fields with 0 read -1: 33 bytes."
abbrev pub ControlForMinusOne : Type 0
ControlForMinusOne =
    sized (control_message adt Resynchronize) ≡ record { size = 33; content = bytes "MSH|^~\\&|||||||ADT|-1|P|2.3.1|-1\r" }
