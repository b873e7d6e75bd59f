-- The messages, as the pieces in which they are written.
use mathlib.Core.Path.{◌≡◌, refl}
use mathlib.Core.List.{List, ◌++◌, append_assoc}
use Prim.Native.Nat.{ℕ, ◌+◌, ◌≤◌}
use native.Mathlib.Omega.{arith}
use lib.ListN.{length, length-append}
use Rattle.lists.specs.Bytes.{bytes}
use Rattle.messages.proofs.Laws.{fits_after}
use Rattle.header.specs.declared.Code.{Code}
use Rattle.header.specs.declared.Code.TheVariants.{AA, AE, AR}
use Rattle.numbers.specs.Numbers.{text_of, decimal}
use Rattle.numbers.specs.declared.SequenceNumber.{SequenceNumber}
use Rattle.messages.specs.Messages.{code_text, answer_message, control_message, type_text}
use Rattle.messages.specs.Internal.{header_pieces, answer_pieces}
use Rattle.messages.specs.declared.Control.{Control}
use Rattle.messages.specs.declared.Control.TheVariants.{Resynchronize, Query}
use Rattle.messages.specs.declared.MessageType.{MessageType}

regroup : (a i p c b d t e : List ℕ) → a ++ i ++ (p ++ c ++ b) ++ (i ++ d ++ t ++ e) ≡ a ++ i ++ p ++ c ++ b ++ i ++ d ++ t ++ e
regroup a i p c b d t e = simp append_assoc

pub answer_is : (id : List ℕ) (code : Code) (n : SequenceNumber) → header_pieces id code ++ answer_pieces id n ≡ answer_message id code n
unfolding answer_message
answer_is id code n =
    regroup (bytes "MSH|^~\\&|||||||ACK|") id (bytes "|P|2.3.1\rMSA|") (code_text code) (bytes "|") (bytes "||") (text_of n) (bytes "\r")

pub length_code : (code : Code) → length (code_text code) ≡ 2
length_code AA = refl
length_code AE = refl
length_code AR = refl

pub length_header : (id : List ℕ) (code : Code) → length (header_pieces id code) ≡ 35 + length id
length_header id code = simp (length-append, length_code) (omega arith)

pub length_answer : (id : List ℕ) (code : Code) (n : SequenceNumber)
    → length (answer_message id code n) ≡ 38 + (length (text_of n) + (length id + length id))
unfolding answer_message
length_answer id code n = simp (length-append, length_code) (omega arith)

pub length_resynchronize : (t : MessageType) → length (control_message t Resynchronize) ≡ 33
unfolding control_message
length_resynchronize t = refl

pub length_query : (t : MessageType) → length (control_message t Query) ≡ 31
unfolding control_message decimal
length_query t = refl

pub length_control : (t : MessageType) (c : Control) → 31 ≤ length (control_message t c)
length_control t Resynchronize = omega (arith, length_resynchronize t)
length_control t Query = omega (arith, length_query t)

-- the control messages with their numbers written out
pub query_is : (t : MessageType) → bytes "MSH|^~\\&|||||||" ++ type_text t ++ bytes "|0|P|2.3.1|0\r" ≡ control_message t Query
unfolding control_message decimal
query_is t = refl

pub resynchronize_is : (t : MessageType) → bytes "MSH|^~\\&|||||||" ++ type_text t ++ bytes "|-1|P|2.3.1|-1\r" ≡ control_message t Resynchronize
unfolding control_message
resynchronize_is t = refl

pub ruleset control_pieces = (fits_after, length_control, length_resynchronize, length_query)
