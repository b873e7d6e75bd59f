-- What the contracts of the private functions cite. Nobody needs to believe these: no public function's contract cites them.
use Rattle.refusal.specs.Refusal.{refused_by}
use Rattle.std.specs.Prelude.{◌≡◌, List, ◌++◌, Bool, cond, not, ◌&&◌, ℕ, ◌+◌, length, leb, eqb, Result}
use Rattle.lists.specs.Bytes.{bytes, put}
use Rattle.refusal.specs.declared.Refusal.{Refusal}
use Rattle.settings.specs.DataBytes.{all_allowed, first_forbidden}
use Rattle.fields.specs.Fields.{bar}
use Rattle.header.specs.declared.Code.{Code}
use Rattle.numbers.specs.Numbers.{text_of}
use Rattle.numbers.specs.declared.SequenceNumber.{SequenceNumber}
use Rattle.messages.specs.Messages.{code_text}

-- vs was written over l from offset a on; r is the offset after it, and m the content then
pub record Puts (l : List ℕ) (a : ℕ) (vs : List ℕ) (r : ℕ) (m : List ℕ) : Type 0 where
  pub next : r ≡ a + length vs
  pub content : m ≡ put l a vs

-- |P|2.3.1<CR>MSA|AA|
abbrev pub code_pieces : Code → List ℕ
code_pieces code = bytes "|P|2.3.1\rMSA|" ++ code_text code ++ bytes "|"

-- MSH|^~\&|||||||ACK|17|P|2.3.1<CR>MSA|AA|, in the pieces in which it is written
abbrev pub header_pieces : List ℕ → Code → List ℕ
header_pieces id code = bytes "MSH|^~\\&|||||||ACK|" ++ id ++ code_pieces code

-- 17||17<CR>
abbrev pub answer_pieces : List ℕ → SequenceNumber → List ℕ
answer_pieces id n = id ++ bytes "||" ++ text_of n ++ bytes "\r"

-- why a control ID is refused
abbrev pub id_refusal : List ℕ → Result ℕ Refusal
id_refusal id = cond (all_allowed id) (refused_by 9 0) (refused_by 3 (first_forbidden id))

-- which bytes a control ID may have
abbrev pub id_byte : ℕ → Bool
id_byte x = (leb 0x20 x && leb x 0x7E) && not (eqb x bar)
