-- The block writer takes every message that the library writes.
use mathlib.Core.Path.{◌≡◌, refl, sym}
use mathlib.Core.List.{List}
use mathlib.Core.Bool.{true}
use Prim.Native.Nat.{ℕ, ◌+◌, ◌≤◌}
use Prim.Native.Char.{code}
use native.Mathlib.Omega.{arith}
use lib.ListN.{length}
use borrow.Author.Tests.{le-leb}
use Rattle.settings.specs.Settings.{valid}
use Rattle.settings.specs.declared.Kind.{Kind}
use Rattle.settings.specs.declared.Kind.TheVariants.{Hybrid, Minimal}
use Rattle.settings.specs.declared.Settings.{Settings}
use Rattle.settings.specs.DataBytes.{all_allowed}
use Rattle.block.specs.Format.{block_of}
use Rattle.block.specs.Judge.{type_matches}
use Rattle.writer.specs.Write.{need_of, type_valid, wrote, write_of}
use Rattle.writer.proofs.Laws.{write_all_lem}
use Rattle.header.specs.declared.Code.{Code}
use Rattle.numbers.specs.declared.SequenceNumber.{SequenceNumber}
use Rattle.messages.specs.Messages.{answer_message, control_message, valid_type, valid_control_id, answerable}
use Rattle.messages.specs.declared.Control.{Control}
use Rattle.messages.specs.declared.MessageType.{MessageType}
use Rattle.message_theorems.proofs.Answer.{answer_allowed, answer_length}
use Rattle.message_theorems.proofs.Control.{control_allowed, control_length}

data_type : (k : Kind) (d : List ℕ) → type_valid k (code "D") d ≡ true
unfolding type_matches
data_type Hybrid d = refl
data_type Minimal d = refl

module _ (g : Settings) (v : valid g ≡ true) (l : 128 ≤ g.data_limit) (start : ℕ) (b : List ℕ) where
  in_block : (d : List ℕ) → length d ≤ 93 → all_allowed d ≡ true → start + need_of g d ≤ length b
      → write_of g (code "D") d start b ≡ wrote b start (block_of g (code "D") d)
  in_block d h a e = sym (write_all_lem g (code "D") d start b v (le-leb (start + need_of g d) (length b) e) (omega arith) (data_type g.kind d) a)

  -- "The data limit D is a setting, 1 to 99,994; for a sender or receiver at least 128": every answer is data of a D block, or of a minimal block
  pub answer_in_block : (id : List ℕ) (c : Code) (n : SequenceNumber) → all_allowed id ≡ true → valid_control_id id ≡ true → answerable n ≡ true
      → start + need_of g (answer_message id c n) ≤ length b
      → write_of g (code "D") (answer_message id c n) start b ≡ wrote b start (block_of g (code "D") (answer_message id c n))
  answer_in_block id c n a h w e = in_block (answer_message id c n) (answer_length id c n h w) (answer_allowed id c n a) e

  -- and so is every control message
  pub control_in_block : (t : MessageType) (c : Control) → valid_type t ≡ true → start + need_of g (control_message t c) ≤ length b
      → write_of g (code "D") (control_message t c) start b ≡ wrote b start (block_of g (code "D") (control_message t c))
  control_in_block t c w e = let n = control_length t c in in_block (control_message t c) (omega arith) (control_allowed t c w) e
