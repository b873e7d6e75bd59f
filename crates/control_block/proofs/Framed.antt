-- A control block is what the block writer gives for a D block of the control message.
use mathlib.Core.Path.{◌≡◌, refl, sym, ◌∙◌}
use mathlib.Core.List.{List}
use mathlib.Core.Bool.{Bool, true, false}
use Prim.Native.Nat.{ℕ, ◌+◌, ◌≤◌}
use Prim.Native.Char.{code}
use lib.ListN.{length}
use lib.Dec.{leb}
use borrow.Author.Tests.{leb-true}
use Rattle.lists.proofs.Tests.{and_left, and_right}
use Rattle.settings.specs.Settings.{valid, valid_link}
use Rattle.settings.specs.declared.Settings.{Settings}
use Rattle.writer.specs.Write.{need_of, write_of}
use Rattle.writer.proofs.Laws.{frame_too_short, write_framed}
use Rattle.messages.specs.Messages.{control_message, valid_type}
use Rattle.messages.specs.declared.Control.{Control}
use Rattle.messages.specs.declared.MessageType.{MessageType}
use Rattle.message_theorems.proofs.InBlock.{control_in_block}
use Rattle.control_block.specs.ControlBlock.{control_block_of}

module _ (g : Settings) (t : MessageType) (c : Control) (start : ℕ) (b : List ℕ) (h : valid_link g ≡ true) (v : valid_type t ≡ true) where
  settings_valid : valid g ≡ true
  unfolding valid_link
  settings_valid = and_left (valid g) (leb 128 g.data_limit) h

  limit : 128 ≤ g.data_limit
  unfolding valid_link
  limit = leb-true 128 g.data_limit (and_right (valid g) (leb 128 g.data_limit) h)

  framed : (f : Bool) → leb (start + need_of g (control_message t c)) (length b) ≡ f → write_of g (code "D") (control_message t c) start b ≡ control_block_of g t c start b
  unfolding control_block_of
  framed true e =
      control_in_block g settings_valid limit start b t c v (leb-true (start + need_of g (control_message t c)) (length b) e) ∙ sym (rw (h, v, e))
  framed false e =
      sym (write_framed g (code "D") (control_message t c) start b settings_valid)
      ∙ sym (frame_too_short g (code "D") (control_message t c) start b e) ∙ sym (rw (h, v, e))

  pub control_framed : write_of g (code "D") (control_message t c) start b ≡ control_block_of g t c start b
  control_framed = framed (leb (start + need_of g (control_message t c)) (length b)) refl
