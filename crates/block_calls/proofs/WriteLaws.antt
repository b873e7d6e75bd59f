-- The ways in which a call of the writer returns.
use Rattle.std.specs.Prelude.{Some, Result}
use mathlib.Core.Path.{◌≡◌, refl, ◌∙◌}
use mathlib.Core.List.{List, []}
use mathlib.Core.Bool.{Bool, true, false}
use Prim.Native.Nat.{ℕ, ◌≤◌}
use lib.ListN.{length}
use borrow.Author.Tests.{le-leb}
use Rattle.lists.specs.Outcome.{outcome, called}
use Rattle.refusal.specs.declared.Refusal.{Refusal}
use Rattle.settings.specs.Settings.{valid}
use Rattle.settings.specs.declared.Settings.{Settings}
use Rattle.writer.specs.Write.{write_of}
use Rattle.words.specs.Words.{type_byte, write_finished}
use Rattle.words.proofs.Laws.{write_finished_lem}
use Rattle.block_calls.specs.WriteCalls.{write_call}

module _ (g : Settings) (t : ℕ) (d b : List ℕ) (start : ℕ) (p : List ℕ) where
  -- what `write` answers, its 1 too
  pub write_done : (c q : List ℕ) (w : Result ℕ Refusal) (n : ℕ) → 2 ≤ length p
      → called n [] [] q ≡ write_finished [] p w → outcome w c ≡ write_of g (type_byte t) d start b
      → called n [] c q ≡ write_call (Some g) t d b start p
  unfolding write_call write_of write_finished
  write_done c q w n h e f =
      write_finished_lem p c q w n (write_of g (type_byte t) d start b) e f ∙ go (valid g) refl
    where
      go : (f : Bool) → valid g ≡ f
          → write_finished (write_of g (type_byte t) d start b).buffer p (write_of g (type_byte t) d start b).answer ≡ write_call (Some g) t d b start p
      go true e = rw (e, le-leb 2 (length p) h)
      go false e = rw e
