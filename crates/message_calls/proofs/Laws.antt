-- What a C function for messages returns that writes.
use Rattle.std.specs.Prelude.{Result, Ok, Err}
use Rattle.refusal.specs.Refusal.{refused_by}
use Rattle.lists.proofs.Tests.{cond_ind}
use lib.Dec.{leb}
use mathlib.Core.Path.{◌≡◌, refl}
use mathlib.Core.List.{List, []}
use Prim.Native.Nat.{ℕ, ◌≤◌}
use lib.ListN.{length}
use borrow.Author.Tests.{le-leb}
use Rattle.lists.specs.Outcome.{Outcome, outcome, Called, called}
use Rattle.refusal.specs.declared.Refusal.{Refusal}
use Rattle.words.specs.Words.{write_finished, with_report}
use Rattle.lists.proofs.Calls.{with_buffer}
use Rattle.words.proofs.Laws.{write_finished_lem}

-- writing: the buffer is the writer's
pub done : (b p c q : List ℕ) (w : Result ℕ Refusal) (n : ℕ) (o : Outcome (Result ℕ Refusal)) → 2 ≤ length p → called n [] [] q ≡ write_finished [] p w → outcome w c ≡ o → called n [] c q ≡ with_report b p o
done b p c q w n o h e f = rw (le-leb 2 (length p) h) (write_finished_lem p c q w n o e f)

-- what is left of a call that wrote, by the buffer
pub finished : (b p : List ℕ) (w : Result ℕ Refusal) → write_finished b p w ≡ with_buffer (write_finished [] p w) b
unfolding write_finished
finished b p (Ok n) = refl
finished b p (Err r) =
    cond_ind (λ (z : Called). write_finished b p (refused_by r.number r.offset) ≡ with_buffer z b) (leb r.number 2) _ _ (λ e. rw e) (λ e. rw e)
