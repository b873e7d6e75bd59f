-- A writer's answer, beside the buffer that it left.
use Rattle.refusal.specs.Refusal.{refused_by}
use Rattle.std.specs.Prelude.{Result, Ok, Err}
use mathlib.Core.Path.{◌≡◌, refl, ap, ◌∙◌}
use mathlib.Core.List.{List, []}
use Prim.Native.Nat.{ℕ}
use lib.Dec.{leb}
use Rattle.lists.proofs.Tests.{cond_ind}
use Rattle.lists.proofs.Calls.{with_buffer}
use Rattle.lists.specs.Outcome.{Outcome, outcome, Called, called}
use Rattle.refusal.specs.declared.Refusal.{Refusal}
use Rattle.words.specs.Words.{write_finished}

finished_with : (b p : List ℕ) (w : Result ℕ Refusal) → with_buffer (write_finished [] p w) b ≡ write_finished b p w
unfolding write_finished
finished_with b p (Ok n) = refl
finished_with b p (Err r) =
    cond_ind (λ (z : Called). with_buffer z b ≡ write_finished b p (refused_by r.number r.offset)) (leb r.number 2) _ _ (λ e. rw e) (λ e. rw e)

pub write_finished_lem : (p b q : List ℕ) (w : Result ℕ Refusal) (n : ℕ) (o : Outcome (Result ℕ Refusal)) → called n [] [] q ≡ write_finished [] p w → outcome w b ≡ o
    → called n [] b q ≡ write_finished o.buffer p o.answer
write_finished_lem p b q w n o e f =
    ap (λ (z : Called). with_buffer z b) e ∙ finished_with b p w ∙ ap (λ (z : Outcome (Result ℕ Refusal)). write_finished z.buffer p z.answer) f
