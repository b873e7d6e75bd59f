-- "A refused act leaves the state equal": in any words, also in those that are no state.
use Rattle.std.specs.Prelude.{Option}
use mathlib.Core.Path.{◌≡◌, refl, sym, ◌∙◌}
use mathlib.Core.Bool.{Bool, true, false, cond}
use Prim.Native.Nat.{ℕ, ◌≤◌}
use native.Mathlib.Omega.{arith}
use lib.Dec.{leb}
use borrow.Author.Tests.{leb-true}
use Rattle.lists.proofs.Tests.{and_left, cond_ind}
use Rattle.settings.specs.Settings.{valid_link_limit}
use Rattle.sender.specs.Sender.{valid_sender, no_state, is_open, on_circuit, open_of, ended_of, reset_of, valid_resends, when_open, timer_of, block_read_of, submit_of}
use Rattle.sender.specs.declared.Sender.{Sender}
use Rattle.numbers.specs.declared.SequenceNumber.{SequenceNumber}
use Rattle.sender.specs.declared.Event.{Event}
use Rattle.sender.specs.declared.Acted.{Acted}
use Rattle.link.specs.SenderActs.{Act, opened, ended, reset, timer, block, submit, act_of}
use Rattle.link.proofs.Facts.{not_both}
use Rattle.link.proofs.SenderSteps.{Step, refuses, keeps, starts, resends, abandons, shuts, steps}

step_same : {r n : ℕ} {s t : Sender} {k : ℕ} {m : Option SequenceNumber} {e : Event} → Step r s n t m k e → 1 ≤ n → t ≡ s
step_same (refuses h) l = refl
step_same (keeps w g j u) l = absurd (omega arith)
step_same (starts g j f) l = absurd (omega arith)
step_same (resends h j) l = absurd (omega arith)
step_same (abandons j h w) l = absurd (omega arith)
step_same (shuts g j) l = absurd (omega arith)

-- words that are no state
module _ (s : Sender) (v : valid_sender s ≡ false) where
  abbrev Same : Acted → Type 0
  Same a = a.sender ≡ s

  invalid_test : (x : Acted) → Same (cond (valid_sender s) x (no_state s))
  invalid_test x = cond_ind Same (valid_sender s) _ _ (λ e. not_both cc) (λ e. refl)

  circuit_same : (x : Acted) → Same (cond (on_circuit s) x (no_state s))
  circuit_same x = cond_ind Same (on_circuit s) _ _ (λ e. not_both (sym (and_left (valid_sender s) (is_open s.waiting) e) ∙ v)) (λ e. refl)

  when_open_same : (r : ℕ) (x : Acted) → Same (when_open r s x)
  when_open_same r x = cond_ind Same (valid_resends r) _ _ (λ e. circuit_same x) (λ e. refl)

  invalid_same : (a : Act) → Same (act_of a s)
  unfolding open_of ended_of reset_of timer_of block_read_of submit_of
  invalid_same opened = invalid_test _
  invalid_same ended = circuit_same _
  invalid_same reset = invalid_test _
  invalid_same (timer r) = when_open_same r _
  invalid_same (block r u d) = when_open_same r _
  invalid_same (submit limit d) = cond_ind Same (valid_link_limit limit) _ _ (λ e. invalid_test _) (λ e. refl)

pub refused-same : (a : Act) (s : Sender) → leb 1 (act_of a s).refusal ≡ true → (act_of a s).sender ≡ s
refused-same a s h = go (valid_sender s) refl
  where
    go : (b : Bool) → valid_sender s ≡ b → (act_of a s).sender ≡ s
    go true v = step_same (steps s v a) (leb-true 1 (act_of a s).refusal h)
    go false v = invalid_same s v a
