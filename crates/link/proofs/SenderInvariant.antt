-- Every act leaves a valid state valid, so every state that a run reaches is valid.
use Rattle.std.specs.Prelude.{Option, Some, None}
use mathlib.Core.Path.{◌≡◌, refl, sym, ap, ◌∙◌}
use mathlib.Core.List.{List, [], ◌∷◌}
use mathlib.Core.Bool.{true, false}
use Prim.Native.Nat.{ℕ, ◌≤◌}
use native.Mathlib.Omega.{arith}
use lib.Dec.{leb}
use borrow.Author.Tests.{leb-true}
use Rattle.lists.proofs.Tests.{and_left, and_right, cond_ind}
use Rattle.numbers.specs.Numbers.{greatest_sent}
use Rattle.sender.specs.Sender.{valid_first, valid_resends, valid_settings, valid_sender, fresh_sender, sender_of}
use Rattle.sender.specs.declared.SenderSettings.{SenderSettings}
use Rattle.sender.specs.declared.Sender.{Sender}
use Rattle.numbers.specs.declared.SequenceNumber.{SequenceNumber}
use Rattle.sender.specs.declared.Event.{Event}
use Rattle.link.specs.SenderActs.{Act, act_of, after_crash, ActOrCrash, act, crash, step_of, after_of}
use Rattle.link.proofs.Facts.{not_both}
use Rattle.link.proofs.SenderValid.{numbers_of_lem, Right, right_from, right_valid}
use Rattle.link.proofs.SenderSteps.{Step, refuses, keeps, starts, resends, abandons, shuts, steps}

pub step_right : {r n : ℕ} {s t : Sender} {k : ℕ} {m : Option SequenceNumber} {e : Event} → Right s.persisted s.waiting s.sends → Step r s n t m k e
    → Right t.persisted t.waiting t.sends
step_right i (refuses l) = i
step_right i (keeps w g j u) = j
step_right i (starts g j f) = j
step_right i (resends l j) = j
step_right i (abandons j l w) = record { stored = j; waits = refl }
step_right i (shuts g j) = record { stored = j; waits = refl }

pub act_valid : (a : Act) (s : Sender) → valid_sender s ≡ true → valid_sender (act_of a s).sender ≡ true
act_valid a s v = right_valid (act_of a s).sender (step_right (right_from s v) (steps s v a))

pub crash_valid : (s : Sender) → valid_sender s ≡ true → valid_sender (after_crash s.persisted) ≡ true
crash_valid s v = right_valid (after_crash s.persisted) (record { stored = (right_from s v).stored; waits = refl })

-- a new sender
pub fresh-valid : (f : ℕ) → 1 ≤ f → f ≤ greatest_sent → valid_sender (fresh_sender f) ≡ true
fresh-valid f l m =
    right_valid (fresh_sender f)
    (record {
      stored = numbers_of_lem l m (omega arith) (omega arith) (omega arith) (λ (e : false ≡ false). omega arith);
      waits = refl;
    })

pub made_valid : (g : SenderSettings) (s : Sender) → sender_of g ≡ Some s → valid_sender s ≡ true
unfolding sender_of
made_valid g s h =
    let f = g.first in
    cond_ind (λ (x : Option Sender). x ≡ Some s → valid_sender s ≡ true) (valid_settings g) _ _
    (λ (b : valid_settings g ≡ true) (e : Some (fresh_sender f) ≡ Some s).
    let k : fresh_sender f ≡ s = cc in
    let c = and_left (valid_first f) (valid_resends g.resends) b in
    ap (λ (x : Sender). valid_sender x) (sym k)
    ∙ fresh-valid f (leb-true 1 f (and_left (leb 1 f) (leb f greatest_sent) c)) (leb-true f greatest_sent (and_right (leb 1 f) (leb f greatest_sent) c)))
    (λ (b : valid_settings g ≡ false) (e : None ≡ Some s). not_both cc)
    h

-- runs
pub step-valid : (x : ActOrCrash) (s : Sender) → valid_sender s ≡ true → valid_sender (step_of x s) ≡ true
step-valid (act a) s v = act_valid a s v
step-valid crash s v = crash_valid s v

pub run-valid : (s : Sender) → valid_sender s ≡ true → (xs : List ActOrCrash) → valid_sender (after_of s xs) ≡ true
run-valid s v [] = v
run-valid s v (x ∷ xs) = step-valid x (after_of s xs) (run-valid s v xs)

pub reachable_valid : (f : ℕ) → 1 ≤ f → f ≤ greatest_sent → (xs : List ActOrCrash) → valid_sender (after_of (fresh_sender f) xs) ≡ true
reachable_valid f l m xs = run-valid (fresh_sender f) (fresh-valid f l m) xs
