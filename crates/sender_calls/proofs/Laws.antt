-- An act on a sender's words goes by the resends alone of its settings.
use Rattle.std.specs.Prelude.{Option, Some, None, Result}
use mathlib.Core.Path.{◌≡◌, refl, ap}
use mathlib.Core.List.{List, []}
use mathlib.Core.Bool.{Bool, true, false}
use Prim.Native.Nat.{ℕ}
use lib.ListN.{length}
use Rattle.lists.specs.Outcome.{need, called}
use Rattle.refusal.specs.declared.Accepted.{Accepted}
use Rattle.refusal.specs.declared.Refusal.{Refusal}
use Rattle.words.specs.Words.{verdict_from}
use Rattle.sender.specs.Sender.{valid_resends, timer_of, block_read_of, timer_act_of, block_act_of}
use Rattle.sender.specs.declared.Sender.{Sender}
use Rattle.sender.specs.declared.Acted.{Acted}
use Rattle.sender_calls.specs.SenderCalls.{sender_in, act_written, enough_words, act_on, sender_call}
use Rattle.sender_calls.specs.SenderCalls.{resends_only, timer_with, timer_call, block_with, block_call}

-- the first number that an act's settings have counts for nothing: 1 is said of the resends, and the act is that of the resends
module _ (f g : Sender → Acted) (same-act : (s : Sender) → f s ≡ g s) (st p : List ℕ) where
  on_same : (d : Option Sender) → act_on d f st p ≡ act_on d g st p
  on_same None = refl
  on_same (Some s) = ap (act_written st p) (same-act s)

  same_call : sender_call f st p ≡ sender_call g st p
  same_call = ap (need (enough_words (length st) (length p)) (called 2 st [] p)) (on_same (sender_in st))

pub timer_resends : (r : ℕ) (st p : List ℕ) → timer_call r st p ≡ need (valid_resends r) (called 1 st [] p) (sender_call (timer_of r) st p)
unfolding timer_call timer_act_of
timer_resends r st p = go (valid_resends r) refl
  where
    go : (t : Bool) → valid_resends r ≡ t → timer_with (resends_only r) st p ≡ need (valid_resends r) (called 1 st [] p) (sender_call (timer_of r) st p)
    go true e = rw e (same_call _ _ (λ (s : Sender). rw e) st p)
    go false e = rw e

pub block_resends : (r n t : ℕ) (v : Result Accepted Refusal) (d st p : List ℕ) → verdict_from n t ≡ Some v
    → block_call r n t d st p ≡ need (valid_resends r) (called 1 st [] p) (sender_call (λ (s : Sender). block_read_of r s v d) st p)
unfolding block_call block_act_of
block_resends r n t v d st p k = go (valid_resends r) refl
  where
    go : (f : Bool) → valid_resends r ≡ f
        → block_with (resends_only r) (verdict_from n t) d st p ≡ need (valid_resends r) (called 1 st [] p) (sender_call (λ (s : Sender). block_read_of r s v d) st p)
    go true e = rw (k, e) (same_call _ _ (λ (s : Sender). rw e) st p)
    go false e = rw (k, e)
