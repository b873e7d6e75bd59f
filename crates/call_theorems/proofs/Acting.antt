-- Each C function of the sender, called with words that encode a sender, is the act on that sender.
use Rattle.std.specs.Prelude.{Option, Some, None, Result}
use mathlib.Core.Path.{◌≡◌, refl, sym, ap, ◌∙◌, subst}
use mathlib.Core.List.{List, []}
use mathlib.Core.Bool.{Bool, true, false, cond}
use mathlib.Core.Logic.{inl, inr}
use Prim.Native.Nat.{ℕ, ◌≤◌}
use native.Mathlib.Omega.{arith}
use lib.ListN.{length}
use lib.Dec.{leb, eqb}
use borrow.Author.Tests.{le-leb, eqb-true, eqb-false}
use Rattle.lists.specs.Bytes.{over}
use Rattle.lists.specs.Outcome.{called}
use Rattle.settings.specs.Settings.{valid_link_limit}
use Rattle.refusal.specs.Refusal.{number_of, type_of}
use Rattle.refusal.specs.declared.Accepted.{Accepted}
use Rattle.refusal.specs.declared.Refusal.{Refusal}
use Rattle.sender.specs.Sender.{valid_sender, open_of, ended_of, reset_of, timer_of, block_read_of, submit_of}
use Rattle.sender.specs.declared.Sender.{Sender}
use Rattle.numbers.specs.declared.SequenceNumber.{SequenceNumber}
use Rattle.sender.specs.declared.Event.{Event}
use Rattle.sender.specs.declared.Acted.{Acted}
use Rattle.sender_calls.specs.SenderCalls.{sender_words, sender_in, act_words, act_written, sender_call, open_call, ended_call, reset_call, timer_call, block_call, submit_call}
use Rattle.sender_calls.proofs.Laws.{timer_resends, block_resends}
use Rattle.sender_calls.proofs.ReadBack.{words_read}
use Rattle.link.specs.SenderActs.{Act, opened, ended, reset, timer, block, submit, act_of}
use Rattle.link.proofs.Facts.{not_both}
use Rattle.link.proofs.SenderSteps.{Step, refuses, keeps, starts, resends, abandons, shuts, steps}
use Rattle.call_theorems.specs.Verdicts.{passed_on, reader_gives}
use Rattle.call_theorems.proofs.Verdicts.{made_again, sends_the_same}
use Rattle.call_theorems.proofs.Shows.{Behind, behind_length, report_length, Does, done, refused}

-- a refused act leaves the sender and names nothing
step-refused : {r n : ℕ} {s t : Sender} {k : ℕ} {c : Option SequenceNumber} {e : Event} → Step r s n t c k e → leb 1 n ≡ true → (t ≡ s) × (c ≡ None)
step-refused (refuses l) h = (refl, refl)
step-refused (keeps w g j u) h = not_both (sym h)
step-refused (starts g j f) h = not_both (sym h)
step-refused (resends l j) h = not_both (sym h)
step-refused (abandons j l w) h = not_both (sym h)
step-refused (shuts g j) h = not_both (sym h)

module _ (s : Sender) (valid : valid_sender s ≡ true) (st p : List ℕ) (b : Behind (sender_words s) st) (h : 8 ≤ length p) where
  encoded : sender_in st ≡ Some s
  encoded = ap sender_in b.is ∙ words_read s b.rest

  call_is : (f : Sender → Acted) → sender_call f st p ≡ act_written st p (f s)
  call_is f = let l = behind_length b in rw (le-leb 7 (length st) l, le-leb 8 (length p) h, encoded)

  some_number : (n : ℕ) → eqb n 0 ≡ false → leb 1 n ≡ true
  some_number n e = le-leb 1 n (let z : n ≡ 0 → ⊥ = eqb-false n 0 e in omega arith)

  written : (a : Act) → Does s st p (act_of a s) (act_written st p (act_of a s))
  written a = go (eqb (act_of a s).refusal 0) refl
    where
      go : (z : Bool) → eqb (act_of a s).refusal 0 ≡ z → Does s st p (act_of a s) (act_written st p (act_of a s))
      go true z = done (eqb-true (act_of a s).refusal 0 z) (rw z)
      go false z =
          let n = some_number (act_of a s).refusal z in
          let same = step-refused (steps s valid a) n in
          let is : act_written st p (act_of a s) ≡ called (act_of a s).refusal st [] (over p (act_words (act_of a s))) = rw z in
          subst (Does s st p (act_of a s)) (sym is) (refused n refl refl (report_length (act_of a s) st p h) same.0 same.1 (inr refl))

  -- a call that is the act a
  does : (a : Act) (f : Sender → Acted) → f s ≡ act_of a s → Does s st p (act_of a s) (sender_call f st p)
  does a f e = subst (Does s st p (act_of a s)) (sym (call_is f ∙ ap (act_written st p) e)) (written a)

  pub open_does : Does s st p (open_of s) (open_call st p)
  unfolding open_call
  open_does = does opened open_of refl

  pub ended_does : Does s st p (ended_of s) (ended_call st p)
  unfolding ended_call
  ended_does = does ended ended_of refl

  pub reset_does : Does s st p (reset_of s) (reset_call st p)
  unfolding reset_call
  reset_does = does reset reset_of refl

  pub timer_does : (r : ℕ) → r ≤ 99 → Does s st p (timer_of r s) (timer_call r st p)
  timer_does r l =
      subst (Does s st p (timer_of r s)) (sym (timer_resends r st p))
      (subst (λ (z : Bool). Does s st p (timer_of r s) (cond z (sender_call (timer_of r) st p) (called 1 st [] p))) (sym (le-leb r 99 l)) (does (timer r) (timer_of r) refl))

  limit_refused : (limit : ℕ) (d : List ℕ) → valid_link_limit limit ≡ false → leb 1 (submit_of limit s d).refusal ≡ true
  unfolding submit_of
  limit_refused limit d z = rw z

  limit_setting : (limit : ℕ) (d : List ℕ) → valid_link_limit limit ≡ false → (submit_of limit s d).refusal ≡ 1
  unfolding submit_of
  limit_setting limit d z = rw z

  pub submit_does : (limit : ℕ) (d : List ℕ) → Does s st p (submit_of limit s d) (submit_call limit d st p)
  unfolding submit_call
  submit_does limit d = go (valid_link_limit limit) refl
    where
      go : (z : Bool) → valid_link_limit limit ≡ z → Does s st p (submit_of limit s d) (cond z (sender_call (λ (k : Sender). submit_of limit k d) st p) (called 1 st [] p))
      go true z = does (submit limit d) (λ (k : Sender). submit_of limit k d) refl
      go false z = let same = step-refused (steps s valid (submit limit d)) (limit_refused limit d z) in refused (limit_refused limit d z) (sym (limit_setting limit d z)) refl refl same.0 same.1 (inl (limit_setting limit d z))

  pub block_does : (r : ℕ) → r ≤ 99 → (v : Result Accepted Refusal) (d : List ℕ) → reader_gives v ≡ true → Does s st p (block_read_of r s v d) (block_call r (number_of v) (type_of v) d st p)
  block_does r l v d given =
      subst (Does s st p (block_read_of r s v d)) (sym (block_resends r (number_of v) (type_of v) (passed_on v) d st p (made_again v given)))
      (subst (λ (z : Bool). Does s st p (block_read_of r s v d) (cond z (sender_call (λ (k : Sender). block_read_of r k (passed_on v) d) st p) (called 1 st [] p))) (sym (le-leb r 99 l))
      (does (block r v d) (λ (k : Sender). block_read_of r k (passed_on v) d) (sends_the_same r s v d)))
