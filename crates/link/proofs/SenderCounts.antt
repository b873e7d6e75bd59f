-- The sends that an answer reports: at most one more than the resends, and as many as the history has.
use Rattle.std.specs.Prelude.{Option, Some, None}
use mathlib.Core.Path.{◌≡◌, refl, sym, ap, ◌∙◌}
use mathlib.Core.List.{List, [], ◌∷◌}
use mathlib.Core.Bool.{Bool, true, false, cond}
use Prim.Native.Nat.{ℕ, ◌+◌, ◌≤◌}
use native.Mathlib.Omega.{arith}
use lib.Dec.{leb}
use borrow.Author.Tests.{leb-true, eq-eqb}
use Rattle.lists.proofs.Tests.{and_left, and_right}
use Rattle.numbers.specs.Numbers.{greatest_sent}
use Rattle.numbers.specs.declared.SequenceNumber.{SequenceNumber}
use Rattle.numbers.specs.declared.SequenceNumber.TheVariants.{MinusOne, Number}
use Rattle.sender.specs.Sender.{valid_sender, fresh_sender, first_sends, waiting_message, waits_of}
use Rattle.sender.specs.declared.Persisted.{Persisted}
use Rattle.sender.specs.declared.Waiting.{Waiting}
use Rattle.sender.specs.declared.Waiting.TheVariants.{Closed, Idle, Resynchronizing, Querying, Sending}
use Rattle.sender.specs.declared.Sender.{Sender}
use Rattle.sender.specs.declared.Event.{Event}
use Rattle.sender.specs.declared.Acted.{Acted}
use Rattle.link.specs.SenderActs.{Act, act_of, resends_of, ActOrCrash, act, crash, after_of, within}
use Rattle.link.specs.SenderHistory.{Entry, reported, history_of, is, counted, counted_of, is_abandoned, sends_to_report}
use Rattle.link.proofs.Facts.{not_both}
use Rattle.link.proofs.SenderValid.{WaitsRight, Right, right_from}
use Rattle.link.proofs.SenderSteps.{Step, StepOf, refuses, keeps, starts, resends, abandons, shuts, steps}
use Rattle.link.proofs.SenderInvariant.{step_right, reachable_valid}

-- ---- at most r + 1
first_few : (m : Option SequenceNumber) → first_sends m ≤ 1
first_few None = omega arith
first_few (Some v) = omega arith

pub record Few (r n k : ℕ) : Type 0 where
  pub after : n ≤ r + 1
  pub reported : k ≤ r + 1

pub few_step : {q n : ℕ} {s t : Sender} {k : ℕ} {m : Option SequenceNumber} {e : Event} (r : ℕ) → q ≤ r → s.sends ≤ r + 1 → Step q s n t m k e → Few r t.sends k
few_step r l b (refuses h) = record { after = b; reported = b }
few_step r l b (keeps w g j u) = record { after = b; reported = b }
few_step r l b (starts {p = p} {w = w} g j f) = let o = first_few (waiting_message p w) in record { after = omega arith; reported = omega arith }
few_step r l b (resends h j) = record { after = omega arith; reported = omega arith }
few_step r l b (abandons j h w) = record { after = omega arith; reported = b }
few_step r l b (shuts g j) = record { after = omega arith; reported = omega arith }

module _ (f : ℕ) (least : 1 ≤ f) (most : f ≤ greatest_sent) (r : ℕ) where
  pub few_after : (xs : List ActOrCrash) → within r xs ≡ true → (after_of (fresh_sender f) xs).sends ≤ r + 1
  few_after [] h = omega arith
  few_after (act a ∷ xs) h =
      (few_step r (leb-true (resends_of a) r (and_left (leb (resends_of a) r) (within r xs) h)) (few_after xs (and_right (leb (resends_of a) r) (within r xs) h))
      (steps (after_of (fresh_sender f) xs) (reachable_valid f least most xs) a)
      ).after
  few_after (crash ∷ xs) h = omega arith

  pub few_sends : (xs : List ActOrCrash) → within r xs ≡ true → (a : Act) → resends_of a ≤ r → (act_of a (after_of (fresh_sender f) xs)).sends ≤ r + 1
  few_sends xs h a l = (few_step r l (few_after xs h) (steps (after_of (fresh_sender f) xs) (reachable_valid f least most xs) a)).reported

-- "while fewer than r + 1 sends were made of it, and otherwise gives up"
pub up_step : {r n : ℕ} {s t : Sender} {k : ℕ} {m : Option SequenceNumber} {e : Event} → Step r s n t m k e → is_abandoned e ≡ true → r + 1 ≤ k
up_step (refuses h) u = not_both cc
up_step (keeps w g j v) u = not_both cc
up_step (starts g j f) u = not_both cc
up_step (resends h j) u = not_both cc
up_step (abandons j h w) u = h
up_step (shuts g j) u = not_both cc

pub abandons_late : (a : Act) (s : Sender) → valid_sender s ≡ true → is_abandoned (act_of a s).event ≡ true → resends_of a + 1 ≤ (act_of a s).sends
abandons_late a s v u = up_step (steps s v a) u

-- ---- as many as the history has
-- the history's count of each message: of the one that waits it is the state's number, of others 0
abbrev pub Counts : Sender → List Entry → Type 0
Counts s h = (m : SequenceNumber) → counted m h ≡ cond (is m (waits_of s)) s.sends 0

same_count : (b c : Bool) (x y : ℕ) → b ≡ c → x ≡ cond c y 0 → cond b (0 + x) 0 ≡ cond b y 0
same_count true true x y e h = omega arith
same_count true false x y e h = not_both cc
same_count false c x y e h = refl

first_count : (b c : Bool) (x y n : ℕ) → (b ≡ true → c ≡ false) → (b ≡ true → n ≡ 1) → x ≡ cond c y 0 → cond b (cond b 1 0 + x) 0 ≡ cond b n 0
first_count false c x y n f g h = refl
first_count true false x y n f g h = let o = g refl in omega arith
first_count true true x y n f g h = let d = f refl in not_both cc

more_count : (b : Bool) (x y : ℕ) → x ≡ cond b y 0 → cond b (cond b 1 0 + x) 0 ≡ cond b (y + 1) 0
more_count false x y h = refl
more_count true x y h = omega arith

first_one : (k : Option SequenceNumber) (m : SequenceNumber) → is m k ≡ true → first_sends k ≡ 1
first_one None m e = not_both cc
first_one (Some v) m e = refl

pub counts_step : {r n : ℕ} {s t : Sender} {k : ℕ} {c : Option SequenceNumber} {e : Event} (h : List Entry) → Counts s h → Step r s n t c k e → (m : SequenceNumber)
    → cond (is m (waits_of t)) (cond (is m c) 1 0 + counted m h) 0 ≡ cond (is m (waits_of t)) t.sends 0
counts_step {s = s} h i (refuses l) m = same_count (is m (waits_of s)) (is m (waits_of s)) (counted m h) s.sends refl (i m)
counts_step {s = s} h i (keeps {p = p} {w = w} e g j u) m =
    same_count (is m (waiting_message p w)) (is m (waits_of s)) (counted m h) s.sends
    (ap (λ (z : Option SequenceNumber). is m z) u ∙ sym (ap (λ (z : Waiting). is m (waiting_message s.persisted z)) e)) (i m)
counts_step {s = s} h i (starts {p = p} {w = w} g j f) m =
    first_count (is m (waiting_message p w)) (is m (waits_of s)) (counted m h) s.sends (first_sends (waiting_message p w)) (f m)
    (first_one (waiting_message p w) m) (i m)
counts_step {s = s} h i (resends l j) m =
    more_count (is m (waits_of s)) (counted m h) s.sends (i m)
counts_step h i (abandons j l w) m = refl
counts_step h i (shuts g j) m = refl

-- the number in an answer is that of the state after it, or when giving up that of the state before
data Reported (n m k : ℕ) (e : Event) : Type 0 where
  reported_after : is_abandoned e ≡ false → k ≡ m → Reported n m k e
  reported_before : is_abandoned e ≡ true → k ≡ n → Reported n m k e

reports : {r n : ℕ} {s t : Sender} {k : ℕ} {c : Option SequenceNumber} {e : Event} → Step r s n t c k e → Reported s.sends t.sends k e
reports (refuses l) = reported_after refl refl
reports (keeps w g j u) = reported_after g refl
reports (starts g j f) = reported_after g refl
reports (resends l j) = reported_after refl refl
reports (abandons j l w) = reported_before refl refl
reports (shuts g j) = reported_after g refl

-- the state's number is the history's count of what waits
pub count_is : (p : Persisted) (w : Waiting) (n : ℕ) (h : List Entry) → WaitsRight p w n → ((m : SequenceNumber) → counted m h ≡ cond (is m (waiting_message p w)) n 0)
    → n ≡ counted_of (waiting_message p w) h
count_is p Closed n h i c = i
count_is p Idle n h i c = i.1.none
count_is p Resynchronizing n h i c = sym (c MinusOne)
count_is p Querying n h i c = sym (c (Number 0))
count_is p Sending n h i c =
    sym (c (Number (p.delivered + 1)) ∙ ap (λ (b : Bool). cond b n 0) (eq-eqb (p.delivered + 1) (p.delivered + 1) refl))

module _ (s : Sender) (h : List Entry) (b : Acted) (v : Right s.persisted s.waiting s.sends) (c : Counts s h) where
  reported_by : Right b.sender.persisted b.sender.waiting b.sender.sends → Counts b.sender (reported b ∷ h)
      → Reported s.sends b.sender.sends b.sends b.event → b.sends ≡ sends_to_report s h b
  reported_by u d (reported_after g e) =
      e ∙ count_is b.sender.persisted b.sender.waiting b.sender.sends (reported b ∷ h) u.waits d
      ∙ sym (ap (λ (z : Bool). cond z (counted_of (waits_of s) h) (counted_of (waits_of b.sender) (reported b ∷ h))) g)
  reported_by u d (reported_before g e) =
      e ∙ count_is s.persisted s.waiting s.sends h v.waits c
      ∙ sym (ap (λ (z : Bool). cond z (counted_of (waits_of s) h) (counted_of (waits_of b.sender) (reported b ∷ h))) g)

  pub reported_right : (r : ℕ) → StepOf r s b → b.sends ≡ sends_to_report s h b
  reported_right r t = reported_by (step_right v t) (counts_step h c t) (reports t)

module _ (f : ℕ) (least : 1 ≤ f) (most : f ≤ greatest_sent) where
  counts : (xs : List ActOrCrash) → Counts (after_of (fresh_sender f) xs) (history_of (fresh_sender f) xs)
  counts [] m = refl
  counts (act a ∷ xs) m =
      counts_step (history_of (fresh_sender f) xs) (counts xs) (steps (after_of (fresh_sender f) xs) (reachable_valid f least most xs) a) m
  counts (crash ∷ xs) m = refl

  -- "The sends made of the waiting message are a number in each answer, equal to the sends in the history since it began to wait on this circuit."
  pub sends_reported : (xs : List ActOrCrash) (a : Act)
      → (act_of a (after_of (fresh_sender f) xs)).sends
      ≡ sends_to_report (after_of (fresh_sender f) xs) (history_of (fresh_sender f) xs) (act_of a (after_of (fresh_sender f) xs))
  sends_reported xs a =
      let v = reachable_valid f least most xs in
      reported_right (after_of (fresh_sender f) xs) (history_of (fresh_sender f) xs) (act_of a (after_of (fresh_sender f) xs)) (right_from (after_of (fresh_sender f) xs) v) (counts xs)
      (resends_of a) (steps (after_of (fresh_sender f) xs) v a)
