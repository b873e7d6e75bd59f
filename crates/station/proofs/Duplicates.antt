-- The number just before: there is exactly one for each of 0 to 7.
use mathlib.Core.Path.{◌≡◌, refl, sym, ◌∙◌}
use mathlib.Core.Bool.{Bool, true, false, ◌&&◌}
use Prim.Native.Nat.{ℕ, zero, suc, ◌+◌, ◌≤◌}
use native.Mathlib.Omega.{arith}
use lib.Dec.{leb, eqb}
use borrow.Author.Tests.{leb-false, eqb-true, eqb-false, eq-eqb, ne_eqb}
use Rattle.lists.proofs.Tests.{cond_ind}
use Rattle.station.specs.Station.{next_number, precedes, is_duplicate}
use Rattle.station.specs.Interrupt.{number_before}
use Rattle.station.specs.Retransmission.{OneDuplicate}

-- what holds of 0 after 7, and of n + 1 after any other, holds of the next number
next_ind : (P : ℕ → Type 0) (n : ℕ) → (n ≡ 7 → P 0) → ((n ≡ 7 → ⊥) → P (n + 1)) → P (next_number n)
unfolding next_number
next_ind P n f g = cond_ind P (eqb n 7) 0 (n + 1) (λ h. f (eqb-true n 7 h)) (λ h. g (eqb-false n 7 h))

pub next_differs : (n : ℕ) → next_number n ≡ n → ⊥
next_differs n = next_ind (λ (m : ℕ). m ≡ n → ⊥) n (λ f e. omega (arith, f, e)) (λ f e. omega (arith, e))

pub number_before_lem : (n : ℕ) → number_before (next_number n) ≡ n
unfolding number_before
number_before_lem n =
    next_ind (λ (m : ℕ). number_before m ≡ n) n sym (λ f. rw (ne_eqb (n + 1) 0 (λ e. omega (arith, e))) (omega arith))

-- what comes before a number of 0 to 7 is 0 to 7 itself
pub before_small : (n e : ℕ) → e ≤ 7 → next_number n ≡ e → n ≤ 7
before_small n e h = next_ind (λ (m : ℕ). m ≡ e → n ≤ 7) n (λ f q. omega (arith, f)) (λ f q. omega (arith, h, q))

pub next_one_to_one : (m n : ℕ) → m ≤ 7 → n ≤ 7 → next_number m ≡ next_number n → m ≡ n
next_one_to_one m n h k =
    next_ind (λ (a : ℕ). a ≡ next_number n → m ≡ n) m
    (λ f. next_ind (λ (b : ℕ). 0 ≡ b → m ≡ n) n (λ g e. omega (arith, f, g)) (λ g e. omega (arith, e)))
    (λ f. next_ind (λ (b : ℕ). m + 1 ≡ b → m ≡ n) n (λ g e. omega (arith, e)) (λ g e. omega (arith, e)))

-- ---- the relation
pub next_preceded : (n : ℕ) → precedes n (next_number n) ≡ true
unfolding precedes
next_preceded n = eq-eqb (next_number n) (next_number n) refl

pub precedes_next : (n m : ℕ) → precedes n m ≡ true → next_number n ≡ m
unfolding precedes
precedes_next n m h = eqb-true (next_number n) m h

-- A number is a duplicate exactly if it is at most 7 and the number after it is the expected one.
pub duplicate_exactly : (e n : ℕ) → e ≤ 7 → is_duplicate e n ≡ (leb n 7 && eqb (next_number n) e)
unfolding precedes
duplicate_exactly e n h = go (leb n 7) refl
  where
    go : (v : Bool) → leb n 7 ≡ v → eqb (next_number n) e ≡ (v && eqb (next_number n) e)
    go true p = refl
    go false p =
        ne_eqb (next_number n) e (λ q. let l = leb-false n 7 p in let s = before_small n e h q in omega (arith, l, s))

-- So there is exactly one for each expected number.
one_before : (e m : ℕ) → e ≤ 7 → m ≤ 7 → next_number m ≡ e → OneDuplicate e
one_before e m h k q =
    record {
      number = m;
      small = k;
      duplicate = rw (sym q) (next_preceded m);
      only = λ n d. let f = precedes_next n e d in next_one_to_one n m (before_small n e h f) k (f ∙ sym q);
    }

pub one_duplicate : (e : ℕ) → e ≤ 7 → OneDuplicate e
unfolding next_number
one_duplicate zero h = one_before 0 7 h (omega arith) refl
one_duplicate (suc k) h = one_before (suc k) k h (omega (arith, h)) (next_ind (λ (m : ℕ). m ≡ suc k) k (λ f. absurd (omega (arith, f, h))) (λ f. omega arith))
