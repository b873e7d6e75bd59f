-- The numbers of blocks: the master counts as the slave does.
use mathlib.Core.Path.{◌≡◌, refl, sym, ap, ◌∙◌}
use mathlib.Core.List.{List, [], ◌∷◌}
use mathlib.Core.Bool.{true}
use Prim.Native.Nat.{ℕ, suc, ◌+◌, ◌%◌, ◌≤◌}
use native.Mathlib.Omega.{arith}
use lib.ListN.{length}
use lib.Dec.{eqb}
use borrow.Author.Tests.{eqb-true, eqb-false}
use Rattle.lists.proofs.Tests.{cond_ind}
use Rattle.station.specs.Station.{next_number, precedes}
use Rattle.station.specs.History.{Block, expected_after}
use Rattle.station.proofs.Texts.{goes_round}
use Rattle.station.proofs.Duplicates.{next_differs, before_small, next_one_to_one, precedes_next}
use Rattle.master.specs.Master.{block_number}

counted_round : (n : ℕ) → next_number (n % 8) ≡ suc n % 8
unfolding next_number
counted_round n =
    cond_ind (λ (z : ℕ). z ≡ suc n % 8) (eqb (n % 8) 7) 0 (n % 8 + 1)
    (λ h. let e = eqb-true (n % 8) 7 h in omega (arith, e))
    (λ h. let e = eqb-false (n % 8) 7 h in omega (arith, e))

pub block_number_next : (n : ℕ) → block_number (suc n) ≡ next_number (block_number n)
unfolding block_number
block_number_next n = ap next_number (sym (counted_round n))

-- after n blocks the slave expects the number of the master's next one
pub expected_number_lem : (bs : List Block) → expected_after bs ≡ block_number (length bs)
unfolding expected_after block_number next_number
expected_number_lem [] = refl
expected_number_lem (b ∷ bs) = ap next_number (expected_number_lem bs) ∙ sym (block_number_next (length bs))

pub expected_small : (bs : List Block) → expected_after bs ≤ 7
expected_small bs = (goes_round bs).most

-- no number is the one just before itself
pub not_itself : (n m : ℕ) → precedes n m ≡ true → n ≡ m → ⊥
not_itself n m p e = next_differs n (precedes_next n m p ∙ sym e)

-- the number just before the next one is the number itself
pub before_next : (n m : ℕ) → m ≤ 7 → next_number m ≤ 7 → precedes n (next_number m) ≡ true → n ≡ m
before_next n m h k p = let e = precedes_next n (next_number m) p in next_one_to_one n m (before_small n (next_number m) k e) h e
