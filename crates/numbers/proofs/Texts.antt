-- Bytes compared one by one, from the first on and, with a decimal, from the last on.
use mathlib.Core.Path.{◌≡◌, refl, sym, ◌∙◌}
use mathlib.Core.List.{List, [], ◌∷◌, ◌++◌}
use mathlib.Core.Bool.{Bool, true, false, ◌&&◌, and_assoc, and-true}
use Prim.Native.Nat.{ℕ, suc, ◌/◌, ◌≤◌, ◌<◌}
use native.Mathlib.Decide.{dec_le}
use native.Mathlib.Omega.{arith}
use lib.ListN.{length}
use lib.Dec.{eqb}
use lib.Seq.{take_all}
use Rattle.std.specs.List.{starts_with}
use Rattle.std.proofs.lemmas.Cmp.{nat_list_eq_equiv}
use borrow.Author.Tests.{eq-eqb, ne_eqb}
use Rattle.lists.specs.Bytes.{bytes, same}
use Rattle.lists.proofs.Same.{same_lengths, same-pointwise}
use Rattle.settings.specs.DataBytes.{digit}
use Rattle.numbers.specs.Numbers.{decimal}
use Rattle.numbers.proofs.Laws.{decimal_one, decimal_more, length_least}

-- the last bytes compared first
none_after : (p : Bool) → (p && false) ≡ false
none_after true = refl
none_after false = refl

same_none : (xs : List ℕ) (y : ℕ) → same [] (xs ++ y ∷ []) ≡ false
unfolding same
same_none [] y = refl
same_none (x ∷ xs) y = refl

none_same : (xs : List ℕ) (y : ℕ) → same (xs ++ y ∷ []) [] ≡ false
unfolding same
none_same [] y = refl
none_same (x ∷ xs) y = refl

same_last : (a b : List ℕ) (x y : ℕ) → same (a ++ x ∷ []) (b ++ y ∷ []) ≡ (same a b && eqb x y)
unfolding same
same_last [] [] x y = and-true (eqb x y)
same_last [] (c ∷ cs) x y = rw (same_none cs y) (none_after (eqb x c))
same_last (c ∷ cs) [] x y = rw (none_same cs x) (none_after (eqb c y))
same_last (c ∷ cs) (d ∷ ds) x y = rw (same_last cs ds x y) (sym (and_assoc (eqb c d) (same cs ds) (eqb x y)))

none_left : (s : List ℕ) → eqb (length s) 0 ≡ same s []
unfolding same
none_left [] = refl
none_left (x ∷ xs) = ne_eqb (suc (length xs)) 0 (λ e. omega arith)

pub none_decimal : (s : List ℕ) (n : ℕ) → length s ≡ 0 → false ≡ same s (decimal n)
none_decimal s n h = same_lengths s (decimal n) (λ e. omega (arith, e, length_least n))

-- the last byte, and the last digit
module _ (s r : List ℕ) (x n : ℕ) (cut : r ≡ s ++ x ∷ []) where
  several : 10 ≤ n → same r (decimal n) ≡ (same s (decimal (n / 10)) && eqb x (digit n))
  several m = rw (cut, decimal_more n m) (same_last s (decimal (n / 10)) x (digit n))

  one : n < 10 → same r (decimal n) ≡ (same s [] && eqb x (digit n))
  one m = rw (cut, decimal_one n m) (same_last s [] x (digit n))

  pub digit_differs : (x ≡ digit n → ⊥) → false ≡ same r (decimal n)
  digit_differs d = go (dec_le 10 n)
    where
      go : Dec (10 ≤ n) → false ≡ same r (decimal n)
      go (yes m) = sym (several m ∙ rw (ne_eqb x (digit n) d) (none_after (same s (decimal (n / 10)))))
      go (no m) = sym (one (omega arith) ∙ rw (ne_eqb x (digit n) d) (none_after (same s [])))

  pub digit_left : x ≡ digit n → n < 10 → eqb (length s) 0 ≡ same r (decimal n)
  digit_left e m = sym (one m ∙ rw (eq-eqb x (digit n) e) (and-true (same s [])) ∙ sym (none_left s))

  pub digit-same : x ≡ digit n → 10 ≤ n → same s (decimal (n / 10)) ≡ same r (decimal n)
  digit-same e m = sym (several m ∙ rw (eq-eqb x (digit n) e) (and-true (same s (decimal (n / 10)))))

-- a byte, and a digit
pub ruleset decimal_cases = (digit_differs, digit_left, digit-same, none_decimal)

-- as the code looks at the text of -1
pub minus_one : (s : List ℕ) → length s ≡ 2 → starts_with eqb s (bytes "-1") ≡ same s (bytes "-1")
unfolding same
minus_one s h =
    rw (take_all 2 s (omega arith)) (nat_list_eq_equiv.symm (bytes "-1") s ∙ sym (same-pointwise s (bytes "-1")))

pub minus_other : (s : List ℕ) → (length s ≡ 2 → ⊥) → false ≡ same s (bytes "-1")
minus_other s h = same_lengths s (bytes "-1") h
