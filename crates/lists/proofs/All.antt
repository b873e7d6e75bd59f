-- A test of all bytes: one byte more, and parts of a list.
use mathlib.Core.Path.{◌≡◌, refl}
use mathlib.Core.List.{List, [], ◌∷◌, ◌++◌}
use mathlib.Core.Bool.{Bool, true, ◌&&◌, and_assoc, and-true}
use Prim.Native.Nat.{ℕ, zero, suc, ◌+◌, ◌≤◌, ◌<◌}
use lib.ListN.{length, take, drop, get_or}
use Rattle.lists.proofs.Tests.{and_left, and_right}
use Rattle.lists.proofs.Parts.{drop_more, drop_none}
use Rattle.std.specs.List.{list_all}
use Rattle.lists.specs.Bytes.{all}

module _ (test : ℕ → Bool) where
  pub all_more : (s : List ℕ) (i : ℕ) (g : Bool) → i < length s
      → ((g && test (get_or s i 0)) && all test (drop (i + 1) s)) ≡ (g && all test (drop i s))
  all_more s i g h = rw (drop_more s i h) (and_assoc g (test (get_or s i 0)) (all test (drop (i + 1) s)))

  pub all_none : (s : List ℕ) (i : ℕ) (g : Bool) → length s ≤ i → (g && all test (drop i s)) ≡ g
  all_none s i g h = rw (drop_none s i h) (and-true g)

  pub all_append : (a b : List ℕ) → all test a ≡ true → all test b ≡ true → all test (a ++ b) ≡ true
  all_append [] b p q = q
  all_append (x ∷ a) b p q = rw (and_left (test x) (all test a) p, all_append a b (and_right (test x) (all test a) p) q)

  pub all_take : (n : ℕ) (s : List ℕ) → all test s ≡ true → all test (take n s) ≡ true
  all_take zero s e = refl
  all_take (suc n) [] e = refl
  all_take (suc n) (x ∷ xs) e = rw (and_left (test x) (all test xs) e, all_take n xs (and_right (test x) (all test xs) e))

  pub all_drop : (n : ℕ) (s : List ℕ) → all test s ≡ true → all test (drop n s) ≡ true
  all_drop zero s e = e
  all_drop (suc n) [] e = refl
  all_drop (suc n) (x ∷ xs) e = all_drop n xs (and_right (test x) (all test xs) e)

  -- as `all` of an iterator says it
  pub list_all-is : (s : List ℕ) → list_all test s ≡ all test s
  list_all-is [] = refl
  list_all-is (x ∷ xs) = rw (list_all-is xs)
