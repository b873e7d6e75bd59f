-- Laws of searching: what one byte more, or a stretch without a hit, does to the count and to the test.
use mathlib.Core.Path.{◌≡◌, refl, ap, ◌∙◌}
use mathlib.Core.List.{List, [], ◌∷◌}
use mathlib.Core.Bool.{Bool, true, false, cond, not, ◌||◌, true≢false}
use Prim.Native.Nat.{ℕ, zero, suc, ◌+◌, ◌≤◌, ◌<◌}
use native.Mathlib.Decide.{dec_le}
use native.Mathlib.Omega.{arith}
use lib.ListN.{length, take, drop, get_or}
use lib.Seq.{drop-drop}
use lib.Dec.{eqb, ltb}
use borrow.Author.Tests.{eq-eqb, ne_eqb, lt-ltb, le-ltb}
use Rattle.std.specs.Prelude.{unwrap_or, position, Some, None}
use Rattle.std.specs.List.{position_or_len}
use Rattle.std.proofs.lemmas.List.Sums.{prefix_len-le-length}
use Rattle.lists.proofs.Parts.{drop_more, drop_none}
use Rattle.lists.proofs.Tests.{cond_ind}
use Rattle.lists.specs.Bytes.{clear, has_any}

-- the place of the first that passes, or the end where there is none
pub position-is : {A : Type 0} (test : A → Bool) (s : List A) → unwrap_or (position test s) (length s) ≡ position_or_len test s
position-is test s = go (position_or_len test s) (length s) (prefix_len-le-length (λ x. not (test x)) s)
  where
    go : (n m : ℕ) → n ≤ m → unwrap_or (cond (ltb n m) (Some n) None) m ≡ n
    go n m h = by (dec_le m n)
      where
        by : Dec (m ≤ n) → unwrap_or (cond (ltb n m) (Some n) None) m ≡ n
        by (yes l) = rw (le-ltb n m l) (omega arith)
        by (no l) = rw (lt-ltb n m (omega arith))

module _ (a b : ℕ) where
  -- a stretch without a hit is passed whole
  pub clear_window : (n : ℕ) (s : List ℕ) → has_any a b (take n s) ≡ false → n ≤ length s → clear a b s ≡ n + clear a b (drop n s)
  clear_window zero s e l = omega arith
  clear_window (suc n) [] e l = absurd (omega arith)
  clear_window (suc n) (x ∷ xs) e l = go (λ h. clear_window n xs h (omega arith)) (eqb x a || eqb x b) refl
    where
      go : (has_any a b (take n xs) ≡ false → clear a b xs ≡ n + clear a b (drop n xs)) → (q : Bool) → (eqb x a || eqb x b) ≡ q
          → cond q 0 (suc (clear a b xs)) ≡ suc n + clear a b (drop n xs)
      go k true f = absurd (true≢false (rw f at e))
      go k false f = let z = k (rw f at e) in omega (arith, z)

  -- from place i on
  pub pass_window : (n : ℕ) (s : List ℕ) (i : ℕ) → has_any a b (take n (drop i s)) ≡ false → n ≤ length (drop i s)
      → i + n + clear a b (drop (i + n) s) ≡ i + clear a b (drop i s)
  pass_window n s i e l =
      let z : clear a b (drop i s) ≡ n + clear a b (drop (i + n) s) = clear_window n (drop i s) e l ∙ ap (λ (t : List ℕ). n + clear a b t) (drop-drop n i s) in
      omega (arith, z)

  pub pass_one : (s : List ℕ) (i : ℕ) → i < length s → (get_or s i 0 ≡ a → ⊥) → (get_or s i 0 ≡ b → ⊥)
      → i + 1 + clear a b (drop (i + 1) s) ≡ i + clear a b (drop i s)
  pass_one s i l e f =
      let z : clear a b (drop i s) ≡ suc (clear a b (drop (i + 1) s)) = rw (drop_more s i l, ne_eqb _ _ e, ne_eqb _ _ f) in
      omega (arith, z)

  pub stop_first : (s : List ℕ) (i : ℕ) → i < length s → get_or s i 0 ≡ a → i + clear a b (drop i s) ≡ i
  stop_first s i l e = let z : clear a b (drop i s) ≡ 0 = rw (drop_more s i l, eq-eqb _ _ e) in omega (arith, z)

  pub stop_second : (s : List ℕ) (i : ℕ) → i < length s → (get_or s i 0 ≡ a → ⊥) → get_or s i 0 ≡ b → i + clear a b (drop i s) ≡ i
  stop_second s i l e f =
      let z : clear a b (drop i s) ≡ 0 = rw (drop_more s i l, ne_eqb _ _ e, eq-eqb _ _ f) in omega (arith, z)

  pub stop_end : (s : List ℕ) (i : ℕ) → length s ≤ i → i + clear a b (drop i s) ≡ i
  stop_end s i l = let z : clear a b (drop i s) ≡ 0 = rw (drop_none s i l) in omega (arith, z)

  pub clear_most : (s : List ℕ) → clear a b s ≤ length s
  clear_most [] = omega arith
  clear_most (x ∷ xs) =
      let z = clear_most xs in
      cond_ind (λ (n : ℕ). n ≤ suc (length xs)) (eqb x a || eqb x b) _ _ (λ e. omega arith) (λ e. omega (arith, z))

  -- what stands where the search stopped
  pub clear_hit : (s : List ℕ) → clear a b s < length s
      → (eqb (get_or s (clear a b s) 0) a || eqb (get_or s (clear a b s) 0) b) ≡ true
  clear_hit [] = λ l. absurd (omega arith)
  clear_hit (x ∷ xs) =
      cond_ind (λ (n : ℕ). n < suc (length xs) → (eqb (get_or (x ∷ xs) n 0) a || eqb (get_or (x ∷ xs) n 0) b) ≡ true) (eqb x a || eqb x b) _ _
      (λ e l. e) (λ e l. clear_hit xs (omega arith))

  -- neither is before the first of them
  pub clear_free : (s : List ℕ) → has_any a b (take (clear a b s) s) ≡ false
  clear_free [] = refl
  clear_free (x ∷ xs) =
      let ih = clear_free xs in
      cond_ind (λ (n : ℕ). has_any a b (take n (x ∷ xs)) ≡ false) (eqb x a || eqb x b) 0 (suc (clear a b xs)) (λ e. refl) (λ e. rw (e, ih))
