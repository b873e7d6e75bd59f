-- Where fields stand, one bar after the other.
use mathlib.Core.Path.{◌≡◌, refl, sym, ap, ◌∙◌}
use mathlib.Core.List.{List, [], ◌∷◌}
use mathlib.Core.Bool.{Bool, true, false, ◌||◌}
use Prim.Native.Nat.{ℕ, zero, suc, ◌+◌, ◌-◌, ◌≤◌, ◌<◌}
use native.Mathlib.Omega.{arith}
use lib.ListN.{length, drop, get_or, length-drop}
use lib.Seq.{get_or-drop, drop-drop}
use lib.Dec.{eqb}
use borrow.Author.Tests.{eq-eqb, ne_eqb}
use Rattle.lists.proofs.Tests.{or_left, or_right, cond_ind}
use Rattle.lists.proofs.Parts.{drop_more, drop_none}
use Rattle.lists.proofs.Search.{clear_hit}
use Rattle.fields.specs.Fields.{bar, field_length, field_start, field_of}
use Rattle.fields.specs.declared.Field.{Field}

pub bar_no_return : bar ≡ 0x0D → ⊥
bar_no_return e = absurd (omega (arith, e))

module _ (bar : ℕ) where
  -- no bar stands in a field
  pub field_past : (k : ℕ) (t : List ℕ) → field_start bar (suc k) t ≡ field_length bar t + field_start bar (suc k) (drop (field_length bar t) t)
  unfolding field_start
  field_past k [] = refl
  field_past k (x ∷ xs) = go (eqb x bar || eqb x 0x0D) refl (field_past k xs)
    where
      go : (b : Bool) → (eqb x bar || eqb x 0x0D) ≡ b → field_start bar (suc k) xs ≡ field_length bar xs + field_start bar (suc k) (drop (field_length bar xs) xs)
          → field_start bar (suc k) (x ∷ xs) ≡ field_length bar (x ∷ xs) + field_start bar (suc k) (drop (field_length bar (x ∷ xs)) (x ∷ xs))
      go true e i = rw e (omega arith)
      go false e i = rw (or_left (eqb x bar) (eqb x 0x0D) e, or_right (eqb x bar) (eqb x 0x0D) e) (omega (arith, i))

  -- the field at i ends at e: in a bar, or not
  module _ (s : List ℕ) (i e : ℕ) (h : e ≡ i + field_length bar (drop i s)) where
    past : (k : ℕ) → i + field_start bar (suc k) (drop i s) ≡ e + field_start bar (suc k) (drop e s)
    past k =
        let d : drop (field_length bar (drop i s)) (drop i s) ≡ drop e s = drop-drop (field_length bar (drop i s)) i s ∙ ap (λ (z : ℕ). drop z s) (sym h) in
        let f = field_past k (drop i s) ∙ ap (λ (z : List ℕ). field_length bar (drop i s) + field_start bar (suc k) z) d in
        omega (arith, f, h)

    -- what ends a field in a message is a bar or CR
    pub ends_in_return : e < length s → (get_or s e 0 ≡ bar → ⊥) → eqb (get_or s e 0) 0x0D ≡ true
    ends_in_return l n =
        let b : get_or (drop i s) (field_length bar (drop i s)) 0 ≡ get_or s e 0 = get_or-drop i s (field_length bar (drop i s)) 0 ∙ ap (λ (z : ℕ). get_or s z 0) (sym h) in
        rw (b, ne_eqb (get_or s e 0) bar n) at (clear_hit bar 0x0D (drop i s) (simp length-drop (omega (arith, h))))

    pub at_end : (left : ℕ) → 0 < left → length s ≤ e → e ≡ i + field_start bar left (drop i s)
    unfolding field_start
    at_end zero p l = absurd (omega arith)
    at_end (suc k) p l = let z : field_start bar (suc k) (drop e s) ≡ 0 = rw (drop_none s e l) in omega (arith, past k, z)

    pub at_other : (left : ℕ) → 0 < left → e < length s → (get_or s e 0 ≡ bar → ⊥) → e ≡ i + field_start bar left (drop i s)
    unfolding field_start
    at_other zero p l n = absurd (omega arith)
    at_other (suc k) p l n =
        let z : field_start bar (suc k) (drop e s) ≡ 0 = rw (drop_more s e l, ne_eqb (get_or s e 0) bar n, ends_in_return l n) in
        omega (arith, past k, z)

    pub at_bar : (left : ℕ) → 0 < left → e < length s → get_or s e 0 ≡ bar
        → e + 1 + field_start bar (left - 1) (drop (e + 1) s) ≡ i + field_start bar left (drop i s)
    unfolding field_start
    at_bar zero p l n = absurd (omega arith)
    at_bar (suc k) p l n =
        let z : field_start bar (suc k) (drop e s) ≡ suc (field_start bar k (drop (e + 1) s)) = rw (drop_more s e l, eq-eqb (get_or s e 0) bar n) in
        let r : suc k - 1 ≡ k = omega arith in
        rw r (omega (arith, past k, z))

  pub at_last : (t : List ℕ) (i left : ℕ) → left ≤ 0 → i ≡ i + field_start bar left t
  unfolding field_start
  at_last t i zero p = omega arith
  at_last t i (suc k) p = absurd (omega arith)

  pub found : (m : List ℕ) (from k a e : ℕ) → a ≡ from + field_start bar k (drop from m) → e ≡ a + field_length bar (drop a m)
      → ◌≡◌ {A = Field} (record { start = a; length = e - a }) (field_of bar from k m)
  unfolding field_of
  found m from k a e h l =
      let n : e - a ≡ field_length bar (drop a m) = omega (arith, l) in
      let p : field_length bar (drop a m) ≡ field_length bar (drop (from + field_start bar k (drop from m)) m) = ap (λ (z : ℕ). field_length bar (drop z m)) h in
      ap (λ (z : ℕ). record { start = a; length = z }) (n ∙ p)
      ∙ ap (λ (z : ℕ). record { start = z; length = field_length bar (drop (from + field_start bar k (drop from m)) m) }) h

  -- a field that is found lies in the message
  pub start_most : (k : ℕ) (t : List ℕ) → field_start bar k t ≤ length t
  unfolding field_start
  start_most zero t = omega arith
  start_most (suc k) [] = omega arith
  start_most (suc k) (x ∷ xs) =
      let a = start_most k xs in
      let b = start_most (suc k) xs in
      cond_ind (λ (z : ℕ). z ≤ suc (length xs)) (eqb x bar) _ _ (λ e. omega (arith, a))
      (λ e. cond_ind (λ (z : ℕ). z ≤ suc (length xs)) (eqb x 0x0D) _ _ (λ f. omega arith) (λ f. omega (arith, b)))
