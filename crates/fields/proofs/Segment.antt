-- Fields counted on from another field, and the end of the segment seen from a field: so that one pass is enough.
use mathlib.Core.Path.{◌≡◌, refl, sym, ap, ◌∙◌}
use mathlib.Core.List.{List, [], ◌∷◌}
use mathlib.Core.Bool.{Bool, true, false}
use Prim.Native.Nat.{ℕ, zero, suc, ◌+◌, ◌-◌, ◌≤◌}
use native.Mathlib.Omega.{arith}
use native.Mathlib.Nat.{zero-add, suc-add}
use lib.ListN.{length, drop, length-drop}
use lib.Seq.{drop-drop}
use lib.Dec.{eqb}
use borrow.Author.Tests.{ne_eqb, eqb-true}
use Rattle.lists.proofs.Search.{clear_most}
use Rattle.fields.specs.Fields.{field_length, field_start, field_of, segment_length}
use Rattle.fields.proofs.Laws.{field_past, start_most}

module _ (bar : ℕ) where
  -- no CR stands in a field
  field_free : (t : List ℕ) → segment_length t ≡ field_length bar t + segment_length (drop (field_length bar t) t)
  field_free [] = refl
  field_free (x ∷ xs) = go (eqb x bar) (eqb x 0x0D) refl refl (field_free xs)
    where
      go : (p q : Bool) → eqb x bar ≡ p → eqb x 0x0D ≡ q → segment_length xs ≡ field_length bar xs + segment_length (drop (field_length bar xs) xs)
          → segment_length (x ∷ xs) ≡ field_length bar (x ∷ xs) + segment_length (drop (field_length bar (x ∷ xs)) (x ∷ xs))
      go true q e f h = rw e (omega arith)
      go false true e f h = rw (e, f, f)
      go false false e f h = rw (e, f) (omega (arith, h))

  -- at the end of a segment there is no further field
  none_left_lem : (k x : ℕ) (xs : List ℕ) → eqb x bar ≡ false → eqb x 0x0D ≡ true → field_start bar k (x ∷ xs) ≡ 0
  unfolding field_start
  none_left_lem zero x xs e f = refl
  none_left_lem (suc k) x xs e f = rw (e, f)

  none_at_all : (k : ℕ) → field_start bar k [] ≡ 0
  unfolding field_start
  none_at_all zero = refl
  none_at_all (suc k) = refl

  starts_add : (j k : ℕ) (t : List ℕ) → field_start bar (j + k) t ≡ field_start bar j t + field_start bar k (drop (field_start bar j t) t)
  unfolding field_start
  starts_add zero k t = ap (λ (n : ℕ). field_start bar n t) (zero-add k) ∙ sym (zero-add (field_start bar k t))
  starts_add (suc j) k [] = ap (λ (n : ℕ). field_start bar n []) (suc-add j k) ∙ (let z = none_at_all k in omega (arith, z))
  starts_add (suc j) k (x ∷ xs) =
      ap (λ (n : ℕ). field_start bar n (x ∷ xs)) (suc-add j k) ∙ go (eqb x bar) (eqb x 0x0D) refl refl (starts_add j k xs) (starts_add (suc j) k xs)
    where
      go : (p q : Bool) → eqb x bar ≡ p → eqb x 0x0D ≡ q
          → field_start bar (j + k) xs ≡ field_start bar j xs + field_start bar k (drop (field_start bar j xs) xs)
          → field_start bar (suc j + k) xs ≡ field_start bar (suc j) xs + field_start bar k (drop (field_start bar (suc j) xs) xs)
          → field_start bar (suc (j + k)) (x ∷ xs) ≡ field_start bar (suc j) (x ∷ xs) + field_start bar k (drop (field_start bar (suc j) (x ∷ xs)) (x ∷ xs))
      go true q e f g h = rw e (omega (arith, g))
      go false true e f g h = let z = none_left_lem k x xs e f in rw (e, f) (omega (arith, z))
      go false false e f g h = let z = ap (λ (n : ℕ). field_start bar n xs) (sym (suc-add j k)) ∙ h in rw (e, f) (omega (arith, z))

  -- the segment's end, seen from the start of a field and from its end
  module _ (other : bar ≡ 0x0D → ⊥) where
    start_free : (k : ℕ) (t : List ℕ) → segment_length t ≡ field_start bar k t + segment_length (drop (field_start bar k t) t)
    unfolding field_start
    start_free zero t = omega arith
    start_free (suc k) [] = refl
    start_free (suc k) (x ∷ xs) = go (eqb x bar) (eqb x 0x0D) refl refl (start_free k xs) (start_free (suc k) xs)
      where
        go : (p q : Bool) → eqb x bar ≡ p → eqb x 0x0D ≡ q
            → segment_length xs ≡ field_start bar k xs + segment_length (drop (field_start bar k xs) xs)
            → segment_length xs ≡ field_start bar (suc k) xs + segment_length (drop (field_start bar (suc k) xs) xs)
            → segment_length (x ∷ xs) ≡ field_start bar (suc k) (x ∷ xs) + segment_length (drop (field_start bar (suc k) (x ∷ xs)) (x ∷ xs))
        go true q e f g h = rw (e, ne_eqb x 0x0D (λ (z : x ≡ 0x0D). other (sym (eqb-true x bar e) ∙ z))) (omega (arith, g))
        go false true e f g h = rw (e, f, f)
        go false false e f g h = rw (e, f) (omega (arith, h))

    pub segment_end : (m : List ℕ) (from k : ℕ)
        → from + segment_length (drop from m)
        ≡ (field_of bar from k m).start + (field_of bar from k m).length + segment_length (drop ((field_of bar from k m).start + (field_of bar from k m).length) m)
    unfolding field_of
    segment_end m from k =
        let a = field_start bar k (drop from m) in
        let l = field_length bar (drop (from + a) m) in
        let d : drop a (drop from m) ≡ drop (from + a) m = drop-drop a from m in
        let e : drop l (drop (from + a) m) ≡ drop (from + a + l) m = drop-drop l (from + a) m in
        let f : segment_length (drop from m) ≡ a + segment_length (drop (from + a) m) = start_free k (drop from m) ∙ ap (λ (z : List ℕ). a + segment_length z) d in
        let g : segment_length (drop (from + a) m) ≡ l + segment_length (drop (from + a + l) m) =
        field_free (drop (from + a) m) ∙ ap (λ (z : List ℕ). l + segment_length z) e in
        omega (arith, f, g)

  -- a field counted on from the start of another one of the segment
  pub field-add : (m : List ℕ) (from j k : ℕ) → field_of bar (field_of bar from j m).start k m ≡ field_of bar from (j + k) m
  unfolding field_of
  field-add m from j k =
      let a = field_start bar j (drop from m) in
      let d : drop a (drop from m) ≡ drop (from + a) m = drop-drop a from m in
      let h : field_start bar (j + k) (drop from m) ≡ a + field_start bar k (drop (from + a) m) =
      starts_add j k (drop from m) ∙ ap (λ (z : List ℕ). a + field_start bar k z) d in
      let p : from + a + field_start bar k (drop (from + a) m) ≡ from + field_start bar (j + k) (drop from m) = omega (arith, h) in
      ap (λ (z : ℕ). record { start = z; length = field_length bar (drop z m) }) p

  -- or from its end
  pub field_on : (m : List ℕ) (from j k : ℕ)
      → field_of bar ((field_of bar from j m).start + (field_of bar from j m).length) (suc k) m ≡ field_of bar from (j + suc k) m
  unfolding field_of
  field_on m from j k =
      let a = from + field_start bar j (drop from m) in
      let l = field_length bar (drop a m) in
      let d : drop l (drop a m) ≡ drop (a + l) m = drop-drop l a m in
      let h : field_start bar (suc k) (drop a m) ≡ l + field_start bar (suc k) (drop (a + l) m) =
      field_past bar k (drop a m) ∙ ap (λ (z : List ℕ). l + field_start bar (suc k) z) d in
      let p : a + l + field_start bar (suc k) (drop (a + l) m) ≡ a + field_start bar (suc k) (drop a m) = omega (arith, h) in
      ap (λ (z : ℕ). record { start = z; length = field_length bar (drop z m) }) p ∙ field-add m from j (suc k)

  pub field_inside : (m : List ℕ) (from k : ℕ) → from ≤ length m → (field_of bar from k m).start + (field_of bar from k m).length ≤ length m
  unfolding field_of
  field_inside m from k h =
      let a = field_start bar k (drop from m) in
      let b : field_start bar k (drop from m) ≤ length m - from = rw (← length-drop from m) (start_most bar k (drop from m)) in
      let c : field_length bar (drop (from + a) m) ≤ length m - (from + a) = rw (← length-drop (from + a) m) (clear_most bar 0x0D (drop (from + a) m)) in
      omega (arith, b, c)
