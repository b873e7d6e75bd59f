-- What is joined reads back: field k of a segment is the k-th of the fields that it was made of, and empty where there is none.
use mathlib.Core.Path.{◌≡◌, refl, sym, ap, ◌∙◌}
use mathlib.Core.List.{List, [], ◌∷◌, ◌++◌, append_assoc}
use mathlib.Core.Bool.{true, false, ◌||◌, or-true}
use Prim.Native.Nat.{ℕ, zero, suc, ◌+◌}
use native.Mathlib.Omega.{arith}
use native.Mathlib.Nat.{zero-add}
use lib.ListN.{length, take, drop, get_or}
use lib.Seq.{drop-append-add, drop-append_seam, drop-drop, take-append_seam}
use lib.Dec.{eqb}
use borrow.Author.Tests.{eq-eqb, ne_eqb}
use Rattle.fields.specs.Fields.{field_length, field_start, field_of, bytes_of}
use Rattle.fields.specs.Joined.{field, joined_fields}

-- bytes that can stand in a field: neither bar nor CR
pub data Free (bar : ℕ) : List ℕ → Type 0 where
  none : Free bar []
  more : {x : ℕ} {xs : List ℕ} → eqb x bar ≡ false → eqb x 0x0D ≡ false → Free bar xs → Free bar (x ∷ xs)

pub data Each (bar : ℕ) : List (List ℕ) → Type 0 where
  none : Each bar []
  more : {f : List ℕ} {fs : List (List ℕ)} → Free bar f → Each bar fs → Each bar (f ∷ fs)

module _ (bar : ℕ) where
  field_is : (k : ℕ) (s : List ℕ) → field bar k s ≡ take (field_length bar (drop (field_start bar k s) s)) (drop (field_start bar k s) s)
  unfolding field bytes_of field_of
  field_is k s = rw (zero-add (field_start bar k s))

  -- a field is read up to the bar or CR after it
  upto : (f : List ℕ) (x : ℕ) (r : List ℕ) → Free bar f → (eqb x bar || eqb x 0x0D) ≡ true → field_length bar (f ++ x ∷ r) ≡ length f
  upto [] x r none e = rw e
  upto (y ∷ ys) x r (more a b h) e = rw (a, b) (ap suc (upto ys x r h e))

  -- the first field
  first : (f : List ℕ) (x : ℕ) (r : List ℕ) → Free bar f → (eqb x bar || eqb x 0x0D) ≡ true → field bar 0 (f ++ x ∷ r) ≡ f
  unfolding field_start
  first f x r h e = field_is 0 (f ++ x ∷ r) ∙ rw (upto f x r h e, take-append_seam f (x ∷ r))

  -- the fields after it
  past : (k : ℕ) (f s : List ℕ) → Free bar f → field_start bar (suc k) (f ++ s) ≡ length f + field_start bar (suc k) s
  unfolding field_start
  past k [] s none = omega arith
  past k (x ∷ xs) s (more a b h) = let z = past k xs s h in rw (a, b) (omega (arith, z))

  next : (k : ℕ) (f r : List ℕ) → Free bar f → field bar (suc k) (f ++ bar ∷ r) ≡ field bar k r
  unfolding field_start
  next k f r h =
      let e : field_start bar (suc k) (f ++ bar ∷ r) ≡ length f + suc (field_start bar k r) = past k f (bar ∷ r) h ∙ rw (eq-eqb bar bar refl) in
      let d : drop (length f + suc (field_start bar k r)) (f ++ bar ∷ r) ≡ drop (field_start bar k r) r = drop-append-add f (bar ∷ r) (suc (field_start bar k r)) in
      field_is (suc k) (f ++ bar ∷ r) ∙ rw (e, d) (sym (field_is k r))

  missing : (bar ≡ 0x0D → ⊥) → (k : ℕ) (f r : List ℕ) → Free bar f → field bar (suc k) (f ++ 0x0D ∷ r) ≡ []
  unfolding field_start
  missing o k f r h =
      let z : field_start bar (suc k) (0x0D ∷ r) ≡ 0 = rw (ne_eqb 0x0D bar (λ (e : ◌≡◌ {A = ℕ} 0x0D bar). o (sym e))) in
      let e : field_start bar (suc k) (f ++ 0x0D ∷ r) ≡ length f = let p = past k f (0x0D ∷ r) h in omega (arith, p, z) in
      let d : drop (length f) (f ++ 0x0D ∷ r) ≡ 0x0D ∷ r = drop-append_seam f (0x0D ∷ r) in
      field_is (suc k) (f ++ 0x0D ∷ r) ∙ rw (e, d, or-true (eqb 0x0D bar))

  pub reads_back : (bar ≡ 0x0D → ⊥) → (k : ℕ) (f : List ℕ) (fs : List (List ℕ)) (r : List ℕ) → Each bar (f ∷ fs)
      → field bar k (joined_fields bar f fs ++ 0x0D ∷ r) ≡ get_or (f ∷ fs) k []
  reads_back o zero f [] r (more h none) = first f 0x0D r h (or-true (eqb 0x0D bar))
  reads_back o zero f (g ∷ gs) r (more h t) =
      ap (λ (z : List ℕ). field bar 0 z) (append_assoc f (bar ∷ joined_fields bar g gs) (0x0D ∷ r))
      ∙ first f bar (joined_fields bar g gs ++ 0x0D ∷ r) h (rw (eq-eqb bar bar refl))
  reads_back o (suc k) f [] r (more h none) = missing o k f r h
  reads_back o (suc k) f (g ∷ gs) r (more h t) =
      ap (λ (z : List ℕ). field bar (suc k) z) (append_assoc f (bar ∷ joined_fields bar g gs) (0x0D ∷ r))
      ∙ next k f (joined_fields bar g gs ++ 0x0D ∷ r) h ∙ reads_back o k g gs r t

  -- the bytes of a field that was found
  pub bytes_are : (m : List ℕ) (from k : ℕ) → bytes_of (field_of bar from k m) m ≡ field bar k (drop from m)
  unfolding bytes_of field_of
  bytes_are m from k = sym (field_is k (drop from m) ∙ rw (drop-drop (field_start bar k (drop from m)) from m))
