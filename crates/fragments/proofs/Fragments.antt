-- The fragments of a message: joined they are the message, all but the last have the size, and none is empty but that of an empty message.
use mathlib.Core.Path.{◌≡◌, refl, sym, ap, ◌∙◌}
use mathlib.Core.List.{List, [], ◌∷◌, ◌++◌}
use mathlib.Core.Bool.{Bool, true, false, cond, true≢false}
use Prim.Native.Nat.{ℕ, zero, suc, ◌+◌, ◌-◌, ◌≤◌, ◌<◌}
use native.Mathlib.Omega.{arith}
use lib.ListN.{length, take, drop, length-drop, take-append-drop}
use lib.Seq.{length-take-le, take_all}
use lib.Dec.{leb}
use borrow.Author.Tests.{leb-true, leb-false, le-leb}
use Rattle.lists.proofs.Tests.{cond_ind}
use Rattle.lists.proofs.Append.{append_none}
use Rattle.fragments.specs.declared.Extent.{Extent}
use Rattle.fragments.specs.Fragments.{Fragment, fragment, divided_in, fragments_of, extent, extent_at, joined, Full, rest, whole, NoneEmpty, none, one}

module _ (size : ℕ) where
  -- one division
  abbrev step : List ℕ → List Fragment → List Fragment
  step m fs = cond (leb (length m) size) (fragment true m ∷ []) (fragment false (take size m) ∷ fs)

  same_step : (m : List ℕ) (fs gs : List Fragment) → (leb (length m) size ≡ false → fs ≡ gs) → step m fs ≡ step m gs
  same_step m fs gs e = go (leb (length m) size) e
    where
      go : (v : Bool) → (v ≡ false → fs ≡ gs)
          → cond v (fragment true m ∷ []) (fragment false (take size m) ∷ fs) ≡ cond v (fragment true m ∷ []) (fragment false (take size m) ∷ gs)
      go true f = refl
      go false f = ap (λ (hs : List Fragment). fragment false (take size m) ∷ hs) (f refl)

  divided_joined : (n : ℕ) (m : List ℕ) → joined (divided_in n size m) ≡ m
  unfolding divided_in joined
  divided_joined zero m = append_none m
  divided_joined (suc n) m =
      cond_ind (λ (fs : List Fragment). joined fs ≡ m) (leb (length m) size) _ _
      (λ h. append_none m)
      (λ h. ap (λ (z : List ℕ). take size m ++ z) (divided_joined n (drop size m)) ∙ take-append-drop size m)

  module _ (positive : 1 ≤ size) where
    -- what is left is shorter
    shorter : (n : ℕ) (m : List ℕ) → length m ≤ suc n → leb (length m) size ≡ false → length (drop size m) ≤ n
    shorter n m h f = let l = leb-false (length m) size f in let d = length-drop size m in omega (arith, positive, h, l, d)

    divided_full : (n : ℕ) (m : List ℕ) → length m ≤ n → Full size (divided_in n size m)
    unfolding divided_in
    divided_full zero m h = rest m (omega (arith, h))
    divided_full (suc n) m h =
        cond_ind (Full size) (leb (length m) size) _ _
        (λ f. rest m (leb-true (length m) size f))
        (λ f. whole (take size m) (divided_in n size (drop size m)) (length-take-le size m (let l = leb-false (length m) size f in omega (arith, l)))
        (divided_full n (drop size m) (shorter n m h f)))

    divided_none_empty : (n : ℕ) (m : List ℕ) → 1 ≤ length m → length m ≤ n → NoneEmpty (divided_in n size m)
    unfolding divided_in
    divided_none_empty zero m k h = absurd (omega (arith, k, h))
    divided_none_empty (suc n) m k h =
        cond_ind NoneEmpty (leb (length m) size) _ _
        (λ f. one (fragment true m) [] k none)
        (λ f. let l = leb-false (length m) size f in
        one (fragment false (take size m)) _ (let t = length-take-le size m (omega (arith, l)) in omega (arith, t, positive))
        (divided_none_empty n (drop size m) (let d = length-drop size m in omega (arith, d, l)) (shorter n m h f)))

    -- how many are allowed does not matter, if they are as many as the bytes
    nothing_left_lem : (n : ℕ) (m : List ℕ) → length m ≤ 0 → divided_in n size m ≡ fragment true m ∷ []
    unfolding divided_in
    nothing_left_lem zero m h = refl
    nothing_left_lem (suc n) m h = rw (le-leb (length m) size (omega (arith, h)))

    enough : (n k : ℕ) (m : List ℕ) → length m ≤ n → length m ≤ k → divided_in n size m ≡ divided_in k size m
    unfolding divided_in
    enough zero k m h i = sym (nothing_left_lem k m h)
    enough (suc n) zero m h i = nothing_left_lem (suc n) m i
    enough (suc n) (suc k) m h i = same_step m _ _ (λ f. enough n k (drop size m) (shorter n m h f) (shorter k m i f))

    -- so the definition without that number
    pub divided : (m : List ℕ) → fragments_of size m ≡ step m (fragments_of size (drop size m))
    unfolding fragments_of divided_in
    divided m =
        enough (length m) (suc (length m)) m (omega arith) (omega arith)
        ∙ same_step m _ _ (λ f. enough (length m) (length (drop size m)) (drop size m) (let d = length-drop size m in omega (arith, d)) (omega arith))

    pub fragments_full : (m : List ℕ) → Full size (fragments_of size m)
    unfolding fragments_of
    fragments_full m = divided_full (length m) m (omega arith)

    pub none_empty : (m : List ℕ) → 1 ≤ length m → NoneEmpty (fragments_of size m)
    unfolding fragments_of
    none_empty m h = divided_none_empty (length m) m h (omega arith)

  pub fragments_joined : (m : List ℕ) → joined (fragments_of size m) ≡ m
  unfolding fragments_of
  fragments_joined m = divided_joined (length m) m

  pub empty_message : fragments_of size [] ≡ fragment true [] ∷ []
  unfolding fragments_of divided_in
  empty_message = refl

-- ---- the part at an offset is the first fragment of what is left there
module _ (m : List ℕ) (size offset : ℕ) where
  pub last_at : (extent_at (length m) size offset).last ≡ leb (length (drop offset m)) size
  unfolding extent_at
  last_at = go (leb (length m - offset) size) refl
    where
      go : (v : Bool) → leb (length m - offset) size ≡ v → (cond v (extent (length m - offset) true) (extent size false)).last ≡ leb (length (drop offset m)) size
      go true h = rw (length-drop offset m) (sym h)
      go false h = rw (length-drop offset m) (sym h)

  pub text_at_last : leb (length (drop offset m)) size ≡ true → take (extent_at (length m) size offset).length (drop offset m) ≡ drop offset m
  unfolding extent_at
  text_at_last h = rw (ap (λ (n : ℕ). leb n size) (sym (length-drop offset m)) ∙ h) (take_all (length m - offset) (drop offset m) (let k = length-drop offset m in omega (arith, k)))

  pub length_at_whole : leb (length (drop offset m)) size ≡ false → (extent_at (length m) size offset).length ≡ size
  unfolding extent_at
  length_at_whole h = rw (ap (λ (n : ℕ). leb n size) (sym (length-drop offset m)) ∙ h)

-- a fragment that is not the last ends before the message's end: the next offset does not wrap
pub ends_before : (n size offset : ℕ) → (extent_at n size offset).last ≡ false → offset + size < n
unfolding extent_at
ends_before n size offset =
    cond_ind (λ (e : Extent). e.last ≡ false → offset + size < n) (leb (n - offset) size) _ _
    (λ h f. absurd (true≢false f))
    (λ h f. let l = leb-false (n - offset) size h in omega (arith, l))
