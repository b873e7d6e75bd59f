-- 02, §3: "a message cut into blocks at a given size, ETB on all but the last"; "an empty message goes as one empty block". §10 divides the same way.
use Rattle.std.specs.Prelude.{◌≡◌, List, [], ◌∷◌, ◌++◌, Bool, true, false, cond, ℕ, zero, suc, ◌-◌, ◌≤◌, length, take, drop, leb}
use Rattle.fragments.specs.declared.Extent.{Extent}

-- a part of a message, and whether it is the last one
pub record Fragment : Type 0 where
  pub last : Bool
  pub text : List ℕ

abbrev pub fragment : Bool → List ℕ → Fragment
fragment l t = record { last = l; text = t }

-- what fits the size is the last part; else the first `size` bytes, and the parts of the rest. There are not more parts than n and one.
unfoldable pub divided_in : ℕ → ℕ → List ℕ → List Fragment
divided_in zero size m = fragment true m ∷ []
divided_in (suc n) size m =
    cond (leb (length m) size) (fragment true m ∷ []) (fragment false (take size m) ∷ divided_in n size (drop size m))

-- a message has not more parts than bytes, an empty one has one
unfoldable pub fragments_of : ℕ → List ℕ → List Fragment
fragments_of size m = divided_in (length m) size m

-- how long the part is that begins at this offset, and whether it is the last: what is answered in place of its bytes
abbrev pub extent : ℕ → Bool → Extent
extent n l = record { length = n; last = l }

unfoldable pub extent_at : ℕ → ℕ → ℕ → Extent
extent_at n size offset = cond (leb (n - offset) size) (extent (n - offset) true) (extent size false)

-- ---- what the parts are
unfoldable pub joined : List Fragment → List ℕ
joined [] = []
joined (f ∷ fs) = f.text ++ joined fs

-- each has at most `size` bytes; all but the last have `size` bytes, and the last, and no other, is called the last
pub data Full (size : ℕ) : List Fragment → Type 0 where
  rest : (t : List ℕ) → length t ≤ size → Full size (fragment true t ∷ [])
  whole : (t : List ℕ) (fs : List Fragment) → length t ≡ size → Full size fs → Full size (fragment false t ∷ fs)

-- no part is empty but that of an empty message
pub data NoneEmpty : List Fragment → Type 0 where
  none : NoneEmpty []
  one : (f : Fragment) (fs : List Fragment) → 1 ≤ length f.text → NoneEmpty fs → NoneEmpty (f ∷ fs)
