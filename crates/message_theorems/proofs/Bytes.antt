-- Bytes that can stand in a field, and allowed bytes: of joined fields, and of parts of a list.
use mathlib.Core.Path.{◌≡◌}
use mathlib.Core.List.{List, [], ◌∷◌, ◌++◌}
use mathlib.Core.Bool.{Bool, true, false, ◌&&◌, ◌||◌}
use Prim.Native.Nat.{ℕ}
use lib.Dec.{eqb}
use Rattle.lists.specs.Bytes.{has_any}
use Rattle.lists.proofs.All.{all_append}
use Rattle.lists.proofs.Tests.{and_left, and_right, or_left, or_right}
use Rattle.settings.specs.Settings.{allowed}
use Rattle.settings.specs.DataBytes.{all_allowed}
use Rattle.fields.specs.Fields.{bar}
use Rattle.fields.specs.Joined.{joined_fields}
use Rattle.fields.proofs.Joined.{Free, Each}

-- ---- neither bar nor CR

free_of : (f : List ℕ) → has_any bar 0x0D f ≡ false → Free bar f
free_of [] e = Free.none
free_of (x ∷ xs) e =
    let p : (eqb x bar || eqb x 0x0D) ≡ false = or_left (eqb x bar || eqb x 0x0D) (has_any bar 0x0D xs) e in
    Free.more (or_left (eqb x bar) (eqb x 0x0D) p) (or_right (eqb x bar) (eqb x 0x0D) p)
    (free_of xs (or_right (eqb x bar || eqb x 0x0D) (has_any bar 0x0D xs) e))

-- whether a bar or CR is in one of these fields
abbrev pub any_in : List (List ℕ) → Bool
any_in [] = false
any_in (f ∷ fs) = has_any bar 0x0D f || any_in fs

pub each_of_lem : (fs : List (List ℕ)) → any_in fs ≡ false → Each bar fs
each_of_lem [] e = Each.none
each_of_lem (f ∷ fs) e =
    Each.more (free_of f (or_left (has_any bar 0x0D f) (any_in fs) e)) (each_of_lem fs (or_right (has_any bar 0x0D f) (any_in fs) e))

-- ---- allowed bytes

-- whether all bytes of these fields are allowed
abbrev pub all_in : List (List ℕ) → Bool
all_in [] = true
all_in (f ∷ fs) = all_allowed f && all_in fs

joined-allowed : (f : List ℕ) (fs : List (List ℕ)) → all_in (f ∷ fs) ≡ true → all_allowed (joined_fields bar f fs) ≡ true
joined-allowed f [] e = and_left (all_allowed f) true e
joined-allowed f (g ∷ gs) e =
    all_append allowed f (bar ∷ joined_fields bar g gs) (and_left (all_allowed f) (all_in (g ∷ gs)) e)
    (joined-allowed g gs (and_right (all_allowed f) (all_in (g ∷ gs)) e))

-- a segment, and what comes after it
pub segment_allowed : (f : List ℕ) (fs : List (List ℕ)) (r : List ℕ) → all_in (f ∷ fs) ≡ true → all_allowed r ≡ true
    → all_allowed (joined_fields bar f fs ++ 0x0D ∷ r) ≡ true
segment_allowed f fs r e a = all_append allowed (joined_fields bar f fs) (0x0D ∷ r) (joined-allowed f fs e) a
