-- For the theorems: where a reader stands after some fields.
use Rattle.std.specs.Prelude.{List, [], ◌∷◌, Bool, true, false, cond, ℕ, zero, suc, eqb}
use Rattle.fields.specs.Fields.{bar}
use Rattle.field_reader.specs.FieldReader.{next_of, after_of}

-- the position after k fields
unfoldable pub position_after : ℕ → List ℕ → ℕ → ℕ
position_after zero m at = at
position_after (suc k) m at = position_after k m (after_of at (next_of m at))

-- whether the segment with which s begins has k bars
unfoldable pub has_bars : ℕ → List ℕ → Bool
has_bars zero s = true
has_bars (suc k) [] = false
has_bars (suc k) (x ∷ s) = cond (eqb x bar) (has_bars k s) (cond (eqb x 0x0D) false (has_bars (suc k) s))
