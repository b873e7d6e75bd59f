-- For the theorems: a segment that is put together of fields.
use Rattle.std.specs.Prelude.{List, [], ◌∷◌, ◌++◌, ℕ}
use Rattle.fields.specs.Fields.{field_of, bytes_of}

-- the bytes of field k of the segment with which s begins
unfoldable pub field : ℕ → ℕ → List ℕ → List ℕ
field separator k s = bytes_of (field_of separator 0 k s) s

-- fields with a separator between them
abbrev pub joined_fields : ℕ → List ℕ → List (List ℕ) → List ℕ
joined_fields separator f [] = f
joined_fields separator f (g ∷ gs) = f ++ separator ∷ joined_fields separator g gs
