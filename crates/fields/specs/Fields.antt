-- Document 01, 'Header fields': where the fields of a segment stand. The separator is an input; document 01 has the bar.
use Rattle.std.specs.Prelude.{List, [], ◌∷◌, cond, ℕ, zero, suc, ◌+◌, take, drop, eqb}
use Prim.Native.Char.{code}
use Rattle.lists.specs.Bytes.{clear}
use Rattle.fields.specs.declared.Field.{Field}

abbrev pub bar : ℕ
bar = code "|"

-- "up to the next bar or the CR": the length of the field with which s begins
abbrev pub field_length : ℕ → List ℕ → ℕ
field_length separator s = clear separator 0x0D s

-- the offset of what "follows" the k-th bar of the segment with which s begins. A segment with fewer bars has no such field: then the offset of its end, the CR.
unfoldable pub field_start : ℕ → ℕ → List ℕ → ℕ
field_start separator zero s = 0
field_start separator (suc k) [] = 0
field_start separator (suc k) (x ∷ s) =
    cond (eqb x separator) (suc (field_start separator k s)) (cond (eqb x 0x0D) 0 (suc (field_start separator (suc k) s)))

-- field k of the segment that begins at offset `from` of the message. "A missing field reads as empty."
unfoldable pub field_of : ℕ → ℕ → ℕ → List ℕ → Field
field_of separator from k m =
    record { start = from + field_start separator k (drop from m); length = field_length separator (drop (from + field_start separator k (drop from m)) m) }

-- the bytes of a field
unfoldable pub bytes_of : Field → List ℕ → List ℕ
bytes_of f m = take f.length (drop f.start m)

-- the offset of the CR that ends the segment with which s begins; the length of s where there is none
abbrev pub segment_length : List ℕ → ℕ
segment_length s = clear 0x0D 0x0D s
