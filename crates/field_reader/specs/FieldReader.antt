-- Document 01, 'Header fields': "A reader over the message holds the bytes and its place and gives the next field each time". DECISIONS.md H-13. A position is the paper's place.
use Rattle.std.specs.Prelude.{List, cond, ℕ, ◌+◌, length, get_or, ltb, eqb, Option, Some, None}
use Rattle.lists.specs.Outcome.{need}
use Rattle.fields.specs.Fields.{bar, field_of}
use Rattle.fields.specs.declared.Field.{Field}
use Rattle.field_reader.specs.declared.Delimiter.TheVariants.{Separator, SegmentEnd, MessageEnd}
use Rattle.field_reader.specs.declared.FieldReader.{FieldReader}
use Rattle.field_reader.specs.declared.FoundField.{FoundField}

-- the offset of what ends a field
abbrev pub field_end : Field → ℕ
field_end f = f.start + f.length

-- a field goes "up to the next bar or the CR"; one that neither ends reaches to the message's end
abbrev pub found_of : List ℕ → Field → Option FoundField
found_of m f =
    cond (ltb (field_end f) (length m)) (Some (record { field = f; delimiter = cond (eqb (get_or m (field_end f) 0) bar) Separator SegmentEnd; after = field_end f + 1 }))
    (Some (record { field = f; delimiter = MessageEnd; after = field_end f }))

-- the field with which the message goes on at a position, by the one definition of a field
unfoldable pub next_of : List ℕ → ℕ → Option FoundField
next_of m at = need (ltb at (length m)) None (found_of m (field_of bar at 0 m))

-- the position after a field that was given at a position
abbrev pub after_of : ℕ → Option FoundField → ℕ
after_of at None = at
after_of at (Some f') = f'.after

-- "gives the next field each time": the reader, with the message that it holds, behind the field that it gave
abbrev pub advanced : FieldReader → FieldReader
advanced r = record { message = r.message; position = after_of r.position (next_of r.message.now r.position) }
