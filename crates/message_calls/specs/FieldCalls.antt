-- What gmv_field_next returns and leaves in the words, for every input (include/giamuvich.h).
use Rattle.std.specs.Prelude.{List, [], ◌∷◌, ℕ, length, leb, Option, Some, None}
use Rattle.lists.specs.Outcome.{need, Called, called}
use Rattle.lists.specs.Bytes.{over}
use Rattle.refusal.specs.Refusal.{TOO_SHORT}
use Rattle.fields.specs.declared.Field.{Field}
use Rattle.field_reader.specs.FieldReader.{next_of}
use Rattle.field_reader.specs.declared.Delimiter.{Delimiter}
use Rattle.field_reader.specs.declared.Delimiter.TheVariants.{Separator, SegmentEnd, MessageEnd}
use Rattle.field_reader.specs.declared.FoundField.{FoundField}

-- GMV_DELIMITER_SEPARATOR, GMV_DELIMITER_SEGMENT_END, GMV_DELIMITER_MESSAGE_END
abbrev pub delimiter_word : Delimiter → ℕ
delimiter_word Separator = 1
delimiter_word SegmentEnd = 2
delimiter_word MessageEnd = 3

-- GMV_NEXT_FOUND, GMV_NEXT_OFFSET, GMV_NEXT_LENGTH, GMV_NEXT_DELIMITER, GMV_NEXT_POSITION
abbrev pub field_words : ℕ → Field → ℕ → ℕ → List ℕ
field_words found f delimiter position = found ∷ f.start ∷ f.length ∷ delimiter ∷ position ∷ []

-- no field is left: the position stays, and the other words are 0
abbrev pub next_finished : ℕ → List ℕ → Option FoundField → Called
next_finished at ws None = called 0 [] [] (over ws (field_words 0 (record { start = 0; length = 0 }) 0 at))
next_finished at ws (Some f') = called 0 [] [] (over ws (field_words 1 f'.field (delimiter_word f'.delimiter) f'.after))

unfoldable pub next_call : List ℕ → ℕ → List ℕ → Called
next_call m at ws = need (leb 5 (length ws)) (called TOO_SHORT [] [] ws) (next_finished at ws (next_of m at))
