-- Document 01, 'Header fields', and row 9 of 'Numbers that say no': what is read of a message, and of an answer.
use Rattle.std.specs.Prelude.{List, Bool, cond, ◌&&◌, ℕ, ◌+◌, length, take, drop, leb, ltb, Option, Some, None}
use Rattle.lists.specs.Bytes.{bytes, same}
use Rattle.lists.specs.Outcome.{need}
use Rattle.fields.specs.Fields.{bar, field_of, segment_length}
use Rattle.fields.specs.declared.Field.{Field}
use Rattle.header.specs.declared.Header.{Header}
use Rattle.header.specs.declared.Acknowledgment.{Acknowledgment}
use Rattle.header.specs.declared.Code.{Code}
use Rattle.header.specs.declared.Code.TheVariants.{AA, AE, AR}

-- "must begin `MSH|`", or `MSA|`
unfoldable pub begins : List ℕ → List ℕ → Bool
begins text s = same (take (length text) s) text

-- "the first segment must end in CR"
abbrev pub ended : List ℕ → Bool
ended s = ltb (segment_length s) (length s)

-- "MSH-10 follows the ninth bar and MSH-13 the twelfth"
abbrev pub control_id_field : List ℕ → Field
control_id_field m = field_of bar 0 9 m

abbrev pub sequence_field : List ℕ → Field
sequence_field m = field_of bar 0 12 m

-- "Data must begin `MSH|`, and the first segment must end in CR." "MSH-10 has 1 to 20 bytes."
unfoldable pub readable_header : List ℕ → Bool
readable_header m =
    begins (bytes "MSH|") m && (ended m && (leb 1 (control_id_field m).length && leb (control_id_field m).length 20))

unfoldable pub header_of : List ℕ → Option Header
header_of m = need (readable_header m) None (Some (record { control_id = control_id_field m; sequence = sequence_field m }))

-- the offset of "the segment after MSH"
abbrev pub second_segment : List ℕ → ℕ
second_segment m = segment_length m + 1

-- "In an answer, the segment after MSH must begin `MSA|` and end in CR"
unfoldable pub readable_answer : List ℕ → Bool
readable_answer m =
    readable_header m && (begins (bytes "MSA|") (drop (second_segment m) m) && ended (drop (second_segment m) m))

-- "MSA-1 to MSA-4 follow its first four bars"
abbrev pub answer_field : ℕ → List ℕ → Field
answer_field k m = field_of bar (second_segment m) k m

unfoldable pub acknowledgment_of : List ℕ → Option Acknowledgment
acknowledgment_of m = need (readable_answer m) None (Some (record { code = answer_field 1 m; control_id = answer_field 2 m; expected = answer_field 4 m }))

-- MSA-1: the codes that document 01 has
unfoldable pub code_field : List ℕ → Option Code
code_field s =
    cond (same s (bytes "AA")) (Some AA) (cond (same s (bytes "AE")) (Some AE) (cond (same s (bytes "AR")) (Some AR) None))
