-- What the contracts of the private functions cite. Nobody needs to believe these: no public function's contract cites them.
use Rattle.std.specs.Prelude.{List, cond, ◌&&◌, ℕ, drop, Option, Some, None}
use Rattle.lists.specs.Bytes.{bytes}
use Rattle.fields.specs.Fields.{bar, field_of, segment_length}
use Rattle.header.specs.Header.{begins, ended, control_id_field, sequence_field, readable_header}
use Rattle.header.specs.declared.Scanned.{Scanned}
use Rattle.header.specs.declared.Acknowledgment.{Acknowledgment}

-- the header with the offset of its CR
unfoldable pub scanned_of : List ℕ → Option Scanned
scanned_of m = cond (readable_header m) (Some (record { control_id = control_id_field m; sequence = sequence_field m; end = segment_length m })) None

-- the MSA segment that begins at an offset
unfoldable pub acknowledgment_at : ℕ → List ℕ → Option Acknowledgment
acknowledgment_at from m =
    cond (begins (bytes "MSA|") (drop from m) && ended (drop from m)) (Some (record { code = field_of bar from 1 m; control_id = field_of bar from 2 m; expected = field_of bar from 4 m })) None
