-- One pass over a segment, by the fields that it finds.
use Rattle.std.specs.Prelude.{Some, None}
use mathlib.Core.Path.{◌≡◌, refl, sym, ◌∙◌}
use mathlib.Core.List.{List}
use mathlib.Core.Bool.{true, false, ◌&&◌}
use Prim.Native.Nat.{ℕ, ◌+◌, ◌-◌, ◌≤◌, ◌<◌}
use lib.ListN.{length, take, drop, length-drop}
use lib.Dec.{leb, eqb}
use Rattle.std.specs.List.{starts_with}
use Rattle.lists.specs.Bytes.{bytes, clear}
use Rattle.fields.specs.Fields.{bar, field_of}
use Rattle.fields.specs.declared.Field.{Field}
use Rattle.fields.proofs.Segment.{field_inside}
use Rattle.header.specs.Header.{begins}
use Rattle.header.specs.Internal.{scanned_of, acknowledgment_at}
use Rattle.header.proofs.Laws.{begins-length, after_header_lem, after_answer, scanned_begin, scan_inside, scanned_open, scanned_other, scanned_read, answer_begin, answer_open, answer_read_lem}
use Rattle.header.proofs.Texts.{header_begun, answer_begun}

module _ (m : List ℕ) where
  abbrev id : Field
  id = field_of bar 4 8 m

  abbrev seq : Field
  seq = field_of bar (id.start + id.length) 3 m

  abbrev end : ℕ
  end = seq.start + seq.length + clear 0x0D 0x0D (drop (seq.start + seq.length) m)

  pub scan_begins : starts_with eqb m (bytes "MSH|") ≡ false → scanned_of m ≡ None
  scan_begins h = sym (scanned_begin m (header_begun m refl h))

  module _ (h : starts_with eqb m (bytes "MSH|") ≡ true) where
    begun : begins (bytes "MSH|") m ≡ true
    begun = header_begun m refl h

    pub scan_four : 4 ≤ length m
    scan_four = begins-length (bytes "MSH|") m begun refl

    pub scan_sequence : (field_of bar ((field_of bar 4 8 m).start + (field_of bar 4 8 m).length) 3 m).start + (field_of bar ((field_of bar 4 8 m).start + (field_of bar 4 8 m).length) 3 m).length ≤ length m
    scan_sequence = scan_inside m id seq (after_header_lem m 0 8 begun) refl

    pub scan_open : length m ≤ end → scanned_of m ≡ None
    scan_open l = sym (scanned_open m id seq end (after_header_lem m 0 8 begun) refl refl begun l)

    pub scan_other : end < length m → (leb 1 id.length && leb id.length 20) ≡ false → scanned_of m ≡ None
    scan_other l e = sym (scanned_other m id seq end (after_header_lem m 0 8 begun) refl refl begun l e)

    pub scan_read : end < length m → (leb 1 id.length && leb id.length 20) ≡ true → scanned_of m ≡ Some (record { control_id = id; sequence = seq; end = end })
    scan_read l e = sym (scanned_read m id seq end (after_header_lem m 0 8 begun) refl refl begun l e)

module _ (m : List ℕ) (from : ℕ) where
  abbrev code_at : Field
  code_at = field_of bar (from + 4) 0 m

  abbrev id_at : Field
  id_at = field_of bar (code_at.start + code_at.length) 1 m

  abbrev expected_at : Field
  expected_at = field_of bar (id_at.start + id_at.length) 2 m

  abbrev end_at : ℕ
  end_at = expected_at.start + expected_at.length + clear 0x0D 0x0D (drop (expected_at.start + expected_at.length) m)

  pub answer_begins : starts_with eqb (take (length m - from) (drop from m)) (bytes "MSA|") ≡ false → acknowledgment_at from m ≡ None
  answer_begins h = sym (answer_begin m from (answer_begun m from refl h))

  module _ (h : starts_with eqb (take (length m - from) (drop from m)) (bytes "MSA|") ≡ true) where
    answers : begins (bytes "MSA|") (drop from m) ≡ true
    answers = answer_begun m from refl h

    pub answer_four : 4 ≤ length (drop from m)
    answer_four = begins-length (bytes "MSA|") (drop from m) answers refl

    pub answer_cut : length m ≤ end_at → acknowledgment_at from m ≡ None
    answer_cut l = sym (answer_open m from code_at id_at expected_at (after_answer m from 0 answers) refl refl end_at refl answers l)

    pub answer_whole : end_at < length m → acknowledgment_at from m ≡ Some (record { code = code_at; control_id = id_at; expected = expected_at })
    answer_whole l = sym (answer_read_lem m from code_at id_at expected_at (after_answer m from 0 answers) refl refl end_at refl answers l)

pub ruleset scan_cases = (scan_begins, scan_four, scan_sequence, scan_open, scan_other, scan_read, field_inside)

pub ruleset answer_scan_cases = (answer_begins, answer_four, answer_cut, answer_whole, field_inside, length-drop)
