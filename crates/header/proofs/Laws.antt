-- The ways in which the readers return, held against the definitions.
use Rattle.std.specs.Prelude.{Option, Some, None}
use mathlib.Core.Path.{◌≡◌, refl, sym, ap, ◌∙◌}
use mathlib.Core.List.{List, ◌++◌}
use mathlib.Core.Bool.{Bool, true, false, ◌&&◌}
use Prim.Native.Nat.{ℕ, ◌+◌, ◌≤◌, ◌<◌, min}
use native.Mathlib.Omega.{arith}
use native.Mathlib.Nat.{zero-add}
use lib.ListN.{length, take, drop, length-drop, length-take, take-append-drop}
use lib.Dec.{leb}
use borrow.Author.Tests.{lt-ltb, le-ltb, ltb-true}
use Rattle.lists.specs.Bytes.{bytes, clear}
use Rattle.lists.proofs.Tests.{and_left, and_right}
use Rattle.lists.proofs.Same.{same-is}
use Rattle.fields.specs.Fields.{bar, field_start, field_of, segment_length}
use Rattle.fields.specs.declared.Field.{Field}
use Rattle.fields.proofs.Laws.{bar_no_return}
use Rattle.fields.proofs.Segment.{segment_end, field-add, field_on, field_inside}
use Rattle.header.specs.Header.{begins, ended, control_id_field, sequence_field, readable_header, header_of, readable_answer, acknowledgment_of}
use Rattle.header.specs.Internal.{scanned_of, acknowledgment_at}
use Rattle.header.specs.declared.Scanned.{Scanned}

-- a field's end is in the message
pub field_ends : (m : List ℕ) (from k : ℕ) (f : Field) → f ≡ field_of bar from k m → from ≤ length m → f.start + f.length ≤ length m
field_ends m from k f e h = rw e (field_inside bar m from k h)

-- the first bar of a segment that begins with three letters and a bar
first_bar : (text s : List ℕ) → field_start bar 1 (text ++ drop 4 s) ≡ 4 → begins text s ≡ true → length text ≡ 4 → field_start bar 1 s ≡ 4
unfolding begins
first_bar text s f h l =
    let e : take 4 s ≡ text = same-is (take 4 s) text (rw l at h) in
    ap (λ (z : List ℕ). field_start bar 1 z) (sym (take-append-drop 4 s) ∙ ap (λ (z : List ℕ). z ++ drop 4 s) e) ∙ f

pub begins-length : (text s : List ℕ) → begins text s ≡ true → length text ≡ 4 → 4 ≤ length s
unfolding begins
begins-length text s h l =
    let e : take 4 s ≡ text = same-is (take 4 s) text (rw l at h) in
    let n : min 4 (length s) ≡ 4 = sym (length-take 4 s) ∙ ap (λ (z : List ℕ). length z) e ∙ l in
    omega (arith, n)

module _ (m : List ℕ) (from k : ℕ) where
  past-bar : field_start bar 1 (drop from m) ≡ 4 → field_of bar (from + 4) k m ≡ field_of bar from (1 + k) m
  unfolding field_of
  past-bar e = ap (λ (z : ℕ). field_of bar (from + z) k m) (sym e) ∙ field-add bar m from 1 k

  pub after_header_lem : begins (bytes "MSH|") (drop from m) ≡ true → field_of bar (from + 4) k m ≡ field_of bar from (1 + k) m
  unfolding field_start
  after_header_lem h = past-bar (first_bar (bytes "MSH|") (drop from m) refl h refl)

  pub after_answer : begins (bytes "MSA|") (drop from m) ≡ true → field_of bar (from + 4) k m ≡ field_of bar from (1 + k) m
  unfolding field_start
  after_answer h = past-bar (first_bar (bytes "MSA|") (drop from m) refl h refl)

-- the first segment in one pass: MSH-13 is counted on from MSH-10, and the CR from MSH-13
pub scanned_begin : (m : List ℕ) → begins (bytes "MSH|") m ≡ false → None ≡ scanned_of m
unfolding scanned_of readable_header
scanned_begin m h = rw h

module _ (m : List ℕ) (id seq : Field) (hi : id ≡ field_of bar 0 9 m) (hs : seq ≡ field_of bar (id.start + id.length) 3 m) where
  sequence_is : seq ≡ sequence_field m
  sequence_is = hs ∙ ap (λ (f : Field). field_of bar (f.start + f.length) 3 m) hi ∙ field_on bar m 0 9 2

  pub scan_inside : seq.start + seq.length ≤ length m
  scan_inside = rw sequence_is (field_inside bar m 0 12 (omega arith))

module _ (m : List ℕ) (id seq : Field) (e : ℕ) (hi : id ≡ field_of bar 0 9 m) (hs : seq ≡ field_of bar (id.start + id.length) 3 m)
    (he : e ≡ seq.start + seq.length + clear 0x0D 0x0D (drop (seq.start + seq.length) m)) where
  seq_is : seq ≡ sequence_field m
  seq_is = sequence_is m id seq hi hs

  end_is : e ≡ segment_length m
  end_is =
      he ∙ ap (λ (f : Field). f.start + f.length + clear 0x0D 0x0D (drop (f.start + f.length) m)) seq_is
      ∙ sym (segment_end bar bar_no_return m 0 12) ∙ zero-add (segment_length m)

  module _ (b : begins (bytes "MSH|") m ≡ true) where
    pub scanned_open : length m ≤ e → None ≡ scanned_of m
    unfolding scanned_of readable_header
    scanned_open h = rw (b, le-ltb (segment_length m) (length m) (rw (← end_is) h))

    closed : e < length m → ended m ≡ true
    closed h = lt-ltb (segment_length m) (length m) (rw (← end_is) h)

    pub scanned_other : e < length m → (leb 1 id.length && leb id.length 20) ≡ false → None ≡ scanned_of m
    unfolding scanned_of readable_header
    scanned_other h l =
        let n : (leb 1 (control_id_field m).length && leb (control_id_field m).length 20) ≡ false = rw (← hi) l in rw (b, closed h, n)

    pub scanned_read : e < length m → (leb 1 id.length && leb id.length 20) ≡ true → Some (record { control_id = id; sequence = seq; end = e }) ≡ scanned_of m
    unfolding scanned_of readable_header
    scanned_read h l =
        let n : (leb 1 (control_id_field m).length && leb (control_id_field m).length 20) ≡ true = rw (← hi) l in rw (hi, seq_is, end_is, b, closed h, n)

-- the MSA segment in one pass
pub answer_begin : (m : List ℕ) (from : ℕ) → begins (bytes "MSA|") (drop from m) ≡ false → None ≡ acknowledgment_at from m
unfolding acknowledgment_at
answer_begin m from h = rw h

module _ (m : List ℕ) (from : ℕ) (code id : Field) (hc : code ≡ field_of bar from 1 m) (hi : id ≡ field_of bar (code.start + code.length) 1 m) where
  second_is : id ≡ field_of bar from 2 m
  second_is = hi ∙ ap (λ (f : Field). field_of bar (f.start + f.length) 1 m) hc ∙ field_on bar m from 1 0

  pub id_ends : from ≤ length m → id.start + id.length ≤ length m
  id_ends = field_ends m from 2 id second_is

module _ (m : List ℕ) (from : ℕ) (code id expected : Field) (hc : code ≡ field_of bar from 1 m) (hi : id ≡ field_of bar (code.start + code.length) 1 m)
    (hx : expected ≡ field_of bar (id.start + id.length) 2 m) where
  id_is : id ≡ field_of bar from 2 m
  id_is = second_is m from code id hc hi

  expected_is : expected ≡ field_of bar from 4 m
  expected_is = hx ∙ ap (λ (f : Field). field_of bar (f.start + f.length) 2 m) id_is ∙ field_on bar m from 2 1

  pub answer_inside : from ≤ length m → expected.start + expected.length ≤ length m
  answer_inside h = rw expected_is (field_inside bar m from 4 h)

  module _ (e : ℕ) (he : e ≡ expected.start + expected.length + clear 0x0D 0x0D (drop (expected.start + expected.length) m))
      (b : begins (bytes "MSA|") (drop from m) ≡ true) where
    ends_at : e ≡ from + segment_length (drop from m)
    ends_at =
        he ∙ ap (λ (f : Field). f.start + f.length + clear 0x0D 0x0D (drop (f.start + f.length) m)) expected_is
        ∙ sym (segment_end bar bar_no_return m from 4)

    pub answer_open : length m ≤ e → None ≡ acknowledgment_at from m
    unfolding acknowledgment_at
    answer_open h =
        rw (b, le-ltb (segment_length (drop from m)) (length (drop from m)) (simp length-drop (omega (arith, ends_at))))

    pub answer_read_lem : e < length m → Some (record { code = code; control_id = id; expected = expected }) ≡ acknowledgment_at from m
    unfolding acknowledgment_at
    answer_read_lem h =
        rw (hc, id_is, expected_is, b, lt-ltb (segment_length (drop from m)) (length (drop from m)) (simp length-drop (omega (arith, ends_at))))

-- what a scanned header says
abbrev is_readable : Option Scanned → Bool
is_readable None = false
is_readable (Some h) = true

abbrev first_of : Option Scanned → Field
first_of None = record { start = 0; length = 0 }
first_of (Some h) = h.control_id

abbrev second_of : Option Scanned → Field
second_of None = record { start = 0; length = 0 }
second_of (Some h) = h.sequence

abbrev end_of : Option Scanned → ℕ
end_of None = 0
end_of (Some h) = h.end

scanned_readable : (m : List ℕ) (b : Bool) → readable_header m ≡ b → is_readable (scanned_of m) ≡ b
unfolding scanned_of
scanned_readable m true h = rw h
scanned_readable m false h = rw h

pub header_none : (m : List ℕ) → scanned_of m ≡ None → readable_header m ≡ false
header_none m h = sym (scanned_readable m (readable_header m) refl) ∙ ap is_readable h

module _ (m : List ℕ) (s : Scanned) (h : scanned_of m ≡ Some s) where
  pub header_some : readable_header m ≡ true
  header_some = sym (scanned_readable m (readable_header m) refl) ∙ ap is_readable h

  whole : scanned_of m ≡ Some (record { control_id = control_id_field m; sequence = sequence_field m; end = segment_length m })
  unfolding scanned_of
  whole = rw header_some

  pub header_end : s.end ≡ segment_length m
  header_end = ap end_of (sym h ∙ whole)

  pub header_inside : s.end < length m
  unfolding readable_header
  header_inside =
      rw header_end
      (ltb-true (segment_length m) (length m)
      (and_left (ended m) (leb 1 (control_id_field m).length && leb (control_id_field m).length 20)
      (and_right (begins (bytes "MSH|") m) (ended m && (leb 1 (control_id_field m).length && leb (control_id_field m).length 20)) header_some)))

  pub header_read : Some (record { control_id = s.control_id; sequence = s.sequence }) ≡ header_of m
  unfolding header_of
  header_read = rw (header_some, ap first_of (sym h ∙ whole), ap second_of (sym h ∙ whole))

  pub answer_at : acknowledgment_at (s.end + 1) m ≡ acknowledgment_of m
  unfolding acknowledgment_at acknowledgment_of readable_answer
  answer_at = rw (header_end, header_some)

pub header_unread : (m : List ℕ) → readable_header m ≡ false → None ≡ header_of m
unfolding header_of
header_unread m h = rw h

pub answer_unread : (m : List ℕ) → readable_header m ≡ false → None ≡ acknowledgment_of m
unfolding acknowledgment_of readable_answer
answer_unread m h = rw h

-- by a scanned header: what is read of it, and of the answer after it
pub ruleset header_cases = (header_none, header_unread, header_read)

pub ruleset answer_cases = (header_none, answer_unread, header_inside, answer_at)
