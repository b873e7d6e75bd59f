-- A message whose first segment is joined fields: its fields, where that segment ends, and the fields of a second one of that kind.
use mathlib.Core.Path.{◌≡◌, sym, ap, ◌∙◌}
use mathlib.Core.List.{List, [], ◌∷◌, ◌++◌, append_assoc}
use mathlib.Core.Bool.{true}
use Prim.Native.Nat.{ℕ, suc, ◌+◌, ◌≤◌}
use native.Mathlib.Omega.{arith}
use lib.ListN.{length, drop, get_or, length-append, length-drop}
use lib.Seq.{length-take-le, drop-append-add}
use borrow.Author.Tests.{lt-ltb, le-leb}
use Rattle.lists.specs.Bytes.{bytes}
use Rattle.fields.specs.Fields.{bar, field_of, bytes_of, segment_length}
use Rattle.fields.specs.Joined.{field, joined_fields}
use Rattle.fields.proofs.Laws.{bar_no_return}
use Rattle.fields.proofs.Segment.{field_inside}
use Rattle.fields.proofs.Joined.{Free, Each, reads_back, bytes_are}
use Rattle.header.specs.Header.{begins, ended, control_id_field, readable_header, second_segment, answer_field}

-- no CR is in a field
past-field : (f s : List ℕ) → Free bar f → segment_length (f ++ s) ≡ length f + segment_length s
past-field [] s Free.none = omega arith
past-field (x ∷ xs) s (Free.more a b h) = let z = past-field xs s h in rw b (omega (arith, z))

-- where the first segment ends
first_end : (f : List ℕ) (fs : List (List ℕ)) (r : List ℕ) → Each bar (f ∷ fs)
    → segment_length (joined_fields bar f fs ++ 0x0D ∷ r) ≡ length (joined_fields bar f fs)
first_end f [] r (Each.more h Each.none) = let z = past-field f (0x0D ∷ r) h in omega (arith, z)
first_end f (g ∷ gs) r (Each.more h t) =
    let s = joined_fields bar g gs ++ 0x0D ∷ r in
    let z : segment_length s ≡ length (joined_fields bar g gs) = first_end g gs r t in
    let y : segment_length (f ++ bar ∷ s) ≡ length f + suc (segment_length s) = past-field f (bar ∷ s) h in
    let x : length (f ++ bar ∷ joined_fields bar g gs) ≡ length f + suc (length (joined_fields bar g gs)) =
    length-append f (bar ∷ joined_fields bar g gs) in
    rw (append_assoc f (bar ∷ joined_fields bar g gs) (0x0D ∷ r)) (omega (arith, x, y, z))

module _ (f : List ℕ) (fs : List (List ℕ)) (r : List ℕ) where
  abbrev pub message : List ℕ
  message = joined_fields bar f fs ++ 0x0D ∷ r

  module _ (each : Each bar (f ∷ fs)) where
    pub first_field : (k : ℕ) → bytes_of (field_of bar 0 k message) message ≡ get_or (f ∷ fs) k []
    first_field k = bytes_are bar message 0 k ∙ reads_back bar bar_no_return k f fs r each

    pub first_ended : ended message ≡ true
    first_ended =
        let a = first_end f fs r each in
        let b = length-append (joined_fields bar f fs) (0x0D ∷ r) in
        lt-ltb (segment_length message) (length message) (omega (arith, a, b))

    -- "the segment after MSH"
    pub second_is : drop (second_segment message) message ≡ r
    second_is = rw (first_end f fs r each) (drop-append-add (joined_fields bar f fs) (0x0D ∷ r) 1)

    pub second_field : (g : List ℕ) (gs : List (List ℕ)) (s : List ℕ) → Each bar (g ∷ gs) → r ≡ joined_fields bar g gs ++ 0x0D ∷ s → (k : ℕ)
        → bytes_of (answer_field k message) message ≡ get_or (g ∷ gs) k []
    second_field g gs s h e k =
        bytes_are bar message (second_segment message) k ∙ ap (λ (z : List ℕ). field bar k z) (second_is ∙ e)
        ∙ reads_back bar bar_no_return k g gs s h

-- a field is as long as its bytes
pub bytes-length : (m : List ℕ) (k : ℕ) → length (bytes_of (field_of bar 0 k m) m) ≡ (field_of bar 0 k m).length
unfolding bytes_of
bytes-length m k =
    let h = field_inside bar m 0 k (omega arith) in
    length-take-le (field_of bar 0 k m).length (drop (field_of bar 0 k m).start m) (simp length-drop (omega (arith, h)))

-- "Data must begin `MSH|`, and the first segment must end in CR." "MSH-10 has 1 to 20 bytes."
pub header_readable : (m id : List ℕ) → begins (bytes "MSH|") m ≡ true → ended m ≡ true → bytes_of (control_id_field m) m ≡ id
    → 1 ≤ length id → length id ≤ 20 → readable_header m ≡ true
unfolding readable_header
header_readable m id b e i l h =
    let n : (control_id_field m).length ≡ length id = sym (bytes-length m 9) ∙ ap length i in
    rw (b, e, le-leb 1 (control_id_field m).length (omega (arith, n)), le-leb (control_id_field m).length 20 (omega (arith, n)))

-- the fields after MSH: ^~\&|||||||TYPE|ID|P|2.3.1 and further ones
abbrev pub header_fields : List ℕ → List ℕ → List (List ℕ) → List (List ℕ)
header_fields type id more = bytes "^~\\&" ∷ [] ∷ [] ∷ [] ∷ [] ∷ [] ∷ [] ∷ type ∷ id ∷ bytes "P" ∷ bytes "2.3.1" ∷ more
