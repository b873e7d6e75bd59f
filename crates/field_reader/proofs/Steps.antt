-- Theorems: the reader goes on and comes to an end, and the k-th field that it gives of a segment is field k.
use Rattle.std.specs.Prelude.{None}
use mathlib.Core.Path.{◌≡◌, refl, sym, ap, ◌∙◌}
use mathlib.Core.List.{List, [], ◌∷◌}
use mathlib.Core.Bool.{Bool, true, false, ◌||◌, true≢false}
use Prim.Native.Nat.{ℕ, zero, suc, ◌+◌, ◌-◌, ◌≤◌, ◌<◌}
use native.Mathlib.Omega.{arith}
use native.Mathlib.Nat.{add-zero}
use lib.ListN.{length, drop, get_or}
use lib.Seq.{drop-drop}
use lib.Dec.{ltb, eqb}
use borrow.Author.Tests.{ltb-true, ltb-false, eqb-true, eqb-false}
use Rattle.lists.proofs.Tests.{or_left, or_right}
use Rattle.lists.proofs.Parts.{drop_more, drop_none}
use Rattle.fields.specs.Fields.{bar, field_length, field_start, field_of}
use Rattle.fields.proofs.Laws.{ends_in_return, at_bar as start-at-bar}
use Rattle.fields.proofs.Segment.{field-add}
use Rattle.field_reader.specs.FieldReader.{next_of, found_of, after_of}
use Rattle.field_reader.specs.Steps.{position_after, has_bars}
use Rattle.field_reader.proofs.Laws.{at_end, end_inside, next_is, to_end, to_bar, to_return}

module _ (m : List ℕ) where
  -- the field that begins at a position
  first_field : (at : ℕ) → field_of bar at 0 m ≡ record { start = at; length = field_length bar (drop at m) }
  unfolding field_of field_start
  first_field at = rw (add-zero at) refl

  end_is : (at : ℕ) → at + field_length bar (drop at m) ≡ (field_of bar at 0 m).start + (field_of bar at 0 m).length
  end_is at = rw (first_field at) refl

  -- "the next field each time": every field leads on, and none is left exactly at the message's end
  pub nothing_left_lem : (at : ℕ) → length m ≤ at → next_of m at ≡ None
  nothing_left_lem at h = sym (at_end m at h)

  module _ (at : ℕ) (h : at < length m) where
    abbrev e : ℕ
    e = at + field_length bar (drop at m)

    past : e < length m → (b : Bool) → eqb (get_or m e 0) bar ≡ b → e + 1 ≡ after_of at (next_of m at)
    past k true t = ap (after_of at) (to_bar m at (field_of bar at 0 m) refl h e (end_is at) k (eqb-true (get_or m e 0) bar t))
    past k false t = ap (after_of at) (to_return m at (field_of bar at 0 m) refl h e (end_is at) k (eqb-false (get_or m e 0) bar t))

    by_end : (b : Bool) → ltb e (length m) ≡ b → (at < after_of at (next_of m at)) × (after_of at (next_of m at) ≤ length m)
    by_end true t =
        let k : e < length m = ltb-true e (length m) t in
        let q : e + 1 ≡ after_of at (next_of m at) = past k (eqb (get_or m e 0) bar) refl in
        (omega (arith, q), omega (arith, q, k))
    by_end false t =
        let k : length m ≤ e = ltb-false e (length m) t in
        let i : (field_of bar at 0 m).start + (field_of bar at 0 m).length ≤ length m = end_inside m at (field_of bar at 0 m) refl h in
        let n : e ≡ (field_of bar at 0 m).start + (field_of bar at 0 m).length = end_is at in
        let q : e ≡ after_of at (next_of m at) = ap (after_of at) (to_end m at (field_of bar at 0 m) refl h e (end_is at) k) in
        (omega (arith, q, k), omega (arith, q, n, i))

    pub goes_on_lem : (at < after_of at (next_of m at)) × (after_of at (next_of m at) ≤ length m)
    goes_on_lem = by_end (ltb e (length m)) refl

  -- no bar stands in a field
  bars_past : (k : ℕ) (t : List ℕ) → has_bars (suc k) t ≡ has_bars (suc k) (drop (field_length bar t) t)
  unfolding has_bars
  bars_past k [] = refl
  bars_past k (x ∷ xs) = go (eqb x bar || eqb x 0x0D) refl (bars_past k xs)
    where
      go : (b : Bool) → (eqb x bar || eqb x 0x0D) ≡ b → has_bars (suc k) xs ≡ has_bars (suc k) (drop (field_length bar xs) xs)
          → has_bars (suc k) (x ∷ xs) ≡ has_bars (suc k) (drop (field_length bar (x ∷ xs)) (x ∷ xs))
      go true e i = rw e
      go false e i = rw (or_left (eqb x bar) (eqb x 0x0D) e, or_right (eqb x bar) (eqb x 0x0D) e) i

  -- the field at a position of a segment with further bars: it ends in one
  module _ (at k : ℕ) (h : has_bars (suc k) (drop at m) ≡ true) where
    abbrev end : ℕ
    end = at + field_length bar (drop at m)

    bars_there : has_bars (suc k) (drop end m) ≡ true
    bars_there = ap (has_bars (suc k)) (sym (drop-drop (field_length bar (drop at m)) at m)) ∙ sym (bars_past k (drop at m)) ∙ h

    inside : (b : Bool) → ltb end (length m) ≡ b → end < length m
    unfolding has_bars
    inside true t = ltb-true end (length m) t
    inside false t = absurd (true≢false (sym (rw (drop_none m end (ltb-false end (length m) t)) at bars_there)))

    end_inside_message : end < length m
    end_inside_message = inside (ltb end (length m)) refl

    by_byte : (b : Bool) → eqb (get_or m end 0) bar ≡ b → (get_or m end 0 ≡ bar) × (has_bars k (drop (end + 1) m) ≡ true)
    unfolding has_bars
    by_byte true t = (eqb-true (get_or m end 0) bar t, rw (drop_more m end end_inside_message, t) at bars_there)
    by_byte false t =
        let r = ends_in_return bar m at end refl end_inside_message (eqb-false (get_or m end 0) bar t) in
        absurd (true≢false (sym (rw (drop_more m end end_inside_message, t, r) at bars_there)))

    at_bar : get_or m end 0 ≡ bar
    at_bar = (by_byte (eqb (get_or m end 0) bar) refl).0

    bars_after : has_bars k (drop (end + 1) m) ≡ true
    bars_after = (by_byte (eqb (get_or m end 0) bar) refl).1

    goes_past : after_of at (next_of m at) ≡ end + 1
    goes_past = sym (past at (omega (arith, end_inside_message)) end_inside_message (eqb (get_or m end 0) bar) refl)

  -- after k fields of a segment that has k bars the reader stands where field k begins
  pub stands_at : (k from : ℕ) → has_bars k (drop from m) ≡ true → position_after k m from ≡ (field_of bar from k m).start
  unfolding position_after field_of field_start
  stands_at zero from h = sym (add-zero from)
  stands_at (suc k) from h =
      let e = from + field_length bar (drop from m) in
      let r : suc k - 1 ≡ k = omega arith in
      let b = start-at-bar bar m from e refl (suc k) (omega arith) (end_inside_message from k h) (at_bar from k h) in
      ap (position_after k m) (goes_past from k h) ∙ stands_at k (e + 1) (bars_after from k h) ∙ (rw r at b)

  -- and gives field k, by the definition that the receiver and the sender read by
  pub gives_field : (k from : ℕ) → has_bars k (drop from m) ≡ true → position_after k m from < length m
      → next_of m (position_after k m from) ≡ found_of m (field_of bar from k m)
  gives_field k from h i =
      let f : field_of bar (position_after k m from) 0 m ≡ field_of bar from k m =
      ap (λ (z : ℕ). field_of bar z 0 m) (stands_at k from h) ∙ field-add bar m from k 0 ∙ ap (λ (z : ℕ). field_of bar from z m) (add-zero k) in
      next_is m (position_after k m from) (field_of bar (position_after k m from) 0 m) refl i ∙ ap (found_of m) f
