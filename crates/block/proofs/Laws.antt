-- The verdict on the bytes of a block, by its fields.
use Rattle.refusal.specs.Refusal.{SHAPE, accepted_as, refused_by}
use mathlib.Core.Path.{◌≡◌, sym, ap, ◌∙◌}
use mathlib.Core.List.{List}
use mathlib.Core.Bool.{true, false}
use Prim.Native.Nat.{ℕ, ◌≤◌, ◌<◌, ◌+◌, ◌-◌}
use native.Mathlib.Omega.{arith}
use lib.ListN.{length, take, drop, get_or, length-drop}
use lib.Seq.{take_all, length-take-le}
use Rattle.std.proofs.lemmas.List.{take-take, drop-take}
use lib.Dec.{eqb}
use Rattle.std.specs.List.{starts_with}
use Rattle.std.proofs.lemmas.Cmp.{nat_list_eq_equiv}
use borrow.Author.Tests.{le-leb, lt-leb}
use Rattle.settings.specs.DataBytes.{all_allowed}
use Rattle.block.specs.Format.{count_field, version}
use Rattle.lists.specs.Bytes.{same}
use Rattle.lists.proofs.Same.{same-pointwise}
use Rattle.block.specs.Judge.{type_matches, checksum_matches, judge_parts, judge_hybrid, header_ok, data_of}

-- the verdict on fields that pass all tests
module _ (sb t : ℕ) (d ccccc xxx : List ℕ) where
  pub parts_accepted : type_matches t d ≡ true → all_allowed d ≡ true → same ccccc (count_field d) ≡ true
      → checksum_matches sb t d xxx ≡ true → accepted_as t (length d) ≡ judge_parts sb t d ccccc xxx
  unfolding judge_parts
  parts_accepted e f g h = rw (e, f, g, h)

-- a body that is too short, and one with another version, as the code looks at it
pub hybrid_short : (sb : ℕ) (body : List ℕ) → length body < 12 → refused_by SHAPE 0 ≡ judge_hybrid sb body
unfolding judge_hybrid header_ok
hybrid_short sb body h = rw (lt-leb 12 (length body) h)

version_at : (body : List ℕ) → 12 ≤ length body → starts_with eqb (take (length body - 1) (drop 1 body)) version ≡ same (take 3 (drop 1 body)) version
unfolding same
version_at body h =
    let all : take (length body - 1) (drop 1 body) ≡ drop 1 body = take_all (length body - 1) (drop 1 body) (simp length-drop (omega arith)) in
    rw all (nat_list_eq_equiv.symm version (take 3 (drop 1 body)) ∙ sym (same-pointwise (take 3 (drop 1 body)) version))

pub hybrid_other : (sb : ℕ) (body : List ℕ) → 12 ≤ length body → starts_with eqb (take (length body - 1) (drop 1 body)) version ≡ false → refused_by SHAPE 0 ≡ judge_hybrid sb body
unfolding judge_hybrid header_ok
hybrid_other sb body h e = rw (le-leb 12 (length body) h, sym (version_at body h) ∙ e)

-- the fields of a body that is long enough, as they are split off from its end
pub hybrid_parts : (sb : ℕ) (body before_sum before_count s count sum : List ℕ) → 12 ≤ length body
    → starts_with eqb (take (length body - 1) (drop 1 body)) version ≡ true
    → before_sum ≡ take (length body - 3) body → sum ≡ drop (length body - 3) body
    → before_count ≡ take (length before_sum - 5) before_sum → count ≡ drop (length before_sum - 5) before_sum
    → s ≡ take (length before_count - 4) (drop 4 before_count)
    → judge_parts sb (get_or body 0 0) s count sum ≡ judge_hybrid sb body
unfolding judge_hybrid header_ok data_of
hybrid_parts sb body before_sum before_count s count sum h v p q p' q' e =
    let n : length before_sum ≡ length body - 3 = ap length p ∙ length-take-le (length body - 3) body (omega arith) in
    let five : length body - 3 - 5 ≡ length body - 8 = omega arith in
    let back : length body - 8 + 5 ≡ length body - 3 = omega arith in
    let c : count ≡ take 5 (drop (length body - 8) body) = q' ∙ rw (n, five, p) (rw back at (drop-take (length body - 8) 5 body)) in
    let b : before_count ≡ take (length body - 8) body = p' ∙ rw (n, five, p) (take-take (length body - 8) (length body - 3) body (omega arith)) in
    let m : length before_count - 4 ≡ length body - 12 = omega (arith, ap length b ∙ length-take-le (length body - 8) body (omega arith)) in
    let four : 4 + (length body - 12) ≡ length body - 8 = omega arith in
    let i : drop 4 (take (length body - 8) body) ≡ take (length body - 12) (drop 4 body) = rw four at (drop-take 4 (length body - 12) body) in
    let d : s ≡ take (length body - 12) (drop 4 body) = e ∙ rw (m, b, i) (take-take (length body - 12) (length body - 12) (drop 4 body) (omega arith)) in
    rw (le-leb 12 (length body) h, sym (version_at body h) ∙ v, c, d, q)

-- as `==` of two slices says it
pub ruleset compared = (same-pointwise)
