-- The judge over a body that is put together of its fields.
use Rattle.refusal.specs.Refusal.{accepted_as, refused_by}
use mathlib.Core.Path.{◌≡◌, refl, sym, ap, ◌∙◌}
use mathlib.Core.List.{List, ◌∷◌, ◌++◌, append_assoc}
use mathlib.Core.Bool.{Bool, true, cond, or-true}
use Prim.Native.Nat.{ℕ, ◌+◌, ◌-◌}
use native.Mathlib.Omega.{arith}
use lib.ListN.{length, take, drop, length-append}
use lib.Seq.{take_at, drop_at}
use borrow.Author.Tests.{le-leb}
use Rattle.lists.proofs.Same.{same_self}
use Rattle.block.proofs.Laws.{parts_accepted}
use Rattle.settings.specs.DataBytes.{all_allowed}
use Rattle.block.specs.Format.{version, five_digits, three_digits, count_field, checksum_of, hybrid_body}
use Rattle.lists.specs.Bytes.{bytes, same}
use Rattle.block.specs.Judge.{type_matches, header_ok, checksum_matches, judge_parts, data_of, judge_hybrid}

pub length_count : (d : List ℕ) → length (count_field d) ≡ 5
unfolding count_field five_digits
length_count d = refl

pub length_three : (n : ℕ) → length (three_digits n) ≡ 3
unfolding three_digits
length_three n = refl

put_in : (sb t : ℕ) (b : Bool) (e d f c y x : List ℕ) → b ≡ true → e ≡ d → f ≡ c → y ≡ x → cond b (judge_parts sb t e f y) (refused_by 5 0) ≡ judge_parts sb t d c x
put_in sb t b e d f c y x p q r s = rw (p, q, r, s)

-- the body of the fields t, d, c and x
module _ (sb t : ℕ) (d c x : List ℕ) (lc : length c ≡ 5) (lx : length x ≡ 3) where
  abbrev whole : List ℕ
  whole = (t ∷ version) ++ d ++ c ++ x

  pub length_whole : length whole ≡ 12 + length d
  length_whole =
      let e : length (d ++ c ++ x) ≡ length d + length c + length x = simp length-append in
      omega (arith, e)

  header_whole : header_ok whole ≡ true
  unfolding header_ok same
  header_whole = rw (le-leb 12 (length whole) (omega (arith, length_whole)))

  data_whole : data_of whole ≡ d
  unfolding data_of
  data_whole =
      let n : length whole - 12 ≡ length d = omega (arith, length_whole) in
      rw (n, append_assoc d c x) (take_at d (c ++ x) (length d) refl)

  count_whole : take 5 (drop (length whole - 8) whole) ≡ c
  count_whole =
      let n : length ((t ∷ version) ++ d) ≡ length whole - 8 = simp length-append (omega (arith, length_whole)) in
      ap (λ (l : List ℕ). take 5 (drop (length whole - 8) l)) (append_assoc ((t ∷ version) ++ d) c x)
      ∙ ap (take 5) (drop_at ((t ∷ version) ++ d) (c ++ x) (length whole - 8) n) ∙ take_at c x 5 lc

  sum_whole : drop (length whole - 3) whole ≡ x
  sum_whole =
      let e : length (d ++ c) ≡ length d + length c = length-append d c in
      let n : length ((t ∷ version) ++ d ++ c) ≡ length whole - 3 = omega (arith, length_whole, e) in
      drop_at ((t ∷ version) ++ d ++ c) x (length whole - 3) n

  pub judge_whole_lem : judge_hybrid sb whole ≡ judge_parts sb t d c x
  unfolding judge_hybrid
  judge_whole_lem = put_in sb t (header_ok whole) (data_of whole) d (take 5 (drop (length whole - 8) whole)) c (drop (length whole - 3) whole) x header_whole data_whole count_whole sum_whole

-- "xxx neither 999 nor the right sum in three digits"
pub sum_computed : (sb t : ℕ) (d : List ℕ) → checksum_matches sb t d (three_digits (checksum_of sb t d)) ≡ true
unfolding checksum_matches
sum_computed sb t d = rw (same_self (three_digits (checksum_of sb t d))) (or-true (same (three_digits (checksum_of sb t d)) (bytes "999")))

-- "999 means "not computed" and passes"
pub sum_passes : (sb t : ℕ) (d : List ℕ) → checksum_matches sb t d (bytes "999") ≡ true
unfolding checksum_matches
sum_passes sb t d = rw (same_self (bytes "999"))

pub length_body : (t : ℕ) (d xxx : List ℕ) → length xxx ≡ 3 → length (hybrid_body t d xxx) ≡ 12 + length d
unfolding hybrid_body
length_body t d xxx e = length_whole 0 t d (count_field d) xxx (length_count d) e

-- the judge accepts a body of the right fields
pub judge_body : (sb t : ℕ) (d xxx : List ℕ) → length xxx ≡ 3 → type_matches t d ≡ true → all_allowed d ≡ true → checksum_matches sb t d xxx ≡ true
    → judge_hybrid sb (hybrid_body t d xxx) ≡ accepted_as t (length d)
unfolding hybrid_body
judge_body sb t d xxx e m a s =
    judge_whole_lem sb t d (count_field d) xxx (length_count d) e ∙ sym (parts_accepted sb t d (count_field d) xxx m a (same_self (count_field d)) s)

pub data_body : (t : ℕ) (d xxx : List ℕ) → take (length d) (drop 4 (hybrid_body t d xxx)) ≡ d
unfolding hybrid_body
data_body t d xxx = rw (append_assoc d (count_field d) xxx) (take_at d (count_field d ++ xxx) (length d) refl)
