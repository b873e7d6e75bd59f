-- The data of a verdict is the same, looked up in the buffer or among the block's bytes.
use Rattle.std.specs.Prelude.{Result}
use mathlib.Core.Path.{◌≡◌, refl, sym}
use mathlib.Core.List.{List, [], ◌∷◌}
use mathlib.Core.Bool.{Bool, true, false≢true}
use Prim.Native.Nat.{ℕ, zero, suc, ◌+◌, ◌≤◌, ◌-◌}
use native.Mathlib.Omega.{arith}
use lib.ListN.{length, take, drop, length-drop}
use lib.Seq.{length-take-le, take-take}
use lib.Dec.{leb}
use borrow.Author.Tests.{leb-true}
use Rattle.lists.proofs.Tests.{cond_ind}
use Rattle.settings.specs.DataBytes.{all_allowed}
use Rattle.block.specs.Format.{count_field}
use Rattle.settings.specs.Settings.{by_kind, data_offset_of}
use Rattle.refusal.specs.Refusal.{length_of}
use Rattle.block.specs.Judge.{judge, judge_hybrid, judge_minimal, judge_parts, header_ok, type_matches, checksum_matches, data_of}
use Rattle.lists.specs.Bytes.{same}
use Rattle.settings.specs.declared.Kind.{Kind}
use Rattle.settings.specs.declared.Kind.TheVariants.{Hybrid, Minimal}
use Rattle.settings.specs.declared.Settings.{Settings}
use Rattle.refusal.specs.declared.Accepted.{Accepted}
use Rattle.refusal.specs.declared.Refusal.{Refusal}
use Rattle.block.specs.Content.{content_of}

-- the verdict has no data, or it lies among the first m bytes, from the place o on
pub data Lies (o m : ℕ) (v : Result Accepted Refusal) : Type 0 where
  none : length_of v ≡ 0 → Lies o m v
  part : o + length_of v ≤ m → Lies o m v

parts_lie : (o m sb t : ℕ) (d c x : List ℕ) → o + length d ≤ m → Lies o m (judge_parts sb t d c x)
unfolding judge_parts
parts_lie o m sb t d c x h =
    cond_ind (Lies o m) (type_matches t d) _ _
    (λ e. cond_ind (Lies o m) (all_allowed d) _ _
    (λ f. cond_ind (Lies o m) (same c (count_field d)) _ _
    (λ a. cond_ind (Lies o m) (checksum_matches sb t d x) _ _ (λ b. part h) (λ b. none refl))
    (λ a. none refl))
    (λ f. none refl))
    (λ e. none refl)

data_length_lem : (body : List ℕ) → 12 ≤ length body → length (data_of body) ≡ length body - 12
unfolding data_of
data_length_lem body h = length-take-le (length body - 12) (drop 4 body) (simp length-drop (omega arith))

header_length : (body : List ℕ) → header_ok body ≡ true → 12 ≤ length body
unfolding header_ok
header_length body = cond_ind (λ (q : Bool). q ≡ true → 12 ≤ length body) (leb 12 (length body)) _ _ (λ e h. leb-true _ _ e) (λ e h. absurd (false≢true h))

hybrid_lies : (sb : ℕ) (body : List ℕ) → Lies 4 (length body) (judge_hybrid sb body)
unfolding judge_hybrid
hybrid_lies sb body =
    cond_ind (Lies 4 (length body)) (header_ok body) _ _
    (λ e. let h = header_length body e in parts_lie 4 (length body) sb _ (data_of body) _ _ (omega (arith, data_length_lem body h)))
    (λ e. none refl)

minimal_lies : (body : List ℕ) → Lies 0 (length body) (judge_minimal body)
unfolding judge_minimal
minimal_lies body = cond_ind (Lies 0 (length body)) (all_allowed body) _ _ (λ e. part (omega arith)) (λ e. none refl)

pub judge_lies : (g : Settings) (body : List ℕ) → Lies (data_offset_of g) (length body) (judge g body)
unfolding judge
judge_lies g body = go g.kind
  where
    go : (q : Kind) → Lies (by_kind q 4 0) (length body) (by_kind q (judge_hybrid g.start_block body) (judge_minimal body))
    go Hybrid = hybrid_lies g.start_block body
    go Minimal = minimal_lies body

-- what lies among the first n bytes is not changed by leaving out the others
pub take-drop-take : (m o n : ℕ) (l : List ℕ) → o + m ≤ n → take m (drop o (take n l)) ≡ take m (drop o l)
take-drop-take m zero n l h = take-take m n l (omega arith)
take-drop-take m (suc o) zero l h = absurd (omega arith)
take-drop-take m (suc o) (suc n) [] h = refl
take-drop-take m (suc o) (suc n) (x ∷ l) h = take-drop-take m o n l (omega arith)

pub content_none : (g : Settings) (v : Result Accepted Refusal) (b c : List ℕ) → length_of v ≡ 0 → content_of g v b ≡ content_of g v c
unfolding content_of
content_none g v b c e = rw e

pub content_same : (g : Settings) (v : Result Accepted Refusal) (n : ℕ) (b : List ℕ) → Lies (data_offset_of g) n v → content_of g v b ≡ content_of g v (take n b)
unfolding content_of
content_same g v n b (none e) = rw e
content_same g v n b (part h) = sym (take-drop-take (length_of v) (data_offset_of g) n b h)
