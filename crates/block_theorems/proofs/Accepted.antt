-- A body is accepted exactly where it has the format of a block, or that with 999 for its sum.
use mathlib.Core.Path.{◌≡◌, refl, sym, ap, ◌∙◌}
use mathlib.Core.List.{List, [], ◌∷◌, ◌++◌, append_assoc}
use mathlib.Core.Bool.{Bool, true, false, cond, ◌||◌, false≢true}
use mathlib.Core.Logic.{◌⊎◌, inl, inr}
use Prim.Native.Nat.{ℕ, ◌+◌, ◌≤◌, ◌-◌}
use native.Mathlib.Omega.{arith}
use lib.ListN.{length, take, drop, get_or, take-append-drop}
use lib.Seq.{drop-drop}
use lib.Dec.{eqb, leb, ltb}
use borrow.Author.Tests.{eqb-true, leb-true, ltb-false}
use Rattle.lists.proofs.Same.{same-is}
use Rattle.settings.specs.DataBytes.{all_allowed, first_forbidden}
use Rattle.block.specs.Format.{version, three_digits, count_field, checksum_of, hybrid_body}
use Rattle.settings.specs.Settings.{by_kind, valid, capacity_of}
use Rattle.lists.specs.Bytes.{bytes, same}
use Rattle.block.specs.Judge.{type_matches, header_ok, checksum_matches, judge_parts, data_of, judge_hybrid, judge_minimal, judge}
use Rattle.refusal.specs.Refusal.{number_of, type_of, length_of, accepted_as, refused_by}
use Rattle.settings.specs.declared.Kind.{Kind}
use Rattle.settings.specs.declared.Kind.TheVariants.{Hybrid, Minimal}
use Rattle.settings.specs.declared.Settings.{Settings}
use Rattle.stream.specs.Stream.{end_verdict}
use Rattle.block_theorems.proofs.Bytes.{three_allowed}
use Rattle.block_theorems.proofs.RoundTrip.{Good, hybrid_good, minimal_good, outcome_fits}
use Rattle.block_theorems.proofs.Judging.{length_three, length_body, judge_body, sum_computed, sum_passes}
use Rattle.block_theorems.specs.Shapes.{Formatted, Body, hybrid, minimal, Found, Accepts, Closed}

-- what the tests of the judge have shown where it accepts
record Passed (sb t : ℕ) (d c x : List ℕ) (u n : ℕ) : Type 0 where
  type : type_matches t d ≡ true
  allowed : all_allowed d ≡ true
  count : c ≡ count_field d
  sum : (x ≡ bytes "999") ⊎ (x ≡ three_digits (checksum_of sb t d))
  kind : t ≡ u
  size : n ≡ length d

either_sum : (sb t : ℕ) (d x : List ℕ) → checksum_matches sb t d x ≡ true → (x ≡ bytes "999") ⊎ (x ≡ three_digits (checksum_of sb t d))
unfolding checksum_matches
either_sum sb t d x = go (same x (bytes "999")) (same x (three_digits (checksum_of sb t d))) refl refl
  where
    go : (p q : Bool) → same x (bytes "999") ≡ p → same x (three_digits (checksum_of sb t d)) ≡ q → (p || q) ≡ true
        → (x ≡ bytes "999") ⊎ (x ≡ three_digits (checksum_of sb t d))
    go true q e f h = inl (same-is x (bytes "999") e)
    go false true e f h = inr (same-is x (three_digits (checksum_of sb t d)) f)
    go false false e f h = absurd (false≢true h)

passed : (sb t : ℕ) (d c x : List ℕ) (u n : ℕ) → judge_parts sb t d c x ≡ accepted_as u n → Passed sb t d c x u n
unfolding judge_parts
passed sb t d c x u n = go (type_matches t d) (all_allowed d) (same c (count_field d)) (checksum_matches sb t d x) refl refl refl refl
  where
    go : (p q r s : Bool) → type_matches t d ≡ p → all_allowed d ≡ q → same c (count_field d) ≡ r → checksum_matches sb t d x ≡ s
        → cond p (cond q (cond r (cond s (accepted_as t (length d)) (refused_by 7 0)) (refused_by 6 0)) (refused_by 3 (first_forbidden d))) (refused_by 5 0) ≡ accepted_as u n
        → Passed sb t d c x u n
    go false q r s e₁ e₂ e₃ e₄ h = absurd (omega (arith, ap number_of h))
    go true false r s e₁ e₂ e₃ e₄ h = absurd (omega (arith, ap number_of h))
    go true true false s e₁ e₂ e₃ e₄ h = absurd (omega (arith, ap number_of h))
    go true true true false e₁ e₂ e₃ e₄ h = absurd (omega (arith, ap number_of h))
    go true true true true e₁ e₂ e₃ e₄ h =
        record {
          type = e₁;
          allowed = e₂;
          count = same-is c (count_field d) e₃;
          sum = either_sum sb t d x e₄;
          kind = ap type_of h;
          size = sym (ap length_of h);
        }

-- ---- a body of at least 12 bytes is put together of its fields
three_pieces : (l : List ℕ) (m : ℕ) → l ≡ take m l ++ take 5 (drop m l) ++ drop (m + 5) l
three_pieces l m =
    sym (rw (append_assoc (take m l) (take 5 (drop m l)) (drop (m + 5) l), ← drop-drop 5 m l, take-append-drop 5 (drop m l)) (take-append-drop m l))

four_bytes : (l : List ℕ) → 1 ≤ length l → take 4 l ≡ get_or l 0 0 ∷ take 3 (drop 1 l)
four_bytes [] h = absurd (omega arith)
four_bytes (x ∷ l) h = refl

regroup : (a b c d : List ℕ) → a ++ (b ++ c ++ d) ≡ a ++ b ++ c ++ d
regroup a b c d = simp append_assoc

glue : (l a r b c e c' e' : List ℕ) → l ≡ a ++ r → r ≡ b ++ c ++ e → c ≡ c' → e ≡ e' → l ≡ a ++ b ++ c' ++ e'
glue l a r b c e c' e' p q u v = p ∙ ap (λ (z : List ℕ). a ++ z) q ∙ regroup a b c e ∙ rw (u, v)

fields : (body : List ℕ) → 12 ≤ length body → same (take 3 (drop 1 body)) version ≡ true
    → body ≡ (get_or body 0 0 ∷ version) ++ data_of body ++ take 5 (drop (length body - 8) body) ++ drop (length body - 3) body
unfolding data_of
fields body h v =
    let m = length body - 12 in
    let i : 4 + m ≡ length body - 8 = omega arith in
    let j : 4 + (m + 5) ≡ length body - 3 = omega arith in
    let p : drop m (drop 4 body) ≡ drop (length body - 8) body = drop-drop m 4 body ∙ ap (λ (i : ℕ). drop i body) i in
    let q : drop (m + 5) (drop 4 body) ≡ drop (length body - 3) body = drop-drop (m + 5) 4 body ∙ ap (λ (i : ℕ). drop i body) j in
    let f : take 4 body ≡ get_or body 0 0 ∷ version = four_bytes body (omega arith) ∙ ap (λ (l : List ℕ). get_or body 0 0 ∷ l) (same-is (take 3 (drop 1 body)) version v) in
    glue body (get_or body 0 0 ∷ version) (drop 4 body) (take m (drop 4 body)) (take 5 (drop m (drop 4 body))) (drop (m + 5) (drop 4 body))
    (take 5 (drop (length body - 8) body)) (drop (length body - 3) body)
    (sym (take-append-drop 4 body) ∙ ap (λ (l : List ℕ). l ++ drop 4 body) f) (three_pieces (drop 4 body) m) (ap (λ (l : List ℕ). take 5 l) p) q

-- ---- bodies of hybrid blocks
rebuilt : (sb t : ℕ) (body d c x : List ℕ) (u n : ℕ) → body ≡ (t ∷ version) ++ d ++ c ++ x → Passed sb t d c x u n → Found sb body u n
unfolding hybrid_body
rebuilt sb t body d c x u n e h =
    record {
      content = d;
      form = rw (← h.kind) (record {
        sum = x;
        is = e ∙ ap (λ (l : List ℕ). (t ∷ version) ++ d ++ l ++ x) h.count;
        either = h.sum;
        type = h.type;
        bytes = h.allowed;
      });
      size = h.size;
    }

-- sound: only a formatted body is accepted, "xxx neither 999 nor the right sum" being refused
pub judged_sound : (sb : ℕ) (body : List ℕ) (t n : ℕ) → judge_hybrid sb body ≡ accepted_as t n → Found sb body t n
unfolding judge_hybrid header_ok
judged_sound sb body t n = go (leb 12 (length body)) (same (take 3 (drop 1 body)) version) refl refl
  where
    go : (p q : Bool) → leb 12 (length body) ≡ p → same (take 3 (drop 1 body)) version ≡ q
        → cond (cond p q false) (judge_parts sb (get_or body 0 0) (data_of body) (take 5 (drop (length body - 8) body)) (drop (length body - 3) body)) (refused_by 5 0) ≡ accepted_as t n
        → Found sb body t n
    go false q e f h = absurd (omega (arith, ap number_of h))
    go true false e f h = absurd (omega (arith, ap number_of h))
    go true true e f h =
        rebuilt sb (get_or body 0 0) body (data_of body) (take 5 (drop (length body - 8) body)) (drop (length body - 3) body) t n
        (fields body (leb-true 12 (length body) e) f)
        (passed sb (get_or body 0 0) (data_of body) (take 5 (drop (length body - 8) body)) (drop (length body - 3) body) t n h)

sum-length : (sb t : ℕ) (d x : List ℕ) → (x ≡ bytes "999") ⊎ (x ≡ three_digits (checksum_of sb t d)) → length x ≡ 3
sum-length sb t d x (inl e) = ap length e
sum-length sb t d x (inr e) = ap length e ∙ length_three (checksum_of sb t d)

sum_right : (sb t : ℕ) (d x : List ℕ) → (x ≡ bytes "999") ⊎ (x ≡ three_digits (checksum_of sb t d)) → checksum_matches sb t d x ≡ true
sum_right sb t d x (inl e) = rw e (sum_passes sb t d)
sum_right sb t d x (inr e) = ap (checksum_matches sb t d) e ∙ sum_computed sb t d

-- complete: every formatted body is accepted
pub judged_complete : (sb : ℕ) (body : List ℕ) (t : ℕ) (d : List ℕ) → Formatted sb t d body → judge_hybrid sb body ≡ accepted_as t (length d)
judged_complete sb body t d h =
    ap (judge_hybrid sb) h.is
    ∙ judge_body sb t d h.sum (sum-length sb t d h.sum h.either) h.type h.bytes (sum_right sb t d h.sum h.either)

pub length_formatted : (sb : ℕ) (body : List ℕ) (t : ℕ) (d : List ℕ) → Formatted sb t d body → length body ≡ 12 + length d
length_formatted sb body t d h = ap length h.is ∙ length_body t d h.sum (sum-length sb t d h.sum h.either)

-- ---- blocks of either kind, by the byte after EB
minimal_sound : (g : Settings) (body : List ℕ) (t n : ℕ) → g.kind ≡ Minimal → length body ≤ g.data_limit → judge_minimal body ≡ accepted_as t n → Accepts g body t n
unfolding judge_minimal
minimal_sound g body t n k l = go (all_allowed body) refl
  where
    go : (p : Bool) → all_allowed body ≡ p → cond p (accepted_as 68 (length body)) (refused_by 3 (first_forbidden body)) ≡ accepted_as t n → Accepts g body t n
    go true e h = record { content = body; form = minimal k (sym (ap type_of h)) refl e; fits = l; size = sym (ap length_of h) }
    go false e h = absurd (omega (arith, ap number_of h))

hybrid_sound : (g : Settings) (body : List ℕ) (t n : ℕ) → g.kind ≡ Hybrid → length body ≤ g.data_limit + 12
    → judge_hybrid g.start_block body ≡ accepted_as t n → Accepts g body t n
hybrid_sound g body t n k l h =
    let f = judged_sound g.start_block body t n h in
    record { content = f.content; form = hybrid k f.form; fits = omega (arith, length_formatted g.start_block body t f.content f.form); size = f.size }

judge_sound : (g : Settings) (body : List ℕ) (t n : ℕ) → length body ≤ capacity_of g → judge g body ≡ accepted_as t n → Accepts g body t n
unfolding judge
judge_sound g body t n = go g.kind refl
  where
    go : (k : Kind) → g.kind ≡ k → length body ≤ by_kind k (g.data_limit + 12) g.data_limit
        → by_kind k (judge_hybrid g.start_block body) (judge_minimal body) ≡ accepted_as t n → Accepts g body t n
    go Hybrid e l h = hybrid_sound g body t n e l h
    go Minimal e l h = minimal_sound g body t n e l h

-- "A block ends at the first EB; its verdict comes with the byte after.": what an accepted block was
pub outcome_sound : (g : Settings) (body : List ℕ) (x t n : ℕ) → end_verdict g body x ≡ accepted_as t n → Closed g body x t n
unfolding end_verdict
outcome_sound g body x t n = go (ltb (capacity_of g) (length body)) (eqb x 13) refl refl
  where
    go : (p q : Bool) → ltb (capacity_of g) (length body) ≡ p → eqb x 13 ≡ q
        → cond p (refused_by 4 0) (cond q (judge g body) (refused_by 5 0)) ≡ accepted_as t n → Closed g body x t n
    go true q e f h = absurd (omega (arith, ap number_of h))
    go false false e f h = absurd (omega (arith, ap number_of h))
    go false true e f h =
        record { return = eqb-true x 13 f; accepts = judge_sound g body t n (ltb-false (capacity_of g) (length body) e) h }

sum-allowed : (sb t : ℕ) (d x : List ℕ) → (x ≡ bytes "999") ⊎ (x ≡ three_digits (checksum_of sb t d)) → all_allowed x ≡ true
sum-allowed sb t d x (inl e) = ap all_allowed e
sum-allowed sb t d x (inr e) = ap all_allowed e ∙ three_allowed (checksum_of sb t d)

-- a formatted body is one that the reader accepts wherever it stands between SB and EB CR
pub body_good : (g : Settings) (t : ℕ) (d body : List ℕ) → valid g ≡ true → length d ≤ g.data_limit → Body g t d body → Good g body t d
body_good g t d body v l (hybrid k h) =
    rw h.is (hybrid_good g t d h.sum k v l (sum-allowed g.start_block t d h.sum h.either) (sum-length g.start_block t d h.sum h.either)
    h.type h.bytes (sum_right g.start_block t d h.sum h.either))
body_good g t d body v l (minimal k e f a) = rw (e, f) (minimal_good g d k v a l)

-- and each such block is accepted
pub outcome_complete : (g : Settings) (body : List ℕ) (x t n : ℕ) → valid g ≡ true → Closed g body x t n → end_verdict g body x ≡ accepted_as t n
outcome_complete g body x t n v h =
    let a = h.accepts in
    let p = body_good g t a.content body v a.fits a.form in
    ap (end_verdict g body) h.return ∙ outcome_fits g body (accepted_as t (length a.content)) p.fits p.judged ∙ ap (accepted_as t) (sym a.size)
