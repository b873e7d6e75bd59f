-- What is written reads back: document 01, 'Hybrid block', 'Minimal block' and 'Reading a stream'.
use Rattle.refusal.specs.Refusal.{accepted_as}
use Rattle.std.specs.Prelude.{Result}
use mathlib.Core.Path.{◌≡◌, refl, sym, ap, ◌∙◌}
use mathlib.Core.List.{List, [], ◌∷◌, ◌++◌, append-nil}
use mathlib.Core.Bool.{true, false}
use Prim.Native.Nat.{ℕ, ◌+◌, ◌≤◌}
use native.Mathlib.Omega.{arith}
use lib.ListN.{length, take, drop, length-append}
use lib.Seq.{take-length}
use borrow.Author.Tests.{eq-eqb, le-ltb}
use Rattle.lists.specs.Bytes.{bytes, has_any}
use Rattle.settings.specs.DataBytes.{all_allowed}
use Rattle.block.specs.Format.{three_digits, checksum_of, hybrid_body, hybrid_block, minimal_block, block_of}
use Rattle.settings.specs.Settings.{by_kind, valid, capacity_of, data_offset_of}
use Rattle.block.specs.Judge.{type_matches, checksum_matches, judge_minimal, judge}
use Rattle.settings.specs.declared.Kind.{Kind}
use Rattle.settings.specs.declared.Kind.TheVariants.{Hybrid, Minimal}
use Rattle.settings.specs.declared.Settings.{Settings}
use Rattle.refusal.specs.declared.Accepted.{Accepted}
use Rattle.refusal.specs.declared.Refusal.{Refusal}
use Rattle.stream.proofs.Run.{run_none}
use Rattle.stream.specs.Stream.{Judged, between, judged, run, end_verdict, verdicts}
use Rattle.block.specs.Content.{content_of}
use Rattle.whole_block.specs.Whole.{initial, whole_of, check_of}
use Rattle.whole_block.proofs.Checks.{check-judged}
use Rattle.writer.proofs.Laws.{length_hybrid, length_minimal}
use Rattle.writer.specs.Write.{type_valid}
use Rattle.block_theorems.proofs.Bytes.{Apart, valid_apart, allowed_free, three_allowed, body_allowed}
use Rattle.block_theorems.proofs.Reading.{run_framed, after-framed, initial-framed}
use Rattle.block_theorems.proofs.Judging.{length_three, length_body, judge_body, data_body, sum_computed, sum_passes}
use Rattle.block_theorems.specs.Shapes.{framed, type_read, Writable, accepted, ReadsBack}

-- the bytes between SB and EB of a block of type t with data d, which the reader accepts
pub record Good (g : Settings) (body : List ℕ) (t : ℕ) (d : List ℕ) : Type 0 where
  pub apart : Apart g
  pub free : has_any g.start_block g.end_block body ≡ false
  pub fits : length body ≤ capacity_of g
  pub judged : judge g body ≡ accepted_as t (length d)
  pub holds : take (length d) (drop (data_offset_of g) body) ≡ d

pub outcome_fits : (g : Settings) (body : List ℕ) (v : Result Accepted Refusal) → length body ≤ capacity_of g → judge g body ≡ v → end_verdict g body 13 ≡ v
unfolding end_verdict
outcome_fits g body v h e = rw (le-ltb (capacity_of g) (length body) h) e

pub content_is : (g : Settings) (body : List ℕ) (t : ℕ) (d : List ℕ) → take (length d) (drop (data_offset_of g) body) ≡ d → content_of g (accepted_as t (length d)) body ≡ d
unfolding content_of
content_is g body t d e = e

said_good : (g : Settings) (body : List ℕ) (t : ℕ) (d : List ℕ) (k : ℕ) → Good g body t d → judged g k (end_verdict g body 13) body ≡ accepted k t d
said_good g body t d k h =
    ap (λ (v : Result Accepted Refusal). judged g k v body) (outcome_fits g body (accepted_as t (length d)) h.fits h.judged)
    ∙ ap (λ (l : List ℕ). record { offset = k; verdict = accepted_as t (length d); content = l }) (content_is g body t d h.holds)

length-framed : (g : Settings) (body : List ℕ) → length (framed g body) ≡ 3 + length body
length-framed g body = let e : length (body ++ g.end_block ∷ 13 ∷ []) ≡ length body + 2 = length-append body (g.end_block ∷ 13 ∷ []) in omega (arith, e)

whole_framed : (g : Settings) (body : List ℕ) (w : Judged) → verdicts g (initial (framed g body)) ≡ [] → verdicts g (framed g body) ≡ w ∷ []
    → whole_of g (framed g body) ≡ w.verdict
unfolding whole_of
whole_framed g body w e f = rw (eq-eqb g.start_block g.start_block refl, e, f)

pub good_reads : (g : Settings) (body : List ℕ) (t : ℕ) (d : List ℕ) → Good g body t d → ReadsBack g (framed g body) t d
good_reads g body t d h =
    let v : (k : ℕ) (ys : List ℕ) → run g k between (framed g body ++ ys) ≡ accepted k t d ∷ run g (k + length (framed g body)) between ys =
    λ (k : ℕ) (ys : List ℕ). run_framed g h.apart body h.free k ys
    ∙ ap (λ (w : Judged). w ∷ run g (k + (3 + length body)) between ys) (said_good g body t d k h)
    ∙ ap (λ (n : ℕ). accepted k t d ∷ run g (k + n) between ys) (sym (length-framed g body)) in
    let o : verdicts g (framed g body) ≡ accepted 0 t d ∷ [] =
    ap (λ (l : List ℕ). verdicts g l) (sym (append-nil (framed g body))) ∙ v 0 []
    ∙ ap (λ (l : List Judged). accepted 0 t d ∷ l) (run_none g (0 + length (framed g body)) between) in
    record {
      verdict = v;
      rest = after-framed g h.apart body h.free;
      silent = initial-framed g h.apart body h.free;
      only_one = o;
      whole = whole_framed g body (accepted 0 t d) (initial-framed g h.apart body h.free 0) o;
    }

-- ---- hybrid blocks
pub hybrid_good : (g : Settings) (t : ℕ) (d xxx : List ℕ) → g.kind ≡ Hybrid → valid g ≡ true → length d ≤ g.data_limit → all_allowed xxx ≡ true → length xxx ≡ 3
    → type_matches t d ≡ true → all_allowed d ≡ true → checksum_matches g.start_block t d xxx ≡ true → Good g (hybrid_body t d xxx) t d
unfolding judge
hybrid_good g t d xxx k v l x n m a s =
    let p = valid_apart g v in
    let f : length (hybrid_body t d xxx) ≤ g.data_limit + 12 = omega (arith, length_body t d xxx n) in
    record {
      apart = p;
      free = allowed_free g.start_block g.end_block p.start p.end (hybrid_body t d xxx) (body_allowed t d xxx m a x);
      fits = rw k f;
      judged = rw k (judge_body g.start_block t d xxx n m a s);
      holds = rw k (data_body t d xxx);
    }

-- "SB t v v CR data ccccc xxx EB CR"
pub hybrid_reads_back : (g : Settings) (t : ℕ) (d : List ℕ) → g.kind ≡ Hybrid → valid g ≡ true → type_matches t d ≡ true → all_allowed d ≡ true
    → length d ≤ g.data_limit
    → ReadsBack g (hybrid_block g t d) t d
unfolding hybrid_block
hybrid_reads_back g t d k v m a l =
    let n = checksum_of g.start_block t d in
    good_reads g (hybrid_body t d (three_digits n)) t d
    (hybrid_good g t d (three_digits n) k v l (three_allowed n) (length_three n) m a (sum_computed g.start_block t d))

-- at every offset k and with any bytes after it
pub hybrid_reads : (g : Settings) (t : ℕ) (d : List ℕ) → g.kind ≡ Hybrid → valid g ≡ true → type_matches t d ≡ true → all_allowed d ≡ true → length d ≤ g.data_limit
    → (k : ℕ) (ys : List ℕ) → run g k between (hybrid_block g t d ++ ys) ≡ accepted k t d ∷ run g (k + (length d + 15)) between ys
hybrid_reads g t d e v m a l k ys =
    (hybrid_reads_back g t d e v m a l).verdict k ys ∙ ap (λ (n : ℕ). accepted k t d ∷ run g (k + n) between ys) (sym (length_hybrid g t d))

-- "999 means "not computed" and passes": the block with 999 for its sum reads as the one with the computed sum
pub uncomputed_reads_back : (g : Settings) (t : ℕ) (d : List ℕ) → g.kind ≡ Hybrid → valid g ≡ true → type_matches t d ≡ true → all_allowed d ≡ true
    → length d ≤ g.data_limit
    → ReadsBack g (framed g (hybrid_body t d (bytes "999"))) t d
uncomputed_reads_back g t d k v m a l =
    good_reads g (hybrid_body t d (bytes "999")) t d
    (hybrid_good g t d (bytes "999") k v l refl refl m a (sum_passes g.start_block t d))

-- ---- minimal blocks
minimal_judged : (d : List ℕ) → all_allowed d ≡ true → judge_minimal d ≡ accepted_as 68 (length d)
unfolding judge_minimal
minimal_judged d a = rw a

pub minimal_good : (g : Settings) (d : List ℕ) → g.kind ≡ Minimal → valid g ≡ true → all_allowed d ≡ true → length d ≤ g.data_limit → Good g d 68 d
unfolding judge
minimal_good g d k v a l =
    let p = valid_apart g v in
    record {
      apart = p;
      free = allowed_free g.start_block g.end_block p.start p.end d a;
      fits = rw k l;
      judged = rw k (minimal_judged d a);
      holds = rw k (take-length d);
    }

-- "SB data EB CR, with 0B and 1C fixed, the same data bytes, and the same D"
pub minimal_reads_back : (g : Settings) (d : List ℕ) → g.kind ≡ Minimal → valid g ≡ true → all_allowed d ≡ true → length d ≤ g.data_limit
    → ReadsBack g (minimal_block g d) 68 d
unfolding minimal_block
minimal_reads_back g d k v a l = good_reads g d 68 d (minimal_good g d k v a l)

pub minimal_reads : (g : Settings) (d : List ℕ) → g.kind ≡ Minimal → valid g ≡ true → all_allowed d ≡ true → length d ≤ g.data_limit
    → (k : ℕ) (ys : List ℕ) → run g k between (minimal_block g d ++ ys) ≡ accepted k 68 d ∷ run g (k + (length d + 3)) between ys
minimal_reads g d e v a l k ys =
    (minimal_reads_back g d e v a l).verdict k ys ∙ ap (λ (n : ℕ). accepted k 68 d ∷ run g (k + n) between ys) (sym (length_minimal g d))

-- ---- blocks of either kind
pub reads_back : (g : Settings) (t : ℕ) (d : List ℕ) → Writable g t d → ReadsBack g (block_of g t d) (type_read g t) d
unfolding block_of
reads_back g t d w = go g.kind refl w.type
  where
    go : (k : Kind) → g.kind ≡ k → type_valid k t d ≡ true → ReadsBack g (by_kind k (hybrid_block g t d) (minimal_block g d)) (by_kind k t 68) d
    go Hybrid e m = hybrid_reads_back g t d e w.settings m w.bytes w.fits
    go Minimal e m = minimal_reads_back g d e w.settings w.bytes w.fits

-- "The check answers as the stream does": the check of a written block
pub checks_back : (g : Settings) (t : ℕ) (d : List ℕ) → Writable g t d → check_of g (block_of g t d) ≡ accepted_as (type_read g t) (length d)
checks_back g t d w =
    sym (check-judged g (block_of g t d) w.settings) ∙ (reads_back g t d w).whole
