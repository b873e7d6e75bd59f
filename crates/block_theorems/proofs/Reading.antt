-- The reader over SB, bytes without SB and EB, EB and CR.
use mathlib.Core.Path.{◌≡◌, refl, sym, ap, ◌∙◌}
use mathlib.Core.List.{List, [], ◌∷◌, ◌++◌, append_assoc}
use mathlib.Core.Bool.{false, true≢false}
use Prim.Native.Nat.{ℕ, ◌+◌}
use native.Mathlib.Omega.{arith}
use lib.ListN.{length}
use lib.Dec.{eqb}
use borrow.Author.Tests.{eq-eqb, ne_eqb}
use Rattle.lists.specs.Bytes.{has_any}
use Rattle.settings.specs.Settings.{allowed}
use Rattle.settings.specs.declared.Settings.{Settings}
use Rattle.stream.proofs.Run.{run_none, after_none, run_says, run-append, after-append, free_run, free_after}
use Rattle.stream.specs.Stream.{Judged, Mode, between, inside, ended, judged, move, run, after, end_verdict}
use Rattle.whole_block.proofs.Checks.{initial_last}
use Rattle.whole_block.specs.Whole.{initial}
use Rattle.block_theorems.proofs.Bytes.{Apart}
use Rattle.block_theorems.specs.Shapes.{framed}

module _ (g : Settings) where
  move-opens : (k : ℕ) → move g k between g.start_block ≡ record { says = []; mode = inside k [] }
  unfolding move
  move-opens k = rw (eq-eqb g.start_block g.start_block refl)

  module _ (h : Apart g) where
    move_ends : (k s : ℕ) (body : List ℕ) → move g k (inside s body) g.end_block ≡ record { says = []; mode = ended s body }
    unfolding move
    move_ends k s body = rw (h.differ, eq-eqb g.end_block g.end_block refl)

    return_other : eqb 13 g.start_block ≡ false
    return_other = ne_eqb 13 g.start_block (λ (e : 13 ≡ g.start_block). true≢false (ap (λ (z : ℕ). allowed z) e ∙ h.start))

    move_closes : (k s : ℕ) (body : List ℕ) → move g k (ended s body) 13 ≡ record { says = judged g s (end_verdict g body 13) body ∷ []; mode = between }
    unfolding move
    move_closes k s body = rw return_other

  run_silent : (k x : ℕ) (m n : Mode) (ys : List ℕ) → move g k m x ≡ record { says = []; mode = n } → run g k m (x ∷ ys) ≡ run g (k + 1) n ys
  unfolding run
  run_silent k x m n ys e = rw e

  after-move : (k x : ℕ) (m n : Mode) (l : List Judged) (ys : List ℕ) → move g k m x ≡ record { says = l; mode = n } → after g k m (x ∷ ys) ≡ after g (k + 1) n ys
  unfolding after
  after-move k x m n l ys e = rw e

  module _ (h : Apart g) (body : List ℕ) (free : has_any g.start_block g.end_block body ≡ false) (k : ℕ) where
    -- up to EB there is no verdict
    run_body : (ys : List ℕ) → run g k between (g.start_block ∷ (body ++ g.end_block ∷ ys)) ≡ run g (k + (2 + length body)) (ended k body) ys
    run_body ys =
        let e : k + 1 + length body + 1 ≡ k + (2 + length body) = omega arith in
        run_silent k g.start_block between (inside k []) (body ++ g.end_block ∷ ys) (move-opens k)
        ∙ run-append g body (g.end_block ∷ ys) (k + 1) (inside k [])
        ∙ rw (free_run g body [] (k + 1) k free, free_after g body [] (k + 1) k free)
        (run_silent (k + 1 + length body) g.end_block (inside k body) (ended k body) ys (move_ends h (k + 1 + length body) k body)
        ∙ ap (λ (i : ℕ). run g i (ended k body) ys) e)

    after_body : (ys : List ℕ) → after g k between (g.start_block ∷ (body ++ g.end_block ∷ ys)) ≡ after g (k + (2 + length body)) (ended k body) ys
    after_body ys =
        let e : k + 1 + length body + 1 ≡ k + (2 + length body) = omega arith in
        after-move k g.start_block between (inside k []) [] (body ++ g.end_block ∷ ys) (move-opens k)
        ∙ after-append g body (g.end_block ∷ ys) (k + 1) (inside k [])
        ∙ rw (free_after g body [] (k + 1) k free)
        (after-move (k + 1 + length body) g.end_block (inside k body) (ended k body) [] ys (move_ends h (k + 1 + length body) k body)
        ∙ ap (λ (i : ℕ). after g i (ended k body) ys) e)

    -- "A block ends at the first EB; its verdict comes with the byte after."
    pub run_framed : (ys : List ℕ) → run g k between (framed g body ++ ys) ≡ judged g k (end_verdict g body 13) body ∷ run g (k + (3 + length body)) between ys
    run_framed ys =
        let e : k + (2 + length body) + 1 ≡ k + (3 + length body) = omega arith in
        ap (λ (l : List ℕ). run g k between (g.start_block ∷ l)) (append_assoc body (g.end_block ∷ 13 ∷ []) ys)
        ∙ run_body (13 ∷ ys)
        ∙ run_says g (k + (2 + length body)) 13 (ended k body) between (judged g k (end_verdict g body 13) body) ys (move_closes h (k + (2 + length body)) k body)
        ∙ ap (λ (i : ℕ). judged g k (end_verdict g body 13) body ∷ run g i between ys) e

    pub after-framed : after g k between (framed g body) ≡ between
    after-framed =
        after_body (13 ∷ [])
        ∙ after-move (k + (2 + length body)) 13 (ended k body) between (judged g k (end_verdict g body 13) body ∷ []) [] (move_closes h (k + (2 + length body)) k body)
        ∙ after_none g (k + (2 + length body) + 1) between

    pub initial-framed : run g k between (initial (framed g body)) ≡ []
    initial-framed =
        let e : framed g body ≡ (g.start_block ∷ (body ++ g.end_block ∷ [])) ++ 13 ∷ [] =
        ap (λ (l : List ℕ). g.start_block ∷ l) (sym (append_assoc body (g.end_block ∷ []) (13 ∷ []))) in
        ap (λ (l : List ℕ). run g k between (initial l)) e
        ∙ ap (λ (l : List ℕ). run g k between l) (initial_last (g.start_block ∷ (body ++ g.end_block ∷ [])) 13)
        ∙ run_body [] ∙ run_none g (k + (2 + length body)) (ended k body)
