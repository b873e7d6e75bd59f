-- Laws of the whole stream's definition: bytes in two pieces, and a stretch of a block without SB or EB.
use mathlib.Core.Path.{◌≡◌, refl, sym, ap, ◌∙◌}
use mathlib.Core.List.{List, [], ◌∷◌, ◌++◌, append_assoc, append-nil}
use mathlib.Core.Bool.{false, ◌||◌}
use Prim.Native.Nat.{ℕ, suc, ◌+◌}
use native.Mathlib.Nat.{add-zero}
use native.Mathlib.Omega.{arith}
use lib.ListN.{length}
use lib.Dec.{eqb}
use borrow.Author.Tests.{eq-eqb}
use Rattle.lists.proofs.Tests.{or_left, or_right}
use Rattle.lists.specs.Bytes.{has_any}
use Rattle.settings.specs.declared.Settings.{Settings}
use Rattle.stream.specs.Stream.{Judged, Mode, between, inside, ended, move, run, after}

module _ (g : Settings) where
  -- ---- no byte, and one
  pub run_none : (k : ℕ) (m : Mode) → run g k m [] ≡ []
  unfolding run
  run_none k m = refl

  pub after_none : (k : ℕ) (m : Mode) → after g k m [] ≡ m
  unfolding after
  after_none k m = refl

  pub run_says : (k x : ℕ) (m n : Mode) (w : Judged) (ys : List ℕ) → move g k m x ≡ record { says = w ∷ []; mode = n }
      → run g k m (x ∷ ys) ≡ w ∷ run g (k + 1) n ys
  unfolding run
  run_says k x m n w ys e = rw e

  -- "An SB inside a block ends it as cut, and starts the next": SB opens a block wherever the reader stands
  pub opens : (k : ℕ) (m : Mode) → (move g k m g.start_block).mode ≡ inside k []
  unfolding move
  opens k between = rw (eq-eqb g.start_block g.start_block refl)
  opens k (inside s body) = rw (eq-eqb g.start_block g.start_block refl)
  opens k (ended s body) = rw (eq-eqb g.start_block g.start_block refl)

  -- ---- two pieces
  pub run-append : (xs ys : List ℕ) (k : ℕ) (m : Mode) → run g k m (xs ++ ys) ≡ run g k m xs ++ run g (k + length xs) (after g k m xs) ys
  unfolding run after
  run-append [] ys k m = rw add-zero
  run-append (x ∷ xs) ys k m =
      let ih = run-append xs ys (k + 1) (move g k m x).mode in
      let e : k + 1 + length xs ≡ k + suc (length xs) = omega arith in
      ap (λ (l : List Judged). (move g k m x).says ++ l) (rw e at ih)
      ∙ sym (append_assoc (move g k m x).says (run g (k + 1) (move g k m x).mode xs) (run g (k + suc (length xs)) (after g (k + 1) (move g k m x).mode xs) ys))

  pub after-append : (xs ys : List ℕ) (k : ℕ) (m : Mode) → after g k m (xs ++ ys) ≡ after g (k + length xs) (after g k m xs) ys
  unfolding after
  after-append [] ys k m = rw add-zero
  after-append (x ∷ xs) ys k m =
      let ih = after-append xs ys (k + 1) (move g k m x).mode in
      let e : k + 1 + length xs ≡ k + suc (length xs) = omega arith in
      rw e at ih

  -- one byte of a block that is neither SB nor EB
  pub grow : (k s x : ℕ) (body : List ℕ) → eqb x g.start_block ≡ false → eqb x g.end_block ≡ false
      → move g k (inside s body) x ≡ record { says = []; mode = inside s (body ++ x ∷ []) }
  unfolding move
  grow k s x body e f = rw (e, f)

  pub free_run : (xs body : List ℕ) (k s : ℕ) → has_any g.start_block g.end_block xs ≡ false
      → run g k (inside s body) xs ≡ []
  unfolding run
  free_run [] body k s h = refl
  free_run (x ∷ xs) body k s h =
      let q = or_left (eqb x g.start_block || eqb x g.end_block) (has_any g.start_block g.end_block xs) h in
      let ih = free_run xs (body ++ x ∷ []) (k + 1) s (or_right (eqb x g.start_block || eqb x g.end_block) (has_any g.start_block g.end_block xs) h) in
      rw (grow k s x body (or_left (eqb x g.start_block) (eqb x g.end_block) q) (or_right (eqb x g.start_block) (eqb x g.end_block) q)) ih

  pub free_after : (xs body : List ℕ) (k s : ℕ) → has_any g.start_block g.end_block xs ≡ false
      → after g k (inside s body) xs ≡ inside s (body ++ xs)
  unfolding after
  free_after [] body k s h = rw append-nil
  free_after (x ∷ xs) body k s h =
      let q = or_left (eqb x g.start_block || eqb x g.end_block) (has_any g.start_block g.end_block xs) h in
      let ih = free_after xs (body ++ x ∷ []) (k + 1) s (or_right (eqb x g.start_block || eqb x g.end_block) (has_any g.start_block g.end_block xs) h) in
      rw (grow k s x body (or_left (eqb x g.start_block) (eqb x g.end_block) q) (or_right (eqb x g.start_block) (eqb x g.end_block) q))
      (ih ∙ ap (inside s) (append_assoc body (x ∷ []) xs))
