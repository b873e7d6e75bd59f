-- One call of the reader from any state whatever: it uses at most the part, all of it where it finds no verdict, and a verdict takes at least one byte. So a caller may go on with the rest of the part, and its loop ends.
use Rattle.std.specs.Prelude.{Option, Some, None, Result, Ok, Err}
use mathlib.Core.Path.{◌≡◌, refl, ap, ◌∙◌}
use mathlib.Core.List.{List, [], ◌∷◌}
use Prim.Native.Nat.{ℕ, ◌+◌, ◌≤◌, ◌<◌, ◌-◌}
use native.Mathlib.Omega.{arith}
use lib.ListN.{length}
use lib.Dec.{eqb, leb, ltb}
use Rattle.lists.specs.Bytes.{greatest_word}
use Rattle.lists.specs.Outcome.{Outcome}
use Rattle.stream.specs.declared.Reading.{Reading}
use Rattle.lists.proofs.Tests.{cond_ind}
use Rattle.settings.specs.Settings.{valid, capacity_of}
use Rattle.settings.specs.declared.Settings.{Settings}
use Rattle.refusal.specs.declared.Accepted.{Accepted}
use Rattle.refusal.specs.declared.Refusal.{Refusal}
use Rattle.stream.specs.Scan.{Scan, phase_step, step, fold, read_of}
use Rattle.stream.specs.declared.Phase.{Phase}
use Rattle.stream.specs.declared.Phase.TheVariants.{Between, Inside, Ended}
use Rattle.stream.specs.declared.Reader.{Reader}
use Rattle.stream.specs.declared.Found.{Found}

-- from position k the scan is now at most n bytes further, and not before j
record Moves (j k n : ℕ) (t : Scan) : Type 0 where
  least : j ≤ t.reader.position
  most : t.reader.position ≤ k + n

-- after n bytes there is no verdict yet
record Whole (n : ℕ) (t u : Scan) : Type 0 where
  pending : t.answer ≡ (Ok None)
  position : u.reader.position ≡ t.reader.position + n

module _ (g : Settings) where
  one_more : (p : Phase) (n s k : ℕ) (b : List ℕ) (x : ℕ) → (phase_step g p n s k b x).reader.position ≡ k + 1
  one_more Between n s k b x = cond_ind (λ (t : Scan). t.reader.position ≡ k + 1) (eqb x g.start_block) _ _ (λ e. refl) (λ e. refl)
  one_more Inside n s k b x =
      let P : Scan → Type 0 = λ t. t.reader.position ≡ k + 1 in
      cond_ind P (eqb x g.start_block) _ _ (λ e. refl)
      (λ e. cond_ind P (eqb x g.end_block) _ _ (λ f. refl) (λ f. cond_ind P (ltb n (capacity_of g)) _ _ (λ a. refl) (λ a. refl)))
  one_more Ended n s k b x = cond_ind (λ (t : Scan). t.reader.position ≡ k + 1) (eqb x g.start_block) _ _ (λ e. refl) (λ e. refl)

  step_pending : (r : Reader) (b : List ℕ) (x : ℕ) → (step g (Ok None) r b x).reader.position ≡ r.position + 1
  unfolding step
  step_pending r b x = one_more r.phase r.body_length r.block_offset r.position b x

  step_moves : (a : Result (Option Found) Refusal) (r : Reader) (b : List ℕ) (x : ℕ) → Moves r.position r.position 1 (step g a r b x)
  unfolding step
  step_moves (Ok None) r b x = let e = step_pending r b x in record { least = omega arith; most = omega arith }
  step_moves (Ok (Some f)) r b x = record { least = omega arith; most = omega arith }
  step_moves (Err n) r b x = record { least = omega arith; most = omega arith }

  fold_moves : (xs : List ℕ) (t : Scan) → Moves t.reader.position t.reader.position (length xs) (fold g t xs)
  unfolding fold
  fold_moves [] t = record { least = omega arith; most = omega arith }
  fold_moves (x ∷ xs) t =
      let h = step_moves t.answer t.reader t.buffer x in
      let f = fold_moves xs (step g t.answer t.reader t.buffer x) in
      record { least = omega (arith, h.least, f.least); most = omega (arith, h.most, f.most) }

  -- a scan that found a verdict has read a byte
  fold_goes : (xs : List ℕ) (r : Reader) (b : List ℕ) (s : ℕ) (v : Result Accepted Refusal)
      → (fold g (record { answer = (Ok None); reader = r; buffer = b }) xs).answer ≡ Ok (Some (record { block_offset = s; verdict = v }))
      → r.position < (fold g (record { answer = (Ok None); reader = r; buffer = b }) xs).reader.position
  unfolding fold
  fold_goes [] r b s v e = let z : ◌≡◌ {A = ℕ} 0 1 = cc in omega arith
  fold_goes (x ∷ xs) r b s v e = omega (arith, step_pending r b x, (fold_moves xs (step g (Ok None) r b x)).least)

  -- a scan without a verdict has read every byte
  pending_before : (a : Result (Option Found) Refusal) (r : Reader) (b : List ℕ) (x : ℕ) → (step g a r b x).answer ≡ (Ok None) → a ≡ (Ok None)
  unfolding step
  pending_before (Ok None) r b x e = refl
  pending_before (Ok (Some f)) r b x e = e
  pending_before (Err n) r b x e = e

  fold_whole : (xs : List ℕ) (t : Scan) → (fold g t xs).answer ≡ (Ok None) → Whole (length xs) t (fold g t xs)
  unfolding fold
  fold_whole [] t e = record { pending = e; position = omega arith }
  fold_whole (x ∷ xs) t e =
      let next = step g t.answer t.reader t.buffer x in
      let w = fold_whole xs next e in
      let p = pending_before t.answer t.reader t.buffer x w.pending in
      let q : next.reader.position ≡ t.reader.position + 1 =
      ap (λ (a : Result (Option Found) Refusal). (step g a t.reader t.buffer x).reader.position) p ∙ step_pending t.reader t.buffer x in
      record { pending = p; position = omega (arith, w.position, q) }

  pub call_most : (r : Reader) (xs b : List ℕ) → (read_of g r xs b).answer.used ≤ length xs
  unfolding read_of
  call_most r xs b =
      let P : Outcome Reading → Type 0 = λ c. c.answer.used ≤ length xs in
      let f = fold_moves xs (record { answer = (Ok None); reader = r; buffer = b }) in
      cond_ind P (valid g) _ _
      (λ e. cond_ind P (leb (capacity_of g) (length b)) _ _
      (λ i. cond_ind P (leb (length xs) (greatest_word - r.position)) _ _ (λ j. omega (arith, f.most)) (λ j. omega arith))
      (λ i. omega arith))
      (λ e. omega arith)

  pub call_goes : (r : Reader) (xs b : List ℕ) (s : ℕ) (v : Result Accepted Refusal) → (read_of g r xs b).answer.answer ≡ Ok (Some (record { block_offset = s; verdict = v })) → 1 ≤ (read_of g r xs b).answer.used
  unfolding read_of
  call_goes r xs b s v =
      let P : Outcome Reading → Type 0 = λ c. c.answer.answer ≡ Ok (Some (record { block_offset = s; verdict = v })) → 1 ≤ c.answer.used in
      cond_ind P (valid g) _ _
      (λ e. cond_ind P (leb (capacity_of g) (length b)) _ _
      (λ i. cond_ind P (leb (length xs) (greatest_word - r.position)) _ _ (λ j w. omega (arith, fold_goes xs r b s v w))
      (λ j w. let z : ◌≡◌ {A = ℕ} 0 1 = cc in omega arith))
      (λ i w. let z : ◌≡◌ {A = ℕ} 0 1 = cc in omega arith))
      (λ e w. let z : ◌≡◌ {A = ℕ} 0 1 = cc in omega arith)

  pub call_whole : (r : Reader) (xs b : List ℕ) → (read_of g r xs b).answer.answer ≡ (Ok None) → (read_of g r xs b).answer.used ≡ length xs
  unfolding read_of
  call_whole r xs b =
      let P : Outcome Reading → Type 0 = λ c. c.answer.answer ≡ (Ok None) → c.answer.used ≡ length xs in
      cond_ind P (valid g) _ _
      (λ e. cond_ind P (leb (capacity_of g) (length b)) _ _
      (λ i. cond_ind P (leb (length xs) (greatest_word - r.position)) _ _
      (λ j w. omega (arith, (fold_whole xs (record { answer = (Ok None); reader = r; buffer = b }) w).position))
      (λ j w. let z : ◌≡◌ {A = ℕ} 0 1 = cc in omega arith))
      (λ i w. let z : ◌≡◌ {A = ℕ} 0 1 = cc in omega arith))
      (λ e w. let z : ◌≡◌ {A = ℕ} 0 1 = cc in omega arith)
