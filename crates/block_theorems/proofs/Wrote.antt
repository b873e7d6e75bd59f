-- Wherever the writer answers that it wrote a block, the bytes at the place read back.
use Rattle.std.specs.Prelude.{Result, Ok}
use mathlib.Core.Path.{◌≡◌, refl, sym, ap, ◌∙◌}
use mathlib.Core.List.{List}
use mathlib.Core.Bool.{Bool, true, false}
use Prim.Native.Nat.{ℕ, ◌+◌, ◌≤◌}
use native.Mathlib.Omega.{arith}
use lib.ListN.{length, take, drop}
use lib.Dec.{leb}
use borrow.Author.Tests.{leb-true}
use Rattle.lists.proofs.Put.{part_put}
use Rattle.lists.specs.Bytes.{put}
use Rattle.settings.specs.DataBytes.{all_allowed, first_forbidden}
use Rattle.block.specs.Format.{block_of}
use Rattle.settings.specs.Settings.{valid}
use Rattle.settings.specs.declared.Settings.{Settings}
use Rattle.writer.proofs.Laws.{write_all_lem}
use Rattle.writer.specs.Write.{need_of, type_valid, refused, wrote, frame_of, write_of}
use Rattle.lists.specs.Outcome.{need, Outcome}
use Rattle.refusal.specs.Refusal.{number_of, written_length}
use Rattle.refusal.specs.declared.Refusal.{Refusal}
use Rattle.block_theorems.proofs.RoundTrip.{reads_back}
use Rattle.block_theorems.specs.Shapes.{Writable, Wrote}

module _ (g : Settings) (t : ℕ) (d : List ℕ) (start : ℕ) (b : List ℕ) where
  -- what the tests of the writer have shown where it wrote
  record Tested (n : ℕ) : Type 0 where
    able : Writable g t d
    enough : start + need_of g d ≤ length b
    size : length (block_of g t d) ≡ n
    buffer : (write_of g t d start b).buffer ≡ put b start (block_of g t d)

  tested : (n : ℕ) → (write_of g t d start b).answer ≡ Ok n → Tested n
  unfolding write_of frame_of
  tested n = go (valid g) (leb (start + need_of g d) (length b)) (leb (length d) g.data_limit) (type_valid g.kind t d) (all_allowed d) refl refl refl refl refl
    where
      go : (p q r s u : Bool) → valid g ≡ p → leb (start + need_of g d) (length b) ≡ q → leb (length d) g.data_limit ≡ r
          → type_valid g.kind t d ≡ s → all_allowed d ≡ u
          → (need p (refused 1 0 b) (need q (refused 2 0 b) (need r (refused 4 0 b) (need s (refused 5 0 b) (need u (refused 3 (first_forbidden d) b) (wrote b start (block_of g t d))))))).answer ≡ Ok n
          → Tested n
      go false q r s u e₁ e₂ e₃ e₄ e₅ h = absurd (omega (arith, ap number_of h))
      go true false r s u e₁ e₂ e₃ e₄ e₅ h = absurd (omega (arith, ap number_of h))
      go true true false s u e₁ e₂ e₃ e₄ e₅ h = absurd (omega (arith, ap number_of h))
      go true true true false u e₁ e₂ e₃ e₄ e₅ h = absurd (omega (arith, ap number_of h))
      go true true true true false e₁ e₂ e₃ e₄ e₅ h = absurd (omega (arith, ap number_of h))
      go true true true true true e₁ e₂ e₃ e₄ e₅ h =
          let f = leb-true (length d) g.data_limit e₃ in
          record {
            able = record { settings = e₁; fits = f; type = e₄; bytes = e₅ };
            enough = leb-true (start + need_of g d) (length b) e₂;
            size = ap written_length h;
            buffer = ap (λ (o : Outcome (Result ℕ Refusal)). o.buffer) (sym (write_all_lem g t d start b e₁ e₂ f e₄ e₅));
          }

-- "The writer writes D blocks of 0 to D data bytes, or N blocks, always with the computed sum. It writes into the caller's buffer from a place the caller names"
pub wrote_reads_back : (g : Settings) (t : ℕ) (d : List ℕ) (start : ℕ) (b : List ℕ) (n : ℕ) → (write_of g t d start b).answer ≡ Ok n
    → Wrote g t d (take n (drop start (write_of g t d start b).buffer))
wrote_reads_back g t d start b n e =
    let w = tested g t d start b n e in
    let h : start ≤ length b = omega (arith, w.enough) in
    let i : take n (drop start (write_of g t d start b).buffer) ≡ block_of g t d =
    ap (λ (l : List ℕ). take n (drop start l)) w.buffer ∙ ap (λ (m : ℕ). take m (drop start (put b start (block_of g t d)))) (sym w.size)
    ∙ part_put b (block_of g t d) start h in
    record { is = i; able = w.able; reads = rw i (reads_back g t d w.able) }
