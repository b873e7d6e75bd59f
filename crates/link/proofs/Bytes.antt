-- Blocks on a line of bytes: what is written arrives, whatever stands before it.
use Rattle.refusal.specs.Refusal.{refused_by}
use Rattle.std.specs.Prelude.{Result}
use mathlib.Core.Path.{◌≡◌, refl, sym, ap, ◌∙◌}
use mathlib.Core.List.{List, [], ◌∷◌, ◌++◌, append_assoc, append-nil}
use mathlib.Core.Bool.{Bool, true, false, cond}
use Prim.Native.Nat.{ℕ, ◌+◌}
use lib.ListN.{length}
use lib.Dec.{eqb, ltb}
use borrow.Author.Tests.{eqb-true}
use Rattle.lists.proofs.Tests.{cond_ind}
use Rattle.settings.specs.Settings.{allowed, by_kind, valid, capacity_of}
use Rattle.settings.specs.declared.Kind.{Kind}
use Rattle.settings.specs.declared.Kind.TheVariants.{Hybrid, Minimal}
use Rattle.settings.specs.declared.Settings.{Settings}
use Rattle.refusal.specs.declared.Accepted.{Accepted}
use Rattle.refusal.specs.declared.Refusal.{Refusal}
use Rattle.block.specs.Format.{three_digits, checksum_of, hybrid_body, hybrid_block, minimal_block, block_of}
use Rattle.block.specs.Judge.{judge}
use Rattle.stream.specs.Stream.{Judged, Moved, Mode, between, inside, ended, end_verdict, move, run, after}
use Rattle.stream.proofs.Run.{run-append}
use Rattle.block_theorems.specs.Shapes.{framed, type_read, Writable, accepted}
use Rattle.block_theorems.proofs.RoundTrip.{reads_back}
use Rattle.block_theorems.proofs.Standing.{run_any}
use Rattle.block_theorems.proofs.Bytes.{valid_apart}
use Rattle.link.specs.Line.{Reader, line, reads_byte, reader_after, Arrival, arrival, accepts, accepted_of, arriving}
use Rattle.link.proofs.Facts.{not_both}

pub accepted-append : (a b : List Judged) → accepted_of (a ++ b) ≡ accepted_of a ++ accepted_of b
unfolding accepted_of
accepted-append [] b = refl
accepted-append (w ∷ a) b =
    ap (λ (l : List Arrival). accepts w.verdict w.content ++ l) (accepted-append a b)
    ∙ sym (append_assoc (accepts w.verdict w.content) (accepted_of a) (accepted_of b))

module _ (g : Settings) where
  -- one byte: what it brings, and the rest
  pub arriving_byte : (r : Reader) (x : ℕ) (xs : List ℕ) → arriving g (line r (x ∷ xs)) ≡ accepted_of (reads_byte g r x).says ++ arriving g (line (reader_after g r x) xs)
  unfolding run
  arriving_byte r x xs = accepted-append (reads_byte g r x).says (run g (r.offset + 1) (reads_byte g r x).mode xs)

  body_of : ℕ → List ℕ → List ℕ
  body_of t d = by_kind g.kind (hybrid_body t d (three_digits (checksum_of g.start_block t d))) d

  block_framed : (t : ℕ) (d : List ℕ) → block_of g t d ≡ framed g (body_of t d)
  unfolding block_of hybrid_block minimal_block body_of
  block_framed t d = go g.kind
    where
      go : (k : Kind)
          → by_kind k (g.start_block ∷ (hybrid_body t d (three_digits (checksum_of g.start_block t d)) ++ g.end_block ∷ 0x0D ∷ [])) (g.start_block ∷ (d ++ g.end_block ∷ 0x0D ∷ []))
          ≡ framed g (by_kind k (hybrid_body t d (three_digits (checksum_of g.start_block t d))) d)
      go Hybrid = refl
      go Minimal = refl

  -- an SB accepts nothing
  ended_refuses : (body : List ℕ) → eqb g.start_block 0x0D ≡ false → (c : List ℕ) → accepts (end_verdict g body g.start_block) c ≡ []
  unfolding end_verdict
  ended_refuses body e c =
      cond_ind (λ (v : Result Accepted Refusal). accepts v c ≡ []) (ltb (capacity_of g) (length body)) (refused_by 4 0) (cond (eqb g.start_block 0x0D) (judge g body) (refused_by 5 0)) (λ z. refl)
      (λ z. ap (λ (b : Bool). accepts (cond b (judge g body) (refused_by 5 0)) c) e)

  start_accepts : eqb g.start_block 0x0D ≡ false → (k : ℕ) (m : Mode) → accepted_of (move g k m g.start_block).says ≡ []
  unfolding move accepted_of
  start_accepts e k between = refl
  start_accepts e k (inside s body) =
      cond_ind (λ (z : Moved). accepted_of z.says ≡ []) (eqb g.start_block g.start_block) _ _ (λ y. refl)
      (λ y. cond_ind (λ (z : Moved). accepted_of z.says ≡ []) (eqb g.start_block g.end_block) _ _ (λ x. refl) (λ x. refl))
  start_accepts e k (ended s body) = append-nil _ ∙ ended_refuses body e _

  start_no_return : valid g ≡ true → eqb g.start_block 0x0D ≡ false
  start_no_return v = go (eqb g.start_block 0x0D) refl
    where
      go : (b : Bool) → eqb g.start_block 0x0D ≡ b → eqb g.start_block 0x0D ≡ false
      go false e = e
      go true e =
          let f : allowed g.start_block ≡ true = ap allowed (eqb-true g.start_block 0x0D e) in
          let h = (valid_apart g v).start in
          not_both cc

  module _ (t : ℕ) (d : List ℕ) (w : Writable g t d) where
    pub alone : (k : ℕ) → run g k between (block_of g t d) ≡ accepted k (type_read g t) d ∷ []
    unfolding run
    alone k = ap (run g k between) (sym (append-nil (block_of g t d))) ∙ (reads_back g t d w).verdict k []

    one_accepted : (k : ℕ) → accepted_of (accepted k (type_read g t) d ∷ []) ≡ arrival (type_read g t) d ∷ []
    unfolding accepted_of
    one_accepted k = refl

    one : (k : ℕ) (m : Mode) → accepted_of (run g k m (block_of g t d)) ≡ arrival (type_read g t) d ∷ []
    one k m =
        ap (λ (b : List ℕ). accepted_of (run g k m b)) (block_framed t d)
        ∙ ap accepted_of (run_any g k m (body_of t d ++ g.end_block ∷ 0x0D ∷ []))
        ∙ accepted-append (move g k m g.start_block).says (run g k between (framed g (body_of t d)))
        ∙ ap (λ (l : List Arrival). l ++ accepted_of (run g k between (framed g (body_of t d)))) (start_accepts (start_no_return w.settings) k m)
        ∙ ap (λ (b : List ℕ). accepted_of (run g k between b)) (sym (block_framed t d))
        ∙ ap accepted_of (alone k)
        ∙ one_accepted k

    -- a block that is written at the end of the line
    pub arriving_block : (r : Reader) (xs : List ℕ) → arriving g (line r (xs ++ block_of g t d)) ≡ arriving g (line r xs) ++ arrival (type_read g t) d ∷ []
    arriving_block r xs =
        ap accepted_of (run-append g xs (block_of g t d) r.offset r.mode)
        ∙ accepted-append (run g r.offset r.mode xs) (run g (r.offset + length xs) (after g r.offset r.mode xs) (block_of g t d))
        ∙ ap (λ (l : List Arrival). arriving g (line r xs) ++ l) (one (r.offset + length xs) (after g r.offset r.mode xs))
