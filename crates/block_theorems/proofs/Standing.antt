-- In a stream a block is accepted exactly where its bytes stand: SB, a formatted body, EB and CR.
use Rattle.std.specs.Prelude.{Result, Ok, Err}
use mathlib.Core.Path.{◌≡◌, refl, sym, ap, ◌∙◌, subst}
use mathlib.Core.List.{List, [], ◌∷◌, ◌++◌, append_assoc, append-nil, Memᴰ}
use mathlib.Core.Bool.{true, cond}
use mathlib.Core.Logic.{◌⊎◌, inl, inr, ◌↔◌}
use Prim.Native.Nat.{ℕ, ◌+◌, ◌≤◌}
use native.Mathlib.Nat.{add-zero}
use native.Mathlib.Omega.{arith}
use lib.ListN.{length, length-append}
use lib.Seq.{append_snoc, take-length}
use lib.Dec.{eqb, ltb}
use borrow.Author.Tests.{eqb-true}
use Rattle.lists.proofs.Tests.{cond_ind}
use Rattle.settings.specs.Settings.{by_kind, valid, capacity_of}
use Rattle.settings.specs.DataBytes.{all_allowed}
use Rattle.settings.specs.declared.Kind.{Kind}
use Rattle.settings.specs.declared.Kind.TheVariants.{Hybrid, Minimal}
use Rattle.lists.specs.Bytes.{same}
use Rattle.block.specs.Format.{count_field}
use Rattle.block.specs.Judge.{type_matches, checksum_matches, header_ok, judge_parts, judge_hybrid, judge_minimal, judge}
use Rattle.refusal.specs.Refusal.{number_of, accepted_as, refused_by}
use Rattle.settings.specs.declared.Settings.{Settings}
use Rattle.refusal.specs.declared.Accepted.{Accepted}
use Rattle.refusal.specs.declared.Refusal.{Refusal}
use Rattle.stream.proofs.Run.{opens, run-append}
use Rattle.stream.specs.Stream.{Judged, verdicts, Mode, between, inside, ended, Moved, moved, judged, end_verdict, move, run, after}
use Rattle.block.specs.Content.{content_of}
use Rattle.block_theorems.proofs.Accepted.{outcome_sound, body_good}
use Rattle.block_theorems.proofs.Judging.{data_body}
use Rattle.block_theorems.proofs.RoundTrip.{good_reads}
use Rattle.block_theorems.specs.Shapes.{framed, accepted, Body, hybrid, minimal, Stands}

-- ---- what stands there is accepted
module _ (g : Settings) where
  run-opens : (k : ℕ) (m : Mode) (ys : List ℕ) → run g k m (g.start_block ∷ ys) ≡ (move g k m g.start_block).says ++ run g (k + 1) (inside k []) ys
  unfolding run
  run-opens k m ys = rw (opens g k m)

  silent : (k x : ℕ) → (move g k between x).says ≡ []
  unfolding move
  silent k x = refl

  -- from any mode as from between blocks, after what SB itself brings
  pub run_any : (k : ℕ) (m : Mode) (ys : List ℕ)
      → run g k m (g.start_block ∷ ys) ≡ (move g k m g.start_block).says ++ run g k between (g.start_block ∷ ys)
  run_any k m ys =
      let e : run g k between (g.start_block ∷ ys) ≡ run g (k + 1) (inside k []) ys = run-opens k between ys ∙ rw (silent k g.start_block) in
      run-opens k m ys ∙ ap (λ (l : List Judged). (move g k m g.start_block).says ++ l) (sym e)

  pub framed-accepted : (t : ℕ) (d body : List ℕ) → valid g ≡ true → length d ≤ g.data_limit → Body g t d body → (k : ℕ) (m : Mode) (ys : List ℕ)
      → Memᴰ (accepted k t d) (run g k m (framed g body ++ ys))
  framed-accepted t d body v l b k m ys =
      let r = good_reads g body t d (body_good g t d body v l b) in
      let h : Memᴰ (accepted k t d) ((move g k m g.start_block).says ++ (accepted k t d ∷ run g (k + length (framed g body)) between ys)) =
      mathlib.Core.List.Memᴰ.append_right (move g k m g.start_block).says (mathlib.Core.List.Memᴰ.head refl) in
      rw (run_any k m ((body ++ g.end_block ∷ 13 ∷ []) ++ ys), r.verdict k ys) h

  -- complete: from every mode, at every offset
  pub standing_accepted : valid g ≡ true → (k : ℕ) (m : Mode) (xs : List ℕ) (w : Judged) → Stands g k xs w → Memᴰ w (run g k m xs)
  standing_accepted v k m xs w h =
      rw (h.says, h.is, run-append g h.before (framed g h.body ++ h.rest) k m)
      (mathlib.Core.List.Memᴰ.append_right (run g k m h.before)
      (framed-accepted h.type h.content h.body v h.fits h.form (k + length h.before) (after g k m h.before) h.rest))

-- ---- what is accepted stands there
-- where the block that the reader is in began
data At (g : Settings) (k : ℕ) (read : List ℕ) : Mode → Type 0 where
  at_between : At g k read between
  at_inside : {s : ℕ} {body : List ℕ} (p : List ℕ) → s ≡ k + length p → read ≡ p ++ (g.start_block ∷ body) → At g k read (inside s body)
  at_ended : {s : ℕ} {body : List ℕ} (p : List ℕ) → s ≡ k + length p → read ≡ p ++ (g.start_block ∷ (body ++ g.end_block ∷ [])) → At g k read (ended s body)

module _ (g : Settings) (k : ℕ) where
  longer : (read p l : List ℕ) (x : ℕ) → read ≡ p ++ l → read ++ x ∷ [] ≡ p ++ (l ++ x ∷ [])
  longer read p l x e = ap (λ (z : List ℕ). z ++ x ∷ []) e ∙ append_assoc p l (x ∷ [])

  at_opened : (read : List ℕ) (i x : ℕ) → i ≡ k + length read → At g k (read ++ x ∷ []) (cond (eqb x g.start_block) (inside i []) between)
  at_opened read i x e =
      cond_ind (At g k (read ++ x ∷ [])) (eqb x g.start_block) (inside i []) between
      (λ h. at_inside read e (ap (λ (z : ℕ). read ++ z ∷ []) (eqb-true x g.start_block h))) (λ h. at_between)

  at_step : (read : List ℕ) (i x : ℕ) (m : Mode) → i ≡ k + length read → At g k read m → At g k (read ++ x ∷ []) (move g i m x).mode
  unfolding move
  at_step read i x between e a = at_opened read i x e
  at_step read i x (inside s body) e (at_inside p f h) =
      cond_ind (λ (o : Moved). At g k (read ++ x ∷ []) o.mode) (eqb x g.start_block) _ _
      (λ q. at_inside read e (ap (λ (z : ℕ). read ++ z ∷ []) (eqb-true x g.start_block q)))
      (λ q. cond_ind (λ (o : Moved). At g k (read ++ x ∷ []) o.mode) (eqb x g.end_block) (moved [] (ended s body)) (moved [] (inside s (body ++ x ∷ [])))
      (λ r. at_ended p f (longer read p (g.start_block ∷ body) x h ∙ ap (λ (z : ℕ). p ++ (g.start_block ∷ (body ++ z ∷ []))) (eqb-true x g.end_block r)))
      (λ r. at_inside p f (longer read p (g.start_block ∷ body) x h)))
  at_step read i x (ended s body) e a = at_opened read i x e

  -- bytes that come later change nothing
  further : (xs : List ℕ) (w : Judged) (ys : List ℕ) → Stands g k xs w → Stands g k (xs ++ ys) w
  further xs w ys h =
      record {
        before = h.before;
        body = h.body;
        rest = h.rest ++ ys;
        type = h.type;
        content = h.content;
        is = ap (λ (z : List ℕ). z ++ ys) h.is ∙ regroup h.before (framed g h.body) h.rest ys;
        form = h.form;
        fits = h.fits;
        says = h.says;
      }
    where
      regroup : (a b c d : List ℕ) → (a ++ (b ++ c)) ++ d ≡ a ++ (b ++ (c ++ d))
      regroup a b c d = simp append_assoc

  no_interruption : (s t n : ℕ) (body : List ℕ) (w : Judged) → w ≡ judged g s (refused_by 8 0) body → w.verdict ≡ accepted_as t n → ⊥
  no_interruption s t n body w e v = omega (arith, ap number_of (sym (ap (λ (z : Judged). z.verdict) e) ∙ v))

  content_body : (t : ℕ) (d body : List ℕ) → Body g t d body → content_of g (accepted_as t (length d)) body ≡ d
  unfolding content_of
  content_body t d body (hybrid e h) = rw (e, h.is) (data_body t d h.sum)
  content_body t d body (minimal e f q a) = rw (e, q) (take-length d)

  says_it : (s x t n : ℕ) (d body p : List ℕ) (w : Judged) → w ≡ judged g s (end_verdict g body x) body → end_verdict g body x ≡ accepted_as t n → n ≡ length d
      → s ≡ k + length p → Body g t d body → w ≡ accepted (k + length p) t d
  says_it s x t n d body p w e o l f b =
      e ∙ ap (λ (v : Result Accepted Refusal). judged g s v body) (o ∙ ap (accepted_as t) l)
      ∙ ap (λ (z : List ℕ). record { offset = s; verdict = accepted_as t (length d); content = z }) (content_body t d body b)
      ∙ ap (λ (i : ℕ). accepted i t d) f

  ended_sound : (read : List ℕ) (s x t n : ℕ) (body p : List ℕ) (w : Judged) → s ≡ k + length p → read ≡ p ++ (g.start_block ∷ (body ++ g.end_block ∷ []))
      → w ≡ judged g s (end_verdict g body x) body → w.verdict ≡ accepted_as t n → Stands g k (read ++ x ∷ []) w
  ended_sound read s x t n body p w f h e v =
      let o : end_verdict g body x ≡ accepted_as t n = sym (ap (λ (z : Judged). z.verdict) e) ∙ v in
      let c = outcome_sound g body x t n o in
      let a = c.accepts in
      record {
        before = p;
        body = body;
        rest = [];
        type = t;
        content = a.content;
        is = longer read p (g.start_block ∷ (body ++ g.end_block ∷ [])) x h
            ∙ ap (λ (z : ℕ). p ++ (g.start_block ∷ ((body ++ g.end_block ∷ []) ++ z ∷ []))) c.return
            ∙ ap (λ (z : List ℕ). p ++ (g.start_block ∷ z)) (append_assoc body (g.end_block ∷ []) (0x0D ∷ []))
            ∙ ap (λ (z : List ℕ). p ++ z) (sym (append-nil (framed g body)));
        form = a.form;
        fits = a.fits;
        says = says_it s x t n a.content body p w e o a.size f a.form;
      }

  step_sound : (read : List ℕ) (i x t n : ℕ) (m : Mode) (w : Judged) → At g k read m → Memᴰ w (move g i m x).says → w.verdict ≡ accepted_as t n
      → Stands g k (read ++ x ∷ []) w
  unfolding move
  step_sound read i x t n between w a h v = absurd (mathlib.Core.List.Memᴰ.not-nil h)
  step_sound read i x t n (inside s body) w a h v =
      cond_ind (λ (o : Moved). Memᴰ w o.says → w.verdict ≡ accepted_as t n → Stands g k (read ++ x ∷ []) w) (eqb x g.start_block) _ _
      (λ q h v. absurd (no_interruption s t n body w (mathlib.Core.List.Memᴰ.eq_of_singleton h) v))
      (λ q. cond_ind (λ (o : Moved). Memᴰ w o.says → w.verdict ≡ accepted_as t n → Stands g k (read ++ x ∷ []) w) (eqb x g.end_block)
      (moved [] (ended s body)) (moved [] (inside s (body ++ x ∷ []))) (λ r h v. absurd (mathlib.Core.List.Memᴰ.not-nil h)) (λ r h v. absurd (mathlib.Core.List.Memᴰ.not-nil h))) h v
  step_sound read i x t n (ended s body) w (at_ended p f e) h v = ended_sound read s x t n body p w f e (mathlib.Core.List.Memᴰ.eq_of_singleton h) v

  run-cases : (i x : ℕ) (m : Mode) (xs : List ℕ) (w : Judged) → Memᴰ w (run g i m (x ∷ xs))
      → Memᴰ w (move g i m x).says ⊎ Memᴰ w (run g (i + 1) (move g i m x).mode xs)
  unfolding run
  run-cases i x m xs w h = mathlib.Core.List.Memᴰ.append_cases (move g i m x).says h

  run_empty : (i : ℕ) (m : Mode) (w : Judged) → Memᴰ w (run g i m []) → ⊥
  unfolding run
  run_empty i m w h = mathlib.Core.List.Memᴰ.not-nil h

  one_more : (x : ℕ) (xs read : List ℕ) (i t n : ℕ) (m : Mode) (w : Judged) → At g k read m → w.verdict ≡ accepted_as t n
      → (Memᴰ w (run g (i + 1) (move g i m x).mode xs) → Stands g k (read ++ x ∷ [] ++ xs) w)
      → Memᴰ w (move g i m x).says ⊎ Memᴰ w (run g (i + 1) (move g i m x).mode xs) → Stands g k (read ++ x ∷ [] ++ xs) w
  one_more x xs read i t n m w a v f (inl u) = further (read ++ x ∷ []) w xs (step_sound read i x t n m w a u v)
  one_more x xs read i t n m w a v f (inr u) = f u

  next_start : (read : List ℕ) (i x : ℕ) → i ≡ k + length read → i + 1 ≡ k + length (read ++ x ∷ [])
  next_start read i x e = let l : length (read ++ x ∷ []) ≡ length read + 1 = length-append read (x ∷ []) in omega arith

  regrouped : (x : ℕ) (xs read : List ℕ) (w : Judged) → Stands g k (read ++ x ∷ [] ++ xs) w → Stands g k (read ++ x ∷ xs) w
  regrouped x xs read w h = rw (← append_snoc read x xs) h

  run_sound : (xs read : List ℕ) (i t n : ℕ) (m : Mode) (w : Judged) → i ≡ k + length read → At g k read m → Memᴰ w (run g i m xs) → w.verdict ≡ accepted_as t n
      → Stands g k (read ++ xs) w
  run_sound [] read i t n m w e a h v = absurd (run_empty i m w h)
  run_sound (x ∷ xs) read i t n m w e a h v =
      regrouped x xs read w (one_more x xs read i t n m w a v
      (λ u. run_sound xs (read ++ x ∷ []) (i + 1) t n (move g i m x).mode w (next_start read i x e) (at_step read i x m e a) u v)
      (run-cases i x m xs w h))

  -- sound: an accepted verdict's block stands in the input at its offset
  pub accepted_stands : (xs : List ℕ) (w : Judged) (t n : ℕ) → Memᴰ w (run g k between xs) → w.verdict ≡ accepted_as t n → Stands g k xs w
  accepted_stands xs w t n h v = run_sound xs [] k t n between w (sym (add-zero k)) at_between h v

-- ---- both ways
-- a verdict that is no acceptance has a number of the table
abbrev Numbered : Result Accepted Refusal → Type 0
Numbered (Ok v) = Unit {0}
Numbered (Err v) = 1 ≤ v.number

parts_numbered : (sb t : ℕ) (d c x : List ℕ) → Numbered (judge_parts sb t d c x)
unfolding judge_parts
parts_numbered sb t d c x =
    cond_ind Numbered (type_matches t d) _ _
    (λ e. cond_ind Numbered (all_allowed d) _ _
    (λ f. cond_ind Numbered (same c (count_field d)) _ _
    (λ q. cond_ind Numbered (checksum_matches sb t d x) _ _ (λ r. tt) (λ r. omega arith)) (λ q. omega arith)) (λ f. omega arith)) (λ e. omega arith)

judge_numbered : (g : Settings) (body : List ℕ) → Numbered (judge g body)
unfolding judge judge_hybrid judge_minimal
judge_numbered g body = go g.kind
  where
    go : (k : Kind) → Numbered (by_kind k (judge_hybrid g.start_block body) (judge_minimal body))
    go Hybrid = cond_ind Numbered (header_ok body) _ _ (λ e. parts_numbered _ _ _ _ _) (λ e. omega arith)
    go Minimal = cond_ind Numbered (all_allowed body) _ _ (λ e. tt) (λ e. omega arith)

module _ (g : Settings) where
  end_numbered : (body : List ℕ) (x : ℕ) → Numbered (end_verdict g body x)
  unfolding end_verdict
  end_numbered body x =
      cond_ind Numbered (ltb (capacity_of g) (length body)) _ _ (λ e. omega arith)
      (λ e. cond_ind Numbered (eqb x 0x0D) _ _ (λ f. judge_numbered g body) (λ f. omega arith))

  move_numbered : (i x : ℕ) (m : Mode) (w : Judged) → Memᴰ w (move g i m x).says → Numbered w.verdict
  unfolding move
  move_numbered i x between w h = absurd (mathlib.Core.List.Memᴰ.not-nil h)
  move_numbered i x (inside s body) w h =
      let P : Moved → Type 0 = λ o. Memᴰ w o.says → Numbered w.verdict in
      cond_ind P (eqb x g.start_block) _ _ (λ q u. subst (λ (z : Judged). Numbered z.verdict) (sym (mathlib.Core.List.Memᴰ.eq_of_singleton u)) (omega arith))
      (λ q. cond_ind P (eqb x g.end_block) (moved [] (ended s body)) (moved [] (inside s (body ++ x ∷ [])))
      (λ r u. absurd (mathlib.Core.List.Memᴰ.not-nil u)) (λ r u. absurd (mathlib.Core.List.Memᴰ.not-nil u))) h
  move_numbered i x (ended s body) w h = subst (λ (z : Judged). Numbered z.verdict) (sym (mathlib.Core.List.Memᴰ.eq_of_singleton h)) (end_numbered body x)

  run_numbered : (xs : List ℕ) (i : ℕ) (m : Mode) (w : Judged) → Memᴰ w (run g i m xs) → Numbered w.verdict
  unfolding run
  run_numbered [] i m w h = absurd (mathlib.Core.List.Memᴰ.not-nil h)
  run_numbered (x ∷ xs) i m w h = go (λ u. run_numbered xs (i + 1) (move g i m x).mode w u) (mathlib.Core.List.Memᴰ.append_cases (move g i m x).says h)
    where
      go : (Memᴰ w (run g (i + 1) (move g i m x).mode xs) → Numbered w.verdict)
          → Memᴰ w (move g i m x).says ⊎ Memᴰ w (run g (i + 1) (move g i m x).mode xs) → Numbered w.verdict
      go f (inl u) = move_numbered i x m w u
      go f (inr u) = f u

accepted_of_lem : (g : Settings) (k : ℕ) (xs : List ℕ) (w : Judged) (v : Result Accepted Refusal) → w.verdict ≡ v → Memᴰ w (run g k between xs) → number_of v ≡ 0 → Stands g k xs w
accepted_of_lem g k xs w (Ok v) e h z = accepted_stands g k xs w v.block_type v.data_length h e
accepted_of_lem g k xs w (Err v) e h z = let q : 1 ≤ v.number = subst Numbered e (run_numbered g xs k between w h) in absurd (omega arith)

-- "the number (0 if accepted)": the accepted verdicts of an input are those on the formatted blocks that stand in it
pub accepted_exactly : (g : Settings) (xs : List ℕ) (w : Judged) → valid g ≡ true → (Memᴰ w (verdicts g xs) × (number_of w.verdict ≡ 0)) ↔ Stands g 0 xs w
accepted_exactly g xs w v = (
  λ (h : Memᴰ w (verdicts g xs) × (number_of w.verdict ≡ 0)). accepted_of_lem g 0 xs w w.verdict refl h.0 h.1,
  λ (h : Stands g 0 xs w). (standing_accepted g v 0 between xs w h, ap (λ (z : Judged). number_of z.verdict) h.says),
)
