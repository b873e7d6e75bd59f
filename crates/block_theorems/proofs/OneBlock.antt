-- The check of a whole block accepts exactly the bytes of one formatted block.
use mathlib.Core.Path.{◌≡◌, refl, sym, ap, ◌∙◌}
use mathlib.Core.List.{List, [], ◌∷◌, ◌++◌, append_assoc, append-nil, Memᴰ}
use mathlib.Core.Bool.{Bool, true, false, cond}
use mathlib.Core.Logic.{◌⊎◌, inl, inr, ◌↔◌}
use Prim.Native.Nat.{ℕ, ◌+◌, ◌≤◌}
use native.Mathlib.Omega.{arith}
use lib.ListN.{length, length-append}
use lib.Dec.{eqb}
use borrow.Author.Tests.{eq-eqb, eqb-true}
use Rattle.lists.proofs.Tests.{cond_ind}
use Rattle.settings.specs.Settings.{valid}
use Rattle.refusal.specs.Refusal.{number_of, type_of, length_of, accepted_as, refused_by}
use Rattle.settings.specs.declared.Settings.{Settings}
use Rattle.stream.proofs.Run.{after_none, run-append}
use Rattle.stream.specs.Stream.{Judged, Mode, between, inside, ended, Moved, moved, move, run, after, verdicts}
use Rattle.whole_block.proofs.Checks.{check_setting, check-judged}
use Rattle.whole_block.specs.Whole.{begins_with, only, initial, whole_of, check_of}
use Rattle.block_theorems.proofs.Accepted.{body_good}
use Rattle.block_theorems.proofs.RoundTrip.{good_reads}
use Rattle.block_theorems.proofs.Standing.{run_any, standing_accepted, accepted_stands}
use Rattle.block_theorems.specs.Shapes.{framed, Stands, OneBlock}

-- in a block, or after its EB
data Busy : Mode → Type 0 where
  in_block : {s : ℕ} {body : List ℕ} → Busy (inside s body)
  at_end : {s : ℕ} {body : List ℕ} → Busy (ended s body)

module _ (g : Settings) where
  -- a byte of a block brings a verdict or leaves the reader in the block
  stirs : (k x : ℕ) (m : Mode) → Busy m → (1 ≤ length (move g k m x).says) ⊎ Busy (move g k m x).mode
  unfolding move
  stirs k x between b = elim b [ ]
  stirs k x (inside s body) in_block =
      cond_ind (λ (o : Moved). (1 ≤ length o.says) ⊎ Busy o.mode) (eqb x g.start_block) _ _
      (λ q. inl (omega arith))
      (λ q. cond_ind (λ (o : Moved). (1 ≤ length o.says) ⊎ Busy o.mode) (eqb x g.end_block) (moved [] (ended s body)) (moved [] (inside s (body ++ x ∷ [])))
      (λ r. inr at_end) (λ r. inr in_block))
  stirs k x (ended s body) at_end = inl (omega arith)

  -- SB in a block brings a verdict
  interrupts : (k : ℕ) (m : Mode) → Busy m → 1 ≤ length (move g k m g.start_block).says
  unfolding move
  interrupts k between b = elim b [ ]
  interrupts k (inside s body) in_block = rw (eq-eqb g.start_block g.start_block refl) (omega arith)
  interrupts k (ended s body) at_end = omega arith

  run_length : (k x : ℕ) (m : Mode) (xs : List ℕ) → length (run g k m (x ∷ xs)) ≡ length (move g k m x).says + length (run g (k + 1) (move g k m x).mode xs)
  unfolding run
  run_length k x m xs = length-append (move g k m x).says (run g (k + 1) (move g k m x).mode xs)

  after-cons : (k x : ℕ) (m : Mode) (xs : List ℕ) → after g k m (x ∷ xs) ≡ after g (k + 1) (move g k m x).mode xs
  unfolding after
  after-cons k x m xs = refl

  -- a block that has begun brings a verdict by the next SB
  spoken : (b : List ℕ) (k j : ℕ) (m : Mode) → Busy m → 1 ≤ length (run g k m b) + length (move g j (after g k m b) g.start_block).says
  spoken [] k j m h = rw (after_none g k m) (omega (arith, interrupts j m h))
  spoken (x ∷ b) k j m h = rw (run_length k x m b, after-cons k x m b) (go (λ u. spoken b (k + 1) j (move g k m x).mode u) (stirs k x m h))
    where
      go : (Busy (move g k m x).mode → 1 ≤ length (run g (k + 1) (move g k m x).mode b) + length (move g j (after g (k + 1) (move g k m x).mode b) g.start_block).says)
          → (1 ≤ length (move g k m x).says) ⊎ Busy (move g k m x).mode
          → 1 ≤ length (move g k m x).says + length (run g (k + 1) (move g k m x).mode b) + length (move g j (after g (k + 1) (move g k m x).mode b) g.start_block).says
      go f (inl u) = omega arith
      go f (inr u) = omega (arith, f u)

  opened : (k : ℕ) (ys : List ℕ) → run g k between (g.start_block ∷ ys) ≡ run g (k + 1) (inside k []) ys
  unfolding run move
  opened k ys = rw (eq-eqb g.start_block g.start_block refl)

  -- a second SB, of a block that brings a verdict, comes after another verdict
  two_verdicts : (k : ℕ) (b zs : List ℕ) → 1 ≤ length (run g (k + 1 + length b) between (g.start_block ∷ zs))
      → 2 ≤ length (run g k between (g.start_block ∷ (b ++ g.start_block ∷ zs)))
  two_verdicts k b zs h =
      let j = k + 1 + length b in
      let m = after g (k + 1) (inside k []) b in
      let e : run g k between (g.start_block ∷ (b ++ g.start_block ∷ zs))
      ≡ run g (k + 1) (inside k []) b ++ ((move g j m g.start_block).says ++ run g j between (g.start_block ∷ zs)) =
      opened k (b ++ g.start_block ∷ zs) ∙ run-append g b (g.start_block ∷ zs) (k + 1) (inside k [])
      ∙ ap (λ (l : List Judged). run g (k + 1) (inside k []) b ++ l) (run_any g j m zs) in
      let s = spoken b (k + 1) j (inside k []) in_block in
      rw (e, length-append, length-append) (omega arith)

-- ---- the bytes that the check accepts
-- there was no verdict before the last byte, and one at it
record Single (l m : List Judged) (t n : ℕ) : Type 0 where
  said : Judged
  none : l ≡ []
  one : m ≡ said ∷ []
  is : said.verdict ≡ accepted_as t n

single : (l m : List Judged) (t n : ℕ) → only l m ≡ accepted_as t n → Single l m t n
single [] [] t n h = absurd (omega (arith, ap number_of h))
single [] (w ∷ []) t n h = record { said = w; none = refl; one = refl; is = h }
single [] (w ∷ v ∷ m) t n h = absurd (omega (arith, ap number_of h))
single (w ∷ l) m t n h = absurd (omega (arith, ap number_of h))

initial-append : (l : List ℕ) (y : ℕ) (ys : List ℕ) → initial (l ++ y ∷ ys) ≡ l ++ initial (y ∷ ys)
initial-append [] y ys = refl
initial-append (z ∷ []) y ys = refl
initial-append (z ∷ v ∷ l) y ys = ap (λ (m : List ℕ). z ∷ m) (initial-append (v ∷ l) y ys)

module _ (g : Settings) (v : valid g ≡ true) (xs : List ℕ) (w : Judged) (b : begins_with g.start_block xs ≡ true)
    (early : verdicts g (initial xs) ≡ []) (one : verdicts g xs ≡ w ∷ []) where
  -- nothing stands after the block
  none_after : (h : Stands g 0 xs w) (y : ℕ) (ys : List ℕ) → h.rest ≡ y ∷ ys → ⊥
  none_after h y ys e =
      let i : initial xs ≡ h.before ++ (framed g h.body ++ initial (y ∷ ys)) =
      ap initial (h.is ∙ ap (λ (l : List ℕ). h.before ++ (framed g h.body ++ l)) e ∙ sym (append_assoc h.before (framed g h.body) (y ∷ ys)))
      ∙ initial-append (h.before ++ framed g h.body) y ys ∙ append_assoc h.before (framed g h.body) (initial (y ∷ ys)) in
      let s : Stands g 0 (initial xs) w =
      record {
        before = h.before;
        body = h.body;
        rest = initial (y ∷ ys);
        type = h.type;
        content = h.content;
        is = i;
        form = h.form;
        fits = h.fits;
        says = h.says;
      } in
      mathlib.Core.List.Memᴰ.not-nil (rw early at (standing_accepted g v 0 between (initial xs) w s))

  -- and nothing before it
  none_before : (h : Stands g 0 xs w) (x : ℕ) (c : List ℕ) → h.before ≡ x ∷ c → ⊥
  none_before h x c e =
      let zs = (h.body ++ g.end_block ∷ 13 ∷ []) ++ h.rest in
      let i : xs ≡ x ∷ (c ++ g.start_block ∷ zs) = h.is ∙ ap (λ (l : List ℕ). l ++ (framed g h.body ++ h.rest)) e in
      let p : x ≡ g.start_block = eqb-true x g.start_block (rw i at b) in
      let r = good_reads g h.body h.type h.content (body_good g h.type h.content h.body v h.fits h.form) in
      let q : 1 ≤ length (run g (0 + 1 + length c) between (framed g h.body ++ h.rest)) = rw (r.verdict (0 + 1 + length c) h.rest) (omega arith) in
      let u : 2 ≤ length (verdicts g xs) = rw (i, p) (two_verdicts g 0 c zs q) in
      omega (arith, ap length one)

  whole_is : (t n : ℕ) → w.verdict ≡ accepted_as t n → (h : Stands g 0 xs w) → OneBlock g xs t n
  whole_is t n e h = go h.before h.rest refl refl
    where
      go : (p q : List ℕ) → h.before ≡ p → h.rest ≡ q → OneBlock g xs t n
      go (x ∷ c) q e₁ e₂ = absurd (none_before h x c e₁)
      go [] (y ∷ ys) e₁ e₂ = absurd (none_after h y ys e₂)
      go [] [] e₁ e₂ =
          let a : accepted_as h.type (length h.content) ≡ accepted_as t n = sym (ap (λ (z : Judged). z.verdict) h.says) ∙ e in
          let p : h.type ≡ t = ap type_of a in
          record {
            body = h.body;
            is = h.is ∙ ap (λ (l : List ℕ). l ++ (framed g h.body ++ h.rest)) e₁ ∙ ap (λ (l : List ℕ). framed g h.body ++ l) e₂ ∙ append-nil (framed g h.body);
            accepts = record { content = h.content; form = rw p at h.form; fits = h.fits; size = sym (ap length_of a) };
          }

only_in : (w : Judged) (l : List Judged) → l ≡ w ∷ [] → Memᴰ w l
only_in w l e = rw e (mathlib.Core.List.Memᴰ.head refl)

whole_sound : (g : Settings) (xs : List ℕ) (t n : ℕ) → valid g ≡ true → whole_of g xs ≡ accepted_as t n → OneBlock g xs t n
unfolding whole_of
whole_sound g xs t n v = go (begins_with g.start_block xs) refl
  where
    go : (p : Bool) → begins_with g.start_block xs ≡ p → cond p (only (verdicts g (initial xs)) (verdicts g xs)) (refused_by 5 0) ≡ accepted_as t n → OneBlock g xs t n
    go false e h = absurd (omega (arith, ap number_of h))
    go true e h =
        let s = single (verdicts g (initial xs)) (verdicts g xs) t n h in
        let m : Memᴰ s.said (verdicts g xs) = only_in s.said (verdicts g xs) s.one in
        whole_is g v xs s.said e s.none s.one t n s.is (accepted_stands g 0 xs s.said t n m s.is)

whole_complete : (g : Settings) (xs : List ℕ) (t n : ℕ) → valid g ≡ true → OneBlock g xs t n → whole_of g xs ≡ accepted_as t n
whole_complete g xs t n v h =
    let a = h.accepts in
    ap (whole_of g) h.is ∙ (good_reads g h.body t a.content (body_good g t a.content h.body v a.fits a.form)).whole ∙ ap (accepted_as t) (sym a.size)

-- "where the bytes begin with SB and give exactly one verdict, at their last byte": these are accepted exactly where they are one formatted block
pub whole_exactly : (g : Settings) (xs : List ℕ) (t n : ℕ) → valid g ≡ true → (whole_of g xs ≡ accepted_as t n) ↔ OneBlock g xs t n
whole_exactly g xs t n v = (whole_sound g xs t n v, whole_complete g xs t n v)

refused-not : (t n : ℕ) → refused_by 1 0 ≡ accepted_as t n → ⊥
refused-not t n e = omega (arith, ap number_of e)

-- the check as the line driver calls it: also the settings have to be valid (1)
pub check_exactly : (g : Settings) (xs : List ℕ) (t n : ℕ) → (check_of g xs ≡ accepted_as t n) ↔ ((valid g ≡ true) × OneBlock g xs t n)
check_exactly g xs t n = (go (valid g) refl, λ (h : (valid g ≡ true) × OneBlock g xs t n). sym (check-judged g xs h.0) ∙ whole_complete g xs t n h.0 h.1)
  where
    go : (p : Bool) → valid g ≡ p → check_of g xs ≡ accepted_as t n → (valid g ≡ true) × OneBlock g xs t n
    go false e h = absurd (refused-not t n (check_setting g xs e ∙ h))
    go true e h = (e, whole_sound g xs t n e (check-judged g xs e ∙ h))
