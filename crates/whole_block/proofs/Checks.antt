-- The ways in which the check of a whole block returns.
use Rattle.refusal.specs.Refusal.{refused_by}
use mathlib.Core.Path.{◌≡◌, refl, sym, ap, ◌∙◌}
use mathlib.Core.List.{List, [], ◌∷◌, ◌++◌, append_assoc, append-nil}
use mathlib.Core.Bool.{Bool, true, false, cond, false≢true}
use Prim.Native.Nat.{ℕ, ◌+◌, ◌≤◌, ◌<◌, ◌-◌}
use native.Mathlib.Nat.{add-sub_cancel_left}
use native.Mathlib.Omega.{arith}
use lib.ListN.{length, take, drop, get_or, take-append-drop, length-drop, length-take}
use Rattle.std.proofs.lemmas.Grind.{common_steps}
use lib.Seq.{drop-drop}
use lib.Dec.{eqb}
use borrow.Author.Tests.{eq-eqb, ne_eqb, eqb-true, eqb-false}
use Rattle.lists.proofs.Parts.{drop_more, drop_none}
use Rattle.lists.specs.Bytes.{has_any, clear}
use Rattle.lists.proofs.Search.{clear_free}
use Rattle.stream.proofs.Run.{run_none, run_says, run-append, free_run, free_after}
use Rattle.stream.proofs.Store.{Stopped, stopped, stop_byte}
use Rattle.stream.specs.Stream.{Judged, Mode, between, inside, ended, judged, move, run, end_verdict, verdicts}
use Rattle.settings.specs.Settings.{valid}
use Rattle.settings.specs.declared.Settings.{Settings}
use Rattle.whole_block.specs.Whole.{begins_with, only, initial, whole_of, check_of}

-- ---- all bytes but the last
pub initial_last : (l : List ℕ) (x : ℕ) → initial (l ++ x ∷ []) ≡ l
initial_last [] x = refl
initial_last (y ∷ []) x = refl
initial_last (y ∷ z ∷ l) x = ap (λ (m : List ℕ). y ∷ m) (initial_last (z ∷ l) x)

initial_longer : (l : List ℕ) (x y : ℕ) (ys : List ℕ) → initial (l ++ x ∷ y ∷ ys) ≡ l ++ x ∷ initial (y ∷ ys)
initial_longer [] x y ys = refl
initial_longer (z ∷ []) x y ys = refl
initial_longer (z ∷ w ∷ l) x y ys = ap (λ (m : List ℕ). z ∷ m) (initial_longer (w ∷ l) x y ys)

only_none : (l : List Judged) → (refused_by 5 0) ≡ only l []
only_none [] = refl
only_none (w ∷ l) = refl

begins-append : (sb : ℕ) (p ys : List ℕ) → begins_with sb p ≡ true → begins_with sb (p ++ ys) ≡ true
begins-append sb [] ys e = absurd (false≢true e)
begins-append sb (x ∷ p) ys e = e

-- p begins with SB, brings no verdict and leads to the mode m
module _ (g : Settings) (p : List ℕ) (k : ℕ) (m : Mode) (b : begins_with g.start_block p ≡ true)
    (reach : (ys : List ℕ) → verdicts g (p ++ ys) ≡ run g k m ys) where
  whole : (ys : List ℕ) → whole_of g (p ++ ys) ≡ only (verdicts g (initial (p ++ ys))) (verdicts g (p ++ ys))
  unfolding whole_of
  whole ys = rw (begins-append g.start_block p ys b)

  none_yet : verdicts g p ≡ []
  none_yet = ap (λ (l : List ℕ). verdicts g l) (sym (append-nil p)) ∙ reach [] ∙ run_none g k m

  -- nothing more
  pub whole_unfinished : (refused_by 5 0) ≡ whole_of g p
  whole_unfinished =
      only_none (verdicts g (initial p)) ∙ ap (λ (l : List Judged). only (verdicts g (initial p)) l) (sym none_yet)
      ∙ sym (ap (λ (l : List ℕ). whole_of g l) (sym (append-nil p)) ∙ whole [] ∙ ap (λ (l : List ℕ). only (verdicts g (initial l)) (verdicts g l)) (append-nil p))

  -- one byte more, with which the verdict comes
  pub whole_one : (x : ℕ) (w : Judged) (n : Mode) → move g k m x ≡ record { says = w ∷ []; mode = n } → w.verdict ≡ whole_of g (p ++ x ∷ [])
  whole_one x w n e =
      let v : verdicts g (p ++ x ∷ []) ≡ w ∷ [] = reach (x ∷ []) ∙ run_says g k x m n w [] e ∙ ap (λ (l : List Judged). w ∷ l) (run_none g (k + 1) n) in
      sym (whole (x ∷ []) ∙ ap (λ (l : List ℕ). only (verdicts g l) (verdicts g (p ++ x ∷ []))) (initial_last p x)
      ∙ ap (λ (l : List Judged). only l (verdicts g (p ++ x ∷ []))) none_yet ∙ ap (λ (l : List Judged). only [] l) v)

  -- more bytes after that
  pub whole_early : (x y : ℕ) (ys : List ℕ) (w : Judged) (n : Mode) → move g k m x ≡ record { says = w ∷ []; mode = n }
      → (refused_by 5 0) ≡ whole_of g (p ++ x ∷ y ∷ ys)
  whole_early x y ys w n e =
      let v : verdicts g (p ++ x ∷ initial (y ∷ ys)) ≡ w ∷ run g (k + 1) n (initial (y ∷ ys)) = reach (x ∷ initial (y ∷ ys)) ∙ run_says g k x m n w (initial (y ∷ ys)) e in
      sym (whole (x ∷ y ∷ ys) ∙ ap (λ (l : List ℕ). only (verdicts g l) (verdicts g (p ++ x ∷ y ∷ ys))) (initial_longer p x y ys)
      ∙ ap (λ (l : List Judged). only l (verdicts g (p ++ x ∷ y ∷ ys))) v)

-- ---- SB, a body without SB and EB, and then EB
module _ (g : Settings) (body : List ℕ) (free : has_any g.start_block g.end_block body ≡ false) where
  begun : (ys : List ℕ) → verdicts g (g.start_block ∷ body ++ ys) ≡ run g 1 (inside 0 []) (body ++ ys)
  unfolding run move
  begun ys = rw (eq-eqb g.start_block g.start_block refl)

  pub reach_body : (ys : List ℕ) → verdicts g (g.start_block ∷ body ++ ys) ≡ run g (1 + length body) (inside 0 body) ys
  reach_body ys =
      begun ys ∙ run-append g body ys 1 (inside 0 [])
      ∙ rw (free_run g body [] 1 0 free, free_after g body [] 1 0 free)

  ends : eqb g.end_block g.start_block ≡ false → (ys : List ℕ)
      → run g (1 + length body) (inside 0 body) (g.end_block ∷ ys) ≡ run g (1 + length body + 1) (ended 0 body) ys
  unfolding run move
  ends e ys = rw (e, eq-eqb g.end_block g.end_block refl)

  pub reach_end : eqb g.end_block g.start_block ≡ false → (ys : List ℕ)
      → verdicts g (g.start_block ∷ body ++ g.end_block ∷ [] ++ ys) ≡ run g (1 + length body + 1) (ended 0 body) ys
  reach_end e ys =
      ap (λ (l : List ℕ). verdicts g l) (append_assoc (g.start_block ∷ body) (g.end_block ∷ []) ys)
      ∙ reach_body (g.end_block ∷ ys) ∙ ends e ys

pub move_interrupted : (g : Settings) (k s : ℕ) (body : List ℕ)
    → move g k (inside s body) g.start_block ≡ record { says = judged g s (refused_by 8 0) body ∷ []; mode = inside k [] }
unfolding move
move_interrupted g k s body = rw (eq-eqb g.start_block g.start_block refl)

pub move-ended : (g : Settings) (k s x : ℕ) (body : List ℕ)
    → move g k (ended s body) x ≡ record { says = judged g s (end_verdict g body x) body ∷ []; mode = cond (eqb x g.start_block) (inside k []) between }
unfolding move
move-ended g k s x body = refl

-- ---- bytes that begin with SB, searched up to place 1 + m
pub record Begins (g : Settings) (xs : List ℕ) (m : ℕ) : Type 0 where
  pub long : 0 < length xs
  pub first : get_or xs 0 0 ≡ g.start_block
  pub stop : Stopped g.start_block g.end_block xs 1 m

module _ (g : Settings) (xs : List ℕ) (m : ℕ) (h : Begins g xs m) where
  body : List ℕ
  body = take m (drop 1 xs)

  free : has_any g.start_block g.end_block body ≡ false
  unfolding body
  free = rw h.stop.is (clear_free g.start_block g.end_block (drop 1 xs))

  split : xs ≡ g.start_block ∷ body ++ drop (1 + m) xs
  unfolding body
  split =
      drop_more xs 0 h.long ∙ ap (λ (x : ℕ). x ∷ drop 1 xs) h.first
      ∙ ap (λ (l : List ℕ). g.start_block ∷ l) (sym (take-append-drop m (drop 1 xs)) ∙ ap (λ (l : List ℕ). take m (drop 1 xs) ++ l) (drop-drop m 1 xs))

  -- with what follows the body written out
  split_with : (l : List ℕ) → drop (1 + m) xs ≡ l → xs ≡ g.start_block ∷ body ++ l
  split_with l e = split ∙ ap (λ (r : List ℕ). g.start_block ∷ body ++ r) e

  same_block : eqb g.start_block g.start_block ≡ true
  same_block = eq-eqb g.start_block g.start_block refl

  stop_is : 1 + m < length xs → (l : List ℕ) → (x : ℕ) → get_or xs (1 + m) 0 ≡ x → drop (1 + m + 1) xs ≡ l → drop (1 + m) xs ≡ x ∷ l
  stop_is u l x e f = drop_more xs (1 + m) u ∙ rw (e, f)

  pub check_unfinished : 1 + m ≡ length xs → (refused_by 5 0) ≡ whole_of g xs
  check_unfinished e =
      whole_unfinished g (g.start_block ∷ body) (1 + length body) (inside 0 body) same_block (reach_body g body free)
      ∙ ap (λ (l : List ℕ). whole_of g l) (sym (split_with [] (drop_none xs (1 + m) (omega arith)) ∙ append-nil (g.start_block ∷ body)))

  pub check_interrupted : get_or xs (1 + m) 0 ≡ g.start_block → 1 + m + 1 ≡ length xs → (refused_by 8 0) ≡ whole_of g xs
  check_interrupted e l =
      whole_one g (g.start_block ∷ body) (1 + length body) (inside 0 body) same_block (reach_body g body free)
      g.start_block (judged g 0 (refused_by 8 0) body) _ (move_interrupted g (1 + length body) 0 body)
      ∙ ap (λ (z : List ℕ). whole_of g z) (sym (split_with (g.start_block ∷ []) (stop_is (omega arith) [] _ e (drop_none xs (1 + m + 1) (omega arith)))))

  pub check_interrupted_early : get_or xs (1 + m) 0 ≡ g.start_block → 1 + m + 1 < length xs → (refused_by 5 0) ≡ whole_of g xs
  check_interrupted_early e l =
      whole_early g (g.start_block ∷ body) (1 + length body) (inside 0 body) same_block (reach_body g body free)
      g.start_block (get_or xs (1 + m + 1) 0) (drop (1 + m + 1 + 1) xs) (judged g 0 (refused_by 8 0) body) _ (move_interrupted g (1 + length body) 0 body)
      ∙ ap (λ (z : List ℕ). whole_of g z) (sym (split_with _ (stop_is (omega arith) _ _ e (drop_more xs (1 + m + 1) l))))

  module _ (f : get_or xs (1 + m) 0 ≡ g.start_block → ⊥) (e : get_or xs (1 + m) 0 ≡ g.end_block) where
    apart : eqb g.end_block g.start_block ≡ false
    apart = ne_eqb _ _ (λ q. f (e ∙ q))

    closed : (l : List ℕ) → 1 + m < length xs → drop (1 + m + 1) xs ≡ l → xs ≡ g.start_block ∷ body ++ g.end_block ∷ [] ++ l
    closed l u q = split_with _ (stop_is u l g.end_block e q) ∙ sym (append_assoc (g.start_block ∷ body) (g.end_block ∷ []) l)

    pub check_open : 1 + m + 1 ≡ length xs → (refused_by 5 0) ≡ whole_of g xs
    check_open l =
        let after = drop_none xs (1 + m + 1) (omega arith) in
        whole_unfinished g (g.start_block ∷ body ++ g.end_block ∷ []) (1 + length body + 1) (ended 0 body) same_block (reach_end g body free apart)
        ∙ ap (λ (z : List ℕ). whole_of g z) (sym (closed [] (omega arith) after ∙ append-nil (g.start_block ∷ body ++ g.end_block ∷ [])))

    pub check_early : 1 + m + 1 + 1 < length xs → (refused_by 5 0) ≡ whole_of g xs
    check_early l =
        let after = drop_more xs (1 + m + 1) (omega arith) ∙ ap (λ (r : List ℕ). get_or xs (1 + m + 1) 0 ∷ r) (drop_more xs (1 + m + 1 + 1) l) in
        whole_early g (g.start_block ∷ body ++ g.end_block ∷ []) (1 + length body + 1) (ended 0 body) same_block (reach_end g body free apart)
        (get_or xs (1 + m + 1) 0) (get_or xs (1 + m + 1 + 1) 0) (drop (1 + m + 1 + 1 + 1) xs) _ _ (move-ended g (1 + length body + 1) 0 (get_or xs (1 + m + 1) 0) body)
        ∙ ap (λ (z : List ℕ). whole_of g z) (sym (closed _ (omega arith) after))

    pub check_verdict : 1 + m + 1 + 1 ≡ length xs → end_verdict g (take (1 + m - 1) (drop 1 xs)) (get_or xs (1 + m + 1) 0) ≡ whole_of g xs
    unfolding body
    check_verdict l =
        let after = drop_more xs (1 + m + 1) (omega arith) ∙ ap (λ (r : List ℕ). get_or xs (1 + m + 1) 0 ∷ r) (drop_none xs (1 + m + 1 + 1) (omega arith)) in
        ap (λ (n : ℕ). end_verdict g (take n (drop 1 xs)) (get_or xs (1 + m + 1) 0)) (add-sub_cancel_left 1 m)
        ∙ whole_one g (g.start_block ∷ body ++ g.end_block ∷ []) (1 + length body + 1) (ended 0 body) same_block (reach_end g body free apart)
        (get_or xs (1 + m + 1) 0) _ _ (move-ended g (1 + length body + 1) 0 (get_or xs (1 + m + 1) 0) body)
        ∙ ap (λ (z : List ℕ). whole_of g z) (sym (closed _ (omega arith) after))

  -- more than one byte after the one that the search stopped at
  pub check_longer : 1 + m + 1 + 1 < length xs → (refused_by 5 0) ≡ whole_of g xs
  check_longer l = go (eqb (get_or xs (1 + m) 0) g.start_block) refl
    where
      go : (b : Bool) → eqb (get_or xs (1 + m) 0) g.start_block ≡ b → (refused_by 5 0) ≡ whole_of g xs
      go true e = check_interrupted_early (eqb-true _ _ e) (omega (arith, l))
      go false e = let f = eqb-false _ _ e in check_early f (stop_byte _ _ xs 1 m h.stop (omega (arith, l)) f) l

-- bytes that do not begin with SB
pub whole_empty : (g : Settings) → (refused_by 5 0) ≡ whole_of g []
unfolding whole_of
whole_empty g = refl

pub whole_other : (g : Settings) (xs : List ℕ) → 0 < length xs → (get_or xs 0 0 ≡ g.start_block → ⊥) → (refused_by 5 0) ≡ whole_of g xs
unfolding whole_of
whole_other g [] l f = absurd (omega arith)
whole_other g (x ∷ xs) l f = rw (ne_eqb x g.start_block f)

pub whole_none : (g : Settings) (xs : List ℕ) → length xs ≡ 0 → (refused_by 5 0) ≡ whole_of g xs
whole_none g [] l = whole_empty g
whole_none g (x ∷ xs) l = absurd (omega arith)

pub check_setting : (g : Settings) (xs : List ℕ) → valid g ≡ false → refused_by 1 0 ≡ check_of g xs
unfolding check_of
check_setting g xs e = rw e

pub check-judged : (g : Settings) (xs : List ℕ) → valid g ≡ true → whole_of g xs ≡ check_of g xs
unfolding check_of
check-judged g xs e = rw e

-- the rest from place n on: how many bytes it has, and the first two
pub rest_length : (xs : List ℕ) (n : ℕ) → length (take (length xs - n) (drop n xs)) ≡ length xs - n
rest_length xs n = grind (arith, common_steps, length-drop, length-take)

pub rest_first : (xs : List ℕ) (n : ℕ) → n < length xs → get_or (take (length xs - n) (drop n xs)) 0 0 ≡ get_or xs n 0
rest_first xs n h = grind (arith, common_steps)

pub rest_second : (xs : List ℕ) (n : ℕ) → n + 1 < length xs → get_or (take (length xs - n) (drop n xs)) 1 0 ≡ get_or xs (n + 1) 0
rest_second xs n h = grind (arith, common_steps)

-- the same, from the place at which a search of all that follows SB stopped
module _ (g : Settings) (xs : List ℕ) (long : 0 < length xs) (first : get_or xs 0 0 ≡ g.start_block) where
  abbrev far : ℕ
  far = clear g.start_block g.end_block (take (length xs - 1) (drop 1 xs))

  began : Begins g xs far
  began = record { long = long; first = first; stop = stopped _ _ xs 1 far long refl }

  pub far_most : 1 + clear g.start_block g.end_block (take (length xs - 1) (drop 1 xs)) ≤ length xs
  far_most = began.stop.most

  pub found_unfinished : 1 + far ≡ length xs → whole_of g xs ≡ refused_by 5 0
  found_unfinished e = sym (check_unfinished g xs far began e)

  pub found_longer : 1 + far + 1 + 1 < length xs → whole_of g xs ≡ refused_by 5 0
  found_longer e = sym (check_longer g xs far began e)

  pub found_interrupted : get_or xs (1 + far) 0 ≡ g.start_block → 1 + far + 1 ≡ length xs → whole_of g xs ≡ refused_by 8 0
  found_interrupted e l = sym (check_interrupted g xs far began e l)

  pub found_interrupted_early : get_or xs (1 + far) 0 ≡ g.start_block → 1 + far + 1 < length xs → whole_of g xs ≡ refused_by 5 0
  found_interrupted_early e l = sym (check_interrupted_early g xs far began e l)

  pub found_open : (get_or xs (1 + far) 0 ≡ g.start_block → ⊥) → 1 + far + 1 ≡ length xs → whole_of g xs ≡ refused_by 5 0
  found_open f l = sym (check_open g xs far began f (stop_byte _ _ xs 1 far began.stop (omega (arith, l)) f) l)

  pub found_verdict : (get_or xs (1 + far) 0 ≡ g.start_block → ⊥) → 1 + far + 1 + 1 ≡ length xs
      → whole_of g xs ≡ end_verdict g (take (1 + far - 1) (drop 1 xs)) (get_or xs (1 + far + 1) 0)
  found_verdict f l = sym (check_verdict g xs far began f (stop_byte _ _ xs 1 far began.stop (omega (arith, l)) f) l)

pub ruleset verdict_cases = (rest_length, rest_first, rest_second, far_most, found_unfinished, found_longer, found_interrupted, found_interrupted_early, found_open, found_verdict)
