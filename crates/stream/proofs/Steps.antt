-- Laws of the scan: a stretch without SB or EB, and what stands where it stops.
use Rattle.refusal.specs.Refusal.{refused_by}
use Rattle.std.specs.Prelude.{Some, None, Result, Ok}
use mathlib.Core.Path.{◌≡◌, refl, sym, ap, ◌∙◌}
use mathlib.Core.List.{List, [], ◌∷◌}
use mathlib.Core.Bool.{true, false, cond, ◌||◌}
use Prim.Native.Nat.{ℕ, suc, ◌+◌, ◌≤◌, ◌<◌, max, ◌-◌}
use native.Mathlib.Nat.{add-zero, add_assoc, max-eq_left, max-eq_right}
use native.Mathlib.Decide.{dec_le}
use native.Mathlib.Omega.{arith}
use lib.ListN.{length, take, drop, get_or, set, length-set}
use lib.Seq.{drop-drop, take-nil}
use lib.Dec.{eqb, ltb, leb}
use borrow.Author.Tests.{eq-eqb, ne_eqb, lt-ltb, le-ltb, le-leb, lt-leb, ltb-true, ltb-false, leb-true, leb-false}
use Rattle.lists.proofs.Tests.{or_left, or_right, cond_ind}
use Rattle.lists.proofs.Parts.{drop_more, drop_none}
use Rattle.lists.proofs.Put.{put_none, put-set}
use Rattle.lists.specs.Bytes.{clear}
use Rattle.refusal.specs.declared.Accepted.{Accepted}
use Rattle.refusal.specs.declared.Refusal.{Refusal}
use Rattle.settings.specs.Settings.{capacity_of}
use Rattle.settings.specs.declared.Settings.{Settings}
use Rattle.stream.specs.Scan.{Scan, scan, step, fold, stored_verdict}
use Rattle.stream.specs.Internal.{advanced, stored, from}
use Rattle.stream.specs.declared.Phase.{Phase}
use Rattle.stream.specs.declared.Phase.TheVariants.{Between, Inside, Ended}
use Rattle.stream.specs.declared.Reader.{Reader}

-- nothing is read after a verdict
pub fold_found : (g : Settings) (s : ℕ) (v : Result Accepted Refusal) (r : Reader) (b xs : List ℕ)
    → fold g (record { answer = Ok (Some (record { block_offset = s; verdict = v })); reader = r; buffer = b }) xs ≡ record { answer = Ok (Some (record { block_offset = s; verdict = v })); reader = r; buffer = b }
unfolding fold step
fold_found g s v r b [] = refl
fold_found g s v r b (x ∷ xs) = fold_found g s v r b xs

-- ---- counts and buffers
module _ (cap : ℕ) where
  pub advanced_none : (n : ℕ) → advanced cap n 0 ≡ n
  unfolding advanced
  advanced_none n =
      cond_ind (λ (m : ℕ). m ≡ n) (ltb cap n) _ _ (λ e. refl)
      (λ e. cond_ind (λ (m : ℕ). m ≡ n) (leb 0 (cap - n)) _ _ (λ f. omega arith) (λ f. absurd (omega (arith, leb-false))))

  -- one byte that fits, and then m more
  pub advanced-fits : (n m : ℕ) → n < cap → advanced cap (n + 1) m ≡ advanced cap n (suc m)
  unfolding advanced
  advanced-fits n m h =
      rw (le-ltb cap n (omega arith), le-ltb cap (n + 1) (omega arith))
      (cond_ind (λ (k : ℕ). k ≡ cond (leb (suc m) (cap - n)) (n + suc m) (cap + 1)) (leb m (cap - (n + 1))) _ _
      (λ e. let f : m ≤ cap - (n + 1) = leb-true _ _ e in rw (le-leb (suc m) (cap - n) (omega arith)) (omega arith))
      (λ e. let f : cap - (n + 1) < m = leb-false _ _ e in rw (lt-leb (suc m) (cap - n) (omega arith))))

  -- one byte that does not fit, and then m more
  pub advanced-over : (n m : ℕ) → cap ≤ n → advanced cap (max n (cap + 1)) m ≡ advanced cap n (suc m)
  unfolding advanced
  advanced-over n m h =
      cond_ind (λ (k : ℕ). cond (ltb cap (max n (cap + 1))) (max n (cap + 1)) (cond (leb m (cap - max n (cap + 1))) (max n (cap + 1) + m) (cap + 1)) ≡ k) (ltb cap n) _ _
      (λ e. let f : cap < n = ltb-true _ _ e in rw (max-eq_left {n = n} {m = cap + 1} (omega arith), lt-ltb cap n f))
      (λ e. let f : n ≤ cap = ltb-false _ _ e in
      rw (max-eq_right {n = n} {m = cap + 1} (omega arith), lt-ltb cap (cap + 1) (omega arith), lt-leb (suc m) (cap - n) (omega arith)))

  pub stored_none : (n : ℕ) (b : List ℕ) → stored cap n [] b ≡ b
  unfolding stored
  stored_none n b = rw take-nil (put_none b n)

  pub stored-fits : (n x : ℕ) (xs b : List ℕ) → n < cap → cap ≤ length b → stored cap (n + 1) xs (set b n x) ≡ stored cap n (x ∷ xs) b
  unfolding stored
  stored-fits n x xs b h l =
      let e : cap - n ≡ suc (cap - (n + 1)) = omega arith in
      rw e (put-set b (take (cap - (n + 1)) xs) n x (omega arith))

  pub stored-over : (n : ℕ) (xs b : List ℕ) → cap ≤ n → stored cap n xs b ≡ b
  unfolding stored
  stored-over n xs b h = let e : cap - n ≡ 0 = omega arith in rw e (put_none b n)

max_more : (n m c : ℕ) → c ≤ m → c ≤ max n m
max_more n m c h = go (dec_le n m)
  where
    go : Dec (n ≤ m) → c ≤ max n m
    go (yes l) = rw (max-eq_right l) h
    go (no l) = rw (max-eq_left {n = n} {m = m} (omega arith)) (omega arith)

-- ---- stretches
module _ (g : Settings) where
  fold_same : (p : Phase) (n m s k j : ℕ) (b d l : List ℕ) → n ≡ m → k ≡ j → b ≡ d
      → fold g (scan (Ok None) p n s k b) l ≡ fold g (scan (Ok None) p m s j d) l
  fold_same p n m s k j b d l e f h = rw (e, f, h)

  skipped : (x : ℕ) (xs b : List ℕ) (n s k : ℕ) → eqb x g.start_block ≡ false
      → fold g (scan (Ok None) Between n s k b) (x ∷ xs) ≡ fold g (scan (Ok None) Between n s (k + 1) b) xs
  unfolding fold step
  skipped x xs b n s k e = rw e

  -- between blocks, up to the next SB
  pub skip : (l b : List ℕ) (n s k : ℕ)
      → fold g (scan (Ok None) Between n s k b) l
      ≡ fold g (scan (Ok None) Between n s (k + clear g.start_block g.start_block l) b) (drop (clear g.start_block g.start_block l) l)
  skip [] b n s k = fold_same Between n n s k (k + 0) b b [] refl (sym (add-zero k)) refl
  skip (x ∷ xs) b n s k =
      let ih = skip xs b n s (k + 1) in
      let m = clear g.start_block g.start_block xs in
      cond_ind
      (λ (c : ℕ). fold g (scan (Ok None) Between n s k b) (x ∷ xs) ≡ fold g (scan (Ok None) Between n s (k + c) b) (drop c (x ∷ xs)))
      (eqb x g.start_block || eqb x g.start_block) 0 (suc m)
      (λ e. fold_same Between n n s k (k + 0) b b (x ∷ xs) refl (sym (add-zero k)) refl)
      (λ e. skipped x xs b n s k (or_left _ _ e) ∙ ih ∙ fold_same Between n n s (k + 1 + m) (k + suc m) b b _ refl (omega arith) refl)

  -- one byte inside a block that is neither SB nor EB
  kept : (x : ℕ) (xs b : List ℕ) (n s k : ℕ) → eqb x g.start_block ≡ false → eqb x g.end_block ≡ false
      → fold g (scan (Ok None) Inside n s k b) (x ∷ xs)
      ≡ fold g (cond (ltb n (capacity_of g)) (scan (Ok None) Inside (n + 1) s (k + 1) (set b n x)) (scan (Ok None) Inside (max n (capacity_of g + 1)) s (k + 1) b)) xs
  unfolding fold step
  kept x xs b n s k e f = rw (e, f)

  -- inside a block, up to the next SB or EB
  pub stretch : (l b : List ℕ) (n s k : ℕ) → capacity_of g ≤ length b
      → let cap = capacity_of g in
      let m = clear g.start_block g.end_block l in
      fold g (scan (Ok None) Inside n s k b) l
      ≡ fold g (scan (Ok None) Inside (advanced cap n m) s (k + m) (stored cap n (take m l) b)) (drop m l)
  stretch [] b n s k h =
      fold_same Inside n _ s k _ b _ [] (sym (advanced_none (capacity_of g) n)) (sym (add-zero k)) (sym (stored_none (capacity_of g) n b))
  stretch (x ∷ xs) b n s k h =
      let c = clear g.start_block g.end_block xs in
      let cap = capacity_of g in
      let ih-fits = stretch xs (set b n x) (n + 1) s (k + 1) (simp length-set h) in
      let ih-over = stretch xs b (max n (cap + 1)) s (k + 1) h in
      cond_ind
      (λ (m : ℕ). fold g (scan (Ok None) Inside n s k b) (x ∷ xs) ≡ fold g (scan (Ok None) Inside (advanced cap n m) s (k + m) (stored cap n (take m (x ∷ xs)) b)) (drop m (x ∷ xs)))
      (eqb x g.start_block || eqb x g.end_block) 0 (suc c)
      (λ e. fold_same Inside n _ s k _ b _ (x ∷ xs) (sym (advanced_none cap n)) (sym (add-zero k)) (sym (stored_none cap n b)))
      (λ e. kept x xs b n s k (or_left (eqb x g.start_block) (eqb x g.end_block) e) (or_right (eqb x g.start_block) (eqb x g.end_block) e)
      ∙ cond_ind (λ (t : Scan). fold g t xs ≡ fold g (scan (Ok None) Inside (advanced cap n (suc c)) s (k + suc c) (stored cap n (x ∷ take c xs) b)) (drop c xs))
      (ltb n cap) _ _
      (λ f. let lt : n < cap = ltb-true _ _ f in
      ih-fits ∙ fold_same Inside _ _ s (k + 1 + c) (k + suc c) _ _ (drop c xs) (advanced-fits cap n c lt) (omega arith) (stored-fits cap n x (take c xs) b lt h))
      (λ f. let ge : cap ≤ n = ltb-false _ _ f in
      ih-over ∙ fold_same Inside _ _ s (k + 1 + c) (k + suc c) _ _ (drop c xs) (advanced-over cap n c ge) (omega arith)
      (stored-over cap (max n (cap + 1)) (take c xs) b (max_more n (cap + 1) cap (omega arith)) ∙ sym (stored-over cap n (x ∷ take c xs) b ge))))

-- ---- one byte
module _ (g : Settings) (x : ℕ) (xs b : List ℕ) (n s k : ℕ) where
  one_opens : eqb x g.start_block ≡ true
      → fold g (scan (Ok None) Between n s k b) (x ∷ xs) ≡ fold g (scan (Ok None) Inside 0 k (k + 1) b) xs
  unfolding fold step
  one_opens e = rw e

  one_interrupts : eqb x g.start_block ≡ true → fold g (scan (Ok None) Inside n s k b) (x ∷ xs) ≡ scan (Ok (Some (record { block_offset = s; verdict = refused_by 8 0 }))) Inside 0 k (k + 1) b
  unfolding fold step
  one_interrupts e = rw e (fold_found g s (refused_by 8 0) _ b xs)

  one_ends : eqb x g.start_block ≡ false → eqb x g.end_block ≡ true
      → fold g (scan (Ok None) Inside n s k b) (x ∷ xs) ≡ fold g (scan (Ok None) Ended n s (k + 1) b) xs
  unfolding fold step
  one_ends e f = rw (e, f)

  one_reopens : eqb x g.start_block ≡ true
      → fold g (scan (Ok None) Ended n s k b) (x ∷ xs) ≡ scan (Ok (Some (record { block_offset = s; verdict = stored_verdict g n b x }))) Inside 0 k (k + 1) b
  unfolding fold step
  one_reopens e = rw e (fold_found g s (stored_verdict g n b x) _ b xs)

  one_closes : eqb x g.start_block ≡ false
      → fold g (scan (Ok None) Ended n s k b) (x ∷ xs) ≡ scan (Ok (Some (record { block_offset = s; verdict = stored_verdict g n b x }))) Between 0 0 (k + 1) b
  unfolding fold step
  one_closes e = rw e (fold_found g s (stored_verdict g n b x) _ b xs)

-- ---- from a place of the part on
module _ (g : Settings) (xs b : List ℕ) (n s k : ℕ) where
  pub from_end : (p : Phase) (i : ℕ) → length xs ≤ i → from g p n s k b i xs ≡ scan (Ok None) p n s (k + i) b
  unfolding from fold
  from_end p i h = rw (drop_none xs i h)

  pub from_skip : from g Between n s k b 0 xs ≡ from g Between n s k b (clear g.start_block g.start_block xs) xs
  unfolding from
  from_skip = fold_same g Between n n s (k + 0) k b b xs refl (add-zero k) refl ∙ skip g xs b n s k

  -- the byte at j, and then those after it
  at_offset : (p : Phase) (j : ℕ) → j < length xs
      → from g p n s k b j xs ≡ fold g (scan (Ok None) p n s (k + j) b) (get_or xs j 0 ∷ drop (j + 1) xs)
  unfolding from
  at_offset p j h = ap (λ (l : List ℕ). fold g (scan (Ok None) p n s (k + j) b) l) (drop_more xs j h)

  pub from-opens : (j : ℕ) → j < length xs → get_or xs j 0 ≡ g.start_block → from g Between n s k b j xs ≡ from g Inside 0 (k + j) k b (j + 1) xs
  unfolding from
  from-opens j h e =
      at_offset Between j h ∙ one_opens g _ (drop (j + 1) xs) b n s (k + j) (eq-eqb _ _ e)
      ∙ fold_same g Inside 0 0 (k + j) _ _ b b _ refl (add_assoc k j 1) refl

  pub from_stretch : (i : ℕ) → capacity_of g ≤ length b
      → let cap = capacity_of g in
      let m = clear g.start_block g.end_block (drop i xs) in
      from g Inside n s k b i xs ≡ from g Inside (advanced cap n m) s k (stored cap n (take m (drop i xs)) b) (i + m) xs
  unfolding from
  from_stretch i h =
      let cap = capacity_of g in
      let m = clear g.start_block g.end_block (drop i xs) in
      stretch g (drop i xs) b n s (k + i) h
      ∙ ap (λ (l : List ℕ). fold g (scan (Ok None) Inside (advanced cap n m) s (k + i + m) (stored cap n (take m (drop i xs)) b)) l) (drop-drop m i xs)
      ∙ fold_same g Inside _ _ s _ _ _ _ _ refl (add_assoc k i m) refl

  pub from_interrupted : (j : ℕ) → j < length xs → get_or xs j 0 ≡ g.start_block
      → from g Inside n s k b j xs ≡ scan (Ok (Some (record { block_offset = s; verdict = refused_by 8 0 }))) Inside 0 (k + j) (k + j + 1) b
  from_interrupted j h e = at_offset Inside j h ∙ one_interrupts g _ (drop (j + 1) xs) b n s (k + j) (eq-eqb _ _ e)

  pub from_ends : (j : ℕ) → j < length xs → (get_or xs j 0 ≡ g.start_block → ⊥) → get_or xs j 0 ≡ g.end_block
      → from g Inside n s k b j xs ≡ from g Ended n s k b (j + 1) xs
  unfolding from
  from_ends j h e f =
      at_offset Inside j h ∙ one_ends g _ (drop (j + 1) xs) b n s (k + j) (ne_eqb _ _ e) (eq-eqb _ _ f)
      ∙ fold_same g Ended n n s _ _ b b _ refl (add_assoc k j 1) refl

  pub from_reopens : (j : ℕ) → j < length xs → get_or xs j 0 ≡ g.start_block
      → from g Ended n s k b j xs ≡ scan (Ok (Some (record { block_offset = s; verdict = stored_verdict g n b (get_or xs j 0) }))) Inside 0 (k + j) (k + j + 1) b
  from_reopens j h e = at_offset Ended j h ∙ one_reopens g _ (drop (j + 1) xs) b n s (k + j) (eq-eqb _ _ e)

  pub from_closes : (j : ℕ) → j < length xs → (get_or xs j 0 ≡ g.start_block → ⊥)
      → from g Ended n s k b j xs ≡ scan (Ok (Some (record { block_offset = s; verdict = stored_verdict g n b (get_or xs j 0) }))) Between 0 0 (k + j + 1) b
  from_closes j h e = at_offset Ended j h ∙ one_closes g _ (drop (j + 1) xs) b n s (k + j) (ne_eqb _ _ e)

pub ruleset ended_cases = (from_end, from_reopens, from_closes)
