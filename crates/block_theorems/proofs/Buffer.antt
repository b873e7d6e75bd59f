-- Document 01, 'Reading a stream': "The buffer holds the current block's bytes between SB and EB, as many as fit in D + 12 (minimal: D); other bytes of it are unchanged."
use mathlib.Core.Path.{◌≡◌, refl, sym, ap, ◌∙◌}
use mathlib.Core.List.{List, [], ◌∷◌, ◌++◌}
use mathlib.Core.Bool.{true, false, cond, ◌||◌}
use Prim.Native.Nat.{ℕ, ◌+◌, ◌≤◌}
use native.Mathlib.Nat.{sub-zero}
use native.Mathlib.Omega.{arith}
use lib.ListN.{length, take, drop, set, length-set, length-append}
use lib.Seq.{drop-set-lt}
use lib.Dec.{eqb, ltb}
use borrow.Author.Tests.{eq-eqb, ltb-true, ltb-false}
use Rattle.lists.proofs.Tests.{or_left, or_right, cond_ind}
use Rattle.lists.specs.Bytes.{greatest_word, has_any, put}
use Rattle.settings.specs.Settings.{valid, capacity_of}
use Rattle.settings.specs.declared.Settings.{Settings}
use Rattle.stream.specs.Stream.{Mode, between, inside, ended, move, after, hold, held}
use Rattle.stream.specs.Scan.{fresh}
use Rattle.stream.specs.Internal.{stored}
use Rattle.stream.proofs.Run.{opens, grow, after-append, free_after}
use Rattle.stream.proofs.Steps.{stored_none, stored-fits, stored-over}
use Rattle.block_theorems.specs.Session.{session, joined}
use Rattle.block_theorems.proofs.Bytes.{valid_apart}
use Rattle.block_theorems.proofs.Parts.{held-append, session_buffer}

hold-length : (g : Settings) (m : Mode) (b : List ℕ) (x : ℕ) → length (hold g m b x) ≡ length b
unfolding hold
hold-length g between b x = refl
hold-length g (inside s body) b x =
    let P : List ℕ → Type 0 = λ l. length l ≡ length b in
    cond_ind P (eqb x g.start_block) _ _ (λ e. refl)
    (λ e. cond_ind P (eqb x g.end_block) _ _ (λ f. refl)
    (λ f. cond_ind P (ltb (length body) (capacity_of g)) _ _ (λ a. length-set b (length body) x) (λ a. refl)))
hold-length g (ended s body) b x = refl

hold_beyond : (g : Settings) (m : Mode) (b : List ℕ) (x : ℕ) → drop (capacity_of g) (hold g m b x) ≡ drop (capacity_of g) b
unfolding hold
hold_beyond g between b x = refl
hold_beyond g (inside s body) b x =
    let P : List ℕ → Type 0 = λ l. drop (capacity_of g) l ≡ drop (capacity_of g) b in
    cond_ind P (eqb x g.start_block) _ _ (λ e. refl)
    (λ e. cond_ind P (eqb x g.end_block) _ _ (λ f. refl)
    (λ f. cond_ind P (ltb (length body) (capacity_of g)) _ _ (λ a. drop-set-lt (capacity_of g) b (length body) x (ltb-true _ _ a)) (λ a. refl)))
hold_beyond g (ended s body) b x = refl

module _ (g : Settings) where
  pub held-length : (xs : List ℕ) (k : ℕ) (m : Mode) (b : List ℕ) → length (held g k m b xs) ≡ length b
  unfolding held
  held-length [] k m b = refl
  held-length (x ∷ xs) k m b = held-length xs (k + 1) (move g k m x).mode (hold g m b x) ∙ hold-length g m b x

  -- no byte past those that a block may have is ever changed
  pub held_beyond : (xs : List ℕ) (k : ℕ) (m : Mode) (b : List ℕ) → drop (capacity_of g) (held g k m b xs) ≡ drop (capacity_of g) b
  unfolding held
  held_beyond [] k m b = refl
  held_beyond (x ∷ xs) k m b = held_beyond xs (k + 1) (move g k m x).mode (hold g m b x) ∙ hold_beyond g m b x

  held_none : (k : ℕ) (m : Mode) (b : List ℕ) → held g k m b [] ≡ b
  unfolding held
  held_none k m b = refl

  -- ---- SB starts a block from any place, and is not stored
  not-stored : (m : Mode) (b : List ℕ) → hold g m b g.start_block ≡ b
  unfolding hold
  not-stored between b = refl
  not-stored (inside s body) b = rw (eq-eqb g.start_block g.start_block refl)
  not-stored (ended s body) b = refl

  held_start : (k : ℕ) (m : Mode) (b xs : List ℕ) → held g k m b (g.start_block ∷ xs) ≡ held g (k + 1) (inside k []) b xs
  unfolding held
  held_start k m b xs = rw (opens g k m, not-stored m b)

  -- ---- a byte of a block, neither SB nor EB
  stores_one : (s x : ℕ) (b body : List ℕ) → eqb x g.start_block ≡ false → eqb x g.end_block ≡ false
      → hold g (inside s body) b x ≡ cond (ltb (length body) (capacity_of g)) (set b (length body) x) b
  unfolding hold
  stores_one s x b body e f = rw (e, f)

  held_more : (k s x : ℕ) (b body xs : List ℕ) → eqb x g.start_block ≡ false → eqb x g.end_block ≡ false
      → held g k (inside s body) b (x ∷ xs)
      ≡ held g (k + 1) (inside s (body ++ x ∷ [])) (cond (ltb (length body) (capacity_of g)) (set b (length body) x) b) xs
  unfolding held
  held_more k s x b body xs e f = rw (grow g k s x body e f, stores_one s x b body e f)

  -- bytes of a block, with the bytes before them in the buffer as far as they fit
  held-stored : (xs body : List ℕ) (k s : ℕ) (b : List ℕ) → capacity_of g ≤ length b → has_any g.start_block g.end_block xs ≡ false
      → held g k (inside s body) b xs ≡ stored (capacity_of g) (length body) xs b
  held-stored [] body k s b enough h = held_none k (inside s body) b ∙ sym (stored_none (capacity_of g) (length body) b)
  held-stored (x ∷ xs) body k s b enough h =
      let sb = g.start_block in
      let eb = g.end_block in
      let cap = capacity_of g in
      let q = or_left (eqb x sb || eqb x eb) (has_any sb eb xs) h in
      let ih : (c : List ℕ) → cap ≤ length c → held g (k + 1) (inside s (body ++ x ∷ [])) c xs ≡ stored cap (length (body ++ x ∷ [])) xs c =
      λ c l. held-stored xs (body ++ x ∷ []) (k + 1) s c l (or_right (eqb x sb || eqb x eb) (has_any sb eb xs) h) in
      let n : length (body ++ x ∷ []) ≡ length body + 1 = length-append body (x ∷ []) in
      held_more k s x b body xs (or_left (eqb x sb) (eqb x eb) q) (or_right (eqb x sb) (eqb x eb) q)
      ∙ cond_ind (λ (c : List ℕ). held g (k + 1) (inside s (body ++ x ∷ [])) c xs ≡ stored cap (length body) (x ∷ xs) b) (ltb (length body) cap) _ _
      (λ e. ih (set b (length body) x) (simp length-set enough) ∙ rw n (stored-fits cap (length body) x xs b (ltb-true _ _ e) enough))
      (λ e. let l : cap ≤ length body = ltb-false _ _ e in
      ih b enough ∙ stored-over cap (length (body ++ x ∷ [])) xs b (omega arith) ∙ sym (stored-over cap (length body) (x ∷ xs) b l))

  -- ---- the current block
  stored_first : (cap : ℕ) (xs b : List ℕ) → stored cap 0 xs b ≡ put b 0 (take cap xs)
  unfolding stored
  stored_first cap xs b = rw sub-zero

  -- After any bytes xs, then SB, then bytes of a block: the buffer is what it was before SB, with as many of them as fit written over its beginning.
  pub current_block : (xs body : List ℕ) (k : ℕ) (m : Mode) (b : List ℕ) → capacity_of g ≤ length b → has_any g.start_block g.end_block body ≡ false
      → held g k m b (xs ++ g.start_block ∷ body) ≡ put (held g k m b xs) 0 (take (capacity_of g) body)
  current_block xs body k m b enough h =
      held-append g xs (g.start_block ∷ body) k m b
      ∙ held_start (k + length xs) (after g k m xs) (held g k m b xs) body
      ∙ held-stored body [] (k + length xs + 1) (k + length xs) (held g k m b xs) (rw (held-length xs k m b) enough) h
      ∙ stored_first (capacity_of g) body (held g k m b xs)

  -- ---- after the block
  after_start : (k : ℕ) (m : Mode) (xs : List ℕ) → after g k m (g.start_block ∷ xs) ≡ after g (k + 1) (inside k []) xs
  unfolding after
  after_start k m xs = rw (opens g k m)

  mode_of : (xs body : List ℕ) (k : ℕ) (m : Mode) → has_any g.start_block g.end_block body ≡ false
      → after g k m (xs ++ g.start_block ∷ body) ≡ inside (k + length xs) body
  mode_of xs body k m h =
      after-append g xs (g.start_block ∷ body) k m ∙ after_start (k + length xs) (after g k m xs) body ∙ free_after g body [] (k + length xs + 1) (k + length xs) h

  -- outside a block nothing is stored
  outside : (xs : List ℕ) (k : ℕ) (b : List ℕ) → has_any g.start_block g.start_block xs ≡ false → held g k between b xs ≡ b
  unfolding held move hold
  outside [] k b h = refl
  outside (x ∷ xs) k b h =
      let sb = g.start_block in
      rw (or_left (eqb x sb) (eqb x sb) (or_left (eqb x sb || eqb x sb) (has_any sb sb xs) h))
      (outside xs (k + 1) b (or_right (eqb x sb || eqb x sb) (has_any sb sb xs) h))

  after_end : (xs : List ℕ) (k s : ℕ) (b body : List ℕ) → has_any g.start_block g.start_block xs ≡ false → held g k (ended s body) b xs ≡ b
  unfolding held move hold
  after_end [] k s b body h = refl
  after_end (x ∷ xs) k s b body h =
      let sb = g.start_block in
      rw (or_left (eqb x sb) (eqb x sb) (or_left (eqb x sb || eqb x sb) (has_any sb sb xs) h))
      (outside xs (k + 1) b (or_right (eqb x sb || eqb x sb) (has_any sb sb xs) h))

  held_end : (xs : List ℕ) (k s : ℕ) (b body : List ℕ) → eqb g.end_block g.start_block ≡ false
      → has_any g.start_block g.start_block xs ≡ false → held g k (inside s body) b (g.end_block ∷ xs) ≡ b
  unfolding held move hold
  held_end xs k s b body e h = rw (e, eq-eqb g.end_block g.end_block refl) (after_end xs (k + 1) s b body h)

  -- The bytes of a block stay until the next SB.
  pub last_block : (xs body ys : List ℕ) (k : ℕ) (m : Mode) (b : List ℕ) → valid g ≡ true → capacity_of g ≤ length b
      → has_any g.start_block g.end_block body ≡ false → has_any g.start_block g.start_block ys ≡ false
      → held g k m b ((xs ++ g.start_block ∷ body) ++ g.end_block ∷ ys) ≡ put (held g k m b xs) 0 (take (capacity_of g) body)
  last_block xs body ys k m b v enough h f =
      let zs = xs ++ g.start_block ∷ body in
      held-append g zs (g.end_block ∷ ys) k m b
      ∙ ap (λ (n : Mode). held g (k + length zs) n (held g k m b zs) (g.end_block ∷ ys)) (mode_of xs body k m h)
      ∙ held_end ys (k + length zs) (k + length xs) (held g k m b zs) body (valid_apart g v).differ f
      ∙ current_block xs body k m b enough h

-- the same of a caller's buffer, in whatever parts the input came
pub session_current_block : (g : Settings) (parts : List (List ℕ)) (xs body b : List ℕ) → valid g ≡ true → capacity_of g ≤ length b
    → length (joined parts) ≤ greatest_word → has_any g.start_block g.end_block body ≡ false
    → joined parts ≡ xs ++ g.start_block ∷ body
    → (session g fresh b parts).buffer ≡ put (held g 0 between b xs) 0 (take (capacity_of g) body)
session_current_block g parts xs body b v enough l h e =
    session_buffer g b v enough parts l ∙ ap (held g 0 between b) e ∙ current_block g xs body 0 between b enough h
