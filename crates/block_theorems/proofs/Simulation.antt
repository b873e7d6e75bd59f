-- One call of the reader against the definition for the whole input: a relation between the reader's state with its buffer and the place in the whole input, and that each byte keeps it.
use Rattle.std.specs.Prelude.{Option, Some, None, Result, Ok, Err}
use mathlib.Core.Path.{◌≡◌, refl, sym, ap, ◌∙◌}
use mathlib.Core.List.{List, [], ◌∷◌, ◌++◌, append-nil}
use mathlib.Core.Bool.{Bool, true, false}
use Prim.Native.Nat.{ℕ, suc, ◌+◌, ◌≤◌, ◌<◌, max, ◌-◌}
use native.Mathlib.Numerals.{add-one}
use native.Mathlib.Nat.{add-zero, max-eq_right}
use native.Mathlib.Omega.{arith}
use lib.ListN.{length, take, set, length-set, length-append}
use lib.Seq.{take-suc-set, take-append-le, take_at}
use lib.Dec.{eqb, ltb}
use borrow.Author.Tests.{lt-ltb, le-ltb, ltb-true, ltb-false}
use Rattle.lists.specs.Bytes.{greatest_word}
use Rattle.lists.proofs.Tests.{cond_ind}
use Rattle.settings.specs.Settings.{valid, capacity_of, data_offset_of}
use Rattle.refusal.specs.Refusal.{length_of, refused_by}
use Rattle.settings.specs.declared.Settings.{Settings}
use Rattle.refusal.specs.declared.Accepted.{Accepted}
use Rattle.refusal.specs.declared.Refusal.{Refusal}
use Rattle.stream.specs.Stream.{Judged, Mode, between, inside, ended, Moved, judged, end_verdict, move, run, after, hold, held}
use Rattle.block.specs.Content.{content_of}
use Rattle.stream.specs.Scan.{Scan, stored_verdict, phase_step, step, fold, read_of}
use Rattle.stream.specs.declared.Phase.{Phase}
use Rattle.stream.specs.declared.Phase.TheVariants.{Between, Inside, Ended}
use Rattle.stream.specs.declared.Reader.{Reader}
use Rattle.stream.specs.declared.Found.{Found}
use Rattle.stream.proofs.Steps.{fold_found}
use Rattle.stream.proofs.Returns.{read_scan}
use Rattle.block_theorems.specs.Session.{spoken}
use Rattle.block_theorems.proofs.Content.{Lies, none, judge_lies, content_none, content_same}

-- n was counted of a block with these bytes: they are in the buffer; or they are more than fit, and those that fit are in the buffer
pub data Holds (cap n : ℕ) (b body : List ℕ) : Type 0 where
  fits : n ≡ length body → n ≤ cap → take n b ≡ body → Holds cap n b body
  over : n ≡ cap + 1 → cap < length body → take cap b ≡ take cap body → Holds cap n b body

pub data Related (cap : ℕ) (b : List ℕ) : Phase → ℕ → ℕ → Mode → Type 0 where
  is_between : Related cap b Between 0 0 between
  is_inside : {n s : ℕ} {body : List ℕ} → Holds cap n b body → Related cap b Inside n s (inside s body)
  is-ended : {n s : ℕ} {body : List ℕ} → Holds cap n b body → Related cap b Ended n s (ended s body)

-- the reader, with its buffer, stands at offset k of an input, in the mode m
pub record Stands (g : Settings) (k : ℕ) (m : Mode) (r : Reader) (b : List ℕ) : Type 0 where
  pub position : r.position ≡ k
  pub enough : capacity_of g ≤ length b
  pub related : Related (capacity_of g) b r.phase r.body_length r.block_offset m

-- an answer of a call that was not refused
pub data Live : Result (Option Found) Refusal → Type 0 where
  pending : Live (Ok None)
  found : {s : ℕ} {v : Result Accepted Refusal} → Live (Ok (Some (record { block_offset = s; verdict = v })))

-- one byte, read at offset k with the buffer b: what it brings is what the definition says, which gives the buffer as h
pub record Follows (g : Settings) (k : ℕ) (u : Moved) (h : List ℕ) (t : Scan) : Type 0 where
  pub live : Live t.answer
  pub says : spoken g t.answer t.buffer ≡ u.says
  pub stands : Stands g (k + 1) u.mode t.reader t.buffer
  pub buffer : t.buffer ≡ h

by_test : {A : Type 0} (q : Bool) → (q ≡ true → A) → (q ≡ false → A) → A
by_test true f g = f refl
by_test false f g = g refl

-- ---- the bytes of a block
holds_none : (cap : ℕ) (b : List ℕ) → Holds cap 0 b []
holds_none cap b = fits refl (omega arith) refl

length_more : (body : List ℕ) (x : ℕ) → length (body ++ x ∷ []) ≡ length body + 1
length_more body x = length-append body (x ∷ [])

-- whether a byte fits is the same test on both sides
same_space : (cap n : ℕ) (b body : List ℕ) → Holds cap n b body → ltb (length body) cap ≡ ltb n cap
same_space cap n b body (fits e l t) = rw e
same_space cap n b body (over l m t) = le-ltb (length body) cap (omega arith) ∙ sym (le-ltb n cap (omega arith))

same_start : (cap n : ℕ) (b body : List ℕ) → Holds cap n b body → n < cap → n ≡ length body
same_start cap n b body (fits e l t) h = e
same_start cap n b body (over l m t) h = absurd (omega arith)

stores : (cap n x : ℕ) (b body : List ℕ) → cap ≤ length b → n < cap → Holds cap n b body → Holds cap (n + 1) (set b n x) (body ++ x ∷ [])
stores cap n x b body r h (fits e l t) =
    fits (omega (arith, length_more body x)) (omega arith)
    (rw add-one (take-suc-set b n x (omega arith) ∙ ap (λ (z : List ℕ). z ++ x ∷ []) t))
stores cap n x b body r h (over l m t) = absurd (omega arith)

passes : (cap n x : ℕ) (b body : List ℕ) → cap ≤ n → Holds cap n b body → Holds cap (max n (cap + 1)) b (body ++ x ∷ [])
passes cap n x b body h (fits e l t) =
    let f : n ≡ cap = omega arith in
    over (max-eq_right (omega arith)) (omega (arith, length_more body x))
    (ap (λ (i : ℕ). take i b) (sym f) ∙ t ∙ sym (take_at body (x ∷ []) cap (omega arith)))
passes cap n x b body h (over l m t) =
    over (max-eq_right (omega arith)) (omega (arith, length_more body x)) (t ∙ sym (take-append-le cap body (x ∷ []) (omega arith)))

-- ---- the verdict
same_verdict : (g : Settings) (n x : ℕ) (b body : List ℕ) → Holds (capacity_of g) n b body → stored_verdict g n b x ≡ end_verdict g body x
unfolding stored_verdict end_verdict
same_verdict g n x b body (fits e l t) = rw (t, e)
same_verdict g n x b body (over l m t) = rw (lt-ltb (capacity_of g) n (omega arith), lt-ltb (capacity_of g) (length body) m)

outcome_lies : (g : Settings) (x : ℕ) (body : List ℕ) → Lies (data_offset_of g) (length body) (end_verdict g body x)
unfolding end_verdict
outcome_lies g x body =
    cond_ind (Lies (data_offset_of g) (length body)) (ltb (capacity_of g) (length body)) _ _ (λ e. none refl)
    (λ e. cond_ind (Lies (data_offset_of g) (length body)) (eqb x 13) _ _ (λ f. judge_lies g body) (λ f. none refl))

long_none : (g : Settings) (x : ℕ) (body : List ℕ) → capacity_of g < length body → length_of (end_verdict g body x) ≡ 0
unfolding end_verdict
long_none g x body m = rw (lt-ltb (capacity_of g) (length body) m)

same_content : (g : Settings) (n x : ℕ) (b body : List ℕ) → Holds (capacity_of g) n b body → content_of g (end_verdict g body x) b ≡ content_of g (end_verdict g body x) body
same_content g n x b body (fits e l t) =
    content_same g (end_verdict g body x) (length body) b (outcome_lies g x body) ∙ ap (content_of g (end_verdict g body x)) (ap (λ (i : ℕ). take i b) (sym e) ∙ t)
same_content g n x b body (over l m t) = content_none g (end_verdict g body x) b body (long_none g x body m)

-- the verdict after EB, as it is noted
same_said : (g : Settings) (n s x : ℕ) (b body : List ℕ) → Holds (capacity_of g) n b body
    → judged g s (stored_verdict g n b x) b ≡ judged g s (end_verdict g body x) body
same_said g n s x b body h =
    ap (λ (v : Result Accepted Refusal). judged g s v b) (same_verdict g n x b body h)
    ∙ ap (λ (c : List ℕ). record { offset = s; verdict = end_verdict g body x; content = c }) (same_content g n x b body h)

-- ---- one byte
module _ (g : Settings) (n s k x : ℕ) (b : List ℕ) (enough : capacity_of g ≤ length b) where
  at_start : Stands g (k + 1) (inside k []) (record { phase = Inside; body_length = 0; block_offset = k; position = k + 1 }) b
  at_start = record { position = refl; enough = enough; related = is_inside (holds_none (capacity_of g) b) }

  at_between : Stands g (k + 1) between (record { phase = Between; body_length = 0; block_offset = 0; position = k + 1 }) b
  at_between = record { position = refl; enough = enough; related = is_between }

  step_between : Follows g k (move g k between x) (hold g between b x) (phase_step g Between 0 0 k b x)
  unfolding move hold
  step_between =
      by_test (eqb x g.start_block)
      (λ e. rw e (record { live = pending; says = refl; stands = at_start; buffer = refl }))
      (λ e. rw e (record { live = pending; says = refl; stands = at_between; buffer = refl }))

  step-ended : (body : List ℕ) → Holds (capacity_of g) n b body
      → Follows g k (move g k (ended s body) x) (hold g (ended s body) b x) (phase_step g Ended n s k b x)
  unfolding move hold
  step-ended body h =
      let w = ap (λ (z : Judged). z ∷ []) (same_said g n s x b body h) in
      by_test (eqb x g.start_block)
      (λ e. rw e (record { live = found; says = w; stands = at_start; buffer = refl }))
      (λ e. rw e (record { live = found; says = w; stands = at_between; buffer = refl }))

  step_inside : (body : List ℕ) → Holds (capacity_of g) n b body
      → Follows g k (move g k (inside s body) x) (hold g (inside s body) b x) (phase_step g Inside n s k b x)
  unfolding move hold
  step_inside body h =
      by_test (eqb x g.start_block)
      (λ e. let w = ap (λ (c : List ℕ). record { offset = s; verdict = (refused_by 8 0); content = c } ∷ []) (content_none g (refused_by 8 0) b body refl) in
      rw e (record { live = found; says = w; stands = at_start; buffer = refl }))
      (λ e. by_test (eqb x g.end_block)
      (λ f. rw (e, f) (record { live = pending; says = refl; stands = record { position = refl; enough = enough; related = is-ended h }; buffer = refl }))
      (λ f. rw (e, f, same_space (capacity_of g) n b body h)
      (by_test (ltb n (capacity_of g))
      (λ a. let l : n < capacity_of g = ltb-true _ _ a in
      let c = stores (capacity_of g) n x b body enough l h in
      let stored = ap (λ (i : ℕ). set b i x) (same_start (capacity_of g) n b body h l) in
      rw a (record { live = pending; says = refl; stands = record { position = refl; enough = simp length-set enough; related = is_inside c }; buffer = stored }))
      (λ a. let l : capacity_of g ≤ n = ltb-false _ _ a in
      let c = passes (capacity_of g) n x b body l h in
      rw a (record { live = pending; says = refl; stands = record { position = refl; enough = enough; related = is_inside c }; buffer = refl })))))

one_byte : (g : Settings) (k x : ℕ) (m : Mode) (p : Phase) (n s : ℕ) (b : List ℕ) → capacity_of g ≤ length b → Related (capacity_of g) b p n s m
    → Follows g k (move g k m x) (hold g m b x) (phase_step g p n s k b x)
one_byte g k x m p n s b enough is_between = step_between g 0 0 k x b enough
one_byte g k x m p n s b enough (is_inside {body = body} h) = step_inside g n s k x b enough body h
one_byte g k x m p n s b enough (is-ended {body = body} h) = step-ended g n s k x b enough body h

-- the byte x at offset k
pub step_follows : (g : Settings) (k x : ℕ) (m : Mode) (r : Reader) (b : List ℕ) → Stands g k m r b
    → Follows g k (move g k m x) (hold g m b x) (step g (Ok None) r b x)
unfolding step
step_follows g k x m r b h = rw h.position (one_byte g k x m r.phase r.body_length r.block_offset b h.enough h.related)

-- ---- one call
-- what ended it after n of l bytes: the end of the part, or a verdict
pub data Ends (n l : ℕ) : Result (Option Found) Refusal → Type 0 where
  at_end : n ≡ l → Ends n l (Ok None)
  at_verdict : {s : ℕ} {v : Result Accepted Refusal} → 1 ≤ n → Ends n l (Ok (Some (record { block_offset = s; verdict = v })))

-- A call from offset k on, in the mode m, reads n bytes of the part, and gives the verdicts, the state and the buffer that the definition gives for these bytes.
pub record Reaches (g : Settings) (k : ℕ) (m : Mode) (b xs : List ℕ) (n : ℕ) (a : Result (Option Found) Refusal) (r : Reader) (c : List ℕ) : Type 0 where
  pub most : n ≤ length xs
  pub ends : Ends n (length xs) a
  pub says : spoken g a c ≡ run g k m (take n xs)
  pub stands : Stands g (k + n) (after g k m (take n xs)) r c
  pub buffer : c ≡ held g k m b (take n xs)

pub record Folded (g : Settings) (k : ℕ) (m : Mode) (b xs : List ℕ) (t : Scan) : Type 0 where
  pub count : ℕ
  pub reaches : Reaches g k m b xs count t.answer t.reader t.buffer

pub stands_at : {g : Settings} {k j : ℕ} {m : Mode} {r : Reader} {b : List ℕ} → k ≡ j → Stands g k m r b → Stands g j m r b
stands_at e h = record { position = h.position ∙ e; enough = h.enough; related = h.related }

reads_none : (g : Settings) (k : ℕ) (m : Mode) (r : Reader) (b : List ℕ) → Stands g k m r b → Reaches g k m b [] 0 (Ok None) r b
unfolding run after held
reads_none g k m r b h = record { most = omega arith; ends = at_end refl; says = refl; stands = stands_at (sym (add-zero k)) h; buffer = refl }

reads_verdict : (g : Settings) (k x s : ℕ) (m : Mode) (v : Result Accepted Refusal) (r : Reader) (b xs c : List ℕ)
    → Follows g k (move g k m x) (hold g m b x) (record { answer = Ok (Some (record { block_offset = s; verdict = v })); reader = r; buffer = c })
    → Reaches g k m b (x ∷ xs) 1 (Ok (Some (record { block_offset = s; verdict = v }))) r c
unfolding run after held
reads_verdict g k x s m v r b xs c f =
    record { most = omega arith; ends = at_verdict (omega arith); says = f.says ∙ sym (append-nil (move g k m x).says); stands = f.stands; buffer = f.buffer }

ends_more : (n l : ℕ) (a : Result (Option Found) Refusal) → Ends n l a → Ends (suc n) (suc l) a
ends_more n l a (at_end e) = at_end (ap suc e)
ends_more n l a (at_verdict h) = at_verdict (omega arith)

reads_more : (g : Settings) (k x n : ℕ) (m : Mode) (a : Result (Option Found) Refusal) (q r : Reader) (b xs c d : List ℕ)
    → Follows g k (move g k m x) (hold g m b x) (record { answer = (Ok None); reader = q; buffer = c })
    → Reaches g (k + 1) (move g k m x).mode c xs n a r d
    → Reaches g k m b (x ∷ xs) (suc n) a r d
unfolding run after held
reads_more g k x n m a q r b xs c d f h =
    record {
      most = omega (arith, h.most);
      ends = ends_more n (length xs) a h.ends;
      says = h.says ∙ ap (λ (l : List Judged). l ++ run g (k + 1) (move g k m x).mode (take n xs)) f.says;
      stands = stands_at (omega arith) h.stands;
      buffer = h.buffer ∙ ap (λ (z : List ℕ). held g (k + 1) (move g k m x).mode z (take n xs)) f.buffer;
    }

-- the first byte, and then the others
goes_on_lem : (g : Settings) (k x : ℕ) (m : Mode) (b xs : List ℕ)
    → ((q : Reader) (c : List ℕ) → Stands g (k + 1) (move g k m x).mode q c → Folded g (k + 1) (move g k m x).mode c xs (fold g (record { answer = (Ok None); reader = q; buffer = c }) xs))
    → (t : Scan) → Follows g k (move g k m x) (hold g m b x) t → Folded g k m b (x ∷ xs) (fold g t xs)
goes_on_lem g k x m b xs ih t f = go t.answer t.reader t.buffer f.live f
  where
    go : (a : Result (Option Found) Refusal) (q : Reader) (c : List ℕ) → Live a → Follows g k (move g k m x) (hold g m b x) (record { answer = a; reader = q; buffer = c })
        → Folded g k m b (x ∷ xs) (fold g (record { answer = a; reader = q; buffer = c }) xs)
    go (Err _) q c l f = elim l [ ]
    go (Ok None) q c pending f = let h = ih q c f.stands in record { count = suc h.count; reaches = reads_more g k x h.count m _ q _ b xs c _ f h.reaches }
    go (Ok (Some f')) q c found f = rw (fold_found g f'.block_offset f'.verdict q c xs) (record { count = 1; reaches = reads_verdict g k x f'.block_offset m f'.verdict q b xs c f })

pub fold_reaches : (g : Settings) (xs : List ℕ) (k : ℕ) (m : Mode) (r : Reader) (b : List ℕ) → Stands g k m r b
    → Folded g k m b xs (fold g (record { answer = (Ok None); reader = r; buffer = b }) xs)
unfolding fold
fold_reaches g [] k m r b h = record { count = 0; reaches = reads_none g k m r b h }
fold_reaches g (x ∷ xs) k m r b h =
    goes_on_lem g k x m b xs (λ q c. fold_reaches g xs (k + 1) (move g k m x).mode q c) (step g (Ok None) r b x) (step_follows g k x m r b h)

-- what a caller gets: as many bytes used as were read
pub read_reaches : (g : Settings) (k : ℕ) (m : Mode) (r : Reader) (xs b : List ℕ) → valid g ≡ true → k + length xs ≤ greatest_word → Stands g k m r b
    → Reaches g k m b xs (read_of g r xs b).answer.used (read_of g r xs b).answer.answer (read_of g r xs b).answer.reader (read_of g r xs b).buffer
read_reaches g k m r xs b e l h =
    let t = fold g (record { answer = (Ok None); reader = r; buffer = b }) xs in
    let d = fold_reaches g xs k m r b h in
    let p : r.position ≡ k = h.position in
    let q : t.reader.position ≡ k + d.count = d.reaches.stands.position in
    let u : t.reader.position - r.position ≡ d.count = omega arith in
    rw (← read_scan g r xs b e h.enough (omega arith), u) d.reaches
