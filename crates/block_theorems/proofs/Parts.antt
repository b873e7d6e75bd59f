-- Document 01, 'Reading a stream': "Verdicts are those a definition gives for the whole input, in however many parts it came, provided the same buffer is lent unaltered each time."
use Rattle.std.specs.Prelude.{Option, Some, None, Result, Ok, Err}
use mathlib.Core.Path.{◌≡◌, refl, sym, ap, ◌∙◌}
use mathlib.Core.List.{List, [], ◌∷◌, ◌++◌, append_assoc}
use mathlib.Core.Bool.{true}
use Prim.Native.Nat.{ℕ, zero, suc, ◌+◌, ◌≤◌, ◌<◌}
use native.Mathlib.Nat.{add-zero}
use native.Mathlib.Omega.{arith}
use lib.ListN.{length, take, drop, length-append, length-drop, take-append-drop}
use lib.Seq.{take_all, length-take-le}
use Rattle.lists.specs.Bytes.{greatest_word}
use Rattle.settings.specs.Settings.{valid, capacity_of}
use Rattle.settings.specs.declared.Settings.{Settings}
use Rattle.stream.specs.Stream.{Judged, Mode, between, move, run, after, hold, held, verdicts}
use Rattle.stream.specs.Scan.{fresh, read_of}
use Rattle.refusal.specs.declared.Refusal.{Refusal}
use Rattle.stream.specs.declared.Phase.{Phase}
use Rattle.stream.specs.declared.Reader.{Reader}
use Rattle.stream.specs.declared.Found.{Found}
use Rattle.stream.proofs.Run.{run-append, after-append}
use Rattle.block_theorems.specs.Session.{Served, served, spoken, go_on, and_then, serve, session, joined}
use Rattle.block_theorems.proofs.Simulation.{Holds, fits, over, Related, is_between, is_inside, is-ended, Stands, Ends, at_end, at_verdict, Reaches, stands_at, read_reaches}

pub held-append : (g : Settings) (xs ys : List ℕ) (k : ℕ) (m : Mode) (b : List ℕ)
    → held g k m b (xs ++ ys) ≡ held g (k + length xs) (after g k m xs) (held g k m b xs) ys
unfolding held after
held-append g [] ys k m b = rw add-zero
held-append g (x ∷ xs) ys k m b =
    let ih = held-append g xs ys (k + 1) (move g k m x).mode (hold g m b x) in
    let e : k + 1 + length xs ≡ k + suc (length xs) = omega arith in
    rw e at ih

-- From offset k on, in the mode m, with the buffer b, the bytes xs gave what the definition gives for them.
pub record Serves (g : Settings) (k : ℕ) (m : Mode) (b xs : List ℕ) (t : Served) : Type 0 where
  pub says : t.says ≡ run g k m xs
  pub buffer : t.buffer ≡ held g k m b xs
  pub stands : Stands g (k + length xs) (after g k m xs) t.reader t.buffer

serves_none : (g : Settings) (k : ℕ) (m : Mode) (r : Reader) (b : List ℕ) → Stands g k m r b → Serves g k m b [] (served [] r b)
unfolding run held after
serves_none g k m r b h = record { says = refl; buffer = refl; stands = stands_at (sym (add-zero k)) h }

-- one piece, and then another
serves_append : (g : Settings) (k : ℕ) (m : Mode) (b xs ys : List ℕ) (t u : Served)
    → Serves g k m b xs t → Serves g (k + length xs) (after g k m xs) t.buffer ys u
    → Serves g k m b (xs ++ ys) (and_then t.says u)
serves_append g k m b xs ys t u p q =
    record {
      says =
          ap (λ (l : List Judged). l ++ u.says) p.says
          ∙ ap (λ (l : List Judged). run g k m xs ++ l) q.says
          ∙ sym (run-append g xs ys k m);
      buffer =
          q.buffer
          ∙ ap (λ (c : List ℕ). held g (k + length xs) (after g k m xs) c ys) p.buffer
          ∙ sym (held-append g xs ys k m b);
      stands = rw (after-append g xs ys k m) (stands_at (sym (simp length-append (omega arith))) q.stands);
    }

-- ---- one part
-- Whatever bytes ys follow the part: the verdicts from here on are that of the call, and then those of the rest.
pub call_rest : (g : Settings) (k n : ℕ) (m : Mode) (b xs : List ℕ) (a : Result (Option Found) Refusal) (r : Reader) (c : List ℕ) → Reaches g k m b xs n a r c
    → (ys : List ℕ) → run g k m (xs ++ ys) ≡ spoken g a c ++ run g (k + n) (after g k m (take n xs)) (drop n xs ++ ys)
call_rest g k n m b xs a r c h ys =
    let l : length (take n xs) ≡ n = length-take-le n xs h.most in
    ap (λ (z : List ℕ). run g k m (z ++ ys)) (sym (take-append-drop n xs))
    ∙ ap (run g k m) (append_assoc (take n xs) (drop n xs) ys)
    ∙ run-append g (take n xs) (drop n xs ++ ys) k m
    ∙ ap (λ (i : ℕ). run g k m (take n xs) ++ run g (k + i) (after g k m (take n xs)) (drop n xs ++ ys)) l
    ∙ ap (λ (z : List Judged). z ++ run g (k + n) (after g k m (take n xs)) (drop n xs ++ ys)) (sym h.says)

-- a call that found no verdict has read the whole part; after a verdict the rest is read
next_call_lem : (g : Settings) (k n : ℕ) (m : Mode) (b xs : List ℕ) (a : Result (Option Found) Refusal) (r : Reader) (c : List ℕ) (later : Served)
    → Reaches g k m b xs n a r c
    → (1 ≤ n → Serves g (k + n) (after g k m (take n xs)) c (drop n xs) later)
    → Serves g k m b xs (and_then (spoken g a c) (go_on a later (served [] r c)))
next_call_lem g k n m b xs a r c later h ih = go a h.ends h.says
  where
    go : (z : Result (Option Found) Refusal) → Ends n (length xs) z → spoken g z c ≡ run g k m (take n xs) → Serves g k m b xs (and_then (spoken g z c) (go_on z later (served [] r c)))
    go (Err _) e w = elim e [ ]
    go (Ok None) (at_end e) w =
        let q : take n xs ≡ xs = take_all n xs (omega arith) in
        record { says = w ∙ ap (run g k m) q; buffer = h.buffer ∙ ap (held g k m b) q; stands = stands_at (ap (λ (i : ℕ). k + i) e) (rw q at h.stands) }
    go (Ok (Some f)) (at_verdict p) w =
        let l : length (take n xs) ≡ n = length-take-le n xs h.most in
        let here : Serves g k m b (take n xs) (served (spoken g (Ok (Some (record { block_offset = f.block_offset; verdict = f.verdict }))) c) r c) = record { says = w; buffer = h.buffer; stands = stands_at (sym (ap (λ (i : ℕ). k + i) l)) h.stands } in
        let whole = serves_append g k m b (take n xs) (drop n xs) (served (spoken g (Ok (Some (record { block_offset = f.block_offset; verdict = f.verdict }))) c) r c) later here (rw l (ih p)) in
        rw (take-append-drop n xs) at whole

-- each verdict takes a byte at least, so there are calls enough
pub serve_is : (g : Settings) → valid g ≡ true → (n : ℕ) (xs : List ℕ) (k : ℕ) (m : Mode) (r : Reader) (b : List ℕ)
    → length xs < n → k + length xs ≤ greatest_word → Stands g k m r b
    → Serves g k m b xs (serve g n r b xs)
unfolding serve
serve_is g v zero xs k m r b f l h = absurd (omega arith)
serve_is g v (suc n) xs k m r b f l h =
    let c = read_of g r xs b in
    let u = c.answer.used in
    let w = read_reaches g k m r xs b v l h in
    let most : u ≤ length xs = w.most in
    next_call_lem g k u m b xs c.answer.answer c.answer.reader c.buffer _ w
    (λ o. serve_is g v n (drop u xs) (k + u) (after g k m (take u xs)) c.answer.reader c.buffer (simp length-drop (omega arith)) (simp length-drop (omega arith)) w.stands)

-- ---- the place in the input and the buffer's content leave one state
one_count : (cap n i : ℕ) (b c body : List ℕ) → Holds cap n b body → Holds cap i c body → n ≡ i
one_count cap n i b c body (fits e l t) (fits f m u) = e ∙ sym f
one_count cap n i b c body (fits e l t) (over f m u) = absurd (omega arith)
one_count cap n i b c body (over e l t) (fits f m u) = absurd (omega arith)
one_count cap n i b c body (over e l t) (over f m u) = e ∙ sym f

one_state : (cap k : ℕ) (b c : List ℕ) (m : Mode) (p q : Phase) (n i s j : ℕ) → Related cap b p n s m → Related cap c q i j m
    → ◌≡◌ {A = Reader} (record { phase = p; body_length = n; block_offset = s; position = k }) (record { phase = q; body_length = i; block_offset = j; position = k })
one_state cap k b c m p q n i s j is_between is_between = refl
one_state cap k b c m p q n i s j (is_inside {body = body} f) (is_inside h) = rw (one_count cap n i b c body f h)
one_state cap k b c m p q n i s j (is-ended {body = body} f) (is-ended h) = rw (one_count cap n i b c body f h)

pub one_reader : (g : Settings) (k : ℕ) (m : Mode) (r q : Reader) (b c : List ℕ) → Stands g k m r b → Stands g k m q c → r ≡ q
one_reader g k m r q b c h f =
    one_state (capacity_of g) r.position b c m r.phase q.phase r.body_length q.body_length r.block_offset q.block_offset h.related f.related
    ∙ ap (λ (i : ℕ). record { phase = q.phase; body_length = q.body_length; block_offset = q.block_offset; position = i }) (h.position ∙ sym f.position)

one_served : (g : Settings) (k : ℕ) (m : Mode) (b xs : List ℕ) (t u : Served) → Serves g k m b xs t → Serves g k m b xs u → t ≡ u
one_served g k m b xs t u p q =
    let a : t.says ≡ u.says = p.says ∙ sym q.says in
    let c : t.buffer ≡ u.buffer = p.buffer ∙ sym q.buffer in
    let d : t.reader ≡ u.reader = one_reader g (k + length xs) (after g k m xs) t.reader u.reader t.buffer u.buffer p.stands q.stands in
    ap (λ (l : List Judged). served l t.reader t.buffer) a
    ∙ ap (λ (r : Reader). served u.says r t.buffer) d
    ∙ ap (λ (l : List ℕ). served u.says u.reader l) c

-- ---- all parts
pub session-from : (g : Settings) → valid g ≡ true → (parts : List (List ℕ)) (k : ℕ) (m : Mode) (r : Reader) (b : List ℕ)
    → k + length (joined parts) ≤ greatest_word → Stands g k m r b
    → Serves g k m b (joined parts) (session g r b parts)
unfolding session
session-from g v [] k m r b l h = serves_none g k m r b h
session-from g v (xs ∷ parts) k m r b l h =
    let z : length (xs ++ joined parts) ≡ length xs + length (joined parts) = length-append xs (joined parts) in
    let t = serve g (suc (length xs)) r b xs in
    let p = serve_is g v (suc (length xs)) xs k m r b (omega arith) (omega arith) h in
    serves_append g k m b xs (joined parts) t _ p
    (session-from g v parts (k + length xs) (after g k m xs) t.reader t.buffer (omega arith) p.stands)

-- the same from the middle of an input on
pub same_from : (g : Settings) → valid g ≡ true → (parts others : List (List ℕ)) (k : ℕ) (m : Mode) (r : Reader) (b : List ℕ)
    → joined parts ≡ joined others → k + length (joined parts) ≤ greatest_word → Stands g k m r b
    → session g r b parts ≡ session g r b others
same_from g v parts others k m r b e l h =
    one_served g k m b (joined others) (session g r b parts) (session g r b others) (rw e at (session-from g v parts k m r b l h)) (session-from g v others k m r b (rw e at l) h)

pub fresh_stands : (g : Settings) (b : List ℕ) → capacity_of g ≤ length b → Stands g 0 between fresh b
fresh_stands g b h = record { position = refl; enough = h; related = is_between }

module _ (g : Settings) (b : List ℕ) (v : valid g ≡ true) (enough : capacity_of g ≤ length b) where
  pub session-is : (parts : List (List ℕ)) → length (joined parts) ≤ greatest_word
      → Serves g 0 between b (joined parts) (session g fresh b parts)
  session-is parts l = session-from g v parts 0 between fresh b (omega arith) (fresh_stands g b enough)

  pub session-verdicts : (parts : List (List ℕ)) → length (joined parts) ≤ greatest_word
      → (session g fresh b parts).says ≡ verdicts g (joined parts)
  session-verdicts parts l = (session-is parts l).says

  pub session_buffer : (parts : List (List ℕ)) → length (joined parts) ≤ greatest_word
      → (session g fresh b parts).buffer ≡ held g 0 between b (joined parts)
  session_buffer parts l = (session-is parts l).buffer

  -- two ways of cutting one input into parts give the same verdicts, the same state and the same buffer
  pub same_for_any_parts : (parts others : List (List ℕ)) → joined parts ≡ joined others → length (joined parts) ≤ greatest_word
      → session g fresh b parts ≡ session g fresh b others
  same_for_any_parts parts others e l =
      same_from g v parts others 0 between fresh b e (omega arith) (fresh_stands g b enough)
