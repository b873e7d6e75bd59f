-- The driver's calls against those of a caller of the library: the same verdicts, buffer and state, as words.
use Rattle.std.specs.Prelude.{Option, Some, None, Result, Ok, Err}
use mathlib.Core.Path.{◌≡◌, refl, sym, ap, ◌∙◌, subst}
use mathlib.Core.List.{List, [], ◌∷◌, ◌++◌, map}
use mathlib.Core.Bool.{Bool, true, false, cond, ◌&&◌}
use lib.Dec.{eqb, ltb}
use Prim.Native.Nat.{ℕ, zero, suc, ◌+◌, ◌-◌, ◌≤◌}
use native.Mathlib.Omega.{arith}
use lib.ListN.{length, take, drop, length-append, length-drop}
use borrow.Author.Tests.{eq-eqb, le-leb, le-ltb, ltb-false}
use Rattle.lists.specs.Bytes.{greatest_word, over}
use Rattle.lists.specs.Outcome.{Called}
use Rattle.settings.specs.Settings.{valid, capacity_of}
use Rattle.settings.specs.declared.Settings.{Settings}
use Rattle.stream.specs.Stream.{Judged, Mode, judged, after}
use Rattle.stream.specs.Scan.{fold, read_of}
use Rattle.refusal.specs.declared.Refusal.{Refusal}
use Rattle.stream.specs.declared.Reader.{Reader}
use Rattle.stream.specs.declared.Found.{Found}
use Rattle.block_theorems.specs.Session.{Served, served, spoken, go_on, and_then, serve, session, joined}
use Rattle.block_theorems.proofs.Simulation.{Stands, Ends, at_end, at_verdict, read_reaches}
use Rattle.block_theorems.proofs.Parts.{serve_is}
use Rattle.block_calls.specs.ReaderWords.{reader_words, decoded}
use Rattle.block_calls.specs.ReadCalls.{read_answered, read_finished}
use Rattle.block_calls.proofs.ReadBack.{words_back, words_same}
use Rattle.call_theorems.specs.Reading.{Shown, shown, found_block, used_bytes, shown_by, new_verdict, Driven, driven, followed_by, part_calls, parts_calls}
use Rattle.call_theorems.proofs.OneCall.{over-length, over_again, Leaves, pending_leaves, pending_none, found_leaves, found_one, found_shows, call_is}

-- the memory that the driver lends encodes the reader r
pub record Encodes (r : Reader) (c : Called) : Type 0 where
  pub done : c.number ≡ 0
  pub state_words_lem : 4 ≤ length c.state
  pub verdict_words_lem : 8 ≤ length c.report
  pub reader : decoded c.state ≡ Some r

-- From the memory c on, the driver was shown the verdicts that were given, and its memory is what was left, as words. No word behind the first four and the first eight has changed.
pub record Matches (g : Settings) (c : Called) (t : Served) (u : Driven) : Type 0 where
  pub says : u.says ≡ map (shown g) t.says
  pub done : u.last.number ≡ 0
  pub state : u.last.state ≡ over c.state (reader_words t.reader)
  pub buffer : u.last.buffer ≡ t.buffer
  pub words : length u.last.report ≡ length c.report
  pub beyond : drop 8 u.last.report ≡ drop 8 c.report

map-append : (f : Judged → Shown) (l k : List Judged) → map f (l ++ k) ≡ map f l ++ map f k
map-append f [] k = refl
map-append f (x ∷ l) k = ap (λ (z : List Shown). f x ∷ z) (map-append f l k)

-- words of a reader, written over words enough
four : (r : Reader) (st : List ℕ) → 4 ≤ length st → length (reader_words r) ≤ length st
unfolding reader_words
four r st h = h

four_words : (r q : Reader) → length (reader_words r) ≡ length (reader_words q)
unfolding reader_words
four_words r q = refl

module _ (g : Settings) (c : Called) where
  pub matches_encodes : (r : Reader) (t : Served) (u : Driven) → Encodes r c → Matches g c t u → Encodes t.reader u.last
  matches_encodes r t u h s =
      record {
        done = s.done;
        state_words_lem = rw (s.state, over-length c.state (reader_words t.reader) (four t.reader c.state h.state_words_lem)) h.state_words_lem;
        verdict_words_lem = rw s.words h.verdict_words_lem;
        reader = rw s.state (words_back c.state h.state_words_lem t.reader);
      }

  -- nothing was read
  none_matches : (r : Reader) → Encodes r c → Matches g c (served [] r c.buffer) (driven [] c)
  none_matches r h = record { says = refl; done = h.done; state = sym (words_same c.state r h.state_words_lem h.reader); buffer = refl; words = refl; beyond = refl }

  -- one piece, and then another
  then_matches : (r : Reader) (t z : Served) (u w : Driven) → Encodes r c → Matches g c t u → Matches g u.last z w
      → Matches g c (and_then t.says z) (followed_by u.says w)
  then_matches r t z u w h p q =
      record {
        says = ap (λ (l : List Shown). l ++ w.says) p.says ∙ ap (λ (l : List Shown). map (shown g) t.says ++ l) q.says ∙ sym (map-append (shown g) t.says z.says);
        done = q.done;
        state =
            q.state
            ∙ ap (λ (l : List ℕ). over l (reader_words z.reader)) p.state
            ∙ over_again c.state (reader_words t.reader) (reader_words z.reader) (four t.reader c.state h.state_words_lem) (four_words z.reader t.reader);
        buffer = q.buffer;
        words = q.words ∙ p.words;
        beyond = q.beyond ∙ p.beyond;
      }

  leaves_matches : (l : List Judged) (r : Reader) (b : List ℕ) (n : ℕ) (d : Called) → Leaves c r b n d → Matches g c (served l r b) (driven (map (shown g) l) d)
  leaves_matches l r b n d f = record { says = refl; done = f.done; state = f.state; buffer = f.buffer; words = f.words; beyond = f.beyond }

-- a part without bytes brings nothing
serve_empty : (g : Settings) → valid g ≡ true → (n : ℕ) (r : Reader) (b : List ℕ) → capacity_of g ≤ length b → serve g n r b [] ≡ served [] r b
unfolding serve read_of fold
serve_empty g v zero r b h = refl
serve_empty g v (suc n) r b h = rw (v, le-leb (capacity_of g) (length b) h, le-leb 0 (greatest_word - r.position) (omega arith))

drop_all : (n : ℕ) (xs : List ℕ) → length xs ≤ n → drop n xs ≡ []
drop_all n [] h = go n
  where
    go : (n : ℕ) → drop {A = ℕ} n [] ≡ []
    go zero = refl
    go (suc n) = refl
drop_all zero (x ∷ xs) h = absurd (omega arith)
drop_all (suc n) (x ∷ xs) h = drop_all n xs (omega arith)

-- ---- one part
module _ (g : Settings) (n : ℕ) (xs : List ℕ) (c : Called) (r q : Reader) (b : List ℕ) (i : ℕ) (h : Encodes r c) (quiet : length xs ≤ i → serve g n q b (drop i xs) ≡ served [] q b) where
  -- what the driver does after the call d
  abbrev following : Called → Driven
  following d = cond (eqb d.number 0 && ltb (used_bytes d) (length xs)) (followed_by (new_verdict d) (part_calls (Some g) n d (drop (used_bytes d) xs))) (driven (new_verdict d) d)

  abbrev answered : Result (Option Found) Refusal → Called
  answered a = read_answered g c.state c.report q b i a

  abbrev later : Called → Driven
  later d = followed_by (new_verdict d) (part_calls (Some g) n d (drop (used_bytes d) xs))

  -- whether the driver calls again
  goes : (d : Called) (z : Bool) → Leaves c q b i d → ltb i (length xs) ≡ z → following d ≡ cond z (later d) (driven (new_verdict d) d)
  goes d z l e =
      ap (λ (t : Bool). cond t (later d) (driven (new_verdict d) d))
      (ap (λ (k : ℕ). eqb k 0 && ltb (used_bytes d) (length xs)) l.done ∙ ap (λ (k : ℕ). ltb k (length xs)) l.used ∙ e)

  after_verdict : (d : Called) (w : Judged) → Leaves c q b i d → found_block d ≡ true → shown_by d ≡ shown g w
      → Matches g d (serve g n q b (drop i xs)) (part_calls (Some g) n d (drop i xs))
      → Matches g c (and_then (w ∷ []) (serve g n q b (drop i xs))) (following d)
  after_verdict d w l f e s = go (ltb i (length xs)) refl
    where
      shows : new_verdict d ≡ shown g w ∷ []
      shows = ap (λ (t : Bool). cond t (shown_by d ∷ []) []) f ∙ ap (λ (t : Shown). t ∷ []) e

      go : (z : Bool) → ltb i (length xs) ≡ z → Matches g c (and_then (w ∷ []) (serve g n q b (drop i xs))) (following d)
      go true z =
          subst (Matches g c (and_then (w ∷ []) (serve g n q b (drop i xs)))) (sym (goes d true l z))
          (rw (shows, l.used)
          (then_matches g c r (served (w ∷ []) q b) (serve g n q b (drop i xs)) (driven (shown g w ∷ []) d) (part_calls (Some g) n d (drop i xs)) h (leaves_matches g c (w ∷ []) q b i d l) s))
      go false z =
          subst (Matches g c (and_then (w ∷ []) (serve g n q b (drop i xs)))) (sym (goes d false l z))
          (rw (shows, quiet (ltb-false i (length xs) z)) (leaves_matches g c (w ∷ []) q b i d l))

  after_call : (a : Result (Option Found) Refusal) → Ends i (length xs) a
      → ((d : Called) → Leaves c q b i d → 1 ≤ i → Matches g d (serve g n q b (drop i xs)) (part_calls (Some g) n d (drop i xs)))
      → Matches g c (and_then (spoken g a b) (go_on a (serve g n q b (drop i xs)) (served [] q b))) (following (answered a))
  after_call (Err _) e ih = elim e [ ]
  after_call (Ok None) (at_end e) ih =
      let l = pending_leaves g c h.verdict_words_lem q b i in
      subst (Matches g c (served [] q b)) (sym (goes (answered (Ok None)) false l (le-ltb i (length xs) (omega arith))))
      (rw (pending_none g c h.verdict_words_lem q b i) (leaves_matches g c [] q b i (answered (Ok None)) l))
  after_call (Ok (Some f)) (at_verdict p) ih =
      let l = found_leaves g c h.verdict_words_lem q b i f.block_offset f.verdict in
      after_verdict (answered (Ok (Some (record { block_offset = f.block_offset; verdict = f.verdict })))) (judged g f.block_offset f.verdict b) l (found_one g c h.verdict_words_lem q b i f.block_offset f.verdict) (found_shows g c h.verdict_words_lem q b i f.block_offset f.verdict)
      (ih (answered (Ok (Some (record { block_offset = f.block_offset; verdict = f.verdict })))) l p)

leaves_encodes : (g : Settings) (c d : Called) (r q : Reader) (b : List ℕ) (i : ℕ) → Encodes r c → Leaves c q b i d → Encodes q d
leaves_encodes g c d r q b i h l = matches_encodes g c r (served [] q b) (driven [] d) h (leaves_matches g c [] q b i d l)

pub part_matches : (g : Settings) → valid g ≡ true → (n : ℕ) (xs : List ℕ) (k : ℕ) (m : Mode) (r : Reader) (b : List ℕ) (c : Called)
    → k + length xs ≤ greatest_word → c.buffer ≡ b → Stands g k m r b → Encodes r c
    → Matches g c (serve g n r b xs) (part_calls (Some g) n c xs)
unfolding serve part_calls
part_matches g v zero xs k m r b c l e h f = rw (← e) (none_matches g c r f)
part_matches g v (suc n) xs k m r b c l e h f =
    let o = read_of g r xs b in
    let u = o.answer.used in
    let w = read_reaches g k m r xs b v l h in
    let most : u ≤ length xs = w.most in
    let is =
    call_is g c xs r f.state_words_lem f.verdict_words_lem f.reader
    ∙ ap (λ (z : List ℕ). read_finished g c.state c.report (read_of g r xs z)) e in
    rw is
    (after_call g n xs c r o.answer.reader o.buffer u f (λ z. ap (serve g n o.answer.reader o.buffer) (drop_all u xs z) ∙ serve_empty g v n o.answer.reader o.buffer w.stands.enough) o.answer.answer w.ends
    (λ d s p. part_matches g v n (drop u xs) (k + u) (after g k m (take u xs)) o.answer.reader o.buffer d (simp length-drop (omega arith)) s.buffer w.stands
    (leaves_encodes g c d r o.answer.reader o.buffer u f s)))

-- ---- one part after another
pub parts_match : (g : Settings) → valid g ≡ true → (parts : List (List ℕ)) (k : ℕ) (m : Mode) (r : Reader) (b : List ℕ) (c : Called)
    → k + length (joined parts) ≤ greatest_word → c.buffer ≡ b → Stands g k m r b → Encodes r c
    → Matches g c (session g r b parts) (parts_calls (Some g) c parts)
unfolding session parts_calls
parts_match g v [] k m r b c l e h f = rw (← e) (none_matches g c r f)
parts_match g v (xs ∷ parts) k m r b c l e h f =
    let z : length (xs ++ joined parts) ≡ length xs + length (joined parts) = length-append xs (joined parts) in
    let t = serve g (suc (length xs)) r b xs in
    let u = part_calls (Some g) (suc (length xs)) c xs in
    let p = serve_is g v (suc (length xs)) xs k m r b (omega arith) (omega arith) h in
    let s = part_matches g v (suc (length xs)) xs k m r b c (omega arith) e h f in
    let later = parts_match g v parts (k + length xs) (after g k m xs) t.reader t.buffer u.last (omega arith) s.buffer p.stands (matches_encodes g c r t u f s) in
    rw (eq-eqb u.last.number 0 s.done) (then_matches g c r t (session g t.reader t.buffer parts) u (parts_calls (Some g) u.last parts) f s later)
