-- One call of gmv_*_read on the bytes of a line: what it tells the driver is what these bytes bring, and the memory stands behind them then.
use Rattle.std.specs.Prelude.{Option, Some, None, Result, Ok, Err}
use mathlib.Core.Path.{◌≡◌, refl, sym, ap, ◌∙◌, subst}
use mathlib.Core.List.{List, [], ◌∷◌}
use mathlib.Core.Bool.{Bool, true, false, cond}
use Prim.Native.Nat.{ℕ, ◌+◌, ◌≤◌, ◌-◌}
use native.Mathlib.Nat.{add-zero}
use native.Mathlib.Omega.{arith}
use lib.ListN.{length, take, length-take}
use lib.Seq.{length-take-le, take-take}
use lib.Dec.{leb, eqb}
use borrow.Author.Tests.{le-leb, leb-true}
use Rattle.lists.specs.Bytes.{greatest_word}
use Rattle.lists.specs.Outcome.{Outcome, Called, called}
use Rattle.settings.specs.Settings.{valid, capacity_of}
use Rattle.settings.specs.declared.Settings.{Settings}
use Rattle.stream.specs.Stream.{Judged, Mode, judged, run, after}
use Rattle.stream.specs.Scan.{read_of}
use Rattle.refusal.specs.declared.Refusal.{Refusal}
use Rattle.stream.specs.declared.Reader.{Reader as ReaderState}
use Rattle.stream.specs.declared.Reading.{Reading}
use Rattle.stream.specs.declared.Found.{Found}
use Rattle.block_theorems.specs.Session.{spoken}
use Rattle.block_theorems.proofs.Simulation.{Stands, Ends, Reaches, read_reaches}
use Rattle.block_calls.specs.ReaderWords.{reader_words, decoded}
use Rattle.block_calls.specs.ReadCalls.{read_call, read_answered, read_finished}
use Rattle.block_calls.proofs.ReadBack.{words_back}
use Rattle.link.specs.Line.{Reader, Line, reader_after}
use Rattle.link.proofs.Facts.{not_both}
use Rattle.link.proofs.Queues.{Each, each_none, each_more}
use Rattle.call_theorems.specs.Reading.{used_bytes, shown_by, new_verdict}
use Rattle.call_theorems.specs.Driver.{ReaderMemory, after_reading, reader_past, line_past}
use Rattle.call_theorems.proofs.Verdicts.{reader_gives_lem}
use Rattle.call_theorems.proofs.OneCall.{over-length, Leaves, pending_leaves, pending_none, found_leaves, found_one, found_shows, call_is}
use Rattle.call_theorems.proofs.Shows.{SameVerdict, StandsOn}

-- ---- where a line's reader stands behind bytes
pub past_offset : (g : Settings) (xs : List ℕ) (r : Reader) → (reader_past g r xs).offset ≡ r.offset + length xs
unfolding reader_past
past_offset g [] r = sym (add-zero r.offset)
past_offset g (x ∷ xs) r = let e = past_offset g xs (reader_after g r x) in omega (arith, e)

pub past_mode : (g : Settings) (xs : List ℕ) (r : Reader) → (reader_past g r xs).mode ≡ after g r.offset r.mode xs
unfolding reader_past after
past_mode g [] r = refl
past_mode g (x ∷ xs) r = past_mode g xs (reader_after g r x)

-- the verdicts of the first bytes of a line
abbrev pub brought : Settings → ℕ → Line → List Judged
brought g n x = run g x.reader.offset x.reader.mode (take n x.bytes)

-- what a call that was done has taken of a line
pub record Took (g : Settings) (x : Line) (c : Called) : Type 0 where
  pub used : used_bytes c ≤ length x.bytes
  pub shows : Each (SameVerdict g) (new_verdict c) (brought g (used_bytes c) x)
  pub stands : StandsOn g (after_reading c) (line_past g (used_bytes c) x)

reading_refused : (g : Settings) → valid g ≡ true → (r : ReaderState) (xs b st w : List ℕ) → capacity_of g ≤ length b → leb (length xs) (greatest_word - r.position) ≡ false
    → eqb (read_finished g st w (read_of g r xs b)).number 0 ≡ false
unfolding read_of
reading_refused g v r xs b st w l e = rw (v, le-leb (capacity_of g) (length b) l, e)

length-take_most : (n : ℕ) (l : List ℕ) → length (take n l) ≤ n
length-take_most n l = let e = length-take n l in omega (arith, e)

length-take_short : (n : ℕ) (l : List ℕ) → length (take n l) ≤ length l
length-take_short n l = let e = length-take n l in omega (arith, e)

module _ (g : Settings) (v : valid g ≡ true) (m : ReaderMemory) (x : Line) (h : StandsOn g m x) (n : ℕ) where
  abbrev part : List ℕ
  part = take n x.bytes

  abbrev state : ReaderState
  state = h.stands.reader

  abbrev reading : Outcome Reading
  reading = read_of g state part m.buffer

  abbrev memory : Called
  memory = called 0 m.state m.buffer m.verdict

  abbrev offset : ℕ
  offset = x.reader.offset

  four_words : (r : ReaderState) → length (reader_words r) ≤ length m.state
  unfolding reader_words
  four_words r = h.stands.encodes.state_words_lem

  -- the memory after a call that left the state r, the buffer b and n bytes used
  stands_past : (r : ReaderState) (b : List ℕ) (u : ℕ) (c : Called) → Leaves memory r b u c → u ≤ length x.bytes → offset + u ≤ greatest_word
      → Stands g (offset + u) (after g offset x.reader.mode (take u x.bytes)) r b → StandsOn g (after_reading c) (line_past g (used_bytes c) x)
  stands_past r b u c l most bound s =
      let e = l.used in
      subst (λ (k : ℕ). StandsOn g (after_reading c) (line_past g k x)) (sym l.used)
      (record {
        stands = record {
          reader = r;
          encodes = record {
            done = refl;
            state_words_lem = let k = over-length m.state (reader_words r) (four_words r) in let q = ap length l.state in let w = h.stands.encodes.state_words_lem in omega (arith, k, q, w);
            verdict_words_lem = let q = l.words in let w = h.stands.encodes.verdict_words_lem in omega (arith, q, w);
            reader = ap decoded l.state ∙ words_back m.state h.stands.encodes.state_words_lem r;
          };
          stands =
              subst (λ (i : ℕ). Stands g i (reader_past g x.reader (take u x.bytes)).mode r c.buffer) (sym (past_offset g (take u x.bytes) x.reader ∙ ap (λ (i : ℕ). offset + i) (length-take-le u x.bytes most)))
              (subst (λ (o : Mode). Stands g (offset + u) o r c.buffer) (sym (past_mode g (take u x.bytes) x.reader)) (subst (Stands g (offset + u) (after g offset x.reader.mode (take u x.bytes)) r) (sym l.buffer) s));
        };
        within = let k = past_offset g (take u x.bytes) x.reader in let i = length-take-le u x.bytes most in omega (arith, k, i);
      })

  module _ (bound : offset + length part ≤ greatest_word) where
    reached : Reaches g offset x.reader.mode m.buffer part reading.answer.used reading.answer.answer reading.answer.reader reading.buffer
    reached = read_reaches g offset x.reader.mode state part m.buffer v bound h.stands.stands

    abbrev used : ℕ
    used = reading.answer.used

    part_most : length part ≤ n
    part_most = length-take_most n x.bytes

    part_short : length part ≤ length x.bytes
    part_short = length-take_short n x.bytes

    first_bytes : take used part ≡ take used x.bytes
    first_bytes = take-take used n x.bytes (let a = reached.most in let b = part_most in omega arith)

    says : spoken g reading.answer.answer reading.buffer ≡ brought g used x
    says = reached.says ∙ ap (run g offset x.reader.mode) first_bytes

    stands_there : Stands g (offset + used) (after g offset x.reader.mode (take used x.bytes)) reading.answer.reader reading.buffer
    stands_there = subst (λ (xs : List ℕ). Stands g (offset + used) (after g offset x.reader.mode xs) reading.answer.reader reading.buffer) first_bytes reached.stands

    took_of : (c : Called) (ws : List Judged) → Leaves memory reading.answer.reader reading.buffer used c → Each (SameVerdict g) (new_verdict c) ws → ws ≡ brought g used x → Took g x c
    took_of c ws l e q =
        let a = reached.most in
        let b = part_short in
        let u = l.used in
        record {
          used = omega arith;
          shows = subst (λ (k : ℕ). Each (SameVerdict g) (new_verdict c) (brought g k x)) (sym l.used) (subst (Each (SameVerdict g) (new_verdict c)) q e);
          stands = stands_past reading.answer.reader reading.buffer used c l (omega arith) (omega arith) stands_there;
        }

    answered : (a : Result (Option Found) Refusal) → reading.answer.answer ≡ a → Ends used (length part) a → Took g x (read_answered g m.state m.verdict reading.answer.reader reading.buffer used a)
    answered (Err _) e i = elim i [ ]
    answered (Ok None) e i =
        let k = h.stands.encodes.verdict_words_lem in
        took_of (read_answered g m.state m.verdict reading.answer.reader reading.buffer used (Ok None)) [] (pending_leaves g memory k reading.answer.reader reading.buffer used)
        (subst (λ (b : Bool). Each (SameVerdict g) (cond b (shown_by (read_answered g m.state m.verdict reading.answer.reader reading.buffer used (Ok None)) ∷ []) []) [])
        (sym (pending_none g memory k reading.answer.reader reading.buffer used)) each_none)
        (ap (λ (z : Result (Option Found) Refusal). spoken g z reading.buffer) (sym e) ∙ says)
    answered (Ok (Some f)) e i =
        let k = h.stands.encodes.verdict_words_lem in
        let c = read_answered g m.state m.verdict reading.answer.reader reading.buffer used (Ok (Some (record { block_offset = f.block_offset; verdict = f.verdict }))) in
        took_of (read_answered g m.state m.verdict reading.answer.reader reading.buffer used (Ok (Some (record { block_offset = f.block_offset; verdict = f.verdict })))) (judged g f.block_offset f.verdict reading.buffer ∷ [])
        (found_leaves g memory k reading.answer.reader reading.buffer used f.block_offset f.verdict)
        (subst (λ (b : Bool). Each (SameVerdict g) (cond b (shown_by (read_answered g m.state m.verdict reading.answer.reader reading.buffer used (Ok (Some (record { block_offset = f.block_offset; verdict = f.verdict })))) ∷ []) []) (judged g f.block_offset f.verdict reading.buffer ∷ []))
        (sym (found_one g memory k reading.answer.reader reading.buffer used f.block_offset f.verdict))
        (each_more (record { is = found_shows g memory k reading.answer.reader reading.buffer used f.block_offset f.verdict; given = reader_gives_lem g state part m.buffer f.block_offset f.verdict e }) each_none))
        (ap (λ (z : Result (Option Found) Refusal). spoken g z reading.buffer) (sym e) ∙ says)

    finished : Took g x (read_finished g m.state m.verdict reading)
    finished = answered reading.answer.answer refl reached.ends

  -- more bytes than an offset can count
  too_many : leb (length part) (greatest_word - offset) ≡ false → eqb (read_finished g m.state m.verdict reading).number 0 ≡ false
  too_many e =
      reading_refused g v state part m.buffer m.state m.verdict h.stands.stands.enough
      (subst (λ (k : ℕ). leb (length part) (greatest_word - k) ≡ false) (sym h.stands.stands.position) e)

  pub read_took : (s : Option Settings) → s ≡ Some g → eqb (read_call s m.state part m.buffer m.verdict).number 0 ≡ true → Took g x (read_call s m.state part m.buffer m.verdict)
  read_took s made done = subst (Took g x) (sym is) (go (leb (length part) (greatest_word - offset)) refl)
    where
      is : read_call s m.state part m.buffer m.verdict ≡ read_finished g m.state m.verdict reading
      is =
          ap (λ (z : Option Settings). read_call z m.state part m.buffer m.verdict) made
          ∙ call_is g memory part state h.stands.encodes.state_words_lem h.stands.encodes.verdict_words_lem h.stands.encodes.reader

      go : (b : Bool) → leb (length part) (greatest_word - offset) ≡ b → Took g x (read_finished g m.state m.verdict reading)
      go true e = let k = leb-true (length part) (greatest_word - offset) e in let w = h.within in finished (omega (arith, k, w))
      go false e = not_both (sym done ∙ ap (λ (c : Called). eqb c.number 0) is ∙ too_many e)
