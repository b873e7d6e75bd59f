-- Document 01, 'Reading a stream', of the C functions: "Verdicts are those a definition gives for the whole input, in however many parts it came, provided the same buffer is lent unaltered each time."
use Rattle.std.specs.Prelude.{Option, Some, None}
use mathlib.Core.Path.{◌≡◌, refl, sym, ap, ◌∙◌}
use mathlib.Core.List.{List, [], map}
use mathlib.Core.Bool.{Bool, true, false}
use Prim.Native.Nat.{ℕ, ◌+◌, ◌≤◌}
use native.Mathlib.Omega.{arith}
use lib.ListN.{length, drop}
use lib.Dec.{ltb}
use borrow.Author.Tests.{le-ltb, le-leb}
use Rattle.lists.specs.Bytes.{greatest_word, over}
use Rattle.lists.specs.Outcome.{Called, called}
use Rattle.lists.proofs.Tests.{cond_ind}
use Rattle.settings.specs.Settings.{limit_valid, hybrid_valid, valid, capacity_of, made_of, hybrid_of, minimal_of}
use Rattle.settings.specs.declared.Kind.TheVariants.{Hybrid, Minimal}
use Rattle.settings.specs.declared.Settings.{Settings}
use Rattle.stream.specs.Stream.{Mode, between, run, after, held, verdicts}
use Rattle.stream.specs.Scan.{fresh}
use Rattle.stream.specs.declared.Reader.{Reader}
use Rattle.block_theorems.specs.Session.{Served, session, joined}
use Rattle.block_theorems.proofs.Simulation.{Stands}
use Rattle.block_theorems.proofs.Parts.{session-from, same_from, fresh_stands}
use Rattle.block_calls.specs.ReaderWords.{reader_words}
use Rattle.block_calls.specs.ReadCalls.{fresh_reader_call}
use Rattle.block_calls.proofs.ReadBack.{words_back}
use Rattle.call_theorems.specs.Reading.{shown, Driven, driven, parts_calls, stream_calls, without_report, Taken, hybrid, minimal}
use Rattle.call_theorems.proofs.OneCall.{over-length, over_beyond}
use Rattle.call_theorems.proofs.Simulation.{Encodes, Matches, matches_encodes, parts_match}

-- ---- settings as C has them
abbrev valid_of : Option Settings → Bool
valid_of (Some g) = valid g
valid_of None = false

module _ (g : Settings) where
  abbrev Makes : Option Settings → Type 0
  Makes s = s ≡ Some g → valid g ≡ true

  not_made : Makes None
  not_made e = let z : ◌≡◌ {A = ℕ} 0 1 = cc in absurd (omega arith)

  made : (x : Settings) → Makes (made_of x)
  made x = cond_ind Makes (valid x) _ _ (λ h e. sym (ap valid_of e) ∙ h) (λ h. not_made)

pub taken_valid : (s : Option Settings) (g : Settings) → Taken s g → valid g ≡ true
taken_valid s g (hybrid sb eb d e) =
    cond_ind (Makes g) (ltb 255 sb) _ _ (λ h. not_made g) (λ h. cond_ind (Makes g) (ltb 255 eb) _ _ (λ i. not_made g) (λ i. made g _)) e
taken_valid s g (minimal d e) = made g _ e

taken_made : (s : Option Settings) (g : Settings) → Taken s g → s ≡ Some g
taken_made s g (hybrid sb eb d e) = e
taken_made s g (minimal d e) = e

-- which numbers they take
pub hybrid_taken : (sb eb d : ℕ) → sb ≤ 255 → eb ≤ 255 → hybrid_valid sb eb d ≡ true
    → Taken (hybrid_of sb eb d) (record { kind = Hybrid; start_block = sb; end_block = eb; data_limit = d })
unfolding valid
hybrid_taken sb eb d h l v =
    let made : hybrid_of sb eb d ≡ Some (record { kind = Hybrid; start_block = sb; end_block = eb; data_limit = d }) = rw (le-ltb 255 sb h, le-ltb 255 eb l, v) in
    hybrid sb eb d made

pub minimal_taken : (d : ℕ) → limit_valid d ≡ true
    → Taken (minimal_of d) (record { kind = Minimal; start_block = 0x0B; end_block = 0x1C; data_limit = d })
unfolding valid
minimal_taken d v =
    let made : minimal_of d ≡ Some (record { kind = Minimal; start_block = 0x0B; end_block = 0x1C; data_limit = d }) = rw v in
    minimal d made

-- ---- from anywhere in a stream
-- the driver's memory stands at offset k of a stream, in the mode m
pub record StandsAt (g : Settings) (k : ℕ) (m : Mode) (c : Called) : Type 0 where
  pub reader : Reader
  pub encodes : Encodes reader c
  pub stands : Stands g k m reader c.buffer

-- From there on the bytes xs gave what the definition gives for them. The last call was not refused, so none was. No word behind a state's four and a verdict's eight has changed.
pub record Gives (g : Settings) (k : ℕ) (m : Mode) (c : Called) (xs : List ℕ) (u : Driven) : Type 0 where
  pub says : u.says ≡ map (shown g) (run g k m xs)
  pub done : u.last.number ≡ 0
  pub buffer : u.last.buffer ≡ held g k m c.buffer xs
  pub stands : StandsAt g (k + length xs) (after g k m xs) u.last
  pub state_beyond : drop 4 u.last.state ≡ drop 4 c.state
  pub verdict_beyond : drop 8 u.last.report ≡ drop 8 c.report

four_beyond : (st : List ℕ) (r : Reader) → 4 ≤ length st → drop 4 (over st (reader_words r)) ≡ drop 4 st
unfolding reader_words
four_beyond st r h = over_beyond st (reader_words r) h

module _ (s : Option Settings) (g : Settings) (taken : Taken s g) where
  follows : (parts : List (List ℕ)) (k : ℕ) (m : Mode) (c : Called) → k + length (joined parts) ≤ greatest_word → (h : StandsAt g k m c)
      → Matches g c (session g h.reader c.buffer parts) (parts_calls s c parts)
  follows parts k m c l h = rw (taken_made s g taken) (parts_match g (taken_valid s g taken) parts k m h.reader c.buffer c l refl h.stands h.encodes)

  pub calls_from : (parts : List (List ℕ)) (k : ℕ) (m : Mode) (c : Called) → k + length (joined parts) ≤ greatest_word → StandsAt g k m c
      → Gives g k m c (joined parts) (parts_calls s c parts)
  calls_from parts k m c l h =
      let t = session g h.reader c.buffer parts in
      let u = parts_calls s c parts in
      let p = session-from g (taken_valid s g taken) parts k m h.reader c.buffer l h.stands in
      let q = follows parts k m c l h in
      record {
        says = q.says ∙ ap (map (shown g)) p.says;
        done = q.done;
        buffer = q.buffer ∙ p.buffer;
        stands = record { reader = t.reader; encodes = matches_encodes g c h.reader t u h.encodes q; stands = rw q.buffer p.stands };
        state_beyond = ap (drop 4) q.state ∙ four_beyond c.state t.reader h.encodes.state_words_lem;
        verdict_beyond = q.beyond;
      }

  -- two ways of splitting what follows into parts
  pub calls_same-from : (parts others : List (List ℕ)) (k : ℕ) (m : Mode) (c : Called) → joined parts ≡ joined others → k + length (joined parts) ≤ greatest_word
      → StandsAt g k m c
      → without_report (parts_calls s c parts) ≡ without_report (parts_calls s c others)
  calls_same-from parts others k m c e l h =
      let p = follows parts k m c l h in
      let q = follows others k m c (rw e at l) h in
      let same = same_from g (taken_valid s g taken) parts others k m h.reader c.buffer e l h.stands in
      left parts p ∙ ap (λ (t : Served). driven (map (shown g) t.says) (called 0 (over c.state (reader_words t.reader)) t.buffer [])) same ∙ sym (left others q)
    where
      left : (ps : List (List ℕ)) → Matches g c (session g h.reader c.buffer ps) (parts_calls s c ps)
          → without_report (parts_calls s c ps)
          ≡ driven (map (shown g) (session g h.reader c.buffer ps).says)
          (called 0 (over c.state (reader_words (session g h.reader c.buffer ps).reader)) (session g h.reader c.buffer ps).buffer [])
      left ps w = rw (w.says, w.done, w.state, w.buffer)

  -- ---- from gmv_reader_fresh on
  module _ (st b w : List ℕ) (enough_state : 4 ≤ length st) (enough-buffer : capacity_of g ≤ length b) (enough-verdict : 8 ≤ length w) where
    abbrev begun : Called
    begun = called 0 (over st (reader_words fresh)) b w

    starts : (parts : List (List ℕ)) → stream_calls s st b w parts ≡ parts_calls s begun parts
    unfolding stream_calls fresh_reader_call
    starts parts = rw (le-leb 4 (length st) enough_state)

    pub fresh_stands_at : StandsAt g 0 between begun
    unfolding reader_words
    fresh_stands_at =
        record {
          reader = fresh;
          encodes = record { done = refl; state_words_lem = rw (over-length st (reader_words fresh) enough_state) enough_state; verdict_words_lem = enough-verdict; reader = words_back st enough_state fresh };
          stands = fresh_stands g b enough-buffer;
        }

    gives : (parts : List (List ℕ)) → length (joined parts) ≤ greatest_word → Gives g 0 between begun (joined parts) (stream_calls s st b w parts)
    gives parts l = rw (starts parts) (calls_from parts 0 between begun (omega arith) fresh_stands_at)

    pub calls_verdicts : (parts : List (List ℕ)) → length (joined parts) ≤ greatest_word
        → (stream_calls s st b w parts).says ≡ map (shown g) (verdicts g (joined parts))
    calls_verdicts parts l = (gives parts l).says

    pub calls_buffer : (parts : List (List ℕ)) → length (joined parts) ≤ greatest_word
        → (stream_calls s st b w parts).last.buffer ≡ held g 0 between b (joined parts)
    calls_buffer parts l = (gives parts l).buffer

    pub calls_done : (parts : List (List ℕ)) → length (joined parts) ≤ greatest_word → (stream_calls s st b w parts).last.number ≡ 0
    calls_done parts l = (gives parts l).done

    -- the words behind the first four, and the first eight
    pub calls_beyond_state : (parts : List (List ℕ)) → length (joined parts) ≤ greatest_word → drop 4 (stream_calls s st b w parts).last.state ≡ drop 4 st
    calls_beyond_state parts l = (gives parts l).state_beyond ∙ four_beyond st fresh enough_state

    pub calls_beyond_verdict : (parts : List (List ℕ)) → length (joined parts) ≤ greatest_word → drop 8 (stream_calls s st b w parts).last.report ≡ drop 8 w
    calls_beyond_verdict parts l = (gives parts l).verdict_beyond

    -- two ways of splitting one input into parts
    pub calls_same_for_any_parts : (parts others : List (List ℕ)) → joined parts ≡ joined others → length (joined parts) ≤ greatest_word
        → without_report (stream_calls s st b w parts) ≡ without_report (stream_calls s st b w others)
    calls_same_for_any_parts parts others e l =
        rw (starts parts, starts others) (calls_same-from parts others 0 between begun e (omega arith) fresh_stands_at)
