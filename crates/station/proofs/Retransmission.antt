-- Blocks that come again, damaged or out of order: the station is as if each block that came in order had been reported once.
use mathlib.Core.Path.{◌≡◌, refl, sym, ap, ◌∙◌, subst}
use mathlib.Core.List.{List, [], ◌∷◌, ◌++◌}
use mathlib.Core.Bool.{Bool, true, false, cond, true≢false}
use Prim.Native.Nat.{ℕ, zero, suc, ◌+◌, ◌≤◌}
use native.Mathlib.Omega.{arith}
use lib.ListN.{length, replicate}
use lib.Dec.{leb, eqb}
use borrow.Author.Tests.{le-leb, eqb-true, eqb-false, eq-eqb, ne_eqb}
use Rattle.lists.specs.Outcome.{Outcome, outcome}
use Rattle.lists.proofs.Tests.{and_left, and_right}
use Rattle.station.specs.Station.{next_number, precedes, is_duplicate, dropped, good_block_of, bad_block_of}
use Rattle.station.specs.declared.Station.{Station}
use Rattle.station.specs.declared.Station.TheVariants.{Open}
use Rattle.station.specs.declared.Ending.{Ending}
use Rattle.station.specs.declared.Ending.TheVariants.{Etx}
use Rattle.station.specs.Interrupt.{turn_after, open_given, reply_given, answered_of}
use Rattle.station.specs.declared.Acted.{Acted}
use Rattle.station.specs.declared.StationAnswer.{StationAnswer}
use Rattle.station.specs.declared.Interrupt.{Interrupt}
use Rattle.station.specs.declared.Interrupt.TheVariants.{Unasked, Pending, Given}
use Rattle.station.specs.declared.Reply.{Reply}
use Rattle.station.specs.declared.Reply.TheVariants.{Ack, Nak}
use Rattle.station.specs.History.{Unit, good, bad, enquiry, eot, bare_enq, asks, Block, block, expected_after, text_held, messages_of, Past, past, fits, unit_after, past_of, station_of, turn_of, reply_of, Run, state_of, unit_outcome, station_run}
use Rattle.station.specs.Retransmission.{Dropped, Transmitted, blocks_of, in_order, each_once, each_repeated, all_fit, replies_to, acknowledgments, AsOnce, LostBlock}
use Rattle.station.proofs.Texts.{goes_round}
use Rattle.station.proofs.Duplicates.{next_differs, before_small, next_one_to_one, next_preceded, precedes_next}
use Rattle.station.proofs.Plain.{plain_outcome, run_after}
use Rattle.station.proofs.Turns.{unasked_stays}
use Rattle.station.proofs.History.{run-after, stands, replies}

-- ---- an open station and a number that it does not expect
abbrev answers : ℕ → ℕ → ℕ → Ending → List ℕ → List ℕ → Reply → Type 0
answers e h n x t b w = good_block_of (Open e h) n x t b ≡ outcome (dropped (Open e h) w) b

module _ (e h n : ℕ) (x : Ending) (t b : List ℕ) (valid : e ≤ 7) (other : n ≡ e → ⊥) where
  by_duplicate : (d v : Bool) → is_duplicate e n ≡ d → leb n 7 ≡ v → answers e h n x t b (cond d (Ack n) Nak)
  unfolding good_block_of
  by_duplicate true v d p =
      rw (le-leb e 7 valid, le-leb n 7 (before_small n e valid (precedes_next n e d)), ne_eqb n e other, d)
  by_duplicate false true d p = rw (le-leb e 7 valid, p, ne_eqb n e other, d)
  by_duplicate false false d p = rw (le-leb e 7 valid, p)

-- RINT never stands in for its reply, pending or not
pub given_other : (e n : ℕ) (i : Interrupt) (d : Bool) → (n ≡ e → ⊥) → open_given e (cond d (Ack n) Nak) i ≡ cond d (Ack n) Nak
given_other e n Unasked true other = refl
given_other e n Pending true other = rw (ne_eqb n e other)
given_other e n Given true other = refl
given_other e n i false other = refl

-- a run that a unit leaves as it was, of those that document 01 answers
module _ (b : List ℕ) (us : List Unit) (u : Unit) (w : Reply) where
  abbrev before : Run
  before = (station_run b us).run

  unit_dropped : (unit_outcome (station_run b us) u).answer ≡ answered_of (state_of (station_run b us)) (plain_outcome before u).answer
      → plain_outcome before u ≡ outcome (dropped before.station w) before.buffer → reply_given before.station w (station_run b us).turn.interrupt ≡ w
      → Dropped b us u w
  unfolding answered_of
  unit_dropped a q r =
      record {
        reply = ap (λ (z : StationAnswer). z.acted.reply) a ∙ ap (λ (o : Outcome Acted). reply_given before.station o.answer.reply (station_run b us).turn.interrupt) q ∙ r;
        incomplete = ap (λ (z : StationAnswer). z.acted.message) a ∙ ap (λ (o : Outcome Acted). o.answer.message) q;
        same = run-after b us u ∙ ap (λ (o : Outcome Acted). run_after o before.messages) q;
      }

-- ---- after any history in which the station is open: bs are the blocks that came in order
module _ (b : List ℕ) (us : List Unit) (bs : List Block) (stood : past_of (length b) us ≡ past bs false) where
  abbrev open_station : Station
  open_station = Open (expected_after bs) (length (text_held bs))

  station_is : (station_run b us).run.station ≡ open_station
  station_is = (stands b us).station ∙ ap station_of stood

  valid : expected_after bs ≤ 7
  valid = (goes_round bs).most

  -- Any number but the expected one: ACK to a duplicate, else NAK, and all stays equal.
  pub unexpected_dropped : (n : ℕ) (x : Ending) (t : List ℕ) → (n ≡ expected_after bs → ⊥)
      → Dropped b us (good n x t) (cond (is_duplicate (expected_after bs) n) (Ack n) Nak)
  unfolding reply_given
  unexpected_dropped n x t other =
      let r = (station_run b us).run in
      let w = cond (is_duplicate (expected_after bs) n) (Ack n) Nak in
      unit_dropped b us (good n x t) w refl
      (subst (λ (s : Station). good_block_of s n x t r.buffer ≡ outcome (dropped s w) r.buffer) (sym station_is)
      (by_duplicate (expected_after bs) (length (text_held bs)) n x t r.buffer valid other (is_duplicate (expected_after bs) n) (leb n 7) refl refl))
      (rw station_is (given_other (expected_after bs) n (station_run b us).turn.interrupt (is_duplicate (expected_after bs) n) other))

  -- A bad block, and one ended by ENQ: NAK, and all stays equal.
  bad_answer : outcome (bad_block_of (station_run b us).run.station) (station_run b us).run.buffer
      ≡ outcome (dropped (station_run b us).run.station Nak) (station_run b us).run.buffer
  unfolding bad_block_of
  bad_answer = rw (station_is, le-leb (expected_after bs) 7 valid)

  nak_given : reply_given (station_run b us).run.station Nak (station_run b us).turn.interrupt ≡ Nak
  unfolding reply_given
  nak_given = rw station_is

  pub bad_dropped : Dropped b us bad Nak
  bad_dropped = unit_dropped b us bad Nak refl bad_answer nak_given

  pub enquiry_dropped : Dropped b us enquiry Nak
  enquiry_dropped = unit_dropped b us enquiry Nak refl bad_answer nak_given

-- ---- the newest block that came in order is k
module _ (b : List ℕ) (us : List Unit) (k : Block) (bs : List Block) (stood : past_of (length b) us ≡ past (k ∷ bs) false) where
  own_number : expected_after bs ≡ expected_after (k ∷ bs) → ⊥
  unfolding expected_after
  own_number q = next_differs (expected_after bs) (sym q)

  newest_duplicate : is_duplicate (expected_after (k ∷ bs)) (expected_after bs) ≡ true
  unfolding expected_after
  newest_duplicate = next_preceded (expected_after bs)

  no_other_duplicate : (n : ℕ) (d : Bool) → (n ≡ expected_after bs → ⊥) → is_duplicate (expected_after (k ∷ bs)) n ≡ d → d ≡ false
  unfolding expected_after
  no_other_duplicate n true before d =
      let next = precedes_next n (expected_after (k ∷ bs)) d in
      absurd (before (next_one_to_one n (expected_after bs) (before_small n (expected_after (k ∷ bs)) (goes_round (k ∷ bs)).most next) (goes_round bs).most next))
  no_other_duplicate n false before d = refl

  -- Its number again, with any text and either ending: ACK with that number, and all stays equal.
  pub retransmission_acknowledged : (x : Ending) (t : List ℕ) → Dropped b us (good (expected_after bs) x t) (Ack (expected_after bs))
  retransmission_acknowledged x t =
      subst (λ (d : Bool). Dropped b us (good (expected_after bs) x t) (cond d (Ack (expected_after bs)) Nak)) newest_duplicate
      (unexpected_dropped b us (k ∷ bs) stood (expected_after bs) x t own_number)

  -- Any other number than that and the expected one: NAK, and all stays equal.
  pub other_refused : (n : ℕ) (x : Ending) (t : List ℕ) → (n ≡ expected_after bs → ⊥) → (n ≡ expected_after (k ∷ bs) → ⊥) → Dropped b us (good n x t) Nak
  other_refused n x t before expected =
      subst (λ (d : Bool). Dropped b us (good n x t) (cond d (Ack n) Nak))
      (no_other_duplicate n (is_duplicate (expected_after (k ∷ bs)) n) before refl) (unexpected_dropped b us (k ∷ bs) stood n x t expected)

-- ---- whatever else came: the run is that of the blocks that came in order, each reported once
module _ (b : List ℕ) (us : List Unit) (bs : List Block) (stood : past_of (length b) us ≡ past bs false) (same : (station_run b us).run ≡ (station_run b (each_once bs)).run) where
  abbrev once_after : Unit → Past → Type 0
  once_after u p = p.closed ≡ false → (station_run b (u ∷ us)).run ≡ (station_run b (each_once p.blocks)).run

  good_once : (n : ℕ) (x : Ending) (t : List ℕ) (v f : Bool) → eqb n (expected_after bs) ≡ v
      → once_after (good n x t) (cond v (cond f (past (block x t ∷ bs) false) (past bs true)) (past bs false))
  unfolding each_once
  good_once n x t true true e h =
      let u = good (expected_after bs) x t in
      rw (eqb-true n (expected_after bs) e)
      (run-after b us u ∙ ap (λ (r : Run). run_after (plain_outcome r u) r.messages) same ∙ sym (run-after b (each_once bs) u))
  good_once n x t true false e h = absurd (true≢false h)
  good_once n x t false f e h = (unexpected_dropped b us bs stood n x t (eqb-false n (expected_after bs) e)).same ∙ same

  unit_once : (u : Unit) → once_after u (unit_after (length b) bs u)
  unit_once (good n x t) h = good_once n x t (eqb n (expected_after bs)) (fits (length b) bs t) refl h
  unit_once bad h = (bad_dropped b us bs stood).same ∙ same
  unit_once enquiry h = (enquiry_dropped b us bs stood).same ∙ same
  unit_once eot h = absurd (true≢false h)
  unit_once bare_enq h = run-after b us bare_enq ∙ same
  unit_once asks h = run-after b us asks ∙ same

-- After every history in which the station is open, damaged blocks and ones out of order among it.
pub each_once_lem : (b : List ℕ) (us : List Unit) → (past_of (length b) us).closed ≡ false
    → (station_run b us).run ≡ (station_run b (each_once (past_of (length b) us).blocks)).run
unfolding past_of each_once
each_once_lem b [] h = refl
each_once_lem b (u ∷ us) h = go (past_of (length b) us).closed refl h (each_once_lem b us)
  where
    go : (k : Bool) → (past_of (length b) us).closed ≡ k → (cond k (past_of (length b) us) (unit_after (length b) (past_of (length b) us).blocks u)).closed ≡ false
        → ((past_of (length b) us).closed ≡ false → (station_run b us).run ≡ (station_run b (each_once (past_of (length b) us).blocks)).run)
        → (station_run b (u ∷ us)).run ≡ (station_run b (each_once (cond k (past_of (length b) us) (unit_after (length b) (past_of (length b) us).blocks u)).blocks)).run
    go true e h before = absurd (true≢false (sym e ∙ h))
    go false e h before =
        unit_once b us (past_of (length b) us).blocks (ap (λ (k : Bool). past (past_of (length b) us).blocks k) e) (before e) u h

-- ---- every block of a list, each with its retransmissions
-- after the units us the blocks bs are taken, the replies were ws, and no RINT was asked for
record Row (b : List ℕ) (us : List Unit) (bs : List Block) (ws : List Reply) : Type 0 where
  taken : past_of (length b) us ≡ past bs false
  replied : replies_to b us ≡ ws
  unasked : (turn_of (length b) us).interrupt ≡ Unasked

module _ (b : List ℕ) (us : List Unit) (bs : List Block) (ws : List Reply) (before : Row b us bs ws) (x : Ending) (t : List ℕ)
    (fit : fits (length b) bs t ≡ true) where
  abbrev unit : Unit
  unit = good (expected_after bs) x t

  abbrev ack : Reply
  ack = Ack (expected_after bs)

  first_reply : reply_of (length b) (past bs false) (turn_of (length b) us) unit ≡ ack
  first_reply = rw (before.unasked, le-leb (expected_after bs) 7 (goes_round bs).most, eq-eqb (expected_after bs) (expected_after bs) refl, fit)

  transmitted : (a : ℕ) → Row b (replicate a unit ++ unit ∷ us) (block x t ∷ bs) (replicate a ack ++ ack ∷ ws)
  unfolding past_of replies_to
  transmitted zero =
      record {
        taken = rw (before.taken, eq-eqb (expected_after bs) (expected_after bs) refl, fit);
        replied =
            ap (λ (w : Reply). w ∷ replies_to b us) (replies b us unit ∙ ap (λ (p : Past). reply_of (length b) p (turn_of (length b) us) unit) before.taken ∙ first_reply)
            ∙ ap (λ (l : List Reply). ack ∷ l) before.replied;
        unasked = unasked_stays (length b) us before.unasked unit refl;
      }
  transmitted (suc a) =
      let r = transmitted a in
      let sent = replicate a unit ++ unit ∷ us in
      let again = retransmission_acknowledged b sent (block x t) bs r.taken x t in
      record {
        taken = rw (r.taken, ne_eqb (expected_after bs) (expected_after (block x t ∷ bs)) (own_number b sent (block x t) bs r.taken));
        replied = ap (λ (w : Reply). w ∷ replies_to b sent) again.reply ∙ ap (λ (l : List Reply). ack ∷ l) r.replied;
        unasked = unasked_stays (length b) sent r.unasked unit refl;
      }

-- the next block of a list, and the whole list
one_more : (b : List ℕ) (us : List Unit) (bs : List Block) (ws : List Reply) (k : Block) (a : ℕ) → (all_fit (length b) bs ≡ true → Row b us bs ws)
    → all_fit (length b) (k ∷ bs) ≡ true
    → Row b (replicate a (in_order bs k) ++ in_order bs k ∷ us) (k ∷ bs) (replicate a (Ack (expected_after bs)) ++ Ack (expected_after bs) ∷ ws)
unfolding all_fit
one_more b us bs ws (block x t) a before f =
    transmitted b us bs ws (before (and_left (all_fit (length b) bs) (fits (length b) bs t) f)) x t (and_right (all_fit (length b) bs) (fits (length b) bs t) f) a

rows : (b : List ℕ) (ss : List Transmitted) → all_fit (length b) (blocks_of ss) ≡ true → Row b (each_repeated ss) (blocks_of ss) (acknowledgments ss)
unfolding each_repeated blocks_of acknowledgments past_of turn_of replies_to
rows b [] f = record { taken = refl; replied = refl; unasked = refl }
rows b (s ∷ ss) f = one_more b (each_repeated ss) (blocks_of ss) (acknowledgments ss) s.content s.retransmissions (rows b ss) f

-- Blocks that come in order and fit, each reported once or several times in a row, however many they are.
pub as_once : (b : List ℕ) (ss : List Transmitted) → all_fit (length b) (blocks_of ss) ≡ true → AsOnce b ss
as_once b ss f =
    let r = rows b ss f in
    record {
      same = each_once_lem b (each_repeated ss) (ap (λ (p : Past). p.closed) r.taken) ∙ ap (λ (p : Past). (station_run b (each_once p.blocks)).run) r.taken;
      messages = (stands b (each_repeated ss)).messages ∙ ap (λ (p : Past). messages_of p.blocks) r.taken;
      replies = r.replied;
    }

-- ---- right after an opening no block came of which a block 0 could be a retransmission: it is acknowledged and lost
abbrev alone : List ℕ → Transmitted
alone t = record { content = block Etx t; retransmissions = 0 }

pub lost_block : (b lost t : List ℕ) (x : Ending) → length t ≤ length b → LostBlock b lost t x
unfolding good_block_of answered_of reply_given turn_after next_number precedes expected_after text_held messages_of past_of turn_of blocks_of each_once each_repeated all_fit station_run replies_to
lost_block b lost t x f =
    let fit = le-leb (0 + length t) (length b) (omega (arith, f)) in
    let once = as_once b (alone t ∷ []) fit in
    let zero-dropped = unit_dropped b [] (good 0 x lost) (Ack 0) refl refl refl in
    record {
      replies = ap (λ (w : Reply). w ∷ Ack 0 ∷ []) (replies b (good 0 x lost ∷ []) (good 1 Etx t) ∙ rw fit);
      messages =
          ap (λ (r : Run). r.messages) (run-after b (good 0 x lost ∷ []) (good 1 Etx t))
          ∙ ap (λ (r : Run). (run_after (plain_outcome r (good 1 Etx t)) r.messages).messages) zero-dropped.same
          ∙ ap (λ (r : Run). r.messages) (sym (run-after b [] (good 1 Etx t)))
          ∙ once.messages;
    }
