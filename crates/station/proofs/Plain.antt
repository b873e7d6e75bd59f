-- Document 01's part of a unit: RINT and the answer to a bare ENQ aside, station, buffer and messages are what the history says.
use Rattle.std.specs.Prelude.{None}
use mathlib.Core.Path.{◌≡◌, refl, sym, ap, ◌∙◌, subst}
use mathlib.Core.List.{List, ◌∷◌}
use mathlib.Core.Bool.{Bool, true, false, cond}
use Prim.Native.Nat.{ℕ, ◌+◌, ◌≤◌}
use native.Mathlib.Omega.{arith}
use lib.ListN.{length, take, length-append}
use lib.Dec.{leb, eqb}
use borrow.Author.Tests.{le-leb, leb-true, leb-false, eqb-true}
use Rattle.lists.specs.Bytes.{put}
use Rattle.lists.specs.Outcome.{Outcome, outcome}
use Rattle.lists.proofs.Put.{length-put}
use Rattle.station.specs.Station.{next_number, is_duplicate, dropped, station_acted, appended, good_block_of, bad_block_of, eot_of}
use Rattle.station.specs.declared.Station.{Station}
use Rattle.station.specs.declared.Station.TheVariants.{Closed, Open}
use Rattle.station.specs.declared.Ending.{Ending}
use Rattle.station.specs.declared.Ending.TheVariants.{Etb, Etx}
use Rattle.station.specs.declared.Acted.{Acted}
use Rattle.station.specs.declared.Reply.{Reply}
use Rattle.station.specs.declared.Reply.TheVariants.{NoReply, Ack, Nak, Eot}
use Rattle.station.specs.History.{Unit, good, bad, enquiry, eot, bare_enq, asks, Block, block, expected_after, text_held, messages_of}
use Rattle.station.specs.History.{Past, past, fits, unit_after, station_of, plain_reply, Run, handed_over}
use Rattle.station.proofs.Texts.{goes_round, appended_text}

abbrev pub run : Station → List ℕ → List (List ℕ) → Run
run s b ms = record { station = s; buffer = b; messages = ms }

-- what a unit does to a run: a bare ENQ, and asking, nothing
abbrev pub plain_outcome : Run → Unit → Outcome Acted
plain_outcome r (good n x t) = good_block_of r.station n x t r.buffer
plain_outcome r bad = outcome (bad_block_of r.station) r.buffer
plain_outcome r enquiry = outcome (bad_block_of r.station) r.buffer
plain_outcome r eot = outcome (eot_of r.station) r.buffer
plain_outcome r bare_enq = outcome (dropped r.station NoReply) r.buffer
plain_outcome r asks = outcome (dropped r.station NoReply) r.buffer

abbrev pub run_after : Outcome Acted → List (List ℕ) → Run
run_after o ms = run o.answer.station o.buffer (handed_over o.answer.message o.buffer ms)

-- a run r stands where the history p says, with a buffer of c bytes
pub record Stands (c : ℕ) (r : Run) (p : Past) : Type 0 where
  pub station : r.station ≡ station_of p
  pub messages : r.messages ≡ messages_of p.blocks
  pub size : length r.buffer ≡ c
  pub held : take (length (text_held p.blocks)) r.buffer ≡ text_held p.blocks
  pub most : length (text_held p.blocks) ≤ c

-- an act's answer to a unit, and where the run stands then
pub record Answers (c : ℕ) (ms : List (List ℕ)) (o : Outcome Acted) (w : Reply) (p : Past) : Type 0 where
  pub reply : o.answer.reply ≡ w
  pub stands : Stands c (run_after o ms) p

-- ---- the open station
module _ (bs : List Block) (b : List ℕ) (held : take (length (text_held bs)) b ≡ text_held bs) (most : length (text_held bs) ≤ length b) where
  abbrev now_open : Station
  now_open = Open (expected_after bs) (length (text_held bs))

  number_valid : leb (expected_after bs) 7 ≡ true
  number_valid = le-leb (expected_after bs) 7 (goes_round bs).most

  stays : (w : Reply) → Answers (length b) (messages_of bs) (outcome (dropped now_open w) b) w (past bs false)
  stays w = record { reply = refl; stands = record { station = refl; messages = refl; size = refl; held = held; most = most } }

  closes : (w : Reply) → Answers (length b) (messages_of bs) (outcome (station_acted Closed w None) b) w (past bs true)
  closes w = record { reply = refl; stands = record { station = refl; messages = refl; size = refl; held = held; most = most } }

  module _ (n : ℕ) (t : List ℕ) where
    appends : (x : Ending) → eqb n (expected_after bs) ≡ true → fits (length b) bs t ≡ true
        → Answers (length b) (messages_of bs)
        (outcome (appended (expected_after bs) x (length (text_held bs) + length t)) (put b (length (text_held bs)) t)) (Ack n) (past (block x t ∷ bs) false)
    unfolding text_held messages_of expected_after
    appends Etb e f =
        let l = leb-true (length (text_held bs) + length t) (length b) f in
        record {
          reply = ap Ack (sym (eqb-true n (expected_after bs) e));
          stands = record {
            station = ap (λ (k : ℕ). Open (next_number (expected_after bs)) k) (sym (length-append (text_held bs) t));
            messages = refl;
            size = length-put b t (length (text_held bs)) l;
            held = ap (λ (k : ℕ). take k (put b (length (text_held bs)) t)) (length-append (text_held bs) t) ∙ appended_text b (text_held bs) t held;
            most = let z = length-append (text_held bs) t in omega (arith, z);
          };
        }
    appends Etx e f =
        let l = leb-true (length (text_held bs) + length t) (length b) f in
        record {
          reply = ap Ack (sym (eqb-true n (expected_after bs) e));
          stands = record {
            station = refl;
            messages = ap (λ (z : List ℕ). z ∷ messages_of bs) (appended_text b (text_held bs) t held);
            size = length-put b t (length (text_held bs)) l;
            held = refl;
            most = omega arith;
          };
        }

    -- by what each test says
    good_answers : (x : Ending) (v u f d : Bool) → leb n 7 ≡ v → eqb n (expected_after bs) ≡ u → fits (length b) bs t ≡ f → is_duplicate (expected_after bs) n ≡ d
        → Answers (length b) (messages_of bs) (good_block_of now_open n x t b) (plain_reply (length b) bs (good n x t)) (unit_after (length b) bs (good n x t))
    unfolding good_block_of
    good_answers x false true f d p q r s =
        let above = leb-false n 7 p in
        let same = eqb-true n (expected_after bs) q in
        let small = (goes_round bs).most in
        absurd (omega (arith, above, same, small))
    good_answers x false false f d p q r s = rw (number_valid, p, q) (stays Nak)
    good_answers x true true true d p q r s = rw (number_valid, p, q, r) (appends x q r)
    good_answers x true true false d p q r s = rw (number_valid, p, q, r) (closes Eot)
    good_answers x true false f true p q r s = rw (number_valid, p, q, s) (stays (Ack n))
    good_answers x true false f false p q r s = rw (number_valid, p, q, s) (stays Nak)

  open_answers : (u : Unit)
      → Answers (length b) (messages_of bs) (plain_outcome (run now_open b (messages_of bs)) u) (plain_reply (length b) bs u) (unit_after (length b) bs u)
  unfolding bad_block_of eot_of
  open_answers (good n x t) =
      good_answers n t x (leb n 7) (eqb n (expected_after bs)) (fits (length b) bs t) (is_duplicate (expected_after bs) n) refl refl refl refl
  open_answers bad = rw number_valid (stays Nak)
  open_answers enquiry = rw number_valid (stays Nak)
  open_answers eot = rw number_valid (closes NoReply)
  open_answers bare_enq = stays NoReply
  open_answers asks = stays NoReply

  -- ---- the closed station
  closed_answers : (u : Unit) → Answers (length b) (messages_of bs) (plain_outcome (run Closed b (messages_of bs)) u) NoReply (past bs true)
  unfolding good_block_of bad_block_of eot_of
  closed_answers (good n x t) = closes NoReply
  closed_answers bad = closes NoReply
  closed_answers enquiry = closes NoReply
  closed_answers eot = closes NoReply
  closed_answers bare_enq = closes NoReply
  closed_answers asks = closes NoReply

  pub either_answers : (k : Bool) (u : Unit)
      → Answers (length b) (messages_of bs) (plain_outcome (run (station_of (past bs k)) b (messages_of bs)) u) (cond k NoReply (plain_reply (length b) bs u))
      (cond k (past bs k) (unit_after (length b) bs u))
  either_answers true u = closed_answers u
  either_answers false u = open_answers u

pub unit_answers : (c : ℕ) (r : Run) (p : Past) → Stands c r p → (u : Unit)
    → Answers c r.messages (plain_outcome r u) (cond p.closed NoReply (plain_reply c p.blocks u)) (cond p.closed p (unit_after c p.blocks u))
unit_answers c r p i u =
    let ms = messages_of p.blocks in
    let most : length (text_held p.blocks) ≤ length r.buffer = let s = i.size in let m = i.most in omega (arith, s, m) in
    rw (i.station, i.messages)
    (subst
    (λ (k : ℕ). Answers k ms (plain_outcome (run (station_of p) r.buffer ms) u) (cond p.closed NoReply (plain_reply k p.blocks u)) (cond p.closed p (unit_after k p.blocks u)))
    i.size (either_answers p.blocks r.buffer i.held most p.closed u))
