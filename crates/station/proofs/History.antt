-- The station is what its history says: document 01's part by Plain, and the last reply and RINT here.
use Rattle.std.specs.Prelude.{None}
use mathlib.Core.Path.{◌≡◌, refl, ap, ◌∙◌, subst}
use mathlib.Core.List.{List, [], ◌∷◌}
use mathlib.Core.Bool.{Bool, true, false, cond, not, ◌&&◌, true≢false}
use Prim.Native.Nat.{ℕ, ◌+◌, ◌≤◌}
use native.Mathlib.Omega.{arith}
use lib.ListN.{length}
use lib.Dec.{leb, eqb}
use borrow.Author.Tests.{le-leb}
use Rattle.lists.specs.Outcome.{need, Outcome}
use Rattle.lists.proofs.Tests.{cond_ind, and_left}
use Rattle.refusal.specs.Refusal.{STATE}
use Rattle.station.specs.Station.{is_duplicate, valid_station, dropped, station_acted, appended, good_block_of, bad_block_of, eot_of}
use Rattle.station.specs.Interrupt.{fresh_turn, station_state, turn_after, open_given, reply_given, turn_then, answered_of, bare_enq_of, asked_when, interrupt_of}
use Rattle.station.specs.declared.Station.{Station}
use Rattle.station.specs.declared.Station.TheVariants.{Closed, Open}
use Rattle.station.specs.declared.Ending.{Ending}
use Rattle.station.specs.declared.Ending.TheVariants.{Etb, Etx}
use Rattle.station.specs.declared.Acted.{Acted}
use Rattle.station.specs.declared.StationAnswer.{StationAnswer}
use Rattle.station.specs.declared.Reply.{Reply}
use Rattle.station.specs.declared.Reply.TheVariants.{NoReply, Ack, Nak, Eot}
use Rattle.station.specs.declared.ReplyKind.{ReplyKind}
use Rattle.station.specs.declared.Interrupt.{Interrupt}
use Rattle.station.specs.declared.Interrupt.TheVariants.{Unasked, Pending, Given}
use Rattle.station.specs.declared.Turn.{Turn}
use Rattle.station.specs.History.{Unit, good, bad, enquiry, eot, bare_enq, asks, Block, expected_after, text_held, messages_of, Past, past, past_of, station_of, is_unasked, holds_at_most, sound_state, plain_reply, open_reply, asked, turn_by, turn_of, reply_of, Opening, state_of, unit_outcome, opening_after, station_run}
use Rattle.station.proofs.Texts.{goes_round}
use Rattle.station.proofs.Turns.{is_asks, turn-fits}
use Rattle.station.proofs.Plain.{Stands, run, plain_outcome, run_after, either_answers, unit_answers}

-- ---- a unit's part of a run is document 01's
-- an act by which the station stays as it is and no message is complete
record Keeps (s : Station) (a : StationAnswer) : Type 0 where
  station : a.acted.station ≡ s
  incomplete : a.acted.message ≡ None

enq_keeps : (s : Station) (v : Turn) → Keeps s (bare_enq_of (station_state s v))
unfolding bare_enq_of
enq_keeps Closed v = record { station = refl; incomplete = refl }
enq_keeps (Open e h) v =
    cond_ind (Keeps (Open e h)) (leb e 7) _ _ (λ z. record { station = refl; incomplete = refl }) (λ z. record { station = refl; incomplete = refl })

asked_keeps : (s : Station) (k : ReplyKind) (i : Interrupt) → Keeps s (asked_when s k i)
asked_keeps s k Unasked = record { station = refl; incomplete = refl }
asked_keeps s k Pending = record { station = refl; incomplete = refl }
asked_keeps s k Given = record { station = refl; incomplete = refl }

interrupt_keeps : (s : Station) (v : Turn) → Keeps s (interrupt_of (station_state s v))
unfolding interrupt_of
interrupt_keeps Closed v = record { station = refl; incomplete = refl }
interrupt_keeps (Open e h) v =
    cond_ind (Keeps (Open e h)) (leb e 7) _ _ (λ z. asked_keeps (Open e h) v.last v.interrupt) (λ z. record { station = refl; incomplete = refl })

unit_run : (o : Opening) (u : Unit) → (opening_after (unit_outcome o u) o.run.messages).run ≡ run_after (plain_outcome o.run u) o.run.messages
unfolding answered_of
unit_run o (good n x t) = refl
unit_run o bad = refl
unit_run o enquiry = refl
unit_run o eot = refl
unit_run o bare_enq = let k = enq_keeps o.run.station o.turn in rw (k.station, k.incomplete)
unit_run o asks = let k = interrupt_keeps o.run.station o.turn in rw (k.station, k.incomplete)

pub run-after : (b : List ℕ) (us : List Unit) (u : Unit)
    → (station_run b (u ∷ us)).run ≡ run_after (plain_outcome (station_run b us).run u) (station_run b us).run.messages
unfolding station_run
run-after b us u = unit_run (station_run b us) u

-- The station, its buffer and the messages handed over are functions of what was reported since opening: the messages are exactly those whose blocks came in order.
pub stands : (b : List ℕ) (us : List Unit) → Stands (length b) (station_run b us).run (past_of (length b) us)
unfolding station_run past_of text_held messages_of expected_after
stands b [] = record { station = refl; messages = refl; size = refl; held = refl; most = omega arith }
stands b (u ∷ us) =
    rw (unit_run (station_run b us) u) (unit_answers (length b) (station_run b us).run (past_of (length b) us) (stands b us) u).stands

-- ---- what a good block can be answered with by a station that is one: what holds of each, holds of its answer
appended_ind : (P : Acted → Type 0) (e : ℕ) (x : Ending) (n : ℕ) → P (appended e Etb n) → P (appended e Etx n) → P (appended e x n)
appended_ind P e Etb n f g = f
appended_ind P e Etx n f g = g

module _ (P : Acted → Type 0) (e h n : ℕ) (x : Ending) (t b : List ℕ) (valid : leb e 7 ≡ true) where
  good_ind : P (dropped (Open e h) Nak) → P (dropped (Open e h) (Ack n)) → P (station_acted Closed Eot None)
      → P (appended e Etb (h + length t)) → P (appended e Etx (h + length t)) → P (good_block_of (Open e h) n x t b).answer
  unfolding good_block_of
  good_ind nak ack eots etb etx =
      let Q : Outcome Acted → Type 0 = λ o. P o.answer in
      rw valid
      (cond_ind Q (leb n 7) _ _
      (λ z. cond_ind Q (eqb n e) _ _
      (λ y. cond_ind Q (leb (h + length t) (length b)) _ _ (λ w. appended_ind P e x (h + length t) etb etx) (λ w. eots))
      (λ y. cond_ind Q (is_duplicate e n) _ _ (λ w. ack) (λ w. nak)))
      (λ z. nak))

-- ---- its replies, and what it keeps of them
record Replies (a : StationAnswer) (w : Reply) (v : Turn) : Type 0 where
  reply : a.acted.reply ≡ w
  turn : a.turn ≡ v

-- a closed station gives none and keeps none
closed-replies : (b : List ℕ) (ms : List (List ℕ)) (v : Turn) (u : Unit)
    → Replies (unit_outcome (record { run = run Closed b ms; turn = v }) u).answer NoReply fresh_turn
unfolding answered_of reply_given turn_then good_block_of bad_block_of eot_of bare_enq_of interrupt_of
closed-replies b ms v (good n x t) = record { reply = refl; turn = refl }
closed-replies b ms v bad = record { reply = refl; turn = refl }
closed-replies b ms v enquiry = record { reply = refl; turn = refl }
closed-replies b ms v eot = record { reply = refl; turn = refl }
closed-replies b ms v bare_enq = record { reply = refl; turn = refl }
closed-replies b ms v asks = record { reply = refl; turn = refl }

-- an open one gives document 01's, or what stands in for it, and keeps it
asked-turn : (s : Station) (k : ReplyKind) (i : Interrupt) → Replies (asked_when s k i) NoReply (asked k i)
asked-turn s k Unasked = record { reply = refl; turn = refl }
asked-turn s k Pending = record { reply = refl; turn = refl }
asked-turn s k Given = record { reply = refl; turn = refl }

module _ (bs : List Block) (b : List ℕ) (v : Turn) where
  abbrev expected : ℕ
  expected = expected_after bs

  abbrev now_open : Opening
  now_open = record { run = run (Open expected (length (text_held bs))) b (messages_of bs); turn = v }

  number_valid : leb expected 7 ≡ true
  number_valid = le-leb expected 7 (goes_round bs).most

  good_replies : (n : ℕ) (x : Ending) (t : List ℕ) (w : Reply) → (plain_outcome now_open.run (good n x t)).answer.reply ≡ w
      → Replies (unit_outcome now_open (good n x t)).answer (open_given expected w v.interrupt) (turn_after (open_given expected w v.interrupt) v)
  unfolding answered_of reply_given turn_then turn_after
  good_replies n x t w p =
      let given : Reply → Reply = λ z. open_given expected z v.interrupt in
      record {
        reply = ap given p;
        turn =
            good_ind (λ (a : Acted). turn_then a.station (given a.reply) v ≡ turn_after (given a.reply) v) expected (length (text_held bs)) n x t b number_valid
            refl refl refl refl refl
            ∙ ap (λ (z : Reply). turn_after (given z) v) p;
      }

  open_replies : (u : Unit) → (plain_outcome now_open.run u).answer.reply ≡ plain_reply (length b) bs u
      → Replies (unit_outcome now_open u).answer (open_reply (length b) bs v u) (turn_by (length b) bs v u)
  unfolding answered_of reply_given turn_then bad_block_of eot_of bare_enq_of interrupt_of
  open_replies (good n x t) p = good_replies n x t _ p
  open_replies bad p = rw number_valid record { reply = refl; turn = refl }
  open_replies enquiry p = rw number_valid record { reply = refl; turn = refl }
  open_replies eot p = rw number_valid record { reply = refl; turn = refl }
  open_replies bare_enq p = rw number_valid record { reply = refl; turn = refl }
  open_replies asks p = rw number_valid (asked-turn (Open expected (length (text_held bs))) v.last v.interrupt)

  either_replies : (k : Bool) (u : Unit)
      → (plain_outcome (run (station_of (past bs k)) b (messages_of bs)) u).answer.reply ≡ cond k NoReply (plain_reply (length b) bs u)
      → Replies (unit_outcome (record { run = run (station_of (past bs k)) b (messages_of bs); turn = v }) u).answer (reply_of (length b) (past bs k) v u)
      (cond k fresh_turn (turn_by (length b) bs v u))
  either_replies true u p = closed-replies b (messages_of bs) v u
  either_replies false u p = open_replies u p

unit_replies : (c : ℕ) (o : Opening) (p : Past) → Stands c o.run p → (u : Unit)
    → Replies (unit_outcome o u).answer (reply_of c p o.turn u) (cond p.closed fresh_turn (turn_by c p.blocks o.turn u))
unit_replies c o p i u =
    let most : length (text_held p.blocks) ≤ length o.run.buffer = let s = i.size in let m = i.most in omega (arith, s, m) in
    let same : Opening = record { run = run (station_of p) o.run.buffer (messages_of p.blocks); turn = o.turn } in
    rw (i.station, i.messages)
    (subst (λ (k : ℕ). Replies (unit_outcome same u).answer (reply_of k p o.turn u) (cond p.closed fresh_turn (turn_by k p.blocks o.turn u))) i.size
    (either_replies p.blocks o.run.buffer o.turn p.closed u
    (either_answers p.blocks o.run.buffer i.held most p.closed u).reply))

-- The last reply and RINT are functions of what was reported and asked.
pub turn_stands : (b : List ℕ) (us : List Unit) → (station_run b us).turn ≡ turn_of (length b) us
unfolding station_run turn_of
turn_stands b [] = refl
turn_stands b (u ∷ us) =
    let c = length b in
    (unit_replies c (station_run b us) (past_of c us) (stands b us) u).turn
    ∙ ap (λ (v : Turn). cond (past_of c us).closed fresh_turn (turn_by c (past_of c us).blocks v u)) (turn_stands b us)

-- and so is its reply
pub replies : (b : List ℕ) (us : List Unit) (u : Unit)
    → (unit_outcome (station_run b us) u).answer.acted.reply ≡ reply_of (length b) (past_of (length b) us) (turn_of (length b) us) u
replies b us u =
    let c = length b in
    (unit_replies c (station_run b us) (past_of c us) (stands b us) u).reply ∙ ap (λ (v : Turn). reply_of c (past_of c us) v u) (turn_stands b us)

-- After every history the words encode a state: the expected number is 0 to 7, the text held fits the buffer, and the last reply and RINT go with them.
pub reachable : (b : List ℕ) (us : List Unit) → sound_state (length b) (state_of (station_run b us)) ≡ true
reachable b us =
    rw ((stands b us).station, turn_stands b us, turn-fits (length b) us) (go (past_of (length b) us) (stands b us))
  where
    go : (p : Past) → Stands (length b) (station_run b us).run p → ((valid_station (station_of p) && holds_at_most (length b) (station_of p)) && true) ≡ true
    go p i =
        cond_ind (λ (s : Station). ((valid_station s && holds_at_most (length b) s) && true) ≡ true) p.closed Closed
        (Open (expected_after p.blocks) (length (text_held p.blocks)))
        (λ e. refl)
        (λ e. rw (le-leb (expected_after p.blocks) 7 (goes_round p.blocks).most, le-leb (length (text_held p.blocks)) (length b) i.most))

-- ---- refusals, on the state that a run leaves and any buffer
abbrev pub with_buffer : List ℕ → Opening → Opening
with_buffer b o = record { run = run o.run.station b o.run.messages; turn = o.turn }

module _ (b : List ℕ) (ms : List (List ℕ)) (v : Turn) where
  not-refused : (s : Station) → valid_station s ≡ true → (u : Unit) → is_asks u ≡ false
      → (unit_outcome (record { run = run s b ms; turn = v }) u).answer.acted.refusal ≡ 0
  unfolding answered_of good_block_of bad_block_of eot_of bare_enq_of
  not-refused Closed f (good n x t) g = refl
  not-refused Closed f bad g = refl
  not-refused Closed f enquiry g = refl
  not-refused Closed f eot g = refl
  not-refused Closed f bare_enq g = refl
  not-refused (Open e h) f (good n x t) g = good_ind (λ (a : Acted). a.refusal ≡ 0) e h n x t b f refl refl refl refl refl
  not-refused (Open e h) f bad g = rw f
  not-refused (Open e h) f enquiry g = rw f
  not-refused (Open e h) f eot g = rw f
  not-refused (Open e h) f bare_enq g = rw f
  not-refused s f asks g = absurd (true≢false g)

valid_station_lem : (b : List ℕ) (us : List Unit) → valid_station (station_run b us).run.station ≡ true
valid_station_lem b us = and_left _ _ (and_left _ _ (reachable b us))

-- No unit is refused, whatever buffer is lent.
pub never_refused : (b : List ℕ) (us : List Unit) (c : List ℕ) (u : Unit) → is_asks u ≡ false → (unit_outcome (with_buffer c (station_run b us)) u).answer.acted.refusal ≡ 0
never_refused b us c u = not-refused c (station_run b us).run.messages (station_run b us).turn (station_run b us).run.station (valid_station_lem b us) u

-- Asking is refused exactly if the station is closed, or a RINT is pending or given.
pub asks_answered : (b : List ℕ) (us : List Unit) (c : List ℕ)
    → (unit_outcome (with_buffer c (station_run b us)) asks).answer.acted.refusal
    ≡ need (not (past_of (length b) us).closed) STATE (need (is_unasked (turn_of (length b) us).interrupt) STATE 0)
unfolding interrupt_of
asks_answered b us c =
    rw ((stands b us).station, turn_stands b us) (either (past_of (length b) us).blocks (past_of (length b) us).closed (turn_of (length b) us))
  where
    when_open_lem : (s : Station) (k : ReplyKind) (i : Interrupt) → (asked_when s k i).acted.refusal ≡ need (is_unasked i) STATE 0
    when_open_lem s k Unasked = refl
    when_open_lem s k Pending = refl
    when_open_lem s k Given = refl

    either : (bs : List Block) (k : Bool) (v : Turn)
        → (interrupt_of (station_state (station_of (past bs k)) v)).acted.refusal ≡ need (not k) STATE (need (is_unasked v.interrupt) STATE 0)
    either bs true v = refl
    either bs false v = rw (le-leb (expected_after bs) 7 (goes_round bs).most) (when_open_lem _ v.last v.interrupt)
