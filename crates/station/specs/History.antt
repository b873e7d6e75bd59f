-- Document 01, 'X3.28 receiving station', and 02, §14: the station, its replies and its messages as functions of what the driver reported and asked since opening.
use Rattle.std.specs.Prelude.{List, [], ◌∷◌, ◌++◌, Bool, true, false, cond, ◌&&◌, ℕ, ◌+◌, length, take, leb, eqb, Option, Some, None}
use Rattle.lists.specs.Outcome.{need, Outcome, outcome}
use Rattle.station.specs.Station.{opened_station, next_number, is_duplicate, valid_station}
use Rattle.station.specs.Interrupt.{turn, fresh_turn, station_state, turn_after, open_given, last_reply, good_block_answer, bad_block_answer, eot_answer, bare_enq_of, interrupt_of, agrees}
use Rattle.station.specs.declared.Station.{Station}
use Rattle.station.specs.declared.Station.TheVariants.{Closed, Open}
use Rattle.station.specs.declared.Ending.{Ending}
use Rattle.station.specs.declared.Ending.TheVariants.{Etb, Etx}
use Rattle.station.specs.declared.Reply.{Reply}
use Rattle.station.specs.declared.Reply.TheVariants.{NoReply, Ack, Nak, Eot}
use Rattle.station.specs.declared.ReplyKind.{ReplyKind}
use Rattle.station.specs.declared.ReplyKind.TheVariants.{NoneYet, Ack as AckKind, Nak as NakKind, Rint as RintKind}
use Rattle.station.specs.declared.Interrupt.{Interrupt}
use Rattle.station.specs.declared.Interrupt.TheVariants.{Unasked, Pending, Given}
use Rattle.station.specs.declared.Turn.{Turn}
use Rattle.station.specs.declared.StationState.{StationState}
use Rattle.station.specs.declared.StationAnswer.{StationAnswer}

-- what the driver reports: a good block with number, ending and text, a bad block, one ended by ENQ, EOT, a bare ENQ; and that it asks for a RINT, which is
-- no unit of a line
pub data Unit : Type 0 where
  good : ℕ → Ending → List ℕ → Unit
  bad : Unit
  enquiry : Unit
  eot : Unit
  bare_enq : Unit
  asks : Unit

-- ---- blocks that came in order, the newest first
pub data Block : Type 0 where
  block : Ending → List ℕ → Block

-- "it expects block 1; after 7 comes 0"
unfoldable pub expected_after : List Block → ℕ
expected_after [] = 1
expected_after (b ∷ bs) = next_number (expected_after bs)

-- the text since the last ETX
unfoldable pub text_held : List Block → List ℕ
text_held [] = []
text_held (block Etb t ∷ bs) = text_held bs ++ t
text_held (block Etx t ∷ bs) = []

-- the messages: texts joined up to each ETX
unfoldable pub messages_of : List Block → List (List ℕ)
messages_of [] = []
messages_of (block Etb t ∷ bs) = messages_of bs
messages_of (block Etx t ∷ bs) = (text_held bs ++ t) ∷ messages_of bs

-- ---- the history of one opening, with a buffer of c bytes: the blocks that came in order and fitted, and whether the station was closed then
pub record Past : Type 0 where
  pub blocks : List Block
  pub closed : Bool

abbrev pub past : List Block → Bool → Past
past bs k = record { blocks = bs; closed = k }

abbrev pub fits : ℕ → List Block → List ℕ → Bool
fits c bs t = leb (length (text_held bs) + length t) c

abbrev pub unit_after : ℕ → List Block → Unit → Past
unit_after c bs (good n x t) =
    cond (eqb n (expected_after bs)) (need (fits c bs t) (past bs true) (past (block x t ∷ bs) false)) (past bs false)
unit_after c bs bad = past bs false
unit_after c bs enquiry = past bs false
unit_after c bs eot = past bs true
unit_after c bs bare_enq = past bs false
unit_after c bs asks = past bs false

-- the newest unit first
unfoldable pub past_of : ℕ → List Unit → Past
past_of c [] = past [] false
past_of c (u ∷ us) = cond (past_of c us).closed (past_of c us) (unit_after c (past_of c us).blocks u)

-- the station then
abbrev pub station_of : Past → Station
station_of p = cond p.closed Closed (Open (expected_after p.blocks) (length (text_held p.blocks)))

-- it is a station, and the text that it holds fits a buffer of c bytes
abbrev pub holds_at_most : ℕ → Station → Bool
holds_at_most c Closed = true
holds_at_most c (Open e h) = leb h c

abbrev pub is_unasked : Interrupt → Bool
is_unasked Unasked = true
is_unasked Pending = false
is_unasked Given = false

abbrev pub is_fresh : ReplyKind → Interrupt → Bool
is_fresh NoneYet i = is_unasked i
is_fresh AckKind i = false
is_fresh NakKind i = false
is_fresh RintKind i = false

-- and what it keeps of its replies goes with it
abbrev pub turn_fits : Station → Turn → Bool
turn_fits Closed v = is_fresh v.last v.interrupt
turn_fits (Open e h) v = agrees e h v.last v.interrupt

abbrev pub sound_state : ℕ → StationState → Bool
sound_state c s = (valid_station s.station && holds_at_most c s.station) && turn_fits s.station s.turn

-- ---- its replies. Document 01's to a unit of an open station, RINT and the answer to a bare ENQ aside
abbrev pub plain_reply : ℕ → List Block → Unit → Reply
plain_reply c bs (good n x t) =
    need (leb n 7) Nak
    (cond (eqb n (expected_after bs)) (need (fits c bs t) Eot (Ack n)) (cond (is_duplicate (expected_after bs) n) (Ack n) Nak))
plain_reply c bs bad = Nak
plain_reply c bs enquiry = Nak
plain_reply c bs eot = NoReply
plain_reply c bs bare_enq = NoReply
plain_reply c bs asks = NoReply

-- with the last reply and RINT as they stand
abbrev pub open_reply : ℕ → List Block → Turn → Unit → Reply
open_reply c bs v (good n x t) = open_given (expected_after bs) (plain_reply c bs (good n x t)) v.interrupt
open_reply c bs v bad = Nak
open_reply c bs v enquiry = Nak
open_reply c bs v eot = NoReply
open_reply c bs v bare_enq = last_reply (expected_after bs) v.last
open_reply c bs v asks = NoReply

-- ---- the last reply and RINT: what the driver asks for is pending, unless one is or no ACK came since the last; and each reply is the last one then
abbrev pub asked : ReplyKind → Interrupt → Turn
asked k Unasked = turn k Pending
asked k Pending = turn k Pending
asked k Given = turn k Given

abbrev pub turn_by : ℕ → List Block → Turn → Unit → Turn
turn_by c bs v (good n x t) = turn_after (open_reply c bs v (good n x t)) v
turn_by c bs v bad = turn_after (open_reply c bs v bad) v
turn_by c bs v enquiry = turn_after (open_reply c bs v enquiry) v
turn_by c bs v eot = fresh_turn
turn_by c bs v bare_enq = turn_after (open_reply c bs v bare_enq) v
turn_by c bs v asks = asked v.last v.interrupt

unfoldable pub turn_of : ℕ → List Unit → Turn
turn_of c [] = fresh_turn
turn_of c (u ∷ us) = cond (past_of c us).closed fresh_turn (turn_by c (past_of c us).blocks (turn_of c us) u)

abbrev pub reply_of : ℕ → Past → Turn → Unit → Reply
reply_of c p v u = cond p.closed NoReply (open_reply c p.blocks v u)

-- ---- a run of the station's acts from its opening on: the station, the buffer, and the messages handed over, the newest first
pub record Run : Type 0 where
  pub station : Station
  pub buffer : List ℕ
  pub messages : List (List ℕ)

-- with what it keeps of its replies
pub record Opening : Type 0 where
  pub run : Run
  pub turn : Turn

abbrev pub state_of : Opening → StationState
state_of o = station_state o.run.station o.turn

abbrev pub unit_outcome : Opening → Unit → Outcome StationAnswer
unit_outcome o (good n x t) = good_block_answer (state_of o) n x t o.run.buffer
unit_outcome o bad = outcome (bad_block_answer (state_of o)) o.run.buffer
unit_outcome o enquiry = outcome (bad_block_answer (state_of o)) o.run.buffer
unit_outcome o eot = outcome (eot_answer (state_of o)) o.run.buffer
unit_outcome o bare_enq = outcome (bare_enq_of (state_of o)) o.run.buffer
unit_outcome o asks = outcome (interrupt_of (state_of o)) o.run.buffer

-- where a message is complete, it is taken from the buffer's start
abbrev pub handed_over : Option ℕ → List ℕ → List (List ℕ) → List (List ℕ)
handed_over None b ms = ms
handed_over (Some n) b ms = take n b ∷ ms

abbrev pub opening_after : Outcome StationAnswer → List (List ℕ) → Opening
opening_after o ms =
    record {
      run = record { station = o.answer.acted.station; buffer = o.buffer; messages = handed_over o.answer.acted.message o.buffer ms };
      turn = o.answer.turn;
    }

unfoldable pub station_run : List ℕ → List Unit → Opening
station_run b [] = record { run = record { station = opened_station; buffer = b; messages = [] }; turn = fresh_turn }
station_run b (u ∷ us) = opening_after (unit_outcome (station_run b us) u) (station_run b us).run.messages
