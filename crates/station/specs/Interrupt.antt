-- 02, §14, at the slave (000, C.3.4.4): the reverse interrupt, and the answer to a bare ENQ. Document 01's answers, and what of them changes.
use Rattle.std.specs.Prelude.{List, Bool, true, false, cond, not, ◌&&◌, ℕ, ◌-◌, eqb, None}
use Rattle.lists.specs.Outcome.{need, Outcome, outcome}
use Rattle.station.specs.Station.{opened_station, valid_station, station_acted, dropped, refused_station, good_block_of, bad_block_of, eot_of}
use Rattle.station.specs.declared.Station.{Station}
use Rattle.station.specs.declared.Station.TheVariants.{Closed, Open}
use Rattle.station.specs.declared.Ending.{Ending}
use Rattle.station.specs.declared.Reply.{Reply}
use Rattle.station.specs.declared.Reply.TheVariants.{NoReply, Ack, Nak, Eot, Rint}
use Rattle.station.specs.declared.ReplyKind.{ReplyKind}
use Rattle.station.specs.declared.ReplyKind.TheVariants.{NoneYet, Ack as AckKind, Nak as NakKind, Rint as RintKind}
use Rattle.station.specs.declared.Interrupt.{Interrupt}
use Rattle.station.specs.declared.Interrupt.TheVariants.{Unasked, Pending, Given}
use Rattle.station.specs.declared.Turn.{Turn}
use Rattle.station.specs.declared.StationState.{StationState}
use Rattle.station.specs.declared.Acted.{Acted}
use Rattle.station.specs.declared.StationAnswer.{StationAnswer}

-- what an open station keeps of its replies: the kind of the last one, and how it stands with RINT
abbrev pub turn : ReplyKind → Interrupt → Turn
turn k i = record { last = k; interrupt = i }

-- after an opening: "if it gave none"; no RINT is asked for. A closed station has the same.
abbrev pub fresh_turn : Turn
fresh_turn = turn NoneYet Unasked

abbrev pub station_state : Station → Turn → StationState
station_state s v = record { station = s; turn = v }

abbrev pub station_answer : Acted → Turn → StationAnswer
station_answer a v = record { acted = a; turn = v }

-- ---- what a reply leaves: it is the last one, whatever it answers; an ACK after a RINT lets another be asked for
abbrev pub acknowledging : Interrupt → Interrupt
acknowledging Unasked = Unasked
acknowledging Pending = Pending
acknowledging Given = Unasked

unfoldable pub turn_after : Reply → Turn → Turn
turn_after NoReply v = v
turn_after (Ack n) v = turn AckKind (acknowledging v.interrupt)
turn_after Nak v = turn NakKind v.interrupt
turn_after Eot v = fresh_turn
turn_after Rint v = turn RintKind Given

-- "when its driver asks, the slave gives RINT instead of the ACK for the next good expected block": of the ACK with the expected number, which no duplicate has
abbrev pub ack_given : ℕ → ℕ → Interrupt → Reply
ack_given expected n Unasked = Ack n
ack_given expected n Pending = cond (eqb n expected) Rint (Ack n)
ack_given expected n Given = Ack n

abbrev pub open_given : ℕ → Reply → Interrupt → Reply
open_given expected NoReply i = NoReply
open_given expected (Ack n) i = ack_given expected n i
open_given expected Nak i = Nak
open_given expected Eot i = Eot
open_given expected Rint i = Rint

unfoldable pub reply_given : Station → Reply → Interrupt → Reply
reply_given Closed w i = w
reply_given (Open e h) w i = open_given e w i

-- what is kept is gone when the station closes, a pending RINT too
unfoldable pub turn_then : Station → Reply → Turn → Turn
turn_then Closed w v = fresh_turn
turn_then (Open e h) w v = turn_after w v

-- document 01's answer with the reply that is given
abbrev pub with_reply : Reply → Acted → Acted
with_reply w a = record { refusal = a.refusal; station = a.station; reply = w; message = a.message }

unfoldable pub answered_of : StationState → Acted → StationAnswer
answered_of s a =
    station_answer (with_reply (reply_given s.station a.reply s.turn.interrupt) a)
    (turn_then a.station (reply_given s.station a.reply s.turn.interrupt) s.turn)

-- ---- the acts
abbrev pub opened_station_answer : StationAnswer
opened_station_answer = station_answer (station_acted opened_station NoReply None) fresh_turn

abbrev pub good_block_answer : StationState → ℕ → Ending → List ℕ → List ℕ → Outcome StationAnswer
good_block_answer s n x text b =
    outcome (answered_of s (good_block_of s.station n x text b).answer) (good_block_of s.station n x text b).buffer

abbrev pub bad_block_answer : StationState → StationAnswer
bad_block_answer s = answered_of s (bad_block_of s.station)

abbrev pub eot_answer : StationState → StationAnswer
eot_answer s = answered_of s (eot_of s.station)

-- "the slave answers a bare ENQ with its last reply, or NAK if it gave none". The last ACK was that of the number just before the expected one.
unfoldable pub number_before : ℕ → ℕ
number_before e = cond (eqb e 0) 7 (e - 1)

abbrev pub last_reply : ℕ → ReplyKind → Reply
last_reply expected NoneYet = Nak
last_reply expected AckKind = Ack (number_before expected)
last_reply expected NakKind = Nak
last_reply expected RintKind = Rint

abbrev pub bare_enq_at : Station → Turn → StationAnswer
bare_enq_at Closed v = station_answer (dropped Closed NoReply) fresh_turn
bare_enq_at (Open e h) v =
    need (valid_station (Open e h)) (station_answer (refused_station (Open e h)) v)
    (station_answer (dropped (Open e h) (last_reply e v.last)) (turn_after (last_reply e v.last) v))

unfoldable pub bare_enq_of : StationState → StationAnswer
bare_enq_of s = bare_enq_at s.station s.turn

-- the driver asks: "11 for asking RINT with one pending or no ACK since the last"; closed: the act doesn't apply
abbrev pub asked_when : Station → ReplyKind → Interrupt → StationAnswer
asked_when s k Unasked = station_answer (station_acted s NoReply None) (turn k Pending)
asked_when s k Pending = station_answer (refused_station s) (turn k Pending)
asked_when s k Given = station_answer (refused_station s) (turn k Given)

abbrev pub interrupt_at : Station → Turn → StationAnswer
interrupt_at Closed v = station_answer (refused_station Closed) fresh_turn
interrupt_at (Open e h) v = need (valid_station (Open e h)) (station_answer (refused_station (Open e h)) v) (asked_when (Open e h) v.last v.interrupt)

unfoldable pub interrupt_of : StationState → StationAnswer
interrupt_of s = interrupt_at s.station s.turn

-- ---- which words are a state: which last reply and RINT go together, and with the numbers: what is given is last until another is, and before the first reply nothing is accepted
abbrev pub is_given : Interrupt → Bool
is_given Unasked = false
is_given Pending = false
is_given Given = true

abbrev pub agrees : ℕ → ℕ → ReplyKind → Interrupt → Bool
agrees e h NoneYet i = (eqb e 1 && eqb h 0) && not (is_given i)
agrees e h AckKind i = not (is_given i)
agrees e h NakKind i = true
agrees e h RintKind i = is_given i
