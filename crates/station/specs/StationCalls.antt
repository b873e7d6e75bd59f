-- What the C functions of the X3.28 station return and leave in what was passed, for every input (include/giamuvich.h).
use Rattle.std.specs.Prelude.{List, [], ◌∷◌, ◌++◌, Bool, cond, ◌&&◌, ◌||◌, ℕ, length, get_or, leb, eqb, Option, Some, None}
use Rattle.lists.specs.Bytes.{over}
use Rattle.lists.specs.Outcome.{need, Outcome, outcome, Called, called}
use Rattle.refusal.specs.Refusal.{SETTING, TOO_SHORT, STATE}
use Rattle.station.specs.Interrupt.{turn, fresh_turn, station_state, agrees, opened_station_answer, good_block_answer, bad_block_answer, eot_answer, bare_enq_of, interrupt_of}
use Rattle.station.specs.declared.Station.{Station}
use Rattle.station.specs.declared.Station.TheVariants.{Closed, Open}
use Rattle.station.specs.declared.Ending.TheVariants.{Etb, Etx}
use Rattle.station.specs.declared.Reply.{Reply}
use Rattle.station.specs.declared.Reply.TheVariants.{NoReply, Ack, Nak, Eot, Rint}
use Rattle.station.specs.declared.ReplyKind.{ReplyKind}
use Rattle.station.specs.declared.ReplyKind.TheVariants.{NoneYet, Ack as AckKind, Nak as NakKind, Rint as RintKind}
use Rattle.station.specs.declared.Interrupt.{Interrupt}
use Rattle.station.specs.declared.Interrupt.TheVariants.{Unasked, Pending, Given}
use Rattle.station.specs.declared.Acted.{Acted}
use Rattle.station.specs.declared.Turn.{Turn}
use Rattle.station.specs.declared.StationState.{StationState}
use Rattle.station.specs.declared.StationAnswer.{StationAnswer}
use Rattle.station.specs.declared.Ending.{Ending}

-- GMV_REPLY_NONE, _ACK, _NAK, _RINT
abbrev pub kind_word : ReplyKind → ℕ
kind_word NoneYet = 0
kind_word AckKind = 1
kind_word NakKind = 2
kind_word RintKind = 5

abbrev pub is_kind : ℕ → Bool
is_kind n = eqb n 0 || (eqb n 1 || (eqb n 2 || eqb n 5))

abbrev pub kind_in : ℕ → ReplyKind
kind_in n = cond (eqb n 1) AckKind (cond (eqb n 2) NakKind (cond (eqb n 5) RintKind NoneYet))

-- GMV_INTERRUPT_NONE, _PENDING, _GIVEN
abbrev pub interrupt_word : Interrupt → ℕ
interrupt_word Unasked = 0
interrupt_word Pending = 1
interrupt_word Given = 2

abbrev pub interrupt_in : ℕ → Interrupt
interrupt_in n = cond (eqb n 1) Pending (cond (eqb n 2) Given Unasked)

-- GMV_STATION_OPEN, _EXPECTED, _HELD, _LAST_REPLY, _INTERRUPT
abbrev pub station_words : Station → Turn → List ℕ
station_words Closed v = 0 ∷ 0 ∷ 0 ∷ 0 ∷ 0 ∷ []
station_words (Open e h) v = 1 ∷ e ∷ h ∷ kind_word v.last ∷ interrupt_word v.interrupt ∷ []

-- every content of the words is an input
abbrev pub open_words : List ℕ → Bool
open_words ws =
    eqb (get_or ws 0 0) 1
    && ((is_kind (get_or ws 3 0) && leb (get_or ws 4 0) 2) && agrees (get_or ws 1 0) (get_or ws 2 0) (kind_in (get_or ws 3 0)) (interrupt_in (get_or ws 4 0)))

abbrev pub closed_words : List ℕ → Bool
closed_words ws =
    eqb (get_or ws 0 0) 0 && (eqb (get_or ws 1 0) 0 && (eqb (get_or ws 2 0) 0 && (eqb (get_or ws 3 0) 0 && eqb (get_or ws 4 0) 0)))

unfoldable pub station_in : List ℕ → Option StationState
station_in ws =
    cond (open_words ws) (Some (station_state (Open (get_or ws 1 0) (get_or ws 2 0)) (turn (kind_in (get_or ws 3 0)) (interrupt_in (get_or ws 4 0)))))
    (cond (closed_words ws) (Some (station_state Closed fresh_turn)) None)

-- GMV_ETB, GMV_ETX: the ASCII characters
abbrev pub ending_of : ℕ → Option Ending
ending_of n = cond (eqb n 0x17) (Some Etb) (cond (eqb n 0x03) (Some Etx) None)

-- GMV_STATION_REPLY, GMV_STATION_REPLY_NUMBER
abbrev pub reply_words : Reply → List ℕ
reply_words NoReply = 0 ∷ 0 ∷ []
reply_words (Ack n) = 1 ∷ n ∷ []
reply_words Nak = 2 ∷ 0 ∷ []
reply_words Eot = 3 ∷ 0 ∷ []
reply_words Rint = 5 ∷ 0 ∷ []

-- GMV_STATION_COMPLETE, GMV_STATION_MESSAGE_LENGTH
abbrev pub message_words : Option ℕ → List ℕ
message_words None = 0 ∷ 0 ∷ []
message_words (Some n) = 1 ∷ n ∷ []

abbrev pub station_report : Acted → List ℕ
station_report a = reply_words a.reply ++ message_words a.message

-- what an act answered, in the state and the report; a refusal changes neither
abbrev pub act_written : List ℕ → List ℕ → Outcome StationAnswer → Called
act_written st p o =
    need (eqb o.answer.acted.refusal 0) (called o.answer.acted.refusal st o.buffer p)
    (called 0 (over st (station_words o.answer.acted.station o.answer.turn)) o.buffer (over p (station_report o.answer.acted)))

-- GMV_STATION_WORDS, GMV_STATION_REPORT_WORDS
abbrev pub enough_words : ℕ → ℕ → Bool
enough_words states reports = leb 5 states && leb 4 reports

-- an act on the station that the words encode: 2, then 11 for words that encode none, then the act
abbrev pub act_on : Option StationState → (StationState → Outcome StationAnswer) → List ℕ → List ℕ → List ℕ → Called
act_on None f st b p = called STATE st b p
act_on (Some s) f st b p = act_written st p (f s)

abbrev pub station_call : (StationState → Outcome StationAnswer) → List ℕ → List ℕ → List ℕ → Called
station_call f st b p = need (enough_words (length st) (length p)) (called TOO_SHORT st b p) (act_on (station_in st) f st b p)

-- gmv_station_fresh: closed
unfoldable pub fresh_station_call : List ℕ → Called
fresh_station_call st = need (leb 5 (length st)) (called TOO_SHORT st [] []) (called 0 (over st (station_words Closed fresh_turn)) [] [])

-- gmv_station_open: "The driver may open at any time", whatever the words are
unfoldable pub open_station_call : List ℕ → List ℕ → Called
open_station_call st p =
    need (enough_words (length st) (length p)) (called TOO_SHORT st [] p) (act_written st p (outcome opened_station_answer []))

-- gmv_station_block: 1 for an ending that is none, then as every act
abbrev pub block_ended_by : Option Ending → ℕ → List ℕ → List ℕ → List ℕ → List ℕ → Called
block_ended_by None n t b st p = called SETTING st b p
block_ended_by (Some x) n t b st p = station_call (λ (s : StationState). good_block_answer s n x t b) st b p

unfoldable pub good_block_call : ℕ → ℕ → List ℕ → List ℕ → List ℕ → List ℕ → Called
good_block_call n x t b st p = block_ended_by (ending_of x) n t b st p

-- gmv_station_bad, gmv_station_enquiry
unfoldable pub bad_block_call : List ℕ → List ℕ → Called
bad_block_call st p = station_call (λ (s : StationState). outcome (bad_block_answer s) []) st [] p

-- gmv_station_end
unfoldable pub eot_call : List ℕ → List ℕ → Called
eot_call st p = station_call (λ (s : StationState). outcome (eot_answer s) []) st [] p

-- gmv_station_bare_enq
unfoldable pub bare_enq_call : List ℕ → List ℕ → Called
bare_enq_call st p = station_call (λ (s : StationState). outcome (bare_enq_of s) []) st [] p

-- gmv_station_interrupt
unfoldable pub interrupt_call : List ℕ → List ℕ → Called
interrupt_call st p = station_call (λ (s : StationState). outcome (interrupt_of s) []) st [] p
