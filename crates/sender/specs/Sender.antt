-- Document 01, 'Sender': what it has stored, what a crash loses, and its acts.
use Rattle.std.specs.Prelude.{List, Bool, true, false, cond, not, ◌&&◌, ◌||◌, ℕ, ◌+◌, ◌-◌, length, leb, ltb, eqb, Option, Some, None, Result, Ok, Err}
use Prim.Native.Char.{code}
use Rattle.lists.specs.Bytes.{same}
use Rattle.lists.specs.Outcome.{need}
use Rattle.settings.specs.Settings.{valid_link_limit}
use Rattle.settings.specs.DataBytes.{all_allowed, first_forbidden}
use Rattle.refusal.specs.Refusal.{SETTING, BYTE, LONG, HEAD, NUMBER, STATE}
use Rattle.refusal.specs.declared.Accepted.{Accepted}
use Rattle.refusal.specs.declared.Refusal.{Refusal}
use Rattle.fields.specs.Fields.{bytes_of}
use Rattle.numbers.specs.Numbers.{number_field, greatest_sent, greatest_expected, text_of}
use Rattle.numbers.specs.declared.SequenceNumber.{SequenceNumber}
use Rattle.numbers.specs.declared.SequenceNumber.TheVariants.{MinusOne, Number}
use Rattle.numbers.specs.declared.NumberError.{NumberError}
use Rattle.header.specs.Header.{header_of, acknowledgment_of, code_field}
use Rattle.header.specs.declared.Header.{Header}
use Rattle.header.specs.declared.Acknowledgment.{Acknowledgment}
use Rattle.header.specs.declared.Code.{Code}
use Rattle.header.specs.declared.Code.TheVariants.{AA, AE, AR}
use Rattle.sender.specs.declared.SenderSettings.{SenderSettings}
use Rattle.sender.specs.declared.Persisted.{Persisted}
use Rattle.sender.specs.declared.Waiting.{Waiting}
use Rattle.sender.specs.declared.Waiting.TheVariants.{Closed, Idle, Resynchronizing, Querying, Sending}
use Rattle.sender.specs.declared.Sender.{Sender}
use Rattle.sender.specs.declared.Event.{Event}
use Rattle.sender.specs.declared.Event.TheVariants.{NoEvent, Delivered, DeliveredUnknown, Abandoned, Froze, Dropped}
use Rattle.sender.specs.declared.Acted.{Acted}

-- ---- settings and states
-- "first number f, 1 to 999,999,999,999,998"
abbrev pub valid_first : ℕ → Bool
valid_first f = leb 1 f && leb f greatest_sent

-- "resends r, 0 to 99"
abbrev pub valid_resends : ℕ → Bool
valid_resends r = leb r 99

-- "Settings: first number f, ..; resends r": number 1 is given exactly where this is false
abbrev pub valid_settings : SenderSettings → Bool
valid_settings g = valid_first g.first && valid_resends g.resends

-- settings of plain numbers
abbrev pub settings_of : ℕ → ℕ → Option SenderSettings
settings_of f r = need (valid_first f && valid_resends r) None (Some (record { first = f; resends = r }))

-- "Stored: f, the mark and the last submitted number (both f - 1 at first), whether resynchronised, and whether frozen.":
-- the mark is f - 1 until "AA, -1 resynchronises, and that fact is stored"
abbrev pub valid_persisted : Persisted → Bool
valid_persisted p =
    valid_first p.first && leb (p.first - 1) p.delivered && (leb p.delivered p.last && leb p.last greatest_sent)
    && (p.resynchronized || eqb p.delivered (p.first - 1))

-- the sends made of what waits: at least one, and at most r + 1 for the largest r
abbrev pub valid_sends : ℕ → Bool
valid_sends n = leb 1 n && leb n 100

-- what waits, beside what is stored; something waits only on an open circuit, and no circuit is open while frozen
abbrev pub valid_waiting : Persisted → Waiting → ℕ → Bool
valid_waiting p Closed n = eqb n 0
valid_waiting p Idle n = (not p.frozen && p.resynchronized) && (eqb p.delivered p.last && eqb n 0)
valid_waiting p Resynchronizing n = (not p.frozen && not p.resynchronized) && valid_sends n
valid_waiting p Querying n = (not p.frozen && p.resynchronized) && valid_sends n
valid_waiting p Sending n = (not p.frozen && p.resynchronized) && (ltb p.delivered p.last && valid_sends n)

-- every state that a run of acts can reach is such a one (link, SenderValid), and no act on such a one can overflow or leave them
unfoldable pub valid_sender : Sender → Bool
valid_sender s = valid_persisted s.persisted && valid_waiting s.persisted s.waiting s.sends

-- with no circuit open
abbrev pub closed : Persisted → Sender
closed p = record { persisted = p; waiting = Closed; sends = 0 }

-- "both f - 1 at first"
abbrev pub fresh_sender : ℕ → Sender
fresh_sender f = closed (record { first = f; delivered = f - 1; last = f - 1; resynchronized = false; frozen = false })

unfoldable pub sender_of : SenderSettings → Option Sender
sender_of g = need (valid_settings g) None (Some (fresh_sender g.first))

-- ---- what an act answers
-- "An act's answer names the message to send now, if any"; "The sends made of the waiting message are a number in each answer":
-- "the message waiting after the act"
abbrev pub acted : Sender → Option SequenceNumber → Event → Acted
acted s m e = record { refusal = 0; sender = s; send = m; sends = s.sends; event = e; block = 0; offset = 0 }

-- "or the one just given up"
abbrev pub abandons : Sender → Acted
abandons s =
    record { refusal = 0; sender = closed s.persisted; send = None; sends = s.sends; event = Abandoned; block = 0; offset = 0 }

-- "A refused act leaves the state equal": the number, and the offset of a byte
abbrev pub refused : ℕ → ℕ → Sender → Acted
refused n i s = record { refusal = n; sender = s; send = None; sends = s.sends; event = NoEvent; block = 0; offset = i }

-- 11 for what is no state, and where no circuit is open: nothing waits
abbrev pub no_state : Sender → Acted
no_state s = record { refusal = STATE; sender = s; send = None; sends = 0; event = NoEvent; block = 0; offset = 0 }

-- ---- what waits
-- "the transaction at mark + 1"
abbrev pub waiting_number : Persisted → ℕ
waiting_number p = p.delivered + 1

-- the message that waits for its answer, by its number ("-1, 0 or a number"), which is also its control ID
abbrev pub waiting_message : Persisted → Waiting → Option SequenceNumber
waiting_message p Closed = None
waiting_message p Idle = None
waiting_message p Resynchronizing = Some MinusOne
waiting_message p Querying = Some (Number 0)
waiting_message p Sending = Some (Number (waiting_number p))

abbrev pub waits_of : Sender → Option SequenceNumber
waits_of s = waiting_message s.persisted s.waiting

-- "A message is sent once as it begins to wait."
abbrev pub first_sends : Option SequenceNumber → ℕ
first_sends None = 0
first_sends (Some v) = 1

abbrev pub begins_to_wait : Persisted → Waiting → Event → Acted
begins_to_wait p w e = acted (record { persisted = p; waiting = w; sends = first_sends (waiting_message p w) }) (waiting_message p w) e

abbrev pub is_open : Waiting → Bool
is_open Closed = false
is_open Idle = true
is_open Resynchronizing = true
is_open Querying = true
is_open Sending = true

abbrev pub on_circuit : Sender → Bool
on_circuit s = valid_sender s && is_open s.waiting

-- ---- submitting
abbrev pub is_number : ℕ → Result SequenceNumber NumberError → Bool
is_number n (Ok (Number k)) = eqb k n
is_number n (Ok MinusOne) = false
is_number n (Err why) = false

abbrev pub submitted : Persisted → Persisted
submitted p = record { first = p.first; delivered = p.delivered; last = p.last + 1; resynchronized = p.resynchronized; frozen = p.frozen }

-- what waits goes on waiting
abbrev pub keeps_waiting : Sender → Acted
keeps_waiting s = acted (record { persisted = submitted s.persisted; waiting = s.waiting; sends = s.sends }) None NoEvent

-- "it applies with or without a circuit unless frozen"; a circuit with nothing waiting sends it at once
abbrev pub taken_in : Sender → Waiting → Acted
taken_in s Closed = keeps_waiting s
taken_in s Idle = begins_to_wait (submitted s.persisted) Sending NoEvent
taken_in s Resynchronizing = keeps_waiting s
taken_in s Querying = keeps_waiting s
taken_in s Sending = keeps_waiting s

-- "Submitting takes the next number only (MSH-13), with MSH-10 its plain decimal"
abbrev pub submitted_header : Sender → List ℕ → Option Header → Acted
submitted_header s d None = refused HEAD 0 s
submitted_header s d (Some h) =
    need (is_number (s.persisted.last + 1) (number_field greatest_sent (bytes_of h.sequence d)) && same (bytes_of h.control_id d) (text_of (Number (s.persisted.last + 1))))
    (refused NUMBER 0 s)
    (taken_in s s.waiting)

unfoldable pub submit_of : ℕ → Sender → List ℕ → Acted
submit_of limit s d =
    need (valid_link_limit limit) (refused SETTING 0 s)
    (need (valid_sender s) (no_state s)
    (need (not s.persisted.frozen) (refused STATE 0 s)
    (need (leb (length d) limit) (refused LONG 0 s)
    (need (all_allowed d) (refused BYTE (first_forbidden d) s)
    (submitted_header s d (header_of d))))))

-- ---- circuits
-- "Opening applies when no circuit is open and the sender is not frozen"; "Each new circuit opens with -1 if not yet resynchronised, otherwise with 0."
unfoldable pub open_of : Sender → Acted
open_of s =
    need (valid_sender s) (no_state s)
    (need (not (is_open s.waiting) && not s.persisted.frozen) (refused STATE 0 s)
    (begins_to_wait s.persisted (cond s.persisted.resynchronized Querying Resynchronizing) NoEvent))

-- "a circuit ends when the driver says so"
unfoldable pub ended_of : Sender → Acted
ended_of s = need (on_circuit s) (no_state s) (acted (closed s.persisted) None NoEvent)

abbrev pub with_frozen : Bool → Persisted → Persisted
with_frozen b p = record { first = p.first; delivered = p.delivered; last = p.last; resynchronized = p.resynchronized; frozen = b }

-- "until an operator resets it (11 when not frozen): it then waits for a new circuit, its other stored things equal"
unfoldable pub reset_of : Sender → Acted
reset_of s =
    need (valid_sender s) (no_state s)
    (need s.persisted.frozen (refused STATE 0 s)
    (acted (closed (with_frozen false s.persisted)) None NoEvent))

-- ---- answers
-- "After that the transaction at mark + 1 waits for its answer, if it has been submitted."
abbrev pub proceeds : Persisted → Event → Acted
proceeds p e = begins_to_wait p (cond (ltb p.delivered p.last) Sending Idle) e

-- "all else freezes the sender"
abbrev pub freezes : Persisted → Acted
freezes p = acted (closed (with_frozen true p)) None Froze

abbrev pub resynchronized_of : Persisted → Persisted
resynchronized_of p = record { first = p.first; delivered = p.delivered; last = p.last; resynchronized = true; frozen = p.frozen }

-- "makes the mark n"
abbrev pub delivered_of : Persisted → Persisted
delivered_of p = record { first = p.first; delivered = p.delivered + 1; last = p.last; resynchronized = p.resynchronized; frozen = p.frozen }

-- "waiting on -1: AA, -1 resynchronises"
abbrev pub answer_resynchronizing : Persisted → Code → SequenceNumber → Acted
answer_resynchronizing p AA MinusOne = proceeds (resynchronized_of p) NoEvent
answer_resynchronizing p AA (Number e) = freezes p
answer_resynchronizing p AE v = freezes p
answer_resynchronizing p AR v = freezes p

-- "waiting on 0: AA, -1 goes on if the mark is f - 1; AA, e goes on if e - 1 is the mark, or the mark plus one and submitted, and then the mark is e - 1"
abbrev pub answer_query : Persisted → Code → SequenceNumber → Acted
answer_query p AA MinusOne = cond (eqb p.delivered (p.first - 1)) (proceeds p NoEvent) (freezes p)
answer_query p AA (Number e) =
    cond (eqb e (waiting_number p)) (proceeds p NoEvent)
    (cond (eqb e (waiting_number p + 1) && ltb p.delivered p.last) (proceeds (delivered_of p) (DeliveredUnknown (waiting_number p)))
    (freezes p))
answer_query p AE v = freezes p
answer_query p AR v = freezes p

-- "waiting on n: AA or AE with n, or AR with n + 1, makes the mark n (the last with its verdict unknown)"
abbrev pub answer_transaction : Persisted → Code → SequenceNumber → Acted
answer_transaction p AA (Number e) = cond (eqb e (waiting_number p)) (proceeds (delivered_of p) (Delivered (waiting_number p) AA)) (freezes p)
answer_transaction p AE (Number e) = cond (eqb e (waiting_number p)) (proceeds (delivered_of p) (Delivered (waiting_number p) AE)) (freezes p)
answer_transaction p AR (Number e) = cond (eqb e (waiting_number p + 1)) (proceeds (delivered_of p) (DeliveredUnknown (waiting_number p))) (freezes p)
answer_transaction p c MinusOne = freezes p

-- "with nothing waiting does nothing"
abbrev pub answered : Sender → Waiting → Code → SequenceNumber → Acted
answered s Closed c v = acted s None NoEvent
answered s Idle c v = acted s None NoEvent
answered s Resynchronizing c v = answer_resynchronizing s.persisted c v
answered s Querying c v = answer_query s.persisted c v
answered s Sending c v = answer_transaction s.persisted c v

-- a code or a number that is none
abbrev pub answer_of : Sender → Option Code → Result SequenceNumber NumberError → Acted
answer_of s (Some c) (Ok v) = answered s s.waiting c v
answer_of s (Some c) (Err why) = freezes s.persisted
answer_of s None n = freezes s.persisted

-- "An answer whose MSA-2 isn't the waiting control ID is dropped and counts for nothing."
abbrev pub answered_by : Sender → List ℕ → Option Code → Result SequenceNumber NumberError → Option SequenceNumber → Acted
answered_by s id c n None = acted s None NoEvent
answered_by s id c n (Some v) = cond (same id (text_of v)) (answer_of s c n) (acted s None Dropped)

-- ---- the timer, and blocks
-- "resends the waiting message while fewer than r + 1 sends were made of it, and otherwise gives up"; "with nothing waiting does nothing"
abbrev pub resend_of : ℕ → Sender → Option SequenceNumber → Acted
resend_of r s None = acted s None NoEvent
resend_of r s (Some v) =
    cond (ltb s.sends (r + 1)) (acted (record { persisted = s.persisted; waiting = s.waiting; sends = s.sends + 1 }) (Some v) NoEvent)
    (abandons s)

-- an act on an open circuit
abbrev pub when_open : ℕ → Sender → Acted → Acted
when_open r s a = need (valid_resends r) (refused SETTING 0 s) (need (on_circuit s) (no_state s) a)

unfoldable pub timer_of : ℕ → Sender → Acted
timer_of r s = when_open r s (resend_of r s (waits_of s))

-- a refused block, 9 included: its number is reported
abbrev pub with_block : ℕ → Acted → Acted
with_block n a =
    record { refusal = a.refusal; sender = a.sender; send = a.send; sends = a.sends; event = a.event; block = n; offset = a.offset }

abbrev pub data_block : ℕ → Sender → List ℕ → Option Acknowledgment → Acted
data_block r s d None = with_block HEAD (resend_of r s (waits_of s))
data_block r s d (Some a) =
    answered_by s (bytes_of a.control_id d) (code_field (bytes_of a.code d)) (number_field greatest_expected (bytes_of a.expected d)) (waits_of s)

-- "A timer event, an N block or a refused block resends"
abbrev pub block_in : ℕ → Sender → Result Accepted Refusal → List ℕ → Acted
block_in r s (Ok v) d = cond (eqb v.block_type (code "N")) (resend_of r s (waits_of s)) (data_block r s d (acknowledgment_of d))
block_in r s (Err v) d = with_block v.number (resend_of r s (waits_of s))

unfoldable pub block_read_of : ℕ → Sender → Result Accepted Refusal → List ℕ → Acted
block_read_of r s v d = when_open r s (block_in r s v d)

-- ---- the two acts that may send again, with their settings: f counts only where a sender is made, r in each act
unfoldable pub timer_act_of : SenderSettings → Sender → Acted
timer_act_of g s = need (valid_settings g) (refused SETTING 0 s) (timer_of g.resends s)

unfoldable pub block_act_of : SenderSettings → Sender → Result Accepted Refusal → List ℕ → Acted
block_act_of g s v d = need (valid_settings g) (refused SETTING 0 s) (block_read_of g.resends s v d)
