-- Demand 3: one tenancy of a link. Two ends, each with what it has persisted and what a crash loses, a line in each direction, and hosts that persist what changed: the sender's before
-- the next block goes out, the receiver's before a decision is reported stored (02, §1).
use Rattle.std.specs.Prelude.{List, [], ◌∷◌, ◌++◌, Bool, true, false, cond, not, ◌&&◌, ◌||◌, ℕ, take, drop, eqb, Option, Some, None, Result, Ok, Err}
use Prim.Native.Char.{code}
use Rattle.lists.specs.Outcome.{Outcome}
use Rattle.settings.specs.declared.Settings.{Settings}
use Rattle.refusal.specs.declared.Accepted.{Accepted}
use Rattle.refusal.specs.declared.Refusal.{Refusal}
use Rattle.block.specs.Format.{block_of}
use Rattle.numbers.specs.declared.SequenceNumber.{SequenceNumber}
use Rattle.numbers.specs.declared.SequenceNumber.TheVariants.{MinusOne, Number}
use Rattle.messages.specs.Messages.{control_message}
use Rattle.messages.specs.declared.Control.TheVariants.{Resynchronize, Query}
use Rattle.messages.specs.declared.MessageType.{MessageType}
use Rattle.stream.specs.Stream.{Judged}
use Rattle.receiver.specs.Receiver.{closed, is_closed, decide_of, answer_of, nak_of}
use Rattle.receiver.specs.declared.Application.{Application}
use Rattle.receiver.specs.declared.Decided.{Decided}
use Rattle.receiver.specs.declared.Answered.{Answered}
use Rattle.receiver.specs.declared.Decision.{Decision}
use Rattle.receiver.specs.declared.Receiver.{Receiver}
use Rattle.sender.specs.Sender.{fresh_sender, open_of, ended_of, reset_of, timer_of, block_read_of, submit_of, is_open}
use Rattle.sender.specs.declared.Persisted.{Persisted}
use Rattle.sender.specs.declared.Sender.{Sender}
use Rattle.sender.specs.declared.Acted.{Acted}
use Rattle.link.specs.SenderActs.{after_crash}
use Rattle.link.specs.SenderHistory.{Entry, reported, crashed}
use Rattle.link.specs.Line.{Line, line, new_reader, empty_line, reads_byte, reader_after, damages, disorders}
use Rattle.link.specs.Duties.{Duty, exchanges, empties_lines, drops_replies, drops_verdicts, brings_nothing_late, writes_in_order, offers_in_order}
use Rattle.link.specs.Duties.{sender_persists_first, persists_as_one, reports_persisted, reports_failed, settles_writes, drops_named, drops_reports, drops_decision, survives}
use Rattle.link.specs.Duties.{every, dropped, index_taken, one_at, others_at}

-- what stands fixed: the block settings of both ends, f, r, the type of control messages, and the numbered log
pub record Link : Type 0 where
  pub settings : Settings
  pub first : ℕ
  pub resends : ℕ
  pub name : MessageType
  pub log : ℕ → List ℕ

-- the sender's end: the sender as it is held, and what of it is persisted; the messages named and not yet written; the verdicts read and not yet acted on;
-- and, for the count, what happened
pub record SendingEnd : Type 0 where
  pub sender : Sender
  pub persisted : Persisted
  pub named : List SequenceNumber
  pub arrived : List Judged
  pub history : List Entry

-- what the receiver's host stores: the expected number, and the transactions
pub record Stored : Type 0 where
  pub expected : Option ℕ
  pub has : List (List ℕ)

-- the receiver's end: its state, with the open decision or none; what is persisted; the message that was decided on; whether that decision is persisted, and so to be reported;
-- the reply blocks not yet sent; the verdicts read and not yet acted on
pub record ReceivingEnd : Type 0 where
  pub receiver : Receiver
  pub persisted : Stored
  pub message : List ℕ
  pub reports : Bool
  pub pending : List (List ℕ)
  pub arrived : List Judged

-- the two ends, and the line to the receiver and the line back
pub record System : Type 0 where
  pub sending : SendingEnd
  pub receiving : ReceivingEnd
  pub forward : Line
  pub back : Line

abbrev pub sending : Sender → Persisted → List SequenceNumber → List Judged → List Entry → SendingEnd
sending s p vs ws h = record { sender = s; persisted = p; named = vs; arrived = ws; history = h }

abbrev pub stored : Option ℕ → List (List ℕ) → Stored
stored e ts = record { expected = e; has = ts }

abbrev pub receiving : Receiver → Stored → List ℕ → Bool → List (List ℕ) → List Judged → ReceivingEnd
receiving r p d b bs ws = record { receiver = r; persisted = p; message = d; reports = b; pending = bs; arrived = ws }

abbrev pub link : SendingEnd → ReceivingEnd → Line → Line → System
link s e x b = record { sending = s; receiving = e; forward = x; back = b }

-- ---- beginnings
-- what an earlier tenancy may have left: bytes on the lines, a reply not yet sent, verdicts not yet acted on, a decision on a message
pub record Remains : Type 0 where
  pub forward : List ℕ
  pub back : List ℕ
  pub pending : List (List ℕ)
  pub requests : List Judged
  pub answers : List Judged
  pub decision : Option Decision
  pub message : List ℕ

abbrev pub nothing_left : Remains
nothing_left = record { forward = []; back = []; pending = []; requests = []; answers = []; decision = None; message = [] }

-- a sender that takes the line for resynchronised, though no exchange was made on it
abbrev pub presumes : Persisted → Persisted
presumes p = record { first = p.first; delivered = p.delivered; last = p.last; resynchronized = true; frozen = p.frozen }

abbrev pub first_persisted : Bool → ℕ → Persisted
first_persisted b f = cond b (fresh_sender f).persisted (presumes (fresh_sender f).persisted)

-- a tenancy begins: the receiver expects whatever an earlier tenant left, and no decision is open
abbrev pub first_receiver : Bool → Option ℕ → Remains → Receiver
first_receiver b e m = cond b (closed e) (record { expected = e; decision = m.decision })

abbrev pub beginning : (Duty → Bool) → Link → Option ℕ → Remains → System
beginning h l e m =
    let p = first_persisted (h exchanges) l.first in
    link (sending (after_crash p) p [] m.answers []) (receiving (first_receiver (h drops_decision) e m) (stored e []) m.message false m.pending m.requests)
    (line new_reader m.forward) (line new_reader m.back)

-- "a receiver with none of it stored", where nothing is left
abbrev pub start_of : Link → Option ℕ → System
start_of l e = beginning every l e nothing_left

-- ---- the sender's end

-- the data of the message for -1, 0 or n
abbrev pub request_of : Link → SequenceNumber → List ℕ
request_of l MinusOne = control_message l.name Resynchronize
request_of l (Number n) = cond (eqb n 0) (control_message l.name Query) (l.log n)

abbrev pub sends_of : Option SequenceNumber → List SequenceNumber
sends_of None = []
sends_of (Some v) = v ∷ []

-- what was named and not written is dropped when the circuit ends
abbrev pub named_after : List SequenceNumber → Acted → List SequenceNumber
named_after vs a = cond (is_open a.sender.waiting) (vs ++ sends_of a.send) []

-- ws: the verdicts still to be acted on
abbrev pub acted_end : SendingEnd → List Judged → Acted → SendingEnd
acted_end e ws a = sending a.sender e.persisted (named_after e.named a) ws (reported a ∷ e.history)

abbrev pub sender_acted : System → List Judged → Acted → System
sender_acted y ws a = link (acted_end y.sending ws a) y.receiving y.forward y.back

abbrev pub emptied : Bool → Line → Line
emptied b x = cond b empty_line x

-- "at each new circuit, the line is empty, and a new circuit .. finds at neither end an answer still to be sent or a block half read"
abbrev pub new_circuit : (Duty → Bool) → System → Acted → System
new_circuit h y a =
    link (sending a.sender y.sending.persisted (sends_of a.send) (dropped (h drops_verdicts) y.sending.arrived) (reported a ∷ y.sending.history))
    (let e = y.receiving in receiving e.receiver e.persisted e.message e.reports (dropped (h drops_replies) e.pending) (dropped (h drops_verdicts) e.arrived))
    (emptied (h empties_lines) y.forward) (emptied (h empties_lines) y.back)

abbrev pub circuit_opened : (Duty → Bool) → System → Acted → System
circuit_opened h y a = cond (eqb a.refusal 0) (new_circuit h y a) (sender_acted y y.sending.arrived a)

abbrev pub same_flag : Bool → Bool → Bool
same_flag true b = b
same_flag false b = not b

abbrev pub same_persisted : Persisted → Persisted → Bool
same_persisted p q =
    (eqb p.first q.first && (eqb p.delivered q.delivered && eqb p.last q.last))
    && (same_flag p.resynchronized q.resynchronized && same_flag p.frozen q.frozen)

-- "each end stores what changed as one act before its next block goes out": the message v is written, once what changed is persisted; vs are left
abbrev pub request_written : (Duty → Bool) → Link → System → List SequenceNumber → List SequenceNumber → System
request_written h l y [] vs = y
request_written h l y (v ∷ none) vs =
    cond (not (h sender_persists_first) || same_persisted y.sending.sender.persisted y.sending.persisted)
    (link (sending y.sending.sender y.sending.persisted vs y.sending.arrived y.sending.history) y.receiving
    (line y.forward.reader (y.forward.bytes ++ block_of l.settings (code "D") (request_of l v))) y.back) y

-- the reader takes a byte
abbrev pub sender_read : Link → System → List ℕ → System
sender_read l y [] = y
sender_read l y (x ∷ xs) =
    let e = y.sending in
    link (sending e.sender e.persisted e.named (e.arrived ++ (reads_byte l.settings y.back.reader x).says) e.history) y.receiving y.forward
    (line (reader_after l.settings y.back.reader x) xs)

-- the sender acts on the verdict w; ws are left
abbrev pub answer_taken : Link → System → List Judged → List Judged → System
answer_taken l y [] ws = y
answer_taken l y (w ∷ none) ws = sender_acted y ws (block_read_of l.resends y.sending.sender w.verdict w.content)

-- it goes on from what is persisted
abbrev pub sender_restored : (Duty → Bool) → SendingEnd → List Judged → SendingEnd
sender_restored h e ws = sending (after_crash e.persisted) e.persisted (dropped (h drops_named) e.named) ws (crashed ∷ e.history)

-- ---- the receiver's end
abbrev pub has_with : Option ℕ → List ℕ → List (List ℕ) → List (List ℕ)
has_with None d ts = ts
has_with (Some n) d ts = ts ++ d ∷ []

-- what the open decision says is to be stored
abbrev pub stored_by : Stored → List ℕ → Option Decision → Stored
stored_by p d None = p
stored_by p d (Some o) = stored o.row.persisted.expected (has_with o.row.persisted.transaction d p.has)

abbrev pub to_persist : ReceivingEnd → Stored
to_persist e = stored_by e.persisted e.message e.receiver.decision

-- the reply is what the act wrote into the buffer, from the offset on
abbrev pub replies_of : ℕ → Outcome Answered → List (List ℕ)
replies_of start o = cond (eqb o.answer.reply_length 0) [] (take o.answer.reply_length (drop start o.buffer) ∷ [])

abbrev pub receiver_read : Link → System → List ℕ → System
receiver_read l y [] = y
receiver_read l y (x ∷ xs) =
    let e = y.receiving in
    link y.sending (receiving e.receiver e.persisted e.message e.reports e.pending (e.arrived ++ (reads_byte l.settings y.forward.reader x).says))
    (line (reader_after l.settings y.forward.reader x) xs) y.back

-- a decision on an accepted block; ws are left. Where it is refused, so while one is open, the block may be offered again, or dropped
abbrev pub decided_end : ReceivingEnd → List Judged → List ℕ → Decided → ReceivingEnd
decided_end e ws d x = receiving x.receiver e.persisted (cond x.opened d e.message) e.reports e.pending ws

abbrev pub request_decided : System → List Judged → List ℕ → Decided → System
request_decided y ws d x = cond (eqb x.refusal 0) (link y.sending (decided_end y.receiving ws d x) y.forward y.back) y

-- no decision is made on a refused block: it may be answered by an N block, and dropped
abbrev pub verdict_decided : Application → System → List Judged → List ℕ → Result Accepted Refusal → System
verdict_decided a y ws d (Ok v) = request_decided y ws d (decide_of a y.receiving.receiver v.block_type d)
verdict_decided a y ws d (Err v) = y

abbrev pub request_taken : Application → System → List Judged → List Judged → System
request_taken a y [] ws = y
request_taken a y (w ∷ none) ws = verdict_decided a y ws w.content w.verdict

-- an N reply to whatever was read, at any time that it is not refused
abbrev pub nak_taken : System → ℕ → Outcome Answered → System
nak_taken y start o =
    let e = y.receiving in
    cond (eqb o.answer.refusal 0)
    (link y.sending (receiving e.receiver e.persisted e.message e.reports (e.pending ++ replies_of start o) e.arrived) y.forward y.back) y

abbrev pub receiver_persisted : System → Stored → Bool → System
receiver_persisted y p b =
    let e = y.receiving in
    link y.sending (receiving e.receiver p e.message b e.pending e.arrived) y.forward y.back

-- what the open decision says is stored, as one act, and once
abbrev pub decision_persisted : System → System
decision_persisted y =
    let e = y.receiving in
    cond (not (is_closed e.receiver.decision) && not e.reports) (receiver_persisted y (to_persist e) true) y

-- "if reports are true": success once the open decision is stored, failure where it is not
abbrev pub is_true : (Duty → Bool) → Bool → Bool → Bool
is_true h true persisted = not (h reports_persisted) || persisted
is_true h false persisted = not (h reports_failed) || not persisted

-- the report on the open decision, with a buffer for the answer
abbrev pub reported_end : System → ℕ → Outcome Answered → System
reported_end y start o =
    let e = y.receiving in
    link y.sending (receiving o.answer.receiver e.persisted e.message false (e.pending ++ replies_of start o) e.arrived) y.forward y.back

abbrev pub decision_reported : (Duty → Bool) → System → Bool → ℕ → Outcome Answered → System
decision_reported h y success start o = cond (is_true h success y.receiving.reports && eqb o.answer.refusal 0) (reported_end y start o) y

-- the oldest reply goes out
abbrev pub reply_written : System → List (List ℕ) → System
reply_written y [] = y
reply_written y (b ∷ bs) =
    let e = y.receiving in
    link y.sending (receiving e.receiver e.persisted e.message e.reports bs e.arrived) y.forward (line y.back.reader (y.back.bytes ++ b))

-- ---- the acts, in any order. One that does not apply changes nothing but the history.
pub data SystemAct : Type 0 where
  opens ends resets timer : SystemAct
  -- any bytes, under any limit
  submits : ℕ → List ℕ → SystemAct
  sender_persists sender_reads sender_restores sender_crashes : SystemAct
  receiver_reads receiver_persists receiver_writes receiver_restores receiver_crashes : SystemAct
  -- which of those named, or of the verdicts read; answers may be taken in any order
  sender_writes sender_forgets sender_acts sender_discards receiver_discards : ℕ → SystemAct
  receiver_decides : ℕ → Application → SystemAct
  -- stored or failed; the number of a refused block; the offset, and the buffer
  receiver_reports : Bool → ℕ → List ℕ → SystemAct
  receiver_naks : ℕ → ℕ → List ℕ → SystemAct
  damages_forward damages_back : List ℕ → SystemAct
  -- what only a host that neglects a duty does
  persists_number persists_transaction : SystemAct
  lands_late reverts_to : Stored → SystemAct
  sender_reverts_to : Persisted → SystemAct
  brings_late brings_late_request : List ℕ → SystemAct

abbrev pub after_act : (Duty → Bool) → Link → SystemAct → System → System
after_act h l opens y = circuit_opened h y (open_of y.sending.sender)
after_act h l ends y = sender_acted y y.sending.arrived (ended_of y.sending.sender)
after_act h l resets y = sender_acted y y.sending.arrived (reset_of y.sending.sender)
after_act h l timer y = sender_acted y y.sending.arrived (timer_of l.resends y.sending.sender)
after_act h l (submits limit d) y = sender_acted y y.sending.arrived (submit_of limit y.sending.sender d)
after_act h l sender_persists y =
    let e = y.sending in
    link (sending e.sender e.sender.persisted e.named e.arrived e.history) y.receiving y.forward y.back
after_act h l (sender_writes n) y =
    let k = index_taken (h writes_in_order) n in
    request_written h l y (one_at k y.sending.named) (others_at k y.sending.named)
-- a message named is dropped, as one that was lost
after_act h l (sender_forgets n) y =
    let e = y.sending in
    link (sending e.sender e.persisted (others_at n e.named) e.arrived e.history) y.receiving y.forward y.back
after_act h l sender_reads y = sender_read l y y.back.bytes
after_act h l (sender_acts n) y = answer_taken l y (one_at n y.sending.arrived) (others_at n y.sending.arrived)
after_act h l (sender_discards n) y =
    let e = y.sending in
    link (sending e.sender e.persisted e.named (others_at n e.arrived) e.history) y.receiving y.forward y.back
-- storing failed: the circuit is over, the lines are as they were
after_act h l sender_restores y = link (sender_restored h y.sending y.sending.arrived) y.receiving y.forward y.back
-- "A cut loses what isn't stored; after it .. the line is empty"
after_act h l sender_crashes y = link (sender_restored h y.sending []) y.receiving (line y.forward.reader []) empty_line
after_act h l receiver_reads y = receiver_read l y y.forward.bytes
after_act h l (receiver_decides n a) y =
    let k = index_taken (h offers_in_order) n in
    request_taken a y (one_at k y.receiving.arrived) (others_at k y.receiving.arrived)
after_act h l (receiver_naks n start b) y = nak_taken y start (nak_of l.settings n y.receiving.receiver start b)
after_act h l (receiver_discards n) y =
    let e = y.receiving in
    link y.sending (receiving e.receiver e.persisted e.message e.reports e.pending (others_at n e.arrived)) y.forward y.back
-- "the receiver a transaction with its new expected number", as one act
after_act h l receiver_persists y = decision_persisted y
after_act h l (receiver_reports success start b) y = decision_reported h y success start (answer_of l.settings success y.receiving.receiver start b)
after_act h l receiver_writes y = reply_written y y.receiving.pending
-- the host cannot tell whether it stored: it reports nothing, and goes on from what is stored, on the same circuit
after_act h l receiver_restores y =
    let e = y.receiving in
    link y.sending (receiving (closed e.persisted.expected) e.persisted [] (not (h drops_reports) && e.reports) e.pending e.arrived) y.forward y.back
-- "A cut drops an open decision; what was stored stands."
after_act h l receiver_crashes y =
    let e = y.receiving in
    link y.sending (receiving (closed e.persisted.expected) e.persisted [] (not (h drops_reports) && e.reports) [] []) empty_line (line y.back.reader [])
after_act h l (damages_forward xs) y = cond (damages l.settings y.forward xs) (link y.sending y.receiving (line y.forward.reader xs) y.back) y
after_act h l (damages_back xs) y = cond (disorders l.settings y.back xs) (link y.sending y.receiving y.forward (line y.back.reader xs)) y
after_act h l persists_number y =
    let e = y.receiving in
    cond (h persists_as_one) y (receiver_persisted y (stored (to_persist e).expected e.persisted.has) e.reports)
after_act h l persists_transaction y =
    let e = y.receiving in
    cond (h persists_as_one) y (receiver_persisted y (stored e.persisted.expected (to_persist e).has) e.reports)
after_act h l (lands_late p) y = cond (h settles_writes) y (receiver_persisted y p y.receiving.reports)
after_act h l (reverts_to p) y = cond (h survives) y (receiver_persisted y p y.receiving.reports)
after_act h l (sender_reverts_to p) y =
    let e = y.sending in
    cond (h survives) y (link (sending e.sender p e.named e.arrived e.history) y.receiving y.forward y.back)
after_act h l (brings_late xs) y = cond (h brings_nothing_late) y (link y.sending y.receiving y.forward (line y.back.reader (y.back.bytes ++ xs)))
after_act h l (brings_late_request xs) y = cond (h brings_nothing_late) y (link y.sending y.receiving (line y.forward.reader (y.forward.bytes ++ xs)) y.back)

-- a run, the newest act first
unfoldable pub run_of : (Duty → Bool) → Link → System → List SystemAct → System
run_of h l y [] = y
run_of h l y (a ∷ ds) = after_act h l a (run_of h l y ds)
