-- include/giamuvich.h: two drivers that run a link by the C functions and keep their duties. All that they have is words and bytes: what they lend to a call, what they
-- store and restore, what a report showed them, and a verdict handed on as its number, its type and its data.
use Rattle.std.specs.Prelude.{List, [], ◌∷◌, ◌++◌, map, Bool, true, false, cond, not, ◌&&◌, ℕ, ◌+◌, length, take, drop, get_or, leb, eqb, Option}
use Prim.Native.Char.{code}
use Rattle.lists.specs.Bytes.{same, over}
use Rattle.lists.specs.Outcome.{Called}
use Rattle.settings.specs.Settings.{capacity_of, hybrid_of, minimal_of, link_of}
use Rattle.settings.specs.declared.Settings.{Settings}
use Rattle.block_calls.specs.ReadCalls.{fresh_reader_call, read_call}
use Rattle.block_calls.specs.WriteCalls.{write_call}
use Rattle.message_calls.specs.MessageCalls.{minus_one}
use Rattle.message_calls.specs.ControlCalls.{control_block_call}
use Rattle.sender_calls.specs.SenderCalls.{fresh_call, open_call, ended_call, reset_call, timer_call, block_call, submit_call}
use Rattle.receiver_calls.specs.ReceiverCalls.{flag, decide_call, answer_call, nak_call}
use Rattle.link.specs.Duties.{one_at, others_at}
use Rattle.link.specs.Line.{Reader, Line, line, new_reader, empty_line, reader_after, damages, disorders}
use Rattle.link.specs.System.{Link}
use Rattle.stream.specs.Stream.{Judged}
use Rattle.call_theorems.specs.Reading.{Shown, shown, used_bytes, new_verdict}

-- ---- what is passed
-- the numbers of the block settings: SB, EB and D of the gmv_hybrid_ functions, D of the gmv_minimal_ ones
pub data SettingNumbers : Type 0 where
  hybrid : ℕ → ℕ → ℕ → SettingNumbers
  minimal : ℕ → SettingNumbers

abbrev pub made_from : SettingNumbers → Option Settings
made_from (hybrid sb eb d) = hybrid_of sb eb d
made_from (minimal d) = minimal_of d

-- a link, the numbers of its settings, and the letters of its control messages' type. The log is the link's: what the driver keeps under a number is what it sends under it
pub record Passed : Type 0 where
  pub link : Link
  pub numbers : SettingNumbers
  pub letters : List ℕ

-- ---- the words of a report that a driver looks at, by their names in the header
abbrev pub report_word : ℕ → Called → ℕ
report_word i c = get_or c.report i 0

-- GMV_ACT_SEND, GMV_ACT_SEND_NUMBER
abbrev pub send_kind : Called → ℕ
send_kind c = report_word 0 c

abbrev pub send_number : Called → ℕ
send_number c = report_word 1 c

-- GMV_REPORT_BLOCK_LENGTH
abbrev pub block_length : Called → ℕ
block_length c = report_word 0 c

-- GMV_DECISION_OPENED, GMV_DECISION_TRANSACTION, GMV_DECISION_EXPECTED, GMV_DECISION_CHANGES
abbrev pub opened_word : Called → ℕ
opened_word c = report_word 1 c

abbrev pub transaction_number : Called → ℕ
transaction_number c = report_word 2 c

abbrev pub expected_number : Called → ℕ
expected_number c = report_word 3 c

abbrev pub changes_word : Called → ℕ
changes_word c = report_word 4 c

-- ---- what a driver has
-- for a reader: GMV_READER words, the buffer, GMV_VERDICT words
pub record ReaderMemory : Type 0 where
  pub state : List ℕ
  pub buffer : List ℕ
  pub verdict : List ℕ

abbrev pub reader_memory : List ℕ → List ℕ → List ℕ → ReaderMemory
reader_memory s b v = record { state = s; buffer = b; verdict = v }

-- a message that a report named: GMV_ACT_SEND, GMV_ACT_SEND_NUMBER
pub record Named : Type 0 where
  pub kind : ℕ
  pub number : ℕ

-- what a call of the sender's showed: what to send, and what waits then, both as GMV_ACT_SEND and GMV_ACT_SEND_NUMBER have it
pub record CallReport : Type 0 where
  pub send : List ℕ
  pub waits : List ℕ

-- in memory at the sender's end: GMV_SENDER and GMV_ACT words, a reader's, and a buffer and report words for blocks
pub record SenderMemory : Type 0 where
  pub state : List ℕ
  pub report : List ℕ
  pub reader : ReaderMemory
  pub block : List ℕ
  pub written : List ℕ

-- and what it stores: the persisted words; the messages named and not yet written, the verdicts not yet acted on;
-- and, for the count, what the calls showed, the newest first
pub record SenderEnd : Type 0 where
  pub memory : SenderMemory
  pub stored : List ℕ
  pub named : List Named
  pub arrived : List Shown
  pub reports : List CallReport

-- in memory at the receiver's end: GMV_RECEIVER words, GMV_DECISION words, GMV_REPORT words, a reader's, and a buffer for replies
pub record ReceiverMemory : Type 0 where
  pub state : List ℕ
  pub decision : List ℕ
  pub report : List ℕ
  pub reader : ReaderMemory
  pub reply : List ℕ

-- what a decision said is to be stored: GMV_DECISION_TRANSACTION, GMV_DECISION_EXPECTED and GMV_DECISION_CHANGES, and the block's data
pub record Noted : Type 0 where
  pub transaction : ℕ
  pub expected : ℕ
  pub changes : ℕ
  pub message : List ℕ

-- and what it stores, the state's first word and the transactions; what the last decision said, and whether that is stored; the replies not yet sent, the verdicts not yet acted on
pub record ReceiverEnd : Type 0 where
  pub memory : ReceiverMemory
  pub stored : List ℕ
  pub stored_has : List (List ℕ)
  pub noted : Noted
  pub reports : Bool
  pub pending : List (List ℕ)
  pub arrived : List Shown

-- both, and the lines: of these the definition knows where the reader stands in what was sent
pub record Drivers : Type 0 where
  pub sender : SenderEnd
  pub receiver : ReceiverEnd
  pub forward : Line
  pub back : Line

abbrev pub sender_memory : List ℕ → List ℕ → ReaderMemory → List ℕ → List ℕ → SenderMemory
sender_memory s p r b w = record { state = s; report = p; reader = r; block = b; written = w }

abbrev pub sender_end : SenderMemory → List ℕ → List Named → List Shown → List CallReport → SenderEnd
sender_end m d ns ws rs = record { memory = m; stored = d; named = ns; arrived = ws; reports = rs }

abbrev pub receiver_memory : List ℕ → List ℕ → List ℕ → ReaderMemory → List ℕ → ReceiverMemory
receiver_memory s d p r b = record { state = s; decision = d; report = p; reader = r; reply = b }

abbrev pub noted : ℕ → ℕ → ℕ → List ℕ → Noted
noted t e c d = record { transaction = t; expected = e; changes = c; message = d }

abbrev pub nothing_noted : Noted
nothing_noted = noted 0 0 0 []

abbrev pub receiver_end : ReceiverMemory → List ℕ → List (List ℕ) → Noted → Bool → List (List ℕ) → List Shown → ReceiverEnd
receiver_end m d ts n r bs ws = record { memory = m; stored = d; stored_has = ts; noted = n; reports = r; pending = bs; arrived = ws }

abbrev pub drivers : SenderEnd → ReceiverEnd → Line → Line → Drivers
drivers s e x b = record { sender = s; receiver = e; forward = x; back = b }

-- ---- enough memory, of any content. The buffers for blocks and replies may have any length: where one is too short the call is refused by 2, and nothing goes out
abbrev pub enough_to_read : Settings → ReaderMemory → Bool
enough_to_read g m = leb 4 (length m.state) && (leb (capacity_of g) (length m.buffer) && leb 8 (length m.verdict))

abbrev pub enough_to_send : Settings → SenderMemory → Bool
enough_to_send g m = leb 7 (length m.state) && (leb 8 (length m.report) && enough_to_read g m.reader)

abbrev pub enough_to_receive : Settings → ReceiverMemory → Bool
enough_to_receive g m = leb 9 (length m.state) && (leb 5 (length m.decision) && (leb 2 (length m.report) && enough_to_read g m.reader))

-- ---- reading
-- gmv_reader_fresh
abbrev pub fresh_reader : ReaderMemory → ReaderMemory
fresh_reader m = reader_memory (fresh_reader_call m.state).state m.buffer m.verdict

-- gmv_hybrid_read or gmv_minimal_read, of at most n of the bytes that came
abbrev pub read_bytes : SettingNumbers → ℕ → ReaderMemory → Line → Called
read_bytes k n m x = read_call (made_from k) m.state (take n x.bytes) m.buffer m.verdict

abbrev pub after_reading : Called → ReaderMemory
after_reading c = reader_memory c.state c.buffer c.report

abbrev pub with_verdict : List ℕ → ReaderMemory → ReaderMemory
with_verdict v m = reader_memory m.state m.buffer v

unfoldable pub reader_past : Settings → Reader → List ℕ → Reader
reader_past g r [] = r
reader_past g r (x ∷ xs) = reader_past g (reader_after g r x) xs

abbrev pub line_past : Settings → ℕ → Line → Line
line_past g n x = line (reader_past g x.reader (take n x.bytes)) (drop n x.bytes)

-- ---- the sender's end
-- what a report names, if the call was done
abbrev pub named_by : Called → List Named
named_by c = cond (eqb c.number 0 && not (eqb (send_kind c) 0)) (record { kind = send_kind c; number = send_number c } ∷ []) []

-- GMV_SENDER_WAITING is 0 where no circuit is open: what was named is dropped then
abbrev pub waiting_word_of : Called → ℕ
waiting_word_of c = get_or c.state 5 0

abbrev pub named_then : List Named → Called → List Named
named_then ns c = cond (eqb (waiting_word_of c) 0) [] (ns ++ named_by c)

-- what waits by GMV_SENDER_WAITING (2: -1, 3: 0, 4: the transaction after GMV_SENDER_DELIVERED)
abbrev pub waits_words : List ℕ → List ℕ
waits_words st =
    let w = get_or st 5 0 in
    cond (eqb w 2) (1 ∷ 0 ∷ []) (cond (eqb w 3) (2 ∷ 0 ∷ []) (cond (eqb w 4) (3 ∷ (get_or st 1 0 + 1) ∷ []) (0 ∷ 0 ∷ [])))

abbrev pub report_of : Called → CallReport
report_of c = record { send = cond (eqb c.number 0) (send_kind c ∷ send_number c ∷ []) (0 ∷ 0 ∷ []); waits = waits_words c.state }

-- after a crash, and where storing failed, nothing waits
abbrev pub restarted : CallReport
restarted = record { send = 0 ∷ 0 ∷ []; waits = 0 ∷ 0 ∷ [] }

abbrev pub with_call : SenderMemory → Called → SenderMemory
with_call m c = sender_memory c.state c.report m.reader m.block m.written

abbrev pub sender_called : SenderEnd → List Shown → Called → SenderEnd
sender_called e ws c = sender_end (with_call e.memory c) e.stored (named_then e.named c) ws (report_of c ∷ e.reports)

abbrev pub by_sender : Drivers → List Shown → Called → Drivers
by_sender x ws c = drivers (sender_called x.sender ws c) x.receiver x.forward x.back

-- a new circuit: the lines are empty, both readers fresh, in whatever memory each gets, and what was read, named or still to be sent on the earlier one is dropped.
-- Both drivers see to it in one act; what the receiver's still does on the old circuit comes before it
abbrev pub opened_by : Drivers → ReaderMemory → ReaderMemory → Called → Drivers
opened_by x r q c =
    let m = x.sender.memory in
    let n = x.receiver.memory in
    let e = x.receiver in
    drivers (sender_end (sender_memory c.state c.report (fresh_reader r) m.block m.written) x.sender.stored (named_by c) [] (report_of c ∷ x.sender.reports))
    (receiver_end (receiver_memory n.state n.decision n.report (fresh_reader q) n.reply) e.stored e.stored_has e.noted e.reports [] []) empty_line empty_line

-- the block of a message named: gmv_*_control_block for -1 and 0, gmv_*_write for a transaction, from an offset of the buffer on
abbrev pub block_of_named : Passed → ℕ → SenderMemory → Named → Called
block_of_named k start m v =
    cond (eqb v.kind 1) (control_block_call (link_of (made_from k.numbers)) k.letters minus_one m.block start m.written)
    (cond (eqb v.kind 2) (control_block_call (link_of (made_from k.numbers)) k.letters 0 m.block start m.written)
    (write_call (made_from k.numbers) (code "D") (k.link.log v.number) m.block start m.written))

-- it goes out once it could be written and the persisted words are stored
abbrev pub sent_by : Drivers → ℕ → List Named → Called → Drivers
sent_by x start ns c =
    let e = x.sender in
    let m = x.sender.memory in
    cond (eqb c.number 0 && same (take 5 m.state) e.stored)
    (drivers (sender_end (sender_memory m.state m.report m.reader c.buffer c.report) e.stored ns e.arrived e.reports) x.receiver
    (line x.forward.reader (x.forward.bytes ++ take (block_length c) (drop start c.buffer))) x.back) x

abbrev pub oldest_sent : Passed → ℕ → Drivers → List Named → Drivers
oldest_sent k start x [] = x
oldest_sent k start x (v ∷ ns) = sent_by x start ns (block_of_named k start x.sender.memory v)

abbrev pub answer_read : Passed → Drivers → Called → Drivers
answer_read k x c =
    let e = x.sender in
    let m = x.sender.memory in
    cond (eqb c.number 0)
    (drivers (sender_end (sender_memory m.state m.report (after_reading c) m.block m.written) e.stored e.named (e.arrived ++ new_verdict c) e.reports) x.receiver
    x.forward (line_past k.link.settings (used_bytes c) x.back)) x

abbrev pub verdict_taken : Passed → Drivers → List Shown → List Shown → Drivers
verdict_taken k x [] ws = x
verdict_taken k x (w ∷ none) ws =
    by_sender x ws (block_call k.link.resends w.number w.type w.content x.sender.memory.state x.sender.memory.report)

-- the stored words, and 0 for the two others
abbrev pub restored_words : SenderEnd → List ℕ → List ℕ
restored_words e s = over s (e.stored ++ 0 ∷ 0 ∷ [])

-- ---- the receiver's end
abbrev pub reply_by : ℕ → Called → List (List ℕ)
reply_by start c = cond (eqb (block_length c) 0) [] (take (block_length c) (drop start c.buffer) ∷ [])

-- GMV_DECISION_TRANSACTION is 0 where there is none
abbrev pub with_transaction : List (List ℕ) → Noted → List (List ℕ)
with_transaction ts n = cond (eqb n.transaction 0) ts (ts ++ n.message ∷ [])

abbrev pub request_read : Passed → Drivers → Called → Drivers
request_read k x c =
    let e = x.receiver in
    let m = x.receiver.memory in
    cond (eqb c.number 0)
    (drivers x.sender (receiver_end (receiver_memory m.state m.decision m.report (after_reading c) m.reply) e.stored e.stored_has e.noted e.reports e.pending
    (e.arrived ++ new_verdict c)) (line_past k.link.settings (used_bytes c) x.forward) x.back) x

-- gmv_receiver_decide, on the data of an accepted block. A call that is refused changes nothing, and the block may be offered again; one that opens nothing (an N block, or 9) is done with its block
abbrev pub noted_by : Noted → List ℕ → Called → Noted
noted_by n d c = cond (eqb (opened_word c) 0) n (noted (transaction_number c) (expected_number c) (changes_word c) d)

abbrev pub decided_by : Drivers → List ℕ → List Shown → Called → Drivers
decided_by x d ws c =
    let e = x.receiver in
    let m = x.receiver.memory in
    cond (eqb c.number 0)
    (drivers x.sender (receiver_end (receiver_memory c.state c.report m.report m.reader m.reply) e.stored e.stored_has (noted_by e.noted d c) e.reports e.pending ws)
    x.forward x.back) x

abbrev pub decision_on : ℕ → ReceiverMemory → Shown → Called
decision_on application m w = decide_call application w.type w.content m.state m.decision

-- no decision is made on a refused block: its number is answered by an N reply, and it is dropped
abbrev pub oldest_decided : ℕ → Drivers → List Shown → Drivers
oldest_decided application x [] = x
oldest_decided application x (w ∷ ws) = cond (eqb w.number 0) (decided_by x w.content ws (decision_on application x.receiver.memory w)) x

abbrev pub tried_by : Drivers → Called → Drivers
tried_by x c =
    let e = x.receiver in
    let m = x.receiver.memory in
    drivers x.sender (receiver_end (receiver_memory m.state c.report m.report m.reader m.reply) e.stored e.stored_has e.noted e.reports e.pending e.arrived) x.forward x.back

abbrev pub oldest_tried : ℕ → Drivers → List Shown → Drivers
oldest_tried application x [] = x
oldest_tried application x (w ∷ ws) = tried_by x (decision_on application x.receiver.memory w)

-- what the open decision said is stored, as one act. GMV_RECEIVER_CODE is 0 where none is open
abbrev pub is_open_word : List ℕ → Bool
is_open_word st = not (eqb (get_or st 1 0) 0)

abbrev pub decision_stored : Drivers → Drivers
decision_stored x =
    let e = x.receiver in
    cond (is_open_word e.memory.state && not e.reports)
    (drivers x.sender (receiver_end e.memory (e.noted.expected ∷ []) (with_transaction e.stored_has e.noted) e.noted true e.pending e.arrived) x.forward x.back) x

-- gmv_*_answer: stored once it is, not stored where nothing of it is
abbrev pub may_report : Bool → Bool → Bool
may_report success stored = cond success stored (not stored)

abbrev pub answered_by : Drivers → Bool → ℕ → Called → Drivers
answered_by x success start c =
    let e = x.receiver in
    let m = x.receiver.memory in
    cond (may_report success e.reports && eqb c.number 0)
    (drivers x.sender (receiver_end (receiver_memory c.state m.decision c.report m.reader c.buffer) e.stored e.stored_has e.noted false (e.pending ++ reply_by start c) e.arrived)
    x.forward x.back) x

abbrev pub answer_on : Passed → Bool → ℕ → ReceiverMemory → Called
answer_on k success start m = answer_call (link_of (made_from k.numbers)) (flag success) m.state m.reply start m.report

-- gmv_hybrid_nak; on a minimal link nothing is replied, and no call is made
abbrev pub nakked_by : Drivers → ℕ → Called → Drivers
nakked_by x start c =
    let e = x.receiver in
    let m = x.receiver.memory in
    cond (eqb c.number 0)
    (drivers x.sender (receiver_end (receiver_memory m.state m.decision c.report m.reader c.buffer) e.stored e.stored_has e.noted e.reports (e.pending ++ reply_by start c) e.arrived)
    x.forward x.back) x

abbrev pub nak_on : Passed → ℕ → ℕ → ReceiverMemory → Called
nak_on k number start m = nak_call (link_of (made_from k.numbers)) number m.state m.reply start m.report

-- the oldest reply goes out
abbrev pub reply_sent : Drivers → List (List ℕ) → Drivers
reply_sent x [] = x
reply_sent x (b ∷ bs) =
    let e = x.receiver in
    drivers x.sender (receiver_end e.memory e.stored e.stored_has e.noted e.reports bs e.arrived) x.forward (line x.back.reader (x.back.bytes ++ b))

-- the stored word, and 0 for the others
abbrev pub restored_receiver : ReceiverEnd → List ℕ → List ℕ
restored_receiver e s = over s (e.stored ++ 0 ∷ 0 ∷ 0 ∷ 0 ∷ 0 ∷ 0 ∷ 0 ∷ 0 ∷ [])

-- ---- the acts, in any order
pub data DriverAct : Type 0 where
  -- with memory for each reader, of any content
  opens : ReaderMemory → ReaderMemory → DriverAct
  ends resets timer : DriverAct
  submits : ℕ → List ℕ → DriverAct
  stores restores receiver_stores receiver_restores replies : DriverAct
  -- at an offset of the buffer for blocks; which message named; at most so many bytes; which verdict
  sends forgets reads takes drops : ℕ → DriverAct
  receiver_reads receiver_drops : ℕ → DriverAct
  -- the application's verdict; stored or not, and the answer's offset; the number of a refused block, and the reply's offset
  decides : ℕ → DriverAct
  answers : Bool → ℕ → DriverAct
  naks : ℕ → ℕ → DriverAct
  -- other memory for what calls only write: a report, a verdict, a buffer for blocks and its report; two reports, a verdict and a buffer for replies
  replaces : List ℕ → List ℕ → List ℕ → List ℕ → DriverAct
  receiver_replaces : List ℕ → List ℕ → List ℕ → List ℕ → DriverAct
  -- gmv_receiver_decide on a copy of the state, to see whether a transaction is due before the application is asked
  tries : ℕ → DriverAct
  -- the memory is new, of any content
  crashes : SenderMemory → DriverAct
  receiver_crashes : ReceiverMemory → DriverAct
  damages_forward damages_back : List ℕ → DriverAct

-- memory that is too short for the act is none: then it is not done
abbrev pub after_driver : Passed → DriverAct → Drivers → Drivers
after_driver k (opens r q) x =
    let c = open_call x.sender.memory.state x.sender.memory.report in
    let g = k.link.settings in
    cond (enough_to_read g r && enough_to_read g q) (cond (eqb c.number 0) (opened_by x r q c) (by_sender x x.sender.arrived c)) x
after_driver k ends x = by_sender x x.sender.arrived (ended_call x.sender.memory.state x.sender.memory.report)
after_driver k resets x = by_sender x x.sender.arrived (reset_call x.sender.memory.state x.sender.memory.report)
after_driver k timer x = by_sender x x.sender.arrived (timer_call k.link.resends x.sender.memory.state x.sender.memory.report)
after_driver k (submits limit d) x = by_sender x x.sender.arrived (submit_call limit d x.sender.memory.state x.sender.memory.report)
after_driver k stores x =
    let e = x.sender in
    drivers (sender_end e.memory (take 5 e.memory.state) e.named e.arrived e.reports) x.receiver x.forward x.back
-- storing failed: the driver goes on from what is stored
after_driver k restores x =
    let e = x.sender in
    let m = x.sender.memory in
    drivers (sender_end (sender_memory (restored_words e m.state) m.report m.reader m.block m.written) e.stored [] e.arrived (restarted ∷ e.reports)) x.receiver
    x.forward x.back
after_driver k (sends start) x = oldest_sent k start x x.sender.named
-- one that was named and not written is dropped, for a newer one
after_driver k (forgets n) x =
    let e = x.sender in
    drivers (sender_end e.memory e.stored (others_at n e.named) e.arrived e.reports) x.receiver x.forward x.back
after_driver k (reads n) x = answer_read k x (read_bytes k.numbers n x.sender.memory.reader x.back)
after_driver k (takes n) x = verdict_taken k x (one_at n x.sender.arrived) (others_at n x.sender.arrived)
after_driver k (drops n) x =
    let e = x.sender in
    drivers (sender_end e.memory e.stored e.named (others_at n e.arrived) e.reports) x.receiver x.forward x.back
after_driver k (crashes m) x =
    let e = x.sender in
    cond (enough_to_send k.link.settings m)
    (drivers (sender_end (sender_memory (restored_words e m.state) m.report (fresh_reader m.reader) m.block m.written) e.stored [] [] (restarted ∷ e.reports)) x.receiver
    (line x.forward.reader []) empty_line) x
after_driver k (receiver_reads n) x = request_read k x (read_bytes k.numbers n x.receiver.memory.reader x.forward)
after_driver k (decides application) x = oldest_decided application x x.receiver.arrived
after_driver k (answers success start) x = answered_by x success start (answer_on k success start x.receiver.memory)
after_driver k (naks number start) x = nakked_by x start (nak_on k number start x.receiver.memory)
after_driver k (receiver_drops n) x =
    let e = x.receiver in
    drivers x.sender (receiver_end e.memory e.stored e.stored_has e.noted e.reports e.pending (others_at n e.arrived)) x.forward x.back
after_driver k receiver_stores x = decision_stored x
after_driver k replies x = reply_sent x x.receiver.pending
-- it cannot be told whether it was stored: the driver reports nothing, and goes on from what is stored, on the same circuit
after_driver k receiver_restores x =
    let e = x.receiver in
    let m = x.receiver.memory in
    drivers x.sender (receiver_end (receiver_memory (restored_receiver e m.state) m.decision m.report m.reader m.reply) e.stored e.stored_has nothing_noted false e.pending e.arrived)
    x.forward x.back
after_driver k (receiver_crashes m) x =
    let e = x.receiver in
    cond (enough_to_receive k.link.settings m)
    (drivers x.sender (receiver_end (receiver_memory (restored_receiver e m.state) m.decision m.report (fresh_reader m.reader) m.reply) e.stored e.stored_has nothing_noted false [] [])
    empty_line (line x.back.reader [])) x
after_driver k (replaces p v b w) x =
    let e = x.sender in
    let m = x.sender.memory in
    cond (leb 8 (length p) && leb 8 (length v))
    (drivers (sender_end (sender_memory m.state p (with_verdict v m.reader) b w) e.stored e.named e.arrived e.reports) x.receiver x.forward x.back) x
after_driver k (receiver_replaces d p v b) x =
    let e = x.receiver in
    let m = x.receiver.memory in
    cond (leb 5 (length d) && (leb 2 (length p) && leb 8 (length v)))
    (drivers x.sender (receiver_end (receiver_memory m.state d p (with_verdict v m.reader) b) e.stored e.stored_has e.noted e.reports e.pending e.arrived) x.forward x.back) x
after_driver k (tries application) x = oldest_tried application x x.receiver.arrived
after_driver k (damages_forward xs) x = cond (damages k.link.settings x.forward xs) (drivers x.sender x.receiver (line x.forward.reader xs) x.back) x
after_driver k (damages_back xs) x = cond (disorders k.link.settings x.back xs) (drivers x.sender x.receiver x.forward (line x.back.reader xs)) x

-- a run, the newest act first
unfoldable pub driven_by : Passed → Drivers → List DriverAct → Drivers
driven_by k x [] = x
driven_by k x (a ∷ ds) = after_driver k a (driven_by k x ds)

-- ---- a tenancy begins
-- what an earlier one may have left: bytes on the line back, replies not yet sent, verdicts that the sender's driver was shown and has not acted on
pub record DriversLeft : Type 0 where
  pub back : List ℕ
  pub pending : List (List ℕ)
  pub answers : List Judged

-- gmv_sender_fresh, whose words are stored; a receiver whose word is stored, with no decision open and none of the log; gmv_reader_fresh at both ends
abbrev pub drivers_start : Passed → DriversLeft → SenderMemory → ReceiverMemory → ℕ → Drivers
drivers_start k d m n e =
    let s = (fresh_call k.link.first m.state).state in
    drivers (sender_end (sender_memory s m.report (fresh_reader m.reader) m.block m.written) (take 5 s) [] (map (shown k.link.settings) d.answers) [])
    (receiver_end (receiver_memory (over n.state (e ∷ 0 ∷ 0 ∷ 0 ∷ 0 ∷ 0 ∷ 0 ∷ 0 ∷ 0 ∷ [])) n.decision n.report (fresh_reader n.reader) n.reply) (e ∷ []) [] nothing_noted false d.pending [])
    empty_line (line new_reader d.back)
