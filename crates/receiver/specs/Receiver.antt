-- Document 01, 'Receiver of sequence numbers' (001, 002), the reply column of 'Numbers that say no', and 02, §1: what the receiver decides, what is to be stored then, and the
-- answer that it gives once that is reported stored.
use Rattle.std.specs.Prelude.{List, [], ◌∷◌, Bool, true, false, cond, ◌&&◌, ◌||◌, ℕ, ◌+◌, length, leb, eqb, is_none, Option, Some, None, Result, Ok, Err}
use Prim.Native.Char.{code}
use Rattle.lists.specs.Bytes.{put}
use Rattle.lists.specs.Outcome.{need, Outcome, outcome}
use Rattle.settings.specs.Settings.{by_kind, valid_link}
use Rattle.settings.specs.declared.Settings.{Settings}
use Rattle.settings.specs.DataBytes.{all_allowed}
use Rattle.refusal.specs.Refusal.{SETTING, TOO_SHORT, BYTE, LONG, COUNT, CHECK, HEAD, STATE}
use Rattle.block.specs.Format.{block_of}
use Rattle.writer.specs.Write.{frame_length}
use Rattle.fields.specs.Fields.{bytes_of}
use Rattle.numbers.specs.Numbers.{number_field, greatest_sent, greatest_expected}
use Rattle.numbers.specs.declared.SequenceNumber.{SequenceNumber}
use Rattle.numbers.specs.declared.SequenceNumber.TheVariants.{MinusOne, Number}
use Rattle.numbers.specs.declared.NumberError.{NumberError}
use Rattle.control_id.specs.ControlId.{in_words, bytes_in}
use Rattle.control_id.specs.declared.ControlId.{ControlId}
use Rattle.header.specs.Header.{header_of}
use Rattle.header.specs.declared.Header.{Header}
use Rattle.header.specs.declared.Code.{Code}
use Rattle.header.specs.declared.Code.TheVariants.{AA, AE, AR}
use Rattle.messages.specs.Messages.{answer_message, valid_control_id}
use Rattle.receiver.specs.declared.Application.{Application}
use Rattle.receiver.specs.declared.Application.TheVariants.{Accepts, Errs}
use Rattle.receiver.specs.declared.Row.{Row}
use Rattle.receiver.specs.declared.Decision.{Decision}
use Rattle.receiver.specs.declared.Receiver.{Receiver}
use Rattle.receiver.specs.declared.Decided.{Decided}
use Rattle.receiver.specs.declared.Answered.{Answered}

-- "Stored state: NONE, or expected E of 1 or more"; "999,999,999,999,999 may be expected"
unfoldable pub valid_expected : Option ℕ → Bool
valid_expected None = true
valid_expected (Some e) = leb 1 e && leb e greatest_expected

-- "The application's verdict picks AA or AE; both store."
abbrev pub application_code : Application → Code
application_code Accepts = AA
application_code Errs = AE

-- "E or -1"
abbrev pub expected_number : Option ℕ → SequenceNumber
expected_number None = MinusOne
expected_number (Some e) = Number e

-- a row of the table: MSA-1, MSA-4, and "Stored then"
abbrev pub row : Code → SequenceNumber → Option ℕ → Option ℕ → Row
row c n t e = record { code = c; number = n; persisted = record { transaction = t; expected = e } }

-- AA or AE, n | transaction n, and n + 1
abbrev pub stores : Application → ℕ → Row
stores a n = row (application_code a) (Number n) (Some n) (Some (n + 1))

-- the table: what MSH-13 holds and the state | MSA-1, MSA-4 | stored then
unfoldable pub row_of : Application → Option ℕ → Result SequenceNumber NumberError → Row
-- -1 | any | AA, -1 | NONE
row_of a s (Ok MinusOne) = row AA MinusOne None None
-- 0 | NONE | AA, -1 | NONE
-- n | NONE | AA or AE, n | transaction n, and n + 1
row_of a None (Ok (Number n)) = cond (eqb n 0) (row AA MinusOne None None) (stores a n)
-- 0 | E | AA, E | E
-- n | E = n | AA or AE, n | transaction n, and n + 1
-- n | E not n | AR, E | E
row_of a (Some e) (Ok (Number n)) =
    cond (eqb n 0) (row AA (Number e) None (Some e))
    (cond (eqb n e) (stores a n)
    (row AR (Number e) None (Some e)))
-- missing, empty or not a number | any | AR, E or -1 | as before
row_of a s (Err why) = row AR (expected_number s) None s

-- ---- the state: what is stored, and what a crash loses, the open decision
-- no decision is open: so it is with what is stored, after a crash
abbrev pub closed : Option ℕ → Receiver
closed e = record { expected = e; decision = None }

abbrev pub is_closed : Option Decision → Bool
is_closed o = is_none o

abbrev pub same_expected : Option ℕ → Option ℕ → Bool
same_expected None None = true
same_expected None (Some n) = false
same_expected (Some m) None = false
same_expected (Some m) (Some n) = eqb m n

abbrev pub same_number : SequenceNumber → SequenceNumber → Bool
same_number MinusOne MinusOne = true
same_number MinusOne (Number n) = false
same_number (Number m) MinusOne = false
same_number (Number m) (Number n) = eqb m n

-- the rows that store a transaction n: AA or AE, n, and n + 1, where nothing or n is expected
abbrev pub code_of_stored : Code → Bool
code_of_stored AA = true
code_of_stored AE = true
code_of_stored AR = false

abbrev pub is_due : Option ℕ → ℕ → Bool
is_due None n = leb 1 n && leb n greatest_sent
is_due (Some e) n = eqb n e && leb n greatest_sent

-- and those that store none: AA, -1 and NONE, or AA or AR, E or -1 and as before
abbrev pub code_of_kept : Code → Option ℕ → Option ℕ → Bool
code_of_kept AA e f = same_expected f None || same_expected f e
code_of_kept AE e f = false
code_of_kept AR e f = same_expected f e

abbrev pub kept_row : Option ℕ → Row → Bool
kept_row e r = same_number r.number (expected_number r.persisted.expected) && code_of_kept r.code e r.persisted.expected

abbrev pub stored_row : ℕ → Option ℕ → Row → Bool
stored_row n e r =
    (code_of_stored r.code && is_due e n) && (same_number r.number (Number n) && same_expected r.persisted.expected (Some (n + 1)))

-- a row of the table for what is expected: an open decision is one
abbrev pub is_row_for : Option ℕ → Option ℕ → Row → Bool
is_row_for None e r = kept_row e r
is_row_for (Some n) e r = stored_row n e r

unfoldable pub is_row : Option ℕ → Row → Bool
is_row e r = is_row_for r.persisted.transaction e r

-- a control ID that an answer can carry
unfoldable pub carried : ControlId → Bool
carried id = leb id.length 20 && (all_allowed (bytes_in id) && valid_control_id (bytes_in id))

abbrev pub valid_open : Option ℕ → Option Decision → Bool
valid_open e None = true
valid_open e (Some o) = carried o.control_id && is_row e o.row

-- every value is an input; these are the states
unfoldable pub valid_receiver : Receiver → Bool
valid_receiver s = valid_expected s.expected && valid_open s.expected s.decision

-- ---- 02, §1: "The first act says what to store."
-- what the act answers: the number that refuses it, or 0; the block's number, 0 or 9; whether it opened a decision; the state then
abbrev pub decided : ℕ → ℕ → Bool → Receiver → Decided
decided k n o s = record { refusal = k; block = n; opened = o; receiver = s }

-- "A refused act leaves the state equal": 11, or a block that is refused by 9, or dropped
abbrev pub undecided : ℕ → ℕ → Receiver → Decided
undecided k n s = decided k n false s

abbrev pub opens : Receiver → ControlId → Row → Decided
opens s id r = decided 0 0 true (record { expected = s.expected; decision = Some (record { control_id = id; row = r }) })

-- a data block: 9, or the row for its MSH-13. A control ID that no block could hold is no readable one
abbrev pub header_decided : Application → Receiver → List ℕ → Option Header → Decided
header_decided a s d None = undecided 0 HEAD s
header_decided a s d (Some h) =
    need (all_allowed (bytes_of h.control_id d)) (undecided 0 HEAD s)
    (opens s (in_words (bytes_of h.control_id d)) (row_of a s.expected (number_field greatest_sent (bytes_of h.sequence d))))

-- the decision on an accepted block, its type and data: 11 for no state, and "for .. a decision .. while one is [open]", whatever the block; "a receiver drops an accepted N block"
unfoldable pub decide_of : Application → Receiver → ℕ → List ℕ → Decided
decide_of a s t d =
    need (valid_receiver s) (undecided STATE 0 s)
    (need (is_closed s.decision) (undecided STATE 0 s)
    (cond (eqb t (code "N")) (undecided 0 0 s)
    (header_decided a s d (header_of d))))

-- ---- "The second, after the host reports it stored, gives the answer"
-- the answer to a control ID, as a data block
abbrev pub answer_block : Settings → List ℕ → Row → List ℕ
answer_block g id r = block_of g (code "D") (answer_message id r.code r.number)

-- what the act answers: the number that refuses it, or 0; the state then; the reply's length
abbrev pub answered : ℕ → Receiver → ℕ → Answered
answered k s size = record { refusal = k; receiver = s; reply_length = size }

-- a refused act leaves the state and the buffer equal
abbrev pub refused : ℕ → Receiver → List ℕ → Outcome Answered
refused k s b = outcome (answered k s 0) b

-- the reply block is written from an offset on; "of which only the reply's bytes change"
abbrev pub replied : Receiver → List ℕ → ℕ → List ℕ → Outcome Answered
replied s block start b = outcome (answered 0 s (length block)) (put b start block)

-- "a host that reports failure gets nothing to send and finds the old state"; 11 "for a report with no decision open"
abbrev pub reported_of : Settings → Bool → Receiver → ℕ → List ℕ → Option Decision → Outcome Answered
reported_of g stored s start b None = refused STATE s b
reported_of g true s start b (Some o) = replied (closed o.row.persisted.expected) (answer_block g (bytes_in o.control_id) o.row) start b
reported_of g false s start b (Some o) = outcome (answered 0 (closed s.expected) 0) b

-- "Room needed .. for a receiver's reply D + 15 (minimal D + 3)"
abbrev pub reply_space : Settings → ℕ
reply_space g = g.data_limit + frame_length g.kind

-- the report on the open decision, stored or failed: 1, 2, 11
unfoldable pub answer_of : Settings → Bool → Receiver → ℕ → List ℕ → Outcome Answered
answer_of g stored s start b =
    need (valid_link g) (refused SETTING s b)
    (need (leb (start + reply_space g) (length b)) (refused TOO_SHORT s b)
    (need (valid_receiver s) (refused STATE s b)
    (reported_of g stored s start b s.decision)))

-- ---- the N reply: "a decision or N reply while one is [open]" is refused by 11
-- the reply column: N with B, C, X or G
abbrev pub reason_of : ℕ → ℕ
reason_of n = cond (eqb n LONG) (code "B") (cond (eqb n COUNT) (code "C") (cond (eqb n CHECK) (code "X") (code "G")))

abbrev pub nak_block : Settings → ℕ → List ℕ
nak_block g n = block_of g (code "N") (reason_of n ∷ [])

-- 3 to 8 are the reader's, 9 is a decision's
abbrev pub is_block_number : ℕ → Bool
is_block_number n = leb BYTE n && leb n HEAD

-- "A receiver drops a refused minimal block, also by 9, without reply"
abbrev pub nak_reply : Settings → ℕ → List ℕ
nak_reply g n = by_kind g.kind (nak_block g n) []

unfoldable pub nak_of : Settings → ℕ → Receiver → ℕ → List ℕ → Outcome Answered
nak_of g n s start b =
    need (valid_link g && is_block_number n) (refused SETTING s b)
    (need (leb (start + reply_space g) (length b)) (refused TOO_SHORT s b)
    (need (valid_receiver s && is_closed s.decision) (refused STATE s b)
    (replied s (nak_reply g n) start b)))
