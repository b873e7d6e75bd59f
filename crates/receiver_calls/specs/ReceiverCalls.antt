-- What the C functions of the receiver return and leave in what was passed, for every input (include/giamuvich.h).
use Rattle.std.specs.Prelude.{List, [], ◌∷◌, Bool, true, false, cond, not, ◌&&◌, ℕ, ◌+◌, length, get_or, leb, eqb, Option, Some, None}
use Prim.Native.Char.{code}
use Rattle.lists.specs.Bytes.{over}
use Rattle.lists.specs.Outcome.{need, Outcome, Called, called}
use Rattle.settings.specs.Settings.{valid_link}
use Rattle.settings.specs.declared.Settings.{Settings}
use Rattle.refusal.specs.Refusal.{SETTING, TOO_SHORT, STATE}
use Rattle.numbers.specs.declared.SequenceNumber.{SequenceNumber}
use Rattle.numbers.specs.declared.SequenceNumber.TheVariants.{MinusOne, Number}
use Rattle.header.specs.declared.Code.{Code}
use Rattle.header.specs.declared.Code.TheVariants.{AA, AE, AR}
use Rattle.words.specs.Words.{report_words}
use Rattle.receiver.specs.Receiver.{row, closed, same_expected, reply_space, is_block_number, decide_of, answer_of, nak_of}
use Rattle.receiver.specs.declared.Application.{Application}
use Rattle.receiver.specs.declared.Application.TheVariants.{Accepts, Errs}
use Rattle.receiver.specs.declared.Decision.{Decision}
use Rattle.receiver.specs.declared.Receiver.{Receiver}
use Rattle.receiver.specs.declared.Decided.{Decided}
use Rattle.receiver.specs.declared.Answered.{Answered}

-- ---- the words of a state
-- GMV_RECEIVER_EXPECTED, GMV_RECEIVER_NEW_EXPECTED: 0 is none
abbrev pub expected_word : Option ℕ → ℕ
expected_word None = 0
expected_word (Some e) = e

abbrev pub expected_from : ℕ → Option ℕ
expected_from w = cond (eqb w 0) None (Some w)

-- GMV_RECEIVER_CODE: GMV_CODE_AA, _AE, _AR
abbrev pub code_word : Code → ℕ
code_word AA = 1
code_word AE = 2
code_word AR = 3

abbrev pub code_from : ℕ → Code
code_from w = cond (eqb w 1) AA (cond (eqb w 2) AE AR)

-- GMV_RECEIVER_NUMBER: 0 is -1, which no answer has otherwise
abbrev pub number_word : SequenceNumber → ℕ
number_word MinusOne = 0
number_word (Number n) = n

abbrev pub number_from : ℕ → SequenceNumber
number_from w = cond (eqb w 0) MinusOne (Number w)

-- GMV_RECEIVER_TRANSACTION: 0 is none
abbrev pub transaction_word : Option ℕ → ℕ
transaction_word None = 0
transaction_word (Some n) = n

abbrev pub transaction_from : ℕ → Option ℕ
transaction_from w = cond (eqb w 0) None (Some w)

-- what a crash loses: GMV_RECEIVER_CODE, 0 where no decision is open, _NUMBER, _TRANSACTION, _NEW_EXPECTED, _CONTROL_ID_LENGTH, _CONTROL_ID and the two after it
abbrev pub open_words : Option Decision → List ℕ
open_words None = 0 ∷ 0 ∷ 0 ∷ 0 ∷ 0 ∷ 0 ∷ 0 ∷ 0 ∷ []
open_words (Some o) =
    code_word o.row.code ∷ number_word o.row.number ∷ transaction_word o.row.persisted.transaction ∷ expected_word o.row.persisted.expected
    ∷ o.control_id.length ∷ o.control_id.first ∷ o.control_id.second ∷ o.control_id.third ∷ []

-- GMV_RECEIVER_EXPECTED, which is stored, comes first
abbrev pub receiver_words : Receiver → List ℕ
receiver_words s = expected_word s.expected ∷ open_words s.decision

-- every content of the words is an input: a code over 3 encodes no receiver, and with 0 the words behind it count for nothing
abbrev pub open_in : List ℕ → Option Decision
open_in ws =
    cond (eqb (get_or ws 1 0) 0) None
    (Some (record { control_id = record { length = get_or ws 5 0; first = get_or ws 6 0; second = get_or ws 7 0; third = get_or ws 8 0 }; row = row (code_from (get_or ws 1 0)) (number_from (get_or ws 2 0)) (transaction_from (get_or ws 3 0)) (expected_from (get_or ws 4 0)) }))

unfoldable pub receiver_in : List ℕ → Option Receiver
receiver_in ws = need (leb (get_or ws 1 0) 3) None (Some (record { expected = expected_from (get_or ws 0 0); decision = open_in ws }))

-- ---- numbers from C
-- GMV_CODE_AA, GMV_CODE_AE
abbrev pub application_from : ℕ → Option Application
application_from n = cond (eqb n 1) (Some Accepts) (cond (eqb n 2) (Some Errs) None)

-- GMV_DATA_BLOCK, GMV_NAK_BLOCK
abbrev pub is_type : ℕ → Bool
is_type t = cond (eqb t (code "D")) true (eqb t (code "N"))

-- GMV_STORED, GMV_NOT_STORED
abbrev pub outcome_from : ℕ → Option Bool
outcome_from n = cond (eqb n 1) (Some true) (cond (eqb n 0) (Some false) None)

abbrev pub flag : Bool → ℕ
flag true = 1
flag false = 0

-- ---- gmv_receiver_fresh
unfoldable pub fresh_call : List ℕ → Called
fresh_call st = need (leb 9 (length st)) (called TOO_SHORT st [] []) (called 0 (over st (receiver_words (closed None))) [] [])

-- ---- gmv_receiver_decide
-- what is stored then, as the open decision has it, or as before
abbrev pub to_store : Decided → Option Decision → List ℕ
to_store x None = 0 ∷ expected_word x.receiver.expected ∷ 0 ∷ []
to_store x (Some o) =
    transaction_word o.row.persisted.transaction ∷ expected_word o.row.persisted.expected ∷ flag (not (same_expected o.row.persisted.expected x.receiver.expected)) ∷ []

-- GMV_DECISION_TRANSACTION, _EXPECTED, _CHANGES
abbrev pub change_words : Decided → List ℕ
change_words x = to_store x (cond x.opened x.receiver.decision None)

-- GMV_DECISION_BLOCK, GMV_DECISION_OPENED, then the three
abbrev pub decision_words : Decided → List ℕ
decision_words x = x.block ∷ flag x.opened ∷ change_words x

-- a refused act changes nothing
abbrev pub decided_as : List ℕ → List ℕ → Decided → Called
decided_as st p x =
    need (eqb x.refusal 0) (called x.refusal st [] p) (called 0 (cond x.opened (over st (receiver_words x.receiver)) st) [] (over p (decision_words x)))

abbrev pub decide_with : Application → ℕ → List ℕ → List ℕ → List ℕ → Option Receiver → Called
decide_with a t d st p None = called STATE st [] p
decide_with a t d st p (Some s) = decided_as st p (decide_of a s t d)

abbrev pub decide_for : Option Application → ℕ → List ℕ → List ℕ → List ℕ → Called
decide_for None t d st p = called SETTING st [] p
decide_for (Some a) t d st p =
    need (is_type t) (called SETTING st [] p)
    (need (leb 9 (length st) && leb 5 (length p)) (called TOO_SHORT st [] p)
    (decide_with a t d st p (receiver_in st)))

unfoldable pub decide_call : ℕ → ℕ → List ℕ → List ℕ → List ℕ → Called
decide_call application t d st p = decide_for (application_from application) t d st p

-- ---- gmv_hybrid_answer, gmv_minimal_answer
-- the report: the reply's length, GMV_REPORT_BLOCK_LENGTH, and 0
abbrev pub answered_as : List ℕ → List ℕ → Outcome Answered → Called
answered_as st p o =
    need (eqb o.answer.refusal 0) (called o.answer.refusal st o.buffer p)
    (called 0 (over st (receiver_words o.answer.receiver)) o.buffer (over p (report_words o.answer.reply_length 0)))

-- 2 for the words and for the reply
abbrev pub enough_to_reply : Settings → List ℕ → List ℕ → ℕ → List ℕ → Bool
enough_to_reply g st b start p = leb 9 (length st) && (leb 2 (length p) && leb (start + reply_space g) (length b))

-- 11 for words that encode no receiver
abbrev pub answer_words : Settings → Bool → List ℕ → List ℕ → ℕ → List ℕ → Option Receiver → Called
answer_words g stored st b start p None = called STATE st b p
answer_words g stored st b start p (Some s) = answered_as st p (answer_of g stored s start b)

abbrev pub answer_with : Option Settings → Option Bool → List ℕ → List ℕ → ℕ → List ℕ → Called
answer_with None o st b start p = called SETTING st b p
answer_with (Some g) None st b start p = called SETTING st b p
answer_with (Some g) (Some stored) st b start p =
    need (valid_link g) (called SETTING st b p)
    (need (enough_to_reply g st b start p) (called TOO_SHORT st b p)
    (answer_words g stored st b start p (receiver_in st)))

unfoldable pub answer_call : Option Settings → ℕ → List ℕ → List ℕ → ℕ → List ℕ → Called
answer_call m stored st b start p = answer_with m (outcome_from stored) st b start p

-- ---- gmv_hybrid_nak: it does not change the state
abbrev pub nak_as : List ℕ → Outcome Answered → Called
nak_as p o =
    need (eqb o.answer.refusal 0) (called o.answer.refusal [] o.buffer p)
    (called 0 [] o.buffer (over p (report_words o.answer.reply_length 0)))

abbrev pub nak_words : Settings → ℕ → List ℕ → ℕ → List ℕ → Option Receiver → Called
nak_words g n b start p None = called STATE [] b p
nak_words g n b start p (Some s) = nak_as p (nak_of g n s start b)

abbrev pub nak_with : Option Settings → ℕ → List ℕ → List ℕ → ℕ → List ℕ → Called
nak_with None n st b start p = called SETTING [] b p
nak_with (Some g) n st b start p =
    need (valid_link g && is_block_number n) (called SETTING [] b p)
    (need (enough_to_reply g st b start p) (called TOO_SHORT [] b p)
    (nak_words g n b start p (receiver_in st)))

unfoldable pub nak_call : Option Settings → ℕ → List ℕ → List ℕ → ℕ → List ℕ → Called
nak_call m n st b start p = nak_with m n st b start p
