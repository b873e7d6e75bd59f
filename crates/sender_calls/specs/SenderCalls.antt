-- What the C functions of the sender return and leave in what was passed, for every input (include/giamuvich.h).
use Rattle.std.specs.Prelude.{List, [], ◌∷◌, ◌++◌, Bool, true, false, cond, ◌&&◌, ℕ, length, get_or, leb, eqb, Option, Result, Some, None}
use Rattle.lists.specs.Bytes.{over}
use Rattle.lists.specs.Outcome.{need, Called, called}
use Rattle.settings.specs.Settings.{valid_link_limit}
use Rattle.refusal.specs.Refusal.{SETTING, TOO_SHORT, STATE}
use Rattle.numbers.specs.declared.SequenceNumber.TheVariants.{MinusOne, Number}
use Rattle.header.specs.declared.Code.{Code}
use Rattle.header.specs.declared.Code.TheVariants.{AA, AE, AR}
use Rattle.sender.specs.Sender.{settings_of, sender_of, open_of, ended_of, reset_of, timer_act_of, block_act_of, submit_of}
use Rattle.sender.specs.declared.SenderSettings.{SenderSettings}
use Rattle.sender.specs.declared.Persisted.{Persisted}
use Rattle.sender.specs.declared.Waiting.{Waiting}
use Rattle.sender.specs.declared.Waiting.TheVariants.{Closed, Idle, Resynchronizing, Querying, Sending}
use Rattle.sender.specs.declared.Sender.{Sender}
use Rattle.numbers.specs.declared.SequenceNumber.{SequenceNumber}
use Rattle.sender.specs.declared.Event.{Event}
use Rattle.sender.specs.declared.Event.TheVariants.{NoEvent, Delivered, DeliveredUnknown, Abandoned, Froze, Dropped}
use Rattle.sender.specs.declared.Acted.{Acted}
use Rattle.words.specs.Words.{verdict_from}
use Rattle.refusal.specs.declared.Accepted.{Accepted}
use Rattle.refusal.specs.declared.Refusal.{Refusal}

abbrev pub flag_word : Bool → ℕ
flag_word true = 1
flag_word false = 0

-- GMV_SENDER_WAITING
abbrev pub waiting_word : Waiting → ℕ
waiting_word Closed = 0
waiting_word Idle = 1
waiting_word Resynchronizing = 2
waiting_word Querying = 3
waiting_word Sending = 4

abbrev pub waiting_of : ℕ → Waiting
waiting_of w = cond (eqb w 0) Closed (cond (eqb w 1) Idle (cond (eqb w 2) Resynchronizing (cond (eqb w 3) Querying Sending)))

-- GMV_SENDER_FIRST, _DELIVERED, _LAST, _RESYNCHRONIZED, _FROZEN: what must be stored before the next block goes out
abbrev pub persisted_words : Persisted → List ℕ
persisted_words p = p.first ∷ p.delivered ∷ p.last ∷ flag_word p.resynchronized ∷ flag_word p.frozen ∷ []

-- GMV_SENDER_WAITING, _SENDS: what a crash loses
abbrev pub sender_words : Sender → List ℕ
sender_words s = persisted_words s.persisted ++ waiting_word s.waiting ∷ s.sends ∷ []

-- every content of the words is an input: flags over 1 or a waiting over 4 encode no sender
unfoldable pub sender_in : List ℕ → Option Sender
sender_in ws =
    need (leb (get_or ws 3 0) 1 && (leb (get_or ws 4 0) 1 && leb (get_or ws 5 0) 4)) None
    (Some (record {
      persisted = record { first = get_or ws 0 0; delivered = get_or ws 1 0; last = get_or ws 2 0; resynchronized = eqb (get_or ws 3 0) 1; frozen = eqb (get_or ws 4 0) 1 };
      waiting = waiting_of (get_or ws 5 0);
      sends = get_or ws 6 0;
    }))

-- GMV_ACT_SEND, GMV_ACT_SEND_NUMBER
abbrev pub send_words : Option SequenceNumber → List ℕ
send_words None = 0 ∷ 0 ∷ []
send_words (Some MinusOne) = 1 ∷ 0 ∷ []
send_words (Some (Number n)) = cond (eqb n 0) 2 3 ∷ n ∷ []

-- GMV_CODE_AA, _AE, _AR
abbrev pub code_number : Code → ℕ
code_number AA = 1
code_number AE = 2
code_number AR = 3

-- GMV_ACT_EVENT, GMV_ACT_DELIVERED, GMV_ACT_CODE
abbrev pub event_words : Event → List ℕ
event_words NoEvent = 0 ∷ 0 ∷ 0 ∷ []
event_words (Delivered n c) = 1 ∷ n ∷ code_number c ∷ []
event_words (DeliveredUnknown n) = 1 ∷ n ∷ 0 ∷ []
event_words Abandoned = 2 ∷ 0 ∷ 0 ∷ []
event_words Froze = 3 ∷ 0 ∷ 0 ∷ []
event_words Dropped = 4 ∷ 0 ∷ 0 ∷ []

-- GMV_ACT_SENDS, GMV_ACT_BLOCK, GMV_ACT_FORBIDDEN_OFFSET
abbrev pub act_words : Acted → List ℕ
act_words a = send_words a.send ++ a.sends ∷ event_words a.event ++ a.block ∷ a.offset ∷ []

-- a refused act leaves the state as it is; its report is written
abbrev pub act_written : List ℕ → List ℕ → Acted → Called
act_written st p a =
    need (eqb a.refusal 0) (called a.refusal st [] (over p (act_words a)))
    (called 0 (over st (sender_words a.sender)) [] (over p (act_words a)))

-- GMV_SENDER_WORDS, GMV_ACT_WORDS
abbrev pub enough_words : ℕ → ℕ → Bool
enough_words states reports = leb 7 states && leb 8 reports

-- an act on the sender that the words encode: 2, then 11 for words that encode none, with a report of zeros, then the act
abbrev pub act_on : Option Sender → (Sender → Acted) → List ℕ → List ℕ → Called
act_on None f st p = called STATE st [] (over p (0 ∷ 0 ∷ 0 ∷ 0 ∷ 0 ∷ 0 ∷ 0 ∷ 0 ∷ []))
act_on (Some s) f st p = act_written st p (f s)

abbrev pub sender_call : (Sender → Acted) → List ℕ → List ℕ → Called
sender_call f st p = need (enough_words (length st) (length p)) (called TOO_SHORT st [] p) (act_on (sender_in st) f st p)

-- gmv_sender_open, gmv_sender_ended, gmv_sender_reset
unfoldable pub open_call : List ℕ → List ℕ → Called
open_call st p = sender_call open_of st p

unfoldable pub ended_call : List ℕ → List ℕ → Called
ended_call st p = sender_call ended_of st p

unfoldable pub reset_call : List ℕ → List ℕ → Called
reset_call st p = sender_call reset_of st p

-- the settings of an act: it goes by the first number that the state has, so any will do here
abbrev pub resends_only : ℕ → Option SenderSettings
resends_only r = settings_of 1 r

-- gmv_sender_timer: 1 comes first
abbrev pub timer_with : Option SenderSettings → List ℕ → List ℕ → Called
timer_with None st p = called SETTING st [] p
timer_with (Some g) st p = sender_call (timer_act_of g) st p

unfoldable pub timer_call : ℕ → List ℕ → List ℕ → Called
timer_call r st p = timer_with (resends_only r) st p

-- gmv_sender_block
abbrev pub block_with : Option SenderSettings → Option (Result Accepted Refusal) → List ℕ → List ℕ → List ℕ → Called
block_with None v d st p = called SETTING st [] p
block_with (Some g) None d st p = called SETTING st [] p
block_with (Some g) (Some v) d st p = sender_call (λ (s : Sender). block_act_of g s v d) st p

unfoldable pub block_call : ℕ → ℕ → ℕ → List ℕ → List ℕ → List ℕ → Called
block_call r n t d st p = block_with (resends_only r) (verdict_from n t) d st p

-- gmv_sender_submit
unfoldable pub submit_call : ℕ → List ℕ → List ℕ → List ℕ → Called
submit_call limit d st p =
    need (valid_link_limit limit) (called SETTING st [] p) (sender_call (λ (s : Sender). submit_of limit s d) st p)

-- gmv_sender_fresh: how often a message is sent again is said in each act
abbrev pub fresh_made : Option Sender → List ℕ → Called
fresh_made None st = called SETTING st [] []
fresh_made (Some s) st = need (leb 7 (length st)) (called TOO_SHORT st [] []) (called 0 (over st (sender_words s)) [] [])

abbrev pub fresh_with : Option SenderSettings → List ℕ → Called
fresh_with None st = called SETTING st [] []
fresh_with (Some g) st = fresh_made (sender_of g) st

unfoldable pub fresh_call : ℕ → List ℕ → Called
fresh_call f st = fresh_with (settings_of f 3) st
