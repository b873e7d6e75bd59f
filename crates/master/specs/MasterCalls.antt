-- What the C functions of the X3.28 master return and leave in what was passed, for every input (include/giamuvich.h).
use Rattle.std.specs.Prelude.{List, [], ◌∷◌, ◌++◌, Bool, true, false, cond, ◌&&◌, ℕ, length, get_or, leb, eqb, Option, Some, None}
use Rattle.lists.specs.Bytes.{over}
use Rattle.lists.specs.Outcome.{need, Called, called}
use Rattle.refusal.specs.Refusal.{SETTING, TOO_SHORT, STATE}
use Rattle.station.specs.declared.Ending.{Ending}
use Rattle.station.specs.declared.Ending.TheVariants.{Etb, Etx}
use Rattle.station.specs.StationCalls.{kind_word, is_kind, kind_in}
use Rattle.master.specs.Master.{outstanding}
use Rattle.master.specs.Reversal.{reversal, fresh_reversal, master_state, reversal_fits, opened_master_answer, start_answer, reply_answer, timer_answer, close_answer, enquire_answer, may_receive_of}
use Rattle.master.specs.declared.Master.{Master}
use Rattle.master.specs.declared.Master.TheVariants.{Closed, Idle, Waiting}
use Rattle.master.specs.declared.Response.TheVariants.{Ack, Nak, Eot, Damaged, Rint}
use Rattle.master.specs.declared.Transmission.{Transmission}
use Rattle.master.specs.declared.Transmission.TheVariants.{Nothing, SendBlock, SendEot, SendEnq}
use Rattle.master.specs.declared.Progress.{Progress}
use Rattle.master.specs.declared.Progress.TheVariants.{NoProgress, Acknowledged, Done}
use Rattle.master.specs.declared.End.{End}
use Rattle.master.specs.declared.End.TheVariants.{NotEnded, Failed, BySlave, ByDriver, Reversed}
use Rattle.master.specs.declared.Reversal.{Reversal}
use Rattle.master.specs.declared.MasterState.{MasterState}
use Rattle.master.specs.declared.MasterActed.{MasterActed}
use Rattle.master.specs.declared.MasterAnswer.{MasterAnswer}
use Rattle.master.specs.declared.Response.{Response}

-- GMV_MASTER_PHASE, _MESSAGE_LENGTH, _BLOCK_SIZE, _OFFSET, _RESENDS, _COUNT
abbrev pub master_words : Master → List ℕ
master_words (Closed count) = 0 ∷ 0 ∷ 0 ∷ 0 ∷ 0 ∷ count ∷ []
master_words (Idle count) = 1 ∷ 0 ∷ 0 ∷ 0 ∷ 0 ∷ count ∷ []
master_words (Waiting o) = 2 ∷ o.message_length ∷ o.block_size ∷ o.offset ∷ o.resends ∷ o.count ∷ []

-- no message is being sent
abbrev pub no_message : List ℕ → Bool
no_message ws = eqb (get_or ws 1 0) 0 && (eqb (get_or ws 2 0) 0 && (eqb (get_or ws 3 0) 0 && eqb (get_or ws 4 0) 0))

-- GMV_MASTER_LAST_REPLY, _INTERRUPTED, _ENQUIRED, _MAY_RECEIVE
abbrev pub flag_word : Bool → ℕ
flag_word true = 1
flag_word false = 0

abbrev pub reversal_words : Reversal → List ℕ
reversal_words v = kind_word v.last ∷ flag_word v.interrupted ∷ flag_word v.enquired ∷ flag_word v.may_receive ∷ []

abbrev pub state_words : Master → Reversal → List ℕ
state_words m v = master_words m ++ reversal_words v

-- every content of the words is an input
abbrev pub known_reversal : List ℕ → Bool
known_reversal ws = is_kind (get_or ws 6 0) && (leb (get_or ws 7 0) 1 && (leb (get_or ws 8 0) 1 && leb (get_or ws 9 0) 1))

abbrev pub reversal_in : List ℕ → Reversal
reversal_in ws = reversal (kind_in (get_or ws 6 0)) (eqb (get_or ws 7 0) 1) (eqb (get_or ws 8 0) 1) (eqb (get_or ws 9 0) 1)

abbrev pub known_if : List ℕ → Master → Option MasterState
known_if ws m = cond (known_reversal ws && reversal_fits m (reversal_in ws)) (Some (master_state m (reversal_in ws))) None

unfoldable pub master_in : List ℕ → Option MasterState
master_in ws =
    cond (eqb (get_or ws 0 0) 2) (known_if ws (Waiting (outstanding (get_or ws 1 0) (get_or ws 2 0) (get_or ws 3 0) (get_or ws 4 0) (get_or ws 5 0))))
    (cond (eqb (get_or ws 0 0) 1 && no_message ws) (known_if ws (Idle (get_or ws 5 0)))
    (cond (eqb (get_or ws 0 0) 0 && no_message ws) (known_if ws (Closed (get_or ws 5 0))) None))

-- GMV_REPLY_ACK, _NAK, _EOT, _RINT as the station's, GMV_REPLY_DAMAGED
abbrev pub response_of : ℕ → ℕ → Option Response
response_of code n =
    cond (eqb code 1) (Some (Ack n))
    (cond (eqb code 2) (Some Nak) (cond (eqb code 3) (Some Eot) (cond (eqb code 4) (Some Damaged) (cond (eqb code 5) (Some Rint) None))))

-- GMV_ETB, GMV_ETX
abbrev pub ending_word : Ending → ℕ
ending_word Etb = 0x17
ending_word Etx = 0x03

-- GMV_MASTER_REPORT_SEND, _NUMBER, _ENDING, _OFFSET, _LENGTH
abbrev pub transmission_words : Transmission → List ℕ
transmission_words Nothing = 0 ∷ 0 ∷ 0 ∷ 0 ∷ 0 ∷ []
transmission_words (SendBlock b) = 1 ∷ b.number ∷ ending_word b.ending ∷ b.offset ∷ b.length ∷ []
transmission_words SendEot = 2 ∷ 0 ∷ 0 ∷ 0 ∷ 0 ∷ []
transmission_words SendEnq = 3 ∷ 0 ∷ 0 ∷ 0 ∷ 0 ∷ []

-- GMV_MASTER_REPORT_ACKNOWLEDGED, _DONE
abbrev pub progress_words : Progress → List ℕ
progress_words NoProgress = 0 ∷ 0 ∷ []
progress_words Acknowledged = 1 ∷ 0 ∷ []
progress_words Done = 1 ∷ 1 ∷ []

-- GMV_MASTER_REPORT_END
abbrev pub end_word : End → ℕ
end_word NotEnded = 0
end_word Failed = 1
end_word BySlave = 2
end_word ByDriver = 3
end_word Reversed = 4

-- GMV_MASTER_REPORT_COUNT, _RESENDS: the acknowledged blocks of the opening, and the resends of the block out
abbrev pub count_words : Master → List ℕ
count_words (Closed count) = count ∷ 0 ∷ []
count_words (Idle count) = count ∷ 0 ∷ []
count_words (Waiting o) = o.count ∷ o.resends ∷ []

abbrev pub master_report : MasterActed → List ℕ
master_report a = transmission_words a.send ++ (progress_words a.progress ++ end_word a.end ∷ count_words a.master)

-- ---- what a driver reads in a report
abbrev pub ending_in : ℕ → Ending
ending_in n = cond (eqb n 0x03) Etx Etb

abbrev pub transmission_in : List ℕ → Transmission
transmission_in ws =
    cond (eqb (get_or ws 0 0) 1) (SendBlock (record { number = get_or ws 1 0; ending = ending_in (get_or ws 2 0); offset = get_or ws 3 0; length = get_or ws 4 0 }))
    (cond (eqb (get_or ws 0 0) 2) SendEot (cond (eqb (get_or ws 0 0) 3) SendEnq Nothing))

abbrev pub progress_in : List ℕ → Progress
progress_in ws = cond (eqb (get_or ws 6 0) 1) Done (cond (eqb (get_or ws 5 0) 1) Acknowledged NoProgress)

abbrev pub end_in : List ℕ → End
end_in ws =
    cond (eqb (get_or ws 7 0) 1) Failed
    (cond (eqb (get_or ws 7 0) 2) BySlave (cond (eqb (get_or ws 7 0) 3) ByDriver (cond (eqb (get_or ws 7 0) 4) Reversed NotEnded)))

abbrev pub resends_in : List ℕ → ℕ
resends_in ws = get_or ws 9 0

-- ---- what an act answered, in the state and the report; a refusal changes neither
abbrev pub master_written : List ℕ → List ℕ → MasterAnswer → Called
master_written st p a =
    need (eqb a.acted.refusal 0) (called a.acted.refusal st [] p)
    (called 0 (over st (state_words a.acted.master a.reversal)) [] (over p (master_report a.acted)))

-- GMV_MASTER_WORDS, GMV_MASTER_REPORT_WORDS
abbrev pub enough_master_words : ℕ → ℕ → Bool
enough_master_words states reports = leb 10 states && leb 10 reports

-- an act on the master that the words encode: 2, then 11 for words that encode none, then the act
abbrev pub master_act_on : Option MasterState → (MasterState → MasterAnswer) → List ℕ → List ℕ → Called
master_act_on None f st p = called STATE st [] p
master_act_on (Some s) f st p = master_written st p (f s)

abbrev pub master_call : (MasterState → MasterAnswer) → List ℕ → List ℕ → Called
master_call f st p = need (enough_master_words (length st) (length p)) (called TOO_SHORT st [] p) (master_act_on (master_in st) f st p)

-- gmv_master_fresh: closed, nothing acknowledged
unfoldable pub fresh_master_call : List ℕ → Called
fresh_master_call st = need (leb 10 (length st)) (called TOO_SHORT st [] []) (called 0 (over st (state_words (Closed 0) fresh_reversal)) [] [])

-- gmv_master_open: whatever the words are
unfoldable pub open_master_call : List ℕ → List ℕ → Called
open_master_call st p = need (enough_master_words (length st) (length p)) (called TOO_SHORT st [] p) (master_written st p opened_master_answer)

-- gmv_master_start: 1 for a block size of 0, then as every act
unfoldable pub start_call : ℕ → ℕ → List ℕ → List ℕ → Called
start_call n size st p = need (leb 1 size) (called SETTING st [] p) (master_call (start_answer n size) st p)

-- gmv_master_reply: 1 for a code that is no reply, then as every act
abbrev pub replied_with : Option Response → List ℕ → List ℕ → Called
replied_with None st p = called SETTING st [] p
replied_with (Some r) st p = master_call (reply_answer r) st p

unfoldable pub master_reply_call : ℕ → ℕ → List ℕ → List ℕ → Called
master_reply_call code n st p = replied_with (response_of code n) st p

-- gmv_master_timer
unfoldable pub timer_a_call : List ℕ → List ℕ → Called
timer_a_call st p = master_call timer_answer st p

-- gmv_master_close
unfoldable pub close_call : List ℕ → List ℕ → Called
close_call st p = master_call close_answer st p

-- gmv_master_enquire
unfoldable pub enquire_call : List ℕ → List ℕ → Called
enquire_call st p = master_call enquire_answer st p

-- gmv_master_may_receive
unfoldable pub may_receive_call : List ℕ → List ℕ → Called
may_receive_call st p = master_call may_receive_of st p
