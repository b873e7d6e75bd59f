-- 02, §3 and §14, over a history of answers: how often a block is sent, and when an opening fails.
use Rattle.std.specs.Prelude.{◌≡◌, List, [], ◌∷◌, Bool, true, false, cond, ◌&&◌, ◌||◌, ℕ, suc, ◌≤◌, leb, eqb}
use Rattle.station.specs.Station.{precedes}
use Rattle.station.specs.declared.ReplyKind.{ReplyKind}
use Rattle.station.specs.declared.ReplyKind.TheVariants.{NoneYet, Ack as AckKind, Nak as NakKind, Rint as RintKind}
use Rattle.master.specs.Master.{block_number}
use Rattle.master.specs.Reversal.{refuses_rint, is_none_yet, master_state, opened_master_answer, start_answer, reply_answer, timer_answer, close_answer, enquire_answer, may_receive_of}
use Rattle.master.specs.declared.Outstanding.{Outstanding}
use Rattle.master.specs.declared.Master.{Master}
use Rattle.master.specs.declared.Master.TheVariants.{Closed, Idle, Waiting}
use Rattle.master.specs.declared.Response.{Response}
use Rattle.master.specs.declared.Response.TheVariants.{Ack, Nak, Eot, Damaged, Rint}
use Rattle.master.specs.declared.Transmission.{Transmission}
use Rattle.master.specs.declared.Transmission.TheVariants.{Nothing, SendBlock, SendEot, SendEnq}
use Rattle.master.specs.declared.End.{End}
use Rattle.master.specs.declared.End.TheVariants.{NotEnded, Failed, BySlave, ByDriver, Reversed}
use Rattle.master.specs.declared.Reversal.{Reversal}
use Rattle.master.specs.declared.MasterState.{MasterState}
use Rattle.master.specs.declared.MasterActed.{MasterActed}
use Rattle.master.specs.declared.MasterAnswer.{MasterAnswer}

-- what the driver wishes and reports after the opening
pub data MasterAct : Type 0 where
  start : ℕ → ℕ → MasterAct
  reply : Response → MasterAct
  timer close enquire may_receive : MasterAct

abbrev pub master_act_of : MasterAct → MasterState → MasterAnswer
master_act_of (start n size) s = start_answer n size s
master_act_of (reply r) s = reply_answer r s
master_act_of timer s = timer_answer s
master_act_of close s = close_answer s
master_act_of enquire s = enquire_answer s
master_act_of may_receive s = may_receive_of s

-- the master after a run, and the answers; the newest first
abbrev pub state_then : MasterAnswer → MasterState
state_then a = master_state a.acted.master a.reversal

unfoldable pub master_after : List MasterAct → MasterState
master_after [] = state_then opened_master_answer
master_after (x ∷ xs) = state_then (master_act_of x (master_after xs))

unfoldable pub answers_of : List MasterAct → List MasterActed
answers_of [] = opened_master_answer.acted ∷ []
answers_of (x ∷ xs) = (master_act_of x (master_after xs)).acted ∷ answers_of xs

-- ---- the sends of one block: those among the newest answers, as far back as it was out. The count tells the blocks apart.
abbrev pub is_out : ℕ → Master → Bool
is_out count (Closed c) = false
is_out count (Idle c) = false
is_out count (Waiting o) = eqb o.count count

abbrev pub plus_send : Transmission → ℕ → ℕ
plus_send Nothing n = n
plus_send (SendBlock b) n = suc n
plus_send SendEot n = n
plus_send SendEnq n = n

unfoldable pub sends_of : ℕ → List MasterActed → ℕ
sends_of count [] = 0
sends_of count (a ∷ h) = cond (is_out count a.master) (plus_send a.send (sends_of count h)) 0

-- one send and its resends, at most six; the resends told are those of the history
pub record SendsOfOut (o : Outstanding) (h : List MasterActed) : Type 0 where
  pub sends : sends_of o.count h ≡ suc o.resends
  pub most : sends_of o.count h ≤ 6

-- ---- failure: a cause for a resend, with five resends made
abbrev pub is_cause : MasterAct → Reversal → ℕ → Bool
is_cause (start n size) v number = false
is_cause (reply (Ack n)) v number = precedes n number
is_cause (reply Nak) v number = true
is_cause (reply Eot) v number = false
is_cause (reply Damaged) v number = false
is_cause (reply Rint) v number = refuses_rint v
is_cause timer v number = true
is_cause close v number = false
is_cause enquire v number = false
is_cause may_receive v number = false

abbrev pub fails_by : MasterAct → Master → Reversal → Bool
fails_by x (Closed count) v = false
fails_by x (Idle count) v = false
fails_by x (Waiting o) v = is_cause x v (block_number o.count) && leb 5 o.resends

abbrev pub is_failed : End → Bool
is_failed NotEnded = false
is_failed Failed = true
is_failed BySlave = false
is_failed ByDriver = false
is_failed Reversed = false

-- ---- what was heard since the opening: "the last undamaged reply .., even with no block out". An EOT ends the opening, and is none here.
abbrev pub heard_of : MasterAct → ReplyKind
heard_of (start n size) = NoneYet
heard_of (reply (Ack n)) = AckKind
heard_of (reply Nak) = NakKind
heard_of (reply Eot) = NoneYet
heard_of (reply Damaged) = NoneYet
heard_of (reply Rint) = RintKind
heard_of timer = NoneYet
heard_of close = NoneYet
heard_of enquire = NoneYet
heard_of may_receive = NoneYet

unfoldable pub last_heard : List MasterAct → ReplyKind
last_heard [] = NoneYet
last_heard (x ∷ xs) = cond (is_none_yet (heard_of x)) (last_heard xs) (heard_of x)

abbrev pub is_nak_kind : ReplyKind → Bool
is_nak_kind NoneYet = false
is_nak_kind AckKind = false
is_nak_kind NakKind = true
is_nak_kind RintKind = false

abbrev pub is_rint_kind : ReplyKind → Bool
is_rint_kind NoneYet = false
is_rint_kind AckKind = false
is_rint_kind NakKind = false
is_rint_kind RintKind = true

unfoldable pub rint_heard : List MasterAct → Bool
rint_heard [] = false
rint_heard (x ∷ xs) = is_rint_kind (heard_of x) || rint_heard xs

-- "the master last sent ENQ": of the answers that name something to send, the newest
abbrev pub is_nothing : Transmission → Bool
is_nothing Nothing = true
is_nothing (SendBlock b) = false
is_nothing SendEot = false
is_nothing SendEnq = false

abbrev pub is_enq : Transmission → Bool
is_enq Nothing = false
is_enq (SendBlock b) = false
is_enq SendEot = false
is_enq SendEnq = true

unfoldable pub enq_sent_last : List MasterActed → Bool
enq_sent_last [] = false
enq_sent_last (a ∷ h) = cond (is_nothing a.send) (enq_sent_last h) (is_enq a.send)

-- "A RINT is no acceptance if the last undamaged reply before it .. was a RINT, or was a NAK and the master last sent ENQ"
abbrev pub rint_refused : List MasterAct → Bool
rint_refused xs = is_rint_kind (last_heard xs) || (is_nak_kind (last_heard xs) && enq_sent_last (answers_of xs))

-- the driver said "it may receive", after a RINT and with the block out, as far back as it was out
abbrev pub is_leave : MasterAct → Bool
is_leave (start n size) = false
is_leave (reply r) = false
is_leave timer = false
is_leave close = false
is_leave enquire = false
is_leave may_receive = true

unfoldable pub leave_given : ℕ → List MasterAct → Bool
leave_given count [] = false
leave_given count (x ∷ xs) =
    is_out count (master_after (x ∷ xs)).master && ((is_leave x && rint_heard xs) || leave_given count xs)
