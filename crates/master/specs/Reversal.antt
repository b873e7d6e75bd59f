-- 02, §14, at the master (000, C.3.4.4): RINT, the enquiry, and the driver's leave to receive. §3's acts, and what of them changes.
use Rattle.std.specs.Prelude.{Bool, true, false, cond, not, ◌&&◌, ◌||◌, ℕ, eqb}
use Rattle.lists.specs.Outcome.{need}
use Rattle.refusal.specs.Refusal.{STATE}
use Rattle.station.specs.declared.ReplyKind.{ReplyKind}
use Rattle.station.specs.declared.ReplyKind.TheVariants.{NoneYet, Ack as AckKind, Nak as NakKind, Rint as RintKind}
use Rattle.master.specs.Master.{valid_outstanding, master_acted, unchanged, refused_master, opened_master, start_of, master_reply_of, timer_a_of, close_of}
use Rattle.master.specs.declared.Master.{Master}
use Rattle.master.specs.declared.Master.TheVariants.{Closed, Idle, Waiting}
use Rattle.master.specs.declared.Response.{Response}
use Rattle.master.specs.declared.Response.TheVariants.{Ack, Nak, Eot, Damaged, Rint}
use Rattle.master.specs.declared.Transmission.{Transmission}
use Rattle.master.specs.declared.Transmission.TheVariants.{Nothing, SendBlock, SendEot, SendEnq}
use Rattle.master.specs.declared.Progress.{Progress}
use Rattle.master.specs.declared.Progress.TheVariants.{NoProgress, Acknowledged, Done}
use Rattle.master.specs.declared.End.TheVariants.{NotEnded, Reversed}
use Rattle.master.specs.declared.Reversal.{Reversal}
use Rattle.master.specs.declared.MasterState.{MasterState}
use Rattle.master.specs.declared.MasterActed.{MasterActed}
use Rattle.master.specs.declared.MasterAnswer.{MasterAnswer}

-- the last undamaged reply; whether a RINT came in this opening; whether "the master last sent ENQ"; whether the driver "says it may receive"
abbrev pub reversal : ReplyKind → Bool → Bool → Bool → Reversal
reversal k came enq may = record { last = k; interrupted = came; enquired = enq; may_receive = may }

-- after an opening, and closed
abbrev pub fresh_reversal : Reversal
fresh_reversal = reversal NoneYet false false false

abbrev pub master_state : Master → Reversal → MasterState
master_state m v = record { master = m; reversal = v }

-- ---- "A RINT is no acceptance if the last undamaged reply before it, even with no block out, was a RINT, or was a NAK and the master last sent ENQ"
abbrev pub refuses_by : ReplyKind → Bool → Bool
refuses_by NoneYet enq = false
refuses_by AckKind enq = false
refuses_by NakKind enq = enq
refuses_by RintKind enq = true

abbrev pub refuses_rint : Reversal → Bool
refuses_rint v = refuses_by v.last v.enquired

-- each undamaged reply is "the last" then, whatever becomes of it; a damaged one is not
abbrev pub noted : Response → Reversal → Reversal
noted (Ack n) v = reversal AckKind v.interrupted v.enquired v.may_receive
noted Nak v = reversal NakKind v.interrupted v.enquired v.may_receive
noted Eot v = v
noted Damaged v = v
noted Rint v = reversal RintKind true v.enquired v.may_receive

-- ---- what stays after an answer: closed nothing; with no block out, neither that ENQ was last nor the leave; and a block that goes out is what was sent last
abbrev pub enq_last : Transmission → Bool → Bool
enq_last Nothing before = before
enq_last (SendBlock b) before = false
enq_last SendEot before = false
enq_last SendEnq before = true

abbrev pub kept : Master → Transmission → Reversal → Reversal
kept (Closed count) t v = fresh_reversal
kept (Idle count) t v = reversal v.last v.interrupted false false
kept (Waiting o) t v = reversal v.last v.interrupted (enq_last t v.enquired) v.may_receive

unfoldable pub answer_of : Reversal → MasterActed → MasterAnswer
answer_of v a = record { acted = a; reversal = kept a.master a.send v }

-- ---- "when its driver says it may receive, ends with EOT when the block out is accepted"
abbrev pub is_acknowledged : Progress → Bool
is_acknowledged NoProgress = false
is_acknowledged Acknowledged = true
is_acknowledged Done = true

abbrev pub count_in : Master → ℕ
count_in (Closed count) = count
count_in (Idle count) = count
count_in (Waiting o) = o.count

unfoldable pub reversed_of : Reversal → MasterActed → MasterActed
reversed_of v a = cond (v.may_receive && is_acknowledged a.progress) (master_acted (Closed (count_in a.master)) SendEot a.progress Reversed) a

-- ---- §3's acts
abbrev pub opened_master_answer : MasterAnswer
opened_master_answer = answer_of fresh_reversal opened_master

abbrev pub start_answer : ℕ → ℕ → MasterState → MasterAnswer
start_answer n size s = answer_of s.reversal (start_of n size s.master)

abbrev pub reply_answer : Response → MasterState → MasterAnswer
reply_answer r s = answer_of (noted r s.reversal) (reversed_of s.reversal (master_reply_of (refuses_rint s.reversal) r s.master))

abbrev pub timer_answer : MasterState → MasterAnswer
timer_answer s = answer_of s.reversal (timer_a_of s.master)

abbrev pub close_answer : MasterState → MasterAnswer
close_answer s = answer_of s.reversal (close_of s.master)

-- ---- "the master's enquiry, at its driver's wish": "11 for .. ENQ with no block out"
unfoldable pub enquire_of : Master → MasterActed
enquire_of (Closed count) = refused_master STATE (Closed count)
enquire_of (Idle count) = refused_master STATE (Idle count)
enquire_of (Waiting o) = need (valid_outstanding o) (refused_master STATE (Waiting o)) (master_acted (Waiting o) SendEnq NoProgress NotEnded)

abbrev pub enquire_answer : MasterState → MasterAnswer
enquire_answer s = answer_of s.reversal (enquire_of s.master)

-- ---- the driver may receive: "at once if none is out"; "11 for .. leave to receive before a RINT"
abbrev pub allowed : Reversal → Reversal
allowed v = reversal v.last v.interrupted v.enquired true

abbrev pub may_receive_now : Master → Reversal → MasterAnswer
may_receive_now (Closed count) v = answer_of v (refused_master STATE (Closed count))
may_receive_now (Idle count) v = answer_of v (master_acted (Closed count) SendEot NoProgress Reversed)
may_receive_now (Waiting o) v = need (valid_outstanding o) (answer_of v (refused_master STATE (Waiting o))) (answer_of (allowed v) (unchanged (Waiting o)))

unfoldable pub may_receive_of : MasterState → MasterAnswer
may_receive_of s = need s.reversal.interrupted (answer_of s.reversal (refused_master STATE s.master)) (may_receive_now s.master s.reversal)

-- ---- which words are a state: before the first reply nothing is acknowledged, and no RINT came; a last RINT came; leave needs one
abbrev pub heard : ReplyKind → Bool → ℕ → ℕ → Bool
heard NoneYet came count offset = not came && (eqb count 0 && eqb offset 0)
heard AckKind came count offset = true
heard NakKind came count offset = true
heard RintKind came count offset = came

abbrev pub is_none_yet : ReplyKind → Bool
is_none_yet NoneYet = true
is_none_yet AckKind = false
is_none_yet NakKind = false
is_none_yet RintKind = false

abbrev pub reversal_fits : Master → Reversal → Bool
reversal_fits (Closed count) v = (is_none_yet v.last && not v.interrupted) && (not v.enquired && not v.may_receive)
reversal_fits (Idle count) v = heard v.last v.interrupted count 0 && (not v.enquired && not v.may_receive)
reversal_fits (Waiting o) v = heard v.last v.interrupted o.count o.offset && (v.interrupted || not v.may_receive)
