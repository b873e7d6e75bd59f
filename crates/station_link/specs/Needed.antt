-- 02, §3 and §14: what the premises exclude, and readings of §14's rules that are not taken. Each is needed: with one of these in a run the statement is false.
use Rattle.std.specs.Prelude.{List, [], ◌∷◌, ◌++◌, Bool, true, false, ◌&&◌, ℕ, zero, suc}
use Rattle.station.specs.declared.Reply.{Reply}
use Rattle.station.specs.declared.Reply.TheVariants.{NoReply, Ack as AckReply, Nak as NakReply, Eot as EotReply, Rint as RintReply}
use Rattle.station.specs.declared.ReplyKind.{ReplyKind}
use Rattle.station.specs.declared.ReplyKind.TheVariants.{NoneYet, Ack as AckKind, Nak as NakKind, Rint as RintKind}
use Rattle.station.specs.History.{Unit}
use Rattle.station.specs.Retransmission.{replies_to}
use Rattle.master.specs.Master.{master_reply_of}
use Rattle.master.specs.Reversal.{noted, answer_of, reversed_of, opened_master_answer}
use Rattle.master.specs.declared.Master.{Master}
use Rattle.master.specs.declared.Master.TheVariants.{Closed, Idle, Waiting}
use Rattle.master.specs.declared.Reversal.{Reversal}
use Rattle.master.specs.declared.Response.{Response}
use Rattle.master.specs.declared.Response.TheVariants.{Ack, Nak}
use Rattle.station_link.specs.System.{lost_at, replaced_at, Sending, System, system, beginning, master_did, responses_of, opened_receiving, LinkAct, link_act}

-- a line that does not keep order: the unit at this position overtakes those before it
unfoldable pub unit_at : ℕ → List Unit → List Unit
unit_at n [] = []
unit_at zero (u ∷ us) = u ∷ []
unit_at (suc n) (u ∷ us) = unit_at n us

-- numbers that begin anew with each message
abbrev pub restarted : Master → Master
restarted (Closed count) = Closed count
restarted (Idle count) = Idle 0
restarted (Waiting o) = Waiting o

abbrev pub with_master : Master → Reversal → Sending → Sending
with_master m v s = record { master = m; reversal = v; started = s.started; sent = s.sent; done = s.done; ended = s.ended }

-- the newest reply that is no NAK (DECISIONS.md, Q-1)
unfoldable pub newest_no_nak : List Reply → Reply
newest_no_nak [] = NakReply
newest_no_nak (NoReply ∷ ws) = newest_no_nak ws
newest_no_nak (AckReply n ∷ ws) = AckReply n
newest_no_nak (NakReply ∷ ws) = newest_no_nak ws
newest_no_nak (EotReply ∷ ws) = EotReply
newest_no_nak (RintReply ∷ ws) = RintReply

-- "and the master last sent ENQ" read with "was a RINT" as well (Q-3)
abbrev pub is_rint_or_nak : ReplyKind → Bool
is_rint_or_nak NoneYet = false
is_rint_or_nak AckKind = false
is_rint_or_nak NakKind = true
is_rint_or_nak RintKind = true

abbrev pub refuses_after_enq : Reversal → Bool
refuses_after_enq v = is_rint_or_nak v.last && v.enquired

pub data Breach : Type 0 where
  overtakes : ℕ → Breach
  -- a second opening of the master, of which the slave's driver does not know
  master_reopens : Breach
  -- a second opening of the slave's station, after blocks were accepted: its driver takes an ENQ for a bid, and grants it
  slave_reopens : Breach
  numbers_restart : Breach
  -- a reply that turns into a NAK, also where a RINT was given (M-27)
  turns_into_nak : ℕ → Breach
  -- a bare ENQ arrives at a slave that gives no NAK again (Q-1), and a duplicate at one that answers it RINT (Q-2)
  enq_without_nak duplicate_rint : Breach
  -- a reply arrives at a master that refuses a RINT only after ENQ (Q-3), and a damaged one at a master that notes it (Q-4)
  rint_after_enq_only damaged_noted : Breach

module _ (b : List ℕ) where
  -- the oldest unit arrives, and the slave replies this
  abbrev pub answers : Reply → List Unit → System → System
  answers w [] y = y
  answers w (u ∷ us) y = system y.sending y.receiving us (y.backward ++ responses_of w)

  abbrev pub other_reply : List Response → System → System
  other_reply [] y = y
  other_reply (r ∷ rs) y =
      let v = y.sending.reversal in
      master_did (answer_of (noted r v) (reversed_of v (master_reply_of (refuses_after_enq v) r y.sending.master))) y.sending.started
      (system y.sending y.receiving y.forward rs)

  abbrev pub forgets : Reversal → Reversal
  forgets v = record { last = NoneYet; interrupted = v.interrupted; enquired = v.enquired; may_receive = v.may_receive }

  abbrev pub breached : Breach → System → System
  breached (overtakes n) y = system y.sending y.receiving (unit_at n y.forward ++ lost_at n y.forward) y.backward
  breached master_reopens y =
      system (with_master opened_master_answer.acted.master opened_master_answer.reversal y.sending) y.receiving y.forward y.backward
  breached slave_reopens y = system y.sending (opened_receiving [] y.receiving) y.forward (y.backward ++ Ack 0 ∷ [])
  breached numbers_restart y =
      system (with_master (restarted y.sending.master) y.sending.reversal y.sending) y.receiving y.forward y.backward
  breached (turns_into_nak n) y = system y.sending y.receiving y.forward (replaced_at n Nak y.backward)
  breached enq_without_nak y = answers (newest_no_nak (replies_to b y.receiving.received)) y.forward y
  breached duplicate_rint y = answers RintReply y.forward y
  breached rint_after_enq_only y = other_reply y.backward y
  breached damaged_noted y =
      system (with_master y.sending.master (forgets y.sending.reversal) y.sending) y.receiving y.forward (lost_at 0 y.backward)

pub data Step : Type 0 where
  act : LinkAct → Step
  breach : Breach → Step

-- a run in which such things happen too, the oldest step first
unfoldable pub step_run : List ℕ → System → List Step → System
step_run b y [] = y
step_run b y (act x ∷ xs) = step_run b (link_act b x y) xs
step_run b y (breach x ∷ xs) = step_run b (breached b x y) xs

-- the lines are not empty at the start: an ACK of an earlier opening is on its way
abbrev pub old_ack : ℕ → System
old_ack n = system beginning.sending beginning.receiving [] (Ack n ∷ [])
