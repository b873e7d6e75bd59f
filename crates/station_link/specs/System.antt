-- 02, §3 and §14: "one opening of each station, on a line empty at the start that keeps order but loses or detectably damages units". Both ends are the definitions that the contracts cite.
use Rattle.std.specs.Prelude.{List, [], ◌∷◌, ◌++◌, Bool, true, false, cond, not, ◌&&◌, ◌||◌, ℕ, zero, suc, length, take, drop, eqb}
use Rattle.station.specs.declared.Reply.{Reply}
use Rattle.station.specs.declared.Reply.TheVariants.{NoReply, Ack as AckReply, Nak as NakReply, Eot as EotReply, Rint as RintReply}
use Rattle.station.specs.History.{Unit, good, bad, enquiry, eot, bare_enq, asks, Block, block, past_of, unit_outcome, handed_over, station_run}
use Rattle.master.specs.Reversal.{master_state, opened_master_answer, start_answer, reply_answer, timer_answer, close_answer, enquire_answer, may_receive_of}
use Rattle.master.specs.declared.Reversal.{Reversal}
use Rattle.master.specs.declared.MasterState.{MasterState}
use Rattle.master.specs.declared.MasterAnswer.{MasterAnswer}
use Rattle.master.specs.declared.Master.{Master}
use Rattle.master.specs.declared.Master.TheVariants.{Closed, Idle, Waiting}
use Rattle.master.specs.declared.Response.{Response}
use Rattle.master.specs.declared.Response.TheVariants.{Ack, Nak, Eot, Damaged, Rint}
use Rattle.master.specs.declared.BlockPart.{BlockPart}
use Rattle.master.specs.declared.Transmission.{Transmission}
use Rattle.master.specs.declared.Transmission.TheVariants.{Nothing, SendBlock, SendEot, SendEnq}
use Rattle.master.specs.declared.Progress.{Progress}
use Rattle.master.specs.declared.Progress.TheVariants.{NoProgress, Acknowledged, Done}
use Rattle.master.specs.declared.End.{End}
use Rattle.master.specs.declared.End.TheVariants.{NotEnded, Failed, BySlave, ByDriver, Reversed}
use Rattle.master.specs.declared.MasterActed.{MasterActed}

-- ---- a line in one direction: what is on the way, the oldest first. At any position one is lost, another stands in its stead, another comes in
-- before it, or it comes twice
unfoldable pub lost_at : {A : Type 0} → ℕ → List A → List A
lost_at n [] = []
lost_at zero (x ∷ xs) = xs
lost_at (suc n) (x ∷ xs) = x ∷ lost_at n xs

unfoldable pub replaced_at : {A : Type 0} → ℕ → A → List A → List A
replaced_at n w [] = []
replaced_at zero w (x ∷ xs) = w ∷ xs
replaced_at (suc n) w (x ∷ xs) = x ∷ replaced_at n w xs

unfoldable pub inserted_at : {A : Type 0} → ℕ → A → List A → List A
inserted_at n w [] = w ∷ []
inserted_at zero w (x ∷ xs) = w ∷ x ∷ xs
inserted_at (suc n) w (x ∷ xs) = x ∷ inserted_at n w xs

unfoldable pub repeated_at : {A : Type 0} → ℕ → List A → List A
repeated_at n [] = []
repeated_at zero (x ∷ xs) = x ∷ x ∷ xs
repeated_at (suc n) (x ∷ xs) = x ∷ repeated_at n xs

-- what a unit is that came damaged, or of noise: a bad block, one ended by ENQ, or a bare ENQ
pub data Noise : Type 0 where
  as_bad as_enquiry as_bare_enq : Noise

abbrev pub damaged_unit : Noise → Unit
damaged_unit as_bad = bad
damaged_unit as_enquiry = enquiry
damaged_unit as_bare_enq = bare_enq

-- a reply that the master's driver finds damaged; as long as no RINT was given in this opening, a NAK in its place does no harm either
abbrev pub damaged_reply : Bool → Bool → Response
damaged_reply nak gave_rint = cond (nak && not gave_rint) Nak Damaged

-- a message that was started, and its block size
pub record Started : Type 0 where
  pub message : List ℕ
  pub size : ℕ

-- ---- the two ends. Lists of what was done have the newest first.
-- the master's: the messages that its driver started (the newest is the one that is being sent), the blocks as they were first sent,
-- how many messages were reported done, and how the opening was reported to end
pub record Sending : Type 0 where
  pub master : Master
  pub reversal : Reversal
  pub started : List Started
  pub sent : List Block
  pub done : ℕ
  pub ended : End

-- the slave's: whether its driver opened the station, what it reported to it and asked of it since then, the messages that it stored,
-- whether the station gave EOT, whether the driver sent one of its own, and whether the station gave a RINT
pub record Receiving : Type 0 where
  pub opened : Bool
  pub received : List Unit
  pub stored : List (List ℕ)
  pub station_eot : Bool
  pub driver_eot : Bool
  pub gave_rint : Bool

pub record System : Type 0 where
  pub sending : Sending
  pub receiving : Receiving
  pub forward : List Unit
  pub backward : List Response

abbrev pub system : Sending → Receiving → List Unit → List Response → System
system s r f w = record { sending = s; receiving = r; forward = f; backward = w }

-- the master opened, the slave's station not yet, nothing on the way
abbrev pub beginning : System
beginning =
    system (record { master = opened_master_answer.acted.master; reversal = opened_master_answer.reversal; started = []; sent = []; done = 0; ended = NotEnded })
    (record { opened = false; received = []; stored = []; station_eot = false; driver_eot = false; gave_rint = false }) [] []

-- ---- the master's end
abbrev pub message_out : List Started → List ℕ
message_out [] = []
message_out (s ∷ ss) = s.message

-- the driver takes the part that the answer names
abbrev pub text_of : List ℕ → BlockPart → List ℕ
text_of m p = take p.length (drop p.offset m)

abbrev pub units_of : List ℕ → Transmission → List Unit
units_of m Nothing = []
units_of m (SendBlock p) = good p.number p.ending (text_of m p) ∷ []
units_of m SendEot = eot ∷ []
units_of m SendEnq = bare_enq ∷ []

-- a block is first sent by an answer that tells no resends of it
abbrev pub resends_told : Master → ℕ
resends_told (Closed count) = 0
resends_told (Idle count) = 0
resends_told (Waiting o) = o.resends

abbrev pub first_sent : List ℕ → Transmission → ℕ → List Block
first_sent m Nothing resends = []
first_sent m (SendBlock p) resends = cond (eqb resends 0) (block p.ending (text_of m p) ∷ []) []
first_sent m SendEot resends = []
first_sent m SendEnq resends = []

abbrev pub done_after : Progress → ℕ → ℕ
done_after NoProgress before = before
done_after Acknowledged before = before
done_after Done before = suc before

abbrev pub end_after : End → End → End
end_after NotEnded before = before
end_after Failed before = Failed
end_after BySlave before = BySlave
end_after ByDriver before = ByDriver
end_after Reversed before = Reversed

abbrev pub sending_after : MasterActed → Reversal → List Started → Sending → Sending
sending_after a v ms s =
    record {
      master = a.master;
      reversal = v;
      started = ms;
      sent = first_sent (message_out ms) a.send (resends_told a.master) ++ s.sent;
      done = done_after a.progress s.done;
      ended = end_after a.end s.ended;
    }

-- the master's driver acts, and puts on the line what the answer names
abbrev pub master_did : MasterAnswer → List Started → System → System
master_did a ms y =
    system (sending_after a.acted a.reversal ms y.sending) y.receiving (y.forward ++ units_of (message_out ms) a.acted.send) y.backward

-- a message whose start is refused was not started
abbrev pub start_done : Started → MasterAnswer → System → System
start_done m a y = cond (eqb a.acted.refusal 0) (master_did a (m ∷ y.sending.started) y) y

abbrev pub state_in : System → MasterState
state_in y = master_state y.sending.master y.sending.reversal

-- ---- the slave's end
abbrev pub responses_of : Reply → List Response
responses_of NoReply = []
responses_of (AckReply n) = Ack n ∷ []
responses_of NakReply = Nak ∷ []
responses_of EotReply = Eot ∷ []
responses_of RintReply = Rint ∷ []

abbrev pub is_eot : Reply → Bool
is_eot NoReply = false
is_eot (AckReply n) = false
is_eot NakReply = false
is_eot EotReply = true
is_eot RintReply = false

abbrev pub is_rint : Reply → Bool
is_rint NoReply = false
is_rint (AckReply n) = false
is_rint NakReply = false
is_rint EotReply = false
is_rint RintReply = true

-- where its driver could not store: EOT in place of a reply
abbrev pub refused_reply : Reply → List Response
refused_reply NoReply = []
refused_reply (AckReply n) = Eot ∷ []
refused_reply NakReply = Eot ∷ []
refused_reply EotReply = Eot ∷ []
refused_reply RintReply = Eot ∷ []

abbrev pub is_replaced : Reply → Bool
is_replaced NoReply = false
is_replaced (AckReply n) = true
is_replaced NakReply = true
is_replaced EotReply = false
is_replaced RintReply = true

-- the units reported, what is stored then, whether EOT is the station's or the driver's, and whether a RINT is given
abbrev pub receiving_after : List Unit → List (List ℕ) → Bool → Bool → Bool → Receiving → Receiving
receiving_after us ms own drivers rint r =
    record {
      opened = r.opened;
      received = us ++ r.received;
      stored = ms;
      station_eot = own || r.station_eot;
      driver_eot = drivers || r.driver_eot;
      gave_rint = rint || r.gave_rint;
    }

-- the station opened: these are the units since then
abbrev pub opened_receiving : List Unit → Receiving → Receiving
opened_receiving us r =
    record { opened = true; received = us; stored = r.stored; station_eot = r.station_eot; driver_eot = r.driver_eot; gave_rint = r.gave_rint }

-- ---- what may happen, in any order and at any moment
pub data LinkAct : Type 0 where
  -- the master's driver: a message with its block size, Timer A however early, closing, an EOT of its own; an enquiry however early, leave to receive
  starts : List ℕ → ℕ → LinkAct
  timer_runs closes master_eot : LinkAct
  enquires may_receive : LinkAct
  -- the slave's driver opens its station, the first time that it wishes to. While nothing is accepted, an ENQ is a bid made again: ACK 0 is
  -- given, and the station opened anew, also after Timer D, or not.
  slave_opens : LinkAct
  grants : Bool → LinkAct
  -- it asks for a RINT
  asks_rint : LinkAct
  -- it ends the station, with or without an EOT of its own (Timer D)
  slave_ends : Bool → LinkAct
  -- the unit that stands first arrives. The slave's driver stores a complete message and sends its station's reply;
  -- or it could not store, sends EOT in its place, and ends the station
  arrives arrives_unstored : LinkAct
  reply_arrives : LinkAct
  -- loss, damage, noise and repetition at any position
  loses loses_reply repeats repeats_reply : ℕ → LinkAct
  damages disturbs : ℕ → Noise → LinkAct
  damages_reply disturbs_reply : ℕ → Bool → LinkAct

-- a buffer of these bytes is lent to the slave's station
module _ (b : List ℕ) where
  abbrev pub station_reply : Receiving → Unit → Reply
  station_reply r u = (unit_outcome (station_run b r.received) u).answer.acted.reply

  -- the messages stored, with what the unit completes
  abbrev pub stored_after : Receiving → Unit → List (List ℕ)
  stored_after r u =
      handed_over (unit_outcome (station_run b r.received) u).answer.acted.message (unit_outcome (station_run b r.received) u).buffer r.stored

  -- a station that was not opened drops what is reported without reply
  abbrev pub arrived : List Unit → System → System
  arrived [] y = y
  arrived (u ∷ us) y =
      let r = y.receiving in
      let w = station_reply r u in
      cond r.opened (system y.sending (receiving_after (u ∷ []) (stored_after r u) (is_eot w) false (is_rint w) r) us (y.backward ++ responses_of w))
      (system y.sending r us y.backward)

  abbrev pub arrived_unstored : List Unit → System → System
  arrived_unstored [] y = y
  arrived_unstored (u ∷ us) y =
      let r = y.receiving in
      let w = station_reply r u in
      cond r.opened (system y.sending (receiving_after (eot ∷ u ∷ []) r.stored (is_eot w) (is_replaced w) false r) us (y.backward ++ refused_reply w))
      (system y.sending r us y.backward)

  -- nothing is accepted, and the station gave no EOT
  abbrev pub may_grant : Receiving → Bool
  may_grant r = not r.station_eot && eqb (length (past_of (length b) r.received).blocks) 0

  abbrev pub granted : Bool → System → System
  granted anew y =
      cond (may_grant y.receiving)
      (system y.sending (opened_receiving (cond anew [] y.receiving.received) y.receiving) y.forward (y.backward ++ Ack 0 ∷ [])) y

  -- what is refused leaves the station equal
  abbrev pub asked_rint : System → System
  asked_rint y =
      cond y.receiving.opened
      (system y.sending (receiving_after (asks ∷ []) y.receiving.stored false false false y.receiving) y.forward y.backward) y

  abbrev pub reply_arrived : List Response → System → System
  reply_arrived [] y = y
  reply_arrived (r ∷ rs) y =
      master_did (reply_answer r (state_in y)) y.sending.started (system y.sending y.receiving y.forward rs)

  abbrev pub slave_ended : Bool → System → System
  slave_ended sends y =
      cond y.receiving.opened
      (system y.sending (receiving_after (eot ∷ []) y.receiving.stored false sends false y.receiving) y.forward (y.backward ++ cond sends (Eot ∷ []) [])) y

  abbrev pub with_forward : System → List Unit → System
  with_forward y us = system y.sending y.receiving us y.backward

  abbrev pub with_backward : System → List Response → System
  with_backward y rs = system y.sending y.receiving y.forward rs

  unfoldable pub link_act : LinkAct → System → System
  link_act (starts m size) y = start_done (record { message = m; size = size }) (start_answer (length m) size (state_in y)) y
  link_act timer_runs y = master_did (timer_answer (state_in y)) y.sending.started y
  link_act closes y = master_did (close_answer (state_in y)) y.sending.started y
  link_act master_eot y = with_forward y (y.forward ++ eot ∷ [])
  link_act enquires y = master_did (enquire_answer (state_in y)) y.sending.started y
  link_act may_receive y = master_did (may_receive_of (state_in y)) y.sending.started y
  link_act slave_opens y = system y.sending (opened_receiving y.receiving.received y.receiving) y.forward y.backward
  link_act (grants anew) y = granted anew y
  link_act asks_rint y = asked_rint y
  link_act (slave_ends sends) y = slave_ended sends y
  link_act arrives y = arrived y.forward y
  link_act arrives_unstored y = arrived_unstored y.forward y
  link_act reply_arrives y = reply_arrived y.backward y
  link_act (loses n) y = with_forward y (lost_at n y.forward)
  link_act (loses_reply n) y = with_backward y (lost_at n y.backward)
  link_act (repeats n) y = with_forward y (repeated_at n y.forward)
  link_act (repeats_reply n) y = with_backward y (repeated_at n y.backward)
  link_act (damages n v) y = with_forward y (replaced_at n (damaged_unit v) y.forward)
  link_act (damages_reply n v) y = with_backward y (replaced_at n (damaged_reply v y.receiving.gave_rint) y.backward)
  link_act (disturbs n v) y = with_forward y (inserted_at n (damaged_unit v) y.forward)
  link_act (disturbs_reply n v) y = with_backward y (inserted_at n (damaged_reply v y.receiving.gave_rint) y.backward)

  -- a run, the newest act first
  unfoldable pub link_run : System → List LinkAct → System
  link_run y [] = y
  link_run y (x ∷ xs) = link_act x (link_run y xs)
