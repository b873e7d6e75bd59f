-- Document 01, 'Receiver of sequence numbers', and 02, §1: the receiver's acts as values, and its state after a run of acts and crashes.
use Rattle.std.specs.Prelude.{List, [], ◌∷◌, Bool, true, false, ℕ, Option, Some, None}
use Rattle.settings.specs.declared.Settings.{Settings}
use Rattle.receiver.specs.Receiver.{closed, decide_of, answer_of, nak_of}
use Rattle.receiver.specs.declared.Application.{Application}
use Rattle.receiver.specs.declared.Decision.{Decision}
use Rattle.receiver.specs.declared.Receiver.{Receiver}

-- an act, with all that it is given
pub data ReceiverAct : Type 0 where
  decides : Application → ℕ → List ℕ → ReceiverAct
  reports : Settings → Bool → ℕ → List ℕ → ReceiverAct
  naks : Settings → ℕ → ℕ → List ℕ → ReceiverAct

-- the number that refuses it, or 0; and the state then
abbrev pub receiver_refusal_of : ReceiverAct → Receiver → ℕ
receiver_refusal_of (decides a t d) s = (decide_of a s t d).refusal
receiver_refusal_of (reports g stored start b) s = (answer_of g stored s start b).answer.refusal
receiver_refusal_of (naks g n start b) s = (nak_of g n s start b).answer.refusal

abbrev pub receiver_act_of : ReceiverAct → Receiver → Receiver
receiver_act_of (decides a t d) s = (decide_of a s t d).receiver
receiver_act_of (reports g stored start b) s = (answer_of g stored s start b).answer.receiver
receiver_act_of (naks g n start b) s = (nak_of g n s start b).answer.receiver

-- "A cut drops an open decision; what was stored stands": the open decision was stored, or was not
abbrev pub stored_in : Bool → Option ℕ → Option Decision → Option ℕ
stored_in stored e None = e
stored_in true e (Some o) = o.row.persisted.expected
stored_in false e (Some o) = e

pub data ReceiverStep : Type 0 where
  acts : ReceiverAct → ReceiverStep
  crashes : Bool → ReceiverStep

abbrev pub receiver_step_of : ReceiverStep → Receiver → Receiver
receiver_step_of (acts a) s = receiver_act_of a s
receiver_step_of (crashes stored) s = closed (stored_in stored s.expected s.decision)

-- the state after a run from a new receiver, the newest step first
unfoldable pub receiver_after : List ReceiverStep → Receiver
receiver_after [] = closed None
receiver_after (x ∷ xs) = receiver_step_of x (receiver_after xs)
