-- Document 01, 'Sender': the acts as values, and the state after a run of acts and crashes.
use Rattle.std.specs.Prelude.{List, [], ◌∷◌, Bool, true, false, cond, ◌&&◌, ℕ, leb, eqb, Option, Some, None, Result, Ok, Err}
use Prim.Native.Char.{code}
use Rattle.refusal.specs.declared.Accepted.{Accepted}
use Rattle.refusal.specs.declared.Refusal.{Refusal}
use Rattle.header.specs.Header.{acknowledgment_of}
use Rattle.header.specs.declared.Acknowledgment.{Acknowledgment}
use Rattle.sender.specs.Sender.{closed, open_of, ended_of, reset_of, timer_of, block_read_of, submit_of}
use Rattle.sender.specs.declared.Persisted.{Persisted}
use Rattle.sender.specs.declared.Waiting.{Waiting}
use Rattle.sender.specs.declared.Sender.{Sender}
use Rattle.sender.specs.declared.Acted.{Acted}

-- an act, with the resends, the limit and what was read or submitted
pub data Act : Type 0 where
  opened ended reset : Act
  timer : ℕ → Act
  block : ℕ → Result Accepted Refusal → List ℕ → Act
  submit : ℕ → List ℕ → Act

abbrev pub act_of : Act → Sender → Acted
act_of opened s = open_of s
act_of ended s = ended_of s
act_of reset s = reset_of s
act_of (timer r) s = timer_of r s
act_of (block r v d) s = block_read_of r s v d
act_of (submit limit d) s = submit_of limit s d

-- "A timer event, an N block or a refused block": with these a resend falls due. Data without a readable answer is refused too (9).
abbrev pub unreadable : Option Acknowledgment → Bool
unreadable None = true
unreadable (Some a) = false

abbrev pub due_block : Result Accepted Refusal → List ℕ → Bool
due_block (Ok v) d = cond (eqb v.block_type (code "N")) true (unreadable (acknowledgment_of d))
due_block (Err v) d = true

abbrev pub falls_due : Act → Bool
falls_due opened = false
falls_due ended = false
falls_due reset = false
falls_due (timer r) = true
falls_due (block r v d) = due_block v d
falls_due (submit limit d) = false

-- the resends that an act is given; an act that resends nothing is given none
abbrev pub resends_of : Act → ℕ
resends_of opened = 0
resends_of ended = 0
resends_of reset = 0
resends_of (timer r) = r
resends_of (block r v d) = r
resends_of (submit limit d) = 0

abbrev pub sender_at : Persisted → Waiting → ℕ → Sender
sender_at p w n = record { persisted = p; waiting = w; sends = n }

-- a crash keeps what is persisted. An act whose change was not yet persisted is lost with it: then the crash stands in its place
abbrev pub after_crash : Persisted → Sender
after_crash p = closed p

pub data ActOrCrash : Type 0 where
  act : Act → ActOrCrash
  crash : ActOrCrash

abbrev pub step_of : ActOrCrash → Sender → Sender
step_of (act a) s = (act_of a s).sender
step_of crash s = after_crash s.persisted

-- the state after a run, the newest step first
abbrev pub after_of : Sender → List ActOrCrash → Sender
after_of s [] = s
after_of s (x ∷ xs) = step_of x (after_of s xs)

-- the acts of a run are given r resends at most
abbrev pub within : ℕ → List ActOrCrash → Bool
within r [] = true
within r (act a ∷ xs) = leb (resends_of a) r && within r xs
within r (crash ∷ xs) = within r xs
