-- Document 01, 'Sender': "The sends made of the waiting message are a number in each answer, equal to the sends in the history since it began to wait on this circuit."
use Rattle.std.specs.Prelude.{List, [], ◌∷◌, Bool, true, false, cond, ℕ, ◌+◌, eqb, Option, Some, None}
use Rattle.numbers.specs.declared.SequenceNumber.{SequenceNumber}
use Rattle.numbers.specs.declared.SequenceNumber.TheVariants.{MinusOne, Number}
use Rattle.sender.specs.Sender.{waits_of}
use Rattle.sender.specs.declared.Sender.{Sender}
use Rattle.sender.specs.declared.Event.{Event}
use Rattle.sender.specs.declared.Event.TheVariants.{NoEvent, Delivered, DeliveredUnknown, Abandoned, Froze, Dropped}
use Rattle.sender.specs.declared.Acted.{Acted}
use Rattle.link.specs.SenderActs.{act_of, ActOrCrash, act, crash, after_of}

-- what happened: an act's answer, or a crash
pub data Entry : Type 0 where
  reported : Acted → Entry
  crashed : Entry

abbrev pub entry_of : ActOrCrash → Sender → Entry
entry_of (act a) s = reported (act_of a s)
entry_of crash s = crashed

-- the history of a run, the newest first
abbrev pub history_of : Sender → List ActOrCrash → List Entry
history_of s [] = []
history_of s (x ∷ xs) = entry_of x (after_of s xs) ∷ history_of s xs

abbrev pub is : SequenceNumber → Option SequenceNumber → Bool
is m None = false
is MinusOne (Some MinusOne) = true
is MinusOne (Some (Number k)) = false
is (Number n) (Some MinusOne) = false
is (Number n) (Some (Number k)) = eqb n k

-- "the sends in the history since it began to wait on this circuit": those of m among the newest answers, as far back as m waited after each.
-- When a circuit ended, and after a crash, nothing waited.
abbrev pub counted : SequenceNumber → List Entry → ℕ
counted m [] = 0
counted m (crashed ∷ h) = 0
counted m (reported b ∷ h) = cond (is m (waits_of b.sender)) (cond (is m b.send) 1 0 + counted m h) 0

abbrev pub counted_of : Option SequenceNumber → List Entry → ℕ
counted_of None h = 0
counted_of (Some m) h = counted m h

abbrev pub is_abandoned : Event → Bool
is_abandoned NoEvent = false
is_abandoned (Delivered n c) = false
is_abandoned (DeliveredUnknown n) = false
is_abandoned Abandoned = true
is_abandoned Froze = false
is_abandoned Dropped = false

-- "That is the message waiting after the act, or the one just given up; with neither, 0.": the sends to be reported in the answer b,
-- given in the state s with the history h
abbrev pub sends_to_report : Sender → List Entry → Acted → ℕ
sends_to_report s h b = cond (is_abandoned b.event) (counted_of (waits_of s) h) (counted_of (waits_of b.sender) (reported b ∷ h))
