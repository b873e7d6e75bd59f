-- Runs of the sender that compute, so that the theorems are not about nothing.
use mathlib.Core.Path.{◌≡◌, refl}
use mathlib.Core.List.{List, [], ◌∷◌}
use Rattle.numbers.specs.declared.SequenceNumber.TheVariants.{MinusOne}
use Rattle.sender.specs.Sender.{valid_sender, fresh_sender, open_of, ended_of, reset_of, timer_of}
use Rattle.sender.specs.declared.Waiting.TheVariants.{Resynchronizing}
use Rattle.sender.specs.declared.Event.TheVariants.{Abandoned}
use Rattle.link.specs.SenderActs.{opened, ended, reset, timer, act_of, ActOrCrash, act, crash, after_of}
use Rattle.link.specs.SenderHistory.{history_of, counted}

-- case P11: "r = 0, one timer: gives up, count 1"
p11_event : (act_of (timer 0) (after_of (fresh_sender 1) (act opened ∷ []))).event ≡ Abandoned
unfolding valid_sender open_of timer_of
p11_event = refl

p11_sends : (act_of (timer 0) (after_of (fresh_sender 1) (act opened ∷ []))).sends ≡ 1
unfolding valid_sender open_of timer_of
p11_sends = refl

-- two timers and a refused act: sent three times
abbrev resent : List ActOrCrash
resent = act reset ∷ act (timer 3) ∷ act (timer 3) ∷ act opened ∷ []

resent_waits : (after_of (fresh_sender 1) resent).waiting ≡ Resynchronizing
unfolding valid_sender open_of timer_of reset_of
resent_waits = refl

resent-counted : counted MinusOne (history_of (fresh_sender 1) resent) ≡ 3
unfolding valid_sender open_of timer_of reset_of
resent-counted = refl

-- on the next circuit it is sent once
counted_anew : counted MinusOne (history_of (fresh_sender 1) (act opened ∷ act ended ∷ resent)) ≡ 1
unfolding valid_sender open_of ended_of timer_of reset_of
counted_anew = refl

crashed_none : counted MinusOne (history_of (fresh_sender 1) (crash ∷ resent)) ≡ 0
unfolding valid_sender open_of timer_of reset_of
crashed_none = refl

crashed_anew : counted MinusOne (history_of (fresh_sender 1) (act opened ∷ crash ∷ resent)) ≡ 1
unfolding valid_sender open_of timer_of reset_of
crashed_anew = refl
