-- The messages that document 01 gives byte for byte: each by computing both sides.
use mathlib.Core.Path.{refl}
use Rattle.numbers.specs.Numbers.{decimal}
use Rattle.messages.specs.Messages.{answer_message, control_message}
use Rattle.message_theorems.specs.Examples.{AnswerFor17, ControlFor0, ControlForMinusOne}

pub answer_for_17 : AnswerFor17
unfolding answer_message decimal
answer_for_17 = refl

pub control_for_0 : ControlFor0
unfolding control_message decimal
control_for_0 = refl

pub control_for_minus_one : ControlForMinusOne
unfolding control_message
control_for_minus_one = refl
