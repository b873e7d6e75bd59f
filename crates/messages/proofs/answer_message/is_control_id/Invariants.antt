-- `messages::answer_message::is_control_id` meets its contract.
use mathlib.Core.Bool.{◌&&◌}
use mathlib.Core.Path.{◌≡◌}
use lib.ListN.{drop}
use Rattle.lists.specs.Bytes.{all}
use Rattle.messages.specs.Internal.{id_byte}
use Rattle.messages.proofs.answer_message.is_control_id.Given as goal

abbrev pub invariant-loop-x : goal.invariant-loop-x
invariant-loop-x l = (l.good && all id_byte (drop l.x-index l.control_id)) ≡ all id_byte l.control_id
