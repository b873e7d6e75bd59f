-- What gmv_hybrid_control_block and gmv_minimal_control_block return and leave in what was passed, for every input (include/giamuvich.h).
use Rattle.std.specs.Prelude.{List, [], ℕ, Option, Some, None}
use Rattle.lists.specs.Outcome.{need, Called, called}
use Rattle.settings.specs.Settings.{valid_link}
use Rattle.settings.specs.declared.Settings.{Settings}
use Rattle.refusal.specs.Refusal.{SETTING}
use Rattle.messages.specs.Messages.{message_type}
use Rattle.messages.specs.declared.MessageType.{MessageType}
use Rattle.words.specs.Words.{with_report}
use Rattle.message_calls.specs.MessageCalls.{control_from}
use Rattle.messages.specs.declared.Control.{Control}
use Rattle.control_block.specs.ControlBlock.{control_block_of}

-- 1: a setting, the data limit of a sender, the type or the number; then 2
abbrev pub control_block_with : Option Settings → Option MessageType → Option Control → List ℕ → ℕ → List ℕ → Called
control_block_with None t c b start p = called SETTING [] b p
control_block_with (Some g) None c b start p = called SETTING [] b p
control_block_with (Some g) (Some t) None b start p = called SETTING [] b p
control_block_with (Some g) (Some t) (Some c) b start p = need (valid_link g) (called SETTING [] b p) (with_report b p (control_block_of g t c start b))

unfoldable pub control_block_call : Option Settings → List ℕ → ℕ → List ℕ → ℕ → List ℕ → Called
control_block_call m letters n b start p = control_block_with m (message_type letters) (control_from n) b start p
