-- Document 01, 'Sender': "writing it is a separate act". The control message of a sender as a block, written into b from an offset on.
use Rattle.std.specs.Prelude.{List, ◌&&◌, ℕ, ◌+◌, length, leb, Result}
use Prim.Native.Char.{code}
use Rattle.lists.specs.Outcome.{need, Outcome}
use Rattle.refusal.specs.Refusal.{SETTING, TOO_SHORT}
use Rattle.refusal.specs.declared.Refusal.{Refusal}
use Rattle.settings.specs.Settings.{valid_link}
use Rattle.settings.specs.declared.Settings.{Settings}
use Rattle.block.specs.Format.{block_of}
use Rattle.writer.specs.Write.{need_of, refused, wrote}
use Rattle.messages.specs.Messages.{control_message, valid_type}
use Rattle.messages.specs.declared.Control.{Control}
use Rattle.messages.specs.declared.MessageType.{MessageType}

-- 1, then 2: "Room needed from the named place: the writer's block"
unfoldable pub control_block_of : Settings → MessageType → Control → ℕ → List ℕ → Outcome (Result ℕ Refusal)
control_block_of g t c start b =
    need (valid_link g && valid_type t) (refused SETTING 0 b)
    (need (leb (start + need_of g (control_message t c)) (length b)) (refused TOO_SHORT 0 b)
    (wrote b start (block_of g (code "D") (control_message t c))))
