-- What the contracts of the private functions cite. Nobody needs to believe these: no public function's contract cites them.
use Rattle.std.specs.Prelude.{List, ℕ}
use Prim.Native.Char.{code}
use Rattle.settings.specs.declared.Kind.{Kind}
use Rattle.settings.specs.declared.Kind.TheVariants.{Hybrid, Minimal}
use Rattle.settings.specs.declared.Settings.{Settings}
use Rattle.block.specs.Format.{hybrid_block, minimal_block, block_of}
use Rattle.messages.specs.Messages.{control_message}
use Rattle.messages.specs.declared.Control.{Control}
use Rattle.messages.specs.declared.Control.TheVariants.{Resynchronize, Query}
use Rattle.messages.specs.declared.MessageType.{MessageType}

-- how many bytes the block of a control message has
abbrev pub block_length : Kind → Control → ℕ
block_length Hybrid Resynchronize = 48
block_length Hybrid Query = 46
block_length Minimal Resynchronize = 36
block_length Minimal Query = 34

-- and which
abbrev pub hybrid_control : Settings → MessageType → Control → List ℕ
hybrid_control g t c = hybrid_block g (code "D") (control_message t c)

abbrev pub minimal_control : Settings → MessageType → Control → List ℕ
minimal_control g t c = minimal_block g (control_message t c)

abbrev pub control_block : Settings → MessageType → Control → List ℕ
control_block g t c = block_of g (code "D") (control_message t c)
