-- A link that meets the premises, of either kind: default block settings, transactions from 1 on, each a header with its number.
use Rattle.std.specs.Prelude.{List, ℕ}
use Prim.Native.Char.{code}
use Rattle.settings.specs.declared.Kind.{Kind}
use Rattle.numbers.specs.declared.SequenceNumber.TheVariants.{Number}
use Rattle.messages.specs.Messages.{numbered_message}
use Rattle.messages.specs.declared.MessageType.{MessageType}
use Rattle.link.specs.System.{Link}

-- ADT
abbrev pub admission : MessageType
admission = record { first = code "A"; second = code "D"; third = code "T" }

-- MSH|^~\&|||||||ADT|n|P|2.3.1|n<CR>
abbrev pub example_log : ℕ → List ℕ
example_log n = numbered_message admission (Number n)

abbrev pub example_link : Kind → Link
example_link k =
    record { settings = record { kind = k; start_block = 0x0B; end_block = 0x1C; data_limit = 128 }; first = 1; resends = 3; name = admission; log = example_log }
