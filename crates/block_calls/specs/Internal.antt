-- What the contracts of the private functions cite. Nobody needs to believe these: no public function's contract cites them.
use Rattle.std.specs.Prelude.{List, ℕ, length, cond, eqb, leb, Option, Some, None}
use Rattle.lists.specs.Outcome.{need, Called, called}
use Rattle.settings.specs.Settings.{valid, capacity_of}
use Rattle.settings.specs.declared.Settings.{Settings}
use Rattle.refusal.specs.Refusal.{SETTING, TOO_SHORT, STATE}
use Rattle.stream.specs.Scan.{read_of}
use Rattle.block_calls.specs.ReadCalls.{read_finished}
use Rattle.stream.specs.declared.Phase.{Phase}
use Rattle.stream.specs.declared.Phase.TheVariants.{Between, Inside, Ended}
use Rattle.stream.specs.declared.Reader.{Reader}

-- words that encode no reader, with a buffer of n bytes: 1 and 2 come before 11
abbrev pub unknown_refusal : Settings → ℕ → ℕ
unknown_refusal g n = need (valid g) SETTING (need (leb (capacity_of g) n) TOO_SHORT STATE)

-- a read, where the words are enough
abbrev pub read_known : Settings → List ℕ → List ℕ → List ℕ → List ℕ → Option Reader → Called
read_known g st xs b v None = called (unknown_refusal g (length b)) st b v
read_known g st xs b v (Some r) = read_finished g st v (read_of g r xs b)

-- the phase that a reader's first word encodes
abbrev pub phase_from : ℕ → Option Phase
phase_from n = cond (eqb n 0) (Some Between) (cond (eqb n 1) (Some Inside) (cond (eqb n 2) (Some Ended) None))
