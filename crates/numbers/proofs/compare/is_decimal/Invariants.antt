-- `numbers::compare::is_decimal` meets its contract.
use mathlib.Core.Path.{◌≡◌}
use lib.ListN.{length}
use Rattle.lists.specs.Bytes.{same}
use Rattle.numbers.specs.Numbers.{decimal}
use Rattle.numbers.proofs.compare.is_decimal.Given as goal

abbrev pub invariant-loop-last : goal.invariant-loop-last
invariant-loop-last l = same l.bytes (decimal l.rest) ≡ same l.field (decimal l.n)

abbrev pub decreases-loop-last : goal.decreases-loop-last
decreases-loop-last l = length l.bytes
