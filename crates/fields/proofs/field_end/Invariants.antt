-- `fields::field_end` meets its contract.
use mathlib.Core.Path.{◌≡◌}
use Prim.Native.Nat.{◌+◌, ◌-◌}
use lib.ListN.{length, drop}
use Rattle.fields.specs.Fields.{field_length}
use Rattle.fields.proofs.field_end.Given as goal

abbrev pub invariant-loop-x : goal.invariant-loop-x
invariant-loop-x l = l.end + field_length l.separator (drop l.end l.message) ≡ l.from + field_length l.separator (drop l.from l.message)

abbrev pub decreases-loop-x : goal.decreases-loop-x
decreases-loop-x l = length l.message - l.end
