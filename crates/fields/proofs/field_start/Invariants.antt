-- `fields::field_start` meets its contract.
use mathlib.Core.Path.{◌≡◌}
use Prim.Native.Nat.{◌+◌, ◌-◌}
use lib.ListN.{drop}
use Rattle.fields.specs.Fields.{field_start}
use Rattle.fields.proofs.field_start.Given as goal

abbrev pub invariant-loop : goal.invariant-loop
invariant-loop l = l.start + field_start l.separator (l.count - l.counter) (drop l.start l.message) ≡ l.from + field_start l.separator l.count (drop l.from l.message)
