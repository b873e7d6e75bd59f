-- `lists::find::find_stop` meets its contract.
use mathlib.Core.Path.{◌≡◌}
use Prim.Native.Nat.{◌≤◌, ◌+◌, ◌-◌}
use lib.ListN.{length, drop}
use Rattle.lists.specs.Bytes.{clear}
use Rattle.lists.proofs.find.find_stop.Given as goal

abbrev pub invariant-wide : goal.invariant-wide
invariant-wide l = (l.i ≤ length l.part) × (l.i + clear l.start_block l.end_block (drop l.i l.part) ≡ clear l.start_block l.end_block l.part)

abbrev pub decreases-wide : goal.decreases-wide
decreases-wide l = length l.part - l.i

abbrev pub invariant-narrow : goal.invariant-narrow
invariant-narrow l = (l.i ≤ length l.part) × (l.i + clear l.start_block l.end_block (drop l.i l.part) ≡ clear l.start_block l.end_block l.part)

abbrev pub decreases-narrow : goal.decreases-narrow
decreases-narrow l = length l.part - l.i
