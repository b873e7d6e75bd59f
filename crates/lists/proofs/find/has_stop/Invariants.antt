-- `lists::find::has_stop` meets its contract.
use mathlib.Core.Bool.{◌||◌}
use mathlib.Core.Path.{◌≡◌}
use lib.ListN.{drop}
use Rattle.lists.specs.Bytes.{has_any}
use Rattle.lists.proofs.find.has_stop.Given as goal

abbrev pub invariant-loop-x : goal.invariant-loop-x
invariant-loop-x l = (l.hit || has_any l.start_block l.end_block (drop l.x-index l.s)) ≡ has_any l.start_block l.end_block l.s
