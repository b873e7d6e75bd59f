-- `settings::bytes::are_allowed` meets its contract.
use mathlib.Core.Bool.{◌&&◌}
use mathlib.Core.Path.{◌≡◌}
use lib.ListN.{drop}
use Rattle.settings.specs.DataBytes.{all_allowed}
use Rattle.settings.proofs.bytes.are_allowed.Given as goal

abbrev pub invariant-loop-x : goal.invariant-loop-x
invariant-loop-x l = (l.good && all_allowed (drop l.x-index l.s)) ≡ all_allowed l.s
