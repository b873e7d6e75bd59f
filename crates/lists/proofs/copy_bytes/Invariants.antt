-- `lists::copy_bytes` meets its contract.
use mathlib.Core.List.{◌++◌}
use mathlib.Core.Path.{◌≡◌}
use lib.ListN.{length, take, drop}
use Rattle.lists.proofs.copy_bytes.Given as goal

abbrev pub invariant-loop-i : goal.invariant-loop-i
invariant-loop-i l = record {
  same_length : length l.target ≡ length l.initial.target;
  copied : l.target ≡ take l.i l.source ++ drop l.i l.initial.target;
}
