-- `control_id::pack_word` meets its contract.
use mathlib.Core.Path.{◌≡◌}
use Prim.Native.Nat.{◌-◌, ◌^◌, ◌≤◌, ◌<◌}
use lib.ListN.{length, drop}
use Rattle.control_id.specs.ControlId.{packed}
use Rattle.control_id.proofs.pack_word.Given as goal

abbrev pub invariant-loop-i : goal.invariant-loop-i
invariant-loop-i l = record {
  within : l.i ≤ length l.part;
  taken : l.word ≡ packed (drop l.i l.part);
  bounded : l.word < 256 ^ (length l.part - l.i);
}
