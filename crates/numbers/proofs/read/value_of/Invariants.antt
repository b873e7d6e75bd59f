-- `numbers::read::value_of` meets its contract.
use mathlib.Core.Bool.{true}
use mathlib.Core.Path.{◌≡◌}
use Prim.Native.Nat.{◌<◌, ◌^◌}
use lib.ListN.{drop}
use Rattle.lists.specs.Bytes.{all}
use Rattle.numbers.specs.Numbers.{is_digit, value_from, value}
use Rattle.numbers.proofs.read.value_of.Given as goal

abbrev pub invariant-loop-x : goal.invariant-loop-x
invariant-loop-x l = record {
  few : l.sum < 10 ^ l.x-index;
  digits : all is_digit (drop l.x-index l.s) ≡ true;
  worth : value_from l.sum (drop l.x-index l.s) ≡ value l.s;
}
