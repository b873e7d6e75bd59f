-- `messages::pieces::put_digits` meets its contract.
use mathlib.Core.Path.{◌≡◌}
use Prim.Native.Nat.{◌-◌, ◌≤◌}
use lib.ListN.{length}
use Rattle.lists.specs.Bytes.{put}
use Rattle.numbers.specs.Numbers.{decimal}
use Rattle.numbers.proofs.Laws.{coming}
use Rattle.messages.proofs.pieces.put_digits.Given as goal

abbrev pub invariant-loop-i : goal.invariant-loop-i
invariant-loop-i l = (l.at ≤ l.i) × (length (coming (l.i - l.at) l.rest) ≡ l.i - l.at) × (put l.out l.at (coming (l.i - l.at) l.rest) ≡ put l.initial.out l.at (decimal l.n))
