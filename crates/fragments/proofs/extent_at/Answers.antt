-- `fragments::extent_at` meets its contract.
use mathlib.Core.Path.{◌≡◌}
use Prim.Native.Nat.{◌-◌}
use native.Mathlib.Omega.{arith}
use borrow.Author.Tests.{le-leb, lt-leb}
use Rattle.fragments.specs.Fragments.{extent_at}
use Rattle.fragments.proofs.extent_at.Goals as goal

pub returns-then-message_length-offset : goal.returns-then-message_length-offset
unfolding extent_at
returns-then-message_length-offset c =
    let a = c.args in
    let l = c.if-message_length-offset.true in
    let none : a.message_length - a.offset ≡ 0 = omega (arith, l) in
    rw (none, le-leb 0 a.size (omega arith))

pub returns-then-left-size : goal.returns-then-left-size
unfolding extent_at
returns-then-left-size c =
    let a = c.args in
    rw (le-leb (a.message_length - a.offset) a.size c.if-left-size.true)

pub returns : goal.returns
unfolding extent_at
returns c =
    let a = c.args in
    rw (lt-leb (a.message_length - a.offset) a.size c.if-left-size.false)
