-- `lists::find::find_stop` meets its contract.
use mathlib.Core.Path.{sym, ◌∙◌}
use Prim.Native.Nat.{◌≤◌}
use native.Mathlib.Nat.{add-sub_cancel_left}
use native.Mathlib.Omega.{arith}
use lib.ListN.{length, drop, length-drop}
use borrow.Author.Rules.{rules}
use Rattle.lists.proofs.Search.{pass_window, pass_one, stop_first, stop_second, stop_end}
use Rattle.lists.proofs.find.find_stop.Goals as goal

pub wide-init : goal.wide-init
wide-init c = (search rules, omega arith)

pub wide-preserved : goal.wide-preserved
wide-preserved c =
    let a = c.args in
    let i = c.wide.i in
    let h : 32 ≤ length (drop i a.part.now) = simp length-drop (omega arith) in
    (search rules, pass_window a.start_block a.end_block 32 a.part.now i (sym (rw (add-sub_cancel_left i 32) at c.has_stop.ensures) ∙ c.if-has_stop.false) h ∙ c.wide.invariant.1)

pub narrow-init : goal.narrow-init
narrow-init c = c.wide.invariant

pub narrow-preserved : goal.narrow-preserved
narrow-preserved c =
    let a = c.args in
    (search rules, pass_one a.start_block a.end_block a.part.now c.narrow.i (search rules) (search rules) (search rules) ∙ c.narrow.invariant.1)

pub returns-then-i-part : goal.returns-then-i-part
returns-then-i-part c =
    let a = c.args in
    sym (stop_end a.start_block a.end_block a.part.now c.narrow.i (search rules)) ∙ c.narrow.invariant.1

pub returns-then-x-start_block : goal.returns-then-x-start_block
returns-then-x-start_block c =
    let a = c.args in
    sym (stop_first a.start_block a.end_block a.part.now c.narrow.i (search rules) c.if-x-start_block.true) ∙ c.narrow.invariant.1

pub returns-then-x-end_block : goal.returns-then-x-end_block
returns-then-x-end_block c =
    let a = c.args in
    sym
    (stop_second a.start_block a.end_block a.part.now c.narrow.i (search rules) c.if-x-start_block.false c.if-x-end_block.true)
    ∙ c.narrow.invariant.1
