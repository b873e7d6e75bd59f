-- `fields::field_start` meets its contract.
use mathlib.Core.Path.{◌≡◌, ◌∙◌}
use Prim.Native.Nat.{◌+◌, ◌-◌}
use native.Mathlib.Omega.{arith}
use lib.ListN.{drop}
use Rattle.fields.proofs.Laws.{at_end, at_other, at_bar, at_last}
use Rattle.fields.proofs.field_start.Goals as goal
use Rattle.fields.proofs.field_start.Goals.{then-end-message-via-then-end-message, then-end-message-via-else-end-message+then-message-end}

pub returns-then-end-message : goal.returns-then-end-message
returns-then-end-message c =
    let l = c.loop in
    elim c.then-end-message.branch [
      | then-end-message-via-then-end-message w ↦
          at_end c.args.separator c.args.message.now l.start _ c.field_end-end.ensures (c.args.count - l.counter) (omega arith) w.if-end-message.true ∙ l.invariant
      | then-end-message-via-else-end-message+then-message-end w ↦
          at_other c.args.separator c.args.message.now l.start _ c.field_end-end.ensures (c.args.count - l.counter) (omega arith) w.if-end-message.false
          w.if-message-end.true
          ∙ l.invariant
    ]

pub loop-preserved : goal.loop-preserved
loop-preserved c =
    let l = c.loop in
    let less : c.args.count - (l.counter + 1) ≡ c.args.count - l.counter - 1 = omega arith in
    rw less
    (at_bar c.args.separator c.args.message.now l.start _ c.field_end-end.ensures (c.args.count - l.counter) (omega arith) c.if-end-message.false
    c.if-message-end.false)
    ∙ l.invariant

pub returns : goal.returns
returns c =
    let l = c.loop in
    at_last c.args.separator (drop l.start c.args.message.now) l.start (c.args.count - l.counter) (omega arith) ∙ l.invariant
