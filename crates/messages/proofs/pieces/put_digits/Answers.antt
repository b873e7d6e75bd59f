-- `messages::pieces::put_digits` meets its contract.
use mathlib.Core.Path.{◌≡◌, sym, ap, ◌∙◌}
use Prim.Native.Nat.{ℕ, ◌+◌, ◌-◌, ◌≤◌}
use native.Mathlib.Omega.{arith}
use Rattle.lists.specs.Bytes.{put}
use Rattle.lists.proofs.Put.{put_none}
use Rattle.numbers.proofs.Laws.{coming, put_digit}
use Rattle.messages.proofs.pieces.put_digits.Goals as goal

pub loop-i-preserved : goal.loop-i-preserved
loop-i-preserved c =
    let l = c.loop-i in
    let low : c.args.at ≤ l.i - 1 = omega arith in
    let d = put_digit l.out c.args.at _ (l.i - 1 - c.args.at) _ l.rest _ (omega arith) (omega arith) l.invariant.1 (omega arith) c.digit_of.ensures in
    (low, d.0, d.1 ∙ l.invariant.2)

pub returns : goal.returns
returns c =
    let l = c.loop-i in
    let z : l.i - c.args.at ≡ 0 = omega arith in
    record {
      next = ap (λ (z : ℕ). c.args.at + z) c.requires.digits_value;
      content = sym (put_none l.out c.args.at) ∙ sym (ap (λ (k : ℕ). put l.out c.args.at (coming k l.rest)) z) ∙ l.invariant.2;
    }
