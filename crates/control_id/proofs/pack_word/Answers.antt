-- `control_id::pack_word` meets its contract.
use Prim.Native.Nat.{◌+◌, ◌-◌}
use mathlib.Core.Path.{◌≡◌}
use native.Mathlib.Omega.{arith}
use lib.ListN.{length}
use Rattle.control_id.proofs.Words.{packed_none, packed_more, power_more, power_most}
use Rattle.control_id.proofs.pack_word.Goals as goal

pub loop-i-init : goal.loop-i-init
loop-i-init c =
    let s = c.args.part.now in
    let none : length s - length s ≡ 0 = omega arith in
    record {
      within = omega arith;
      taken = packed_none s (length s) (omega arith);
      bounded = rw none (omega arith);
    }

pub overflow_mul-word : goal.overflow_mul-word
overflow_mul-word c =
    let l = c.loop-i in
    omega (arith, power_most l.word _ l.invariant.bounded (omega arith))

pub overflow_add-word : goal.overflow_add-word
overflow_add-word c =
    let l = c.loop-i in
    omega (arith, c.from.ensures, c.type_inv.part (l.i - 1), power_most l.word _ l.invariant.bounded (omega arith))

pub loop-i-preserved : goal.loop-i-preserved
loop-i-preserved c =
    let l = c.loop-i in
    let s = c.args.part.now in
    let more : length s - (l.i - 1) ≡ length s - l.i + 1 = omega arith in
    record {
      within = omega arith;
      taken = rw c.from.ensures (packed_more s l.i l.word (omega arith) l.invariant.within l.invariant.taken);
      bounded = rw (c.from.ensures, more) (power_more l.word _ (length s - l.i) l.invariant.bounded (omega (arith, c.type_inv.part (l.i - 1))));
    }
