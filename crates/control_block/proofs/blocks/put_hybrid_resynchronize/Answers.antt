-- `control_block::blocks::put_hybrid_resynchronize` meets its contract.
use mathlib.Core.Path.{ap, ◌∙◌}
use mathlib.Core.List.{List}
use Prim.Native.Nat.{ℕ}
use Rattle.lists.specs.Bytes.{put}
use Rattle.block.specs.Format.{count_field, five_digits}
use Rattle.messages.proofs.Shapes.{resynchronize_is}
use Rattle.control_block.proofs.Laws.{hybrid_is}
use Rattle.control_block.proofs.blocks.put_hybrid_resynchronize.Goals as goal

pub returns : goal.returns
unfolding count_field five_digits
returns c =
    let a = c.args in
    c.put_bytes.ensures
    ∙ ap (λ (z : List ℕ). put a.buffer.now a.start z)
    (hybrid_is a.settings _ _ (resynchronize_is a.name) c.block_checksum-sum.result _ _ _ c.block_checksum-sum.ensures
    c.digit_of.ensures c.digit_of-2.ensures c.digit_of-3.ensures)
