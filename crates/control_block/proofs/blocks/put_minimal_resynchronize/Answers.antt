-- `control_block::blocks::put_minimal_resynchronize` meets its contract.
use mathlib.Core.Path.{ap, ◌∙◌}
use mathlib.Core.List.{List}
use Prim.Native.Nat.{ℕ}
use Rattle.lists.specs.Bytes.{put}
use Rattle.messages.proofs.Shapes.{resynchronize_is}
use Rattle.control_block.proofs.Laws.{minimal_is}
use Rattle.control_block.proofs.blocks.put_minimal_resynchronize.Goals as goal

pub returns : goal.returns
returns c =
    let a = c.args in
    c.put_bytes.ensures
    ∙ ap (λ (z : List ℕ). put a.buffer.now a.start z) (minimal_is a.settings _ _ (resynchronize_is a.name))
