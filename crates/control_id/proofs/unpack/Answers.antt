-- `control_id::unpack` meets its contract.
use mathlib.Core.Path.{refl, ap, ◌∙◌}
use mathlib.Core.List.{List}
use Prim.Native.Nat.{ℕ}
use lib.ListN.{replicate}
use Rattle.lists.specs.Bytes.{overwritten}
use Rattle.control_id.specs.ControlId.{word_bytes}
use Rattle.control_id.proofs.Words.{words_copied}
use Rattle.control_id.proofs.unpack.Goals as goal

pub returns : goal.returns
unfolding word_bytes
returns c =
    let words = c.args.control_id in
    c.copy_bytes-4.ensures
    ∙ ap (λ (z : List ℕ). overwritten c.args.bytes.now z)
    (words_copied (replicate 24 0) c.copy_bytes.new.target c.copy_bytes-2.new.target c.copy_bytes-3.new.target words.first words.second words.third refl
    (rw c.to_le_bytes.ensures at c.copy_bytes.ensures) (rw c.to_le_bytes-2.ensures at c.copy_bytes-2.ensures)
    (rw c.to_le_bytes-3.ensures at c.copy_bytes-3.ensures))
