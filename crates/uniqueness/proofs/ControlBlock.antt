-- The public functions of the crate control_block. Written by tests/interface/uniqueness --write.
use mathlib.Core.Path.{refl}
use Rattle.uniqueness.specs.Unique.{Unique}
use Rattle.uniqueness.proofs.Once.{once}
use Rattle.control_block.specs.contracts.write_control_block as write_control_block-contract
use Rattle.control_block.proofs.write_control_block.Reads as write_control_block-reads

pub write_control_block : Unique write_control_block-contract.ended (λ M 𝓤. write_control_block-contract.clauses {M = M} {𝓤 = 𝓤})
write_control_block = record {
  holds = write_control_block-reads.Learnt;
  says = λ M 𝓤 𝓛 mem run. refl;
  one = λ κs a z z' ws ws' h h'. once h h' (λ y. y.answer) (λ y. (tt, (tt, (tt, (y.buffer, (tt, tt))))));
}
