-- The public functions of the crate writer. Written by tests/interface/uniqueness --write.
use mathlib.Core.Path.{refl, sym, ◌∙◌}
use Rattle.uniqueness.specs.Unique.{Unique}
use Rattle.uniqueness.proofs.Once.{once}
use Rattle.writer.specs.contracts.is_long_enough as is_long_enough-contract
use Rattle.writer.proofs.is_long_enough.Reads as is_long_enough-reads
use Rattle.writer.specs.contracts.write as write-contract
use Rattle.writer.proofs.write.Reads as write-reads

pub is_long_enough : Unique is_long_enough-contract.ended (λ M 𝓤. is_long_enough-contract.clauses {M = M} {𝓤 = 𝓤})
is_long_enough = record {
  holds = is_long_enough-reads.Learnt;
  says = λ M 𝓤 𝓛 mem run. refl;
  one = λ κs a z z' ws ws' h h'. (h ∙ sym h', refl);
}

pub write : Unique write-contract.ended (λ M 𝓤. write-contract.clauses {M = M} {𝓤 = 𝓤})
write = record {
  holds = write-reads.Learnt;
  says = λ M 𝓤 𝓛 mem run. refl;
  one = λ κs a z z' ws ws' h h'. once h h' (λ y. y.answer) (λ y. (tt, (tt, (tt, (y.buffer, (tt, tt))))));
}
