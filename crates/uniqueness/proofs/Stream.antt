-- The public functions of the crate stream. Written by tests/interface/uniqueness --write.
use mathlib.Core.Path.{refl, sym, ◌∙◌}
use Rattle.uniqueness.specs.Unique.{Unique}
use Rattle.uniqueness.proofs.Once.{once}
use Rattle.stream.specs.contracts.Reader.new as Reader-new-contract
use Rattle.stream.proofs.Reader.new.Reads as Reader-new-reads
use Rattle.stream.specs.contracts.read as read-contract
use Rattle.stream.proofs.read.Reads as read-reads

pub Reader-new : Unique Reader-new-contract.ended (λ M 𝓤. Reader-new-contract.clauses {M = M} {𝓤 = 𝓤})
Reader-new = record {
  holds = Reader-new-reads.Learnt;
  says = λ M 𝓤 𝓛 mem run. refl;
  one = λ κs a z z' ws ws' h h'. (h ∙ sym h', refl);
}

pub read : Unique read-contract.ended (λ M 𝓤. read-contract.clauses {M = M} {𝓤 = 𝓤})
read = record {
  holds = read-reads.Learnt;
  says = λ M 𝓤 𝓛 mem run. refl;
  one = λ κs a z z' ws ws' h h'. once h h' (λ y. y.answer) (λ y. (tt, (tt, (tt, (y.buffer, tt)))));
}
