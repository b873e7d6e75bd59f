-- The public functions of the crate control_id. Written by tests/interface/uniqueness --write.
use mathlib.Core.Path.{refl, sym, ◌∙◌}
use Rattle.uniqueness.specs.Unique.{Unique}
use Rattle.uniqueness.proofs.Once.{once}
use Rattle.control_id.specs.contracts.pack as pack-contract
use Rattle.control_id.proofs.pack.Reads as pack-reads
use Rattle.control_id.specs.contracts.unpack as unpack-contract
use Rattle.control_id.proofs.unpack.Reads as unpack-reads

pub pack : Unique pack-contract.ended (λ M 𝓤. pack-contract.clauses {M = M} {𝓤 = 𝓤})
pack = record {
  holds = pack-reads.Learnt;
  says = λ M 𝓤 𝓛 mem run. refl;
  one = λ κs a z z' ws ws' h h'. (h ∙ sym h', refl);
}

pub unpack : Unique unpack-contract.ended (λ M 𝓤. unpack-contract.clauses {M = M} {𝓤 = 𝓤})
unpack = record {
  holds = unpack-reads.Learnt;
  says = λ M 𝓤 𝓛 mem run. refl;
  one = λ κs a z z' ws ws' h h'. once h h' (λ y. tt) (λ y. (tt, (y, tt)));
}
