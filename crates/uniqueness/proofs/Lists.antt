-- The public functions of the crate lists. Written by tests/interface/uniqueness --write.
use mathlib.Core.Path.{refl, sym, ◌∙◌}
use Rattle.uniqueness.specs.Unique.{Unique, UniqueBy, SamePart}
use Rattle.uniqueness.proofs.Once.{once}
use Rattle.lists.specs.contracts.find_stop as find_stop-contract
use Rattle.lists.proofs.find_stop.Reads as find_stop-reads
use Rattle.lists.specs.contracts.copy_bytes as copy_bytes-contract
use Rattle.lists.proofs.copy_bytes.Reads as copy_bytes-reads
use Rattle.lists.specs.contracts.part_of as part_of-contract
use Rattle.lists.proofs.part_of.Reads as part_of-reads

pub find_stop : Unique find_stop-contract.ended (λ M 𝓤. find_stop-contract.clauses {M = M} {𝓤 = 𝓤})
find_stop = record {
  holds = find_stop-reads.Learnt;
  says = λ M 𝓤 𝓛 mem run. refl;
  one = λ κs a z z' ws ws' h h'. (h ∙ sym h', refl);
}

pub copy_bytes : Unique copy_bytes-contract.ended (λ M 𝓤. copy_bytes-contract.clauses {M = M} {𝓤 = 𝓤})
copy_bytes = record {
  holds = copy_bytes-reads.Learnt;
  says = λ M 𝓤 𝓛 mem run. refl;
  one = λ κs a z z' ws ws' h h'. once h h' (λ y. tt) (λ y. (y, (tt, tt)));
}

pub part_of : UniqueBy part_of-contract.ended (λ M 𝓤. part_of-contract.clauses {M = M} {𝓤 = 𝓤}) (λ κs. SamePart)
part_of = record {
  holds = part_of-reads.Learnt;
  says = λ M 𝓤 𝓛 mem run. refl;
  one = λ κs a z z' ws ws' h h'. ((h.1 ∙ sym h'.1, h.0 ∙ sym h'.0), refl);
}
