-- The public functions of the crate header. Written by tests/interface/uniqueness --write.
use mathlib.Core.Path.{refl, sym, ◌∙◌}
use Rattle.uniqueness.specs.Unique.{Unique}
use Rattle.header.specs.contracts.read_header as read_header-contract
use Rattle.header.proofs.read_header.Reads as read_header-reads
use Rattle.header.specs.contracts.read_acknowledgment as read_acknowledgment-contract
use Rattle.header.proofs.read_acknowledgment.Reads as read_acknowledgment-reads
use Rattle.header.specs.contracts.read_code as read_code-contract
use Rattle.header.proofs.read_code.Reads as read_code-reads

pub read_header : Unique read_header-contract.ended (λ M 𝓤. read_header-contract.clauses {M = M} {𝓤 = 𝓤})
read_header = record {
  holds = read_header-reads.Learnt;
  says = λ M 𝓤 𝓛 mem run. refl;
  one = λ κs a z z' ws ws' h h'. (h ∙ sym h', refl);
}

pub read_acknowledgment : Unique read_acknowledgment-contract.ended (λ M 𝓤. read_acknowledgment-contract.clauses {M = M} {𝓤 = 𝓤})
read_acknowledgment = record {
  holds = read_acknowledgment-reads.Learnt;
  says = λ M 𝓤 𝓛 mem run. refl;
  one = λ κs a z z' ws ws' h h'. (h ∙ sym h', refl);
}

pub read_code : Unique read_code-contract.ended (λ M 𝓤. read_code-contract.clauses {M = M} {𝓤 = 𝓤})
read_code = record {
  holds = read_code-reads.Learnt;
  says = λ M 𝓤 𝓛 mem run. refl;
  one = λ κs a z z' ws ws' h h'. (h ∙ sym h', refl);
}
