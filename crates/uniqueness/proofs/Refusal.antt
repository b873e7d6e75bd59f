-- The public functions of the crate refusal. Written by tests/interface/uniqueness --write.
use mathlib.Core.Path.{refl, sym, ◌∙◌}
use Rattle.uniqueness.specs.Unique.{Unique}
use Rattle.refusal.specs.contracts.Refusal.forbidden as Refusal-forbidden-contract
use Rattle.refusal.proofs.Refusal.forbidden.Reads as Refusal-forbidden-reads
use Rattle.refusal.specs.contracts.answered as answered-contract
use Rattle.refusal.proofs.answered.Reads as answered-reads
use Rattle.refusal.specs.contracts.number_in as number_in-contract
use Rattle.refusal.proofs.number_in.Reads as number_in-reads
use Rattle.refusal.specs.contracts.offset_in as offset_in-contract
use Rattle.refusal.proofs.offset_in.Reads as offset_in-reads
use Rattle.refusal.specs.contracts.type_of as type_of-contract
use Rattle.refusal.proofs.type_of.Reads as type_of-reads
use Rattle.refusal.specs.contracts.length_of as length_of-contract
use Rattle.refusal.proofs.length_of.Reads as length_of-reads
use Rattle.refusal.specs.contracts.written_length as written_length-contract
use Rattle.refusal.proofs.written_length.Reads as written_length-reads

pub Refusal-forbidden : Unique Refusal-forbidden-contract.ended (λ M 𝓤. Refusal-forbidden-contract.clauses {M = M} {𝓤 = 𝓤})
Refusal-forbidden = record {
  holds = Refusal-forbidden-reads.Learnt;
  says = λ M 𝓤 𝓛 mem run. refl;
  one = λ κs a z z' ws ws' h h'. (h ∙ sym h', refl);
}

pub answered : Unique answered-contract.ended (λ M 𝓤. answered-contract.clauses {M = M} {𝓤 = 𝓤})
answered = record {
  holds = answered-reads.Learnt;
  says = λ M 𝓤 𝓛 mem run. refl;
  one = λ κs a z z' ws ws' h h'. (h ∙ sym h', refl);
}

pub number_in : Unique number_in-contract.ended (λ M 𝓤. number_in-contract.clauses {M = M} {𝓤 = 𝓤})
number_in = record {
  holds = number_in-reads.Learnt;
  says = λ M 𝓤 𝓛 mem run. refl;
  one = λ κs a z z' ws ws' h h'. (h ∙ sym h', refl);
}

pub offset_in : Unique offset_in-contract.ended (λ M 𝓤. offset_in-contract.clauses {M = M} {𝓤 = 𝓤})
offset_in = record {
  holds = offset_in-reads.Learnt;
  says = λ M 𝓤 𝓛 mem run. refl;
  one = λ κs a z z' ws ws' h h'. (h ∙ sym h', refl);
}

pub type_of : Unique type_of-contract.ended (λ M 𝓤. type_of-contract.clauses {M = M} {𝓤 = 𝓤})
type_of = record {
  holds = type_of-reads.Learnt;
  says = λ M 𝓤 𝓛 mem run. refl;
  one = λ κs a z z' ws ws' h h'. (h ∙ sym h', refl);
}

pub length_of : Unique length_of-contract.ended (λ M 𝓤. length_of-contract.clauses {M = M} {𝓤 = 𝓤})
length_of = record {
  holds = length_of-reads.Learnt;
  says = λ M 𝓤 𝓛 mem run. refl;
  one = λ κs a z z' ws ws' h h'. (h ∙ sym h', refl);
}

pub written_length : Unique written_length-contract.ended (λ M 𝓤. written_length-contract.clauses {M = M} {𝓤 = 𝓤})
written_length = record {
  holds = written_length-reads.Learnt;
  says = λ M 𝓤 𝓛 mem run. refl;
  one = λ κs a z z' ws ws' h h'. (h ∙ sym h', refl);
}
