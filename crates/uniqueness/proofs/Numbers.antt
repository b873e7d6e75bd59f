-- The public functions of the crate numbers. Written by tests/interface/uniqueness --write.
use mathlib.Core.Path.{refl, sym, ◌∙◌}
use Rattle.uniqueness.specs.Unique.{Unique}
use Rattle.numbers.specs.contracts.is_text as is_text-contract
use Rattle.numbers.proofs.is_text.Reads as is_text-reads
use Rattle.numbers.specs.contracts.read_number as read_number-contract
use Rattle.numbers.proofs.read_number.Reads as read_number-reads
use Rattle.numbers.specs.contracts.text_length as text_length-contract
use Rattle.numbers.proofs.text_length.Reads as text_length-reads

pub is_text : Unique is_text-contract.ended (λ M 𝓤. is_text-contract.clauses {M = M} {𝓤 = 𝓤})
is_text = record {
  holds = is_text-reads.Learnt;
  says = λ M 𝓤 𝓛 mem run. refl;
  one = λ κs a z z' ws ws' h h'. (h ∙ sym h', refl);
}

pub read_number : Unique read_number-contract.ended (λ M 𝓤. read_number-contract.clauses {M = M} {𝓤 = 𝓤})
read_number = record {
  holds = read_number-reads.Learnt;
  says = λ M 𝓤 𝓛 mem run. refl;
  one = λ κs a z z' ws ws' h h'. (h ∙ sym h', refl);
}

pub text_length : Unique text_length-contract.ended (λ M 𝓤. text_length-contract.clauses {M = M} {𝓤 = 𝓤})
text_length = record {
  holds = text_length-reads.Learnt;
  says = λ M 𝓤 𝓛 mem run. refl;
  one = λ κs a z z' ws ws' h h'. (h ∙ sym h', refl);
}
