-- The public functions of the crate fields. Written by tests/interface/uniqueness --write.
use mathlib.Core.Path.{refl, sym, ◌∙◌}
use Rattle.uniqueness.specs.Unique.{Unique, UniqueBy, SamePart}
use Rattle.fields.specs.contracts.field_end as field_end-contract
use Rattle.fields.proofs.field_end.Reads as field_end-reads
use Rattle.fields.specs.contracts.find_field as find_field-contract
use Rattle.fields.proofs.find_field.Reads as find_field-reads
use Rattle.fields.specs.contracts.field_content as field_content-contract
use Rattle.fields.proofs.field_content.Reads as field_content-reads

pub field_end : Unique field_end-contract.ended (λ M 𝓤. field_end-contract.clauses {M = M} {𝓤 = 𝓤})
field_end = record {
  holds = field_end-reads.Learnt;
  says = λ M 𝓤 𝓛 mem run. refl;
  one = λ κs a z z' ws ws' h h'. (h ∙ sym h', refl);
}

pub find_field : Unique find_field-contract.ended (λ M 𝓤. find_field-contract.clauses {M = M} {𝓤 = 𝓤})
find_field = record {
  holds = find_field-reads.Learnt;
  says = λ M 𝓤 𝓛 mem run. refl;
  one = λ κs a z z' ws ws' h h'. (h ∙ sym h', refl);
}

pub field_content : UniqueBy field_content-contract.ended (λ M 𝓤. field_content-contract.clauses {M = M} {𝓤 = 𝓤}) (λ κs. SamePart)
field_content = record {
  holds = field_content-reads.Learnt;
  says = λ M 𝓤 𝓛 mem run. refl;
  one = λ κs a z z' ws ws' h h'. ((h.1 ∙ sym h'.1, h.0 ∙ sym h'.0), refl);
}
