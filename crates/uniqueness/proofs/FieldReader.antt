-- The public functions of the crate field_reader. Written by tests/interface/uniqueness --write.
use mathlib.Core.Path.{refl, sym, ◌∙◌}
use Rattle.uniqueness.specs.Unique.{Unique}
use Rattle.field_reader.specs.contracts.read_from as read_from-contract
use Rattle.field_reader.proofs.read_from.Reads as read_from-reads
use Rattle.field_reader.specs.contracts.peek as peek-contract
use Rattle.field_reader.proofs.peek.Reads as peek-reads
use Rattle.field_reader.specs.contracts.next as next-contract
use Rattle.field_reader.proofs.next.Reads as next-reads
use Rattle.field_reader.specs.contracts.next_field as next_field-contract
use Rattle.field_reader.proofs.next_field.Reads as next_field-reads

pub read_from : Unique read_from-contract.ended (λ M 𝓤. read_from-contract.clauses {M = M} {𝓤 = 𝓤})
read_from = record {
  holds = read_from-reads.Learnt;
  says = λ M 𝓤 𝓛 mem run. refl;
  one = λ κs a z z' ws ws' h h'. (λ i. record { message = (h.0 ∙ sym h'.0) i; position = (h.1 ∙ sym h'.1) i }, refl);
}

pub peek : Unique peek-contract.ended (λ M 𝓤. peek-contract.clauses {M = M} {𝓤 = 𝓤})
peek = record {
  holds = peek-reads.Learnt;
  says = λ M 𝓤 𝓛 mem run. refl;
  one = λ κs a z z' ws ws' h h'. (h ∙ sym h', refl);
}

pub next : Unique next-contract.ended (λ M 𝓤. next-contract.clauses {M = M} {𝓤 = 𝓤})
next = record {
  holds = next-reads.Learnt;
  says = λ M 𝓤 𝓛 mem run. refl;
  one = λ κs a z z' ws ws' h h'. (h.0 ∙ sym h'.0, λ i. ((h.1 ∙ sym h'.1) i, tt));
}

pub next_field : Unique next_field-contract.ended (λ M 𝓤. next_field-contract.clauses {M = M} {𝓤 = 𝓤})
next_field = record {
  holds = next_field-reads.Learnt;
  says = λ M 𝓤 𝓛 mem run. refl;
  one = λ κs a z z' ws ws' h h'. (h ∙ sym h', refl);
}
