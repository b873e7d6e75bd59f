-- The public functions of the crate messages. Written by tests/interface/uniqueness --write.
use mathlib.Core.Path.{refl, sym, ◌∙◌}
use Rattle.uniqueness.specs.Unique.{Unique}
use Rattle.uniqueness.proofs.Once.{once}
use Rattle.messages.specs.contracts.is_control_id as is_control_id-contract
use Rattle.messages.proofs.is_control_id.Reads as is_control_id-reads
use Rattle.messages.specs.contracts.write_answer as write_answer-contract
use Rattle.messages.proofs.write_answer.Reads as write_answer-reads
use Rattle.messages.specs.contracts.is_type as is_type-contract
use Rattle.messages.proofs.is_type.Reads as is_type-reads
use Rattle.messages.specs.contracts.write_control as write_control-contract
use Rattle.messages.proofs.write_control.Reads as write_control-reads
use Rattle.messages.specs.contracts.MessageType.from_letters as MessageType-from_letters-contract
use Rattle.messages.proofs.MessageType.from_letters.Reads as MessageType-from_letters-reads

pub is_control_id : Unique is_control_id-contract.ended (λ M 𝓤. is_control_id-contract.clauses {M = M} {𝓤 = 𝓤})
is_control_id = record {
  holds = is_control_id-reads.Learnt;
  says = λ M 𝓤 𝓛 mem run. refl;
  one = λ κs a z z' ws ws' h h'. (h ∙ sym h', refl);
}

pub write_answer : Unique write_answer-contract.ended (λ M 𝓤. write_answer-contract.clauses {M = M} {𝓤 = 𝓤})
write_answer = record {
  holds = write_answer-reads.Learnt;
  says = λ M 𝓤 𝓛 mem run. refl;
  one = λ κs a z z' ws ws' h h'. once h h' (λ y. y.answer) (λ y. (tt, (tt, (tt, (y.buffer, (tt, tt))))));
}

pub is_type : Unique is_type-contract.ended (λ M 𝓤. is_type-contract.clauses {M = M} {𝓤 = 𝓤})
is_type = record {
  holds = is_type-reads.Learnt;
  says = λ M 𝓤 𝓛 mem run. refl;
  one = λ κs a z z' ws ws' h h'. (h ∙ sym h', refl);
}

pub write_control : Unique write_control-contract.ended (λ M 𝓤. write_control-contract.clauses {M = M} {𝓤 = 𝓤})
write_control = record {
  holds = write_control-reads.Learnt;
  says = λ M 𝓤 𝓛 mem run. refl;
  one = λ κs a z z' ws ws' h h'. once h h' (λ y. y.answer) (λ y. (tt, (tt, (y.buffer, (tt, tt)))));
}

pub MessageType-from_letters : Unique MessageType-from_letters-contract.ended (λ M 𝓤. MessageType-from_letters-contract.clauses {M = M} {𝓤 = 𝓤})
MessageType-from_letters = record {
  holds = MessageType-from_letters-reads.Learnt;
  says = λ M 𝓤 𝓛 mem run. refl;
  one = λ κs a z z' ws ws' h h'. (h ∙ sym h', refl);
}
