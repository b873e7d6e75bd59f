-- The public functions of the crate message_calls. Written by tests/interface/uniqueness --write.
use mathlib.Core.Path.{refl}
use Rattle.uniqueness.specs.Unique.{Unique}
use Rattle.uniqueness.proofs.Once.{once_answered}
use Rattle.message_calls.specs.contracts.control_block_words as control_block_words-contract
use Rattle.message_calls.proofs.control_block_words.Reads as control_block_words-reads
use Rattle.message_calls.specs.contracts.next_field_words as next_field_words-contract
use Rattle.message_calls.proofs.next_field_words.Reads as next_field_words-reads
use Rattle.message_calls.specs.contracts.read_header_words as read_header_words-contract
use Rattle.message_calls.proofs.read_header_words.Reads as read_header_words-reads
use Rattle.message_calls.specs.contracts.read_answer_words as read_answer_words-contract
use Rattle.message_calls.proofs.read_answer_words.Reads as read_answer_words-reads
use Rattle.message_calls.specs.contracts.write_answer_words as write_answer_words-contract
use Rattle.message_calls.proofs.write_answer_words.Reads as write_answer_words-reads
use Rattle.message_calls.specs.contracts.write_control_words as write_control_words-contract
use Rattle.message_calls.proofs.write_control_words.Reads as write_control_words-reads

pub control_block_words : Unique control_block_words-contract.ended (λ M 𝓤. control_block_words-contract.clauses {M = M} {𝓤 = 𝓤})
control_block_words = record {
  holds = control_block_words-reads.Learnt;
  says = λ M 𝓤 𝓛 mem run. refl;
  one = λ κs a z z' ws ws' h h'. once_answered (h.0) (h'.0) refl refl (h.1) (h'.1) (λ y. (tt, (tt, (tt, (y.buffer, (tt, (y.report, tt)))))));
}

pub next_field_words : Unique next_field_words-contract.ended (λ M 𝓤. next_field_words-contract.clauses {M = M} {𝓤 = 𝓤})
next_field_words = record {
  holds = next_field_words-reads.Learnt;
  says = λ M 𝓤 𝓛 mem run. refl;
  one = λ κs a z z' ws ws' h h'. once_answered (h.0) (h'.0) refl refl (h.1) (h'.1) (λ y. (tt, (tt, (y.report, tt))));
}

pub read_header_words : Unique read_header_words-contract.ended (λ M 𝓤. read_header_words-contract.clauses {M = M} {𝓤 = 𝓤})
read_header_words = record {
  holds = read_header_words-reads.Learnt;
  says = λ M 𝓤 𝓛 mem run. refl;
  one = λ κs a z z' ws ws' h h'. once_answered (h.0) (h'.0) refl refl (h.1) (h'.1) (λ y. (tt, (y.report, tt)));
}

pub read_answer_words : Unique read_answer_words-contract.ended (λ M 𝓤. read_answer_words-contract.clauses {M = M} {𝓤 = 𝓤})
read_answer_words = record {
  holds = read_answer_words-reads.Learnt;
  says = λ M 𝓤 𝓛 mem run. refl;
  one = λ κs a z z' ws ws' h h'. once_answered (h.0) (h'.0) refl refl (h.1) (h'.1) (λ y. (tt, (y.report, tt)));
}

pub write_answer_words : Unique write_answer_words-contract.ended (λ M 𝓤. write_answer_words-contract.clauses {M = M} {𝓤 = 𝓤})
write_answer_words = record {
  holds = write_answer_words-reads.Learnt;
  says = λ M 𝓤 𝓛 mem run. refl;
  one = λ κs a z z' ws ws' h h'. once_answered (h.0) (h'.0) refl refl (h.1) (h'.1) (λ y. (tt, (tt, (tt, (y.buffer, (tt, (y.report, tt)))))));
}

pub write_control_words : Unique write_control_words-contract.ended (λ M 𝓤. write_control_words-contract.clauses {M = M} {𝓤 = 𝓤})
write_control_words = record {
  holds = write_control_words-reads.Learnt;
  says = λ M 𝓤 𝓛 mem run. refl;
  one = λ κs a z z' ws ws' h h'. once_answered (h.0) (h'.0) refl refl (h.1) (h'.1) (λ y. (tt, (tt, (y.buffer, (tt, (y.report, tt))))));
}
