-- The public functions of the crate sender_calls. Written by tests/interface/uniqueness --write.
use mathlib.Core.Path.{refl}
use Rattle.uniqueness.specs.Unique.{Unique}
use Rattle.uniqueness.proofs.Once.{once_answered}
use Rattle.sender_calls.specs.contracts.fresh_sender_words as fresh_sender_words-contract
use Rattle.sender_calls.proofs.fresh_sender_words.Reads as fresh_sender_words-reads
use Rattle.sender_calls.specs.contracts.opened_words as opened_words-contract
use Rattle.sender_calls.proofs.opened_words.Reads as opened_words-reads
use Rattle.sender_calls.specs.contracts.ended_words as ended_words-contract
use Rattle.sender_calls.proofs.ended_words.Reads as ended_words-reads
use Rattle.sender_calls.specs.contracts.reset_words as reset_words-contract
use Rattle.sender_calls.proofs.reset_words.Reads as reset_words-reads
use Rattle.sender_calls.specs.contracts.timer_words as timer_words-contract
use Rattle.sender_calls.proofs.timer_words.Reads as timer_words-reads
use Rattle.sender_calls.specs.contracts.block_words as block_words-contract
use Rattle.sender_calls.proofs.block_words.Reads as block_words-reads
use Rattle.sender_calls.specs.contracts.submitted_words as submitted_words-contract
use Rattle.sender_calls.proofs.submitted_words.Reads as submitted_words-reads

pub fresh_sender_words : Unique fresh_sender_words-contract.ended (λ M 𝓤. fresh_sender_words-contract.clauses {M = M} {𝓤 = 𝓤})
fresh_sender_words = record {
  holds = fresh_sender_words-reads.Learnt;
  says = λ M 𝓤 𝓛 mem run. refl;
  one = λ κs a z z' ws ws' h h'. once_answered (h.0) (h'.0) refl refl (h.1) (h'.1) (λ y. (tt, (y.state, tt)));
}

pub opened_words : Unique opened_words-contract.ended (λ M 𝓤. opened_words-contract.clauses {M = M} {𝓤 = 𝓤})
opened_words = record {
  holds = opened_words-reads.Learnt;
  says = λ M 𝓤 𝓛 mem run. refl;
  one = λ κs a z z' ws ws' h h'. once_answered (h.0) (h'.0) refl refl (h.1) (h'.1) (λ y. (y.state, (y.report, tt)));
}

pub ended_words : Unique ended_words-contract.ended (λ M 𝓤. ended_words-contract.clauses {M = M} {𝓤 = 𝓤})
ended_words = record {
  holds = ended_words-reads.Learnt;
  says = λ M 𝓤 𝓛 mem run. refl;
  one = λ κs a z z' ws ws' h h'. once_answered (h.0) (h'.0) refl refl (h.1) (h'.1) (λ y. (y.state, (y.report, tt)));
}

pub reset_words : Unique reset_words-contract.ended (λ M 𝓤. reset_words-contract.clauses {M = M} {𝓤 = 𝓤})
reset_words = record {
  holds = reset_words-reads.Learnt;
  says = λ M 𝓤 𝓛 mem run. refl;
  one = λ κs a z z' ws ws' h h'. once_answered (h.0) (h'.0) refl refl (h.1) (h'.1) (λ y. (y.state, (y.report, tt)));
}

pub timer_words : Unique timer_words-contract.ended (λ M 𝓤. timer_words-contract.clauses {M = M} {𝓤 = 𝓤})
timer_words = record {
  holds = timer_words-reads.Learnt;
  says = λ M 𝓤 𝓛 mem run. refl;
  one = λ κs a z z' ws ws' h h'. once_answered (h.0) (h'.0) refl refl (h.1) (h'.1) (λ y. (tt, (y.state, (y.report, tt))));
}

pub block_words : Unique block_words-contract.ended (λ M 𝓤. block_words-contract.clauses {M = M} {𝓤 = 𝓤})
block_words = record {
  holds = block_words-reads.Learnt;
  says = λ M 𝓤 𝓛 mem run. refl;
  one = λ κs a z z' ws ws' h h'. once_answered (h.0) (h'.0) refl refl (h.1) (h'.1) (λ y. (tt, (tt, (tt, (tt, (y.state, (y.report, tt)))))));
}

pub submitted_words : Unique submitted_words-contract.ended (λ M 𝓤. submitted_words-contract.clauses {M = M} {𝓤 = 𝓤})
submitted_words = record {
  holds = submitted_words-reads.Learnt;
  says = λ M 𝓤 𝓛 mem run. refl;
  one = λ κs a z z' ws ws' h h'. once_answered (h.0) (h'.0) refl refl (h.1) (h'.1) (λ y. (tt, (tt, (y.state, (y.report, tt)))));
}
