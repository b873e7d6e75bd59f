-- The public functions of the crate receiver_calls. Written by tests/interface/uniqueness --write.
use mathlib.Core.Path.{refl}
use Rattle.uniqueness.specs.Unique.{Unique}
use Rattle.uniqueness.proofs.Once.{once_answered}
use Rattle.receiver_calls.specs.contracts.fresh_receiver_words as fresh_receiver_words-contract
use Rattle.receiver_calls.proofs.fresh_receiver_words.Reads as fresh_receiver_words-reads
use Rattle.receiver_calls.specs.contracts.decide_words as decide_words-contract
use Rattle.receiver_calls.proofs.decide_words.Reads as decide_words-reads
use Rattle.receiver_calls.specs.contracts.answer_words as answer_words-contract
use Rattle.receiver_calls.proofs.answer_words.Reads as answer_words-reads
use Rattle.receiver_calls.specs.contracts.nak_words as nak_words-contract
use Rattle.receiver_calls.proofs.nak_words.Reads as nak_words-reads

pub fresh_receiver_words : Unique fresh_receiver_words-contract.ended (λ M 𝓤. fresh_receiver_words-contract.clauses {M = M} {𝓤 = 𝓤})
fresh_receiver_words = record {
  holds = fresh_receiver_words-reads.Learnt;
  says = λ M 𝓤 𝓛 mem run. refl;
  one = λ κs a z z' ws ws' h h'. once_answered (h.0) (h'.0) refl refl (h.1) (h'.1) (λ y. (y.state, tt));
}

pub decide_words : Unique decide_words-contract.ended (λ M 𝓤. decide_words-contract.clauses {M = M} {𝓤 = 𝓤})
decide_words = record {
  holds = decide_words-reads.Learnt;
  says = λ M 𝓤 𝓛 mem run. refl;
  one = λ κs a z z' ws ws' h h'. once_answered (h.0) (h'.0) refl refl (h.1) (h'.1) (λ y. (tt, (tt, (tt, (y.state, (y.report, tt))))));
}

pub answer_words : Unique answer_words-contract.ended (λ M 𝓤. answer_words-contract.clauses {M = M} {𝓤 = 𝓤})
answer_words = record {
  holds = answer_words-reads.Learnt;
  says = λ M 𝓤 𝓛 mem run. refl;
  one = λ κs a z z' ws ws' h h'. once_answered (h.0) (h'.0) refl refl (h.1) (h'.1) (λ y. (tt, (tt, (y.state, (y.buffer, (tt, (y.report, tt)))))));
}

pub nak_words : Unique nak_words-contract.ended (λ M 𝓤. nak_words-contract.clauses {M = M} {𝓤 = 𝓤})
nak_words = record {
  holds = nak_words-reads.Learnt;
  says = λ M 𝓤 𝓛 mem run. refl;
  one = λ κs a z z' ws ws' h h'. once_answered (h.0) (h'.0) refl refl (h.1) (h'.1) (λ y. (tt, (tt, (tt, (y.buffer, (tt, (y.report, tt)))))));
}
