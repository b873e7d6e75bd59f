-- The public functions of the crate block_calls. Written by tests/interface/uniqueness --write.
use mathlib.Core.Path.{refl}
use Rattle.uniqueness.specs.Unique.{Unique}
use Rattle.uniqueness.proofs.Once.{once_answered}
use Rattle.block_calls.specs.contracts.check_words as check_words-contract
use Rattle.block_calls.proofs.check_words.Reads as check_words-reads
use Rattle.block_calls.specs.contracts.fresh_words as fresh_words-contract
use Rattle.block_calls.proofs.fresh_words.Reads as fresh_words-reads
use Rattle.block_calls.specs.contracts.read_words as read_words-contract
use Rattle.block_calls.proofs.read_words.Reads as read_words-reads
use Rattle.block_calls.specs.contracts.write_words as write_words-contract
use Rattle.block_calls.proofs.write_words.Reads as write_words-reads

pub check_words : Unique check_words-contract.ended (λ M 𝓤. check_words-contract.clauses {M = M} {𝓤 = 𝓤})
check_words = record {
  holds = check_words-reads.Learnt;
  says = λ M 𝓤 𝓛 mem run. refl;
  one = λ κs a z z' ws ws' h h'. once_answered (h.0) (h'.0) refl refl (h.1) (h'.1) (λ y. (tt, (tt, (y.report, tt))));
}

pub fresh_words : Unique fresh_words-contract.ended (λ M 𝓤. fresh_words-contract.clauses {M = M} {𝓤 = 𝓤})
fresh_words = record {
  holds = fresh_words-reads.Learnt;
  says = λ M 𝓤 𝓛 mem run. refl;
  one = λ κs a z z' ws ws' h h'. once_answered (h.0) (h'.0) refl refl (h.1) (h'.1) (λ y. (y.state, tt));
}

pub read_words : Unique read_words-contract.ended (λ M 𝓤. read_words-contract.clauses {M = M} {𝓤 = 𝓤})
read_words = record {
  holds = read_words-reads.Learnt;
  says = λ M 𝓤 𝓛 mem run. refl;
  one = λ κs a z z' ws ws' h h'. once_answered (h.0) (h'.0) refl refl (h.1) (h'.1) (λ y. (tt, (y.state, (tt, (y.buffer, (y.report, tt))))));
}

pub write_words : Unique write_words-contract.ended (λ M 𝓤. write_words-contract.clauses {M = M} {𝓤 = 𝓤})
write_words = record {
  holds = write_words-reads.Learnt;
  says = λ M 𝓤 𝓛 mem run. refl;
  one = λ κs a z z' ws ws' h h'. once_answered (h.0) (h'.0) refl refl (h.1) (h'.1) (λ y. (tt, (tt, (tt, (y.buffer, (tt, (y.report, tt)))))));
}
