-- The public functions of the crate receiver. Written by tests/interface/uniqueness --write.
use mathlib.Core.Path.{refl, sym, ◌∙◌}
use Rattle.uniqueness.specs.Unique.{Unique}
use Rattle.uniqueness.proofs.Once.{once}
use Rattle.receiver.specs.contracts.fits_reply as fits_reply-contract
use Rattle.receiver.proofs.fits_reply.Reads as fits_reply-reads
use Rattle.receiver.specs.contracts.is_block_number as is_block_number-contract
use Rattle.receiver.proofs.is_block_number.Reads as is_block_number-reads
use Rattle.receiver.specs.contracts.answer as answer-contract
use Rattle.receiver.proofs.answer.Reads as answer-reads
use Rattle.receiver.specs.contracts.nak as nak-contract
use Rattle.receiver.proofs.nak.Reads as nak-reads
use Rattle.receiver.specs.contracts.decide as decide-contract
use Rattle.receiver.proofs.decide.Reads as decide-reads
use Rattle.receiver.specs.contracts.is_same_expected as is_same_expected-contract
use Rattle.receiver.proofs.is_same_expected.Reads as is_same_expected-reads

pub fits_reply : Unique fits_reply-contract.ended (λ M 𝓤. fits_reply-contract.clauses {M = M} {𝓤 = 𝓤})
fits_reply = record {
  holds = fits_reply-reads.Learnt;
  says = λ M 𝓤 𝓛 mem run. refl;
  one = λ κs a z z' ws ws' h h'. (h ∙ sym h', refl);
}

pub is_block_number : Unique is_block_number-contract.ended (λ M 𝓤. is_block_number-contract.clauses {M = M} {𝓤 = 𝓤})
is_block_number = record {
  holds = is_block_number-reads.Learnt;
  says = λ M 𝓤 𝓛 mem run. refl;
  one = λ κs a z z' ws ws' h h'. (h ∙ sym h', refl);
}

pub answer : Unique answer-contract.ended (λ M 𝓤. answer-contract.clauses {M = M} {𝓤 = 𝓤})
answer = record {
  holds = answer-reads.Learnt;
  says = λ M 𝓤 𝓛 mem run. refl;
  one = λ κs a z z' ws ws' h h'. once h h' (λ y. y.answer) (λ y. (tt, (tt, (tt, (y.buffer, (tt, tt))))));
}

pub nak : Unique nak-contract.ended (λ M 𝓤. nak-contract.clauses {M = M} {𝓤 = 𝓤})
nak = record {
  holds = nak-reads.Learnt;
  says = λ M 𝓤 𝓛 mem run. refl;
  one = λ κs a z z' ws ws' h h'. once h h' (λ y. y.answer) (λ y. (tt, (tt, (tt, (y.buffer, (tt, tt))))));
}

pub decide : Unique decide-contract.ended (λ M 𝓤. decide-contract.clauses {M = M} {𝓤 = 𝓤})
decide = record {
  holds = decide-reads.Learnt;
  says = λ M 𝓤 𝓛 mem run. refl;
  one = λ κs a z z' ws ws' h h'. (h ∙ sym h', refl);
}

pub is_same_expected : Unique is_same_expected-contract.ended (λ M 𝓤. is_same_expected-contract.clauses {M = M} {𝓤 = 𝓤})
is_same_expected = record {
  holds = is_same_expected-reads.Learnt;
  says = λ M 𝓤 𝓛 mem run. refl;
  one = λ κs a z z' ws ws' h h'. (h ∙ sym h', refl);
}
