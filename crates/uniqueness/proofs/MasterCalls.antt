-- The public functions of the crate master_calls. Written by tests/interface/uniqueness --write.
use mathlib.Core.Path.{refl}
use Rattle.uniqueness.specs.Unique.{Unique}
use Rattle.uniqueness.proofs.Once.{once_answered}
use Rattle.master_calls.specs.contracts.fresh_master_words as fresh_master_words-contract
use Rattle.master_calls.proofs.fresh_master_words.Reads as fresh_master_words-reads
use Rattle.master_calls.specs.contracts.opened_master_words as opened_master_words-contract
use Rattle.master_calls.proofs.opened_master_words.Reads as opened_master_words-reads
use Rattle.master_calls.specs.contracts.start_words as start_words-contract
use Rattle.master_calls.proofs.start_words.Reads as start_words-reads
use Rattle.master_calls.specs.contracts.reply_words as reply_words-contract
use Rattle.master_calls.proofs.reply_words.Reads as reply_words-reads
use Rattle.master_calls.specs.contracts.timer_words as timer_words-contract
use Rattle.master_calls.proofs.timer_words.Reads as timer_words-reads
use Rattle.master_calls.specs.contracts.close_words as close_words-contract
use Rattle.master_calls.proofs.close_words.Reads as close_words-reads
use Rattle.master_calls.specs.contracts.enquire_words as enquire_words-contract
use Rattle.master_calls.proofs.enquire_words.Reads as enquire_words-reads
use Rattle.master_calls.specs.contracts.may_receive_words as may_receive_words-contract
use Rattle.master_calls.proofs.may_receive_words.Reads as may_receive_words-reads

pub fresh_master_words : Unique fresh_master_words-contract.ended (λ M 𝓤. fresh_master_words-contract.clauses {M = M} {𝓤 = 𝓤})
fresh_master_words = record {
  holds = fresh_master_words-reads.Learnt;
  says = λ M 𝓤 𝓛 mem run. refl;
  one = λ κs a z z' ws ws' h h'. once_answered (h.0) (h'.0) refl refl (h.1) (h'.1) (λ y. (y.state, tt));
}

pub opened_master_words : Unique opened_master_words-contract.ended (λ M 𝓤. opened_master_words-contract.clauses {M = M} {𝓤 = 𝓤})
opened_master_words = record {
  holds = opened_master_words-reads.Learnt;
  says = λ M 𝓤 𝓛 mem run. refl;
  one = λ κs a z z' ws ws' h h'. once_answered (h.0) (h'.0) refl refl (h.1) (h'.1) (λ y. (y.state, (y.report, tt)));
}

pub start_words : Unique start_words-contract.ended (λ M 𝓤. start_words-contract.clauses {M = M} {𝓤 = 𝓤})
start_words = record {
  holds = start_words-reads.Learnt;
  says = λ M 𝓤 𝓛 mem run. refl;
  one = λ κs a z z' ws ws' h h'. once_answered (h.0) (h'.0) refl refl (h.1) (h'.1) (λ y. (tt, (tt, (y.state, (y.report, tt)))));
}

pub reply_words : Unique reply_words-contract.ended (λ M 𝓤. reply_words-contract.clauses {M = M} {𝓤 = 𝓤})
reply_words = record {
  holds = reply_words-reads.Learnt;
  says = λ M 𝓤 𝓛 mem run. refl;
  one = λ κs a z z' ws ws' h h'. once_answered (h.0) (h'.0) refl refl (h.1) (h'.1) (λ y. (tt, (tt, (y.state, (y.report, tt)))));
}

pub timer_words : Unique timer_words-contract.ended (λ M 𝓤. timer_words-contract.clauses {M = M} {𝓤 = 𝓤})
timer_words = record {
  holds = timer_words-reads.Learnt;
  says = λ M 𝓤 𝓛 mem run. refl;
  one = λ κs a z z' ws ws' h h'. once_answered (h.0) (h'.0) refl refl (h.1) (h'.1) (λ y. (y.state, (y.report, tt)));
}

pub close_words : Unique close_words-contract.ended (λ M 𝓤. close_words-contract.clauses {M = M} {𝓤 = 𝓤})
close_words = record {
  holds = close_words-reads.Learnt;
  says = λ M 𝓤 𝓛 mem run. refl;
  one = λ κs a z z' ws ws' h h'. once_answered (h.0) (h'.0) refl refl (h.1) (h'.1) (λ y. (y.state, (y.report, tt)));
}

pub enquire_words : Unique enquire_words-contract.ended (λ M 𝓤. enquire_words-contract.clauses {M = M} {𝓤 = 𝓤})
enquire_words = record {
  holds = enquire_words-reads.Learnt;
  says = λ M 𝓤 𝓛 mem run. refl;
  one = λ κs a z z' ws ws' h h'. once_answered (h.0) (h'.0) refl refl (h.1) (h'.1) (λ y. (y.state, (y.report, tt)));
}

pub may_receive_words : Unique may_receive_words-contract.ended (λ M 𝓤. may_receive_words-contract.clauses {M = M} {𝓤 = 𝓤})
may_receive_words = record {
  holds = may_receive_words-reads.Learnt;
  says = λ M 𝓤 𝓛 mem run. refl;
  one = λ κs a z z' ws ws' h h'. once_answered (h.0) (h'.0) refl refl (h.1) (h'.1) (λ y. (y.state, (y.report, tt)));
}
