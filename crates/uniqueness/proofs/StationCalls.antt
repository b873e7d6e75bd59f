-- The public functions of the crate station_calls. Written by tests/interface/uniqueness --write.
use mathlib.Core.Path.{refl, sym, ◌∙◌}
use Rattle.uniqueness.specs.Unique.{Unique}
use Rattle.uniqueness.proofs.Once.{once_answered}
use Rattle.station_calls.specs.contracts.fresh_station_words as fresh_station_words-contract
use Rattle.station_calls.proofs.fresh_station_words.Reads as fresh_station_words-reads
use Rattle.station_calls.specs.contracts.opened_words as opened_words-contract
use Rattle.station_calls.proofs.opened_words.Reads as opened_words-reads
use Rattle.station_calls.specs.contracts.bad_words as bad_words-contract
use Rattle.station_calls.proofs.bad_words.Reads as bad_words-reads
use Rattle.station_calls.specs.contracts.end_words as end_words-contract
use Rattle.station_calls.proofs.end_words.Reads as end_words-reads
use Rattle.station_calls.specs.contracts.bare_enq_words as bare_enq_words-contract
use Rattle.station_calls.proofs.bare_enq_words.Reads as bare_enq_words-reads
use Rattle.station_calls.specs.contracts.interrupt_words as interrupt_words-contract
use Rattle.station_calls.proofs.interrupt_words.Reads as interrupt_words-reads
use Rattle.station_calls.specs.contracts.block_words as block_words-contract
use Rattle.station_calls.proofs.block_words.Reads as block_words-reads
use Rattle.station_calls.specs.contracts.precedes as precedes-contract
use Rattle.station_calls.proofs.precedes.Reads as precedes-reads
use Rattle.station_calls.specs.contracts.kind_word as kind_word-contract
use Rattle.station_calls.proofs.kind_word.Reads as kind_word-reads
use Rattle.station_calls.specs.contracts.is_kind as is_kind-contract
use Rattle.station_calls.proofs.is_kind.Reads as is_kind-reads
use Rattle.station_calls.specs.contracts.kind_in as kind_in-contract
use Rattle.station_calls.proofs.kind_in.Reads as kind_in-reads

pub fresh_station_words : Unique fresh_station_words-contract.ended (λ M 𝓤. fresh_station_words-contract.clauses {M = M} {𝓤 = 𝓤})
fresh_station_words = record {
  holds = fresh_station_words-reads.Learnt;
  says = λ M 𝓤 𝓛 mem run. refl;
  one = λ κs a z z' ws ws' h h'. once_answered (h.0) (h'.0) refl refl (h.1) (h'.1) (λ y. (y.state, tt));
}

pub opened_words : Unique opened_words-contract.ended (λ M 𝓤. opened_words-contract.clauses {M = M} {𝓤 = 𝓤})
opened_words = record {
  holds = opened_words-reads.Learnt;
  says = λ M 𝓤 𝓛 mem run. refl;
  one = λ κs a z z' ws ws' h h'. once_answered (h.0) (h'.0) refl refl (h.1) (h'.1) (λ y. (y.state, (y.report, tt)));
}

pub bad_words : Unique bad_words-contract.ended (λ M 𝓤. bad_words-contract.clauses {M = M} {𝓤 = 𝓤})
bad_words = record {
  holds = bad_words-reads.Learnt;
  says = λ M 𝓤 𝓛 mem run. refl;
  one = λ κs a z z' ws ws' h h'. once_answered (h.0) (h'.0) refl refl (h.1) (h'.1) (λ y. (y.state, (y.report, tt)));
}

pub end_words : Unique end_words-contract.ended (λ M 𝓤. end_words-contract.clauses {M = M} {𝓤 = 𝓤})
end_words = record {
  holds = end_words-reads.Learnt;
  says = λ M 𝓤 𝓛 mem run. refl;
  one = λ κs a z z' ws ws' h h'. once_answered (h.0) (h'.0) refl refl (h.1) (h'.1) (λ y. (y.state, (y.report, tt)));
}

pub bare_enq_words : Unique bare_enq_words-contract.ended (λ M 𝓤. bare_enq_words-contract.clauses {M = M} {𝓤 = 𝓤})
bare_enq_words = record {
  holds = bare_enq_words-reads.Learnt;
  says = λ M 𝓤 𝓛 mem run. refl;
  one = λ κs a z z' ws ws' h h'. once_answered (h.0) (h'.0) refl refl (h.1) (h'.1) (λ y. (y.state, (y.report, tt)));
}

pub interrupt_words : Unique interrupt_words-contract.ended (λ M 𝓤. interrupt_words-contract.clauses {M = M} {𝓤 = 𝓤})
interrupt_words = record {
  holds = interrupt_words-reads.Learnt;
  says = λ M 𝓤 𝓛 mem run. refl;
  one = λ κs a z z' ws ws' h h'. once_answered (h.0) (h'.0) refl refl (h.1) (h'.1) (λ y. (y.state, (y.report, tt)));
}

pub block_words : Unique block_words-contract.ended (λ M 𝓤. block_words-contract.clauses {M = M} {𝓤 = 𝓤})
block_words = record {
  holds = block_words-reads.Learnt;
  says = λ M 𝓤 𝓛 mem run. refl;
  one = λ κs a z z' ws ws' h h'. once_answered (h.0) (h'.0) refl refl (h.1) (h'.1) (λ y. (tt, (tt, (tt, (y.buffer, (y.state, (y.report, tt)))))));
}

pub precedes : Unique precedes-contract.ended (λ M 𝓤. precedes-contract.clauses {M = M} {𝓤 = 𝓤})
precedes = record {
  holds = precedes-reads.Learnt;
  says = λ M 𝓤 𝓛 mem run. refl;
  one = λ κs a z z' ws ws' h h'. (h ∙ sym h', refl);
}

pub kind_word : Unique kind_word-contract.ended (λ M 𝓤. kind_word-contract.clauses {M = M} {𝓤 = 𝓤})
kind_word = record {
  holds = kind_word-reads.Learnt;
  says = λ M 𝓤 𝓛 mem run. refl;
  one = λ κs a z z' ws ws' h h'. (h ∙ sym h', refl);
}

pub is_kind : Unique is_kind-contract.ended (λ M 𝓤. is_kind-contract.clauses {M = M} {𝓤 = 𝓤})
is_kind = record {
  holds = is_kind-reads.Learnt;
  says = λ M 𝓤 𝓛 mem run. refl;
  one = λ κs a z z' ws ws' h h'. (h ∙ sym h', refl);
}

pub kind_in : Unique kind_in-contract.ended (λ M 𝓤. kind_in-contract.clauses {M = M} {𝓤 = 𝓤})
kind_in = record {
  holds = kind_in-reads.Learnt;
  says = λ M 𝓤 𝓛 mem run. refl;
  one = λ κs a z z' ws ws' h h'. (h ∙ sym h', refl);
}
