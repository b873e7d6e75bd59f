-- The public functions of the crate words. Written by tests/interface/uniqueness --write.
use mathlib.Core.Path.{refl, sym, ◌∙◌}
use Rattle.uniqueness.specs.Unique.{Unique}
use Rattle.uniqueness.proofs.Once.{once, once_answered}
use Rattle.words.specs.contracts.refuse_short as refuse_short-contract
use Rattle.words.proofs.refuse_short.Reads as refuse_short-reads
use Rattle.words.specs.contracts.write_report as write_report-contract
use Rattle.words.proofs.write_report.Reads as write_report-reads
use Rattle.words.specs.contracts.report_written as report_written-contract
use Rattle.words.proofs.report_written.Reads as report_written-reads
use Rattle.words.specs.contracts.type_byte as type_byte-contract
use Rattle.words.proofs.type_byte.Reads as type_byte-reads
use Rattle.words.specs.contracts.verdict_from as verdict_from-contract
use Rattle.words.proofs.verdict_from.Reads as verdict_from-reads

pub refuse_short : Unique refuse_short-contract.ended (λ M 𝓤. refuse_short-contract.clauses {M = M} {𝓤 = 𝓤})
refuse_short = record {
  holds = refuse_short-reads.Learnt;
  says = λ M 𝓤 𝓛 mem run. refl;
  one = λ κs a z z' ws ws' h h'. (h ∙ sym h', refl);
}

pub write_report : Unique write_report-contract.ended (λ M 𝓤. write_report-contract.clauses {M = M} {𝓤 = 𝓤})
write_report = record {
  holds = write_report-reads.Learnt;
  says = λ M 𝓤 𝓛 mem run. refl;
  one = λ κs a z z' ws ws' h h'. once h h' (λ y. tt) (λ y. (y, (tt, (tt, tt))));
}

pub report_written : Unique report_written-contract.ended (λ M 𝓤. report_written-contract.clauses {M = M} {𝓤 = 𝓤})
report_written = record {
  holds = report_written-reads.Learnt;
  says = λ M 𝓤 𝓛 mem run. refl;
  one = λ κs a z z' ws ws' h h'. once_answered (h.0) (h'.0) refl refl (h.1) (h'.1) (λ y. (tt, (y.report, tt)));
}

pub type_byte : Unique type_byte-contract.ended (λ M 𝓤. type_byte-contract.clauses {M = M} {𝓤 = 𝓤})
type_byte = record {
  holds = type_byte-reads.Learnt;
  says = λ M 𝓤 𝓛 mem run. refl;
  one = λ κs a z z' ws ws' h h'. (h ∙ sym h', refl);
}

pub verdict_from : Unique verdict_from-contract.ended (λ M 𝓤. verdict_from-contract.clauses {M = M} {𝓤 = 𝓤})
verdict_from = record {
  holds = verdict_from-reads.Learnt;
  says = λ M 𝓤 𝓛 mem run. refl;
  one = λ κs a z z' ws ws' h h'. (h ∙ sym h', refl);
}
