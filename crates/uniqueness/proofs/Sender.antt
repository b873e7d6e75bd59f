-- The public functions of the crate sender. Written by tests/interface/uniqueness --write.
use mathlib.Core.Path.{refl, sym, ◌∙◌}
use Rattle.uniqueness.specs.Unique.{Unique}
use Rattle.sender.specs.contracts.block_read as block_read-contract
use Rattle.sender.proofs.block_read.Reads as block_read-reads
use Rattle.sender.specs.contracts.circuit_opened as circuit_opened-contract
use Rattle.sender.proofs.circuit_opened.Reads as circuit_opened-reads
use Rattle.sender.specs.contracts.circuit_ended as circuit_ended-contract
use Rattle.sender.proofs.circuit_ended.Reads as circuit_ended-reads
use Rattle.sender.specs.contracts.operator_reset as operator_reset-contract
use Rattle.sender.proofs.operator_reset.Reads as operator_reset-reads
use Rattle.sender.specs.contracts.timer_ran_out as timer_ran_out-contract
use Rattle.sender.proofs.timer_ran_out.Reads as timer_ran_out-reads
use Rattle.sender.specs.contracts.SenderSettings.new as SenderSettings-new-contract
use Rattle.sender.proofs.SenderSettings.new.Reads as SenderSettings-new-reads
use Rattle.sender.specs.contracts.SenderSettings.is_valid as SenderSettings-is_valid-contract
use Rattle.sender.proofs.SenderSettings.is_valid.Reads as SenderSettings-is_valid-reads
use Rattle.sender.specs.contracts.new_sender as new_sender-contract
use Rattle.sender.proofs.new_sender.Reads as new_sender-reads
use Rattle.sender.specs.contracts.submit_transaction as submit_transaction-contract
use Rattle.sender.proofs.submit_transaction.Reads as submit_transaction-reads

pub block_read : Unique block_read-contract.ended (λ M 𝓤. block_read-contract.clauses {M = M} {𝓤 = 𝓤})
block_read = record {
  holds = block_read-reads.Learnt;
  says = λ M 𝓤 𝓛 mem run. refl;
  one = λ κs a z z' ws ws' h h'. (h ∙ sym h', refl);
}

pub circuit_opened : Unique circuit_opened-contract.ended (λ M 𝓤. circuit_opened-contract.clauses {M = M} {𝓤 = 𝓤})
circuit_opened = record {
  holds = circuit_opened-reads.Learnt;
  says = λ M 𝓤 𝓛 mem run. refl;
  one = λ κs a z z' ws ws' h h'. (h ∙ sym h', refl);
}

pub circuit_ended : Unique circuit_ended-contract.ended (λ M 𝓤. circuit_ended-contract.clauses {M = M} {𝓤 = 𝓤})
circuit_ended = record {
  holds = circuit_ended-reads.Learnt;
  says = λ M 𝓤 𝓛 mem run. refl;
  one = λ κs a z z' ws ws' h h'. (h ∙ sym h', refl);
}

pub operator_reset : Unique operator_reset-contract.ended (λ M 𝓤. operator_reset-contract.clauses {M = M} {𝓤 = 𝓤})
operator_reset = record {
  holds = operator_reset-reads.Learnt;
  says = λ M 𝓤 𝓛 mem run. refl;
  one = λ κs a z z' ws ws' h h'. (h ∙ sym h', refl);
}

pub timer_ran_out : Unique timer_ran_out-contract.ended (λ M 𝓤. timer_ran_out-contract.clauses {M = M} {𝓤 = 𝓤})
timer_ran_out = record {
  holds = timer_ran_out-reads.Learnt;
  says = λ M 𝓤 𝓛 mem run. refl;
  one = λ κs a z z' ws ws' h h'. (h ∙ sym h', refl);
}

pub SenderSettings-new : Unique SenderSettings-new-contract.ended (λ M 𝓤. SenderSettings-new-contract.clauses {M = M} {𝓤 = 𝓤})
SenderSettings-new = record {
  holds = SenderSettings-new-reads.Learnt;
  says = λ M 𝓤 𝓛 mem run. refl;
  one = λ κs a z z' ws ws' h h'. (h ∙ sym h', refl);
}

pub SenderSettings-is_valid : Unique SenderSettings-is_valid-contract.ended (λ M 𝓤. SenderSettings-is_valid-contract.clauses {M = M} {𝓤 = 𝓤})
SenderSettings-is_valid = record {
  holds = SenderSettings-is_valid-reads.Learnt;
  says = λ M 𝓤 𝓛 mem run. refl;
  one = λ κs a z z' ws ws' h h'. (h ∙ sym h', refl);
}

pub new_sender : Unique new_sender-contract.ended (λ M 𝓤. new_sender-contract.clauses {M = M} {𝓤 = 𝓤})
new_sender = record {
  holds = new_sender-reads.Learnt;
  says = λ M 𝓤 𝓛 mem run. refl;
  one = λ κs a z z' ws ws' h h'. (h ∙ sym h', refl);
}

pub submit_transaction : Unique submit_transaction-contract.ended (λ M 𝓤. submit_transaction-contract.clauses {M = M} {𝓤 = 𝓤})
submit_transaction = record {
  holds = submit_transaction-reads.Learnt;
  says = λ M 𝓤 𝓛 mem run. refl;
  one = λ κs a z z' ws ws' h h'. (h ∙ sym h', refl);
}
