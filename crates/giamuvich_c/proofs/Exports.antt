-- The public functions of the crate giamuvich_c. Written by tests/interface/uniqueness --write.
use mathlib.Core.Path.{refl, sym, ◌∙◌}
use Rattle.uniqueness.specs.Unique.{Unique}
use Rattle.uniqueness.proofs.Once.{once}
use Rattle.giamuvich_c.specs.contracts.blocks.gmv_reader_fresh as gmv_reader_fresh-contract
use Rattle.giamuvich_c.proofs.blocks.gmv_reader_fresh.Reads as gmv_reader_fresh-reads
use Rattle.giamuvich_c.specs.contracts.blocks.gmv_hybrid_read as gmv_hybrid_read-contract
use Rattle.giamuvich_c.proofs.blocks.gmv_hybrid_read.Reads as gmv_hybrid_read-reads
use Rattle.giamuvich_c.specs.contracts.blocks.gmv_minimal_read as gmv_minimal_read-contract
use Rattle.giamuvich_c.proofs.blocks.gmv_minimal_read.Reads as gmv_minimal_read-reads
use Rattle.giamuvich_c.specs.contracts.blocks.gmv_hybrid_check as gmv_hybrid_check-contract
use Rattle.giamuvich_c.proofs.blocks.gmv_hybrid_check.Reads as gmv_hybrid_check-reads
use Rattle.giamuvich_c.specs.contracts.blocks.gmv_minimal_check as gmv_minimal_check-contract
use Rattle.giamuvich_c.proofs.blocks.gmv_minimal_check.Reads as gmv_minimal_check-reads
use Rattle.giamuvich_c.specs.contracts.blocks.gmv_hybrid_write as gmv_hybrid_write-contract
use Rattle.giamuvich_c.proofs.blocks.gmv_hybrid_write.Reads as gmv_hybrid_write-reads
use Rattle.giamuvich_c.specs.contracts.blocks.gmv_minimal_write as gmv_minimal_write-contract
use Rattle.giamuvich_c.proofs.blocks.gmv_minimal_write.Reads as gmv_minimal_write-reads
use Rattle.giamuvich_c.specs.contracts.control.gmv_hybrid_control_block as gmv_hybrid_control_block-contract
use Rattle.giamuvich_c.proofs.control.gmv_hybrid_control_block.Reads as gmv_hybrid_control_block-reads
use Rattle.giamuvich_c.specs.contracts.control.gmv_minimal_control_block as gmv_minimal_control_block-contract
use Rattle.giamuvich_c.proofs.control.gmv_minimal_control_block.Reads as gmv_minimal_control_block-reads
use Rattle.giamuvich_c.specs.contracts.field_acts.gmv_field_next as gmv_field_next-contract
use Rattle.giamuvich_c.proofs.field_acts.gmv_field_next.Reads as gmv_field_next-reads
use Rattle.giamuvich_c.specs.contracts.master_acts.gmv_master_fresh as gmv_master_fresh-contract
use Rattle.giamuvich_c.proofs.master_acts.gmv_master_fresh.Reads as gmv_master_fresh-reads
use Rattle.giamuvich_c.specs.contracts.master_acts.gmv_master_open as gmv_master_open-contract
use Rattle.giamuvich_c.proofs.master_acts.gmv_master_open.Reads as gmv_master_open-reads
use Rattle.giamuvich_c.specs.contracts.master_acts.gmv_master_start as gmv_master_start-contract
use Rattle.giamuvich_c.proofs.master_acts.gmv_master_start.Reads as gmv_master_start-reads
use Rattle.giamuvich_c.specs.contracts.master_acts.gmv_master_reply as gmv_master_reply-contract
use Rattle.giamuvich_c.proofs.master_acts.gmv_master_reply.Reads as gmv_master_reply-reads
use Rattle.giamuvich_c.specs.contracts.master_acts.gmv_master_timer as gmv_master_timer-contract
use Rattle.giamuvich_c.proofs.master_acts.gmv_master_timer.Reads as gmv_master_timer-reads
use Rattle.giamuvich_c.specs.contracts.master_acts.gmv_master_close as gmv_master_close-contract
use Rattle.giamuvich_c.proofs.master_acts.gmv_master_close.Reads as gmv_master_close-reads
use Rattle.giamuvich_c.specs.contracts.master_acts.gmv_master_enquire as gmv_master_enquire-contract
use Rattle.giamuvich_c.proofs.master_acts.gmv_master_enquire.Reads as gmv_master_enquire-reads
use Rattle.giamuvich_c.specs.contracts.master_acts.gmv_master_may_receive as gmv_master_may_receive-contract
use Rattle.giamuvich_c.proofs.master_acts.gmv_master_may_receive.Reads as gmv_master_may_receive-reads
use Rattle.giamuvich_c.specs.contracts.message_acts.gmv_header_read as gmv_header_read-contract
use Rattle.giamuvich_c.proofs.message_acts.gmv_header_read.Reads as gmv_header_read-reads
use Rattle.giamuvich_c.specs.contracts.message_acts.gmv_answer_read as gmv_answer_read-contract
use Rattle.giamuvich_c.proofs.message_acts.gmv_answer_read.Reads as gmv_answer_read-reads
use Rattle.giamuvich_c.specs.contracts.message_acts.gmv_answer_write as gmv_answer_write-contract
use Rattle.giamuvich_c.proofs.message_acts.gmv_answer_write.Reads as gmv_answer_write-reads
use Rattle.giamuvich_c.specs.contracts.message_acts.gmv_control_write as gmv_control_write-contract
use Rattle.giamuvich_c.proofs.message_acts.gmv_control_write.Reads as gmv_control_write-reads
use Rattle.giamuvich_c.specs.contracts.receiver_acts.gmv_receiver_fresh as gmv_receiver_fresh-contract
use Rattle.giamuvich_c.proofs.receiver_acts.gmv_receiver_fresh.Reads as gmv_receiver_fresh-reads
use Rattle.giamuvich_c.specs.contracts.receiver_acts.gmv_receiver_decide as gmv_receiver_decide-contract
use Rattle.giamuvich_c.proofs.receiver_acts.gmv_receiver_decide.Reads as gmv_receiver_decide-reads
use Rattle.giamuvich_c.specs.contracts.receiver_acts.gmv_hybrid_answer as gmv_hybrid_answer-contract
use Rattle.giamuvich_c.proofs.receiver_acts.gmv_hybrid_answer.Reads as gmv_hybrid_answer-reads
use Rattle.giamuvich_c.specs.contracts.receiver_acts.gmv_minimal_answer as gmv_minimal_answer-contract
use Rattle.giamuvich_c.proofs.receiver_acts.gmv_minimal_answer.Reads as gmv_minimal_answer-reads
use Rattle.giamuvich_c.specs.contracts.receiver_acts.gmv_hybrid_nak as gmv_hybrid_nak-contract
use Rattle.giamuvich_c.proofs.receiver_acts.gmv_hybrid_nak.Reads as gmv_hybrid_nak-reads
use Rattle.giamuvich_c.specs.contracts.sender_acts.gmv_sender_fresh as gmv_sender_fresh-contract
use Rattle.giamuvich_c.proofs.sender_acts.gmv_sender_fresh.Reads as gmv_sender_fresh-reads
use Rattle.giamuvich_c.specs.contracts.sender_acts.gmv_sender_submit as gmv_sender_submit-contract
use Rattle.giamuvich_c.proofs.sender_acts.gmv_sender_submit.Reads as gmv_sender_submit-reads
use Rattle.giamuvich_c.specs.contracts.sender_acts.gmv_sender_open as gmv_sender_open-contract
use Rattle.giamuvich_c.proofs.sender_acts.gmv_sender_open.Reads as gmv_sender_open-reads
use Rattle.giamuvich_c.specs.contracts.sender_acts.gmv_sender_ended as gmv_sender_ended-contract
use Rattle.giamuvich_c.proofs.sender_acts.gmv_sender_ended.Reads as gmv_sender_ended-reads
use Rattle.giamuvich_c.specs.contracts.sender_acts.gmv_sender_reset as gmv_sender_reset-contract
use Rattle.giamuvich_c.proofs.sender_acts.gmv_sender_reset.Reads as gmv_sender_reset-reads
use Rattle.giamuvich_c.specs.contracts.sender_acts.gmv_sender_timer as gmv_sender_timer-contract
use Rattle.giamuvich_c.proofs.sender_acts.gmv_sender_timer.Reads as gmv_sender_timer-reads
use Rattle.giamuvich_c.specs.contracts.sender_acts.gmv_sender_block as gmv_sender_block-contract
use Rattle.giamuvich_c.proofs.sender_acts.gmv_sender_block.Reads as gmv_sender_block-reads
use Rattle.giamuvich_c.specs.contracts.station_acts.gmv_station_fresh as gmv_station_fresh-contract
use Rattle.giamuvich_c.proofs.station_acts.gmv_station_fresh.Reads as gmv_station_fresh-reads
use Rattle.giamuvich_c.specs.contracts.station_acts.gmv_station_open as gmv_station_open-contract
use Rattle.giamuvich_c.proofs.station_acts.gmv_station_open.Reads as gmv_station_open-reads
use Rattle.giamuvich_c.specs.contracts.station_acts.gmv_station_block as gmv_station_block-contract
use Rattle.giamuvich_c.proofs.station_acts.gmv_station_block.Reads as gmv_station_block-reads
use Rattle.giamuvich_c.specs.contracts.station_acts.gmv_station_bad as gmv_station_bad-contract
use Rattle.giamuvich_c.proofs.station_acts.gmv_station_bad.Reads as gmv_station_bad-reads
use Rattle.giamuvich_c.specs.contracts.station_acts.gmv_station_enquiry as gmv_station_enquiry-contract
use Rattle.giamuvich_c.proofs.station_acts.gmv_station_enquiry.Reads as gmv_station_enquiry-reads
use Rattle.giamuvich_c.specs.contracts.station_acts.gmv_station_end as gmv_station_end-contract
use Rattle.giamuvich_c.proofs.station_acts.gmv_station_end.Reads as gmv_station_end-reads
use Rattle.giamuvich_c.specs.contracts.station_acts.gmv_station_bare_enq as gmv_station_bare_enq-contract
use Rattle.giamuvich_c.proofs.station_acts.gmv_station_bare_enq.Reads as gmv_station_bare_enq-reads
use Rattle.giamuvich_c.specs.contracts.station_acts.gmv_station_interrupt as gmv_station_interrupt-contract
use Rattle.giamuvich_c.proofs.station_acts.gmv_station_interrupt.Reads as gmv_station_interrupt-reads
use Rattle.giamuvich_c.specs.contracts.version.gmv_version as gmv_version-contract
use Rattle.giamuvich_c.proofs.version.gmv_version.Reads as gmv_version-reads

pub gmv_reader_fresh : Unique gmv_reader_fresh-contract.ended (λ M 𝓤. gmv_reader_fresh-contract.clauses {M = M} {𝓤 = 𝓤})
gmv_reader_fresh = record {
  holds = gmv_reader_fresh-reads.Learnt;
  says = λ M 𝓤 𝓛 mem run. refl;
  one = λ κs a z z' ws ws' h h'. once h h' (λ y. y.number) (λ y. (y.state, tt));
}

pub gmv_hybrid_read : Unique gmv_hybrid_read-contract.ended (λ M 𝓤. gmv_hybrid_read-contract.clauses {M = M} {𝓤 = 𝓤})
gmv_hybrid_read = record {
  holds = gmv_hybrid_read-reads.Learnt;
  says = λ M 𝓤 𝓛 mem run. refl;
  one = λ κs a z z' ws ws' h h'. once h h' (λ y. y.number) (λ y. (tt, (tt, (tt, (y.state, (tt, (y.buffer, (y.report, tt))))))));
}

pub gmv_minimal_read : Unique gmv_minimal_read-contract.ended (λ M 𝓤. gmv_minimal_read-contract.clauses {M = M} {𝓤 = 𝓤})
gmv_minimal_read = record {
  holds = gmv_minimal_read-reads.Learnt;
  says = λ M 𝓤 𝓛 mem run. refl;
  one = λ κs a z z' ws ws' h h'. once h h' (λ y. y.number) (λ y. (tt, (y.state, (tt, (y.buffer, (y.report, tt))))));
}

pub gmv_hybrid_check : Unique gmv_hybrid_check-contract.ended (λ M 𝓤. gmv_hybrid_check-contract.clauses {M = M} {𝓤 = 𝓤})
gmv_hybrid_check = record {
  holds = gmv_hybrid_check-reads.Learnt;
  says = λ M 𝓤 𝓛 mem run. refl;
  one = λ κs a z z' ws ws' h h'. once h h' (λ y. y.number) (λ y. (tt, (tt, (tt, (tt, (y.report, tt))))));
}

pub gmv_minimal_check : Unique gmv_minimal_check-contract.ended (λ M 𝓤. gmv_minimal_check-contract.clauses {M = M} {𝓤 = 𝓤})
gmv_minimal_check = record {
  holds = gmv_minimal_check-reads.Learnt;
  says = λ M 𝓤 𝓛 mem run. refl;
  one = λ κs a z z' ws ws' h h'. once h h' (λ y. y.number) (λ y. (tt, (tt, (y.report, tt))));
}

pub gmv_hybrid_write : Unique gmv_hybrid_write-contract.ended (λ M 𝓤. gmv_hybrid_write-contract.clauses {M = M} {𝓤 = 𝓤})
gmv_hybrid_write = record {
  holds = gmv_hybrid_write-reads.Learnt;
  says = λ M 𝓤 𝓛 mem run. refl;
  one = λ κs a z z' ws ws' h h'. once h h' (λ y. y.number) (λ y. (tt, (tt, (tt, (tt, (tt, (y.buffer, (tt, (y.report, tt)))))))));
}

pub gmv_minimal_write : Unique gmv_minimal_write-contract.ended (λ M 𝓤. gmv_minimal_write-contract.clauses {M = M} {𝓤 = 𝓤})
gmv_minimal_write = record {
  holds = gmv_minimal_write-reads.Learnt;
  says = λ M 𝓤 𝓛 mem run. refl;
  one = λ κs a z z' ws ws' h h'. once h h' (λ y. y.number) (λ y. (tt, (tt, (y.buffer, (tt, (y.report, tt))))));
}

pub gmv_hybrid_control_block : Unique gmv_hybrid_control_block-contract.ended (λ M 𝓤. gmv_hybrid_control_block-contract.clauses {M = M} {𝓤 = 𝓤})
gmv_hybrid_control_block = record {
  holds = gmv_hybrid_control_block-reads.Learnt;
  says = λ M 𝓤 𝓛 mem run. refl;
  one = λ κs a z z' ws ws' h h'. once h h' (λ y. y.number) (λ y. (tt, (tt, (tt, (tt, (tt, (y.buffer, (tt, (y.report, tt)))))))));
}

pub gmv_minimal_control_block : Unique gmv_minimal_control_block-contract.ended (λ M 𝓤. gmv_minimal_control_block-contract.clauses {M = M} {𝓤 = 𝓤})
gmv_minimal_control_block = record {
  holds = gmv_minimal_control_block-reads.Learnt;
  says = λ M 𝓤 𝓛 mem run. refl;
  one = λ κs a z z' ws ws' h h'. once h h' (λ y. y.number) (λ y. (tt, (tt, (tt, (y.buffer, (tt, (y.report, tt)))))));
}

pub gmv_field_next : Unique gmv_field_next-contract.ended (λ M 𝓤. gmv_field_next-contract.clauses {M = M} {𝓤 = 𝓤})
gmv_field_next = record {
  holds = gmv_field_next-reads.Learnt;
  says = λ M 𝓤 𝓛 mem run. refl;
  one = λ κs a z z' ws ws' h h'. once h h' (λ y. y.number) (λ y. (tt, (tt, (y.report, tt))));
}

pub gmv_master_fresh : Unique gmv_master_fresh-contract.ended (λ M 𝓤. gmv_master_fresh-contract.clauses {M = M} {𝓤 = 𝓤})
gmv_master_fresh = record {
  holds = gmv_master_fresh-reads.Learnt;
  says = λ M 𝓤 𝓛 mem run. refl;
  one = λ κs a z z' ws ws' h h'. once h h' (λ y. y.number) (λ y. (y.state, tt));
}

pub gmv_master_open : Unique gmv_master_open-contract.ended (λ M 𝓤. gmv_master_open-contract.clauses {M = M} {𝓤 = 𝓤})
gmv_master_open = record {
  holds = gmv_master_open-reads.Learnt;
  says = λ M 𝓤 𝓛 mem run. refl;
  one = λ κs a z z' ws ws' h h'. once h h' (λ y. y.number) (λ y. (y.state, (y.report, tt)));
}

pub gmv_master_start : Unique gmv_master_start-contract.ended (λ M 𝓤. gmv_master_start-contract.clauses {M = M} {𝓤 = 𝓤})
gmv_master_start = record {
  holds = gmv_master_start-reads.Learnt;
  says = λ M 𝓤 𝓛 mem run. refl;
  one = λ κs a z z' ws ws' h h'. once h h' (λ y. y.number) (λ y. (tt, (tt, (y.state, (y.report, tt)))));
}

pub gmv_master_reply : Unique gmv_master_reply-contract.ended (λ M 𝓤. gmv_master_reply-contract.clauses {M = M} {𝓤 = 𝓤})
gmv_master_reply = record {
  holds = gmv_master_reply-reads.Learnt;
  says = λ M 𝓤 𝓛 mem run. refl;
  one = λ κs a z z' ws ws' h h'. once h h' (λ y. y.number) (λ y. (tt, (tt, (y.state, (y.report, tt)))));
}

pub gmv_master_timer : Unique gmv_master_timer-contract.ended (λ M 𝓤. gmv_master_timer-contract.clauses {M = M} {𝓤 = 𝓤})
gmv_master_timer = record {
  holds = gmv_master_timer-reads.Learnt;
  says = λ M 𝓤 𝓛 mem run. refl;
  one = λ κs a z z' ws ws' h h'. once h h' (λ y. y.number) (λ y. (y.state, (y.report, tt)));
}

pub gmv_master_close : Unique gmv_master_close-contract.ended (λ M 𝓤. gmv_master_close-contract.clauses {M = M} {𝓤 = 𝓤})
gmv_master_close = record {
  holds = gmv_master_close-reads.Learnt;
  says = λ M 𝓤 𝓛 mem run. refl;
  one = λ κs a z z' ws ws' h h'. once h h' (λ y. y.number) (λ y. (y.state, (y.report, tt)));
}

pub gmv_master_enquire : Unique gmv_master_enquire-contract.ended (λ M 𝓤. gmv_master_enquire-contract.clauses {M = M} {𝓤 = 𝓤})
gmv_master_enquire = record {
  holds = gmv_master_enquire-reads.Learnt;
  says = λ M 𝓤 𝓛 mem run. refl;
  one = λ κs a z z' ws ws' h h'. once h h' (λ y. y.number) (λ y. (y.state, (y.report, tt)));
}

pub gmv_master_may_receive : Unique gmv_master_may_receive-contract.ended (λ M 𝓤. gmv_master_may_receive-contract.clauses {M = M} {𝓤 = 𝓤})
gmv_master_may_receive = record {
  holds = gmv_master_may_receive-reads.Learnt;
  says = λ M 𝓤 𝓛 mem run. refl;
  one = λ κs a z z' ws ws' h h'. once h h' (λ y. y.number) (λ y. (y.state, (y.report, tt)));
}

pub gmv_header_read : Unique gmv_header_read-contract.ended (λ M 𝓤. gmv_header_read-contract.clauses {M = M} {𝓤 = 𝓤})
gmv_header_read = record {
  holds = gmv_header_read-reads.Learnt;
  says = λ M 𝓤 𝓛 mem run. refl;
  one = λ κs a z z' ws ws' h h'. once h h' (λ y. y.number) (λ y. (tt, (y.report, tt)));
}

pub gmv_answer_read : Unique gmv_answer_read-contract.ended (λ M 𝓤. gmv_answer_read-contract.clauses {M = M} {𝓤 = 𝓤})
gmv_answer_read = record {
  holds = gmv_answer_read-reads.Learnt;
  says = λ M 𝓤 𝓛 mem run. refl;
  one = λ κs a z z' ws ws' h h'. once h h' (λ y. y.number) (λ y. (tt, (y.report, tt)));
}

pub gmv_answer_write : Unique gmv_answer_write-contract.ended (λ M 𝓤. gmv_answer_write-contract.clauses {M = M} {𝓤 = 𝓤})
gmv_answer_write = record {
  holds = gmv_answer_write-reads.Learnt;
  says = λ M 𝓤 𝓛 mem run. refl;
  one = λ κs a z z' ws ws' h h'. once h h' (λ y. y.number) (λ y. (tt, (tt, (tt, (y.buffer, (tt, (y.report, tt)))))));
}

pub gmv_control_write : Unique gmv_control_write-contract.ended (λ M 𝓤. gmv_control_write-contract.clauses {M = M} {𝓤 = 𝓤})
gmv_control_write = record {
  holds = gmv_control_write-reads.Learnt;
  says = λ M 𝓤 𝓛 mem run. refl;
  one = λ κs a z z' ws ws' h h'. once h h' (λ y. y.number) (λ y. (tt, (tt, (y.buffer, (tt, (y.report, tt))))));
}

pub gmv_receiver_fresh : Unique gmv_receiver_fresh-contract.ended (λ M 𝓤. gmv_receiver_fresh-contract.clauses {M = M} {𝓤 = 𝓤})
gmv_receiver_fresh = record {
  holds = gmv_receiver_fresh-reads.Learnt;
  says = λ M 𝓤 𝓛 mem run. refl;
  one = λ κs a z z' ws ws' h h'. once h h' (λ y. y.number) (λ y. (y.state, tt));
}

pub gmv_receiver_decide : Unique gmv_receiver_decide-contract.ended (λ M 𝓤. gmv_receiver_decide-contract.clauses {M = M} {𝓤 = 𝓤})
gmv_receiver_decide = record {
  holds = gmv_receiver_decide-reads.Learnt;
  says = λ M 𝓤 𝓛 mem run. refl;
  one = λ κs a z z' ws ws' h h'. once h h' (λ y. y.number) (λ y. (tt, (tt, (tt, (y.state, (y.report, tt))))));
}

pub gmv_hybrid_answer : Unique gmv_hybrid_answer-contract.ended (λ M 𝓤. gmv_hybrid_answer-contract.clauses {M = M} {𝓤 = 𝓤})
gmv_hybrid_answer = record {
  holds = gmv_hybrid_answer-reads.Learnt;
  says = λ M 𝓤 𝓛 mem run. refl;
  one = λ κs a z z' ws ws' h h'. once h h' (λ y. y.number) (λ y. (tt, (tt, (tt, (tt, (y.state, (y.buffer, (tt, (y.report, tt)))))))));
}

pub gmv_minimal_answer : Unique gmv_minimal_answer-contract.ended (λ M 𝓤. gmv_minimal_answer-contract.clauses {M = M} {𝓤 = 𝓤})
gmv_minimal_answer = record {
  holds = gmv_minimal_answer-reads.Learnt;
  says = λ M 𝓤 𝓛 mem run. refl;
  one = λ κs a z z' ws ws' h h'. once h h' (λ y. y.number) (λ y. (tt, (tt, (y.state, (y.buffer, (tt, (y.report, tt)))))));
}

pub gmv_hybrid_nak : Unique gmv_hybrid_nak-contract.ended (λ M 𝓤. gmv_hybrid_nak-contract.clauses {M = M} {𝓤 = 𝓤})
gmv_hybrid_nak = record {
  holds = gmv_hybrid_nak-reads.Learnt;
  says = λ M 𝓤 𝓛 mem run. refl;
  one = λ κs a z z' ws ws' h h'. once h h' (λ y. y.number) (λ y. (tt, (tt, (tt, (tt, (tt, (y.buffer, (tt, (y.report, tt)))))))));
}

pub gmv_sender_fresh : Unique gmv_sender_fresh-contract.ended (λ M 𝓤. gmv_sender_fresh-contract.clauses {M = M} {𝓤 = 𝓤})
gmv_sender_fresh = record {
  holds = gmv_sender_fresh-reads.Learnt;
  says = λ M 𝓤 𝓛 mem run. refl;
  one = λ κs a z z' ws ws' h h'. once h h' (λ y. y.number) (λ y. (tt, (y.state, tt)));
}

pub gmv_sender_submit : Unique gmv_sender_submit-contract.ended (λ M 𝓤. gmv_sender_submit-contract.clauses {M = M} {𝓤 = 𝓤})
gmv_sender_submit = record {
  holds = gmv_sender_submit-reads.Learnt;
  says = λ M 𝓤 𝓛 mem run. refl;
  one = λ κs a z z' ws ws' h h'. once h h' (λ y. y.number) (λ y. (tt, (tt, (y.state, (y.report, tt)))));
}

pub gmv_sender_open : Unique gmv_sender_open-contract.ended (λ M 𝓤. gmv_sender_open-contract.clauses {M = M} {𝓤 = 𝓤})
gmv_sender_open = record {
  holds = gmv_sender_open-reads.Learnt;
  says = λ M 𝓤 𝓛 mem run. refl;
  one = λ κs a z z' ws ws' h h'. once h h' (λ y. y.number) (λ y. (y.state, (y.report, tt)));
}

pub gmv_sender_ended : Unique gmv_sender_ended-contract.ended (λ M 𝓤. gmv_sender_ended-contract.clauses {M = M} {𝓤 = 𝓤})
gmv_sender_ended = record {
  holds = gmv_sender_ended-reads.Learnt;
  says = λ M 𝓤 𝓛 mem run. refl;
  one = λ κs a z z' ws ws' h h'. once h h' (λ y. y.number) (λ y. (y.state, (y.report, tt)));
}

pub gmv_sender_reset : Unique gmv_sender_reset-contract.ended (λ M 𝓤. gmv_sender_reset-contract.clauses {M = M} {𝓤 = 𝓤})
gmv_sender_reset = record {
  holds = gmv_sender_reset-reads.Learnt;
  says = λ M 𝓤 𝓛 mem run. refl;
  one = λ κs a z z' ws ws' h h'. once h h' (λ y. y.number) (λ y. (y.state, (y.report, tt)));
}

pub gmv_sender_timer : Unique gmv_sender_timer-contract.ended (λ M 𝓤. gmv_sender_timer-contract.clauses {M = M} {𝓤 = 𝓤})
gmv_sender_timer = record {
  holds = gmv_sender_timer-reads.Learnt;
  says = λ M 𝓤 𝓛 mem run. refl;
  one = λ κs a z z' ws ws' h h'. once h h' (λ y. y.number) (λ y. (tt, (y.state, (y.report, tt))));
}

pub gmv_sender_block : Unique gmv_sender_block-contract.ended (λ M 𝓤. gmv_sender_block-contract.clauses {M = M} {𝓤 = 𝓤})
gmv_sender_block = record {
  holds = gmv_sender_block-reads.Learnt;
  says = λ M 𝓤 𝓛 mem run. refl;
  one = λ κs a z z' ws ws' h h'. once h h' (λ y. y.number) (λ y. (tt, (tt, (tt, (tt, (y.state, (y.report, tt)))))));
}

pub gmv_station_fresh : Unique gmv_station_fresh-contract.ended (λ M 𝓤. gmv_station_fresh-contract.clauses {M = M} {𝓤 = 𝓤})
gmv_station_fresh = record {
  holds = gmv_station_fresh-reads.Learnt;
  says = λ M 𝓤 𝓛 mem run. refl;
  one = λ κs a z z' ws ws' h h'. once h h' (λ y. y.number) (λ y. (y.state, tt));
}

pub gmv_station_open : Unique gmv_station_open-contract.ended (λ M 𝓤. gmv_station_open-contract.clauses {M = M} {𝓤 = 𝓤})
gmv_station_open = record {
  holds = gmv_station_open-reads.Learnt;
  says = λ M 𝓤 𝓛 mem run. refl;
  one = λ κs a z z' ws ws' h h'. once h h' (λ y. y.number) (λ y. (y.state, (y.report, tt)));
}

pub gmv_station_block : Unique gmv_station_block-contract.ended (λ M 𝓤. gmv_station_block-contract.clauses {M = M} {𝓤 = 𝓤})
gmv_station_block = record {
  holds = gmv_station_block-reads.Learnt;
  says = λ M 𝓤 𝓛 mem run. refl;
  one = λ κs a z z' ws ws' h h'. once h h' (λ y. y.number) (λ y. (tt, (tt, (tt, (y.buffer, (y.state, (y.report, tt)))))));
}

pub gmv_station_bad : Unique gmv_station_bad-contract.ended (λ M 𝓤. gmv_station_bad-contract.clauses {M = M} {𝓤 = 𝓤})
gmv_station_bad = record {
  holds = gmv_station_bad-reads.Learnt;
  says = λ M 𝓤 𝓛 mem run. refl;
  one = λ κs a z z' ws ws' h h'. once h h' (λ y. y.number) (λ y. (y.state, (y.report, tt)));
}

pub gmv_station_enquiry : Unique gmv_station_enquiry-contract.ended (λ M 𝓤. gmv_station_enquiry-contract.clauses {M = M} {𝓤 = 𝓤})
gmv_station_enquiry = record {
  holds = gmv_station_enquiry-reads.Learnt;
  says = λ M 𝓤 𝓛 mem run. refl;
  one = λ κs a z z' ws ws' h h'. once h h' (λ y. y.number) (λ y. (y.state, (y.report, tt)));
}

pub gmv_station_end : Unique gmv_station_end-contract.ended (λ M 𝓤. gmv_station_end-contract.clauses {M = M} {𝓤 = 𝓤})
gmv_station_end = record {
  holds = gmv_station_end-reads.Learnt;
  says = λ M 𝓤 𝓛 mem run. refl;
  one = λ κs a z z' ws ws' h h'. once h h' (λ y. y.number) (λ y. (y.state, (y.report, tt)));
}

pub gmv_station_bare_enq : Unique gmv_station_bare_enq-contract.ended (λ M 𝓤. gmv_station_bare_enq-contract.clauses {M = M} {𝓤 = 𝓤})
gmv_station_bare_enq = record {
  holds = gmv_station_bare_enq-reads.Learnt;
  says = λ M 𝓤 𝓛 mem run. refl;
  one = λ κs a z z' ws ws' h h'. once h h' (λ y. y.number) (λ y. (y.state, (y.report, tt)));
}

pub gmv_station_interrupt : Unique gmv_station_interrupt-contract.ended (λ M 𝓤. gmv_station_interrupt-contract.clauses {M = M} {𝓤 = 𝓤})
gmv_station_interrupt = record {
  holds = gmv_station_interrupt-reads.Learnt;
  says = λ M 𝓤 𝓛 mem run. refl;
  one = λ κs a z z' ws ws' h h'. once h h' (λ y. y.number) (λ y. (y.state, (y.report, tt)));
}

pub gmv_version : Unique gmv_version-contract.ended (λ M 𝓤. gmv_version-contract.clauses {M = M} {𝓤 = 𝓤})
gmv_version = record {
  holds = gmv_version-reads.Learnt;
  says = λ M 𝓤 𝓛 mem run. refl;
  one = λ κs a z z' ws ws' h h'. (h ∙ sym h', refl);
}
