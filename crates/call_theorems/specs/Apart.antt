-- The two drivers of Driver.antt change circuit at different moments: the sender's opens the next one, and the receiver's still acts on the old one until it notices.
use Rattle.std.specs.Prelude.{List, [], ◌∷◌, Bool, true, false, ◌&&◌}
use Rattle.link.specs.Line.{empty_line}
use Rattle.call_theorems.specs.Driver.{Passed, ReaderMemory, SenderEnd, ReceiverEnd, Drivers, drivers, receiver_memory, receiver_end, fresh_reader, after_driver, driven_by}
use Rattle.call_theorems.specs.Driver.{DriverAct, opens, ends, resets, timer, submits, stores, restores, receiver_stores, receiver_restores, replies, sends, forgets, reads, takes, drops}
use Rattle.call_theorems.specs.Driver.{receiver_reads, receiver_drops, decides, answers, naks, replaces, receiver_replaces, tries, crashes, receiver_crashes, damages_forward, damages_back}

-- what the sender's driver does by itself on a circuit, and what happens on its lines
abbrev pub of_sender : DriverAct → Bool
of_sender ends = true
of_sender resets = true
of_sender timer = true
of_sender (submits limit d) = true
of_sender stores = true
of_sender restores = true
of_sender (sends start) = true
of_sender (forgets n) = true
of_sender (reads n) = true
of_sender (takes n) = true
of_sender (drops n) = true
of_sender (replaces p v b w) = true
of_sender (crashes m) = true
of_sender (damages_forward xs) = true
of_sender (damages_back xs) = true
of_sender (opens r q) = false
of_sender receiver_stores = false
of_sender receiver_restores = false
of_sender replies = false
of_sender (receiver_reads n) = false
of_sender (receiver_drops n) = false
of_sender (decides a) = false
of_sender (answers b start) = false
of_sender (naks n start) = false
of_sender (receiver_replaces d p v b) = false
of_sender (tries a) = false
of_sender (receiver_crashes m) = false

-- and the receiver's
abbrev pub of_receiver : DriverAct → Bool
of_receiver receiver_stores = true
of_receiver receiver_restores = true
of_receiver replies = true
of_receiver (receiver_reads n) = true
of_receiver (receiver_drops n) = true
of_receiver (decides a) = true
of_receiver (answers b start) = true
of_receiver (naks n start) = true
of_receiver (receiver_replaces d p v b) = true
of_receiver (tries a) = true
of_receiver (receiver_crashes m) = true
of_receiver (damages_forward xs) = true
of_receiver (damages_back xs) = true
of_receiver (opens r q) = false
of_receiver ends = false
of_receiver resets = false
of_receiver timer = false
of_receiver (submits limit d) = false
of_receiver stores = false
of_receiver restores = false
of_receiver (sends start) = false
of_receiver (forgets n) = false
of_receiver (reads n) = false
of_receiver (takes n) = false
of_receiver (drops n) = false
of_receiver (replaces p v b w) = false
of_receiver (crashes m) = false

abbrev pub all_of : (DriverAct → Bool) → List DriverAct → Bool
all_of p [] = true
all_of p (a ∷ ds) = p a && all_of p ds

abbrev pub with_receiver : ReceiverEnd → Drivers → Drivers
with_receiver e x = drivers x.sender e x.forward x.back

-- the receiver's driver goes over to the new circuit: what it decided and stored on the old one stands, and a decision that is open stays open; all else of it is dropped
abbrev pub gone_over : ReaderMemory → ReceiverEnd → ReceiverEnd
gone_over q e =
    let n = e.memory in
    receiver_end (receiver_memory n.state n.decision n.report (fresh_reader q) n.reply) e.stored e.stored_has e.noted e.reports [] []

-- the sender's driver opens a circuit and does the acts ds on it; the receiver's does the acts rs on the old one and then goes over
abbrev pub opens_apart : Passed → ReaderMemory → ReaderMemory → Drivers → List DriverAct → List DriverAct → Drivers
opens_apart k r q x ds rs = with_receiver (gone_over q (driven_by k x rs).receiver) (driven_by k (after_driver k (opens r q) x) ds)

abbrev pub with_sender : SenderEnd → Drivers → Drivers
with_sender e x = drivers e x.receiver x.forward x.back

-- the receiver's driver is on the new circuit, with its own lines, before the sender's has opened it
abbrev pub gone_first : ReaderMemory → Drivers → Drivers
gone_first q x = drivers x.sender (gone_over q x.receiver) empty_line empty_line

-- the sender's driver does the acts ds on the old circuit and then opens the next; the receiver's does the acts rs on that one, so reports a decision that it made on the old one, and replies
abbrev pub opens_later : Passed → ReaderMemory → ReaderMemory → Drivers → List DriverAct → List DriverAct → Drivers
opens_later k r q x ds rs = with_sender (after_driver k (opens r q) (driven_by k x ds)).sender (driven_by k (gone_first q x) rs)
