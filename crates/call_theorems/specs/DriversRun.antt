-- Which acts of the link an act of the drivers is.
use Rattle.std.specs.Prelude.{List, [], ◌∷◌, ◌++◌, Bool, false, cond, ◌&&◌, ℕ, zero, suc, take, eqb, Option, Some, None}
use Rattle.lists.specs.Bytes.{same}
use Rattle.lists.specs.Outcome.{Called}
use Rattle.receiver_calls.specs.ReceiverCalls.{application_from, is_type}
use Rattle.receiver.specs.declared.Application.{Application}
use Rattle.link.specs.System.{SystemAct, opens as link_opens, ends as link_ends, resets as link_resets, timer as link_timer, submits as link_submits, sender_persists, sender_writes, sender_forgets, sender_reads}
use Rattle.link.specs.System.{sender_acts, sender_discards, sender_restores, sender_crashes, receiver_reads as link_receiver_reads, receiver_decides, receiver_reports, receiver_naks, receiver_discards, receiver_persists, receiver_writes}
use Rattle.link.specs.System.{receiver_restores as link_receiver_restores, receiver_crashes as link_receiver_crashes, damages_forward as link_damages_forward, damages_back as link_damages_back}
use Rattle.call_theorems.specs.Reading.{Shown, used_bytes}
use Rattle.call_theorems.specs.Driver.{Passed, Named, Drivers, DriverAct, read_bytes, block_of_named, enough_to_read, enough_to_send, enough_to_receive, driven_by}
use Rattle.call_theorems.specs.Driver.{opens, ends, resets, timer, submits, stores, restores, receiver_stores, receiver_restores, replies, sends, forgets, reads, takes, drops, receiver_reads, receiver_drops}
use Rattle.call_theorems.specs.Driver.{decides, answers, naks, replaces, receiver_replaces, tries, crashes, receiver_crashes, damages_forward, damages_back}

unfoldable pub repeated : ℕ → SystemAct → List SystemAct
repeated zero a = []
repeated (suc n) a = a ∷ repeated n a

abbrev pub once : Bool → SystemAct → List SystemAct
once b a = cond b (a ∷ []) []

-- each byte that a call used
abbrev pub readings : Called → SystemAct → List SystemAct
readings c a = cond (eqb c.number 0) (repeated (used_bytes c) a) []

-- whether the oldest message named goes out
abbrev pub goes_out : Passed → ℕ → Drivers → List Named → Bool
goes_out k start x [] = false
goes_out k start x (v ∷ ns) = eqb (block_of_named k start x.sender.memory v).number 0 && same (take 5 x.sender.memory.state) x.sender.stored

-- a decision on the oldest block that was read, if it was accepted and the numbers stand for something
abbrev pub decides_on : Option Application → List Shown → List SystemAct
decides_on None ws = []
decides_on (Some a) [] = []
decides_on (Some a) (w ∷ ws) = once (eqb w.number 0 && is_type w.type) (receiver_decides 0 a)

abbrev pub acts_of : Passed → DriverAct → Drivers → List SystemAct
acts_of k (opens r q) x = once (enough_to_read k.link.settings r && enough_to_read k.link.settings q) link_opens
acts_of k ends x = link_ends ∷ []
acts_of k resets x = link_resets ∷ []
acts_of k timer x = link_timer ∷ []
acts_of k (submits limit d) x = link_submits limit d ∷ []
acts_of k stores x = sender_persists ∷ []
acts_of k restores x = sender_restores ∷ []
acts_of k (sends start) x = once (goes_out k start x x.sender.named) (sender_writes 0)
acts_of k (forgets n) x = sender_forgets n ∷ []
acts_of k (reads n) x = readings (read_bytes k.numbers n x.sender.memory.reader x.back) sender_reads
acts_of k (takes n) x = sender_acts n ∷ []
acts_of k (drops n) x = sender_discards n ∷ []
acts_of k (crashes m) x = once (enough_to_send k.link.settings m) sender_crashes
acts_of k (receiver_reads n) x = readings (read_bytes k.numbers n x.receiver.memory.reader x.forward) link_receiver_reads
acts_of k (decides application) x = decides_on (application_from application) x.receiver.arrived
acts_of k (answers success start) x = receiver_reports success start x.receiver.memory.reply ∷ []
acts_of k (naks number start) x = receiver_naks number start x.receiver.memory.reply ∷ []
acts_of k (receiver_drops n) x = receiver_discards n ∷ []
acts_of k receiver_stores x = receiver_persists ∷ []
acts_of k replies x = receiver_writes ∷ []
acts_of k receiver_restores x = link_receiver_restores ∷ []
acts_of k (receiver_crashes m) x = once (enough_to_receive k.link.settings m) link_receiver_crashes
-- only memory changes
acts_of k (replaces p v b w) x = []
acts_of k (receiver_replaces d p v b) x = []
acts_of k (tries application) x = []
acts_of k (damages_forward xs) x = link_damages_forward xs ∷ []
acts_of k (damages_back xs) x = link_damages_back xs ∷ []

-- the run of the link that a run of the drivers is
unfoldable pub link_run : Passed → Drivers → List DriverAct → List SystemAct
link_run k x [] = []
link_run k x (a ∷ ds) = acts_of k a (driven_by k x ds) ++ link_run k x ds
