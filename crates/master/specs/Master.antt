-- 02, §3, the X3.28 sending station (000, C.3.1.4 to C.3.3 and C.3.6): what it sends now, and what happened.
use Rattle.std.specs.Prelude.{Bool, true, false, cond, ◌&&◌, ◌||◌, ℕ, ◌+◌, ◌%◌, leb, ltb, eqb}
use Rattle.lists.specs.Bytes.{greatest_word}
use Rattle.lists.specs.Outcome.{need}
use Rattle.refusal.specs.Refusal.{SETTING, STATE}
use Rattle.fragments.specs.Fragments.{extent_at}
use Rattle.station.specs.Station.{next_number, precedes}
use Rattle.station.specs.declared.Ending.{Ending}
use Rattle.station.specs.declared.Ending.TheVariants.{Etb, Etx}
use Rattle.master.specs.declared.Outstanding.{Outstanding}
use Rattle.master.specs.declared.Master.{Master}
use Rattle.master.specs.declared.Master.TheVariants.{Closed, Idle, Waiting}
use Rattle.master.specs.declared.Response.{Response}
use Rattle.master.specs.declared.Response.TheVariants.{Ack, Nak, Eot, Damaged, Rint}
use Rattle.master.specs.declared.BlockPart.{BlockPart}
use Rattle.master.specs.declared.Transmission.{Transmission}
use Rattle.master.specs.declared.Transmission.TheVariants.{Nothing, SendBlock, SendEot}
use Rattle.master.specs.declared.Progress.{Progress}
use Rattle.master.specs.declared.Progress.TheVariants.{NoProgress, Acknowledged, Done}
use Rattle.master.specs.declared.End.{End}
use Rattle.master.specs.declared.End.TheVariants.{NotEnded, Failed, BySlave, ByDriver}
use Rattle.master.specs.declared.MasterActed.{MasterActed}

-- the message's length, its block size, where the block out begins, its resends, and the count of acknowledged blocks
abbrev pub outstanding : ℕ → ℕ → ℕ → ℕ → ℕ → Outstanding
outstanding n size offset resends count =
    record { message_length = n; block_size = size; offset = offset; resends = resends; count = count }

-- the number of the block after so many acknowledged ones: numbers go on from message to message, 1 after an opening
unfoldable pub block_number : ℕ → ℕ
block_number count = next_number (count % 8)

-- what is a master: a block size of 0, more than five resends, or an offset behind the message are none
abbrev pub valid_outstanding : Outstanding → Bool
valid_outstanding o =
    leb 1 o.block_size && (leb o.resends 5 && (eqb o.offset 0 || ltb o.offset o.message_length))

abbrev pub valid_master : Master → Bool
valid_master (Closed count) = true
valid_master (Idle count) = true
valid_master (Waiting o) = valid_outstanding o

-- ---- the block out: "ETB on all but the last"
abbrev pub ending_of_part : Bool → Ending
ending_of_part true = Etx
ending_of_part false = Etb

abbrev pub is_last : Outstanding → Bool
is_last o = (extent_at o.message_length o.block_size o.offset).last

abbrev pub block_out : Outstanding → BlockPart
block_out o =
    record {
      number = block_number o.count;
      ending = ending_of_part (is_last o);
      offset = o.offset;
      length = (extent_at o.message_length o.block_size o.offset).length;
    }

-- ---- what an act answers: the master then, what to send now, and what happened
abbrev pub master_acted : Master → Transmission → Progress → End → MasterActed
master_acted m t p e = record { refusal = 0; master = m; send = t; progress = p; end = e }

-- "change nothing"
abbrev pub unchanged : Master → MasterActed
unchanged m = master_acted m Nothing NoProgress NotEnded

abbrev pub refused_master : ℕ → Master → MasterActed
refused_master n m = record { refusal = n; master = m; send = Nothing; progress = NoProgress; end = NotEnded }

-- a block goes out, for the first time or again
abbrev pub sends_out : Progress → Outstanding → MasterActed
sends_out p o = master_acted (Waiting o) (SendBlock (block_out o)) p NotEnded

-- "resends .. at most 5 times a block (000's L); the next time it sends EOT and reports failure"
abbrev pub resent : Outstanding → Outstanding
resent o = outstanding o.message_length o.block_size o.offset (o.resends + 1) o.count

unfoldable pub resend_of : Outstanding → MasterActed
resend_of o = cond (leb 5 o.resends) (master_acted (Closed o.count) SendEot NoProgress Failed) (sends_out NoProgress (resent o))

-- "takes the matching ACK as leave to go on": the next block, or the message is done
abbrev pub next_out : Outstanding → Outstanding
next_out o = outstanding o.message_length o.block_size (o.offset + o.block_size) 0 (o.count + 1)

unfoldable pub acknowledged_of : Outstanding → MasterActed
acknowledged_of o = cond (is_last o) (master_acted (Idle (o.count + 1)) Nothing Done NotEnded) (sends_out Acknowledged (next_out o))

-- one that could not be counted is not taken
unfoldable pub accepted_of : Outstanding → MasterActed
accepted_of o = cond (eqb o.count greatest_word) (unchanged (Waiting o)) (acknowledged_of o)

-- "resends .. on ACK with the number just before (0 for 1)"; "Other ACK numbers .. change nothing"
unfoldable pub ack_of : ℕ → Outstanding → MasterActed
ack_of n o =
    cond (eqb n (block_number o.count)) (accepted_of o)
    (cond (precedes n (block_number o.count)) (resend_of o) (unchanged (Waiting o)))

-- "An EOT from the slave ends it at once, that block counted as not accepted."
abbrev pub ended_by_slave : ℕ → MasterActed
ended_by_slave count = master_acted (Closed count) Nothing NoProgress BySlave

-- with a block out: "resends on NAK"; "damaged replies change nothing"; 02, §14: RINT "as acceptance", or "no acceptance": "the block out .. is sent again"
abbrev pub waiting_reply : Bool → Response → Outstanding → MasterActed
waiting_reply refuses (Ack n) o = ack_of n o
waiting_reply refuses Nak o = resend_of o
waiting_reply refuses Eot o = ended_by_slave o.count
waiting_reply refuses Damaged o = unchanged (Waiting o)
waiting_reply refuses Rint o = cond refuses (resend_of o) (accepted_of o)

-- "with no block out only EOT acts"
abbrev pub idle_reply : Response → ℕ → MasterActed
idle_reply (Ack n) count = unchanged (Idle count)
idle_reply Nak count = unchanged (Idle count)
idle_reply Eot count = ended_by_slave count
idle_reply Damaged count = unchanged (Idle count)
idle_reply Rint count = unchanged (Idle count)

-- ---- the acts
-- the driver opens, at any time: block 1 is next, and nothing is sent
abbrev pub opened_master : MasterActed
opened_master = unchanged (Idle 0)

-- the driver starts a message of n bytes: "1 for a block size of 0, 11 for starting while busy"
abbrev pub start_now : ℕ → ℕ → Master → MasterActed
start_now n size (Closed count) = refused_master STATE (Closed count)
start_now n size (Idle count) = sends_out NoProgress (outstanding n size 0 0 count)
start_now n size (Waiting o) = refused_master STATE (Waiting o)

unfoldable pub start_of : ℕ → ℕ → Master → MasterActed
start_of n size m = need (leb 1 size) (refused_master SETTING m) (start_now n size m)

-- a reply arrived; whether a RINT is no acceptance now is 02, §14's (`Reversal.refuses_rint`)
unfoldable pub master_reply_of : Bool → Response → Master → MasterActed
master_reply_of refuses r (Closed count) = unchanged (Closed count)
master_reply_of refuses r (Idle count) = idle_reply r count
master_reply_of refuses r (Waiting o) = need (valid_outstanding o) (refused_master STATE (Waiting o)) (waiting_reply refuses r o)

-- "or on Timer A"
unfoldable pub timer_a_of : Master → MasterActed
timer_a_of (Closed count) = unchanged (Closed count)
timer_a_of (Idle count) = unchanged (Idle count)
timer_a_of (Waiting o) = need (valid_outstanding o) (refused_master STATE (Waiting o)) (resend_of o)

-- "After the last ACK the driver .. closes with EOT"
unfoldable pub close_of : Master → MasterActed
close_of (Closed count) = refused_master STATE (Closed count)
close_of (Idle count) = master_acted (Closed count) SendEot NoProgress ByDriver
close_of (Waiting o) = refused_master STATE (Waiting o)
