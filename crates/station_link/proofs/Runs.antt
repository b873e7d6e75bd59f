-- Computed runs: into each way to end, the line turned round, and one that breaks each premise and each reading that is not taken.
use mathlib.Core.Path.{◌≡◌, refl, ap}
use mathlib.Core.List.{List, [], ◌∷◌}
use mathlib.Core.Bool.{true, false}
use Prim.Native.Nat.{ℕ, zero, suc, ◌≤◌}
use native.Mathlib.Omega.{arith}
use lib.ListN.{length, replicate}
use Rattle.lists.specs.Bytes.{bytes, put}
use Rattle.station.specs.Station.{next_number, precedes, good_block_of, bad_block_of, eot_of}
use Rattle.station.specs.Interrupt.{turn_after, reply_given, turn_then, answered_of, number_before, bare_enq_of, interrupt_of}
use Rattle.station.specs.History.{Unit, Block, block, expected_after, text_held, messages_of, past_of, station_run}
use Rattle.station.specs.Retransmission.{replies_to}
use Rattle.fragments.specs.Fragments.{fragments_of, divided_in, extent_at}
use Rattle.master.specs.Master.{block_number, resend_of, acknowledged_of, accepted_of, ack_of, start_of, master_reply_of, timer_a_of, close_of}
use Rattle.master.specs.Reversal.{answer_of, reversed_of, enquire_of, may_receive_of, count_in}
use Rattle.master.specs.declared.Response.{Response}
use Rattle.master.specs.declared.End.{End}
use Rattle.master.specs.declared.End.TheVariants.{Failed, BySlave, ByDriver, Reversed}
use Rattle.station_link.specs.System.{lost_at, replaced_at, inserted_at, as_bad, as_enquiry, System, beginning, link_act}
use Rattle.station_link.specs.System.{LinkAct, starts, timer_runs, closes, enquires, may_receive, slave_opens, grants, asks_rint, arrives, arrives_unstored, reply_arrives, slave_ends, loses, loses_reply, damages, damages_reply, disturbs}
use Rattle.station_link.specs.Promise.{oldest_first, messages_started, accepted, handed, Safe}
use Rattle.station_link.specs.Needed.{unit_at, newest_no_nak, overtakes, master_reopens, slave_reopens, numbers_restart, turns_into_nak, enq_without_nak, duplicate_rint, rint_after_enq_only, damaged_noted, Step, act, breach, step_run, old_ack}

-- a buffer of so many bytes
abbrev buffer : ℕ → List ℕ
buffer n = replicate n 0

-- what is seen of a run
record Seen : Type 0 where
  handed : List (List ℕ)
  stored : List (List ℕ)
  blocks : ℕ
  count : ℕ
  done : ℕ
  ended : End

abbrev seen : ℕ → System → Seen
seen n y =
    record {
      handed = oldest_first (handed (buffer n) y);
      stored = oldest_first y.receiving.stored;
      blocks = length (accepted (buffer n) y);
      count = count_in y.sending.master;
      done = y.sending.done;
      ended = y.sending.ended;
    }

-- messages handed over and stored
abbrev got : List (List ℕ) → ℕ → ℕ → ℕ → End → Seen
got ms blocks count done ended = record { handed = ms; stored = ms; blocks = blocks; count = count; done = done; ended = ended }

abbrev run : ℕ → List Step → System
run n xs = step_run (buffer n) beginning xs

-- ---- parts of runs
-- a block there and its ACK back
abbrev passes : ℕ → List Step → List Step
passes zero xs = xs
passes (suc n) xs = act arrives ∷ act reply_arrives ∷ passes n xs

abbrev times : ℕ → LinkAct → List Step → List Step
times zero x xs = xs
times (suc n) x xs = act x ∷ times n x xs

-- an early timer for a block of which n copies are in flight then
abbrev early : ℕ → List Step → List Step
early n xs = act timer_runs ∷ times (suc n) arrives (times (suc n) reply_arrives xs)

abbrev overtaken : ℕ → List Step → List Step
overtaken zero xs = xs
overtaken (suc n) xs = breach (overtakes 1) ∷ act arrives ∷ act reply_arrives ∷ overtaken n xs

abbrev m1 : List ℕ
m1 = bytes "potassium 7.1"

abbrev m2 : List ℕ
m2 = []

abbrev m9 : List ℕ
m9 = bytes "abcdefghi"

abbrev stat : List ℕ
stat = bytes "stat"

-- ---- the ways to end
-- 13 bytes at 2 are seven blocks, the empty message is one, 13 at 1 are thirteen: 21 blocks, losses and damage both ways
abbrev busy : List Step
busy =
    act slave_opens ∷ act (starts m1 2) ∷ act (loses 0) ∷ act timer_runs ∷ act arrives ∷ act (loses_reply 0) ∷ act timer_runs ∷ act arrives ∷ act reply_arrives
    ∷ act (damages 0 as_bad) ∷ act arrives ∷ act reply_arrives ∷ act timer_runs ∷ act arrives ∷ act (damages_reply 0 false) ∷ act arrives ∷ act reply_arrives ∷ act reply_arrives
    ∷ passes 5 (act (starts m2 9) ∷ act (disturbs 0 as_enquiry) ∷ passes 3 (act (starts m1 1) ∷ passes 14 (act closes ∷ act arrives ∷ [])))

-- a bid that was granted twice: the second ACK 0 resends block 1
abbrev granted_twice : List Step
granted_twice =
    act slave_opens ∷ act (grants true) ∷ act (starts m1 20) ∷ act reply_arrives ∷ act arrives ∷ act arrives ∷ act reply_arrives ∷ act reply_arrives ∷ act closes ∷ []

-- ---- the line is turned round: the report is under way, RINT is asked for, given and taken, leave is given, and EOT ends it
abbrev turned : List Step
turned = act slave_opens ∷ act (starts m1 2) ∷ passes 3 (act asks_rint ∷ passes 1 (act may_receive ∷ passes 1 (act arrives ∷ [])))

-- the other way round, over lines that are empty again; and then the report once more
abbrev whole : List ℕ → ℕ → ℕ → List Step
whole m size blocks = act slave_opens ∷ act (starts m size) ∷ passes blocks (act closes ∷ act arrives ∷ [])

-- leave with no block out, and with the message's last block out
abbrev turned_idle : List Step
turned_idle = act slave_opens ∷ act asks_rint ∷ act (starts m1 20) ∷ passes 1 (act may_receive ∷ act arrives ∷ [])

abbrev turned_done : List Step
turned_done = act slave_opens ∷ act asks_rint ∷ act (starts m1 20) ∷ passes 1 (act (starts m9 20) ∷ act may_receive ∷ passes 1 (act arrives ∷ []))

-- RINT rightly refused: after a NAK and an ENQ, where it was an acceptance; and after a RINT, where it was none. The block gets through.
abbrev refused-after_nak : List Step
refused-after_nak =
    act slave_opens ∷ act (starts m1 20) ∷ act (damages 0 as_bad) ∷ passes 1 (act asks_rint ∷ act arrives ∷ act (loses_reply 0) ∷ act enquires ∷ passes 2 (act closes ∷ act arrives ∷ []))

abbrev refused-after_rint : List Step
refused-after_rint =
    act slave_opens ∷ act asks_rint ∷ act (starts m1 7) ∷ passes 1 (act (loses 0) ∷ act enquires ∷ passes 2 (act closes ∷ act arrives ∷ []))

-- the RINT is lost: the ACK of the block sent again says nothing of the wish, and the driver asks again (Q-2)
abbrev lost_rint : List Step
lost_rint =
    act slave_opens ∷ act asks_rint ∷ act (starts m1 2) ∷ act arrives ∷ act (loses_reply 0) ∷ act timer_runs ∷ passes 1 (act asks_rint ∷ passes 1 (act may_receive ∷ passes 1 (act arrives ∷ [])))

pub record Ways : Type 0 where
  busy_is : seen 16 (run 16 busy) ≡ got (m1 ∷ m2 ∷ m1 ∷ []) 21 21 3 ByDriver
  closed_at_once : seen 0 (run 0 (act closes ∷ [])) ≡ got [] 0 0 0 ByDriver
  -- nobody answers: five resends, then failure
  fails : seen 16 (run 16 (act (starts m1 20) ∷ times 6 timer_runs [])) ≡ got [] 0 0 0 Failed
  -- failure though the message arrived: every ACK was lost (DECISIONS.md, M-7)
  fails_arrived : seen 16 (run 16 (act slave_opens ∷ act (starts m1 20) ∷ act arrives ∷ act (loses_reply 0) ∷ times 6 timer_runs [])) ≡ got (m1 ∷ []) 1 0 0 Failed
  -- the message does not fit the slave's buffer: the station gives EOT
  too_long : seen 12 (run 12 (act slave_opens ∷ act (starts m1 5) ∷ passes 3 [])) ≡ got [] 2 2 0 BySlave
  -- the slave's driver cannot store: EOT in place of the ACK, and the count is one short
  unstored : seen 16 (run 16 (act slave_opens ∷ act (starts m1 20) ∷ act arrives_unstored ∷ act reply_arrives ∷ []))
      ≡ record { handed = m1 ∷ []; stored = []; blocks = 1; count = 0; done = 0; ended = BySlave }
  -- one early timer for each of six blocks, on a line that loses nothing: each leaves one more copy of every later block in flight, and the sixth ends the
  -- opening (DECISIONS.md, M-5)
  early_timers : seen 16 (run 16 (act slave_opens ∷ act (starts m1 1) ∷ early 1 (early 2 (early 3 (early 4 (early 5 (act timer_runs ∷ []))))))) ≡ got [] 5 5 0 Failed
  granted_again : seen 16 (run 16 granted_twice) ≡ got (m1 ∷ []) 1 1 1 ByDriver
  -- the line turned round: the slave is closed and has forgotten the report, and nothing is on the way
  reversed : seen 16 (run 16 turned) ≡ got [] 5 5 0 Reversed
  forgotten : (past_of 16 (run 16 turned).receiving.received).closed ≡ true
  forward_empty : ◌≡◌ {A = List Unit} (run 16 turned).forward []
  backward_empty : ◌≡◌ {A = List Response} (run 16 turned).backward []
  stat_arrives : seen 16 (run 16 (whole stat 20 1)) ≡ got (stat ∷ []) 1 1 1 ByDriver
  report_arrives : seen 16 (run 16 (whole m1 2 7)) ≡ got (m1 ∷ []) 7 7 1 ByDriver
  reversed_idle : seen 16 (run 16 turned_idle) ≡ got (m1 ∷ []) 1 1 1 Reversed
  reversed_done : seen 16 (run 16 turned_done) ≡ got (m1 ∷ m9 ∷ []) 2 2 2 Reversed
  after_nak : seen 16 (run 16 refused-after_nak) ≡ got (m1 ∷ []) 1 1 1 ByDriver
  after_rint : seen 16 (run 16 refused-after_rint) ≡ got (m1 ∷ []) 2 2 1 ByDriver
  asked_again : seen 16 (run 16 lost_rint) ≡ got [] 3 3 0 Reversed

pub ways : Ways
unfolding step_run link_act lost_at replaced_at inserted_at oldest_first station_run past_of expected_after text_held messages_of good_block_of bad_block_of eot_of next_number precedes put turn_after reply_given turn_then answered_of number_before bare_enq_of interrupt_of fragments_of divided_in extent_at block_number resend_of acknowledged_of accepted_of ack_of start_of master_reply_of timer_a_of close_of answer_of reversed_of enquire_of may_receive_of
ways =
    record {
      busy_is = refl;
      closed_at_once = refl;
      fails = refl;
      fails_arrived = refl;
      too_long = refl;
      unstored = refl;
      early_timers = refl;
      granted_again = refl;
      reversed = refl;
      forgotten = refl;
      forward_empty = refl;
      backward_empty = refl;
      stat_arrives = refl;
      report_arrives = refl;
      reversed_idle = refl;
      reversed_done = refl;
      after_nak = refl;
      after_rint = refl;
      asked_again = refl;
    }

-- ---- each premise is needed, and each reading
-- order is not kept: a copy of block 1 is overtaken by blocks 2 to 8, and taken for block 9
abbrev disordered : List Step
disordered = act slave_opens ∷ act (starts m9 1) ∷ act timer_runs ∷ act arrives ∷ act reply_arrives ∷ overtaken 7 (act arrives ∷ [])

-- an old ACK is on the line at the start: it acknowledges a block that was lost
abbrev old_reply : System
old_reply = step_run (buffer 16) (old_ack 1) (act slave_opens ∷ act (starts m1 20) ∷ act (loses 0) ∷ act reply_arrives ∷ [])

-- the master opens again, its closing EOT was lost and the slave's driver did not open: a message is reported done that nobody has (DECISIONS.md, M-3)
abbrev reopened : List Step
reopened = act slave_opens ∷ act (starts m1 20) ∷ passes 1 (act closes ∷ act (loses 0) ∷ breach master_reopens ∷ act (starts m9 20) ∷ passes 1 [])

-- the slave's station is opened again while the eighth block is out, which is lost: the ACK 0 of the opening acknowledges it (DECISIONS.md, Q-24)
abbrev regranted : List Step
regranted = act slave_opens ∷ act (starts m9 1) ∷ passes 7 (act (loses 0) ∷ act (slave_ends false) ∷ breach slave_reopens ∷ act reply_arrives ∷ [])

-- a message of one block is accepted, its ACK is lost, and the station is opened again: the ACK 0 has the block sent again, and it is stored twice
abbrev stored_twice : List Step
stored_twice =
    act slave_opens ∷ act (starts m1 20) ∷ act arrives ∷ act (loses_reply 0) ∷ act (slave_ends false) ∷ breach slave_reopens ∷ act reply_arrives ∷ act arrives ∷ []

-- numbers that begin anew with each message: the second is taken for a copy of the first (DECISIONS.md, M-2)
abbrev restarted : List Step
restarted = act slave_opens ∷ act (starts m1 20) ∷ passes 1 (breach numbers_restart ∷ act (starts m9 20) ∷ passes 1 [])

-- RINT three times, of which the second turns into a NAK: the third is taken, as the block was sent last, and it was lost (M-27)
abbrev three_rints : List Step → List Step
three_rints xs = act slave_opens ∷ act asks_rint ∷ act (starts m9 1) ∷ act enquires ∷ act enquires ∷ times 3 arrives (act reply_arrives ∷ act (loses 0) ∷ xs)

abbrev turned_nak : List Step
turned_nak = three_rints (breach (turns_into_nak 0) ∷ act reply_arrives ∷ act (loses 0) ∷ act reply_arrives ∷ [])

-- the second is damaged, and counts as the reply before the third (Q-4)
abbrev damaged_counts : List Step
damaged_counts = three_rints (act (damages_reply 0 false) ∷ breach damaged_noted ∷ act reply_arrives ∷ [])

-- a slave that gives its last ACK or RINT again, and no NAK (Q-1)
abbrev nak_skipped : List Step
nak_skipped =
    act slave_opens ∷ act asks_rint ∷ act (starts m9 1) ∷ passes 1 (act (damages 0 as_bad) ∷ act enquires ∷ passes 1 (act (loses 1) ∷ breach enq_without_nak ∷ act reply_arrives ∷ []))

-- a slave that answers a duplicate of the block that got RINT by RINT (Q-2)
abbrev duplicate_rint_run : List Step
duplicate_rint_run =
    act slave_opens ∷ act asks_rint ∷ act (starts m9 1) ∷ act timer_runs ∷ act timer_runs ∷ act (damages 1 as_bad) ∷ act arrives ∷ act arrives ∷ breach duplicate_rint ∷ act reply_arrives
    ∷ act (loses 0) ∷ act reply_arrives ∷ act (loses 0) ∷ act reply_arrives ∷ []

-- a master that refuses a RINT after a RINT only where it sent ENQ last (Q-3)
abbrev only-after_enq : List Step
only-after_enq = act slave_opens ∷ act asks_rint ∷ act (starts m9 1) ∷ act enquires ∷ times 2 arrives (act reply_arrives ∷ act (loses 0) ∷ breach rint_after_enq_only ∷ [])

-- the first byte of the block accepted last, or sent last
abbrev first_byte : List Block → ℕ
first_byte [] = 0
first_byte (block x [] ∷ bs) = 0
first_byte (block x (c ∷ cs) ∷ bs) = c

abbrev Broken : System → Type 0
Broken y = Safe (buffer 16) y → ⊥

pub record Needed : Type 0 where
  order : Broken (run 16 disordered)
  empty_line_lem : Broken old_reply
  one_opening : Broken (run 16 reopened)
  one_slave_opening : Broken (run 16 regranted)
  stored-once : Broken (run 16 stored_twice)
  numbers_go_on : Broken (run 16 restarted)
  no_nak : Broken (run 16 turned_nak)
  undamaged_only : Broken (run 16 damaged_counts)
  naks_again : Broken (run 16 nak_skipped)
  duplicates_acknowledged : Broken (run 16 duplicate_rint_run)
  rint_after_rint : Broken (run 16 only-after_enq)

more_counted : 2 ≤ 1 → ⊥
more_counted e = omega (arith, e)

pub needed : Needed
unfolding step_run link_act lost_at replaced_at inserted_at oldest_first station_run past_of expected_after text_held messages_of good_block_of bad_block_of eot_of next_number precedes put turn_after reply_given turn_then answered_of number_before bare_enq_of interrupt_of fragments_of divided_in extent_at block_number resend_of acknowledged_of accepted_of ack_of start_of master_reply_of timer_a_of close_of answer_of reversed_of enquire_of may_receive_of unit_at replies_to newest_no_nak messages_started
needed =
    record {
      order = λ s. let e : ◌≡◌ {A = ℕ} 97 105 = ap (λ (l : List Block). first_byte (oldest_first l)) s.accepted_first in absurd (omega (arith, e));
      empty_line_lem = λ s. let e : 1 ≤ 0 = s.count_most in absurd (omega (arith, e));
      one_opening = λ s. more_counted s.done_most;
      one_slave_opening = λ s. let e : 8 ≤ 0 = s.count_most in absurd (omega (arith, e));
      stored-once = λ s. let e : ◌≡◌ {A = ℕ} 2 1 = ap length s.stored_first in absurd (omega (arith, e));
      numbers_go_on = λ s. more_counted s.done_most;
      no_nak = λ s. more_counted s.count_most;
      undamaged_only = λ s. more_counted s.count_most;
      naks_again = λ s. more_counted s.count_most;
      duplicates_acknowledged = λ s. more_counted s.count_most;
      rint_after_rint = λ s. more_counted s.count_most;
    }
