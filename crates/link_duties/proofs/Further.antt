-- Where a duty has several sides: runs without it that show another side than its run in Counterexamples.antt does.
use Rattle.std.specs.Prelude.{None}
use mathlib.Core.Path.{◌≡◌, refl}
use mathlib.Core.List.{List, [], ◌∷◌, ◌++◌}
use mathlib.Core.Bool.{Bool, true, false, cond}
use Prim.Native.Nat.{ℕ}
use Prim.Native.Char.{code}
use native.Mathlib.Omega.{arith}
use lib.ListN.{length}
use Rattle.lists.specs.Bytes.{same, put}
use Rattle.settings.specs.Settings.{valid, valid_link}
use Rattle.settings.specs.declared.Kind.{Kind}
use Rattle.settings.specs.declared.Kind.TheVariants.{Hybrid, Minimal}
use Rattle.block.specs.Content.{content_of}
use Rattle.block.specs.Format.{five_digits, three_digits, count_field, checksum_of, hybrid_body, hybrid_block, minimal_block, block_of}
use Rattle.block.specs.Judge.{type_matches, header_ok, checksum_matches, judge_parts, data_of, judge_hybrid, judge_minimal, judge}
use Rattle.stream.specs.Stream.{end_verdict, move, run}
use Rattle.fields.specs.Fields.{field_start, field_of, bytes_of}
use Rattle.numbers.specs.Numbers.{number_field, decimal}
use Rattle.numbers.specs.declared.SequenceNumber.TheVariants.{MinusOne, Number}
use Rattle.header.specs.Header.{begins, readable_header, header_of, readable_answer, acknowledgment_of, code_field}
use Rattle.messages.specs.Messages.{answer_message, control_message, valid_control_id}
use Rattle.control_id.specs.ControlId.{packed, unpacked, in_words, word_bytes, bytes_in}
use Rattle.receiver.specs.Receiver.{valid_expected, row_of, is_row, carried, valid_receiver, decide_of, answer_of}
use Rattle.sender.specs.Sender.{valid_sender, submit_of, open_of, ended_of, timer_of, block_read_of}
use Rattle.sender.specs.declared.Persisted.{Persisted}
use Rattle.link.specs.Duties.{Duty, empties_lines, drops_verdicts, brings_nothing_late, persists_as_one, settles_writes, drops_named, drops_reports, survives, one_at, others_at}
use Rattle.link.specs.Line.{accepted_of, some_of, one_of, each_of}
use Rattle.link.specs.System.{System, nothing_left, request_of, beginning, run_of, SystemAct, opens, ends, timer, sender_reads, sender_writes, sender_acts, sender_restores, receiver_persists, receiver_writes}
use Rattle.link.specs.System.{receiver_restores, receiver_crashes, damages_back, persists_number, sender_reverts_to, brings_late_request}
use Rattle.link.specs.Promise.{Safe}
use Rattle.link.specs.Needed.{every_but}
use Rattle.link.specs.Example.{example_link}
use Rattle.link.proofs.Exchange.{blank}
use Rattle.link_duties.proofs.Counterexamples.{times, reversed, sends, reads, decides, reports_stored, receives, answered, exchanged, submitted, begun, landed, old_answer, answer_to, Case, case, seen, unstored, ahead, frozen}

-- Of drops_replies, of drops_verdicts at the receiver and of the line to the receiver no run is known at a later circuit: order is kept, so that what was left comes first.
-- Of drops_verdicts at the receiver at the first circuit: with_kept in Counterexamples.antt.
pub data Further : Type 0 where
  -- persists_as_one: the number without its transaction
  number_alone : Further
  -- survives: what the sender had persisted
  sender_reverts : Further
  -- brings_nothing_late: on the line to the receiver
  request_late : Further
  -- drops_named: where storing failed
  restored_named : Further
  -- settles_writes: where the host started again
  lands_restarted : Further
  -- drops_reports: where the host could not tell whether it stored, and went on from what is stored
  restored_report : Further
  -- empties_lines and drops_verdicts: at a later circuit of the same tenancy
  line_later verdict_later : Further

abbrev pub duty_of : Further → Duty
duty_of number_alone = persists_as_one
duty_of sender_reverts = survives
duty_of request_late = brings_nothing_late
duty_of restored_named = drops_named
duty_of lands_restarted = settles_writes
duty_of restored_report = drops_reports
duty_of line_later = empties_lines
duty_of verdict_later = drops_verdicts

-- the second circuit, on which 0 was sent and answered twice
pub second_circuit : List SystemAct
second_circuit = begun ++ ends ∷ opens ∷ timer ∷ (sends ++ (sends ++ (reads ++ (reads ++ (receives ++ (receives ++ receiver_writes ∷ receiver_writes ∷ []))))))

-- 1 and 2 are submitted, and neither is delivered
pub older : Persisted
older = record { first = 1; delivered = 0; last = 2; resynchronized = true; frozen = false }

unfoldable pub further_case_of : Kind → Further → Case
-- the number of 1 is persisted, a crash comes before 1 is, and 1 is sent again: AR 2 is taken for a delivery
further_case_of k number_alone = case None nothing_left (begun ++ (sends ++ (reads ++ decides ∷ persists_number ∷ receiver_crashes ∷ timer ∷ exchanged)))
-- 2 went out when the delivery of 1 was persisted, and the disk has the older state again
further_case_of k sender_reverts = case None nothing_left (begun ++ (exchanged ++ (sends ++ sender_reverts_to older ∷ (reads ++ decides ∷ receiver_persists ∷ []))))
-- a -1 comes late, behind 1: the receiver forgets, and stores 1 again
further_case_of k request_late =
    case None nothing_left
    (begun ++ (sends ++ (reads ++ (receives ++ brings_late_request (block_of (example_link k).settings (code "D") (request_of (example_link k) MinusOne)) ∷ (reads
    ++ (receives ++ timer ∷ (sends ++ (reads ++ decides ∷ receiver_persists ∷ []))))))))
-- 2 was named, the delivery of 1 could not be stored, and 2 is written after that
further_case_of k restored_named = case None nothing_left (begun ++ (exchanged ++ sender_restores ∷ sender_writes 0 ∷ (reads ++ decides ∷ receiver_persists ∷ [])))
-- 1 is to be stored, a crash comes before it is, and it lands after that
further_case_of k lands_restarted =
    case None nothing_left (begun ++ (sends ++ (reads ++ decides ∷ receiver_crashes ∷ landed ∷ timer ∷ (sends ++ (reads ++ decides ∷ receiver_persists ∷ [])))))
-- -1 was named twice. The second is stored, the receiver goes on from what is stored, and the report on it comes when 1 is open
further_case_of k restored_report =
    case None nothing_left
    (submitted 1 ∷ opens ∷ timer ∷ (exchanged ++ (sends ++ (reads ++ decides ∷ receiver_persists ∷ receiver_restores ∷ (sends ++ (reads ++ decides ∷ reports_stored ∷ receiver_writes ∷ answered))))))
-- the second answer to 0, which says that nothing is there, falls behind the answer to 1, and comes when the next circuit's 0 waits
further_case_of k line_later =
    let none = answer_to k (Number 0) MinusOne in
    let one = old_answer k (Number 1) in
    case None nothing_left
    (second_circuit ++ (times (length none) sender_reads ++ sender_acts 0 ∷ (sends ++ (reads ++ (receives ++ receiver_writes ∷ damages_back (one ++ none) ∷ (times (length one) sender_reads
    ++ sender_acts 0 ∷ ends ∷ opens ∷ answered))))))
-- the same, and it was read before
further_case_of k verdict_later =
    case None nothing_left
    (second_circuit ++ (times 128 sender_reads ++ sender_acts 0 ∷ (sends ++ (reads ++ (receives ++ receiver_writes ∷ (times 64 sender_reads
    ++ sender_acts 1 ∷ ends ∷ opens ∷ sender_acts 0 ∷ []))))))

unfoldable pub further_end_of : Kind → Further → System
further_end_of k x =
    let l = example_link k in
    let h = every_but (duty_of x) in
    let c = further_case_of k x in
    run_of h l (beginning h l c.expected c.remains) c.acts

-- ---- what is seen then, and before it whether the sender is frozen
abbrev pub seen_frozen : System → List ℕ
seen_frozen y = cond y.sending.sender.persisted.frozen 1 0 ∷ seen y

abbrev pub further_ends : Further → List ℕ
further_ends number_alone = 0 ∷ 0 ∷ 1 ∷ 0 ∷ []
further_ends sender_reverts = 0 ∷ 2 ∷ 1 ∷ 0 ∷ []
further_ends request_late = 0 ∷ 2 ∷ 0 ∷ 0 ∷ []
further_ends restored_named = 0 ∷ 2 ∷ 0 ∷ 0 ∷ []
further_ends lands_restarted = 0 ∷ 2 ∷ 0 ∷ 0 ∷ []
further_ends restored_report = 0 ∷ 0 ∷ 1 ∷ 0 ∷ []
further_ends line_later = 1 ∷ 1 ∷ 1 ∷ 0 ∷ []
further_ends verdict_later = 1 ∷ 1 ∷ 1 ∷ 0 ∷ []

abbrev FurtherEnds : Kind → Further → Type 0
FurtherEnds k x = seen_frozen (further_end_of k x) ≡ further_ends x

abbrev All : Kind → Type 0
All k = FurtherEnds k number_alone × FurtherEnds k sender_reverts × FurtherEnds k request_late × FurtherEnds k restored_named × FurtherEnds k lands_restarted × FurtherEnds k restored_report × FurtherEnds k line_later × FurtherEnds k verdict_later

further_hybrid : All Hybrid
unfolding times reversed sends reads decides reports_stored receives answered exchanged submitted begun landed old_answer case five_digits three_digits count_field checksum_of hybrid_body hybrid_block minimal_block block_of type_matches header_ok checksum_matches judge_parts data_of judge_hybrid judge_minimal judge content_of same put valid valid_link end_verdict move run field_start field_of bytes_of number_field decimal begins readable_header header_of readable_answer acknowledgment_of code_field answer_message control_message packed unpacked in_words word_bytes bytes_in valid_control_id valid_expected row_of is_row carried valid_receiver decide_of answer_of valid_sender submit_of open_of ended_of timer_of block_read_of one_at others_at accepted_of some_of one_of each_of run_of blank answer_to second_circuit older further_case_of further_end_of
further_hybrid = (refl, refl, refl, refl, refl, refl, refl, refl)

further_minimal : All Minimal
unfolding times reversed sends reads decides reports_stored receives answered exchanged submitted begun landed old_answer case five_digits three_digits count_field checksum_of hybrid_body hybrid_block minimal_block block_of type_matches header_ok checksum_matches judge_parts data_of judge_hybrid judge_minimal judge content_of same put valid valid_link end_verdict move run field_start field_of bytes_of number_field decimal begins readable_header header_of readable_answer acknowledgment_of code_field answer_message control_message packed unpacked in_words word_bytes bytes_in valid_control_id valid_expected row_of is_row carried valid_receiver decide_of answer_of valid_sender submit_of open_of ended_of timer_of block_read_of one_at others_at accepted_of some_of one_of each_of run_of blank answer_to second_circuit older further_case_of further_end_of
further_minimal = (refl, refl, refl, refl, refl, refl, refl, refl)

both : (k : Kind) → All k
both Hybrid = further_hybrid
both Minimal = further_minimal

pub further : (k : Kind) (x : Further) → FurtherEnds k x
further k number_alone = (both k).0
further k sender_reverts = (both k).1
further k request_late = (both k).2
further k restored_named = (both k).3
further k lands_restarted = (both k).4
further k restored_report = (both k).5
further k line_later = (both k).6
further k verdict_later = (both k).7

-- ---- so the statement is false of it
module _ (k : Kind) where
  abbrev end : Further → System
  end x = further_end_of k x

  seen_is : (y : System) (b n i j : ℕ) → seen_frozen y ≡ b ∷ n ∷ i ∷ j ∷ [] → seen y ≡ n ∷ i ∷ j ∷ []
  seen_is y b n i j e = cc

  is_frozen : (y : System) (n i j : ℕ) → seen_frozen y ≡ 1 ∷ n ∷ i ∷ j ∷ [] → y.sending.sender.persisted.frozen ≡ true
  is_frozen y n i j e = go y.sending.sender.persisted.frozen cc
    where
      go : (b : Bool) → ◌≡◌ {A = ℕ} (cond b 1 0) 1 → b ≡ true
      go true z = refl
      go false z = absurd (omega arith)

  pub further_broken : (x : Further) → Safe (example_link k) (further_end_of k x) → ⊥
  further_broken number_alone = unstored k (end number_alone) 0 (seen_is (end number_alone) 0 0 1 0 (further k number_alone))
  further_broken sender_reverts = ahead k (end sender_reverts) 1 (seen_is (end sender_reverts) 0 2 1 0 (further k sender_reverts))
  further_broken request_late = ahead k (end request_late) 0 (seen_is (end request_late) 0 2 0 0 (further k request_late))
  further_broken restored_named = ahead k (end restored_named) 0 (seen_is (end restored_named) 0 2 0 0 (further k restored_named))
  further_broken lands_restarted = ahead k (end lands_restarted) 0 (seen_is (end lands_restarted) 0 2 0 0 (further k lands_restarted))
  further_broken restored_report = unstored k (end restored_report) 0 (seen_is (end restored_report) 0 0 1 0 (further k restored_report))
  further_broken line_later = frozen k (end line_later) (is_frozen (end line_later) 1 1 0 (further k line_later))
  further_broken verdict_later = frozen k (end verdict_later) (is_frozen (end verdict_later) 1 1 0 (further k verdict_later))
