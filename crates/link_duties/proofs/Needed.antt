-- Each duty of the hosts is needed: without it, and with every other kept, a run from a tenancy's beginning breaks the statement. A second decision is no duty: it is refused.
use Rattle.std.specs.Prelude.{Option, Some, None, Result, Ok, Err}
use mathlib.Core.Path.{◌≡◌, refl, ap, ◌∙◌}
use mathlib.Core.List.{List, [], ◌∷◌}
use mathlib.Core.Bool.{Bool, true, false, cond}
use Prim.Native.Nat.{ℕ}
use Prim.Native.Char.{code}
use lib.Dec.{eqb}
use Rattle.settings.specs.declared.Kind.{Kind}
use Rattle.refusal.specs.Refusal.{STATE}
use Rattle.refusal.specs.declared.Accepted.{Accepted}
use Rattle.refusal.specs.declared.Refusal.{Refusal}
use Rattle.stream.specs.Stream.{Judged}
use Rattle.header.specs.Header.{header_of}
use Rattle.control_id.specs.declared.ControlId.{ControlId}
use Rattle.numbers.specs.declared.SequenceNumber.TheVariants.{Number}
use Rattle.receiver.specs.Receiver.{valid_expected, valid_receiver, is_closed, undecided, header_decided, decide_of}
use Rattle.receiver.specs.declared.Application.{Application}
use Rattle.receiver.specs.declared.Row.{Row}
use Rattle.receiver.specs.declared.Decision.{Decision}
use Rattle.receiver.specs.declared.Receiver.{Receiver}
use Rattle.link.specs.Duties.{Duty, exchanges, empties_lines, drops_replies, drops_verdicts, brings_nothing_late, writes_in_order, offers_in_order, sender_persists_first, persists_as_one}
use Rattle.link.specs.Duties.{reports_persisted, reports_failed, settles_writes, drops_named, drops_reports, drops_decision, survives}
use Rattle.link.specs.Duties.{index_taken, one_at, others_at}
use Rattle.link.specs.System.{Link, System, request_decided, verdict_decided, request_taken, receiver_decides, after_act}
use Rattle.link.specs.Promise.{Safe, OnlyAnswers}
use Rattle.link.specs.Needed.{every_but, Needed}
use Rattle.link.specs.Example.{example_link}
use Rattle.link.proofs.Safety.{none_left_lem}
use Rattle.link_duties.proofs.Computed.{computed}
use Rattle.link_duties.proofs.Counterexamples.{reversed, old_answer, left, left_pending, left_read, left_open, case, case_of, end_of, disordered, slot_seven_of, slot_seven_runs, unstored, ahead}
use Rattle.link_duties.proofs.Further.{Further, number_alone, sender_reverts, request_late, restored_named, lands_restarted, restored_report, line_later, verdict_later, duty_of, further_case_of, further_end_of, further_broken}

module _ (k : Kind) where
  broken : (d : Duty) → Safe (example_link k) (end_of k d) → ⊥
  broken exchanges = unstored k (end_of k exchanges) 1 (computed k exchanges)
  broken empties_lines = unstored k (end_of k empties_lines) 1 (computed k empties_lines)
  broken drops_replies = unstored k (end_of k drops_replies) 1 (computed k drops_replies)
  broken drops_verdicts = unstored k (end_of k drops_verdicts) 1 (computed k drops_verdicts)
  broken brings_nothing_late = unstored k (end_of k brings_nothing_late) 1 (computed k brings_nothing_late)
  broken writes_in_order = ahead k (end_of k writes_in_order) 0 (computed k writes_in_order)
  broken offers_in_order = ahead k (end_of k offers_in_order) 0 (computed k offers_in_order)
  broken sender_persists_first = ahead k (end_of k sender_persists_first) 1 (computed k sender_persists_first)
  broken persists_as_one = ahead k (end_of k persists_as_one) 0 (computed k persists_as_one)
  broken reports_persisted = unstored k (end_of k reports_persisted) 1 (computed k reports_persisted)
  broken reports_failed = ahead k (end_of k reports_failed) 0 (computed k reports_failed)
  broken settles_writes = ahead k (end_of k settles_writes) 0 (computed k settles_writes)
  broken drops_named = ahead k (end_of k drops_named) 0 (computed k drops_named)
  broken drops_reports = unstored k (end_of k drops_reports) 1 (computed k drops_reports)
  broken drops_decision = ahead k (end_of k drops_decision) 0 (computed k drops_decision)
  broken survives = unstored k (end_of k survives) 0 (computed k survives)

  is_state : (d : Duty) → valid_expected (case_of k d).expected ≡ true
  unfolding valid_expected case_of case
  is_state exchanges = refl
  is_state empties_lines = refl
  is_state drops_replies = refl
  is_state drops_verdicts = refl
  is_state brings_nothing_late = refl
  is_state writes_in_order = refl
  is_state offers_in_order = refl
  is_state sender_persists_first = refl
  is_state persists_as_one = refl
  is_state reports_persisted = refl
  is_state reports_failed = refl
  is_state settles_writes = refl
  is_state drops_named = refl
  is_state drops_reports = refl
  is_state drops_decision = refl
  is_state survives = refl

  -- no request is left, so that with every duty kept the statement holds (`kept`)
  leaves_answers : (d : Duty) → OnlyAnswers (case_of k d).remains
  unfolding case_of case left left_pending left_read left_open
  leaves_answers exchanges = none_left_lem
  leaves_answers empties_lines = record { forward = refl; requests = refl }
  leaves_answers drops_replies = record { forward = refl; requests = refl }
  leaves_answers drops_verdicts = record { forward = refl; requests = refl }
  leaves_answers brings_nothing_late = none_left_lem
  leaves_answers writes_in_order = none_left_lem
  leaves_answers offers_in_order = none_left_lem
  leaves_answers sender_persists_first = none_left_lem
  leaves_answers persists_as_one = none_left_lem
  leaves_answers reports_persisted = none_left_lem
  leaves_answers reports_failed = none_left_lem
  leaves_answers settles_writes = none_left_lem
  leaves_answers drops_named = none_left_lem
  leaves_answers drops_reports = none_left_lem
  leaves_answers drops_decision = record { forward = refl; requests = refl }
  leaves_answers survives = none_left_lem

  pub needed : (d : Duty) → Needed (example_link k) d
  unfolding end_of
  needed d = record { expected = (case_of k d).expected; valid = is_state d; remains = (case_of k d).remains; only_answers = leaves_answers d; acts = (case_of k d).acts; broken = broken d }

  -- ---- and the other sides of those that have several
  further_state : (x : Further) → valid_expected (further_case_of k x).expected ≡ true
  unfolding valid_expected further_case_of case
  further_state number_alone = refl
  further_state sender_reverts = refl
  further_state request_late = refl
  further_state restored_named = refl
  further_state lands_restarted = refl
  further_state restored_report = refl
  further_state line_later = refl
  further_state verdict_later = refl

  further_leaves : (x : Further) → OnlyAnswers (further_case_of k x).remains
  unfolding further_case_of case
  further_leaves number_alone = none_left_lem
  further_leaves sender_reverts = none_left_lem
  further_leaves request_late = none_left_lem
  further_leaves restored_named = none_left_lem
  further_leaves lands_restarted = none_left_lem
  further_leaves restored_report = none_left_lem
  further_leaves line_later = none_left_lem
  further_leaves verdict_later = none_left_lem

  pub needed_further : (x : Further) → Needed (example_link k) (duty_of x)
  unfolding further_end_of
  needed_further x =
      record {
        expected = (further_case_of k x).expected;
        valid = further_state x;
        remains = (further_case_of k x).remains;
        only_answers = further_leaves x;
        acts = (further_case_of k x).acts;
        broken = further_broken k x;
      }

  -- ---- by their names
  -- the night of slot 7: the first circuit finds an earlier tenant's answers to -1 and to 1 on the line; or its answer to 1 comes late
  pub slot_seven : Needed (example_link k) empties_lines
  slot_seven = needed empties_lines

  -- or its answer to 1 alone, which is taken behind the new answer to -1
  pub slot_seven_disordered : Needed (example_link k) empties_lines
  unfolding valid_expected slot_seven_of left
  slot_seven_disordered =
      record {
        expected = None;
        valid = refl;
        remains = left (old_answer k (Number 1));
        only_answers = record { forward = refl; requests = refl };
        acts = reversed disordered [];
        broken = unstored k (slot_seven_of k (every_but empties_lines) None (old_answer k (Number 1)) disordered) 1 (slot_seven_runs k).5;
      }

  pub slot_seven_late : Needed (example_link k) brings_nothing_late
  slot_seven_late = needed brings_nothing_late

  -- no resynchronising exchange; an old answer to -1 that is still to be sent, or was read before
  pub without_exchange : Needed (example_link k) exchanges
  without_exchange = needed exchanges

  pub with_old_reply : Needed (example_link k) drops_replies
  with_old_reply = needed drops_replies

  pub with_old_verdict : Needed (example_link k) drops_verdicts
  with_old_verdict = needed drops_verdicts

  -- messages out of order on the line, or blocks out of order at the receiver
  pub out_of_order : Needed (example_link k) writes_in_order
  out_of_order = needed writes_in_order

  pub offered_out_of_order : Needed (example_link k) offers_in_order
  offered_out_of_order = needed offers_in_order

  -- 02, §1: stored is reported before it is so; failed, where it was stored, or is so later; a true report outlives a crash; an earlier tenant's decision is still open
  pub reported_before : Needed (example_link k) reports_persisted
  reported_before = needed reports_persisted

  pub failed_stored : Needed (example_link k) reports_failed
  failed_stored = needed reports_failed

  pub failed_lands : Needed (example_link k) settles_writes
  failed_lands = needed settles_writes

  pub report_outlives : Needed (example_link k) drops_reports
  report_outlives = needed drops_reports

  pub decision_left : Needed (example_link k) drops_decision
  decision_left = needed drops_decision

-- ---- 02, §1, "a decision .. while one is [open]" is refused, whatever duties the host keeps: a second decision from what is stored, which broke the statement once, cannot be made
module _ (a : Application) (y : System) (id : ControlId) (r : Row) (e : y.receiving.receiver.decision ≡ Some (record { control_id = id; row = r })) where
  abbrev s : Receiver
  s = y.receiving.receiver

  either_way : (v : Bool) → cond v (undecided STATE 0 s) (undecided STATE 0 s) ≡ undecided STATE 0 s
  either_way true = refl
  either_way false = refl

  refused : (t : ℕ) (d : List ℕ) → decide_of a s t d ≡ undecided STATE 0 s
  unfolding decide_of
  refused t d =
      ap (λ (z : Option Decision). cond (valid_receiver s) (cond (is_closed z) (cond (eqb t (code "N")) (undecided 0 0 s) (header_decided a s d (header_of d))) (undecided STATE 0 s)) (undecided STATE 0 s)) e
      ∙ either_way (valid_receiver s)

  offered : (zs ws : List Judged) → request_taken a y zs ws ≡ y
  offered [] ws = refl
  offered (w ∷ zs) ws = go w.verdict
    where
      go : (v : Result Accepted Refusal) → verdict_decided a y ws w.content v ≡ y
      go (Ok v) = ap (request_decided y ws w.content) (refused v.block_type w.content)
      go (Err v) = refl

  -- whichever of the blocks that were read is offered, it stays as it was read, and so does all else
  pub second_refused : (h : Duty → Bool) (l : Link) (n : ℕ) → after_act h l (receiver_decides n a) y ≡ y
  second_refused h l n = let k = index_taken (h offers_in_order) n in offered (one_at k y.receiving.arrived) (others_at k y.receiving.arrived)
