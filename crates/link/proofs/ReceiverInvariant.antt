-- Document 01, 'Receiver of sequence numbers', and 02, §1: every act leaves a state, a refused one the same; and a transaction has a number of 1 or more.
use Rattle.std.specs.Prelude.{Option, Some, None, Result, Ok, Err}
use mathlib.Core.Path.{◌≡◌, refl, ap, ◌∙◌}
use mathlib.Core.Bool.{Bool, true, false, not}
use mathlib.Core.Logic.{◌⊎◌, inl, inr}
use mathlib.Core.List.{List, [], ◌∷◌}
use Prim.Native.Nat.{ℕ, ◌≤◌}
use lib.Dec.{eqb}
use borrow.Author.Tests.{le-leb}
use Rattle.lists.proofs.Tests.{cond_ind}
use Rattle.lists.specs.Outcome.{Outcome}
use Rattle.settings.specs.declared.Settings.{Settings}
use Rattle.control_id.specs.declared.ControlId.{ControlId}
use Rattle.numbers.specs.Numbers.{greatest_expected}
use Rattle.numbers.specs.declared.SequenceNumber.TheVariants.{MinusOne, Number}
use Rattle.numbers.specs.declared.SequenceNumber.{SequenceNumber}
use Rattle.numbers.specs.declared.NumberError.{NumberError}
use Rattle.receiver.specs.Receiver.{valid_expected, valid_receiver, is_closed, row_of, answer_of}
use Rattle.receiver.specs.declared.Application.{Application}
use Rattle.receiver.specs.declared.Row.{Row}
use Rattle.receiver.specs.declared.Decision.{Decision}
use Rattle.receiver.specs.declared.Receiver.{Receiver}
use Rattle.receiver.specs.declared.Answered.{Answered}
use Rattle.receiver.specs.declared.Decided.{Decided}
use Rattle.receiver.proofs.Rows.{InTable, is-row, open_expected, opened}
use Rattle.receiver.proofs.Acts.{expected_valid, closed_state, decide_state, decide_refused, decide_while_open, answer_state, answer_refused, report_closes, nak_same, FromReport, answer_from_report}
use Rattle.link.specs.ReceiverActs.{ReceiverAct, decides, reports, naks, receiver_refusal_of, receiver_act_of, stored_in, ReceiverStep, acts, crashes, receiver_step_of, receiver_after}

-- NONE, and E of 1 or more
pub expects_none : valid_expected None ≡ true
unfolding valid_expected
expects_none = refl

pub expects_next : (n : ℕ) → 1 ≤ n → n ≤ greatest_expected → valid_expected (Some n) ≡ true
unfolding valid_expected
expects_next n l h = rw (le-leb 1 n l, le-leb n greatest_expected h)

-- ---- an act on a state, done or refused, leaves one, and a refused one leaves it equal
module _ (s : Receiver) where
  pub act_state : (a : ReceiverAct) → valid_receiver s ≡ true → valid_receiver (receiver_act_of a s) ≡ true
  act_state (decides a t d) v = decide_state a s t d v
  act_state (reports g stored start b) v = answer_state g s start b stored v
  act_state (naks g n start b) v = ap valid_receiver (nak_same g s start b n) ∙ v

  pub refused-same : (a : ReceiverAct) → eqb (receiver_refusal_of a s) 0 ≡ false → receiver_act_of a s ≡ s
  refused-same (decides a t d) z = decide_refused a s t d z
  refused-same (reports g stored start b) z = ap (λ (o : Outcome Answered). o.answer.receiver) (answer_refused g s start b stored z)
  refused-same (naks g n start b) z = nak_same g s start b n

  -- whichever of the two was stored
  stored-valid : (q : Bool) (o : Option Decision) → s.decision ≡ o → valid_receiver s ≡ true → valid_expected (stored_in q s.expected o) ≡ true
  stored-valid q None e v = expected_valid s v
  stored-valid false (Some o) e v = expected_valid s v
  stored-valid true (Some decision) e v = let o = opened s decision.control_id decision.row v e in open_expected s.expected o.expected decision.row o.in_table

  step_state : (x : ReceiverStep) → valid_receiver s ≡ true → valid_receiver (receiver_step_of x s) ≡ true
  step_state (acts a) v = act_state a v
  step_state (crashes q) v = closed_state (stored_in q s.expected s.decision) (stored-valid q s.decision refl v)

-- every run of decisions, reports, N replies and crashes from a new receiver leaves a state: it is never stuck
pub always_state : (xs : List ReceiverStep) → valid_receiver (receiver_after xs) ≡ true
unfolding receiver_after
always_state [] = closed_state None expects_none
always_state (x ∷ xs) = step_state (receiver_after xs) x (always_state xs)

-- ---- nothing before the report
-- an answer of any run came from a report of success, on the decision that was open then, and is that decision's; and that decision is a row of the table for what was expected
pub run_answers : (xs : List ReceiverStep) (g : Settings) (stored : Bool) (start : ℕ) (b : List ℕ) → eqb (answer_of g stored (receiver_after xs) start b).answer.reply_length 0 ≡ false
    → FromReport g stored (receiver_after xs) start b
run_answers xs g stored start b z = answer_from_report g stored (receiver_after xs) start b z

pub run_in_table : (xs : List ReceiverStep) (id : ControlId) (r : Row) → (receiver_after xs).decision ≡ Some (record { control_id = id; row = r }) → InTable (receiver_after xs).expected r
run_in_table xs id r e = let o = opened (receiver_after xs) id r (always_state xs) e in is-row (receiver_after xs).expected o.expected r o.in_table

module _ (s : Receiver) (valid : valid_receiver s ≡ true) (is_open_lem : is_closed s.decision ≡ false) where
  abbrev Kept : Receiver → Type 0
  Kept z = (z ≡ s) ⊎ (is_closed z.decision ≡ true)

  -- while a decision is open an act leaves the state equal, or is the report that closes it
  pub kept_open : (a : ReceiverAct) → Kept (receiver_act_of a s)
  kept_open (decides a t d) = inl (ap (λ (x : Decided). x.receiver) (decide_while_open a s t d valid is_open_lem))
  kept_open (reports g stored start b) = go (eqb (answer_of g stored s start b).answer.refusal 0) refl
    where
      go : (n : Bool) → eqb (answer_of g stored s start b).answer.refusal 0 ≡ n → Kept (answer_of g stored s start b).answer.receiver
      go true e = inr (report_closes g s start b stored e)
      go false e = inl (ap (λ (o : Outcome Answered). o.answer.receiver) (answer_refused g s start b stored e))
  kept_open (naks g n start b) = inl (nak_same g s start b n)

-- ---- a transaction has a number of 1 or more, so that 0 can stand for none
abbrev pub some : Option ℕ → Bool
some None = true
some (Some n) = not (eqb n 0)

module _ (a : Application) where
  abbrev some_row : Row → Type 0
  some_row r = some r.persisted.transaction ≡ true

  pub row_some : (s : Option ℕ) (f : Result SequenceNumber NumberError) → some_row (row_of a s f)
  unfolding row_of
  row_some s (Err why) = refl
  row_some s (Ok MinusOne) = refl
  row_some None (Ok (Number n)) = cond_ind some_row (eqb n 0) _ _ (λ e. refl) (λ e. ap not e)
  row_some (Some k) (Ok (Number n)) = cond_ind some_row (eqb n 0) _ _ (λ e. refl) (λ e. cond_ind some_row (eqb n k) _ _ (λ f. ap not e) (λ f. refl))
