-- Demand 3: that a duty of the hosts is needed.
use Rattle.std.specs.Prelude.{◌≡◌, List, Bool, true, not, ℕ, eqb, Option}
use Rattle.receiver.specs.Receiver.{valid_expected}
use Rattle.link.specs.Duties.{Duty, exchanges, empties_lines, drops_replies, drops_verdicts, brings_nothing_late, writes_in_order, offers_in_order, sender_persists_first, persists_as_one}
use Rattle.link.specs.Duties.{reports_persisted, reports_failed, settles_writes, drops_named, drops_reports, drops_decision, survives}
use Rattle.link.specs.System.{Link, Remains, SystemAct, beginning, run_of}
use Rattle.link.specs.Promise.{Safe, OnlyAnswers}

abbrev pub index_of : Duty → ℕ
index_of exchanges = 0
index_of empties_lines = 1
index_of drops_replies = 2
index_of drops_verdicts = 3
index_of brings_nothing_late = 4
index_of writes_in_order = 5
index_of offers_in_order = 6
index_of sender_persists_first = 7
index_of persists_as_one = 8
index_of reports_persisted = 9
index_of reports_failed = 10
index_of settles_writes = 11
index_of drops_named = 12
index_of drops_reports = 13
index_of drops_decision = 14
index_of survives = 15

abbrev pub every_but : Duty → Duty → Bool
every_but x d = not (eqb (index_of x) (index_of d))

-- A duty is needed: where every other is kept, a run from a tenancy's beginning leads to a state of which the statement is false.
-- It is the duty that makes the difference: from the same beginning, with every duty kept, the statement holds of the same acts (`kept`).
pub record Needed (l : Link) (d : Duty) : Type 0 where
  pub expected : Option ℕ
  pub valid : valid_expected expected ≡ true
  pub remains : Remains
  pub only_answers : OnlyAnswers remains
  pub acts : List SystemAct
  pub broken : Safe l (run_of (every_but d) l (beginning (every_but d) l expected remains) acts) → ⊥
