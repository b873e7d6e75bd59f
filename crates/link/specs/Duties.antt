-- Demand 3: what the two hosts see to. Each is a switch of the model: the statement is for hosts that keep all, and without any one of them a run breaks it.
use Rattle.std.specs.Prelude.{List, [], ◌∷◌, Bool, true, false, ℕ, zero, suc}

pub data Duty : Type 0 where
  -- "the tenancy opens with the resynchronising exchange"
  exchanges : Duty
  -- "at each new circuit, the line is empty"
  empties_lines : Duty
  -- "a new circuit .. finds at neither end an answer still to be sent", nor a block that was read and not yet acted on
  drops_replies drops_verdicts : Duty
  -- nothing of an earlier circuit comes in later
  brings_nothing_late : Duty
  -- messages are written in the order in which they were named, blocks offered to the receiver in the order in which they were read
  writes_in_order offers_in_order : Duty
  -- "each end stores what changed as one act before its next block goes out"
  sender_persists_first persists_as_one : Duty
  -- 02, §1, "if reports are true": a decision is reported stored once it is, and failed where nothing of it is stored
  reports_persisted reports_failed : Duty
  -- and what was not stored when its decision was reported failed, or when the host started again, is never stored
  settles_writes : Duty
  -- "A cut loses what isn't stored": what was named; and every report that is under way
  drops_named drops_reports : Duty
  -- a tenancy finds no decision open that an earlier one left
  drops_decision : Duty
  -- "stored things survive"
  survives : Duty

abbrev pub every : Duty → Bool
every d = true

-- what a host that keeps the duty drops
abbrev pub dropped : {A : Type 0} → Bool → List A → List A
dropped true xs = []
dropped false xs = xs

-- which one a host takes that was to take the oldest
abbrev pub index_taken : Bool → ℕ → ℕ
index_taken true n = 0
index_taken false n = n

-- the one there, if there is one, and those without it
unfoldable pub one_at : {A : Type 0} → ℕ → List A → List A
one_at n [] = []
one_at zero (x ∷ xs) = x ∷ []
one_at (suc n) (x ∷ xs) = one_at n xs

unfoldable pub others_at : {A : Type 0} → ℕ → List A → List A
others_at n [] = []
others_at zero (x ∷ xs) = xs
others_at (suc n) (x ∷ xs) = x ∷ others_at n xs
