-- What the contracts of the private functions cite. Nobody needs to believe these: no public function's contract cites them.
use Rattle.std.specs.Prelude.{◌≡◌, List, Bool, true, ℕ, ◌+◌, ◌≤◌, length, leb, Result, Ok, Err}
use Rattle.lists.specs.Bytes.{put}
use Rattle.lists.specs.Outcome.{Outcome, outcome}
use Rattle.settings.specs.Settings.{valid}
use Rattle.settings.specs.declared.Settings.{Settings}
use Rattle.settings.specs.DataBytes.{all_allowed}
use Rattle.messages.specs.Messages.{valid_control_id, answerable}
use Rattle.numbers.specs.Numbers.{greatest_sent}
use Rattle.numbers.specs.declared.SequenceNumber.{SequenceNumber}
use Rattle.numbers.specs.declared.SequenceNumber.TheVariants.{MinusOne, Number}
use Rattle.numbers.specs.declared.NumberError.{NumberError}
use Rattle.receiver.specs.Receiver.{reply_space}

-- a number that MSH-13 can hold, so that there is one after it
abbrev pub number_fits : SequenceNumber → Bool
number_fits MinusOne = true
number_fits (Number n) = leb n greatest_sent

abbrev pub field_fits : Result SequenceNumber NumberError → Bool
field_fits (Err why) = true
field_fits (Ok n) = number_fits n

-- what the tests 1 and 2 have shown
pub record Linked (g : Settings) (start have : ℕ) : Type 0 where
  pub settings : valid g ≡ true
  pub limit : 128 ≤ g.data_limit
  pub space : start + reply_space g ≤ have

-- the length of a block, and the buffer with the block written over it from an offset on
abbrev pub framed : List ℕ → ℕ → List ℕ → Outcome ℕ
framed block start b = outcome (length block) (put b start block)

-- an answer that can be written
pub record Answerable (id : List ℕ) (n : SequenceNumber) : Type 0 where
  pub allowed : all_allowed id ≡ true
  pub control : valid_control_id id ≡ true
  pub number : answerable n ≡ true
