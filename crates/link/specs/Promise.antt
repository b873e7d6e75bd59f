-- Demand 3: what is assumed of a link, and what holds at every moment of every run.
use Rattle.std.specs.Prelude.{◌≡◌, List, [], ◌∷◌, ◌++◌, true, false, ℕ, zero, suc, ◌+◌, ◌≤◌, length}
use Rattle.settings.specs.Settings.{valid_link}
use Rattle.settings.specs.declared.Settings.{Settings}
use Rattle.settings.specs.DataBytes.{all_allowed}
use Rattle.numbers.specs.Numbers.{greatest_sent}
use Rattle.numbers.specs.declared.SequenceNumber.TheVariants.{Number}
use Rattle.messages.specs.Messages.{valid_type}
use Rattle.message_theorems.specs.ReadBack.{ReadsControl}
use Rattle.link.specs.System.{Link, System, Remains}

-- a message that the sender takes as the transaction n: it fits a block, and its MSH-10 and MSH-13 are n
pub record Logged (g : Settings) (n : ℕ) (message : List ℕ) : Type 0 where
  pub fits : length message ≤ g.data_limit
  pub allowed : all_allowed message ≡ true
  pub reads : ReadsControl message (Number n)

-- settings within their ranges, and a log of such messages
pub record Ready (l : Link) : Type 0 where
  pub settings : valid_link l.settings ≡ true
  pub first_least : 1 ≤ l.first
  pub first_most : l.first ≤ greatest_sent
  pub resends : l.resends ≤ 99
  pub name : valid_type l.name ≡ true
  pub logged : (n : ℕ) → l.first ≤ n → n ≤ greatest_sent → Logged l.settings n (l.log n)

-- the first n transactions of the log, in order
unfoldable pub transactions : Link → ℕ → List (List ℕ)
transactions l zero = []
transactions l (suc n) = transactions l n ++ l.log (l.first + n) ∷ []

-- "the receiver has the first k transactions, each once, in order, and the sender's mark covers k or k less one": the mark both as it is held and as it is persisted.
-- The mark covers j transactions where it is f - 1 + j.
pub record Covers (l : Link) (delivered k : ℕ) : Type 0 where
  pub begun : l.first ≤ delivered + 1
  pub at_most : delivered + 1 ≤ l.first + k
  pub at_least : l.first + k ≤ delivered + 2

pub record Safe (l : Link) (y : System) : Type 0 where
  pub count : ℕ
  pub has : y.receiving.persisted.has ≡ transactions l count
  pub covers : Covers l y.sending.sender.persisted.delivered count
  pub persisted_covers : Covers l y.sending.persisted.delivered count
  -- none that was not submitted: by what the sender has persisted
  pub submitted : l.first + count ≤ y.sending.persisted.last + 1
  -- "The sender never freezes."
  pub unfrozen : y.sending.sender.persisted.frozen ≡ false
  pub persisted_unfrozen : y.sending.persisted.frozen ≡ false

-- Of an earlier tenancy only answers are left: on the line back, still to be sent, or read. The first circuit drops them; a request could be stored before it. A decision that is left
-- is dropped when the tenancy begins.
pub record OnlyAnswers (m : Remains) : Type 0 where
  pub forward : m.forward ≡ []
  pub requests : m.requests ≡ []
