-- What the contracts of the private functions cite. Nobody needs to believe these: no public function's contract cites them.
use Rattle.std.specs.Prelude.{ℕ, ◌≤◌, None}
use Rattle.numbers.specs.Numbers.{greatest_sent}
use Rattle.sender.specs.Sender.{closed}
use Rattle.sender.specs.declared.Persisted.{Persisted}
use Rattle.sender.specs.declared.Sender.{Sender}
use Rattle.sender.specs.declared.Event.{Event}
use Rattle.sender.specs.declared.Acted.{Acted}

-- what the test of the state has shown: nothing can overflow
pub record Bounded (s : Sender) : Type 0 where
  pub first : 1 ≤ s.persisted.first
  pub delivered : s.persisted.delivered ≤ greatest_sent
  pub last : s.persisted.last ≤ greatest_sent
  pub sends : s.sends ≤ 100

-- the circuit ends, after so many sends of what waited
abbrev pub ends_with : Persisted → ℕ → Event → Acted
ends_with p n e = record { refusal = 0; sender = closed p; send = None; sends = n; event = e; block = 0; offset = 0 }
