-- The settings of no link are refused as none are.
use Rattle.std.specs.Prelude.{Option, Some, None}
use mathlib.Core.Path.{◌≡◌, refl}
use mathlib.Core.List.{List}
use mathlib.Core.Bool.{Bool, false}
use Prim.Native.Nat.{ℕ}
use Rattle.settings.specs.Settings.{valid_link}
use Rattle.settings.specs.declared.Settings.{Settings}
use Rattle.receiver_calls.specs.ReceiverCalls.{outcome_from, answer_with, answer_call, nak_call}

module _ (st b : List ℕ) (start : ℕ) (p : List ℕ) where
  pub answer_refuses : (stored : ℕ) (g : Settings) → valid_link g ≡ false → answer_call (Some g) stored st b start p ≡ answer_call None stored st b start p
  unfolding answer_call
  answer_refuses stored g h = go (outcome_from stored)
    where
      go : (o : Option Bool) → answer_with (Some g) o st b start p ≡ answer_with None o st b start p
      go None = refl
      go (Some q) = rw h

  pub nak_refuses : (n : ℕ) (g : Settings) → valid_link g ≡ false → nak_call (Some g) n st b start p ≡ nak_call None n st b start p
  unfolding nak_call
  nak_refuses n g h = rw h
