-- The ways in which a call for a control block returns.
use Rattle.std.specs.Prelude.{Option, Some, None}
use mathlib.Core.Path.{◌≡◌, refl}
use mathlib.Core.List.{List}
use mathlib.Core.Bool.{false}
use Prim.Native.Nat.{ℕ}
use Rattle.settings.specs.Settings.{valid_link}
use Rattle.settings.specs.declared.Settings.{Settings}
use Rattle.messages.specs.Messages.{message_type}
use Rattle.messages.specs.declared.Control.{Control}
use Rattle.messages.specs.declared.MessageType.{MessageType}
use Rattle.message_calls.specs.MessageCalls.{control_from}
use Rattle.message_calls.specs.ControlCalls.{control_block_with, control_block_call}

module _ (letters : List ℕ) (n : ℕ) (b : List ℕ) (start : ℕ) (p : List ℕ) where
  -- the settings of no link are refused as none are
  pub call_refuses : (g : Settings) → valid_link g ≡ false → control_block_call (Some g) letters n b start p ≡ control_block_call None letters n b start p
  unfolding control_block_call
  call_refuses g h = go (message_type letters) (control_from n)
    where
      go : (t : Option MessageType) (c : Option Control) → control_block_with (Some g) t c b start p ≡ control_block_with None t c b start p
      go None c = refl
      go (Some t) None = refl
      go (Some t) (Some c) = rw h
