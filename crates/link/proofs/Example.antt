-- The premises can be met.
use Rattle.std.specs.Prelude.{Option}
use mathlib.Core.Path.{◌≡◌, refl}
use mathlib.Core.Bool.{true}
use Prim.Native.Nat.{ℕ, ◌+◌, ◌≤◌}
use native.Mathlib.Omega.{arith}
use lib.ListN.{length, length-append}
use borrow.Author.Tests.{le-leb}
use Rattle.settings.specs.Settings.{valid, valid_link}
use Rattle.settings.specs.declared.Kind.{Kind}
use Rattle.settings.specs.declared.Kind.TheVariants.{Hybrid, Minimal}
use Rattle.numbers.specs.Numbers.{greatest_sent, greatest_expected, text_of}
use Rattle.numbers.specs.declared.SequenceNumber.TheVariants.{Number}
use Rattle.numbers.proofs.Reading.{text_length_lem}
use Rattle.messages.specs.Messages.{valid_type}
use Rattle.message_theorems.proofs.Control.{numbered_reads, numbered_allowed}
use Rattle.receiver.specs.Receiver.{valid_expected}
use Rattle.receiver.specs.declared.Application.{Application}
use Rattle.link.specs.System.{start_of}
use Rattle.link.specs.Promise.{Ready}
use Rattle.link.specs.Example.{admission, example_log, example_link}
use Rattle.link.proofs.Resuming.{Delivers, delivers}

type_valid_lem : valid_type admission ≡ true
unfolding valid_type
type_valid_lem = refl

settings_valid : (k : Kind) → valid_link (example_link k).settings ≡ true
unfolding valid_link valid
settings_valid Hybrid = refl
settings_valid Minimal = refl

log_length : (n : ℕ) → n ≤ greatest_sent → length (example_log n) ≤ 128
log_length n h =
    let t = (text_length_lem (Number n) (le-leb n greatest_expected (omega arith))).1 in
    let z : length (example_log n) ≡ 29 + (length (text_of (Number n)) + length (text_of (Number n))) = simp length-append (omega arith) in
    omega (arith, t, z)

pub ready : (k : Kind) → Ready (example_link k)
ready k =
    record {
      settings = settings_valid k;
      first_least = omega arith;
      first_most = omega arith;
      resends = omega arith;
      name = type_valid_lem;
      logged = λ n a b. record {
        fits = log_length n b;
        allowed = numbered_allowed admission (Number n) type_valid_lem;
        reads = numbered_reads admission (Number n) type_valid_lem (le-leb n greatest_sent b) (let t = (text_length_lem (Number n) (le-leb n greatest_expected (omega arith))).1 in omega (arith, t));
      };
    }

-- and so a thousand transactions are delivered by some run, whatever the receiver expected before
pub thousand : (k : Kind) (a : Application) (e : Option ℕ) → valid_expected e ≡ true → Delivers (example_link k) (start_of (example_link k) e) 1000
thousand k a e v = delivers (example_link k) (ready k) a e v 1000 (omega arith)
