-- What the receiver's acts are: a decision on a request, a report, and an N reply.
use Rattle.std.specs.Prelude.{Option, Some, Result, Ok}
use mathlib.Core.Path.{◌≡◌, ap, ◌∙◌}
use mathlib.Core.List.{List}
use mathlib.Core.Bool.{Bool, true, false, cond}
use Prim.Native.Nat.{ℕ, ◌+◌}
use Prim.Native.Char.{code}
use lib.ListN.{length}
use lib.Dec.{leb}
use Rattle.settings.specs.Settings.{valid_link}
use Rattle.settings.specs.declared.Settings.{Settings}
use Rattle.settings.specs.DataBytes.{all_allowed}
use Rattle.refusal.specs.Refusal.{TOO_SHORT, STATE}
use Rattle.fields.specs.Fields.{bytes_of}
use Rattle.numbers.specs.Numbers.{number_field, greatest_sent, text_of}
use Rattle.numbers.specs.declared.SequenceNumber.{SequenceNumber}
use Rattle.numbers.specs.declared.NumberError.{NumberError}
use Rattle.control_id.specs.ControlId.{in_words}
use Rattle.control_id.specs.declared.ControlId.{ControlId}
use Rattle.numbers.proofs.Reading.{text_allowed}
use Rattle.messages.specs.Messages.{valid_control_id}
use Rattle.receiver.specs.Internal.{field_fits}
use Rattle.receiver.proofs.Rows.{row_is, id_carried}
use Rattle.receiver.proofs.Acts.{decide_while_open}
use Rattle.header.specs.Header.{header_of, control_id_field, sequence_field}
use Rattle.header.specs.declared.Header.{Header}
use Rattle.message_theorems.specs.ReadBack.{ReadsControl}
use Rattle.message_theorems.proofs.Control.{control_header}
use Rattle.message_theorems.proofs.HandedOut.{handed_out_allowed}
use Rattle.receiver.specs.Receiver.{valid_expected, valid_receiver, closed, is_closed, row_of, undecided, opens, header_decided, decide_of, refused, reported_of, reply_space, answer_of}
use Rattle.receiver.specs.declared.Application.{Application}
use Rattle.receiver.specs.declared.Row.{Row}
use Rattle.receiver.specs.declared.Receiver.{Receiver}

pub closed-valid : (e : Option ℕ) → valid_expected e ≡ true → valid_receiver (closed e) ≡ true
unfolding valid_receiver
closed-valid e v = rw v

module _ (a : Application) where
  -- ---- a request, where no decision is open
  module _ (e : Option ℕ) (valid : valid_expected e ≡ true) (d : List ℕ) (v : SequenceNumber) (r : ReadsControl d v) (allowed : all_allowed d ≡ true) where
    header : header_decided a (closed e) d (header_of d) ≡ opens (closed e) (in_words (text_of v)) (row_of a e (Ok v))
    header =
        ap (λ (z : Option Header). header_decided a (closed e) d z) (control_header d v r)
        ∙ ap (λ (z : Bool). cond z (opens (closed e) (in_words (bytes_of (control_id_field d) d)) (row_of a e (number_field greatest_sent (bytes_of (sequence_field d) d)))) (undecided 0 9 (closed e)))
        (handed_out_allowed d (control_id_field d) allowed)
        ∙ ap (λ (z : Result SequenceNumber NumberError). opens (closed e) (in_words (bytes_of (control_id_field d) d)) (row_of a e z)) r.number_read
        ∙ ap (λ (z : List ℕ). opens (closed e) (in_words z) (row_of a e (Ok v))) r.id_read

    pub decided : decide_of a (closed e) (code "D") d ≡ opens (closed e) (in_words (text_of v)) (row_of a e (Ok v))
    unfolding decide_of
    decided =
        ap (λ (z : Bool). cond z (header_decided a (closed e) d (header_of d)) (undecided STATE 0 (closed e))) (closed-valid e valid)
        ∙ header

  -- the decision that it opens is a state's
  pub holding_valid : (e : Option ℕ) → valid_expected e ≡ true → (v : SequenceNumber) → valid_control_id (text_of v) ≡ true → field_fits (Ok v) ≡ true
      → valid_receiver (record { expected = e; decision = Some (record { control_id = in_words (text_of v); row = row_of a e (Ok v) }) }) ≡ true
  unfolding valid_receiver
  holding_valid e valid v control fits = rw (valid, id_carried (text_of v) (text_allowed v) control, row_is a e (Ok v) valid fits)

  -- ---- and where one is
  pub decided_open : (s : Receiver) (id : ControlId) (r : Row) (t : ℕ) (d : List ℕ) → valid_receiver s ≡ true → s.decision ≡ Some (record { control_id = id; row = r }) → decide_of a s t d ≡ undecided STATE 0 s
  decided_open s id r t d v e = decide_while_open a s t d v (ap is_closed e)

module _ (g : Settings) (linked : valid_link g ≡ true) (s : Receiver) (valid : valid_receiver s ≡ true) (start : ℕ) (b : List ℕ) where
  -- ---- a report
  pub answer_short : (success : Bool) → leb (start + reply_space g) (length b) ≡ false → answer_of g success s start b ≡ refused TOO_SHORT s b
  unfolding answer_of
  answer_short success z = rw (linked, z)

  pub answer_is : (success : Bool) → leb (start + reply_space g) (length b) ≡ true → answer_of g success s start b ≡ reported_of g success s start b s.decision
  unfolding answer_of
  answer_is success z = rw (linked, z, valid)
