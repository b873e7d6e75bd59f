-- What the receiver's acts come to, and what fits.
use Rattle.std.specs.Prelude.{Some, Result, Ok, Err}
use mathlib.Core.Path.{◌≡◌, refl}
use mathlib.Core.List.{List, [], ◌∷◌}
use mathlib.Core.Bool.{Bool, true, false, ◌&&◌}
use Prim.Native.Nat.{ℕ, ◌+◌}
use Prim.Native.Char.{code}
use lib.ListN.{length}
use lib.Dec.{leb, eqb}
use borrow.Author.Tests.{le-leb}
use Rattle.lists.proofs.Tests.{cond_ind}
use Rattle.settings.specs.Settings.{valid_link}
use Rattle.settings.specs.declared.Settings.{Settings}
use Rattle.settings.specs.DataBytes.{all_allowed}
use Rattle.block.specs.Judge.{is_reason}
use Rattle.fields.specs.Fields.{bytes_of}
use Rattle.fields.specs.declared.Field.{Field}
use Rattle.control_id.specs.ControlId.{in_words}
use Rattle.numbers.specs.Numbers.{number_field, greatest_sent}
use Rattle.numbers.specs.declared.SequenceNumber.TheVariants.{MinusOne, Number}
use Rattle.numbers.specs.declared.SequenceNumber.{SequenceNumber}
use Rattle.numbers.specs.declared.NumberError.{NumberError}
use Rattle.numbers.proofs.Reading.{field_number_bound}
use Rattle.header.specs.Header.{header_of}
use Rattle.receiver.specs.Receiver.{reply_space, row_of, reason_of, is_closed, valid_receiver, undecided, opens, header_decided, decide_of, refused, reported_of, answer_of, is_block_number, nak_of}
use Rattle.receiver.specs.Internal.{field_fits}
use Rattle.receiver.specs.declared.Application.{Application}
use Rattle.receiver.specs.declared.Receiver.{Receiver}

-- what holds of B, C, X and G holds of every reason
reason_any : (P : ℕ → Type 0) → P (code "B") → P (code "C") → P (code "X") → P (code "G") → (n : ℕ) → P (reason_of n)
reason_any P b c x g n =
    cond_ind P (eqb n 4) _ _ (λ e. b) (λ e. cond_ind P (eqb n 6) _ _ (λ f. c) (λ f. cond_ind P (eqb n 7) _ _ (λ i. x) (λ i. g)))

pub reason_is : (n : ℕ) → is_reason (reason_of n ∷ []) ≡ true
reason_is n = reason_any (λ (r : ℕ). is_reason (r ∷ []) ≡ true) refl refl refl refl n

pub reason_allowed : (n : ℕ) → all_allowed (reason_of n ∷ []) ≡ true
reason_allowed n = reason_any (λ (r : ℕ). all_allowed (r ∷ []) ≡ true) refl refl refl refl n

-- what MSH-13 holds has a number after it
pub field_fits_lem : (s : List ℕ) → field_fits (number_field greatest_sent s) ≡ true
field_fits_lem s = go (number_field greatest_sent s) refl
  where
    go : (f : Result SequenceNumber NumberError) → number_field greatest_sent s ≡ f → field_fits f ≡ true
    go (Err why) e = refl
    go (Ok MinusOne) e = refl
    go (Ok (Number n)) e = le-leb n greatest_sent (field_number_bound greatest_sent n s e)

-- the decision's returns
module _ (a : Application) (s : Receiver) (d : List ℕ) where
  pub header_opens : (id seq : Field) → all_allowed (bytes_of id d) ≡ true
      → opens s (in_words (bytes_of id d)) (row_of a s.expected (number_field greatest_sent (bytes_of seq d))) ≡ header_decided a s d (Some (record { control_id = id; sequence = seq }))
  header_opens id seq h = rw h

  module _ (t : ℕ) (v : valid_receiver s ≡ true) where
    pub decide_busy : is_closed s.decision ≡ false → undecided 11 0 s ≡ decide_of a s t d
    unfolding decide_of
    decide_busy h = rw (v, h)

    pub decide_data_lem : is_closed s.decision ≡ true → eqb t (code "N") ≡ false → header_decided a s d (header_of d) ≡ decide_of a s t d
    unfolding decide_of
    decide_data_lem c h = rw (v, c, h)

module _ (g : Settings) (s : Receiver) (start : ℕ) (b : List ℕ) where
  -- the report's
  module _ (stored : Bool) (h : valid_link g ≡ true) (e : leb (start + reply_space g) (length b) ≡ true) where
    pub answer_none : valid_receiver s ≡ false → refused 11 s b ≡ answer_of g stored s start b
    unfolding answer_of
    answer_none f = rw (h, e, f)

    pub answer_reported : valid_receiver s ≡ true → reported_of g stored s start b s.decision ≡ answer_of g stored s start b
    unfolding answer_of
    answer_reported f = rw (h, e, f)

  -- and the N reply's
  pub nak_none : (n : ℕ) → (valid_link g && is_block_number n) ≡ true → leb (start + reply_space g) (length b) ≡ true → (valid_receiver s && is_closed s.decision) ≡ false
      → refused 11 s b ≡ nak_of g n s start b
  unfolding nak_of
  nak_none n h e f = rw (h, e, f)
