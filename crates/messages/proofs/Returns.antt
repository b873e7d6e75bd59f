-- The ways in which the writers of messages return.
use Rattle.std.specs.Prelude.{Ok, Err}
use mathlib.Core.Path.{◌≡◌, refl, sym, ap, ◌∙◌}
use mathlib.Core.List.{List}
use mathlib.Core.Bool.{Bool, true, false, ◌&&◌}
use Prim.Native.Nat.{ℕ, ◌+◌, ◌-◌, ◌≤◌, ◌<◌}
use native.Mathlib.Omega.{arith}
use lib.ListN.{length}
use lib.Dec.{leb}
use borrow.Author.Tests.{leb-true, le-leb, lt-leb}
use Rattle.lists.specs.Bytes.{put}
use Rattle.lists.specs.Outcome.{outcome}
use Rattle.lists.proofs.Tests.{and_left, and_right}
use Rattle.settings.specs.DataBytes.{all_allowed}
use Rattle.header.specs.declared.Code.{Code}
use Rattle.numbers.specs.Numbers.{text_of}
use Rattle.numbers.specs.declared.SequenceNumber.{SequenceNumber}
use Rattle.messages.specs.Messages.{valid_control_id, answerable, valid_type, answer_message, control_message}
use Rattle.messages.specs.Write.{write_answer_of, write_control_of}
use Rattle.messages.specs.Internal.{Puts, header_pieces, answer_pieces, id_refusal}
use Rattle.messages.specs.declared.Control.{Control}
use Rattle.messages.specs.declared.MessageType.{MessageType}
use Rattle.messages.proofs.Laws.{then}
use Rattle.messages.proofs.Shapes.{answer_is, length_header, length_answer, length_control}

module _ (t : MessageType) (c : Control) (start : ℕ) (b : List ℕ) where
  pub control_setting : valid_type t ≡ false → outcome (Err (record { number = 1; offset = 0 })) b ≡ write_control_of t c start b
  unfolding write_control_of
  control_setting h = rw h

  pub control_space : (n : ℕ) → n ≡ length (control_message t c) → n ≤ length b - start → start + length (control_message t c) ≤ length b
  control_space n e h = omega (arith, length_control t c)

  pub control_short : (n : ℕ) → n ≡ length (control_message t c) → valid_type t ≡ true → length b - start < n
      → outcome (Err (record { number = 2; offset = 0 })) b ≡ write_control_of t c start b
  unfolding write_control_of
  control_short n e v h = rw (v, lt-leb (start + length (control_message t c)) (length b) (omega arith))

  pub control_done : (m : List ℕ) (n : ℕ) → n ≡ length (control_message t c) → valid_type t ≡ true → n ≤ length b - start
      → m ≡ put b start (control_message t c) → outcome (Ok n) m ≡ write_control_of t c start b
  unfolding write_control_of
  control_done m n e v h p =
      rw (v, le-leb (start + length (control_message t c)) (length b) (control_space n e h), e) (ap (λ (z : List ℕ). outcome (Ok (length (control_message t c))) z) p)

pub ruleset control_cases = (control_setting, control_space, control_short, control_done)

module _ (id : List ℕ) (code : Code) (n : SequenceNumber) (start : ℕ) (b : List ℕ) (d : ℕ) (q : d ≡ length (text_of n)) where
  size_is : start + length (answer_message id code n) ≡ start + (38 + (d + (length id + length id)))
  size_is = rw (length_answer id code n, q)

  pub answer_short : leb (start + (38 + (d + (length id + length id)))) (length b) ≡ false → outcome (Err (record { number = 2; offset = 0 })) b ≡ write_answer_of id code n start b
  unfolding write_answer_of
  answer_short h = rw (size_is, h)

  module _ (h : leb (start + (38 + (d + (length id + length id)))) (length b) ≡ true) where
    pub answer_space : start + (38 + (length (text_of n) + (length id + length id))) ≤ length b
    answer_space = rw (← q) (leb-true (start + (38 + (d + (length id + length id)))) (length b) h)

    pub answer_refused : (all_allowed id && valid_control_id id) ≡ false → outcome (id_refusal id) b ≡ write_answer_of id code n start b
    unfolding write_answer_of
    answer_refused e = go (all_allowed id) refl
      where
        go : (t : Bool) → all_allowed id ≡ t → outcome (id_refusal id) b ≡ write_answer_of id code n start b
        go true a = rw (size_is, h, a, (rw a at e))
        go false a = rw (size_is, h, a)

    module _ (e : (all_allowed id && valid_control_id id) ≡ true) where
      fine : all_allowed id ≡ true
      fine = and_left (all_allowed id) (valid_control_id id) e

      stands : valid_control_id id ≡ true
      stands = and_right (all_allowed id) (valid_control_id id) e

      pub answer_number : answerable n ≡ false → outcome (Err (record { number = 10; offset = 0 })) b ≡ write_answer_of id code n start b
      unfolding write_answer_of
      answer_number x = rw (size_is, h, fine, stands, x)

      pub answer_done : {m : List ℕ} {at : ℕ} (r : ℕ) (last : List ℕ) → answerable n ≡ true → Puts b start (header_pieces id code) at m
          → Puts m at (answer_pieces id n) r last → outcome (Ok (r - start)) last ≡ write_answer_of id code n start b
      unfolding write_answer_of
      answer_done r last x p s =
          let k = length_header id code in
          let g = answer_space in
          let w = then (header_pieces id code) (answer_pieces id n) p (omega (arith, k, g)) s in
          let y : r ≡ start + length (answer_message id code n) = w.next ∙ ap (λ (z : List ℕ). start + length z) (answer_is id code n) in
          let d : r - start ≡ length (answer_message id code n) = omega (arith, y) in
          rw (size_is, h, fine, stands, x)
          (ap (λ (z : ℕ). outcome (Ok z) last) d
          ∙ ap (λ (z : List ℕ). outcome (Ok (length (answer_message id code n))) z) (w.content ∙ ap (λ (z : List ℕ). put b start z) (answer_is id code n)))

-- the answer in the two parts in which it is written
module _ (id : List ℕ) (code : Code) (n : SequenceNumber) (start : ℕ) (b : List ℕ) where
  pub answer_wrote : leb (start + (38 + (length (text_of n) + (length id + length id)))) (length b) ≡ true → (all_allowed id && valid_control_id id) ≡ true → answerable n ≡ true
      → write_answer_of id code n start b
      ≡ outcome (Ok (length (header_pieces id code) + length (answer_pieces id n))) (put (put b start (header_pieces id code)) (start + length (header_pieces id code)) (answer_pieces id n))
  answer_wrote h e x =
      let k = length_header id code in
      let d : length (text_of n) ≡ length (text_of n) = refl in
      let g = answer_space id code n start b (length (text_of n)) d h in
      sym (answer_done id code n start b (length (text_of n)) d h e (start + length (header_pieces id code) + length (answer_pieces id n)) _ x
      (record { next = refl; content = refl }) (record { next = refl; content = refl }))
      ∙ ap (λ (z : ℕ). outcome (Ok z) (put (put b start (header_pieces id code)) (start + length (header_pieces id code)) (answer_pieces id n)))
      (omega arith)

pub ruleset answer_cases = (answer_short, answer_space, answer_refused, answer_number, answer_wrote, length_header)
