-- What the sender takes is a message of a log: "Submitting takes the next number only (MSH-13), with MSH-10 its plain decimal", and it fits a block.
use Rattle.std.specs.Prelude.{Result, Ok, Err}
use mathlib.Core.Path.{◌≡◌, refl, sym, ap, ◌∙◌}
use mathlib.Core.Bool.{Bool, true, false, cond, not, ◌&&◌}
use mathlib.Core.List.{List}
use Prim.Native.Nat.{ℕ, ◌+◌}
use native.Mathlib.Omega.{arith}
use lib.ListN.{length}
use lib.Dec.{leb}
use borrow.Author.Tests.{le-leb, leb-true, eq-eqb, eqb-true}
use Rattle.lists.specs.Bytes.{same}
use Rattle.lists.proofs.Tests.{cond_ind, and_left, and_right}
use Rattle.lists.proofs.Same.{same-is, same_self}
use Rattle.settings.specs.Settings.{valid_link_limit}
use Rattle.settings.specs.declared.Settings.{Settings}
use Rattle.settings.specs.DataBytes.{all_allowed, first_forbidden}
use Rattle.fields.specs.Fields.{bytes_of}
use Rattle.numbers.specs.Numbers.{number_field, greatest_sent, text_of}
use Rattle.numbers.specs.declared.SequenceNumber.TheVariants.{MinusOne, Number}
use Rattle.numbers.specs.declared.SequenceNumber.{SequenceNumber}
use Rattle.numbers.specs.declared.NumberError.{NumberError}
use Rattle.header.specs.Header.{control_id_field, sequence_field, readable_header, header_of}
use Rattle.sender.specs.Sender.{valid_sender, refused, is_number, taken_in, submitted_header, submit_of}
use Rattle.sender.specs.declared.Waiting.{Waiting}
use Rattle.sender.specs.declared.Waiting.TheVariants.{Closed, Idle, Resynchronizing, Querying, Sending}
use Rattle.sender.specs.declared.Sender.{Sender}
use Rattle.sender.specs.declared.Acted.{Acted}
use Rattle.message_theorems.proofs.Control.{control_header}
use Rattle.link.specs.Promise.{Logged}
use Rattle.link.proofs.Facts.{not_both}

number_is : (n : ℕ) (f : Result SequenceNumber NumberError) → is_number n f ≡ true → f ≡ Ok (Number n)
number_is n (Ok (Number k)) e = ap (λ (i : ℕ). Ok (Number i)) (eqb-true k n e)
number_is n (Ok MinusOne) e = not_both (sym e)
number_is n (Err why) e = not_both (sym e)

module _ (g : Settings) (s : Sender) (d : List ℕ) where
  abbrev next : ℕ
  next = s.persisted.last + 1

  pub record Submits (a : Acted) : Type 0 where
    pub logged : Logged g next d
    pub last : a.sender.persisted.last ≡ next

  abbrev Takes : Acted → Type 0
  Takes a = a.refusal ≡ 0 → Submits a

  counts : (w : Waiting) → (taken_in s w).sender.persisted.last ≡ next
  counts Closed = refl
  counts Idle = refl
  counts Resynchronizing = refl
  counts Querying = refl
  counts Sending = refl

  header_logged : leb (length d) g.data_limit ≡ true → all_allowed d ≡ true → Takes (submitted_header s d (header_of d))
  unfolding header_of
  header_logged fits allowed = go (readable_header d) refl
    where
      go : (b : Bool) → readable_header d ≡ b → Takes (submitted_header s d (header_of d))
      go false e = rw e (λ q. absurd (omega (arith, q)))
      go true e =
          rw e (cond_ind Takes (is_number next (number_field greatest_sent (bytes_of (sequence_field d) d)) && same (bytes_of (control_id_field d) d) (text_of (Number next))) _ _
          (λ z q. record {
            logged = record {
              fits = leb-true (length d) g.data_limit fits;
              allowed = allowed;
              reads = record {
                readable = e;
                id_read = same-is (bytes_of (control_id_field d) d) (text_of (Number next))
                    (and_right (is_number next (number_field greatest_sent (bytes_of (sequence_field d) d))) (same (bytes_of (control_id_field d) d) (text_of (Number next))) z);
                number_read = number_is next (number_field greatest_sent (bytes_of (sequence_field d) d))
                    (and_left (is_number next (number_field greatest_sent (bytes_of (sequence_field d) d))) (same (bytes_of (control_id_field d) d) (text_of (Number next))) z);
              };
            };
            last = counts s.waiting;
          })
          (λ z q. absurd (omega (arith, q))))

  -- submitted under the link's limit and taken: a message of a log, under the next number, and it counts as submitted
  pub submit_logged : Takes (submit_of g.data_limit s d)
  unfolding submit_of
  submit_logged =
      cond_ind Takes (valid_link_limit g.data_limit) _ _
      (λ a. cond_ind Takes (valid_sender s) _ _
      (λ v. cond_ind Takes (not s.persisted.frozen) _ _
      (λ u. cond_ind Takes (leb (length d) g.data_limit) _ _
      (λ z. cond_ind Takes (all_allowed d) _ _ (λ x. header_logged z x) (λ x q. absurd (omega (arith, q))))
      (λ z q. absurd (omega (arith, q)))) (λ u q. absurd (omega (arith, q)))) (λ v q. absurd (omega (arith, q)))) (λ a q. absurd (omega (arith, q)))

  -- and such a message is taken, where the sender is not frozen
  accepted : (w : Waiting) → (taken_in s w).refusal ≡ 0
  accepted Closed = refl
  accepted Idle = refl
  accepted Resynchronizing = refl
  accepted Querying = refl
  accepted Sending = refl

  pub logged_submits : valid_link_limit g.data_limit ≡ true → valid_sender s ≡ true → s.persisted.frozen ≡ false → Logged g next d → (submit_of g.data_limit s d).refusal ≡ 0
  unfolding submit_of
  logged_submits limit valid unfrozen logged =
      let r = logged.reads in
      let fits = le-leb (length d) g.data_limit logged.fits in
      let header = control_header d (Number next) r in
      let number = ap (is_number next) r.number_read ∙ eq-eqb next next refl in
      let own = ap (λ (t : List ℕ). same t (text_of (Number next))) r.id_read ∙ same_self (text_of (Number next)) in
      let id = bytes_of (control_id_field d) d in
      let field = number_field greatest_sent (bytes_of (sequence_field d) d) in
      rw (limit, valid)
      (ap (λ (b : Bool). (cond (not b) (cond (leb (length d) g.data_limit) (cond (all_allowed d) (submitted_header s d (header_of d)) (refused 3 (first_forbidden d) s)) (refused 4 0 s)) (refused 11 0 s)).refusal) unfrozen
      ∙ rw (fits, logged.allowed, header)
      (ap (λ (b : Bool). (cond (b && same (bytes_of (control_id_field d) d) (text_of (Number (s.persisted.last + 1)))) (taken_in s s.waiting) (refused 10 0 s)).refusal) number
      ∙ ap (λ (b : Bool). (cond b (taken_in s s.waiting) (refused 10 0 s)).refusal) own ∙ accepted s.waiting))
