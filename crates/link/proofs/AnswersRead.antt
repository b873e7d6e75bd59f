-- What the sender makes of a block: an answer that the receiver gave, an N block, or a refused block.
use Rattle.refusal.specs.Refusal.{accepted_as, refused_by}
use Rattle.std.specs.Prelude.{Option, Some, None, Result, Ok, Err}
use mathlib.Core.Path.{◌≡◌, sym, ap, ◌∙◌, subst}
use mathlib.Core.List.{List, [], ◌∷◌}
use mathlib.Core.Bool.{Bool, true, cond}
use Prim.Native.Nat.{ℕ, ◌≤◌}
use Prim.Native.Char.{code}
use Rattle.lists.proofs.Tests.{and_left, cond_ind}
use Rattle.refusal.specs.declared.Accepted.{Accepted}
use Rattle.refusal.specs.declared.Refusal.{Refusal}
use Rattle.fields.specs.Fields.{bytes_of}
use Rattle.numbers.specs.Numbers.{number_field, greatest_expected, text_of}
use Rattle.numbers.specs.declared.SequenceNumber.{SequenceNumber}
use Rattle.numbers.specs.declared.NumberError.{NumberError}
use Rattle.header.specs.Header.{answer_field, code_field}
use Rattle.header.specs.declared.Acknowledgment.{Acknowledgment}
use Rattle.header.specs.declared.Code.{Code}
use Rattle.message_theorems.specs.ReadBack.{ReadsAnswer}
use Rattle.message_theorems.proofs.Answer.{answer_acknowledges}
use Rattle.sender.specs.Sender.{valid_sender, is_open, on_circuit, acted, waits_of, answer_of, answered_by, valid_resends, resend_of, when_open, timer_of, data_block, block_in, block_read_of}
use Rattle.sender.specs.declared.Sender.{Sender}
use Rattle.sender.specs.declared.Event.TheVariants.{Dropped}
use Rattle.sender.specs.declared.Acted.{Acted}
use Rattle.link.proofs.Facts.{not_both}
use Rattle.link.proofs.SenderValid.{right_from, when_open_is}
use Rattle.link.specs.Line.{arrival, accepts}
use Rattle.link.proofs.Queues.{Answer, skip, sub-all, sub_among, replies, refuses}
use Rattle.link.proofs.Books.{Books, with_sender, with_lines, Core, lose_back}
use Rattle.link.proofs.Naming.{quiet}
use Rattle.link.proofs.Sending.{After, due, answered}
use Rattle.lists.proofs.Same.{same_self}
use Rattle.link.proofs.Messages.{IsReply}

-- an answer of the receiver's, as the sender reads it
pub read_as : (r : ℕ) (s : Sender) (t : List ℕ) (v : SequenceNumber) (d : Code) (m : SequenceNumber) → ReadsAnswer t d (text_of v) m → (n : ℕ)
    → block_in r s (accepted_as (code "D") n) t ≡ answered_by s (text_of v) (Some d) (Ok m) (waits_of s)
read_as r s t v d m a n =
    let w = waits_of s in
    ap (λ (z : Option Acknowledgment). data_block r s t z) (answer_acknowledges t d (text_of v) m a)
    ∙ ap (λ (z : List ℕ). answered_by s z (code_field (bytes_of (answer_field 1 t) t)) (number_field greatest_expected (bytes_of (answer_field 4 t) t)) w) a.id_read
    ∙ ap (λ (z : Option Code). answered_by s (text_of v) z (number_field greatest_expected (bytes_of (answer_field 4 t) t)) w) a.code_read
    ∙ ap (λ (z : Result SequenceNumber NumberError). answered_by s (text_of v) (Some d) z w) a.expected

-- the act on a block, where a circuit is open
on_open : (r : ℕ) (s : Sender) (v : Result Accepted Refusal) (d : List ℕ) → r ≤ 99 → valid_sender s ≡ true → is_open s.waiting ≡ true → block_read_of r s v d ≡ block_in r s v d
unfolding block_read_of
on_open r s v d l z w = when_open_is r s (block_in r s v d) l z w

-- an answer to what waits
pub read_own : (r : ℕ) (s : Sender) (t : List ℕ) (v : SequenceNumber) (d : Code) (m : SequenceNumber) → ReadsAnswer t d (text_of v) m → r ≤ 99 → valid_sender s ≡ true → is_open s.waiting ≡ true
    → waits_of s ≡ Some v
    → (n : ℕ) → block_read_of r s (accepted_as (code "D") n) t ≡ answer_of s (Some d) (Ok m)
read_own r s t v d m y l z w u n =
    on_open r s (accepted_as (code "D") n) t l z w
    ∙ read_as r s t v d m y n
    ∙ ap (answered_by s (text_of v) (Some d) (Ok m)) u
    ∙ ap (λ (b : Bool). cond b (answer_of s (Some d) (Ok m)) (acted s None Dropped)) (same_self (text_of v))

module _ (f : ℕ) (b : Books) (r : ℕ) (s : Sender) where
  abbrev Here : List Answer → Type 0
  Here bs = Core f (with_lines (with_sender b s.persisted s.waiting b.named) b.forward bs)

  abbrev Then : Acted → Type 0
  Then a = After f b a

  tested : Here b.back → (a : Acted) → (valid_sender s ≡ true → Then a) → Then (when_open r s a)
  tested c a t =
      cond_ind Then (valid_resends r) _ _ (λ x. cond_ind Then (on_circuit s) _ _ (λ y. t (and_left (valid_sender s) (is_open s.waiting) y)) (λ y. quiet c))
      (λ x. quiet c)

  falls_due_lem : Here b.back → valid_sender s ≡ true → Then (resend_of r s (waits_of s))
  falls_due_lem c v = due f b r s.persisted s.waiting s.sends (right_from s v).waits c

  pub timer_runs : Here b.back → Then (timer_of r s)
  unfolding timer_of
  timer_runs c = tested c (resend_of r s (waits_of s)) (falls_due_lem c)

  on_circuit_lem : Here b.back → (v : Result Accepted Refusal) (m : List ℕ) → (valid_sender s ≡ true → Then (block_in r s v m)) → Then (block_read_of r s v m)
  unfolding block_read_of
  on_circuit_lem c v m t = tested c (block_in r s v m) t

  -- ---- a refused block
  pub refusal_read : Here b.back → (v : Result Accepted Refusal) (m : List ℕ) → accepts v m ≡ [] → Then (block_read_of r s v m)
  refusal_read c (Ok v) m z = not_both cc
  refusal_read c (Err v) m z = on_circuit_lem c (refused_by v.number v.offset) m (falls_due_lem c)

  less : {a : Answer} → Here (a ∷ b.back) → Here b.back
  less c = lose_back c (sub_among (skip (sub-all b.back)))

  -- ---- a reply: an N block, or an answer
  pub reply_read : (a : Answer) (t n : ℕ) (d : List ℕ) → IsReply (arrival t d) a → Here (a ∷ b.back) → Then (block_read_of r s (accepted_as t n) d)
  reply_read (refuses k) t n d is c =
      subst (λ (x : ℕ). Then (block_read_of r s (accepted_as x n) d)) (sym is) (on_circuit_lem (less c) (accepted_as (code "N") n) d (falls_due_lem (less c)))
  reply_read (replies v x m) t n d is c =
      subst (λ (x : ℕ). Then (block_read_of r s (accepted_as x n) d)) (sym is.type)
      (on_circuit_lem (less c) (accepted_as (code "D") n) d
      (λ z. subst Then (sym (read_as r s d v x m is.reads n)) (answered f b s.persisted s.sends v x m s.waiting c)))
