-- The sender's acts keep the invariant, as far as requests and replies go. It never freezes.
use Rattle.std.specs.Prelude.{Option, Some, None, Ok}
use mathlib.Core.Path.{◌≡◌, refl, sym, ap, ◌∙◌, subst}
use mathlib.Core.List.{List, ◌∷◌}
use mathlib.Core.Bool.{Bool, true, false, cond, not, ◌&&◌}
use mathlib.Core.Logic.{inl, inr}
use Prim.Native.Nat.{ℕ, ◌+◌, ◌-◌, ◌≤◌, ◌<◌}
use native.Mathlib.Omega.{arith}
use native.Mathlib.Decide.{dec_le}
use lib.ListN.{length}
use lib.Dec.{leb, ltb, eqb}
use borrow.Author.Tests.{lt-ltb, ltb-true, eq-eqb, ne_eqb}
use Rattle.lists.specs.Bytes.{same}
use Rattle.lists.proofs.Tests.{cond_ind, and_left}
use Rattle.lists.proofs.Same.{same-is}
use Rattle.settings.specs.Settings.{valid_link_limit}
use Rattle.settings.specs.DataBytes.{all_allowed}
use Rattle.fields.specs.Fields.{bytes_of}
use Rattle.numbers.specs.Numbers.{number_field, greatest_sent, text_of}
use Rattle.numbers.specs.declared.SequenceNumber.{SequenceNumber}
use Rattle.numbers.specs.declared.SequenceNumber.TheVariants.{MinusOne, Number}
use Rattle.header.specs.Header.{header_of}
use Rattle.header.specs.declared.Header.{Header}
use Rattle.header.specs.declared.Code.{Code}
use Rattle.header.specs.declared.Code.TheVariants.{AA, AE, AR}
use Rattle.receiver.specs.Receiver.{expected_number}
use Rattle.sender.specs.Sender.{valid_sender, acted, waiting_message, begins_to_wait, on_circuit, resend_of, proceeds, freezes, resynchronized_of, delivered_of}
use Rattle.sender.specs.Sender.{answer_resynchronizing, answer_query, answer_transaction, answer_of, answered_by}
use Rattle.sender.specs.Sender.{is_number, taken_in, submitted_header, submit_of, ended_of, reset_of}
use Rattle.sender.specs.declared.Persisted.{Persisted}
use Rattle.sender.specs.declared.Waiting.{Waiting}
use Rattle.sender.specs.declared.Waiting.TheVariants.{Closed, Idle, Resynchronizing, Querying, Sending}
use Rattle.sender.specs.declared.Sender.{Sender}
use Rattle.sender.specs.declared.Event.{Event}
use Rattle.sender.specs.declared.Event.TheVariants.{NoEvent, DeliveredUnknown, Dropped}
use Rattle.sender.specs.declared.Acted.{Acted}
use Rattle.link.proofs.Facts.{not_both, number_is}
use Rattle.link.proofs.SenderValid.{WaitsRight, right_from}
use Rattle.link.proofs.SenderSteps.{number_sent}
use Rattle.link.specs.SenderActs.{sender_at}
use Rattle.link.specs.System.{named_after}
use Rattle.link.proofs.Queues.{all_head, Answer, skip, sub-all, sub_among, replies, Given, ToNumber, to_zero, to_stored, to_repeat, NamesExpected, All}
use Rattle.link.proofs.Books.{Books, with_sender, with_lines, Core, Expects, old, unknown, next, close_circuit, lose_back}
use Rattle.link.proofs.Naming.{quiet, send_next, rest, deliver, submit, synchronize, again_first, again_query}
use Rattle.link.proofs.Texts.{text_is}

-- ---- 0 is answered by the number after the delivered one, or by the one after that
module _ (p : Persisted) (h : ℕ) where
  abbrev queried : Bool → Bool → Acted
  queried x y = cond x (proceeds p NoEvent) (cond y (proceeds (delivered_of p) (DeliveredUnknown (p.delivered + 1))) (freezes p))

  pub query_same : h ≡ p.delivered + 1 → answer_query p AA (Number h) ≡ proceeds p NoEvent
  query_same e = ap (λ (x : Bool). queried x (eqb h (p.delivered + 1 + 1) && ltb p.delivered p.last)) (eq-eqb h (p.delivered + 1) e)

  pub query_moved : h ≡ p.delivered + 1 + 1 → p.delivered < p.last → answer_query p AA (Number h) ≡ proceeds (delivered_of p) (DeliveredUnknown (p.delivered + 1))
  query_moved e l =
      ap (λ (x : Bool). queried x (eqb h (p.delivered + 1 + 1) && ltb p.delivered p.last)) (ne_eqb h (p.delivered + 1) (λ (a : h ≡ p.delivered + 1). omega arith))
      ∙ ap (λ (y : Bool). queried false (y && ltb p.delivered p.last)) (eq-eqb h (p.delivered + 1 + 1) e)
      ∙ ap (λ (y : Bool). queried false y) (lt-ltb p.delivered p.last l)

module _ (f : ℕ) (b : Books) where
  abbrev Now : Persisted → Waiting → Type 0
  Now p w = Core f (with_sender b p w b.named)

  abbrev pub After : Acted → Type 0
  After a = Core f (with_sender b a.sender.persisted a.sender.waiting (named_after b.named a))

  -- ---- something falls due
  module _ (r : ℕ) (p : Persisted) where
    again : (w : Waiting) (n : ℕ) (v : SequenceNumber) → After (acted (sender_at p w (n + 1)) (Some v) NoEvent) → Now p w
        → After (resend_of r (sender_at p w n) (Some v))
    again w n v a c = cond_ind After (ltb n (r + 1)) _ _ (λ z. a) (λ z. close_circuit c)

    pub due : (w : Waiting) (n : ℕ) → WaitsRight p w n → Now p w → After (resend_of r (sender_at p w n) (waiting_message p w))
    due Closed n t c = quiet c
    due Idle n t c = quiet c
    due Resynchronizing n t c = again Resynchronizing n MinusOne (again_first c refl) c
    due Querying n t c = again Querying n (Number 0) (again_query c c.waits) c
    due Sending n t c = again Sending n (Number (p.delivered + 1)) (send_next c t.0.synchronized t.1.more) c

  -- ---- what goes on
  pub proceeding : (p : Persisted) (v : Event) → p.resynchronized ≡ true → Now p Idle → After (proceeds p v)
  proceeding p v z c =
      cond_ind (λ (w : Waiting). After (begins_to_wait p w v)) (ltb p.delivered p.last) Sending Idle (λ y. send_next c z (ltb-true p.delivered p.last y)) (λ y. quiet c)

  -- ---- an answer to what waits
  module _ (p : Persisted) where
    first_answered : (d : Code) (m : SequenceNumber) → Now p Resynchronizing → Given b.stored (replies MinusOne d m) → After (answer_resynchronizing p d m)
    first_answered d m c t =
        subst (λ (x : Code). After (answer_resynchronizing p x m)) (sym t.code)
        (subst (λ (x : SequenceNumber). After (answer_resynchronizing p AA x)) (sym t.number)
        (proceeding (resynchronized_of p) NoEvent refl (synchronize c refl t.new)))

    query_none : Now p Querying → b.volatile.next ≡ f → After (answer_query p AA MinusOne)
    query_none c z =
        let i = c.numbers in
        let g = c.senders.first in
        let y : eqb p.delivered (p.first - 1) ≡ true = eq-eqb p.delivered (p.first - 1) (omega arith) in
        subst (λ (t : Bool). After (cond t (proceeds p NoEvent) (freezes p))) (sym y) (proceeding p NoEvent c.waits.synchronized (rest c c.waits.synchronized))

    query_number : Now p Querying → b.stored.next ≡ b.volatile.next → After (answer_query p AA (Number b.volatile.next))
    query_number c z = go (dec_le b.volatile.next (p.delivered + 1))
      where
        go : Dec (b.volatile.next ≤ p.delivered + 1) → After (answer_query p AA (Number b.volatile.next))
        go (yes y) =
            let i = c.numbers in
            subst After (sym (query_same p b.volatile.next (omega arith))) (proceeding p NoEvent c.waits.synchronized (rest c c.waits.synchronized))
        go (no y) =
            let i = c.numbers in
            subst After (sym (query_moved p b.volatile.next (omega arith) (omega arith)))
            (proceeding (delivered_of p) (DeliveredUnknown (p.delivered + 1)) c.waits.synchronized (deliver c c.waits.synchronized (omega arith)))

    -- what the receiver has persisted is what it holds, where both name the same number
    stored_is : Expects f b.stored → b.stored.old ≡ false → expected_number b.stored.expected ≡ Number b.volatile.next → b.stored.next ≡ b.volatile.next
    stored_is (old a x) z y = not_both (sym a ∙ z)
    stored_is (unknown a t x) z y = let v = sym (ap expected_number x) ∙ y in not_both cc
    stored_is (next a t x) z y = number_is (sym (ap expected_number x) ∙ y)

    query_answered : (m : SequenceNumber) → Now p Querying → m ≡ expected_number b.volatile.expected → m ≡ expected_number b.stored.expected
        → After (answer_query p AA m)
    query_answered m c y x = go c.receivers.expects
      where
        new : b.stored.old ≡ false
        new = c.receivers.synchronized c.waits.synchronized

        go : Expects f b.volatile → After (answer_query p AA m)
        go (old a t) = not_both (sym a ∙ c.receivers.newer new)
        go (unknown a z t) = subst (λ (v : SequenceNumber). After (answer_query p AA v)) (sym (y ∙ ap expected_number t)) (query_none c z)
        go (next a z t) =
            subst (λ (v : SequenceNumber). After (answer_query p AA v)) (sym (y ∙ ap expected_number t))
            (query_number c (stored_is c.receivers.stored_expects new (sym x ∙ y ∙ ap expected_number t)))

    -- the test of the number is passed, and the delivered number moves
    taken : (t : Bool) (v : Event) → t ≡ true → Now p Sending → p.delivered + 2 ≤ b.stored.next → After (cond t (proceeds (delivered_of p) v) (freezes p))
    taken t v y c l = subst (λ (x : Bool). After (cond x (proceeds (delivered_of p) v) (freezes p))) (sym y) (proceeding (delivered_of p) v c.waits (deliver c c.waits l))

    transaction_answered : (d : Code) (m : SequenceNumber) → Now p Sending → ToNumber b.stored.next (p.delivered + 1) d m → After (answer_transaction p d m)
    transaction_answered d m c (to_zero a x) = absurd (omega arith)
    transaction_answered d m c (to_stored a (inl x) y l) =
        subst (λ (z : Code). After (answer_transaction p z m)) (sym x)
        (subst (λ (z : SequenceNumber). After (answer_transaction p AA z)) (sym y) (taken _ _ (eq-eqb (p.delivered + 1) (p.delivered + 1) refl) c (omega arith)))
    transaction_answered d m c (to_stored a (inr x) y l) =
        subst (λ (z : Code). After (answer_transaction p z m)) (sym x)
        (subst (λ (z : SequenceNumber). After (answer_transaction p AE z)) (sym y) (taken _ _ (eq-eqb (p.delivered + 1) (p.delivered + 1) refl) c (omega arith)))
    transaction_answered d m c (to_repeat a x y l) =
        subst (λ (z : Code). After (answer_transaction p z m)) (sym x)
        (subst (λ (z : SequenceNumber). After (answer_transaction p AR z)) (sym y) (taken _ _ (eq-eqb (p.delivered + 1 + 1) (p.delivered + 1 + 1) refl) c (omega arith)))

  -- ---- any answer that the receiver gave: to what waits, or dropped
  module _ (p : Persisted) (n : ℕ) (v : SequenceNumber) (d : Code) (m : SequenceNumber) where
    abbrev Before : Waiting → Type 0
    Before w = Core f (with_lines (with_sender b p w b.named) b.forward (replies v d m ∷ b.back))

    rid : {w : Waiting} → Before w → Now p w
    rid c = lose_back c (sub_among (skip (sub-all b.back)))

    given : {w : Waiting} (x : SequenceNumber) → v ≡ x → Before w → Given b.stored (replies x d m)
    given x y c = subst (λ (z : SequenceNumber). Given b.stored (replies z d m)) y (all_head c.back)

    or-dropped : (w : Waiting) (x : SequenceNumber) → Before w → (v ≡ x → After (answer_of (sender_at p w n) (Some d) (Ok m)))
        → After (cond (same (text_of v) (text_of x)) (answer_of (sender_at p w n) (Some d) (Ok m)) (acted (sender_at p w n) None Dropped))
    or-dropped w x c g =
        cond_ind After (same (text_of v) (text_of x)) _ _ (λ y. g (text_is v x (same-is (text_of v) (text_of x) y))) (λ y. quiet (rid c))

    pub answered : (w : Waiting) → Before w → After (answered_by (sender_at p w n) (text_of v) (Some d) (Ok m) (waiting_message p w))
    answered Closed c = quiet (rid c)
    answered Idle c = quiet (rid c)
    answered Resynchronizing c = or-dropped Resynchronizing MinusOne c (λ y. first_answered p d m (rid c) (given MinusOne y c))
    answered Querying c = or-dropped Querying (Number 0) c (λ y. zero (given (Number 0) y c) (named b.volatile.expected y c.waits.names) (named b.stored.expected y c.waits.names_stored))
      where
        named : (e : Option ℕ) {l : List Answer} → v ≡ Number 0 → All (NamesExpected e) (replies v d m ∷ l) → m ≡ expected_number e
        named e y a = subst (λ (z : SequenceNumber). NamesExpected e (replies z d m)) y (all_head a) refl

        zero : ToNumber b.stored.next 0 d m → m ≡ expected_number b.volatile.expected → m ≡ expected_number b.stored.expected
            → After (answer_of (sender_at p Querying n) (Some d) (Ok m))
        zero (to_zero a x) r t = subst (λ (z : Code). After (answer_query p z m)) (sym x) (query_answered p m (rid c) r t)
        zero (to_stored a x z l) r t = absurd (omega arith)
        zero (to_repeat a x z l) r t = absurd (omega arith)
    answered Sending c =
        or-dropped Sending (Number (p.delivered + 1)) c (λ y. transaction_answered p d m (rid c) (given (Number (p.delivered + 1)) y c))

  -- ---- the driver's and the operator's acts
  module _ (s : Sender) (c : Now s.persisted s.waiting) where
    right : valid_sender s ≡ true → WaitsRight s.persisted s.waiting s.sends
    right v = (right_from s v).waits

    pub ended : After (ended_of s)
    unfolding ended_of
    ended = cond_ind After (on_circuit s) _ _ (λ y. close_circuit c) (λ y. quiet c)

    pub reset : After (reset_of s)
    unfolding reset_of
    reset =
        cond_ind After (valid_sender s) _ _
        (λ v. cond_ind After s.persisted.frozen _ _ (λ y. not_both (sym y ∙ c.senders.unfrozen)) (λ y. quiet c))
        (λ v. quiet c)

    -- a transaction is taken: the message has the next number
    submitted_in : (w : Waiting) (n : ℕ) → WaitsRight s.persisted w n → Now s.persisted w → s.persisted.last + 1 ≤ 999999999999998
        → After (taken_in (sender_at s.persisted w n) w)
    submitted_in Closed n t a l = quiet (submit a l)
    submitted_in Idle n t a l = send_next (submit a l) t.0.synchronized (let r = t.1.all in omega arith)
    submitted_in Resynchronizing n t a l = quiet (submit a l)
    submitted_in Querying n t a l = quiet (submit a l)
    submitted_in Sending n t a l = quiet (submit a l)

    header : valid_sender s ≡ true → (message : List ℕ) (x : Option Header) → After (submitted_header s message x)
    header v message None = quiet c
    header v message (Some h) =
        let next = s.persisted.last + 1 in
        let is = is_number next (number_field greatest_sent (bytes_of h.sequence message)) in
        let named = same (bytes_of h.control_id message) (text_of (Number next)) in
        cond_ind After (is && named) _ _
        (λ y. submitted_in s.waiting s.sends (right v) c (number_sent next (bytes_of h.sequence message) (and_left is named y))) (λ y. quiet c)

    pub submits : (limit : ℕ) (message : List ℕ) → After (submit_of limit s message)
    unfolding submit_of
    submits limit message =
        cond_ind After (valid_link_limit limit) _ _
        (λ a. cond_ind After (valid_sender s) _ _
        (λ v. cond_ind After (not s.persisted.frozen) _ _
        (λ y. cond_ind After (leb (length message) limit) _ _
        (λ z. cond_ind After (all_allowed message) _ _ (λ x. header v message (header_of message)) (λ x. quiet c))
        (λ z. quiet c))
        (λ y. quiet c))
        (λ v. quiet c))
        (λ a. quiet c)
