-- Messages go onto the lines, and the receiver reads requests.
use Rattle.std.specs.Prelude.{Some, None}
use mathlib.Core.Path.{◌≡◌, refl, sym, ap, ◌∙◌, subst}
use mathlib.Core.List.{List, [], ◌∷◌, ◌++◌, append_assoc}
use mathlib.Core.Bool.{true, false}
use mathlib.Core.Logic.{◌⊎◌, inl, inr}
use Prim.Native.Nat.{ℕ, ◌+◌, ◌≤◌}
use native.Mathlib.Omega.{arith}
use native.Mathlib.Decide.{dec_le}
use Rattle.numbers.specs.declared.SequenceNumber.{SequenceNumber}
use Rattle.numbers.specs.declared.SequenceNumber.TheVariants.{MinusOne, Number}
use Rattle.header.specs.declared.Code.{Code}
use Rattle.header.specs.declared.Code.TheVariants.{AA, AE, AR}
use Rattle.receiver.specs.Receiver.{expected_number}
use Rattle.sender.specs.declared.Persisted.{Persisted}
use Rattle.sender.specs.declared.Waiting.{Waiting}
use Rattle.sender.specs.declared.Waiting.TheVariants.{Closed, Idle, Resynchronizing, Querying, Sending}
use Rattle.link.proofs.Facts.{not_both, either, number_is}
use Rattle.link.proofs.Queues.{All, all_map, all_right, all_end, all_head, all_tail, IsMinusOne, IsZero, Bounded, Good, good_minus, good_zero, good_number}
use Rattle.link.proofs.Queues.{Answer, replies, side, Given, given_more, to_zero, to_stored, to_repeat, NamesExpected}
use Rattle.link.proofs.Books.{forward_of, queried_of, chain, Books, books, with_received, with_lines, Forward, Expects, old, unknown, next, Waits, Queried, Core}
use Rattle.link.proofs.Books.{lines_with, waits_with, persist_receiver}

-- ---- the oldest message named is written; what the sender holds is persisted
module _ {f : ℕ} {b : Books} (c : Core f b) (v : SequenceNumber) (ns : List SequenceNumber) (e : b.named ≡ v ∷ ns) (same : b.held ≡ b.persisted) where
  abbrev written : Books
  written = books b.held b.persisted b.waiting ns b.volatile b.stored (b.forward ++ v ∷ []) b.back b.pending

  bounded : All (Bounded b.held) (v ∷ ns)
  bounded = subst (All (Bounded b.held)) e c.forward.named

  queue : b.forward ++ b.named ≡ (b.forward ++ v ∷ []) ++ ns
  queue = ap (λ (l : List SequenceNumber). b.forward ++ l) e ∙ sym (append_assoc b.forward (v ∷ []) ns)

  first_named : b.held.resynchronized ≡ false → (w : Waiting) → Waits b.held.resynchronized b.named (Queried b) w → IsMinusOne v
  first_named z Closed t = not_both cc
  first_named z Idle t = not_both (sym t ∙ z)
  first_named z Resynchronizing t = all_head (subst (All IsMinusOne) e t.minus_ones)
  first_named z Querying t = not_both (sym t.synchronized ∙ z)
  first_named z Sending t = not_both (sym t ∙ z)

  written_waits : (w : Waiting) → Waits b.held.resynchronized b.named (Queried b) w → Waits b.held.resynchronized ns (Queried written) w
  written_waits Closed t = not_both cc
  written_waits Idle t = t
  written_waits Resynchronizing t = record { unsynchronized = t.unsynchronized; minus_ones = all_tail (subst (All IsMinusOne) e t.minus_ones) }
  written_waits Querying t = queried_of t.synchronized (subst (All IsZero) queue t.zeros) t.names t.names_stored
  written_waits Sending t = t

  pub write : Core f written
  write =
      let g = c.forward in
      lines_with c b.waiting ns (b.forward ++ v ∷ []) b.back b.pending
      (forward_of (subst (Good f b.volatile.next) queue g.good) (all_end g.line (subst (λ (p : Persisted). Bounded p v) same (all_head bounded))) (all_tail bounded) g.start
      (λ z. all_end (g.start_line z) (first_named (ap (λ (p : Persisted). p.resynchronized) same ∙ z) b.waiting c.waits))) c.back c.pending
      (written_waits b.waiting c.waits)

-- ---- the oldest reply goes out; what the receiver holds is persisted
module _ {f : ℕ} {b : Books} (c : Core f b) (a : Answer) (cs : List Answer) (e : b.pending ≡ a ∷ cs) where
  abbrev replied : Books
  replied = books b.held b.persisted b.waiting b.named b.volatile b.volatile b.forward (b.back ++ a ∷ []) cs

  given : All (Given b.volatile) (a ∷ cs)
  given = subst (All (Given b.volatile)) e c.pending

  answers : b.back ++ b.pending ≡ (b.back ++ a ∷ []) ++ cs
  answers = ap (λ (l : List Answer). b.back ++ l) e ∙ sym (append_assoc b.back (a ∷ []) cs)

  pub reply : Core f replied
  reply =
      let k = persist_receiver c in
      record {
        numbers = k.numbers;
        senders = k.senders;
        receivers = k.receivers;
        forward = k.forward;
        back = all_end k.back (all_head given);
        pending = all_tail given;
        waits = waits_with k replied (λ t. let names = subst (All (NamesExpected b.volatile.expected)) answers t.names in queried_of t.synchronized t.zeros names
            (all_end t.names_stored (all_head (all_right b.back (a ∷ cs) (subst (λ (l : List Answer). All (NamesExpected b.volatile.expected) (b.back ++ l)) e t.names)))));
      }

-- ---- the receiver reads the oldest request on the line
module _ {f : ℕ} {b : Books} (c : Core f b) (v : SequenceNumber) (xs : List SequenceNumber) (e : b.forward ≡ v ∷ xs) where
  -- the line, as it is
  abbrev Read : Books
  Read = with_lines b (v ∷ xs) b.back

  at_front : Core f Read
  at_front = subst (λ (l : List SequenceNumber). Core f (with_lines b l b.back)) e c

  -- and without the request, for what the receiver has then
  rest_of : (h : ℕ) → Good f h (xs ++ b.named) → (b.persisted.resynchronized ≡ false → h ≡ f) → Forward f b.held b.persisted h xs b.named
  rest_of h good start =
      let g = at_front.forward in
      forward_of good (all_tail g.line) g.named start (λ z. all_tail (g.start_line z))

-- ---- -1
module _ {f : ℕ} {b : Books} (c : Core f b) (xs : List SequenceNumber) (e : b.forward ≡ MinusOne ∷ xs) where
  abbrev resynchronized : Books
  resynchronized = with_received b (side None b.volatile.next false) xs (b.pending ++ replies MinusOne AA MinusOne ∷ [])

  minus_first : {l : List SequenceNumber} → Good f b.volatile.next (MinusOne ∷ l) → b.volatile.next ≡ f
  minus_first (good_minus a g) = a

  minus_rest : {l : List SequenceNumber} → Good f b.volatile.next (MinusOne ∷ l) → Good f b.volatile.next l
  minus_rest (good_minus a g) = g

  pub receive_minus_one : Core f resynchronized
  receive_minus_one =
      let k = at_front c MinusOne xs e in
      let r = k.receivers in
      let g = k.forward in
      record {
        numbers = k.numbers;
        senders = k.senders;
        receivers = record { expects = unknown refl (minus_first g.good) refl; stored_expects = r.stored_expects; newer = λ z. refl; synchronized = r.synchronized };
        forward = rest_of c MinusOne xs e b.volatile.next (minus_rest g.good) g.start;
        back = k.back;
        pending = all_end (all_map (given_more b.volatile resynchronized.volatile (λ z. refl) (omega arith)) k.pending) (record { code = refl; number = refl; new = refl });
        waits = waits_with k resynchronized (λ t. let z = all_head t.zeros in not_both cc);
      }

-- ---- a number
module _ {f : ℕ} {b : Books} (c : Core f b) (n : ℕ) (xs : List SequenceNumber) (e : b.forward ≡ Number n ∷ xs) where
  k : Core f (with_lines b (Number n ∷ xs) b.back)
  k = at_front c (Number n) xs e

  abbrev answered : Books
  answered = with_received b b.volatile xs (b.pending ++ replies (Number n) AA (expected_number b.volatile.expected) ∷ [])

  zero_rest : n ≡ 0 → {l : List SequenceNumber} → Good f b.volatile.next (Number n ∷ l) → Good f b.volatile.next l
  zero_rest z (good_zero a g) = g
  zero_rest z (good_number a d y g) = absurd (omega arith)

  pub receive_zero : n ≡ 0 → Core f answered
  receive_zero z =
      lines_with k b.waiting b.named xs b.back answered.pending
      (rest_of c (Number n) xs e b.volatile.next (zero_rest z k.forward.good) k.forward.start) k.back (all_end k.pending (to_zero z refl))
      (waits_with k answered (λ t. queried_of t.synchronized (all_tail t.zeros)
      (subst (All (NamesExpected b.volatile.expected)) (append_assoc b.back b.pending (replies (Number n) AA (expected_number b.volatile.expected) ∷ []))
      (all_end t.names (λ y. refl))) t.names_stored))

  module _ (l : 1 ≤ n) where
    -- a transaction is on the line only when the exchange for -1 is over
    persisted_synchronized : b.persisted.resynchronized ≡ true
    persisted_synchronized = go (either b.persisted.resynchronized)
      where
        go : (b.persisted.resynchronized ≡ true) ⊎ (b.persisted.resynchronized ≡ false) → b.persisted.resynchronized ≡ true
        go (inl z) = z
        go (inr z) = let y = all_head (k.forward.start_line z) in not_both cc

    held_synchronized : b.held.resynchronized ≡ true
    held_synchronized = go (either b.held.resynchronized)
      where
        go : (b.held.resynchronized ≡ true) ⊎ (b.held.resynchronized ≡ false) → b.held.resynchronized ≡ true
        go (inl z) = z
        go (inr z) = not_both (sym persisted_synchronized ∙ c.senders.later z)

    is_new : b.volatile.old ≡ false
    is_new = c.receivers.newer (c.receivers.synchronized held_synchronized)

    number_least : {t : List SequenceNumber} → Good f b.volatile.next (Number n ∷ t) → f ≤ n
    number_least (good_zero a g) = absurd (omega arith)
    number_least (good_number a d y g) = d

    number_near : {t : List SequenceNumber} → Good f b.volatile.next (Number n ∷ t) → b.volatile.next ≤ n + 1
    number_near (good_zero a g) = absurd (omega arith)
    number_near (good_number a d y g) = y

    number_rest : {t : List SequenceNumber} → Good f b.volatile.next (Number n ∷ t) → Good f (n + 1) t
    number_rest (good_zero a g) = absurd (omega arith)
    number_rest (good_number a d y g) = g

    not_more : n ≤ b.volatile.next
    not_more = let m = (all_head k.forward.line).delivered in let i = c.numbers in omega arith

    -- the number that the receiver expects, or the one before it
    abbrev pub Which : Type 0
    Which =
        ((n ≡ b.volatile.next) × ((b.volatile.expected ≡ None) ⊎ (b.volatile.expected ≡ Some n)))
        ⊎ ((n + 1 ≡ b.volatile.next) × (b.volatile.expected ≡ Some b.volatile.next))

    pub which : Which
    which = go c.receivers.expects
      where
        near : Dec (b.volatile.next ≤ n) → b.volatile.expected ≡ Some b.volatile.next → Which
        near (yes z) t = let s = not_more in let r : n ≡ b.volatile.next = omega arith in inl (r, inr (t ∙ ap Some (sym r)))
        near (no z) t = let m = number_near k.forward.good in let s = not_more in inr (omega arith, t)

        go : Expects f b.volatile → Which
        go (old a y) = not_both (sym a ∙ is_new)
        go (unknown a z y) = let m = number_least k.forward.good in let s = not_more in inl (omega arith, inl y)
        go (next a z y) = near (dec_le b.volatile.next n) y

    number_waits : (d : Books) → Waits b.held.resynchronized b.named (Queried d) b.waiting
    number_waits d = waits_with k d (λ t. let z = number_is (all_head t.zeros) in absurd (omega arith))

    -- stored
    abbrev taken : Code → Books
    taken d = with_received b (side (Some (n + 1)) (n + 1) b.volatile.old) xs (b.pending ++ replies (Number n) d (Number n) ∷ [])

    pub receive_next : (d : Code) → (d ≡ AA) ⊎ (d ≡ AE) → n ≡ b.volatile.next → Core f (taken d)
    receive_next d y z =
        let r = k.receivers in
        let g = k.forward in
        let m = k.numbers in
        let t = all_head g.line in
        let s = number_least g.good in
        record {
          numbers = chain m.first_least m.persisted_least m.delivered_more m.covered (omega arith) (omega arith) (omega arith) m.last_more m.last_most;
          senders = k.senders;
          receivers = record { expects = next is_new (omega arith) refl; stored_expects = r.stored_expects; newer = r.newer; synchronized = r.synchronized };
          forward = rest_of c (Number n) xs e (n + 1) (number_rest g.good) (λ u. not_both (sym persisted_synchronized ∙ u));
          back = k.back;
          pending = all_end (all_map (given_more b.volatile (taken d).volatile (λ u. u) (omega arith)) k.pending) (to_stored l y refl (omega arith));
          waits = number_waits (taken d);
        }

    -- repeated
    abbrev repeated : Books
    repeated = with_received b b.volatile xs (b.pending ++ replies (Number n) AR (Number (n + 1)) ∷ [])

    pub receive_repeat : n + 1 ≡ b.volatile.next → Core f repeated
    receive_repeat z =
        lines_with k b.waiting b.named xs b.back repeated.pending
        (rest_of c (Number n) xs e b.volatile.next (subst (λ (j : ℕ). Good f j (xs ++ b.named)) z (number_rest k.forward.good)) k.forward.start) k.back
        (all_end k.pending (to_repeat l refl refl (omega arith)))
        (number_waits repeated)
