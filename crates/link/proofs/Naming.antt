-- The sender opens circuits, names messages, and moves on.
use mathlib.Core.Path.{◌≡◌, refl, sym, subst}
use mathlib.Core.List.{List, [], ◌∷◌, ◌++◌, append_assoc, append-nil}
use mathlib.Core.Bool.{true, false, cond}
use Prim.Native.Nat.{ℕ, ◌+◌, ◌≤◌, ◌<◌}
use native.Mathlib.Omega.{arith}
use Rattle.numbers.specs.declared.SequenceNumber.{SequenceNumber}
use Rattle.numbers.specs.declared.SequenceNumber.TheVariants.{MinusOne, Number}
use Rattle.sender.specs.Sender.{is_open, submitted, delivered_of, resynchronized_of}
use Rattle.sender.specs.declared.Persisted.{Persisted}
use Rattle.sender.specs.declared.Waiting.{Waiting}
use Rattle.sender.specs.declared.Waiting.TheVariants.{Closed, Idle, Resynchronizing, Querying, Sending}
use Rattle.link.proofs.Facts.{not_both}
use Rattle.link.proofs.Queues.{All, none, more, all_map, all_append, all_end, IsZero, NotOver, Bounded, bounded_more, Good, good_none, good_minus, good_zero}
use Rattle.link.proofs.Queues.{good_minus_ones, good_end_zero, good_end, NamesExpected}
use Rattle.link.proofs.Books.{forward_of, queried_of, chain, Books, books, with_sender, Senders, Waits, Queried, Core, lines_with}

module _ {f : ℕ} {b : Books} (c : Core f b) where
  -- ---- a new circuit: the lines are empty, and no reply is still to be sent but that of a decision that is open
  abbrev opened : Waiting → SequenceNumber → Books
  opened w v = books b.held b.persisted w (v ∷ []) b.volatile b.stored [] [] b.pending

  open_circuit : (w : Waiting) (v : SequenceNumber) → Good f b.volatile.next (v ∷ []) → Bounded b.held v
      → Waits b.held.resynchronized (v ∷ []) (Queried (opened w v)) w
      → Core f (opened w v)
  open_circuit w v g m t =
      lines_with c w (v ∷ []) [] [] b.pending
      (forward_of g none (more m none) c.forward.start (λ y. none)) none c.pending
      t

  pub open_first : b.held.resynchronized ≡ false → Core f (opened Resynchronizing MinusOne)
  open_first z =
      open_circuit Resynchronizing MinusOne (good_minus (c.forward.start (c.senders.later z)) good_none) (record { delivered = omega arith; last = omega arith })
      (record { unsynchronized = z; minus_ones = more refl none })

  pub open_later : b.held.resynchronized ≡ true → All (NamesExpected b.volatile.expected) b.pending → Core f (opened Querying (Number 0))
  open_later z n =
      open_circuit Querying (Number 0) (good_zero refl good_none) (record { delivered = omega arith; last = omega arith })
      (queried_of z (more refl none) n none)

  -- ---- nothing is named
  quiet_named : (w : Waiting) → Waits b.held.resynchronized b.named (Queried b) w → cond (is_open w) (b.named ++ []) [] ≡ b.named
  quiet_named Closed t = sym t
  quiet_named Idle t = append-nil b.named
  quiet_named Resynchronizing t = append-nil b.named
  quiet_named Querying t = append-nil b.named
  quiet_named Sending t = append-nil b.named

  pub quiet : Core f (with_sender b b.held b.waiting (cond (is_open b.waiting) (b.named ++ []) []))
  quiet = subst (λ (l : List SequenceNumber). Core f (with_sender b b.held b.waiting l)) (sym (quiet_named b.waiting c.waits)) c

  -- ---- one more message is named
  name : (w : Waiting) (v : SequenceNumber) → Good f b.volatile.next ((b.forward ++ b.named) ++ v ∷ []) → Bounded b.held v
      → Waits b.held.resynchronized (b.named ++ v ∷ []) (Queried (with_sender b b.held w (b.named ++ v ∷ []))) w
      → Core f (with_sender b b.held w (b.named ++ v ∷ []))
  name w v good m t =
      let g = c.forward in
      lines_with c w (b.named ++ v ∷ []) b.forward b.back b.pending
      (forward_of (subst (Good f b.volatile.next) (append_assoc b.forward b.named (v ∷ [])) good) g.line (all_end g.named m) g.start g.start_line) c.back c.pending
      t

  -- the next transaction
  not-over : All (NotOver (b.held.delivered + 1)) (b.forward ++ b.named)
  not-over =
      let n = c.numbers in
      all_map (λ v t. t.delivered) (all_append (all_map (bounded_more b.persisted b.held n.delivered_more n.last_more) c.forward.line) c.forward.named)

  pub send_next : b.held.resynchronized ≡ true → b.held.delivered < b.held.last
      → Core f (with_sender b b.held Sending (b.named ++ Number (b.held.delivered + 1) ∷ []))
  send_next z l =
      let n = c.numbers in
      let k = b.held.delivered + 1 in
      name Sending (Number (b.held.delivered + 1)) (good_end f (b.held.delivered + 1) (omega arith) (omega arith) (omega arith) not-over c.forward.good)
      (record { delivered = omega arith; last = omega arith }) z

  -- ---- the sender's numbers change, and with a circuit open nothing waits or what waited
  change : (p : Persisted) (w : Waiting) → 1 ≤ f → p.delivered + 1 ≤ b.stored.next → b.held.delivered ≤ p.delivered → b.held.last ≤ p.last
      → p.last ≤ 999999999999998
      → Senders f p b.persisted → (p.resynchronized ≡ true → b.stored.old ≡ false) → Waits p.resynchronized b.named (Queried (with_sender b p w b.named)) w
      → Core f (with_sender b p w b.named)
  change p w m covered delivered last most s r t =
      let n = c.numbers in
      let g = c.forward in
      record {
        numbers = chain m n.persisted_least (omega arith) covered n.stored_most n.ahead n.submitted (omega arith) most;
        senders = s;
        receivers = record { expects = c.receivers.expects; stored_expects = c.receivers.stored_expects; newer = c.receivers.newer; synchronized = r };
        forward = forward_of g.good g.line (all_map (bounded_more b.held p delivered last) g.named) g.start g.start_line;
        back = c.back;
        pending = c.pending;
        waits = t;
      }

  -- nothing waits
  pub rest : b.held.resynchronized ≡ true → Core f (with_sender b b.held Idle b.named)
  rest z = lines_with c Idle b.named b.forward b.back b.pending c.forward c.back c.pending z

  -- the delivered number moves by one
  pub deliver : b.held.resynchronized ≡ true → b.held.delivered + 2 ≤ b.stored.next → Core f (with_sender b (delivered_of b.held) Idle b.named)
  deliver z l =
      let n = c.numbers in
      let i = c.senders in
      change (delivered_of b.held) Idle n.first_least (omega arith) (omega arith) (omega arith) n.last_most
      (record { first = i.first; persisted_first = i.persisted_first; unfrozen = i.unfrozen; persisted_unfrozen = i.persisted_unfrozen; later = i.later }) c.receivers.synchronized z

  -- a transaction is submitted
  pub submit : b.held.last + 1 ≤ 999999999999998 → Core f (with_sender b (submitted b.held) b.waiting b.named)
  submit l =
      let n = c.numbers in
      let i = c.senders in
      change (submitted b.held) b.waiting n.first_least n.covered (omega arith) (omega arith) l
      (record { first = i.first; persisted_first = i.persisted_first; unfrozen = i.unfrozen; persisted_unfrozen = i.persisted_unfrozen; later = i.later })
      c.receivers.synchronized c.waits

-- ---- AA, -1 while -1 waits
module _ {f : ℕ} {b : Books} (c : Core f b) (w : b.waiting ≡ Resynchronizing) where
  pub beginning : Waits b.held.resynchronized b.named (Queried b) Resynchronizing
  beginning = subst (Waits b.held.resynchronized b.named (Queried b)) w c.waits

  pub synchronize : b.stored.old ≡ false → Core f (with_sender b (resynchronized_of b.held) Idle b.named)
  synchronize y =
      let n = c.numbers in
      let i = c.senders in
      change c (resynchronized_of b.held) Idle n.first_least n.covered (omega arith) (omega arith) n.last_most
      (record { first = i.first; persisted_first = i.persisted_first; unfrozen = i.unfrozen; persisted_unfrozen = i.persisted_unfrozen; later = λ (z : true ≡ false). not_both z })
      (λ z. y) refl

  -- -1 is sent again
  pub again_first : Core f (with_sender b b.held Resynchronizing (b.named ++ MinusOne ∷ []))
  again_first =
      let g = c.forward in
      let t = beginning in
      let a = c.senders.later t.unsynchronized in
      let named = all_end t.minus_ones refl in
      name c Resynchronizing MinusOne (good_minus_ones f (g.start a) (all_end (all_append (g.start_line a) t.minus_ones) refl)) (record { delivered = omega arith; last = omega arith })
      (record { unsynchronized = t.unsynchronized; minus_ones = named })

-- ---- 0 is sent again
module _ {f : ℕ} {b : Books} (c : Core f b) (t : Queried b) where
  pub again_query : Core f (with_sender b b.held Querying (b.named ++ Number 0 ∷ []))
  again_query =
      name c Querying (Number 0) (good_end_zero f c.forward.good) (record { delivered = omega arith; last = omega arith })
      (queried_of t.synchronized (subst (All IsZero) (append_assoc b.forward b.named (Number 0 ∷ [])) (all_end t.zeros refl)) t.names t.names_stored)
