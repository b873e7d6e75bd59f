-- The invariant of a link, over the requests and replies on the way, and how each act keeps it.
use Rattle.std.specs.Prelude.{Option, Some, None}
use mathlib.Core.Path.{◌≡◌, refl, sym, ◌∙◌, subst}
use mathlib.Core.List.{List, [], ◌∷◌, ◌++◌, append-nil}
use mathlib.Core.Bool.{Bool, true, false}
use mathlib.Core.Logic.{◌⊎◌, inl, inr}
use Prim.Native.Nat.{ℕ, ◌+◌, ◌≤◌, ◌<◌}
use native.Mathlib.Omega.{arith}
use Rattle.numbers.specs.declared.SequenceNumber.{SequenceNumber}
use Rattle.sender.specs.declared.Persisted.{Persisted}
use Rattle.sender.specs.declared.Waiting.{Waiting}
use Rattle.sender.specs.declared.Waiting.TheVariants.{Closed, Idle, Resynchronizing, Querying, Sending}
use Rattle.link.proofs.Facts.{not_both, either}
use Rattle.link.proofs.Queues.{All, none, Sub, sub_none, sub_nothing, sub_behind, all-sub, Among, nobody, all_among, all_map, all_append, all_left, all_right, all_end, IsMinusOne, IsZero, Bounded, bounded_more}
use Rattle.link.proofs.Queues.{Good, good_lower, good_front, good_sub, Answer, refuses, Side, Given, given_more, NamesExpected}

-- the link as messages: the sender's numbers as held and as persisted, what waits, and what is named and not yet written; the receiver as held and as persisted;
-- the requests and the replies on the lines, and the replies pending
pub record Books : Type 0 where
  pub held : Persisted
  pub persisted : Persisted
  pub waiting : Waiting
  pub named : List SequenceNumber
  pub volatile : Side
  pub stored : Side
  pub forward : List SequenceNumber
  pub back : List Answer
  pub pending : List Answer

abbrev pub books : Persisted → Persisted → Waiting → List SequenceNumber → Side → Side → List SequenceNumber → List Answer → List Answer → Books
books p q w ns v s xs bs cs = record { held = p; persisted = q; waiting = w; named = ns; volatile = v; stored = s; forward = xs; back = bs; pending = cs }

-- all else equal
abbrev pub with_sender : Books → Persisted → Waiting → List SequenceNumber → Books
with_sender b p w ns = books p b.persisted w ns b.volatile b.stored b.forward b.back b.pending

abbrev pub with_received : Books → Side → List SequenceNumber → List Answer → Books
with_received b v xs cs = books b.held b.persisted b.waiting b.named v b.stored xs b.back cs

abbrev pub with_lines : Books → List SequenceNumber → List Answer → Books
with_lines b xs bs = books b.held b.persisted b.waiting b.named b.volatile b.stored xs bs b.pending

-- p, q: the sender as held and as persisted. h, k: the number after those that the receiver has, as held and as persisted
pub record Numbers (f : ℕ) (p q : Persisted) (h k : ℕ) : Type 0 where
  pub first_least : 1 ≤ f
  pub persisted_least : f ≤ q.delivered + 1
  pub delivered_more : q.delivered ≤ p.delivered
  pub covered : p.delivered + 1 ≤ k
  pub stored_most : k ≤ h
  pub ahead : h ≤ q.delivered + 2
  pub submitted : h ≤ q.last + 1
  pub last_more : q.last ≤ p.last
  pub last_most : p.last ≤ 999999999999998

pub chain : {f : ℕ} {p q : Persisted} {h k : ℕ} → 1 ≤ f → f ≤ q.delivered + 1 → q.delivered ≤ p.delivered → p.delivered + 1 ≤ k → k ≤ h
    → h ≤ q.delivered + 2 → h ≤ q.last + 1
    → q.last ≤ p.last → p.last ≤ 999999999999998 → Numbers f p q h k
chain a b c d e i j m n =
    record { first_least = a; persisted_least = b; delivered_more = c; covered = d; stored_most = e; ahead = i; submitted = j; last_more = m; last_most = n }

pub record Senders (f : ℕ) (p q : Persisted) : Type 0 where
  pub first : p.first ≡ f
  pub persisted_first : q.first ≡ f
  pub unfrozen : p.frozen ≡ false
  pub persisted_unfrozen : q.frozen ≡ false
  pub later : p.resynchronized ≡ false → q.resynchronized ≡ false

-- what the receiver expects
pub data Expects (f : ℕ) (s : Side) : Type 0 where
  old : s.old ≡ true → s.next ≡ f → Expects f s
  unknown : s.old ≡ false → s.next ≡ f → s.expected ≡ None → Expects f s
  next : s.old ≡ false → f < s.next → s.expected ≡ Some s.next → Expects f s

pub record Receivers (f : ℕ) (resynchronized : Bool) (v s : Side) : Type 0 where
  pub expects : Expects f v
  pub stored_expects : Expects f s
  pub newer : s.old ≡ false → v.old ≡ false
  pub synchronized : resynchronized ≡ true → s.old ≡ false

-- the requests on the line (xs), and those named and not yet written (ns)
pub record Forward (f : ℕ) (p q : Persisted) (h : ℕ) (xs ns : List SequenceNumber) : Type 0 where
  pub good : Good f h (xs ++ ns)
  pub line : All (Bounded q) xs
  pub named : All (Bounded p) ns
  pub start : q.resynchronized ≡ false → h ≡ f
  pub start_line : q.resynchronized ≡ false → All IsMinusOne xs

pub forward_of : {f : ℕ} {p q : Persisted} {h : ℕ} {xs ns : List SequenceNumber} → Good f h (xs ++ ns) → All (Bounded q) xs → All (Bounded p) ns
    → (q.resynchronized ≡ false → h ≡ f)
    → (q.resynchronized ≡ false → All IsMinusOne xs) → Forward f p q h xs ns
forward_of g l n s t = record { good = g; line = l; named = n; start = s; start_line = t }

-- 0 waits, and was sent on this circuit only; the answers to it name what is expected
pub record Querying-fine (resynchronized : Bool) (e d : Option ℕ) (xs ns : List SequenceNumber) (bs cs : List Answer) : Type 0 where
  pub synchronized : resynchronized ≡ true
  pub zeros : All IsZero (xs ++ ns)
  pub names : All (NamesExpected e) (bs ++ cs)
  pub names_stored : All (NamesExpected d) bs

pub queried_of : {r : Bool} {e d : Option ℕ} {xs ns : List SequenceNumber} {bs cs : List Answer} → r ≡ true → All IsZero (xs ++ ns)
    → All (NamesExpected e) (bs ++ cs) → All (NamesExpected d) bs
    → Querying-fine r e d xs ns bs cs
queried_of s z n t = record { synchronized = s; zeros = z; names = n; names_stored = t }

pub record Beginning (resynchronized : Bool) (ns : List SequenceNumber) : Type 0 where
  pub unsynchronized : resynchronized ≡ false
  pub minus_ones : All IsMinusOne ns

abbrev pub Waits : Bool → List SequenceNumber → Type 0 → Waiting → Type 0
Waits r ns Q Closed = ns ≡ []
Waits r ns Q Idle = r ≡ true
Waits r ns Q Resynchronizing = Beginning r ns
Waits r ns Q Querying = Q
Waits r ns Q Sending = r ≡ true

abbrev pub Queried : Books → Type 0
Queried b = Querying-fine b.held.resynchronized b.volatile.expected b.stored.expected b.forward b.named b.back b.pending

pub record Core (f : ℕ) (b : Books) : Type 0 where
  pub numbers : Numbers f b.held b.persisted b.volatile.next b.stored.next
  pub senders : Senders f b.held b.persisted
  pub receivers : Receivers f b.held.resynchronized b.volatile b.stored
  pub forward : Forward f b.held b.persisted b.volatile.next b.forward b.named
  pub back : All (Given b.stored) b.back
  pub pending : All (Given b.volatile) b.pending
  pub waits : Waits b.held.resynchronized b.named (Queried b) b.waiting

-- ---- facts
-- all else equal: only what is asked of a waiting 0 changes
waits_as : (r : Bool) (ns : List SequenceNumber) (Q R : Type 0) (w : Waiting) → (Q → R) → Waits r ns Q w → Waits r ns R w
waits_as r ns Q R Closed f t = t
waits_as r ns Q R Idle f t = t
waits_as r ns Q R Resynchronizing f t = t
waits_as r ns Q R Querying f t = f t
waits_as r ns Q R Sending f t = t

module _ {f : ℕ} {b : Books} (c : Core f b) where
  pub waits_with : (d : Books) → (Queried b → Queried d) → Waits b.held.resynchronized b.named (Queried d) b.waiting
  waits_with d g = waits_as b.held.resynchronized b.named (Queried b) (Queried d) b.waiting g c.waits

  -- all else equal: what the ends hold and have persisted
  pub lines_with : (w : Waiting) (ns xs : List SequenceNumber) (bs cs : List Answer) → Forward f b.held b.persisted b.volatile.next xs ns
      → All (Given b.stored) bs
      → All (Given b.volatile) cs
      → Waits b.held.resynchronized ns (Queried (books b.held b.persisted w ns b.volatile b.stored xs bs cs)) w
      → Core f (books b.held b.persisted w ns b.volatile b.stored xs bs cs)
  lines_with w ns xs bs cs g a p t = record { numbers = c.numbers; senders = c.senders; receivers = c.receivers; forward = g; back = a; pending = p; waits = t }

  has_least : f ≤ b.volatile.next
  has_least = let n = c.numbers in omega arith

  stored_least : f ≤ b.stored.next
  stored_least = let n = c.numbers in omega arith

  -- nothing is named
  only-line : Good f b.volatile.next (b.forward ++ [])
  only-line = subst (Good f b.volatile.next) (sym (append-nil b.forward)) (good_front f b.forward b.named c.forward.good)

  -- ---- loss and damage
  pub lose_forward : {ys : List SequenceNumber} → Sub ys b.forward → Core f (with_lines b ys b.back)
  lose_forward {ys} s =
      let g = c.forward in
      let xs = b.forward in
      lines_with b.waiting b.named ys b.back b.pending
      (forward_of (good_sub f b.named has_least s g.good) (all-sub s g.line) g.named g.start (λ z. all-sub s (g.start_line z)))
      c.back c.pending
      (waits_with (with_lines b ys b.back)
      (λ t. queried_of t.synchronized (all_append (all-sub s (all_left xs b.named t.zeros)) (all_right xs b.named t.zeros)) t.names t.names_stored))

  -- a message that was named and not written is dropped
  pub forget_named : {ms : List SequenceNumber} → Sub ms b.named → Core f (with_sender b b.held b.waiting ms)
  forget_named {ms} s =
      let g = c.forward in
      let xs = b.forward in
      lines_with b.waiting ms xs b.back b.pending
      (forward_of (subst (Good f b.volatile.next) (append-nil (xs ++ ms)) (good_sub f [] has_least (sub_behind xs s) (subst (Good f b.volatile.next) (sym (append-nil (xs ++ b.named))) g.good)))
      g.line (all-sub s g.named) g.start g.start_line)
      c.back c.pending (go b.waiting c.waits)
    where
      go : (w : Waiting) → Waits b.held.resynchronized b.named (Queried b) w → Waits b.held.resynchronized ms (Queried (with_sender b b.held b.waiting ms)) w
      go Closed t = sub_nothing s t
      go Idle t = t
      go Resynchronizing t = record { unsynchronized = t.unsynchronized; minus_ones = all-sub s t.minus_ones }
      go Querying t = queried_of t.synchronized (all_append (all_left b.forward b.named t.zeros) (all-sub s (all_right b.forward b.named t.zeros))) t.names t.names_stored
      go Sending t = t

  -- answers in any order, and repeatedly
  pub lose_back : {ys : List Answer} → Among ys b.back → Core f (with_lines b b.forward ys)
  lose_back {ys} s =
      let bs = b.back in
      lines_with b.waiting b.named b.forward ys b.pending
      c.forward (all_among s c.back) c.pending
      (waits_with (with_lines b b.forward ys)
      (λ t. queried_of t.synchronized t.zeros (all_append (all_among s (all_left bs b.pending t.names)) (all_right bs b.pending t.names)) (all_among s t.names_stored)))

  -- ---- the sender persists
  pub persist_sender : Core f (books b.held b.held b.waiting b.named b.volatile b.stored b.forward b.back b.pending)
  persist_sender =
      let n = c.numbers in
      let i = c.senders in
      let g = c.forward in
      record {
        numbers = chain n.first_least (omega arith) (omega arith) n.covered n.stored_most (omega arith) (omega arith) (omega arith) n.last_most;
        senders = record { first = i.first; persisted_first = i.first; unfrozen = i.unfrozen; persisted_unfrozen = i.unfrozen; later = λ z. z };
        receivers = c.receivers;
        forward = forward_of g.good (all_map (bounded_more b.persisted b.held n.delivered_more n.last_more) g.line) g.named (λ z. g.start (i.later z))
            (λ z. g.start_line (i.later z));
        back = c.back;
        pending = c.pending;
        waits = c.waits;
      }

  -- ---- the receiver persists
  pub persist_receiver : Core f (books b.held b.persisted b.waiting b.named b.volatile b.volatile b.forward b.back b.pending)
  persist_receiver =
      let n = c.numbers in
      let r = c.receivers in
      record {
        numbers = chain n.first_least n.persisted_least n.delivered_more (omega arith) (omega arith) n.ahead n.submitted n.last_more n.last_most;
        senders = c.senders;
        receivers = record { expects = r.expects; stored_expects = r.expects; newer = λ z. z; synchronized = λ z. r.newer (r.synchronized z) };
        forward = c.forward;
        back = all_map (given_more b.stored b.volatile r.newer n.stored_most) c.back;
        pending = c.pending;
        waits =
            waits_with (books b.held b.persisted b.waiting b.named b.volatile b.volatile b.forward b.back b.pending)
            (λ t. queried_of t.synchronized t.zeros t.names (all_left b.back b.pending t.names));
      }

  -- ---- the receiver goes on from what it has persisted, without the replies that were pending
  pub restore_receiver : Core f (books b.held b.persisted b.waiting b.named b.stored b.stored b.forward b.back [])
  restore_receiver =
      let n = c.numbers in
      let r = c.receivers in
      let g = c.forward in
      record {
        numbers = chain n.first_least n.persisted_least n.delivered_more n.covered (omega arith) (omega arith) (omega arith) n.last_more n.last_most;
        senders = c.senders;
        receivers = record { expects = r.stored_expects; stored_expects = r.stored_expects; newer = λ z. z; synchronized = r.synchronized };
        forward = forward_of (good_lower f b.stored.next stored_least n.stored_most g.good) g.line g.named (λ z. let s = g.start z in omega arith) g.start_line;
        back = c.back;
        pending = none;
        waits =
            waits_with (books b.held b.persisted b.waiting b.named b.stored b.stored b.forward b.back [])
            (λ t. queried_of t.synchronized t.zeros (all_append t.names_stored none) t.names_stored);
      }

  -- ---- the sender goes on from what it has persisted: no circuit is open
  pub restore_sender : Core f (books b.persisted b.persisted Closed [] b.volatile b.stored b.forward b.back b.pending)
  restore_sender =
      let n = c.numbers in
      let i = c.senders in
      let r = c.receivers in
      let g = c.forward in
      record {
        numbers = chain n.first_least n.persisted_least (omega arith) (omega arith) n.stored_most n.ahead n.submitted (omega arith) (omega arith);
        senders = record { first = i.persisted_first; persisted_first = i.persisted_first; unfrozen = i.persisted_unfrozen; persisted_unfrozen = i.persisted_unfrozen; later = λ z. z };
        receivers = record { expects = r.expects; stored_expects = r.stored_expects; newer = r.newer; synchronized = λ z. persisted_synchronized z (either b.held.resynchronized) };
        forward = forward_of only-line g.line none g.start g.start_line;
        back = c.back;
        pending = c.pending;
        waits = refl;
      }
    where
      persisted_synchronized : b.persisted.resynchronized ≡ true → (b.held.resynchronized ≡ true) ⊎ (b.held.resynchronized ≡ false) → b.stored.old ≡ false
      persisted_synchronized z (inl y) = c.receivers.synchronized y
      persisted_synchronized z (inr y) = not_both (sym z ∙ c.senders.later y)

  -- ---- the circuit ends
  pub close_circuit : Core f (with_sender b b.held Closed [])
  close_circuit =
      let g = c.forward in
      lines_with Closed [] b.forward b.back b.pending (forward_of only-line g.line none g.start g.start_line) c.back c.pending refl

  -- ---- an N block is given, at any time
  pub nak : (r : ℕ) → Core f (with_lines b b.forward (b.back ++ refuses r ∷ []))
  nak r =
      let bs = b.back in
      lines_with b.waiting b.named b.forward (bs ++ refuses r ∷ []) b.pending
      c.forward (all_end c.back (omega arith)) c.pending
      (waits_with (with_lines b b.forward (bs ++ refuses r ∷ []))
      (λ t. queried_of t.synchronized t.zeros (all_append (all_end (all_left bs b.pending t.names) refl) (all_right bs b.pending t.names)) (all_end t.names_stored refl)))

-- ---- a crash, and the lines are empty
module _ {f : ℕ} {b : Books} (c : Core f b) where
  empty_lines : Core f (with_lines b [] [])
  empty_lines = lose_back (lose_forward c (sub_none b.forward)) nobody

pub crash_receiver : {f : ℕ} {b : Books} → Core f b → Core f (books b.held b.persisted b.waiting b.named b.stored b.stored [] [] [])
crash_receiver c = empty_lines (restore_receiver c)

pub crash_sender : {f : ℕ} {b : Books} → Core f b → Core f (books b.persisted b.persisted Closed [] b.volatile b.stored [] [] b.pending)
crash_sender c = empty_lines (restore_sender c)
