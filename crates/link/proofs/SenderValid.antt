-- What a valid state of the sender is, in numbers.
use mathlib.Core.Path.{◌≡◌, refl, sym, ap, ◌∙◌}
use mathlib.Core.Bool.{Bool, true, false, not, ◌&&◌, ◌||◌}
use Prim.Native.Nat.{ℕ, ◌+◌, ◌-◌, ◌≤◌, ◌<◌}
use native.Mathlib.Omega.{arith}
use lib.Dec.{leb, ltb, eqb}
use borrow.Author.Tests.{le-leb, leb-true, lt-ltb, ltb-true, eq-eqb, eqb-true, not-true}
use Rattle.lists.proofs.Tests.{and_left, and_right}
use Rattle.numbers.specs.Numbers.{greatest_sent}
use Rattle.sender.specs.Sender.{valid_first, valid_persisted, valid_sends, valid_waiting, valid_sender, is_open, when_open}
use Rattle.sender.specs.declared.Persisted.{Persisted}
use Rattle.sender.specs.declared.Waiting.{Waiting}
use Rattle.sender.specs.declared.Waiting.TheVariants.{Closed, Idle, Resynchronizing, Querying, Sending}
use Rattle.sender.specs.declared.Sender.{Sender}
use Rattle.sender.specs.declared.Acted.{Acted}
use Rattle.link.proofs.Facts.{not_both}

pub record Stored (p : Persisted) : Type 0 where
  pub first_least : 1 ≤ p.first
  pub first_most : p.first ≤ 999999999999998
  pub delivered_least : p.first ≤ p.delivered + 1
  pub delivered_most : p.delivered ≤ p.last
  pub last_most : p.last ≤ 999999999999998
  pub begun : p.resynchronized ≡ false → p.delivered + 1 ≡ p.first

pub numbers_of_lem : {p : Persisted} → 1 ≤ p.first → p.first ≤ 999999999999998 → p.first ≤ p.delivered + 1 → p.delivered ≤ p.last → p.last ≤ 999999999999998
    → (p.resynchronized ≡ false → p.delivered + 1 ≡ p.first) → Stored p
numbers_of_lem a b c d e f = record { first_least = a; first_most = b; delivered_least = c; delivered_most = d; last_most = e; begun = f }

-- an open circuit, resynchronized or not
pub record OnCircuit (p : Persisted) (b : Bool) : Type 0 where
  pub unfrozen : p.frozen ≡ false
  pub synchronized : p.resynchronized ≡ b

pub record Sent (n : ℕ) : Type 0 where
  pub some : 1 ≤ n
  pub few : n ≤ 100

pub record Rests (p : Persisted) (n : ℕ) : Type 0 where
  pub all : p.delivered ≡ p.last
  pub none : n ≡ 0

pub record Sends (p : Persisted) (n : ℕ) : Type 0 where
  pub more : p.delivered < p.last
  pub sent : Sent n

abbrev pub WaitsRight : Persisted → Waiting → ℕ → Type 0
WaitsRight p Closed n = n ≡ 0
WaitsRight p Idle n = OnCircuit p true × Rests p n
WaitsRight p Resynchronizing n = OnCircuit p false × Sent n
WaitsRight p Querying n = OnCircuit p true × Sent n
WaitsRight p Sending n = OnCircuit p true × Sends p n

pub record Right (p : Persisted) (w : Waiting) (n : ℕ) : Type 0 where
  pub stored : Stored p
  pub waits : WaitsRight p w n

both : (a b : Bool) → a ≡ true → b ≡ true → (a && b) ≡ true
both a b e f = rw (e, f)

-- ---- from the tests
start_from : (b : Bool) (d f : ℕ) → (b || eqb d f) ≡ true → b ≡ false → d ≡ f
start_from b d f h e = eqb-true d f (sym (ap (λ (z : Bool). z || eqb d f) e) ∙ h)

stored-from : (p : Persisted) → valid_persisted p ≡ true → Stored p
stored-from p w =
    let first = valid_first p.first in
    let delivered = leb (p.first - 1) p.delivered in
    let submitted = leb p.delivered p.last in
    let last = leb p.last greatest_sent in
    let begun = p.resynchronized || eqb p.delivered (p.first - 1) in
    let u = and_left (first && delivered && (submitted && last)) begun w in
    let v = and_right (first && delivered) (submitted && last) u in
    let t = and_left (first && delivered) (submitted && last) u in
    let f = and_left first delivered t in
    let least = leb-true 1 p.first (and_left (leb 1 p.first) (leb p.first greatest_sent) f) in
    let more = leb-true (p.first - 1) p.delivered (and_right first delivered t) in
    record {
      first_least = least;
      first_most = leb-true p.first greatest_sent (and_right (leb 1 p.first) (leb p.first greatest_sent) f);
      delivered_least = omega arith;
      delivered_most = leb-true p.delivered p.last (and_left submitted last v);
      last_most = leb-true p.last greatest_sent (and_right submitted last v);
      begun = λ (e : p.resynchronized ≡ false).
          let z = start_from p.resynchronized p.delivered (p.first - 1) (and_right (first && delivered && (submitted && last)) begun w) e in omega arith;
    }

sent_from : (n : ℕ) → valid_sends n ≡ true → Sent n
sent_from n h =
    record { some = leb-true 1 n (and_left (leb 1 n) (leb n 100) h); few = leb-true n 100 (and_right (leb 1 n) (leb n 100) h) }

circuit_from : (p : Persisted) → (not p.frozen && p.resynchronized) ≡ true → OnCircuit p true
circuit_from p h =
    record { unfrozen = not-true p.frozen (and_left (not p.frozen) p.resynchronized h); synchronized = and_right (not p.frozen) p.resynchronized h }

new_circuit_from : (p : Persisted) → (not p.frozen && not p.resynchronized) ≡ true → OnCircuit p false
new_circuit_from p h =
    let unfrozen = not p.frozen in
    let new = not p.resynchronized in
    record { unfrozen = not-true p.frozen (and_left unfrozen new h); synchronized = not-true p.resynchronized (and_right unfrozen new h) }

waits_from : (p : Persisted) (w : Waiting) (n : ℕ) → valid_waiting p w n ≡ true → WaitsRight p w n
waits_from p Closed n h = eqb-true n 0 h
waits_from p Idle n h =
    let circuit = not p.frozen && p.resynchronized in
    let all = eqb p.delivered p.last in
    let r = and_right circuit (all && eqb n 0) h in
    (circuit_from p (and_left circuit (all && eqb n 0) h), record { all = eqb-true p.delivered p.last (and_left all (eqb n 0) r); none = eqb-true n 0 (and_right all (eqb n 0) r) })
waits_from p Resynchronizing n h =
    let circuit = not p.frozen && not p.resynchronized in
    (new_circuit_from p (and_left circuit (valid_sends n) h), sent_from n (and_right circuit (valid_sends n) h))
waits_from p Querying n h =
    let circuit = not p.frozen && p.resynchronized in
    (circuit_from p (and_left circuit (valid_sends n) h), sent_from n (and_right circuit (valid_sends n) h))
waits_from p Sending n h =
    let circuit = not p.frozen && p.resynchronized in
    let more = ltb p.delivered p.last in
    let r = and_right circuit (more && valid_sends n) h in (
      circuit_from p (and_left circuit (more && valid_sends n) h),
      record {
        more = ltb-true p.delivered p.last (and_left more (valid_sends n) r);
        sent = sent_from n (and_right more (valid_sends n) r);
      },
    )

pub right_from : (s : Sender) → valid_sender s ≡ true → Right s.persisted s.waiting s.sends
unfolding valid_sender
right_from s h =
    record {
      stored = stored-from s.persisted (and_left (valid_persisted s.persisted) (valid_waiting s.persisted s.waiting s.sends) h);
      waits = waits_from s.persisted s.waiting s.sends (and_right (valid_persisted s.persisted) (valid_waiting s.persisted s.waiting s.sends) h);
    }

-- ---- and back
start_valid : (b : Bool) (d f : ℕ) → (b ≡ false → d ≡ f) → (b || eqb d f) ≡ true
start_valid true d f h = refl
start_valid false d f h = eq-eqb d f (h refl)

abbrev numbers_of : Persisted → Bool
numbers_of p = valid_first p.first && leb (p.first - 1) p.delivered && (leb p.delivered p.last && leb p.last greatest_sent)

numbers_valid : (p : Persisted) → Stored p → numbers_of p ≡ true
numbers_valid p i =
    rw (
      le-leb 1 p.first i.first_least,
      le-leb p.first greatest_sent i.first_most,
      le-leb (p.first - 1) p.delivered (let l = i.delivered_least in omega arith),
      le-leb p.delivered p.last i.delivered_most,
      le-leb p.last greatest_sent i.last_most,
    )

stored-valid : (p : Persisted) → Stored p → valid_persisted p ≡ true
stored-valid p i =
    both (numbers_of p) (p.resynchronized || eqb p.delivered (p.first - 1)) (numbers_valid p i)
    (start_valid p.resynchronized p.delivered (p.first - 1) (λ (e : p.resynchronized ≡ false). let z = i.begun e in omega arith))

sent_valid : (n : ℕ) → Sent n → valid_sends n ≡ true
sent_valid n i = rw (le-leb 1 n i.some, le-leb n 100 i.few)

circuit_valid : (p : Persisted) → OnCircuit p true → (not p.frozen && p.resynchronized) ≡ true
circuit_valid p i = rw (i.unfrozen, i.synchronized)

new_circuit_valid : (p : Persisted) → OnCircuit p false → (not p.frozen && not p.resynchronized) ≡ true
new_circuit_valid p i = rw (i.unfrozen, i.synchronized)

waits_valid : (p : Persisted) (w : Waiting) (n : ℕ) → WaitsRight p w n → valid_waiting p w n ≡ true
waits_valid p Closed n i = eq-eqb n 0 i
waits_valid p Idle n i =
    both (not p.frozen && p.resynchronized) (eqb p.delivered p.last && eqb n 0) (circuit_valid p i.0)
    (both (eqb p.delivered p.last) (eqb n 0) (eq-eqb p.delivered p.last i.1.all) (eq-eqb n 0 i.1.none))
waits_valid p Resynchronizing n i = both (not p.frozen && not p.resynchronized) (valid_sends n) (new_circuit_valid p i.0) (sent_valid n i.1)
waits_valid p Querying n i = both (not p.frozen && p.resynchronized) (valid_sends n) (circuit_valid p i.0) (sent_valid n i.1)
waits_valid p Sending n i =
    both (not p.frozen && p.resynchronized) (ltb p.delivered p.last && valid_sends n) (circuit_valid p i.0)
    (both (ltb p.delivered p.last) (valid_sends n) (lt-ltb p.delivered p.last i.1.more) (sent_valid n i.1.sent))

pub right_valid : (s : Sender) → Right s.persisted s.waiting s.sends → valid_sender s ≡ true
unfolding valid_sender
right_valid s i =
    both (valid_persisted s.persisted) (valid_waiting s.persisted s.waiting s.sends) (stored-valid s.persisted i.stored)
    (waits_valid s.persisted s.waiting s.sends i.waits)

-- ---- with no circuit open nothing was sent
pub shut : (w : Waiting) → is_open w ≡ false → w ≡ Closed
shut Closed e = refl
shut Idle e = not_both e
shut Resynchronizing e = not_both e
shut Querying e = not_both e
shut Sending e = not_both e

pub none_sent : (p : Persisted) (w : Waiting) (n : ℕ) → WaitsRight p w n → is_open w ≡ false → n ≡ 0
none_sent p Closed n i e = i
none_sent p Idle n i e = not_both e
none_sent p Resynchronizing n i e = not_both e
none_sent p Querying n i e = not_both e
none_sent p Sending n i e = not_both e

-- an act on an open circuit
pub when_open_is : (r : ℕ) (s : Sender) (a : Acted) → r ≤ 99 → valid_sender s ≡ true → is_open s.waiting ≡ true → when_open r s a ≡ a
when_open_is r s a l v o = rw (le-leb r 99 l, v, o)

-- ---- something waits only on an open circuit, and none is open while frozen
frozen_none : (p : Persisted) (w : Waiting) (n : ℕ) → WaitsRight p w n → p.frozen ≡ true → w ≡ Closed
frozen_none p Closed n i e = refl
frozen_none p Idle n i e = let t = i.0.unfrozen in not_both cc
frozen_none p Resynchronizing n i e = let t = i.0.unfrozen in not_both cc
frozen_none p Querying n i e = let t = i.0.unfrozen in not_both cc
frozen_none p Sending n i e = let t = i.0.unfrozen in not_both cc

pub frozen_closed : (s : Sender) → valid_sender s ≡ true → s.persisted.frozen ≡ true → s.waiting ≡ Closed
frozen_closed s v e = frozen_none s.persisted s.waiting s.sends (right_from s v).waits e
