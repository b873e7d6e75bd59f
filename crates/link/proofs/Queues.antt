-- What stands in the queues of a link: requests that can be read in order, and answers that the receiver gave.
use Rattle.std.specs.Prelude.{Option}
use mathlib.Core.Path.{◌≡◌, refl, sym, ap, subst}
use mathlib.Core.List.{List, [], ◌∷◌, ◌++◌}
use mathlib.Core.Bool.{Bool, false}
use mathlib.Core.Logic.{◌⊎◌}
use Prim.Native.Nat.{ℕ, zero, suc, ◌+◌, ◌≤◌}
use native.Mathlib.Omega.{arith}
use lib.ListN.{length}
use Rattle.numbers.specs.declared.SequenceNumber.{SequenceNumber}
use Rattle.numbers.specs.declared.SequenceNumber.TheVariants.{MinusOne, Number}
use Rattle.header.specs.declared.Code.{Code}
use Rattle.header.specs.declared.Code.TheVariants.{AA, AE, AR}
use Rattle.receiver.specs.Receiver.{expected_number}
use Rattle.sender.specs.declared.Persisted.{Persisted}
use Rattle.link.specs.Duties.{others_at}

-- ---- every one, and some of them in their order
pub data All {A : Type 0} (P : A → Type 0) : List A → Type 0 where
  none : All P []
  more : {x : A} {xs : List A} → P x → All P xs → All P (x ∷ xs)

pub data Sub {A : Type 0} : List A → List A → Type 0 where
  empty : Sub [] []
  skip : {y : A} {xs ys : List A} → Sub xs ys → Sub xs (y ∷ ys)
  keep : {x : A} {xs ys : List A} → Sub xs ys → Sub (x ∷ xs) (x ∷ ys)

pub sub-all : {A : Type 0} (xs : List A) → Sub xs xs
sub-all [] = empty
sub-all (x ∷ xs) = keep (sub-all xs)

pub sub_none : {A : Type 0} (l : List A) → Sub [] l
sub_none [] = empty
sub_none (x ∷ l) = skip (sub_none l)

pub sub_nothing : {A : Type 0} {xs ys : List A} → Sub xs ys → ys ≡ [] → xs ≡ []
sub_nothing empty e = refl
sub_nothing (skip {ys = ys} s) e = let z : ◌≡◌ {A = ℕ} (suc (length ys)) 0 = ap length e in absurd (omega arith)
sub_nothing (keep {ys = ys} s) e = let z : ◌≡◌ {A = ℕ} (suc (length ys)) 0 = ap length e in absurd (omega arith)

pub sub_behind : {A : Type 0} (xs : List A) {ys zs : List A} → Sub ys zs → Sub (xs ++ ys) (xs ++ zs)
sub_behind [] s = s
sub_behind (x ∷ xs) s = keep (sub_behind xs s)

pub sub_others : {A : Type 0} (n : ℕ) (xs : List A) → Sub (others_at n xs) xs
unfolding others_at
sub_others n [] = empty
sub_others zero (x ∷ xs) = skip (sub-all xs)
sub_others (suc n) (x ∷ xs) = keep (sub_others n xs)

pub all-sub : {A : Type 0} {P : A → Type 0} {xs ys : List A} → Sub xs ys → All P ys → All P xs
all-sub empty none = none
all-sub (skip s) (more p ps) = all-sub s ps
all-sub (keep s) (more p ps) = more p (all-sub s ps)

-- each one is among others, in any order and any number of times
pub data In {A : Type 0} (x : A) : List A → Type 0 where
  here : {ys : List A} → In x (x ∷ ys)
  there : {y : A} {ys : List A} → In x ys → In x (y ∷ ys)

pub data Among {A : Type 0} : List A → List A → Type 0 where
  nobody : {ys : List A} → Among [] ys
  one : {x : A} {xs ys : List A} → In x ys → Among xs ys → Among (x ∷ xs) ys

pub all_in_lem : {A : Type 0} {P : A → Type 0} {x : A} {ys : List A} → In x ys → All P ys → P x
all_in_lem here (more p ps) = p
all_in_lem (there i) (more p ps) = all_in_lem i ps

pub all_among : {A : Type 0} {P : A → Type 0} {xs ys : List A} → Among xs ys → All P ys → All P xs
all_among nobody ps = none
all_among (one i a) ps = more (all_in_lem i ps) (all_among a ps)

pub among_more : {A : Type 0} {y : A} {xs ys : List A} → Among xs ys → Among xs (y ∷ ys)
among_more nobody = nobody
among_more (one i a) = one (there i) (among_more a)

in_front : {A : Type 0} {x : A} {ys : List A} (zs : List A) → In x ys → In x (ys ++ zs)
in_front zs here = here
in_front zs (there i) = there (in_front zs i)

among_behind : {A : Type 0} (ys : List A) {us zs : List A} → Among us zs → Among us (ys ++ zs)
among_behind [] a = a
among_behind (y ∷ ys) a = among_more (among_behind ys a)

-- those of two lists, each in its own
pub among_both : {A : Type 0} {xs ys us zs : List A} → Among xs ys → Among us zs → Among (xs ++ us) (ys ++ zs)
among_both {ys = ys} nobody b = among_behind ys b
among_both {zs = zs} (one i a) b = one (in_front zs i) (among_both a b)

pub sub_among : {A : Type 0} {xs ys : List A} → Sub xs ys → Among xs ys
sub_among empty = nobody
sub_among (skip s) = among_more (sub_among s)
sub_among (keep s) = one here (among_more (sub_among s))

pub all_map : {A : Type 0} {P Q : A → Type 0} {xs : List A} → ((x : A) → P x → Q x) → All P xs → All Q xs
all_map f none = none
all_map f (more {x = x} p ps) = more (f x p) (all_map f ps)

pub all_append : {A : Type 0} {P : A → Type 0} {xs ys : List A} → All P xs → All P ys → All P (xs ++ ys)
all_append none qs = qs
all_append (more p ps) qs = more p (all_append ps qs)

pub all_left : {A : Type 0} {P : A → Type 0} (xs ys : List A) → All P (xs ++ ys) → All P xs
all_left [] ys ps = none
all_left (x ∷ xs) ys (more p ps) = more p (all_left xs ys ps)

pub all_right : {A : Type 0} {P : A → Type 0} (xs ys : List A) → All P (xs ++ ys) → All P ys
all_right [] ys ps = ps
all_right (x ∷ xs) ys (more p ps) = all_right xs ys ps

pub all_end : {A : Type 0} {P : A → Type 0} {xs : List A} {y : A} → All P xs → P y → All P (xs ++ y ∷ [])
all_end ps q = all_append ps (more q none)

pub all_head : {A : Type 0} {P : A → Type 0} {x : A} {xs : List A} → All P (x ∷ xs) → P x
all_head (more p ps) = p

pub all_tail : {A : Type 0} {P : A → Type 0} {x : A} {xs : List A} → All P (x ∷ xs) → All P xs
all_tail (more p ps) = ps

-- ---- two lists, of which each one of the first is related to the one of the second at its place
pub data Each {A B : Type 0} (R : A → B → Type 0) : List A → List B → Type 0 where
  each_none : Each R [] []
  each_more : {x : A} {y : B} {xs : List A} {ys : List B} → R x y → Each R xs ys → Each R (x ∷ xs) (y ∷ ys)

pub each_end : {A B : Type 0} {R : A → B → Type 0} {xs : List A} {ys : List B} {x : A} {y : B} → Each R xs ys → R x y → Each R (xs ++ x ∷ []) (ys ++ y ∷ [])
each_end each_none q = each_more q each_none
each_end (each_more p ps) q = each_more p (each_end ps q)

pub data Front {A B : Type 0} (R : A → B → Type 0) (x : A) (xs : List A) (ys : List B) : Type 0 where
  front : (z : B) (zs : List B) → ys ≡ z ∷ zs → R x z → Each R xs zs → Front R x xs ys

pub each_front : {A B : Type 0} {R : A → B → Type 0} {x : A} {xs : List A} {ys : List B} → Each R (x ∷ xs) ys → Front R x xs ys
each_front (each_more {y = z} {ys = zs} p ps) = front z zs refl p ps

-- some of the first have some of the second, and others of the first others of the second
pub data Chosen {A B : Type 0} (R : A → B → Type 0) (xs : List A) (ys : List B) : Type 0 where
  some : (zs : List B) → Sub zs ys → Each R xs zs → Chosen R xs ys

pub each_sub : {A B : Type 0} {R : A → B → Type 0} {vs xs : List A} {ys : List B} → Sub vs xs → Each R xs ys → Chosen R vs ys
each_sub empty each_none = some [] empty each_none
each_sub {R = R} {vs = vs} (skip s) (each_more {y = y} {ys = ys} p ps) = go (each_sub s ps)
  where
    go : Chosen R vs ys → Chosen R vs (y ∷ ys)
    go (some zs a e) = some zs (skip a) e
each_sub {R = R} (keep {x = x} {xs = us} s) (each_more {y = y} {ys = ys} p ps) = go (each_sub s ps)
  where
    go : Chosen R us ys → Chosen R (x ∷ us) (y ∷ ys)
    go (some zs a e) = some (y ∷ zs) (keep a) (each_more p e)

pub data Found {A B : Type 0} (R : A → B → Type 0) (x : A) (ys : List B) : Type 0 where
  found : (y : B) → In y ys → R x y → Found R x ys

pub each_in : {A B : Type 0} {R : A → B → Type 0} {x : A} {xs : List A} {ys : List B} → In x xs → Each R xs ys → Found R x ys
each_in here (each_more {y = y} p ps) = found y here p
each_in {R = R} {x = x} (there i) (each_more {y = z} {ys = ys} p ps) = go (each_in i ps)
  where
    go : Found R x ys → Found R x (z ∷ ys)
    go (found y j r) = found y (there j) r

pub data Others {A B : Type 0} (R : A → B → Type 0) (xs : List A) (ys : List B) : Type 0 where
  others : (zs : List B) → Among zs ys → Each R xs zs → Others R xs ys

pub each_among : {A B : Type 0} {R : A → B → Type 0} {vs xs : List A} {ys : List B} → Among vs xs → Each R xs ys → Others R vs ys
each_among nobody e = others [] nobody each_none
each_among {R = R} {ys = ys} (one {x = x} {xs = us} i a) e = go (each_in i e) (each_among a e)
  where
    go : Found R x ys → Others R us ys → Others R (x ∷ us) ys
    go (found y j r) (others zs b f) = others (y ∷ zs) (one j b) (each_more r f)

-- ---- requests
abbrev pub IsMinusOne : SequenceNumber → Type 0
IsMinusOne v = v ≡ MinusOne

abbrev pub IsZero : SequenceNumber → Type 0
IsZero v = v ≡ Number 0

abbrev pub NotOver : ℕ → SequenceNumber → Type 0
NotOver k MinusOne = 0 ≤ k
NotOver k (Number m) = m ≤ k

pub not-over_more : (j k : ℕ) → j ≤ k → (v : SequenceNumber) → NotOver j v → NotOver k v
not-over_more j k l MinusOne h = omega arith
not-over_more j k l (Number m) h = omega arith

-- what a sender with these numbers may have named
pub record Bounded (p : Persisted) (v : SequenceNumber) : Type 0 where
  pub delivered : NotOver (p.delivered + 1) v
  pub last : NotOver p.last v

pub bounded_more : (q p : Persisted) → q.delivered ≤ p.delivered → q.last ≤ p.last → (v : SequenceNumber) → Bounded q v → Bounded p v
bounded_more q p a b v t =
    record { delivered = not-over_more (q.delivered + 1) (p.delivered + 1) (omega arith) v t.delivered; last = not-over_more q.last p.last b v t.last }

-- a receiver that has the numbers up to h can read these in order: each -1 before any transaction, and transactions that go up by at most one from what it has
pub data Good (f : ℕ) : ℕ → List SequenceNumber → Type 0 where
  good_none : {h : ℕ} → Good f h []
  good_minus : {h : ℕ} {p : List SequenceNumber} → h ≡ f → Good f h p → Good f h (MinusOne ∷ p)
  good_zero : {h n : ℕ} {p : List SequenceNumber} → n ≡ 0 → Good f h p → Good f h (Number n ∷ p)
  good_number : {h n : ℕ} {p : List SequenceNumber} → 1 ≤ n → f ≤ n → h ≤ n + 1 → Good f (n + 1) p → Good f h (Number n ∷ p)

module _ (f : ℕ) where
  pub good_lower : {h : ℕ} {p : List SequenceNumber} (k : ℕ) → f ≤ k → k ≤ h → Good f h p → Good f k p
  good_lower k a b good_none = good_none
  good_lower k a b (good_minus e g) = good_minus {h = k} (omega (arith, e)) (good_lower k a b g)
  good_lower k a b (good_zero e g) = good_zero e (good_lower k a b g)
  good_lower k a b (good_number l m n g) = good_number {h = k} l m (omega arith) g

  pub good_skip : {h : ℕ} {v : SequenceNumber} {p : List SequenceNumber} → f ≤ h → Good f h (v ∷ p) → Good f h p
  good_skip a (good_minus e g) = g
  good_skip a (good_zero e g) = g
  good_skip {h = h} a (good_number l m n g) = good_lower h a n g

  pub good_sub : {h : ℕ} {xs ys : List SequenceNumber} (p : List SequenceNumber) → f ≤ h → Sub xs ys → Good f h (ys ++ p) → Good f h (xs ++ p)
  good_sub p a empty g = g
  good_sub p a (skip s) g = good_sub p a s (good_skip a g)
  good_sub p a (keep s) (good_minus e g) = good_minus e (good_sub p a s g)
  good_sub p a (keep s) (good_zero e g) = good_zero e (good_sub p a s g)
  good_sub p a (keep s) (good_number {n = j} l m n g) = good_number l m n (good_sub {h = j + 1} p (omega arith) s g)

  -- what stands before others
  pub good_front : {h : ℕ} (xs p : List SequenceNumber) → Good f h (xs ++ p) → Good f h xs
  good_front [] p g = good_none
  good_front (v ∷ xs) p (good_minus e g) = good_minus e (good_front xs p g)
  good_front (v ∷ xs) p (good_zero e g) = good_zero e (good_front xs p g)
  good_front (v ∷ xs) p (good_number {n = j} l m n g) = good_number l m n (good_front {h = j + 1} xs p g)

  -- what stands behind others, for a receiver that has no more
  pub good_behind : {h : ℕ} (xs p : List SequenceNumber) (k : ℕ) → f ≤ k → k ≤ h → Good f h (xs ++ p) → Good f k p
  good_behind [] p k a b g = good_lower k a b g
  good_behind (v ∷ xs) p k a b (good_minus e g) = good_behind xs p k a b g
  good_behind (v ∷ xs) p k a b (good_zero e g) = good_behind xs p k a b g
  good_behind (v ∷ xs) p k a b (good_number {n = j} l m n g) = good_behind {h = j + 1} xs p k a (omega arith) g

  pub good_minus_ones : {h : ℕ} {p : List SequenceNumber} → h ≡ f → All IsMinusOne p → Good f h p
  good_minus_ones e none = good_none
  good_minus_ones {h = h} e (more {x = x} {xs = xs} q qs) = subst (λ (v : SequenceNumber). Good f h (v ∷ xs)) (sym q) (good_minus e (good_minus_ones e qs))

  pub good_end_zero : {h : ℕ} {p : List SequenceNumber} → Good f h p → Good f h (p ++ Number 0 ∷ [])
  good_end_zero good_none = good_zero refl good_none
  good_end_zero (good_minus e g) = good_minus e (good_end_zero g)
  good_end_zero (good_zero e g) = good_zero e (good_end_zero g)
  good_end_zero (good_number l m n g) = good_number l m n (good_end_zero g)

  pub good_end : {h : ℕ} {p : List SequenceNumber} (k : ℕ) → 1 ≤ k → f ≤ k → h ≤ k + 1 → All (NotOver k) p → Good f h p → Good f h (p ++ Number k ∷ [])
  good_end k a b c o g = go c o g
    where
      go : {h : ℕ} {p : List SequenceNumber} → h ≤ k + 1 → All (NotOver k) p → Good f h p → Good f h (p ++ Number k ∷ [])
      go c none good_none = good_number a b c good_none
      go c (more o os) (good_minus e g) = good_minus e (go c os g)
      go c (more o os) (good_zero e g) = good_zero e (go c os g)
      go c (more o os) (good_number {n = j} l m n g) = good_number l m n (go {h = j + 1} (omega arith) os g)

-- ---- replies: an answer to the message with a number, or an N block for the number of a refusal
pub data Answer : Type 0 where
  replies : SequenceNumber → Code → SequenceNumber → Answer
  refuses : ℕ → Answer

-- the receiver, as held or as persisted: what it expects, the number after those that it has, and whether it may still expect a number that an earlier tenant left
pub record Side : Type 0 where
  pub expected : Option ℕ
  pub next : ℕ
  pub old : Bool

abbrev pub side : Option ℕ → ℕ → Bool → Side
side e h o = record { expected = e; next = h; old = o }

-- the answer to a number k, from a receiver that has the numbers up to h
pub data ToNumber (h k : ℕ) (c : Code) (n : SequenceNumber) : Type 0 where
  to_zero : k ≡ 0 → c ≡ AA → ToNumber h k c n
  to_stored : 1 ≤ k → (c ≡ AA) ⊎ (c ≡ AE) → n ≡ Number k → k + 1 ≤ h → ToNumber h k c n
  to_repeat : 1 ≤ k → c ≡ AR → n ≡ Number (k + 1) → k + 1 ≤ h → ToNumber h k c n

pub record ToMinusOne (o : Bool) (c : Code) (n : SequenceNumber) : Type 0 where
  pub code : c ≡ AA
  pub number : n ≡ MinusOne
  pub new : o ≡ false

-- an answer that such a receiver gave
abbrev pub Given : Side → Answer → Type 0
Given s (replies MinusOne c n) = ToMinusOne s.old c n
Given s (replies (Number k) c n) = ToNumber s.next k c n
Given s (refuses r) = 0 ≤ s.next

pub given_more : (s t : Side) → (s.old ≡ false → t.old ≡ false) → s.next ≤ t.next → (a : Answer) → Given s a → Given t a
given_more s t f l (replies MinusOne c n) g = record { code = g.code; number = g.number; new = f g.new }
given_more s t f l (replies (Number m) c n) (to_zero a b) = to_zero a b
given_more s t f l (replies (Number m) c n) (to_stored a b d e) = to_stored a b d (omega arith)
given_more s t f l (replies (Number m) c n) (to_repeat a b d e) = to_repeat a b d (omega arith)
given_more s t f l (refuses r) g = omega arith

-- an answer to 0 says what is expected
abbrev pub NamesExpected : Option ℕ → Answer → Type 0
NamesExpected e (replies MinusOne c n) = n ≡ n
NamesExpected e (replies (Number k) c n) = k ≡ 0 → n ≡ expected_number e
NamesExpected e (refuses r) = r ≡ r
