-- The line back: which replies stand on it, the oldest first, and that loss, damage, noise and repetition keep it so.
use mathlib.Core.Path.{◌≡◌, subst}
use mathlib.Core.List.{List, [], ◌∷◌, ◌++◌}
use mathlib.Core.Bool.{true}
use Prim.Native.Nat.{ℕ, zero, suc, ◌≤◌}
use native.Mathlib.Omega.{arith}
use Rattle.station.specs.Station.{next_number, precedes}
use Rattle.station.proofs.Duplicates.{next_preceded}
use Rattle.master.specs.declared.Response.{Response}
use Rattle.master.specs.declared.Response.TheVariants.{Ack, Nak, Eot, Damaged, Rint}
use Rattle.station_link.specs.System.{lost_at, replaced_at, inserted_at, repeated_at}
use Rattle.station_link.proofs.Queues.{Fine, All, none, also}

-- Four stretches, one after the other, where n is the number of the block out or the next one: RINTs given while the block before was the newest
-- accepted, other replies given then, RINTs given since the block out is accepted, other replies since then.
pub data Stretch : Type 0 where
  old_rints old_others new_rints new_others : Stretch

abbrev pub rank : Stretch → ℕ
rank old_rints = 0
rank old_others = 1
rank new_rints = 2
rank new_others = 3

-- which reply stands where; a damaged one anywhere
pub data At (n : ℕ) : Stretch → Response → Type 0 where
  old_rint : At n old_rints Rint
  old_ack_lem : {m : ℕ} → precedes m n ≡ true → At n old_others (Ack m)
  old_nak : At n old_others Nak
  old_eot : At n old_others Eot
  new_rint : At n new_rints Rint
  new_ack : {m : ℕ} → m ≡ n → At n new_others (Ack m)
  new_nak : At n new_others Nak
  new_eot : At n new_others Eot

-- from the stretch lo to the stretch hi
pub data Between (n : ℕ) (hi : Stretch) : Stretch → List Response → Type 0 where
  end : {lo : Stretch} → rank lo ≤ rank hi → Between n hi lo []
  next : {lo p : Stretch} {r : Response} {rs : List Response} → rank lo ≤ rank p → At n p r → Between n hi p rs → Between n hi lo (r ∷ rs)
  skip : {lo : Stretch} {rs : List Response} → Between n hi lo rs → Between n hi lo (Damaged ∷ rs)

module _ (n : ℕ) (hi : Stretch) where
  abbrev B : Stretch → List Response → Type 0
  B = Between n hi

  pub bounded : (lo : Stretch) (rs : List Response) → B lo rs → rank lo ≤ rank hi
  bounded lo [] (end l) = l
  bounded lo (r ∷ rs) (next {p = p} l a i) = let m = bounded p rs i in omega (arith, l, m)
  bounded lo (Damaged ∷ rs) (skip i) = bounded lo rs i

  pub sooner : (lo p : Stretch) (rs : List Response) → rank lo ≤ rank p → B p rs → B lo rs
  sooner lo p [] l (end m) = end {lo = lo} (omega (arith, l, m))
  sooner lo p (r ∷ rs) l (next {p = q} m a i) = next {lo = lo} {p = q} (omega (arith, l, m)) a i
  sooner lo p (Damaged ∷ rs) l (skip i) = skip (sooner lo p rs l i)

  pub between_lost : (k : ℕ) (lo : Stretch) (rs : List Response) → B lo rs → B lo (lost_at k rs)
  unfolding lost_at
  between_lost k lo [] i = i
  between_lost zero lo (r ∷ rs) (next {p = p} l a i) = sooner lo p rs l i
  between_lost zero lo (Damaged ∷ rs) (skip i) = i
  between_lost (suc k) lo (r ∷ rs) (next {p = p} l a i) = next {p = p} l a (between_lost k p rs i)
  between_lost (suc k) lo (Damaged ∷ rs) (skip i) = skip (between_lost k lo rs i)

  pub between_repeated : (k : ℕ) (lo : Stretch) (rs : List Response) → B lo rs → B lo (repeated_at k rs)
  unfolding repeated_at
  between_repeated k lo [] i = i
  between_repeated zero lo (r ∷ rs) (next {p = p} l a i) = next {lo = lo} {p = p} l a (next {lo = p} {p = p} (omega arith) a i)
  between_repeated zero lo (Damaged ∷ rs) (skip i) = skip (skip i)
  between_repeated (suc k) lo (r ∷ rs) (next {p = p} l a i) = next {p = p} l a (between_repeated k p rs i)
  between_repeated (suc k) lo (Damaged ∷ rs) (skip i) = skip (between_repeated k lo rs i)

  -- one is damaged, or comes in damaged
  pub between_damaged : (k : ℕ) (lo : Stretch) (rs : List Response) → B lo rs → B lo (replaced_at k Damaged rs)
  unfolding replaced_at
  between_damaged k lo [] i = i
  between_damaged zero lo (r ∷ rs) (next {p = p} l a i) = skip (sooner lo p rs l i)
  between_damaged zero lo (Damaged ∷ rs) (skip i) = skip i
  between_damaged (suc k) lo (r ∷ rs) (next {p = p} l a i) = next {p = p} l a (between_damaged k p rs i)
  between_damaged (suc k) lo (Damaged ∷ rs) (skip i) = skip (between_damaged k lo rs i)

  pub between_disturbed : (k : ℕ) (lo : Stretch) (rs : List Response) → B lo rs → B lo (inserted_at k Damaged rs)
  unfolding inserted_at
  between_disturbed k lo [] i = skip i
  between_disturbed zero lo (r ∷ rs) i = skip i
  between_disturbed (suc k) lo (r ∷ rs) (next {p = p} l a i) = next {p = p} l a (between_disturbed k p rs i)
  between_disturbed (suc k) lo (Damaged ∷ rs) (skip i) = skip (between_disturbed k lo rs i)

-- ---- where no RINT is on the line, a NAK in the place of a reply, or of noise
abbrev pub NoRint : Response → Type 0
NoRint (Ack m) = Fine
NoRint Nak = Fine
NoRint Eot = Fine
NoRint Damaged = Fine
NoRint Rint = ⊥

pub data Other : Stretch → Type 0 where
  in_old : Other old_others
  in_new : Other new_others

module _ (n : ℕ) (hi : Stretch) where
  abbrev C : Stretch → List Response → Type 0
  C = Between n hi

  nak_at : (lo : Stretch) → Other lo → At n lo Nak
  nak_at old_rints o = elim o [ ]
  nak_at old_others in_old = old_nak
  nak_at new_rints o = elim o [ ]
  nak_at new_others in_new = new_nak

  other_at : (p : Stretch) (r : Response) → At n p r → NoRint r → Other p
  other_at old_rints Rint old_rint q = absurd q
  other_at old_rints (Ack m) a q = elim a [ ]
  other_at old_rints Nak a q = elim a [ ]
  other_at old_rints Eot a q = elim a [ ]
  other_at old_rints Damaged a q = elim a [ ]
  other_at old_others (Ack m) (old_ack_lem e) q = in_old
  other_at old_others Nak old_nak q = in_old
  other_at old_others Eot old_eot q = in_old
  other_at old_others Damaged a q = elim a [ ]
  other_at old_others Rint a q = elim a [ ]
  other_at new_rints Rint new_rint q = absurd q
  other_at new_rints (Ack m) a q = elim a [ ]
  other_at new_rints Nak a q = elim a [ ]
  other_at new_rints Eot a q = elim a [ ]
  other_at new_rints Damaged a q = elim a [ ]
  other_at new_others (Ack m) (new_ack e) q = in_new
  other_at new_others Nak new_nak q = in_new
  other_at new_others Eot new_eot q = in_new
  other_at new_others Damaged a q = elim a [ ]
  other_at new_others Rint a q = elim a [ ]

  pub nak_replaced : (k : ℕ) (lo : Stretch) (rs : List Response) → Other lo → All NoRint rs → C lo rs → C lo (replaced_at k Nak rs)
  unfolding replaced_at
  nak_replaced k lo [] o none i = i
  nak_replaced zero lo (r ∷ rs) o (also q j) (next {p = p} l a i) = next {lo = lo} {p = lo} (omega arith) (nak_at lo o) (sooner n hi lo p rs l i)
  nak_replaced zero lo (Damaged ∷ rs) o (also q j) (skip i) = next {lo = lo} {p = lo} (omega arith) (nak_at lo o) i
  nak_replaced (suc k) lo (r ∷ rs) o (also q j) (next {p = p} l a i) = next {p = p} l a (nak_replaced k p rs (other_at p r a q) j i)
  nak_replaced (suc k) lo (Damaged ∷ rs) o (also q j) (skip i) = skip (nak_replaced k lo rs o j i)

  pub nak_inserted : (k : ℕ) (lo : Stretch) (rs : List Response) → Other lo → All NoRint rs → C lo rs → C lo (inserted_at k Nak rs)
  unfolding inserted_at
  nak_inserted k lo [] o none i = next {lo = lo} {p = lo} (omega arith) (nak_at lo o) i
  nak_inserted zero lo (r ∷ rs) o j i = next {lo = lo} {p = lo} (omega arith) (nak_at lo o) i
  nak_inserted (suc k) lo (r ∷ rs) o (also q j) (next {p = p} l a i) = next {p = p} l a (nak_inserted k p rs (other_at p r a q) j i)
  nak_inserted (suc k) lo (Damaged ∷ rs) o (also q j) (skip i) = skip (nak_inserted k lo rs o j i)

-- ---- a reply is put behind the others
pub behind : (n : ℕ) (hi p lo : Stretch) (w : Response) (rs : List Response) → rank hi ≤ rank p → At n p w → Between n hi lo rs → Between n p lo (rs ++ w ∷ [])
behind n hi p lo w [] l a (end m) = next {lo = lo} {p = p} (omega (arith, l, m)) a (end {lo = p} (omega arith))
behind n hi p lo w (r ∷ rs) l a (next {p = q} m b i) = next {p = q} m b (behind n hi p q w rs l a i)
behind n hi p lo w (Damaged ∷ rs) l a (skip i) = skip (behind n hi p lo w rs l a i)

pub later : (n : ℕ) (hi p lo : Stretch) (rs : List Response) → rank hi ≤ rank p → Between n hi lo rs → Between n p lo rs
later n hi p lo [] l (end m) = end {lo = lo} (omega (arith, l, m))
later n hi p lo (r ∷ rs) l (next {p = q} m b i) = next {p = q} m b (later n hi p q rs l i)
later n hi p lo (Damaged ∷ rs) l (skip i) = skip (later n hi p lo rs l i)

-- ---- the block out is acknowledged: what were replies to it are now replies to the block before
abbrev pub aged : Stretch → Stretch
aged old_rints = old_rints
aged old_others = old_others
aged new_rints = old_rints
aged new_others = old_others

aged_at : (n : ℕ) (p : Stretch) (r : Response) → 2 ≤ rank p → At n p r → At (next_number n) (aged p) r
aged_at n old_rints r l a = absurd (omega (arith, l))
aged_at n old_others r l a = absurd (omega (arith, l))
aged_at n new_rints Rint l new_rint = old_rint
aged_at n new_rints (Ack m) l a = elim a [ ]
aged_at n new_rints Nak l a = elim a [ ]
aged_at n new_rints Eot l a = elim a [ ]
aged_at n new_rints Damaged l a = elim a [ ]
aged_at n new_others (Ack m) l (new_ack e) = old_ack_lem (subst (λ (z : ℕ). precedes m (next_number z) ≡ true) e (next_preceded m))
aged_at n new_others Nak l new_nak = old_nak
aged_at n new_others Eot l new_eot = old_eot
aged_at n new_others Damaged l a = elim a [ ]
aged_at n new_others Rint l a = elim a [ ]

aged_rank : (p q : Stretch) → 2 ≤ rank p → rank p ≤ rank q → rank (aged p) ≤ rank (aged q)
aged_rank old_rints q l m = absurd (omega (arith, l))
aged_rank old_others q l m = absurd (omega (arith, l))
aged_rank new_rints old_rints l m = absurd (omega (arith, m))
aged_rank new_rints old_others l m = absurd (omega (arith, m))
aged_rank new_rints new_rints l m = omega arith
aged_rank new_rints new_others l m = omega arith
aged_rank new_others old_rints l m = absurd (omega (arith, m))
aged_rank new_others old_others l m = absurd (omega (arith, m))
aged_rank new_others new_rints l m = absurd (omega (arith, m))
aged_rank new_others new_others l m = omega arith

pub all_aged : (n : ℕ) (hi lo : Stretch) (rs : List Response) → 2 ≤ rank lo → Between n hi lo rs → Between (next_number n) (aged hi) (aged lo) rs
all_aged n hi lo [] l (end m) = end (aged_rank lo hi l m)
all_aged n hi lo (r ∷ rs) l (next {p = p} m a i) =
    next {p = aged p} (aged_rank lo p l m) (aged_at n p r (omega (arith, l, m)) a) (all_aged n hi p rs (omega (arith, l, m)) i)
all_aged n hi lo (Damaged ∷ rs) l (skip i) = skip (all_aged n hi lo rs l i)
