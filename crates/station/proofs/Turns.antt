-- The last reply and RINT over a history: they go together, and with the station.
use mathlib.Core.Path.{◌≡◌, refl, sym, ap, subst}
use mathlib.Core.List.{List, [], ◌∷◌}
use mathlib.Core.Bool.{Bool, true, false, cond, true≢false}
use Prim.Native.Nat.{ℕ}
use native.Mathlib.Omega.{arith}
use lib.ListN.{length}
use lib.Dec.{leb, eqb}
use borrow.Author.Tests.{leb-false, eqb-true, eqb-false}
use Rattle.lists.proofs.Tests.{cond_ind}
use Rattle.station.specs.Station.{is_duplicate}
use Rattle.station.specs.Interrupt.{turn, fresh_turn, turn_after, ack_given, open_given, last_reply}
use Rattle.station.specs.declared.Station.TheVariants.{Closed, Open}
use Rattle.station.specs.declared.Ending.{Ending}
use Rattle.station.specs.declared.Reply.{Reply}
use Rattle.station.specs.declared.Reply.TheVariants.{Ack, Nak, Eot, Rint}
use Rattle.station.specs.declared.ReplyKind.{ReplyKind}
use Rattle.station.specs.declared.ReplyKind.TheVariants.{NoneYet, Ack as AckKind, Nak as NakKind, Rint as RintKind}
use Rattle.station.specs.declared.Interrupt.{Interrupt}
use Rattle.station.specs.declared.Interrupt.TheVariants.{Unasked, Pending, Given}
use Rattle.station.specs.declared.Turn.{Turn}
use Rattle.station.specs.History.{Unit, good, bad, enquiry, eot, bare_enq, asks, Block, block, expected_after, text_held, Past, past, fits, unit_after, past_of, station_of, turn_fits, plain_reply, asked, turn_by, turn_of}
use Rattle.station.proofs.Texts.{goes_round}

-- ---- what a good block does to a history, and document 01's reply to it, by its number: what holds of each case, holds
module _ (P : Past → Reply → Type 0) (c : ℕ) (bs : List Block) (n : ℕ) (x : Ending) (t : List ℕ) where
  pub record Cases : Type 0 where
    pub neither : P (past bs false) Nak
    pub duplicate : (n ≡ expected_after bs → ⊥) → is_duplicate (expected_after bs) n ≡ true → P (past bs false) (Ack n)
    pub too_long : n ≡ expected_after bs → P (past bs true) Eot
    pub accepted : n ≡ expected_after bs → fits c bs t ≡ true → P (past (block x t ∷ bs) false) (Ack n)

  pub good_cases : Cases → P (unit_after c bs (good n x t)) (plain_reply c bs (good n x t))
  good_cases each = go (leb n 7) (eqb n (expected_after bs)) (fits c bs t) (is_duplicate (expected_after bs) n) refl refl refl refl
    where
      go : (v q f d : Bool) → leb n 7 ≡ v → eqb n (expected_after bs) ≡ q → fits c bs t ≡ f → is_duplicate (expected_after bs) n ≡ d
          → P (unit_after c bs (good n x t)) (plain_reply c bs (good n x t))
      go false true f d above same r s =
          absurd (let l = leb-false n 7 above in let e = eqb-true n (expected_after bs) same in let m = (goes_round bs).most in omega (arith, l, e, m))
      go false false f d above other r s = rw (above, other) each.neither
      go true true true d small same r s = rw (small, same, r) (each.accepted (eqb-true n (expected_after bs) same) r)
      go true true false d small same r s = rw (small, same, r) (each.too_long (eqb-true n (expected_after bs) same))
      go true false f true small other r s = rw (small, other, s) (each.duplicate (eqb-false n (expected_after bs) other) s)
      go true false f false small other r s = rw (small, other, s) each.neither

-- ---- station and turn go together: every ACK, NAK and RINT leaves what does, with any numbers
ack_fits : (e d g n : ℕ) (k : ReplyKind) (i : Interrupt) → turn_fits (Open d g) (turn_after (ack_given e n i) (turn k i)) ≡ true
unfolding turn_after
ack_fits e d g n k Unasked = refl
ack_fits e d g n k Pending = cond_ind (λ (w : Reply). turn_fits (Open d g) (turn_after w (turn k Pending)) ≡ true) (eqb n e) Rint (Ack n) (λ z. refl) (λ z. refl)
ack_fits e d g n k Given = refl

enq_fits : (e h : ℕ) (k : ReplyKind) (i : Interrupt) → turn_fits (Open e h) (turn_after (last_reply e k) (turn k i)) ≡ true
unfolding turn_after
enq_fits e h NoneYet i = refl
enq_fits e h AckKind Unasked = refl
enq_fits e h AckKind Pending = refl
enq_fits e h AckKind Given = refl
enq_fits e h NakKind i = refl
enq_fits e h RintKind i = refl

asked-fits : (e h : ℕ) (k : ReplyKind) (i : Interrupt) → turn_fits (Open e h) (turn k i) ≡ true → turn_fits (Open e h) (asked k i) ≡ true
asked-fits e h NoneYet Unasked f = f
asked-fits e h AckKind Unasked f = f
asked-fits e h NakKind Unasked f = f
asked-fits e h RintKind Unasked f = f
asked-fits e h k Pending f = f
asked-fits e h k Given f = f

unit_fits : (c : ℕ) (bs : List Block) (v : Turn) → turn_fits (station_of (past bs false)) v ≡ true → (u : Unit)
    → turn_fits (station_of (unit_after c bs u)) (turn_by c bs v u) ≡ true
unfolding turn_after
unit_fits c bs v f (good n x t) =
    good_cases (λ (p : Past) (w : Reply). turn_fits (station_of p) (turn_after (open_given (expected_after bs) w v.interrupt) v) ≡ true) c bs n x t
    record {
      neither = refl;
      duplicate = λ other d. ack_fits (expected_after bs) (expected_after bs) (length (text_held bs)) n v.last v.interrupt;
      too_long = λ same. refl;
      accepted = λ same r. ack_fits (expected_after bs) (expected_after (block x t ∷ bs)) (length (text_held (block x t ∷ bs))) n v.last v.interrupt;
    }
unit_fits c bs v f bad = refl
unit_fits c bs v f enquiry = refl
unit_fits c bs v f eot = refl
unit_fits c bs v f bare_enq = enq_fits (expected_after bs) (length (text_held bs)) v.last v.interrupt
unit_fits c bs v f asks = asked-fits (expected_after bs) (length (text_held bs)) v.last v.interrupt f

pub turn-fits : (c : ℕ) (us : List Unit) → turn_fits (station_of (past_of c us)) (turn_of c us) ≡ true
unfolding past_of turn_of expected_after text_held
turn-fits c [] = refl
turn-fits c (u ∷ us) = go (past_of c us).closed refl (turn-fits c us)
  where
    go : (k : Bool) → (past_of c us).closed ≡ k → turn_fits (cond k Closed (Open (expected_after (past_of c us).blocks) (length (text_held (past_of c us).blocks)))) (turn_of c us) ≡ true
        → turn_fits (station_of (cond k (past_of c us) (unit_after c (past_of c us).blocks u))) (cond k fresh_turn (turn_by c (past_of c us).blocks (turn_of c us) u)) ≡ true
    go true e f = rw e
    go false e f = unit_fits c (past_of c us).blocks (turn_of c us) f u

-- a closed station keeps nothing
pub fresh-only : (k : ReplyKind) (i : Interrupt) → turn_fits Closed (turn k i) ≡ true → turn NoneYet Unasked ≡ turn k i
fresh-only NoneYet Unasked f = refl
fresh-only NoneYet Pending f = absurd (true≢false (sym f))
fresh-only NoneYet Given f = absurd (true≢false (sym f))
fresh-only AckKind i f = absurd (true≢false (sym f))
fresh-only NakKind i f = absurd (true≢false (sym f))
fresh-only RintKind i f = absurd (true≢false (sym f))

-- the turn after a unit, by whether the station was open
pub unit_turn : (P : Turn → Type 0) (c : ℕ) (us : List Unit) (u : Unit) → ((past_of c us).closed ≡ true → P fresh_turn)
    → ((past_of c us).closed ≡ false → turn_fits (station_of (past (past_of c us).blocks false)) (turn_of c us) ≡ true → P (turn_by c (past_of c us).blocks (turn_of c us) u))
    → P (turn_of c (u ∷ us))
unfolding turn_of
unit_turn P c us u f g = cond_ind P (past_of c us).closed fresh_turn _ f (λ e. g e (rw e at (turn-fits c us)))

-- ---- where no RINT was asked for, none is pending and none was given
-- the driver's wish, which is no unit of a line
abbrev pub is_asks : Unit → Bool
is_asks (good n x t) = false
is_asks bad = false
is_asks enquiry = false
is_asks eot = false
is_asks bare_enq = false
is_asks asks = true

unasked_by : (c : ℕ) (bs : List Block) (k : ReplyKind) → turn_fits (station_of (past bs false)) (turn k Unasked) ≡ true → (u : Unit) → is_asks u ≡ false
    → (turn_by c bs (turn k Unasked) u).interrupt ≡ Unasked
unfolding turn_after
unasked_by c bs k f (good n x t) g =
    good_cases (λ (p : Past) (w : Reply). (turn_after (open_given (expected_after bs) w Unasked) (turn k Unasked)).interrupt ≡ Unasked) c bs n x t
    record { neither = refl; duplicate = λ other d. refl; too_long = λ same. refl; accepted = λ same r. refl }
unasked_by c bs k f bad g = refl
unasked_by c bs k f enquiry g = refl
unasked_by c bs k f eot g = refl
unasked_by c bs NoneYet f bare_enq g = refl
unasked_by c bs AckKind f bare_enq g = refl
unasked_by c bs NakKind f bare_enq g = refl
unasked_by c bs RintKind f bare_enq g = absurd (true≢false (sym f))
unasked_by c bs k f asks g = absurd (true≢false g)

pub unasked_stays : (c : ℕ) (us : List Unit) → (turn_of c us).interrupt ≡ Unasked → (u : Unit) → is_asks u ≡ false → (turn_of c (u ∷ us)).interrupt ≡ Unasked
unasked_stays c us q u g =
    unit_turn (λ (v : Turn). v.interrupt ≡ Unasked) c us u (λ e. refl)
    (λ e. subst (λ (v : Turn). turn_fits (station_of (past (past_of c us).blocks false)) v ≡ true → (turn_by c (past_of c us).blocks v u).interrupt ≡ Unasked)
    (sym (ap (turn (turn_of c us).last) q)) (λ f. unasked_by c (past_of c us).blocks (turn_of c us).last f u g))
