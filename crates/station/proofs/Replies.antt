-- The replies of one opening: a bare ENQ gets the newest again, RINT comes only for an accepted block, and never twice without an ACK between.
use mathlib.Core.Path.{◌≡◌, refl, sym, ap, ◌∙◌, subst}
use mathlib.Core.List.{List, [], ◌∷◌}
use mathlib.Core.Bool.{Bool, true, false, cond, not, true≢false}
use Prim.Native.Nat.{ℕ}
use native.Mathlib.Omega.{arith}
use lib.ListN.{length}
use borrow.Author.Tests.{le-leb, eq-eqb}
use Rattle.lists.specs.Outcome.{need}
use Rattle.refusal.specs.Refusal.{STATE}
use Rattle.station.specs.Interrupt.{turn, fresh_turn, acknowledging, turn_after, ack_given, open_given, number_before, last_reply, is_given}
use Rattle.station.specs.declared.Ending.{Ending}
use Rattle.station.specs.declared.Reply.{Reply}
use Rattle.station.specs.declared.Reply.TheVariants.{NoReply, Ack, Nak, Rint}
use Rattle.station.specs.declared.ReplyKind.{ReplyKind}
use Rattle.station.specs.declared.ReplyKind.TheVariants.{NoneYet, Ack as AckKind, Nak as NakKind, Rint as RintKind}
use Rattle.station.specs.declared.Interrupt.{Interrupt}
use Rattle.station.specs.declared.Interrupt.TheVariants.{Unasked, Pending, Given}
use Rattle.station.specs.declared.Turn.{Turn}
use Rattle.station.specs.History.{Unit, good, bad, enquiry, eot, bare_enq, asks, Block, block, expected_after, Past, past, fits, unit_after, past_of, station_of, is_unasked, turn_fits, plain_reply, open_reply, asked, turn_by, turn_of, unit_outcome, station_run}
use Rattle.station.specs.Retransmission.{replies_to}
use Rattle.station.specs.Replies.{newest_reply, rint_since_ack}
use Rattle.station.proofs.Texts.{goes_round}
use Rattle.station.proofs.Duplicates.{number_before_lem, precedes_next}
use Rattle.station.proofs.Turns.{good_cases, turn-fits, fresh-only, unit_turn}
use Rattle.station.proofs.History.{replies, asks_answered}
use Rattle.station.proofs.Retransmission.{given_other, retransmission_acknowledged}

-- ---- what an open station keeps of its replies is what they were
record Kept (e : ℕ) (v : Turn) (ws : List Reply) : Type 0 where
  newest : last_reply e v.last ≡ newest_reply ws
  given : is_given v.interrupt ≡ rint_since_ack ws

acknowledging-not_given : (i : Interrupt) → is_given (acknowledging i) ≡ false
acknowledging-not_given Unasked = refl
acknowledging-not_given Pending = refl
acknowledging-not_given Given = refl

-- after each kind of reply
module _ (e : ℕ) (v : Turn) (ws : List Reply) where
  nak_kept : is_given v.interrupt ≡ rint_since_ack ws → Kept e (turn_after Nak v) (Nak ∷ ws)
  unfolding turn_after newest_reply rint_since_ack
  nak_kept g = record { newest = refl; given = g }

  ack_kept : (n : ℕ) → number_before e ≡ n → Kept e (turn_after (Ack n) v) (Ack n ∷ ws)
  unfolding turn_after newest_reply rint_since_ack
  ack_kept n q = record { newest = ap Ack q; given = acknowledging-not_given v.interrupt }

  rint_kept : Kept e (turn_after Rint v) (Rint ∷ ws)
  unfolding turn_after newest_reply rint_since_ack
  rint_kept = record { newest = refl; given = refl }

-- after each unit that leaves it open
module _ (c : ℕ) (bs : List Block) (v : Turn) (ws : List Reply) (before : Kept (expected_after bs) v ws) where
  abbrev expected : ℕ
  expected = expected_after bs

  accepted-kept : (k : Block) (n : ℕ) → n ≡ expected → (i : Interrupt) → Kept (expected_after (k ∷ bs)) (turn_after (ack_given expected n i) v) (ack_given expected n i ∷ ws)
  unfolding expected_after
  accepted-kept k n same Unasked = ack_kept _ v ws n (number_before_lem expected ∙ sym same)
  accepted-kept k n same Pending = rw (eq-eqb n expected same) (rint_kept _ v ws)
  accepted-kept k n same Given = ack_kept _ v ws n (number_before_lem expected ∙ sym same)

  enq_kept : (k : ReplyKind) → Kept expected (turn_after (last_reply expected k) v) (last_reply expected k ∷ ws)
  enq_kept NoneYet = nak_kept expected v ws before.given
  enq_kept AckKind = ack_kept expected v ws (number_before expected) refl
  enq_kept NakKind = nak_kept expected v ws before.given
  enq_kept RintKind = rint_kept expected v ws

  asks_kept : (i : Interrupt) → v.interrupt ≡ i → Kept expected (asked v.last i) (NoReply ∷ ws)
  unfolding newest_reply rint_since_ack
  asks_kept Unasked q = record { newest = before.newest; given = ap is_given (sym q) ∙ before.given }
  asks_kept Pending q = record { newest = before.newest; given = ap is_given (sym q) ∙ before.given }
  asks_kept Given q = record { newest = before.newest; given = ap is_given (sym q) ∙ before.given }

  unit_kept : (u : Unit) → (unit_after c bs u).closed ≡ false → Kept (expected_after (unit_after c bs u).blocks) (turn_by c bs v u) (open_reply c bs v u ∷ ws)
  unit_kept (good n x t) h =
      let i = v.interrupt in
      good_cases (λ (p : Past) (w : Reply). p.closed ≡ false → Kept (expected_after p.blocks) (turn_after (open_given expected w i) v) (open_given expected w i ∷ ws)) c bs n x t
      record {
        neither = λ h. nak_kept expected v ws before.given;
        duplicate = λ other d h. rw (given_other expected n i true other) (ack_kept expected v ws n (ap number_before (sym (precedes_next n expected d)) ∙ number_before_lem n));
        too_long = λ same h. absurd (true≢false h);
        accepted = λ same f h. accepted-kept (block x t) n same i;
      }
      h
  unit_kept bad h = nak_kept expected v ws before.given
  unit_kept enquiry h = nak_kept expected v ws before.given
  unit_kept eot h = absurd (true≢false h)
  unit_kept bare_enq h = enq_kept v.last
  unit_kept asks h = asks_kept v.interrupt refl

kept : (b : List ℕ) (us : List Unit) → (past_of (length b) us).closed ≡ false → Kept (expected_after (past_of (length b) us).blocks) (turn_of (length b) us) (replies_to b us)
unfolding past_of turn_of replies_to newest_reply rint_since_ack
kept b [] h = record { newest = refl; given = refl }
kept b (u ∷ us) h = rw (replies b us u) (go (past_of (length b) us).closed refl h (kept b us))
  where
    p : Past
    p = past_of (length b) us

    v : Turn
    v = turn_of (length b) us

    go : (k : Bool) → p.closed ≡ k → (cond k p (unit_after (length b) p.blocks u)).closed ≡ false
        → (p.closed ≡ false → Kept (expected_after p.blocks) v (replies_to b us))
        → Kept (expected_after (cond k p (unit_after (length b) p.blocks u)).blocks) (cond k fresh_turn (turn_by (length b) p.blocks v u))
        (cond k NoReply (open_reply (length b) p.blocks v u) ∷ replies_to b us)
    go true e h before = absurd (true≢false (sym e ∙ h))
    go false e h before = unit_kept (length b) p.blocks v (replies_to b us) (before e) u h

-- An open station answers a bare ENQ with its newest reply, or NAK if it gave none.
pub enq_newest : (b : List ℕ) (us : List Unit) → (past_of (length b) us).closed ≡ false
    → (unit_outcome (station_run b us) bare_enq).answer.acted.reply ≡ newest_reply (replies_to b us)
enq_newest b us h = replies b us bare_enq ∙ rw h (kept b us h).newest

-- It has given a RINT exactly if of its ACKs and RINTs the newest is a RINT.
pub given_exactly : (b : List ℕ) (us : List Unit) → (past_of (length b) us).closed ≡ false
    → is_given (turn_of (length b) us).interrupt ≡ rint_since_ack (replies_to b us)
given_exactly b us h = (kept b us h).given

-- ---- RINT
-- a block that is answered RINT: one is pending, and the block is accepted
pub record RintGiven (b : List ℕ) (us : List Unit) (n : ℕ) (x : Ending) (t : List ℕ) : Type 0 where
  pub opened : (past_of (length b) us).closed ≡ false
  pub pending : (turn_of (length b) us).interrupt ≡ Pending
  pub number : n ≡ expected_after (past_of (length b) us).blocks
  pub taken : past_of (length b) (good n x t ∷ us) ≡ past (block x t ∷ (past_of (length b) us).blocks) false

rint_pending : (e n : ℕ) (i : Interrupt) → ack_given e n i ≡ Rint → i ≡ Pending
rint_pending e n Unasked q = cc
rint_pending e n Pending q = refl
rint_pending e n Given q = cc

-- what follows where RINT is another reply
zero_not_one : ◌≡◌ {A = ℕ} 0 1 → ⊥
zero_not_one z = omega arith

-- RINT is given only with one pending, and for a block that is accepted.
pub rint_accepted : (b : List ℕ) (us : List Unit) (n : ℕ) (x : Ending) (t : List ℕ) → (unit_outcome (station_run b us) (good n x t)).answer.acted.reply ≡ Rint
    → RintGiven b us n x t
unfolding past_of
rint_accepted b us n x t r = go (past_of (length b) us).closed refl (sym (replies b us (good n x t)) ∙ r)
  where
    bs : List Block
    bs = (past_of (length b) us).blocks

    i : Interrupt
    i = (turn_of (length b) us).interrupt

    go : (k : Bool) → (past_of (length b) us).closed ≡ k → cond k NoReply (open_given (expected_after bs) (plain_reply (length b) bs (good n x t)) i) ≡ Rint → RintGiven b us n x t
    go true e q = absurd (zero_not_one (cc))
    go false e q =
        good_cases (λ (p : Past) (w : Reply). p ≡ unit_after (length b) bs (good n x t) → open_given (expected_after bs) w i ≡ Rint → RintGiven b us n x t) (length b) bs n x t
        record {
          neither = λ same q. absurd (zero_not_one (cc));
          duplicate = λ other d same q. absurd (zero_not_one (cc (given_other (expected_after bs) n i true other)));
          too_long = λ number same q. absurd (zero_not_one (cc));
          accepted = λ number f same q. record { opened = e; pending = rint_pending (expected_after bs) n i q; number = number; taken = rw e (sym same) };
        }
        refl q

-- No two blocks get RINT without an ACK between (000, C.3.4.4).
pub rint_between : (b : List ℕ) (us : List Unit) (n : ℕ) (x : Ending) (t : List ℕ) → (unit_outcome (station_run b us) (good n x t)).answer.acted.reply ≡ Rint
    → rint_since_ack (replies_to b us) ≡ false
rint_between b us n x t r = let a = rint_accepted b us n x t r in sym (given_exactly b us a.opened) ∙ ap is_given a.pending

-- The block that got RINT, reported again with its number, gets ACK with it.
pub duplicate_ack : (b : List ℕ) (us : List Unit) (n : ℕ) (x y : Ending) (t s : List ℕ) → (unit_outcome (station_run b us) (good n x t)).answer.acted.reply ≡ Rint
    → (unit_outcome (station_run b (good n x t ∷ us)) (good n y s)).answer.acted.reply ≡ Ack n
duplicate_ack b us n x y t s r =
    let a = rint_accepted b us n x t r in
    subst (λ (m : ℕ). (unit_outcome (station_run b (good n x t ∷ us)) (good m y s)).answer.acted.reply ≡ Ack m) (sym a.number)
    (retransmission_acknowledged b (good n x t ∷ us) (block x t) (past_of (length b) us).blocks a.taken y s).reply

-- ---- the driver's wish
abbrev pub is_pending : Interrupt → Bool
is_pending Unasked = false
is_pending Pending = true
is_pending Given = false

-- Asking is answered 0 exactly if the station is open, no RINT is pending, and an ACK came since the last.
pub asks_refused : (b : List ℕ) (us : List Unit)
    → (unit_outcome (station_run b us) asks).answer.acted.refusal
    ≡ need (not (past_of (length b) us).closed) STATE
    (need (not (is_pending (turn_of (length b) us).interrupt)) STATE (need (not (rint_since_ack (replies_to b us))) STATE 0))
asks_refused b us = asks_answered b us (station_run b us).run.buffer ∙ go (past_of (length b) us).closed (given_exactly b us)
  where
    by_interrupt : (i : Interrupt) → need (is_unasked i) STATE 0 ≡ need (not (is_pending i)) STATE (need (not (is_given i)) STATE 0)
    by_interrupt Unasked = refl
    by_interrupt Pending = refl
    by_interrupt Given = refl

    i : Interrupt
    i = (turn_of (length b) us).interrupt

    go : (k : Bool) → (k ≡ false → is_given i ≡ rint_since_ack (replies_to b us))
        → need (not k) STATE (need (is_unasked i) STATE 0) ≡ need (not k) STATE (need (not (is_pending i)) STATE (need (not (rint_since_ack (replies_to b us))) STATE 0))
    go true g = refl
    go false g = by_interrupt i ∙ ap (λ (z : Bool). need (not (is_pending i)) STATE (need (not z) STATE 0)) (g refl)

pending_by : (c : ℕ) (bs : List Block) (k : ReplyKind) → turn_fits (station_of (past bs false)) (turn k Pending) ≡ true → (u : Unit) → unit_after c bs u ≡ past bs false
    → (turn_by c bs (turn k Pending) u).interrupt ≡ Pending
unfolding turn_after
pending_by c bs k f (good n x t) same =
    good_cases (λ (p : Past) (w : Reply). p ≡ past bs false → (turn_after (open_given (expected_after bs) w Pending) (turn k Pending)).interrupt ≡ Pending) c bs n x t
    record {
      neither = λ same. refl;
      duplicate = λ other d same. rw (given_other (expected_after bs) n Pending true other);
      too_long = λ number same. absurd (true≢false (ap (λ (p : Past). p.closed) same));
      accepted = λ number fit same. absurd (let l = ap (λ (p : Past). length p.blocks) same in omega (arith, l));
    }
    same
pending_by c bs k f bad same = refl
pending_by c bs k f enquiry same = refl
pending_by c bs k f eot same = absurd (true≢false (ap (λ (p : Past). p.closed) same))
pending_by c bs NoneYet f bare_enq same = refl
pending_by c bs AckKind f bare_enq same = refl
pending_by c bs NakKind f bare_enq same = refl
pending_by c bs RintKind f bare_enq same = absurd (true≢false (sym f))
pending_by c bs k f asks same = refl

-- a station with one pending is open
pending_open : (c : ℕ) (us : List Unit) → (turn_of c us).interrupt ≡ Pending → (past_of c us).closed ≡ false
pending_open c us q = go (past_of c us).closed refl
  where
    go : (k : Bool) → (past_of c us).closed ≡ k → k ≡ false
    go true e = let f = fresh-only (turn_of c us).last (turn_of c us).interrupt (rw e at (turn-fits c us)) in cc
    go false e = refl

-- A pending RINT stays pending over every unit by which no block is accepted and the station is not closed.
pub wish_kept : (c : ℕ) (us : List Unit) (u : Unit) → (turn_of c us).interrupt ≡ Pending → past_of c (u ∷ us) ≡ past_of c us → (turn_of c (u ∷ us)).interrupt ≡ Pending
unfolding past_of
wish_kept c us u q same =
    let bs = (past_of c us).blocks in
    let opened = pending_open c us q in
    unit_turn (λ (v : Turn). v.interrupt ≡ Pending) c us u (λ e. absurd (true≢false (sym e ∙ opened)))
    (λ e. subst (λ (v : Turn). turn_fits (station_of (past bs false)) v ≡ true → (turn_by c bs v u).interrupt ≡ Pending) (sym (ap (turn (turn_of c us).last) q))
    (λ f. pending_by c bs (turn_of c us).last f u (rw e at same ∙ ap (past bs) e)))

-- The next good expected block gets RINT instead of ACK.
pub wish_granted : (b : List ℕ) (us : List Unit) (x : Ending) (t : List ℕ) → (turn_of (length b) us).interrupt ≡ Pending
    → fits (length b) (past_of (length b) us).blocks t ≡ true
    → (unit_outcome (station_run b us) (good (expected_after (past_of (length b) us).blocks) x t)).answer.acted.reply ≡ Rint
wish_granted b us x t q fit =
    let e = expected_after (past_of (length b) us).blocks in
    let same = eq-eqb e e refl in
    replies b us (good e x t) ∙ rw (pending_open (length b) us q, q, le-leb e 7 (goes_round (past_of (length b) us).blocks).most, same, fit, same)
