-- The sends of a block, failure, and that the words are a state after every run.
use mathlib.Core.Path.{◌≡◌, refl, sym, ap, ◌∙◌, subst}
use mathlib.Core.List.{List, [], ◌∷◌}
use mathlib.Core.Bool.{Bool, true, false, cond, ◌&&◌, and-false, true≢false}
use Prim.Native.Nat.{ℕ, suc, ◌+◌}
use native.Mathlib.Omega.{arith}
use lib.Dec.{leb, eqb}
use borrow.Author.Tests.{leb-true, eqb-true, eq-eqb, ne_eqb}
use Rattle.lists.specs.Bytes.{greatest_word}
use Rattle.lists.proofs.Tests.{cond_ind, and_left, and_right}
use Rattle.station.specs.Station.{precedes}
use Rattle.station.specs.declared.Ending.TheVariants.{Etb, Etx}
use Rattle.station.proofs.Duplicates.{next_differs, precedes_next}
use Rattle.master.proofs.Valid.{again_valid, next_valid}
use Rattle.master.specs.Master.{outstanding, block_number, valid_outstanding, valid_master, is_last, block_out, master_acted, unchanged, refused_master, sends_out, resent, resend_of, next_out, acknowledged_of, accepted_of, ack_of, waiting_reply, idle_reply, start_now, start_of, master_reply_of, timer_a_of, close_of}
use Rattle.master.specs.Reversal.{refuses_rint, master_state, answer_of, is_acknowledged, reversed_of, reply_answer, enquire_of, may_receive_now, may_receive_of}
use Rattle.master.specs.declared.Outstanding.{Outstanding}
use Rattle.master.specs.declared.Master.{Master}
use Rattle.master.specs.declared.Master.TheVariants.{Closed, Idle, Waiting}
use Rattle.master.specs.declared.Response.{Response}
use Rattle.master.specs.declared.Response.TheVariants.{Ack, Nak, Eot, Damaged, Rint}
use Rattle.master.specs.declared.Progress.{Progress}
use Rattle.master.specs.declared.Progress.TheVariants.{NoProgress, Acknowledged}
use Rattle.master.specs.declared.Transmission.{Transmission}
use Rattle.master.specs.declared.Transmission.TheVariants.{SendEot, SendEnq}
use Rattle.master.specs.declared.End.{End}
use Rattle.master.specs.declared.End.TheVariants.{NotEnded, Failed}
use Rattle.master.specs.declared.Reversal.{Reversal}
use Rattle.master.specs.declared.MasterState.{MasterState}
use Rattle.master.specs.declared.MasterActed.{MasterActed}
use Rattle.master.specs.declared.MasterAnswer.{MasterAnswer}
use Rattle.master.specs.MasterHistory.{MasterAct, start, reply, timer, close, enquire, may_receive, master_act_of, master_after, answers_of, is_out, plus_send, sends_of, SendsOfOut, fails_by, is_failed}

data NoClaim : Type 0 where
  no_claim : NoClaim

-- what is known of the master after an answer: it is one, and of a block out the sends are told
abbrev SendsTold : Master → List MasterActed → Type 0
SendsTold (Closed count) h = NoClaim
SendsTold (Idle count) h = NoClaim
SendsTold (Waiting o) h = sends_of o.count h ≡ suc o.resends

record Kept (m : Master) (h : List MasterActed) : Type 0 where
  valid : valid_master m ≡ true
  told : SendsTold m h
  -- a block that is not out has no sends
  others : (count : ℕ) → is_out count m ≡ false → sends_of count h ≡ 0

not_out : (a : MasterActed) (h : List MasterActed) (count : ℕ) → is_out count a.master ≡ false → sends_of count (a ∷ h) ≡ 0
unfolding sends_of
not_out a h count e = rw e

module _ (h : List MasterActed) where
  After : MasterActed → Type 0
  After a = Kept a.master (a ∷ h)

  -- with no block out nothing is claimed
  closed : {n count : ℕ} {t : Transmission} {p : Progress} {e : End}
      → Kept (Closed count) (record { refusal = n; master = Closed count; send = t; progress = p; end = e } ∷ h)
  unfolding sends_of
  closed = record { valid = refl; told = no_claim; others = λ c e. refl }

  idle : {n count : ℕ} {t : Transmission} {p : Progress} {e : End}
      → Kept (Idle count) (record { refusal = n; master = Idle count; send = t; progress = p; end = e } ∷ h)
  unfolding sends_of
  idle = record { valid = refl; told = no_claim; others = λ c e. refl }

  module _ (o : Outstanding) where
    own : eqb o.count o.count ≡ true
    own = eq-eqb o.count o.count refl

    -- an answer that sends no block
    same_told : (a : MasterActed) → a.master ≡ Waiting o → plus_send a.send (sends_of o.count h) ≡ sends_of o.count h → Kept (Waiting o) h → Kept (Waiting o) (a ∷ h)
    unfolding sends_of
    same_told a e f k =
        record {
          valid = k.valid;
          told = rw (e, own) (f ∙ k.told);
          others = λ c g. not_out a h c (ap (is_out c) e ∙ g);
        }

    same_kept : Kept (Waiting o) h → After (unchanged (Waiting o))
    unfolding After
    same_kept k = same_told (unchanged (Waiting o)) refl refl k

    enquired_kept : Kept (Waiting o) h → After (master_acted (Waiting o) SendEnq NoProgress NotEnded)
    unfolding After
    enquired_kept k = same_told (master_acted (Waiting o) SendEnq NoProgress NotEnded) refl refl k

    refused-kept : (n : ℕ) → Kept (Waiting o) h → After (refused_master n (Waiting o))
    unfolding After
    refused-kept n k = same_told (refused_master n (Waiting o)) refl refl k

    resend_kept : Kept (Waiting o) h → After (resend_of o)
    unfolding resend_of After sends_of
    resend_kept k =
        cond_ind (λ (a : MasterActed). Kept a.master (a ∷ h)) (leb 5 o.resends) _ _ (λ g. closed)
        (λ g. record {
          valid = again_valid o k.valid g;
          told = rw own (let t = k.told in omega (arith, t));
          others = λ c e. not_out (sends_out NoProgress (resent o)) h c e;
        })

    go_on_kept : Kept (Waiting o) h → After (acknowledged_of o)
    unfolding acknowledged_of After sends_of
    go_on_kept k =
        let zero = k.others (o.count + 1) (ne_eqb o.count (o.count + 1) (λ e. omega (arith, e))) in
        cond_ind (λ (a : MasterActed). Kept a.master (a ∷ h)) (is_last o) _ _ (λ g. idle)
        (λ g. record {
          valid = next_valid o k.valid g;
          told = rw (eq-eqb (o.count + 1) (o.count + 1) refl) (ap suc zero);
          others = λ c e. not_out (sends_out Acknowledged (next_out o)) h c e;
        })

    accepted-kept : Kept (Waiting o) h → After (accepted_of o)
    unfolding accepted_of
    accepted-kept k = cond_ind After (eqb o.count greatest_word) _ _ (λ z. same_kept k) (λ z. go_on_kept k)

    ack_kept : (n : ℕ) → Kept (Waiting o) h → After (ack_of n o)
    unfolding ack_of
    ack_kept n k =
        cond_ind After (eqb n (block_number o.count)) _ _ (λ g. accepted-kept k)
        (λ g. cond_ind After (precedes n (block_number o.count)) _ _ (λ z. resend_kept k) (λ z. same_kept k))

    waiting_kept : (refuses : Bool) (r : Response) → Kept (Waiting o) h → After (waiting_reply refuses r o)
    unfolding After
    waiting_kept refuses (Ack n) k = ack_kept n k
    waiting_kept refuses Nak k = resend_kept k
    waiting_kept refuses Eot k = closed
    waiting_kept refuses Damaged k = same_kept k
    waiting_kept refuses Rint k = cond_ind After refuses _ _ (λ g. resend_kept k) (λ g. accepted-kept k)

  idle_kept : (r : Response) (count : ℕ) → After (idle_reply r count)
  unfolding After
  idle_kept (Ack n) count = idle
  idle_kept Nak count = idle
  idle_kept Eot count = closed
  idle_kept Damaged count = idle
  idle_kept Rint count = idle

  reply_kept : (refuses : Bool) (r : Response) (m : Master) → Kept m h → After (master_reply_of refuses r m)
  unfolding master_reply_of After
  reply_kept refuses r (Closed count) k = closed
  reply_kept refuses r (Idle count) k = idle_kept r count
  reply_kept refuses r (Waiting o) k = cond_ind After (valid_outstanding o) _ _ (λ f. waiting_kept o refuses r k) (λ f. refused-kept o 11 k)

  -- with leave to receive no block is out after an acknowledgement
  reversed_kept : (v : Reversal) (a : MasterActed) → After a → After (reversed_of v a)
  unfolding reversed_of After
  reversed_kept v a k = cond_ind After (v.may_receive && is_acknowledged a.progress) _ _ (λ f. closed) (λ f. k)

  start_kept : (n size : ℕ) (m : Master) → leb 1 size ≡ true → Kept m h → After (start_now n size m)
  unfolding After sends_of
  start_kept n size (Closed count) f k = closed
  start_kept n size (Idle count) f k =
      record {
        valid = rw f;
        told = rw (eq-eqb count count refl) (ap suc (k.others count refl));
        others = λ c e. not_out (sends_out NoProgress (outstanding n size 0 0 count)) h c e;
      }
  start_kept n size (Waiting o) f k = refused-kept o 11 k

  refused-same : (n : ℕ) (m : Master) → Kept m h → After (refused_master n m)
  unfolding After
  refused-same n (Closed count) k = closed
  refused-same n (Idle count) k = idle
  refused-same n (Waiting o) k = refused-kept o n k

  leave_kept : (m : Master) (v : Reversal) → Kept m h → After (may_receive_now m v).acted
  unfolding answer_of After
  leave_kept (Closed count) v k = closed
  leave_kept (Idle count) v k = closed
  leave_kept (Waiting o) v k =
      cond_ind (λ (a : MasterAnswer). After a.acted) (valid_outstanding o) _ _ (λ f. same_kept o k) (λ f. refused-kept o 11 k)

  act_kept : (x : MasterAct) (m : Master) (v : Reversal) → Kept m h → After (master_act_of x (master_state m v)).acted
  unfolding start_of timer_a_of close_of enquire_of may_receive_of answer_of After
  act_kept (start n size) m v k = cond_ind After (leb 1 size) _ _ (λ f. start_kept n size m f k) (λ f. refused-same 1 m k)
  act_kept (reply r) m v k = reversed_kept v (master_reply_of (refuses_rint v) r m) (reply_kept (refuses_rint v) r m k)
  act_kept timer (Closed count) v k = closed
  act_kept timer (Idle count) v k = idle
  act_kept timer (Waiting o) v k = cond_ind After (valid_outstanding o) _ _ (λ f. resend_kept o k) (λ f. refused-kept o 11 k)
  act_kept close (Closed count) v k = closed
  act_kept close (Idle count) v k = closed
  act_kept close (Waiting o) v k = refused-kept o 11 k
  act_kept enquire (Closed count) v k = closed
  act_kept enquire (Idle count) v k = idle
  act_kept enquire (Waiting o) v k = cond_ind After (valid_outstanding o) _ _ (λ f. enquired_kept o k) (λ f. refused-kept o 11 k)
  act_kept may_receive m v k =
      cond_ind (λ (a : MasterAnswer). After a.acted) v.interrupted _ _ (λ f. leave_kept m v k) (λ f. refused-same 11 m k)

run-kept : (xs : List MasterAct) → Kept (master_after xs).master (answers_of xs)
unfolding master_after answers_of answer_of After sends_of
run-kept [] = record { valid = refl; told = no_claim; others = λ c e. refl }
run-kept (x ∷ xs) = act_kept (answers_of xs) x (master_after xs).master (master_after xs).reversal (run-kept xs)

-- after every run from an opening the words are those of a master
pub reachable : (xs : List MasterAct) → valid_master (master_after xs).master ≡ true
reachable xs = (run-kept xs).valid

-- and of the block out the sends are one and its resends, six at most: an enquiry is no resend
pub sends_of_out : (xs : List MasterAct) (o : Outstanding) → (master_after xs).master ≡ Waiting o → SendsOfOut o (answers_of xs)
sends_of_out xs o e = go (run-kept xs)
  where
    go : Kept (master_after xs).master (answers_of xs) → SendsOfOut o (answers_of xs)
    go k =
        let t = subst (λ (m : Master). SendsTold m (answers_of xs)) e k.told in
        let v = subst (λ (m : Master). valid_master m ≡ true) e k.valid in
        let f = leb-true o.resends 5 (and_left (leb o.resends 5) _ (and_right (leb 1 o.block_size) _ v)) in
        record { sends = t; most = omega (arith, t, f) }

-- ---- failure: an answer fails exactly if v holds, and none fails that tells of an acknowledgement
record FailsIf (v : Bool) (a : MasterActed) : Type 0 where
  fails : is_failed a.end ≡ v
  apart : (is_acknowledged a.progress && v) ≡ false

module _ (o : Outstanding) where
  resend_fails : FailsIf (leb 5 o.resends) (resend_of o)
  unfolding resend_of
  resend_fails = go (leb 5 o.resends)
    where
      go : (v : Bool) → FailsIf v (cond v (master_acted (Closed o.count) SendEot NoProgress Failed) (sends_out NoProgress (resent o)))
      go true = record { fails = refl; apart = refl }
      go false = record { fails = refl; apart = refl }

  accepted_fails : FailsIf false (accepted_of o)
  unfolding accepted_of acknowledged_of
  accepted_fails =
      cond_ind (FailsIf false) (eqb o.count greatest_word) _ _ (λ f. record { fails = refl; apart = refl })
      (λ f. cond_ind (FailsIf false) (is_last o) _ _ (λ g. record { fails = refl; apart = refl }) (λ g. record { fails = refl; apart = refl }))

  -- a number that is the block's own is not the one just before it
  ack_fails : (n : ℕ) → FailsIf (precedes n (block_number o.count) && leb 5 o.resends) (ack_of n o)
  unfolding ack_of
  ack_fails n = go (eqb n (block_number o.count)) (precedes n (block_number o.count)) refl refl
    where
      own : eqb n (block_number o.count) ≡ true → precedes n (block_number o.count) ≡ false
      own e = not_before (precedes n (block_number o.count)) refl
        where
          not_before : (v : Bool) → precedes n (block_number o.count) ≡ v → v ≡ false
          not_before true p = absurd (next_differs n (precedes_next n (block_number o.count) p ∙ sym (eqb-true n (block_number o.count) e)))
          not_before false p = refl

      go : (e p : Bool) → eqb n (block_number o.count) ≡ e → precedes n (block_number o.count) ≡ p
          → FailsIf (p && leb 5 o.resends) (cond e (accepted_of o) (cond p (resend_of o) (unchanged (Waiting o))))
      go true true f g = absurd (true≢false (sym g ∙ own f))
      go true false f g = accepted_fails
      go false true f g = resend_fails
      go false false f g = record { fails = refl; apart = refl }

  rint_fails : (refuses : Bool) → FailsIf (refuses && leb 5 o.resends) (cond refuses (resend_of o) (accepted_of o))
  rint_fails true = resend_fails
  rint_fails false = accepted_fails

reversed_fails : (w : Reversal) (v : Bool) (a : MasterActed) → FailsIf v a → is_failed (reversed_of w a).end ≡ v
unfolding reversed_of
reversed_fails w v a f =
    cond_ind (λ (z : MasterActed). is_failed z.end ≡ v) (w.may_receive && is_acknowledged a.progress) _ _
    (λ g. sym (rw (and_right w.may_receive _ g) at f.apart)) (λ g. f.fails)

reply_fails : (r : Response) (m : Master) (v : Reversal) → valid_master m ≡ true → FailsIf (fails_by (reply r) m v) (master_reply_of (refuses_rint v) r m)
unfolding master_reply_of
reply_fails r (Closed c) v h = record { fails = refl; apart = refl }
reply_fails (Ack n) (Idle c) v h = record { fails = refl; apart = refl }
reply_fails Nak (Idle c) v h = record { fails = refl; apart = refl }
reply_fails Eot (Idle c) v h = record { fails = refl; apart = refl }
reply_fails Damaged (Idle c) v h = record { fails = refl; apart = refl }
reply_fails Rint (Idle c) v h = record { fails = refl; apart = refl }
reply_fails (Ack n) (Waiting o) v h = rw h (ack_fails o n)
reply_fails Nak (Waiting o) v h = rw h (resend_fails o)
reply_fails Eot (Waiting o) v h = rw h (record { fails = refl; apart = refl })
reply_fails Damaged (Waiting o) v h = rw h (record { fails = refl; apart = refl })
reply_fails Rint (Waiting o) v h = rw h (rint_fails o (refuses_rint v))

-- an act ends an opening by failure exactly if it is a cause for a resend and five were made
pub fails_exactly : (x : MasterAct) (s : MasterState) → valid_master s.master ≡ true → is_failed (master_act_of x s).acted.end ≡ fails_by x s.master s.reversal
unfolding start_of timer_a_of close_of enquire_of may_receive_of answer_of
fails_exactly x s valid = go x s.master s.reversal valid
  where
    -- both ways of a test name no failure
    either : (b : Bool) (x y : MasterAnswer) → is_failed x.acted.end ≡ false → is_failed y.acted.end ≡ false → is_failed (cond b x y).acted.end ≡ false
    either true x y f g = f
    either false x y f g = g

    go : (x : MasterAct) (m : Master) (v : Reversal) → valid_master m ≡ true → is_failed (master_act_of x (master_state m v)).acted.end ≡ fails_by x m v
    go (start n size) (Closed c) v h = cond_ind (λ (a : MasterActed). is_failed a.end ≡ false) (leb 1 size) _ _ (λ f. refl) (λ f. refl)
    go (start n size) (Idle c) v h = cond_ind (λ (a : MasterActed). is_failed a.end ≡ false) (leb 1 size) _ _ (λ f. refl) (λ f. refl)
    go (start n size) (Waiting o) v h = cond_ind (λ (a : MasterActed). is_failed a.end ≡ false) (leb 1 size) _ _ (λ f. refl) (λ f. refl)
    go (reply r) m v h = reversed_fails v (fails_by (reply r) m v) (master_reply_of (refuses_rint v) r m) (reply_fails r m v h)
    go timer (Closed c) v h = refl
    go timer (Idle c) v h = refl
    go timer (Waiting o) v h = rw h (resend_fails o).fails
    go close (Closed c) v h = refl
    go close (Idle c) v h = refl
    go close (Waiting o) v h = refl
    go enquire (Closed c) v h = refl
    go enquire (Idle c) v h = refl
    go enquire (Waiting o) v h = rw h
    go may_receive (Closed c) v h = either v.interrupted _ _ refl refl
    go may_receive (Idle c) v h = either v.interrupted _ _ refl refl
    go may_receive (Waiting o) v h = either v.interrupted _ _ (either (valid_outstanding o) _ _ refl refl) refl

-- ---- "ETB on all but the last"
pub last_ends : (o : Outstanding) → is_last o ≡ true → (block_out o).ending ≡ Etx
last_ends o h = rw h

pub others_end : (o : Outstanding) → is_last o ≡ false → (block_out o).ending ≡ Etb
others_end o h = rw h

-- "An EOT from the slave ends it at once, that block counted as not accepted."
pub eot_uncounted : (o : Outstanding) (v : Reversal) → valid_outstanding o ≡ true → (reply_answer Eot (master_state (Waiting o) v)).acted.master ≡ Closed o.count
unfolding master_reply_of reversed_of answer_of
eot_uncounted o v h = rw (h, and-false v.may_receive)
