-- 02, §14, at the master: after every run from an opening, what it keeps of RINT, its enquiry and the leave is what the history tells.
use mathlib.Core.Path.{◌≡◌, refl, sym, ap, ◌∙◌}
use mathlib.Core.List.{List, [], ◌∷◌}
use mathlib.Core.Bool.{Bool, true, false, cond, not, ◌&&◌, ◌||◌, true≢false}
use Prim.Native.Nat.{ℕ, ◌+◌}
use lib.Dec.{leb, eqb}
use borrow.Author.Tests.{eqb-true, eq-eqb, not-true}
use Rattle.lists.specs.Bytes.{greatest_word}
use Rattle.lists.proofs.Tests.{cond_ind, and_right, or_true}
use Rattle.station.specs.Station.{precedes}
use Rattle.station.specs.declared.ReplyKind.{ReplyKind}
use Rattle.station.specs.declared.ReplyKind.TheVariants.{NoneYet, Ack as AckKind, Nak as NakKind, Rint as RintKind}
use Rattle.master.proofs.Valid.{fits_after}
use Rattle.master.proofs.History.{reachable}
use Rattle.master.proofs.Reversing.{is_open}
use Rattle.master.specs.Master.{block_number, valid_master, is_last, resend_of, acknowledged_of, accepted_of, ack_of, waiting_reply, start_now, start_of, master_reply_of, timer_a_of, close_of}
use Rattle.master.specs.Reversal.{reversal, master_state, refuses_by, refuses_rint, noted, enq_last, kept, answer_of, is_acknowledged, reversed_of, enquire_of, may_receive_now, may_receive_of, is_none_yet, heard, reversal_fits}
use Rattle.master.specs.declared.Outstanding.{Outstanding}
use Rattle.master.specs.declared.Master.{Master}
use Rattle.master.specs.declared.Master.TheVariants.{Closed, Idle, Waiting}
use Rattle.master.specs.declared.Response.{Response}
use Rattle.master.specs.declared.Response.TheVariants.{Ack, Nak, Eot, Damaged, Rint}
use Rattle.master.specs.declared.Transmission.{Transmission}
use Rattle.master.specs.declared.Transmission.TheVariants.{Nothing, SendBlock, SendEot, SendEnq}
use Rattle.master.specs.declared.Reversal.{Reversal}
use Rattle.master.specs.declared.MasterState.{MasterState}
use Rattle.master.specs.declared.MasterActed.{MasterActed}
use Rattle.master.specs.declared.MasterAnswer.{MasterAnswer}
use Rattle.master.specs.MasterHistory.{MasterAct, start, reply, timer, close, enquire, may_receive, master_act_of, master_after, answers_of, is_out, heard_of, last_heard, is_nak_kind, is_rint_kind, rint_heard, is_nothing, is_enq, enq_sent_last, rint_refused, is_leave, leave_given}

-- ---- which master comes after which: closed it stays closed; a block comes out by being sent; after leave it is no other block
abbrev follows : Bool → Master → Transmission → Master → Bool
follows may m t (Closed d) = true
follows may (Closed c) t (Idle d) = false
follows may (Idle c) t (Idle d) = true
follows may (Waiting o) t (Idle d) = true
follows may (Closed c) t (Waiting p) = false
follows may (Idle c) t (Waiting p) = not (is_nothing t)
follows may (Waiting o) t (Waiting p) = eqb o.count p.count || not may

same : (may : Bool) (m : Master) (t : Transmission) → follows may m t m ≡ true
same may (Closed c) t = refl
same may (Idle c) t = refl
same may (Waiting o) t = rw (eq-eqb o.count o.count refl)

-- §3's answers to a reply, where leave does not turn them round
Follows : Bool → Master → MasterActed → Type 0
Follows may m a = (may && is_acknowledged a.progress) ≡ false → follows may m a.send a.master ≡ true

module _ (may : Bool) (o : Outstanding) where
  resend_follows : follows may (Waiting o) (resend_of o).send (resend_of o).master ≡ true
  unfolding resend_of
  resend_follows =
      cond_ind (λ (a : MasterActed). follows may (Waiting o) a.send a.master ≡ true) (leb 5 o.resends) _ _ (λ f. refl)
      (λ f. same may (Waiting o) Nothing)

  accepted_follows : Follows may (Waiting o) (accepted_of o)
  unfolding accepted_of acknowledged_of Follows
  accepted_follows =
      cond_ind (Follows may (Waiting o)) (eqb o.count greatest_word) _ _ (λ f g. same may (Waiting o) Nothing)
      (λ f. cond_ind (Follows may (Waiting o)) (is_last o) _ _ (λ h g. refl) (λ h. next may))
    where
      next : (b : Bool) → (b && true) ≡ false → (eqb o.count (o.count + 1) || not b) ≡ true
      next true g = absurd (true≢false g)
      next false g = or_true (eqb o.count (o.count + 1))

  waiting_follows : (refuses : Bool) (r : Response) → Follows may (Waiting o) (waiting_reply refuses r o)
  unfolding ack_of Follows
  waiting_follows refuses (Ack n) =
      cond_ind (Follows may (Waiting o)) (eqb n (block_number o.count)) _ _ (λ f. accepted_follows)
      (λ f. cond_ind (Follows may (Waiting o)) (precedes n (block_number o.count)) _ _ (λ h g. resend_follows) (λ h g. same may (Waiting o) Nothing))
  waiting_follows refuses Nak = λ g. resend_follows
  waiting_follows refuses Eot = λ g. refl
  waiting_follows refuses Damaged = λ g. same may (Waiting o) Nothing
  waiting_follows refuses Rint = cond_ind (Follows may (Waiting o)) refuses _ _ (λ f g. resend_follows) (λ f. accepted_follows)

reply_follows : (may refuses : Bool) (r : Response) (m : Master) → valid_master m ≡ true → Follows may m (master_reply_of refuses r m)
unfolding master_reply_of Follows
reply_follows may refuses r (Closed c) h = λ g. refl
reply_follows may refuses (Ack n) (Idle c) h = λ g. refl
reply_follows may refuses Nak (Idle c) h = λ g. refl
reply_follows may refuses Eot (Idle c) h = λ g. refl
reply_follows may refuses Damaged (Idle c) h = λ g. refl
reply_follows may refuses Rint (Idle c) h = λ g. refl
reply_follows may refuses r (Waiting o) h = rw h (waiting_follows may o refuses r)

-- ---- what an act adds to what is kept, before the master then decides what stays of it
abbrev noting : MasterAct → Reversal → Reversal
noting x v =
    reversal (cond (is_none_yet (heard_of x)) v.last (heard_of x)) (is_rint_kind (heard_of x) || v.interrupted) v.enquired
    ((is_leave x && v.interrupted) || v.may_receive)

record Answers (x : MasterAct) (m : Master) (v : Reversal) (b : MasterAnswer) : Type 0 where
  order : follows v.may_receive m b.acted.send b.acted.master ≡ true
  stays : b.reversal ≡ kept b.acted.master b.acted.send (noting x v)

module _ (m : Master) (v : Reversal) where
  answered : (x : MasterAct) (w : Reversal) (a : MasterActed) → w ≡ noting x v → follows v.may_receive m a.send a.master ≡ true
      → Answers x m v (answer_of w a)
  unfolding answer_of
  answered x w a e f = record { order = f; stays = ap (kept a.master a.send) e }

  noted_noting : (r : Response) → noted r v ≡ noting (reply r) v
  noted_noting (Ack n) = refl
  noted_noting Nak = refl
  noted_noting Eot = refl
  noted_noting Damaged = refl
  noted_noting Rint = refl

  leave_noting : (b : Bool) → v.interrupted ≡ b → reversal v.last v.interrupted v.enquired (b || v.may_receive) ≡ noting may_receive v
  leave_noting b e = ap (λ (i : Bool). reversal v.last v.interrupted v.enquired (i || v.may_receive)) (sym e)

start_follows : (may : Bool) (n size : ℕ) (m : Master) → follows may m (start_of n size m).send (start_of n size m).master ≡ true
unfolding start_of
start_follows may n size m =
    cond_ind (λ (a : MasterActed). follows may m a.send a.master ≡ true) (leb 1 size) _ _ (λ f. now m) (λ f. same may m Nothing)
  where
    now : (m : Master) → follows may m (start_now n size m).send (start_now n size m).master ≡ true
    now (Closed c) = refl
    now (Idle c) = refl
    now (Waiting o) = same may (Waiting o) Nothing

act_answers : (x : MasterAct) (m : Master) (v : Reversal) → valid_master m ≡ true → Answers x m v (master_act_of x (master_state m v))
unfolding timer_a_of close_of enquire_of may_receive_of reversed_of answer_of Follows
act_answers (start n size) m v h = answered m v (start n size) v _ refl (start_follows v.may_receive n size m)
act_answers (reply r) m v h =
    let may = v.may_receive in
    let a = master_reply_of (refuses_rint v) r m in
    answered m v (reply r) (noted r v) _ (noted_noting m v r)
    (cond_ind (λ (z : MasterActed). follows may m z.send z.master ≡ true) (may && is_acknowledged a.progress) _ a (λ e. refl)
    (reply_follows may (refuses_rint v) r m h))
act_answers timer m v h = answered m v timer v _ refl (again m h)
  where
    again : (m : Master) → valid_master m ≡ true → follows v.may_receive m (timer_a_of m).send (timer_a_of m).master ≡ true
    again (Closed c) e = refl
    again (Idle c) e = refl
    again (Waiting o) e = rw e (resend_follows v.may_receive o)
act_answers close (Closed c) v h = answered (Closed c) v close v _ refl refl
act_answers close (Idle c) v h = answered (Idle c) v close v _ refl refl
act_answers close (Waiting o) v h = answered (Waiting o) v close v _ refl (same v.may_receive (Waiting o) Nothing)
act_answers enquire (Closed c) v h = answered (Closed c) v enquire v _ refl refl
act_answers enquire (Idle c) v h = answered (Idle c) v enquire v _ refl refl
act_answers enquire (Waiting o) v h = answered (Waiting o) v enquire v _ refl (rw h (same v.may_receive (Waiting o) SendEnq))
act_answers may_receive m v h =
    cond_ind (Answers may_receive m v) v.interrupted _ _ (λ e. leaves m h e)
    (λ e. answered m v may_receive v _ (leave_noting m v false e) (same v.may_receive m Nothing))
  where
    leaves : (m : Master) → valid_master m ≡ true → v.interrupted ≡ true → Answers may_receive m v (may_receive_now m v)
    leaves (Closed c) f e = record { order = refl; stays = refl }
    leaves (Idle c) f e = record { order = refl; stays = refl }
    leaves (Waiting o) f e = rw f (answered (Waiting o) v may_receive _ _ (leave_noting (Waiting o) v true e) (same v.may_receive (Waiting o) Nothing))

-- ---- what was heard, while the master is open
open_before : (may : Bool) (m : Master) (t : Transmission) (n : Master) → follows may m t n ≡ true → is_open n ≡ true → is_open m ≡ true
open_before may m t (Closed d) f e = absurd (true≢false (sym e))
open_before may (Closed c) t (Idle d) f e = f
open_before may (Closed c) t (Waiting p) f e = f
open_before may (Idle c) t (Idle d) f e = refl
open_before may (Idle c) t (Waiting p) f e = refl
open_before may (Waiting o) t (Idle d) f e = refl
open_before may (Waiting o) t (Waiting p) f e = refl

kept_last : (m : Master) (t : Transmission) (v : Reversal) → is_open m ≡ true → (kept m t v).last ≡ v.last
kept_last (Closed c) t v e = absurd (true≢false (sym e))
kept_last (Idle c) t v e = refl
kept_last (Waiting o) t v e = refl

kept_interrupted : (m : Master) (t : Transmission) (v : Reversal) → is_open m ≡ true → (kept m t v).interrupted ≡ v.interrupted
kept_interrupted (Closed c) t v e = absurd (true≢false (sym e))
kept_interrupted (Idle c) t v e = refl
kept_interrupted (Waiting o) t v e = refl

-- the newest act of a run
module _ (x : MasterAct) (xs : List MasterAct) where
  abbrev before : MasterState
  before = master_after xs

  abbrev answer : MasterAnswer
  answer = master_act_of x (master_after xs)

  answers : Answers x before.master before.reversal answer
  answers = act_answers x before.master before.reversal (reachable xs)

  -- no act opens
  was_open : is_open answer.acted.master ≡ true → is_open before.master ≡ true
  was_open = open_before before.reversal.may_receive before.master answer.acted.send answer.acted.master answers.order

  last_then : is_open answer.acted.master ≡ true → answer.reversal.last ≡ (noting x before.reversal).last
  last_then e = ap (λ (v : Reversal). v.last) answers.stays ∙ kept_last answer.acted.master answer.acted.send (noting x before.reversal) e

  interrupted_then : is_open answer.acted.master ≡ true → answer.reversal.interrupted ≡ (noting x before.reversal).interrupted
  interrupted_then e =
      ap (λ (v : Reversal). v.interrupted) answers.stays
      ∙ kept_interrupted answer.acted.master answer.acted.send (noting x before.reversal) e

  -- with a block out all of it stays
  out_then : (p : Outstanding) → answer.acted.master ≡ Waiting p → answer.reversal ≡ kept (Waiting p) answer.acted.send (noting x before.reversal)
  out_then p e = answers.stays ∙ ap (λ (m : Master). kept m answer.acted.send (noting x before.reversal)) e

  order_then : (p : Outstanding) → answer.acted.master ≡ Waiting p
      → follows before.reversal.may_receive before.master answer.acted.send (Waiting p) ≡ true
  order_then p e = ap (follows before.reversal.may_receive before.master answer.acted.send) (sym e) ∙ answers.order

pub last_told : (xs : List MasterAct) → is_open (master_after xs).master ≡ true → (master_after xs).reversal.last ≡ last_heard xs
unfolding master_after answer_of last_heard
last_told [] e = refl
last_told (x ∷ xs) e = last_then x xs e ∙ ap (λ (k : ReplyKind). cond (is_none_yet (heard_of x)) k (heard_of x)) (last_told xs (was_open x xs e))

pub interrupted_told : (xs : List MasterAct) → is_open (master_after xs).master ≡ true → (master_after xs).reversal.interrupted ≡ rint_heard xs
unfolding master_after answer_of rint_heard
interrupted_told [] e = refl
interrupted_told (x ∷ xs) e = interrupted_then x xs e ∙ ap (◌||◌ (is_rint_kind (heard_of x))) (interrupted_told xs (was_open x xs e))

-- ---- with a block out, what was sent last
enq_sent : (t : Transmission) (b c : Bool) → (is_nothing t ≡ true → b ≡ c) → enq_last t b ≡ cond (is_nothing t) c (is_enq t)
enq_sent Nothing b c f = f refl
enq_sent (SendBlock p) b c f = refl
enq_sent SendEot b c f = refl
enq_sent SendEnq b c f = refl

-- a block that came out was sent
was_out : (may : Bool) (m : Master) (t : Transmission) (p : Outstanding) (P : Type 0) → follows may m t (Waiting p) ≡ true → is_nothing t ≡ true
    → ((o : Outstanding) → m ≡ Waiting o → P) → P
was_out may (Closed c) t p P f n k = absurd (true≢false (sym f))
was_out may (Idle c) t p P f n k = absurd (true≢false (sym n ∙ not-true (is_nothing t) f))
was_out may (Waiting o) t p P f n k = k o refl

pub enquired_told : (xs : List MasterAct) (o : Outstanding) → (master_after xs).master ≡ Waiting o
    → (master_after xs).reversal.enquired ≡ enq_sent_last (answers_of xs)
unfolding master_after answers_of answer_of enq_sent_last
enquired_told [] o e = refl
enquired_told (x ∷ xs) o e =
    let t = (master_act_of x (master_after xs)).acted.send in
    let v = (master_after xs).reversal in
    ap (λ (w : Reversal). w.enquired) (out_then x xs o e)
    ∙ enq_sent t v.enquired (enq_sent_last (answers_of xs))
    (λ n. was_out v.may_receive (master_after xs).master t o (v.enquired ≡ enq_sent_last (answers_of xs)) (order_then x xs o e) n (enquired_told xs))

-- a RINT with a block out is no acceptance exactly if the history says so
pub rint_refused_lem : (xs : List MasterAct) (o : Outstanding) → (master_after xs).master ≡ Waiting o → refuses_rint (master_after xs).reversal ≡ rint_refused xs
rint_refused_lem xs o e = rw (last_told xs (ap is_open e), enquired_told xs o e) (by_kind (last_heard xs) (enq_sent_last (answers_of xs)))
  where
    by_kind : (k : ReplyKind) (enq : Bool) → refuses_by k enq ≡ (is_rint_kind k || (is_nak_kind k && enq))
    by_kind NoneYet enq = refl
    by_kind AckKind enq = refl
    by_kind NakKind enq = refl
    by_kind RintKind enq = refl

-- ---- the leave, while the block is out
not_out : (count : ℕ) (xs : List MasterAct) → is_out count (master_after xs).master ≡ false → leave_given count xs ≡ false
unfolding leave_given
not_out count [] e = refl
not_out count (x ∷ xs) e = rw e

module _ (xs : List MasterAct) (t : Transmission) (p : Outstanding) where
  -- another block than before, and one after none, has no leave yet
  may_before : (m : Master) (v : Reversal) → reversal_fits m v ≡ true → follows v.may_receive m t (Waiting p) ≡ true
      → (is_out p.count m ≡ false → leave_given p.count xs ≡ false)
      → ((o : Outstanding) → m ≡ Waiting o → v.may_receive ≡ leave_given o.count xs) → v.may_receive ≡ leave_given p.count xs
  may_before (Closed c) v h f n k = absurd (true≢false (sym f))
  may_before (Idle c) v h f n k =
      not-true v.may_receive (and_right (not v.enquired) _ (and_right (heard v.last v.interrupted c 0) _ h)) ∙ sym (n refl)
  may_before (Waiting o) v h f n k = go (eqb o.count p.count) refl f
    where
      go : (b : Bool) → eqb o.count p.count ≡ b → (b || not v.may_receive) ≡ true → v.may_receive ≡ leave_given p.count xs
      go true e g = k o refl ∙ ap (λ (c : ℕ). leave_given c xs) (eqb-true o.count p.count e)
      go false e g = not-true v.may_receive g ∙ sym (n e)

pub leave_told : (xs : List MasterAct) (o : Outstanding) → (master_after xs).master ≡ Waiting o
    → (master_after xs).reversal.may_receive ≡ leave_given o.count xs
unfolding master_after answer_of leave_given
leave_told [] o e = refl
leave_told (x ∷ xs) o e =
    let v = (master_after xs).reversal in
    let t = (master_act_of x (master_after xs)).acted.send in
    let came = interrupted_told xs (was_open x xs (ap is_open e)) in
    let may = may_before xs t o (master_after xs).master v (fits_after xs) (order_then x xs o e) (not_out o.count xs) (leave_told xs) in
    ap (λ (w : Reversal). w.may_receive) (out_then x xs o e)
    ∙ rw (e, eq-eqb o.count o.count refl, came, may)

-- leave is refused exactly if the master is closed or no RINT was heard
pub leave_refused : (xs : List MasterAct)
    → (may_receive_of (master_after xs)).acted.refusal ≡ cond (is_open (master_after xs).master && rint_heard xs) 0 11
unfolding may_receive_of answer_of
leave_refused xs = go (master_after xs).master (master_after xs).reversal (reachable xs) (interrupted_told xs)
  where
    either : (b : Bool) (x y : MasterAnswer) → x.acted.refusal ≡ 0 → y.acted.refusal ≡ 11 → (cond b x y).acted.refusal ≡ cond b 0 11
    either true x y e f = e
    either false x y e f = f

    go : (m : Master) (v : Reversal) → valid_master m ≡ true → (is_open m ≡ true → v.interrupted ≡ rint_heard xs)
        → (may_receive_of (master_state m v)).acted.refusal ≡ cond (is_open m && rint_heard xs) 0 11
    go (Closed c) v h f = cond_ind (λ (a : MasterAnswer). a.acted.refusal ≡ 11) v.interrupted _ _ (λ e. refl) (λ e. refl)
    go (Idle c) v h f = rw (f refl) (either (rint_heard xs) _ _ refl refl)
    go (Waiting o) v h f = rw (f refl) (either (rint_heard xs) _ _ (rw h) refl)
