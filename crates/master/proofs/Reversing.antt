-- 02, §14, at the master: what a RINT, the enquiry and the leave to receive do, and what they leave as it was.
use mathlib.Core.Path.{◌≡◌, refl, sym, ap, ◌∙◌}
use mathlib.Core.Bool.{Bool, true, false, cond, not, ◌&&◌, and-false, true≢false}
use Prim.Native.Nat.{ℕ, ◌+◌}
use lib.Dec.{leb, eqb}
use borrow.Author.Tests.{eq-eqb, not-true}
use Rattle.lists.specs.Bytes.{greatest_word}
use Rattle.lists.proofs.Tests.{cond_ind, and_left, and_right}
use Rattle.station.specs.Station.{precedes}
use Rattle.station.specs.declared.ReplyKind.{ReplyKind}
use Rattle.station.specs.declared.ReplyKind.TheVariants.{NoneYet, Ack as AckKind, Nak as NakKind, Rint as RintKind}
use Rattle.master.specs.Master.{block_number, valid_outstanding, valid_master, is_last, master_acted, unchanged, refused_master, resend_of, acknowledged_of, accepted_of, ack_of, waiting_reply, start_now, start_of, master_reply_of, timer_a_of, close_of}
use Rattle.master.specs.Reversal.{reversal, fresh_reversal, master_state, refuses_rint, noted, kept, answer_of, is_acknowledged, count_in, reversed_of, reply_answer, enquire_of, enquire_answer, allowed, may_receive_now, may_receive_of, is_none_yet, heard, reversal_fits}
use Rattle.master.specs.declared.Outstanding.{Outstanding}
use Rattle.master.specs.declared.Master.{Master}
use Rattle.master.specs.declared.Master.TheVariants.{Closed, Idle, Waiting}
use Rattle.master.specs.declared.Response.{Response}
use Rattle.master.specs.declared.Response.TheVariants.{Ack, Nak, Eot, Damaged, Rint}
use Rattle.master.specs.declared.Transmission.TheVariants.{Nothing, SendEot, SendEnq}
use Rattle.master.specs.declared.Progress.TheVariants.{NoProgress, Acknowledged, Done}
use Rattle.master.specs.declared.End.{End}
use Rattle.master.specs.declared.End.TheVariants.{NotEnded, Failed, BySlave, ByDriver, Reversed}
use Rattle.master.specs.declared.Reversal.{Reversal}
use Rattle.master.specs.declared.MasterState.{MasterState}
use Rattle.master.specs.declared.MasterActed.{MasterActed}
use Rattle.master.specs.declared.MasterAnswer.{MasterAnswer}
use Rattle.master.specs.MasterHistory.{MasterAct, start, reply, timer, close, enquire, may_receive, master_act_of, state_then}

-- ---- "when its driver says it may receive, ends with EOT when the block out is accepted"
abbrev pub is_reversed : End → Bool
is_reversed NotEnded = false
is_reversed Failed = false
is_reversed BySlave = false
is_reversed ByDriver = false
is_reversed Reversed = true

-- what tells of an acknowledgement: a block was out, the count is one more, and the message is done with its last block
record Acknowledges (m : Master) (a : MasterActed) : Type 0 where
  out : Outstanding
  was : m ≡ Waiting out
  counted : count_in a.master ≡ out.count + 1
  told : a.progress ≡ cond (is_last out) Done Acknowledged

-- §3's answers to a reply: none is reversed, and none refused from a master
record Plain (m : Master) (a : MasterActed) : Type 0 where
  unreversed : is_reversed a.end ≡ false
  taken : valid_master m ≡ true → a.refusal ≡ 0
  acknowledges : is_acknowledged a.progress ≡ true → Acknowledges m a

-- an answer without an acknowledgement
quiet : (m : Master) (a : MasterActed) → is_reversed a.end ≡ false → is_acknowledged a.progress ≡ false → (valid_master m ≡ true → a.refusal ≡ 0) → Plain m a
quiet m a e f g = record { unreversed = e; taken = g; acknowledges = λ h. absurd (true≢false (sym h ∙ f)) }

module _ (o : Outstanding) where
  resend_plain : Plain (Waiting o) (resend_of o)
  unfolding resend_of
  resend_plain = cond_ind (Plain (Waiting o)) (leb 5 o.resends) _ _ (λ f. quiet _ _ refl refl (λ g. refl)) (λ f. quiet _ _ refl refl (λ g. refl))

  accepted_plain : Plain (Waiting o) (accepted_of o)
  unfolding accepted_of acknowledged_of
  accepted_plain =
      cond_ind (Plain (Waiting o)) (eqb o.count greatest_word) _ _ (λ f. quiet _ _ refl refl (λ g. refl))
      (λ f. cond_ind (Plain (Waiting o)) (is_last o) _ _
      (λ last. record { unreversed = refl; taken = λ g. refl; acknowledges = λ g. record { out = o; was = refl; counted = refl; told = rw last } })
      (λ last. record { unreversed = refl; taken = λ g. refl; acknowledges = λ g. record { out = o; was = refl; counted = refl; told = rw last } }))

  waiting_plain : (refuses : Bool) (r : Response) → Plain (Waiting o) (waiting_reply refuses r o)
  unfolding ack_of
  waiting_plain refuses (Ack n) =
      cond_ind (Plain (Waiting o)) (eqb n (block_number o.count)) _ _ (λ f. accepted_plain)
      (λ f. cond_ind (Plain (Waiting o)) (precedes n (block_number o.count)) _ _ (λ g. resend_plain) (λ g. quiet _ _ refl refl (λ h. refl)))
  waiting_plain refuses Nak = resend_plain
  waiting_plain refuses Eot = quiet _ _ refl refl (λ g. refl)
  waiting_plain refuses Damaged = quiet _ _ refl refl (λ g. refl)
  waiting_plain refuses Rint = cond_ind (Plain (Waiting o)) refuses _ _ (λ f. resend_plain) (λ f. accepted_plain)

reply_plain : (refuses : Bool) (r : Response) (m : Master) → Plain m (master_reply_of refuses r m)
unfolding master_reply_of
reply_plain refuses r (Closed count) = quiet _ _ refl refl (λ g. refl)
reply_plain refuses (Ack n) (Idle count) = quiet _ _ refl refl (λ g. refl)
reply_plain refuses Nak (Idle count) = quiet _ _ refl refl (λ g. refl)
reply_plain refuses Eot (Idle count) = quiet _ _ refl refl (λ g. refl)
reply_plain refuses Damaged (Idle count) = quiet _ _ refl refl (λ g. refl)
reply_plain refuses Rint (Idle count) = quiet _ _ refl refl (λ g. refl)
reply_plain refuses r (Waiting o) =
    cond_ind (Plain (Waiting o)) (valid_outstanding o) _ _ (λ f. waiting_plain o refuses r) (λ f. quiet _ _ refl refl (λ g. absurd (true≢false (sym g ∙ f))))

-- a reply ends by turning the line round exactly if leave was given and the block out is acknowledged
pub reversed_exactly : (r : Response) (s : MasterState)
    → is_reversed (reply_answer r s).acted.end ≡ (s.reversal.may_receive && is_acknowledged (reply_answer r s).acted.progress)
unfolding reversed_of answer_of
reversed_exactly r s =
    let a = master_reply_of (refuses_rint s.reversal) r s.master in
    let may = s.reversal.may_receive in
    cond_ind (λ (z : MasterActed). is_reversed z.end ≡ (may && is_acknowledged z.progress)) (may && is_acknowledged a.progress) _ a
    (λ e. sym e) (λ e. (reply_plain (refuses_rint s.reversal) r s.master).unreversed ∙ sym e)

-- then EOT is sent, the acknowledged block is counted, and nothing is kept
pub record ReversedFrom (s : MasterState) (a : MasterAnswer) : Type 0 where
  pub out : Outstanding
  pub was : s.master ≡ Waiting out
  pub send : a.acted.send ≡ SendEot
  pub master : a.acted.master ≡ Closed (out.count + 1)
  pub progress : a.acted.progress ≡ cond (is_last out) Done Acknowledged
  pub reversal : a.reversal ≡ fresh_reversal

pub reversed_from : (r : Response) (s : MasterState) → is_reversed (reply_answer r s).acted.end ≡ true → ReversedFrom s (reply_answer r s)
unfolding reversed_of answer_of
reversed_from r s =
    let a = master_reply_of (refuses_rint s.reversal) r s.master in
    let p = reply_plain (refuses_rint s.reversal) r s.master in
    cond_ind (λ (z : MasterActed). is_reversed z.end ≡ true → ReversedFrom s (answer_of (noted r s.reversal) z))
    (s.reversal.may_receive && is_acknowledged a.progress) _ a
    (λ e g. let k = p.acknowledges (and_right s.reversal.may_receive _ e) in
    record { out = k.out; was = k.was; send = refl; master = ap Closed k.counted; progress = k.told; reversal = refl })
    (λ e g. absurd (true≢false (sym g ∙ p.unreversed)))

-- ---- "RINT .. as acceptance": as the ACK with the block's number; "no acceptance": as a NAK. What is noted differs.
pub accepted_rint : (s : MasterState) → refuses_rint s.reversal ≡ false
    → (reply_answer Rint s).acted ≡ (reply_answer (Ack (block_number (count_in s.master))) s).acted
unfolding master_reply_of ack_of answer_of
accepted_rint s h = ap (reversed_of s.reversal) (go s.master)
  where
    go : (m : Master) → master_reply_of (refuses_rint s.reversal) Rint m ≡ master_reply_of (refuses_rint s.reversal) (Ack (block_number (count_in m))) m
    go (Closed count) = refl
    go (Idle count) = refl
    go (Waiting o) = rw (h, eq-eqb (block_number o.count) (block_number o.count) refl)

pub refused_rint : (s : MasterState) → refuses_rint s.reversal ≡ true → (reply_answer Rint s).acted ≡ (reply_answer Nak s).acted
unfolding master_reply_of answer_of
refused_rint s h = ap (reversed_of s.reversal) (go s.master)
  where
    go : (m : Master) → master_reply_of (refuses_rint s.reversal) Rint m ≡ master_reply_of (refuses_rint s.reversal) Nak m
    go (Closed count) = refl
    go (Idle count) = refl
    go (Waiting o) = rw h

-- ---- which RINT: after a RINT, and after a NAK and an enquiry
abbrev pub is_open : Master → Bool
is_open (Closed count) = false
is_open (Idle count) = true
is_open (Waiting o) = true

pub rint_after_rint : (s : MasterState) → is_open (reply_answer Rint s).acted.master ≡ true → refuses_rint (reply_answer Rint s).reversal ≡ true
unfolding answer_of
rint_after_rint s h = go (reply_answer Rint s).acted h
  where
    go : (a : MasterActed) → is_open a.master ≡ true → refuses_rint (kept a.master a.send (noted Rint s.reversal)) ≡ true
    go a = by_master a.master
      where
        by_master : (m : Master) → is_open m ≡ true → refuses_rint (kept m a.send (noted Rint s.reversal)) ≡ true
        by_master (Closed count) e = absurd (true≢false (sym e))
        by_master (Idle count) e = refl
        by_master (Waiting o) e = refl

pub rint_after_enquiry : (o : Outstanding) (v : Reversal) → valid_outstanding o ≡ true → v.last ≡ NakKind
    → refuses_rint (enquire_answer (master_state (Waiting o) v)).reversal ≡ true
unfolding enquire_of answer_of
rint_after_enquiry o v h e = rw (h, e)

-- ---- what is left as it was. With nothing sent a state whose parts go together stays, and the answer is the act's.
none_yet : (k : ReplyKind) → is_none_yet k ≡ true → k ≡ NoneYet
none_yet NoneYet e = refl
none_yet AckKind e = absurd (true≢false (sym e))
none_yet NakKind e = absurd (true≢false (sym e))
none_yet RintKind e = absurd (true≢false (sym e))

by_parts : (k j : ReplyKind) (came i enq may : Bool) → k ≡ j → came ≡ i → not enq ≡ true → not may ≡ true → reversal j i false false ≡ reversal k came enq may
by_parts k j came i enq may e f g h = rw (e, f, not-true enq g, not-true may h)

kept_same : (m : Master) (v : Reversal) → reversal_fits m v ≡ true → kept m Nothing v ≡ v
kept_same (Closed count) v h =
    let first = and_left (is_none_yet v.last && not v.interrupted) _ h in
    let rest = and_right (is_none_yet v.last && not v.interrupted) _ h in
    by_parts v.last NoneYet v.interrupted false v.enquired v.may_receive
    (none_yet v.last (and_left (is_none_yet v.last) _ first)) (not-true v.interrupted (and_right (is_none_yet v.last) _ first))
    (and_left (not v.enquired) _ rest) (and_right (not v.enquired) _ rest)
kept_same (Idle count) v h =
    let rest = and_right (heard v.last v.interrupted count 0) _ h in
    by_parts v.last v.last v.interrupted v.interrupted v.enquired v.may_receive refl refl (and_left (not v.enquired) _ rest) (and_right (not v.enquired) _ rest)
kept_same (Waiting o) v h = refl

answer_same : (v : Reversal) (a : MasterActed) → a.send ≡ Nothing → reversal_fits a.master v ≡ true → answer_of v a ≡ record { acted = a; reversal = v }
unfolding answer_of
answer_same v a e h = rw (e, kept_same a.master v h)

reversed_quiet : (v : Reversal) (a : MasterActed) → is_acknowledged a.progress ≡ false → reversed_of v a ≡ a
unfolding reversed_of
reversed_quiet v a e = rw (e, and-false v.may_receive)

-- a refused answer leaves the state equal
Same : Master → Reversal → MasterAnswer → Type 0
Same m v a = (a.acted.refusal ≡ 0 → ⊥) → state_then a ≡ master_state m v

refused : (n : ℕ) (m : Master) (v : Reversal) → reversal_fits m v ≡ true → Same m v (answer_of v (refused_master n m))
unfolding Same
refused n m v h = λ g. ap state_then (answer_same v (refused_master n m) refl h)

taken : (m : Master) (v : Reversal) (a : MasterAnswer) → a.acted.refusal ≡ 0 → Same m v a
unfolding Same
taken m v a e = λ g. absurd (g e)

started : (n size : ℕ) (m : Master) (v : Reversal) → reversal_fits m v ≡ true → Same m v (answer_of v (start_now n size m))
unfolding answer_of
started n size (Closed count) v h = refused 11 (Closed count) v h
started n size (Idle count) v h = taken (Idle count) v _ refl
started n size (Waiting o) v h = refused 11 (Waiting o) v h

act_same : (x : MasterAct) (m : Master) (v : Reversal) → valid_master m ≡ true → reversal_fits m v ≡ true → Same m v (master_act_of x (master_state m v))
unfolding start_of timer_a_of close_of enquire_of may_receive_of reversed_of answer_of
act_same (start n size) m v f h =
    cond_ind (λ (a : MasterActed). Same m v (answer_of v a)) (leb 1 size) _ _ (λ e. started n size m v h) (λ e. refused 1 m v h)
act_same (reply r) m v f h =
    taken m v _ (cond_ind (λ (a : MasterActed). a.refusal ≡ 0) (v.may_receive && is_acknowledged (master_reply_of (refuses_rint v) r m).progress) _ _ (λ e. refl)
    (λ e. (reply_plain (refuses_rint v) r m).taken f))
act_same timer (Closed count) v f h = taken (Closed count) v _ refl
act_same timer (Idle count) v f h = taken (Idle count) v _ refl
act_same timer (Waiting o) v f h = taken (Waiting o) v _ (rw f ((resend_plain o).taken f))
act_same close (Closed count) v f h = refused 11 (Closed count) v h
act_same close (Idle count) v f h = taken (Idle count) v _ refl
act_same close (Waiting o) v f h = refused 11 (Waiting o) v h
act_same enquire (Closed count) v f h = refused 11 (Closed count) v h
act_same enquire (Idle count) v f h = refused 11 (Idle count) v h
act_same enquire (Waiting o) v f h = taken (Waiting o) v _ (rw f)
act_same may_receive m v f h = cond_ind (Same m v) v.interrupted _ _ (λ e. leaves m f h) (λ e. refused 11 m v h)
  where
    leaves : (m : Master) → valid_master m ≡ true → reversal_fits m v ≡ true → Same m v (may_receive_now m v)
    leaves (Closed count) f h = refused 11 (Closed count) v h
    leaves (Idle count) f h = taken (Idle count) v _ refl
    leaves (Waiting o) f h = taken (Waiting o) v _ (rw f)

module _ (s : MasterState) (valid : valid_master s.master ≡ true) (fits : reversal_fits s.master s.reversal ≡ true) where
  -- "damaged replies change nothing"
  pub damaged_nothing : reply_answer Damaged s ≡ record { acted = unchanged s.master; reversal = s.reversal }
  unfolding master_reply_of
  damaged_nothing =
      ap (λ (a : MasterActed). answer_of s.reversal (reversed_of s.reversal a)) (go s.master valid)
      ∙ ap (answer_of s.reversal) (reversed_quiet s.reversal (unchanged s.master) refl)
      ∙ answer_same s.reversal (unchanged s.master) refl fits
    where
      go : (m : Master) → valid_master m ≡ true → master_reply_of (refuses_rint s.reversal) Damaged m ≡ unchanged m
      go (Closed count) h = refl
      go (Idle count) h = refl
      go (Waiting o) h = rw h

  -- an act that is refused leaves the state equal
  pub refused_equal : (x : MasterAct) → ((master_act_of x s).acted.refusal ≡ 0 → ⊥) → state_then (master_act_of x s) ≡ s
  unfolding Same
  refused_equal x = act_same x s.master s.reversal valid fits

-- ---- the enquiry: it is sent, and else nothing changes; "11 for .. ENQ with no block out"
module _ (v : Reversal) where
  pub enquires : (o : Outstanding) → valid_outstanding o ≡ true
      → enquire_answer (master_state (Waiting o) v)
      ≡ record { acted = master_acted (Waiting o) SendEnq NoProgress NotEnded; reversal = reversal v.last v.interrupted true v.may_receive }
  unfolding enquire_of answer_of
  enquires o h = rw h

  pub enquires_none : (count : ℕ) → (enquire_answer (master_state (Idle count) v)).acted ≡ refused_master 11 (Idle count)
  unfolding enquire_of answer_of
  enquires_none count = refl

  pub enquires_closed : (count : ℕ) → (enquire_answer (master_state (Closed count) v)).acted ≡ refused_master 11 (Closed count)
  unfolding enquire_of answer_of
  enquires_closed count = refl

  -- ---- the leave: "11 for .. leave to receive before a RINT"; "at once if none is out"; with a block out nothing is sent
  pub leave_early : (m : Master) → reversal_fits m v ≡ true → v.interrupted ≡ false
      → may_receive_of (master_state m v) ≡ record { acted = refused_master 11 m; reversal = v }
  unfolding may_receive_of
  leave_early m h e = met_not v.interrupted e ∙ answer_same v (refused_master 11 m) refl h
    where
      met_not : (b : Bool) → b ≡ false → cond b (may_receive_now m v) (answer_of v (refused_master 11 m)) ≡ answer_of v (refused_master 11 m)
      met_not b f = rw f

  pub leave_at_once : (count : ℕ) → v.interrupted ≡ true
      → may_receive_of (master_state (Idle count) v) ≡ record { acted = master_acted (Closed count) SendEot NoProgress Reversed; reversal = fresh_reversal }
  unfolding may_receive_of answer_of
  leave_at_once count e = rw e

  pub leave_waits : (o : Outstanding) → valid_outstanding o ≡ true → v.interrupted ≡ true
      → may_receive_of (master_state (Waiting o) v) ≡ record { acted = unchanged (Waiting o); reversal = allowed v }
  unfolding may_receive_of answer_of
  leave_waits o h e = rw (e, h)

-- closed, no RINT came
pub closed_uninterrupted : (count : ℕ) (v : Reversal) → reversal_fits (Closed count) v ≡ true → v.interrupted ≡ false
closed_uninterrupted count v h = not-true v.interrupted (and_right (is_none_yet v.last) _ (and_left (is_none_yet v.last && not v.interrupted) _ h))

-- leave that is given twice is given once
pub leave_twice : (s : MasterState) → valid_master s.master ≡ true → reversal_fits s.master s.reversal ≡ true
    → state_then (may_receive_of (state_then (may_receive_of s))) ≡ state_then (may_receive_of s)
leave_twice s valid fits = go s.master s.reversal s.reversal.interrupted refl valid fits
  where
    twice : (s : MasterState) (a b : MasterAnswer) → may_receive_of s ≡ a → may_receive_of (state_then a) ≡ b → state_then b ≡ state_then a
        → state_then (may_receive_of (state_then (may_receive_of s))) ≡ state_then (may_receive_of s)
    twice s a b e f g = ap (λ (z : MasterAnswer). state_then (may_receive_of (state_then z))) e ∙ ap state_then f ∙ g ∙ sym (ap state_then e)

    go : (m : Master) (v : Reversal) (came : Bool) → v.interrupted ≡ came → valid_master m ≡ true → reversal_fits m v ≡ true
        → state_then (may_receive_of (state_then (may_receive_of (master_state m v)))) ≡ state_then (may_receive_of (master_state m v))
    go m v false e h f = twice (master_state m v) _ _ (leave_early v m f e) (leave_early v m f e) refl
    go (Closed count) v true e h f = absurd (true≢false (sym e ∙ closed_uninterrupted count v f))
    go (Idle count) v true e h f = twice (master_state (Idle count) v) _ _ (leave_at_once v count e) (leave_early fresh_reversal (Closed count) refl refl) refl
    go (Waiting o) v true e h f = twice (master_state (Waiting o) v) _ _ (leave_waits v o h e) (leave_waits (allowed v) o h e) refl
