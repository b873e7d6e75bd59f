-- How an opening ends, and when the count is exact.
use mathlib.Core.Path.{◌≡◌, refl, sym, ◌∙◌, subst}
use mathlib.Core.List.{List, ◌∷◌, ◌++◌}
use mathlib.Core.Bool.{Bool, true, false, true≢false}
use Prim.Native.Nat.{ℕ, suc, ◌+◌, ◌≤◌}
use native.Mathlib.Omega.{arith}
use lib.ListN.{length}
use lib.Dec.{leb, eqb}
use Rattle.lists.specs.Bytes.{greatest_word}
use Rattle.lists.proofs.Tests.{cond_ind}
use Rattle.station.specs.Station.{precedes}
use Rattle.station.specs.History.{Block, messages_of}
use Rattle.master.specs.Master.{outstanding, block_number, valid_outstanding, is_last, unchanged, refused_master, resent, resend_of, next_out, acknowledged_of, accepted_of, ack_of, waiting_reply, idle_reply, start_now, start_of, master_reply_of, timer_a_of, close_of}
use Rattle.master.specs.Reversal.{answer_of, is_acknowledged, reversed_of, enquire_of, may_receive_now, may_receive_of, master_state, count_in}
use Rattle.master.specs.declared.Reversal.{Reversal}
use Rattle.master.specs.declared.MasterAnswer.{MasterAnswer}
use Rattle.master.specs.declared.Outstanding.{Outstanding}
use Rattle.master.specs.declared.Master.{Master}
use Rattle.master.specs.declared.Master.TheVariants.{Closed, Idle, Waiting}
use Rattle.master.specs.declared.Response.{Response}
use Rattle.master.specs.declared.Response.TheVariants.{Ack, Nak, Eot, Damaged, Rint}
use Rattle.master.specs.declared.End.{End}
use Rattle.master.specs.declared.End.TheVariants.{NotEnded, Failed, BySlave, ByDriver, Reversed}
use Rattle.master.specs.declared.MasterActed.{MasterActed}
use Rattle.station_link.specs.System.{Started, first_sent, resends_told, done_after, end_after}
use Rattle.station_link.proofs.Queues.{Fine, fine}
use Rattle.station_link.proofs.MasterSteps.{gone_on, reversed_when, not_reversed, resend_plain, idle_plain}

abbrev pub is_closed : Master → Bool
is_closed (Closed count) = true
is_closed (Idle count) = false
is_closed (Waiting o) = false

-- what is known of an opening that was reported to end so; `eots` says whether an EOT was put on the line back
abbrev pub Told : End → Master → List Block → ℕ → Bool → Type 0
Told NotEnded m sent d eots = is_closed m ≡ false
Told Failed m sent d eots = is_closed m ≡ true
Told BySlave m sent d eots = (is_closed m ≡ true) × (eots ≡ true)
Told ByDriver m sent d eots = (is_closed m ≡ true) × (length sent ≡ count_in m)
Told Reversed m sent d eots = (is_closed m ≡ true) × ((length sent ≡ count_in m) × (length (messages_of sent) ≡ d))

-- with no block out, as many blocks were sent as counted, and with one out one more; and the messages in them are done, but for the one that the last block completes
abbrev pub Idled : Master → List Block → ℕ → Type 0
Idled (Closed count) sent d = Fine
Idled (Idle count) sent d = (length sent ≡ count) × (length (messages_of sent) ≡ d)
Idled (Waiting o) sent d = (length sent ≡ o.count + 1) × ((is_last o ≡ true → length (messages_of sent) ≡ suc d) × (is_last o ≡ false → length (messages_of sent) ≡ d))

open_not-ended : (e : End) (m : Master) (sent : List Block) (d : ℕ) (eots : Bool) → Told e m sent d eots → is_closed m ≡ false → e ≡ NotEnded
open_not-ended NotEnded m sent d eots t h = refl
open_not-ended Failed m sent d eots t h = absurd (true≢false (sym t ∙ h))
open_not-ended BySlave m sent d eots t h = absurd (true≢false (sym t.0 ∙ h))
open_not-ended ByDriver m sent d eots t h = absurd (true≢false (sym t.0 ∙ h))
open_not-ended Reversed m sent d eots t h = absurd (true≢false (sym t.0 ∙ h))

module _ (message : List ℕ) (e : End) (sent : List Block) (d : ℕ) (eots : Bool) where
  -- after an answer
  abbrev pub ToldAfter : MasterActed → Type 0
  ToldAfter a = Told (end_after a.end e) a.master (first_sent message a.send (resends_told a.master) ++ sent) (done_after a.progress d) eots

  -- an answer by which the master stays open
  still_open : (m : Master) (s : List Block) (n : ℕ) → e ≡ NotEnded → is_closed m ≡ false → Told e m s n eots
  still_open m s n h k = rw h k

  resend_told : (o : Outstanding) → e ≡ NotEnded → ToldAfter (resend_of o)
  unfolding resend_of
  resend_told o h = cond_ind ToldAfter (leb 5 o.resends) _ _ (λ g. refl) (λ g. still_open (Waiting (resent o)) _ _ h refl)

  module _ (v : Reversal) (o : Outstanding) (h : e ≡ NotEnded) (out : Idled (Waiting o) sent d) where
    -- an answer that acknowledges nothing
    plain_told : (a : MasterActed) → is_acknowledged a.progress ≡ false → ToldAfter a → ToldAfter (reversed_of v a)
    plain_told a p t = subst ToldAfter (sym (not_reversed v a p)) t

    resend_then_told : ToldAfter (reversed_of v (resend_of o))
    resend_then_told = plain_told (resend_of o) (resend_plain o) (resend_told o h)

    go_on_told : ToldAfter (reversed_of v (acknowledged_of o))
    unfolding acknowledged_of reversed_of
    go_on_told = go v.may_receive (is_last o) refl
      where
        go : (may last : Bool) → is_last o ≡ last → ToldAfter (reversed_when may (gone_on last o))
        go true true l = (refl, (out.0, out.1.0 l))
        go true false l = (refl, (out.0, out.1.1 l))
        go false true l = still_open (Idle (o.count + 1)) _ _ h refl
        go false false l = still_open (Waiting (next_out o)) _ _ h refl

    same_told : ToldAfter (reversed_of v (unchanged (Waiting o)))
    same_told = plain_told (unchanged (Waiting o)) refl (still_open (Waiting o) _ _ h refl)

    accept_told : ToldAfter (reversed_of v (accepted_of o))
    unfolding accepted_of
    accept_told = cond_ind (λ (a : MasterActed). ToldAfter (reversed_of v a)) (eqb o.count greatest_word) _ _ (λ g. same_told) (λ g. go_on_told)

    ack_told : (n : ℕ) → ToldAfter (reversed_of v (ack_of n o))
    unfolding ack_of
    ack_told n =
        cond_ind (λ (a : MasterActed). ToldAfter (reversed_of v a)) (eqb n (block_number o.count)) _ _ (λ g. accept_told)
        (λ g. cond_ind (λ (a : MasterActed). ToldAfter (reversed_of v a)) (precedes n (block_number o.count)) _ _ (λ x. resend_then_told) (λ x. same_told))

    waiting_told : (refuses : Bool) (q : Response) → (q ≡ Eot → eots ≡ true) → ToldAfter (reversed_of v (waiting_reply refuses q o))
    waiting_told refuses (Ack n) f = ack_told n
    waiting_told refuses Nak f = resend_then_told
    waiting_told refuses Eot f = plain_told _ refl (refl, f refl)
    waiting_told refuses Damaged f = same_told
    waiting_told true Rint f = resend_then_told
    waiting_told false Rint f = accept_told

  pub timer_told : (m : Master) → Told e m sent d eots → ToldAfter (timer_a_of m)
  unfolding timer_a_of
  timer_told (Closed a) t = t
  timer_told (Idle a) t = t
  timer_told (Waiting o) t =
      cond_ind ToldAfter (valid_outstanding o) _ _ (λ h. resend_told o (open_not-ended e (Waiting o) sent d eots t refl)) (λ h. t)

  pub close_told : (m : Master) → Idled m sent d → Told e m sent d eots → ToldAfter (close_of m)
  unfolding close_of
  close_told (Closed a) i t = t
  close_told (Idle a) i t = (refl, i.0)
  close_told (Waiting o) i t = t

  pub enquire_told : (m : Master) → Told e m sent d eots → ToldAfter (enquire_of m)
  unfolding enquire_of
  enquire_told (Closed a) t = t
  enquire_told (Idle a) t = t
  enquire_told (Waiting o) t = cond_ind ToldAfter (valid_outstanding o) _ _ (λ h. t) (λ h. t)

  may_told_now : (m : Master) (v : Reversal) → Idled m sent d → Told e m sent d eots → ToldAfter (may_receive_now m v).acted
  unfolding answer_of
  may_told_now (Closed a) v i t = t
  may_told_now (Idle a) v i t = (refl, i)
  may_told_now (Waiting o) v i t = cond_ind (λ (x : MasterAnswer). ToldAfter x.acted) (valid_outstanding o) _ _ (λ h. t) (λ h. t)

  pub may_told : (m : Master) (v : Reversal) → Idled m sent d → Told e m sent d eots → ToldAfter (may_receive_of (master_state m v)).acted
  unfolding may_receive_of answer_of
  may_told m v i t = cond_ind (λ (x : MasterAnswer). ToldAfter x.acted) v.interrupted _ _ (λ h. may_told_now m v i t) (λ h. t)

  idle_told : (a : ℕ) (q : Response) → (q ≡ Eot → eots ≡ true) → Told e (Idle a) sent d eots → ToldAfter (idle_reply q a)
  idle_told a (Ack n) f t = t
  idle_told a Nak f t = t
  idle_told a Eot f t = (refl, f refl)
  idle_told a Damaged f t = t
  idle_told a Rint f t = t

  pub reply_told : (v : Reversal) (refuses : Bool) (m : Master) (q : Response) → (q ≡ Eot → eots ≡ true) → Idled m sent d → Told e m sent d eots → ToldAfter (reversed_of v (master_reply_of refuses q m))
  unfolding master_reply_of
  reply_told v refuses (Closed a) q f i t = subst ToldAfter (sym (not_reversed v (unchanged (Closed a)) refl)) t
  reply_told v refuses (Idle a) q f i t = subst ToldAfter (sym (not_reversed v (idle_reply q a) (idle_plain q a))) (idle_told a q f t)
  reply_told v refuses (Waiting o) q f i t =
      cond_ind (λ (a : MasterActed). ToldAfter (reversed_of v a)) (valid_outstanding o) _ _ (λ h. waiting_told v o (open_not-ended e (Waiting o) sent d eots t refl) i refuses q f)
      (λ h. subst ToldAfter (sym (not_reversed v (refused_master 11 (Waiting o)) refl)) t)

  pub start_told : (m : Master) (n size : ℕ) → Told e m sent d eots → ToldAfter (start_of n size m)
  unfolding start_of
  start_told m n size t = cond_ind ToldAfter (leb 1 size) _ _ (λ h. now m t) (λ h. t)
    where
      now : (m : Master) → Told e m sent d eots → ToldAfter (start_now n size m)
      now (Closed a) t = t
      now (Idle a) t = still_open (Waiting (outstanding n size 0 0 a)) _ _ (open_not-ended e (Idle a) sent d eots t refl) refl
      now (Waiting o) t = t

-- ---- the count never falls
abbrev Grows : ℕ → MasterActed → Type 0
Grows count a = count ≤ count_in a.master

resend_grows : (o : Outstanding) → Grows o.count (resend_of o)
unfolding resend_of
resend_grows o = cond_ind (Grows o.count) (leb 5 o.resends) _ _ (λ h. omega arith) (λ h. omega arith)

module _ (v : Reversal) (o : Outstanding) where
  plain_grows : (a : MasterActed) → is_acknowledged a.progress ≡ false → Grows o.count a → Grows o.count (reversed_of v a)
  plain_grows a p t = subst (Grows o.count) (sym (not_reversed v a p)) t

  go_on_grows : Grows o.count (reversed_of v (acknowledged_of o))
  unfolding acknowledged_of reversed_of
  go_on_grows = go v.may_receive (is_last o)
    where
      go : (may last : Bool) → Grows o.count (reversed_when may (gone_on last o))
      go true true = omega arith
      go true false = omega arith
      go false true = omega arith
      go false false = omega arith

  resend_then_grows : Grows o.count (reversed_of v (resend_of o))
  resend_then_grows = plain_grows (resend_of o) (resend_plain o) (resend_grows o)

  same_grows : Grows o.count (reversed_of v (unchanged (Waiting o)))
  same_grows = plain_grows (unchanged (Waiting o)) refl (omega arith)

  accept_grows : Grows o.count (reversed_of v (accepted_of o))
  unfolding accepted_of
  accept_grows = cond_ind (λ (a : MasterActed). Grows o.count (reversed_of v a)) (eqb o.count greatest_word) _ _ (λ g. same_grows) (λ g. go_on_grows)

  ack_grows : (n : ℕ) → Grows o.count (reversed_of v (ack_of n o))
  unfolding ack_of
  ack_grows n =
      cond_ind (λ (a : MasterActed). Grows o.count (reversed_of v a)) (eqb n (block_number o.count)) _ _ (λ h. accept_grows)
      (λ h. cond_ind (λ (a : MasterActed). Grows o.count (reversed_of v a)) (precedes n (block_number o.count)) _ _ (λ g. resend_then_grows) (λ g. same_grows))

  waiting_grows : (refuses : Bool) (q : Response) → Grows o.count (reversed_of v (waiting_reply refuses q o))
  waiting_grows refuses (Ack n) = ack_grows n
  waiting_grows refuses Nak = resend_then_grows
  waiting_grows refuses Eot = plain_grows _ refl (omega arith)
  waiting_grows refuses Damaged = same_grows
  waiting_grows true Rint = resend_then_grows
  waiting_grows false Rint = accept_grows

idle_grows : (q : Response) (a : ℕ) → Grows a (idle_reply q a)
idle_grows (Ack n) a = omega arith
idle_grows Nak a = omega arith
idle_grows Eot a = omega arith
idle_grows Damaged a = omega arith
idle_grows Rint a = omega arith

pub reply_grows : (v : Reversal) (refuses : Bool) (q : Response) (m : Master) → Grows (count_in m) (reversed_of v (master_reply_of refuses q m))
unfolding master_reply_of
reply_grows v refuses q (Closed a) = subst (Grows a) (sym (not_reversed v (unchanged (Closed a)) refl)) (omega arith)
reply_grows v refuses q (Idle a) = subst (Grows a) (sym (not_reversed v (idle_reply q a) (idle_plain q a))) (idle_grows q a)
reply_grows v refuses q (Waiting o) =
    cond_ind (λ (a : MasterActed). Grows o.count (reversed_of v a)) (valid_outstanding o) _ _ (λ h. waiting_grows v o refuses q)
    (λ h. subst (Grows o.count) (sym (not_reversed v (refused_master 11 (Waiting o)) refl)) (omega arith))

pub enquire_grows : (m : Master) → Grows (count_in m) (enquire_of m)
unfolding enquire_of
enquire_grows (Closed a) = omega arith
enquire_grows (Idle a) = omega arith
enquire_grows (Waiting o) = cond_ind (Grows o.count) (valid_outstanding o) _ _ (λ h. omega arith) (λ h. omega arith)

may_grows_now : (m : Master) (v : Reversal) → Grows (count_in m) (may_receive_now m v).acted
unfolding answer_of
may_grows_now (Closed a) v = omega arith
may_grows_now (Idle a) v = omega arith
may_grows_now (Waiting o) v = cond_ind (λ (x : MasterAnswer). Grows o.count x.acted) (valid_outstanding o) _ _ (λ h. omega arith) (λ h. omega arith)

pub may_grows : (m : Master) (v : Reversal) → Grows (count_in m) (may_receive_of (master_state m v)).acted
unfolding may_receive_of answer_of
may_grows m v = cond_ind (λ (x : MasterAnswer). Grows (count_in m) x.acted) v.interrupted _ _ (λ h. may_grows_now m v) (λ h. omega arith)

pub timer_grows : (m : Master) → Grows (count_in m) (timer_a_of m)
unfolding timer_a_of
timer_grows (Closed a) = omega arith
timer_grows (Idle a) = omega arith
timer_grows (Waiting o) = cond_ind (Grows o.count) (valid_outstanding o) _ _ (λ h. resend_grows o) (λ h. omega arith)

pub close_grows : (m : Master) → Grows (count_in m) (close_of m)
unfolding close_of
close_grows (Closed a) = omega arith
close_grows (Idle a) = omega arith
close_grows (Waiting o) = omega arith

pub start_grows : (n size : ℕ) (m : Master) → Grows (count_in m) (start_of n size m)
unfolding start_of
start_grows n size m = cond_ind (Grows (count_in m)) (leb 1 size) _ _ (λ h. now m) (λ h. omega arith)
  where
    now : (m : Master) → Grows (count_in m) (start_now n size m)
    now (Closed a) = omega arith
    now (Idle a) = omega arith
    now (Waiting o) = omega arith

-- ---- where the driver closed, all that was started is done
abbrev pub Finished : End → List Started → ℕ → Type 0
Finished NotEnded ms d = Fine
Finished Failed ms d = Fine
Finished BySlave ms d = Fine
Finished ByDriver ms d = d ≡ length ms
Finished Reversed ms d = Fine

-- with no block out all is done
abbrev pub IdleDone : Master → List Started → ℕ → Type 0
IdleDone (Closed count) ms d = Fine
IdleDone (Idle count) ms d = d ≡ length ms
IdleDone (Waiting o) ms d = Fine

module _ (ms : List Started) (d : ℕ) where
  -- an answer to an open master that is not its closing
  abbrev Unclosed : MasterActed → Type 0
  Unclosed a = Finished (end_after a.end NotEnded) ms (done_after a.progress d)

  resend_unclosed : (o : Outstanding) → Unclosed (resend_of o)
  unfolding resend_of
  resend_unclosed o = cond_ind Unclosed (leb 5 o.resends) _ _ (λ h. fine) (λ h. fine)

  module _ (v : Reversal) (o : Outstanding) where
    plain_unclosed : (a : MasterActed) → is_acknowledged a.progress ≡ false → Unclosed a → Unclosed (reversed_of v a)
    plain_unclosed a p t = subst Unclosed (sym (not_reversed v a p)) t

    go_on_unclosed : Unclosed (reversed_of v (acknowledged_of o))
    unfolding acknowledged_of reversed_of
    go_on_unclosed = go v.may_receive (is_last o)
      where
        go : (may last : Bool) → Unclosed (reversed_when may (gone_on last o))
        go true true = fine
        go true false = fine
        go false true = fine
        go false false = fine

    resend_then_unclosed : Unclosed (reversed_of v (resend_of o))
    resend_then_unclosed = plain_unclosed (resend_of o) (resend_plain o) (resend_unclosed o)

    same_unclosed : Unclosed (reversed_of v (unchanged (Waiting o)))
    same_unclosed = plain_unclosed (unchanged (Waiting o)) refl fine

    accept_unclosed : Unclosed (reversed_of v (accepted_of o))
    unfolding accepted_of
    accept_unclosed = cond_ind (λ (a : MasterActed). Unclosed (reversed_of v a)) (eqb o.count greatest_word) _ _ (λ g. same_unclosed) (λ g. go_on_unclosed)

    ack_unclosed : (n : ℕ) → Unclosed (reversed_of v (ack_of n o))
    unfolding ack_of
    ack_unclosed n =
        cond_ind (λ (a : MasterActed). Unclosed (reversed_of v a)) (eqb n (block_number o.count)) _ _ (λ h. accept_unclosed)
        (λ h. cond_ind (λ (a : MasterActed). Unclosed (reversed_of v a)) (precedes n (block_number o.count)) _ _ (λ g. resend_then_unclosed) (λ g. same_unclosed))

    waiting_unclosed : (refuses : Bool) (q : Response) → Unclosed (reversed_of v (waiting_reply refuses q o))
    waiting_unclosed refuses (Ack n) = ack_unclosed n
    waiting_unclosed refuses Nak = resend_then_unclosed
    waiting_unclosed refuses Eot = plain_unclosed _ refl fine
    waiting_unclosed refuses Damaged = same_unclosed
    waiting_unclosed true Rint = resend_then_unclosed
    waiting_unclosed false Rint = accept_unclosed

  module _ (e : End) (sent : List Block) (eots : Bool) where
    abbrev pub FinishedAfter : MasterActed → Type 0
    FinishedAfter a = Finished (end_after a.end e) ms (done_after a.progress d)

    as_open : (m : Master) → Told e m sent d eots → is_closed m ≡ false → (a : MasterActed) → Unclosed a → FinishedAfter a
    as_open m t h a u = subst (λ (z : End). Finished (end_after a.end z) ms (done_after a.progress d)) (sym (open_not-ended e m sent d eots t h)) u

    pub timer_finished : (m : Master) → Told e m sent d eots → Finished e ms d → FinishedAfter (timer_a_of m)
    unfolding timer_a_of
    timer_finished (Closed a) t f = f
    timer_finished (Idle a) t f = f
    timer_finished (Waiting o) t f = cond_ind FinishedAfter (valid_outstanding o) _ _ (λ h. as_open (Waiting o) t refl (resend_of o) (resend_unclosed o)) (λ h. f)

    pub close_finished : (m : Master) → IdleDone m ms d → Finished e ms d → FinishedAfter (close_of m)
    unfolding close_of
    close_finished (Closed a) i f = f
    close_finished (Idle a) i f = i
    close_finished (Waiting o) i f = f

    pub enquire_finished : (m : Master) → Finished e ms d → FinishedAfter (enquire_of m)
    unfolding enquire_of
    enquire_finished (Closed a) f = f
    enquire_finished (Idle a) f = f
    enquire_finished (Waiting o) f = cond_ind FinishedAfter (valid_outstanding o) _ _ (λ h. f) (λ h. f)

    may_finished_now : (m : Master) (v : Reversal) → Finished e ms d → FinishedAfter (may_receive_now m v).acted
    unfolding answer_of
    may_finished_now (Closed a) v f = f
    may_finished_now (Idle a) v f = fine
    may_finished_now (Waiting o) v f = cond_ind (λ (x : MasterAnswer). FinishedAfter x.acted) (valid_outstanding o) _ _ (λ h. f) (λ h. f)

    pub may_finished : (m : Master) (v : Reversal) → Finished e ms d → FinishedAfter (may_receive_of (master_state m v)).acted
    unfolding may_receive_of answer_of
    may_finished m v f = cond_ind (λ (x : MasterAnswer). FinishedAfter x.acted) v.interrupted _ _ (λ h. may_finished_now m v f) (λ h. f)

    idle_finished : (q : Response) (a : ℕ) → Finished e ms d → FinishedAfter (idle_reply q a)
    idle_finished (Ack n) a f = f
    idle_finished Nak a f = f
    idle_finished Eot a f = fine
    idle_finished Damaged a f = f
    idle_finished Rint a f = f

    pub reply_finished : (v : Reversal) (refuses : Bool) (q : Response) (m : Master) → Told e m sent d eots → Finished e ms d → FinishedAfter (reversed_of v (master_reply_of refuses q m))
    unfolding master_reply_of
    reply_finished v refuses q (Closed a) t f = subst FinishedAfter (sym (not_reversed v (unchanged (Closed a)) refl)) f
    reply_finished v refuses q (Idle a) t f = subst FinishedAfter (sym (not_reversed v (idle_reply q a) (idle_plain q a))) (idle_finished q a f)
    reply_finished v refuses q (Waiting o) t f =
        cond_ind (λ (a : MasterActed). FinishedAfter (reversed_of v a)) (valid_outstanding o) _ _
        (λ h. as_open (Waiting o) t refl (reversed_of v (waiting_reply refuses q o)) (waiting_unclosed v o refuses q))
        (λ h. subst FinishedAfter (sym (not_reversed v (refused_master 11 (Waiting o)) refl)) f)

-- a start that is taken was on an open master
pub start_finished : (ms : List Started) (d : ℕ) (e : End) (sent : List Block) (eots : Bool) (n size : ℕ) (s : Started) (m : Master) → Told e m sent d eots
    → eqb (start_of n size m).refusal 0 ≡ true → Finished (end_after (start_of n size m).end e) (s ∷ ms) (done_after (start_of n size m).progress d)
unfolding start_of
start_finished ms d e sent eots n size s m t = cond_ind Taken (leb 1 size) _ _ (λ h. now m t) (λ h z. absurd (true≢false (sym z)))
  where
    Taken : MasterActed → Type 0
    Taken a = eqb a.refusal 0 ≡ true → Finished (end_after a.end e) (s ∷ ms) (done_after a.progress d)

    now : (m : Master) → Told e m sent d eots → Taken (start_now n size m)
    now (Closed a) u z = absurd (true≢false (sym z))
    now (Idle a) u z = subst (λ (v : End). Finished v (s ∷ ms) d) (sym (open_not-ended e (Idle a) sent d eots u refl)) fine
    now (Waiting o) u z = absurd (true≢false (sym z))
