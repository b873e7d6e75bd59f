-- What was reported done is stored.
use Rattle.std.specs.Prelude.{Option, None}
use mathlib.Core.Path.{◌≡◌, refl, sym, ap, ◌∙◌, subst}
use mathlib.Core.List.{List, [], ◌∷◌, ◌++◌}
use mathlib.Core.Bool.{Bool, true, false, cond, not, true≢false}
use Prim.Native.Nat.{ℕ, ◌≤◌}
use native.Mathlib.Omega.{arith}
use lib.ListN.{length}
use lib.Dec.{leb, eqb}
use borrow.Author.Tests.{eqb-true}
use Rattle.lists.specs.Outcome.{need}
use Rattle.lists.proofs.Append.{append_none, append_assoc}
use Rattle.lists.proofs.Tests.{cond_ind, and_right}
use Rattle.station.specs.Station.{precedes, good_block_of, bad_block_of, eot_of}
use Rattle.station.specs.Interrupt.{reply_given, answered_of, bare_enq_of, interrupt_of}
use Rattle.station.specs.declared.Station.TheVariants.{Closed as ClosedStation}
use Rattle.station.specs.declared.Ending.{Ending}
use Rattle.station.specs.declared.Ending.TheVariants.{Etb, Etx}
use Rattle.station.specs.declared.Reply.{Reply}
use Rattle.station.specs.declared.Reply.TheVariants.{NoReply, Ack as AckReply, Nak as NakReply, Eot as EotReply, Rint as RintReply}
use Rattle.station.specs.History.{Unit, good, bad, enquiry, eot, bare_enq, asks, Block, block, expected_after, text_held, messages_of, Past, past, fits, past_of, Opening, unit_outcome, handed_over, station_run}
use Rattle.station.proofs.History.{stands}
use Rattle.master.specs.Master.{block_number, valid_outstanding, unchanged, refused_master, resend_of, accepted_of, ack_of, waiting_reply, start_now, start_of, master_reply_of, timer_a_of, close_of}
use Rattle.master.specs.Reversal.{refuses_rint, noted, kept, answer_of, is_acknowledged, reversed_of, enquire_of, allowed, may_receive_now, may_receive_of, master_state, start_answer, reply_answer, timer_answer, close_answer, enquire_answer}
use Rattle.master.specs.declared.Reversal.{Reversal}
use Rattle.master.specs.declared.Transmission.{Transmission}
use Rattle.master.specs.declared.MasterAnswer.{MasterAnswer}
use Rattle.master.specs.declared.Outstanding.{Outstanding}
use Rattle.master.specs.declared.Master.{Master}
use Rattle.master.specs.declared.Master.TheVariants.{Closed, Idle, Waiting}
use Rattle.master.specs.declared.Response.{Response}
use Rattle.master.specs.declared.Response.TheVariants.{Ack, Nak, Eot, Damaged, Rint}
use Rattle.master.specs.declared.MasterActed.{MasterActed}
use Rattle.master.specs.MasterHistory.{is_rint_kind}
use Rattle.station_link.specs.System.{replaced_at, inserted_at, damaged_reply, Started, Receiving, System, system, beginning, done_after, master_did, state_in, responses_of, refused_reply, receiving_after, opened_receiving}
use Rattle.station_link.specs.System.{LinkAct, starts, timer_runs, closes, master_eot, enquires, may_receive, slave_opens, grants, asks_rint, slave_ends, arrives, arrives_unstored, reply_arrives, loses, loses_reply, repeats, repeats_reply, damages, damages_reply, disturbs, disturbs_reply}
use Rattle.station_link.specs.System.{station_reply, stored_after, arrived, arrived_unstored, reply_arrived, may_grant, link_act, link_run}
use Rattle.station_link.specs.Promise.{oldest_first, messages_started, accepted, handed, FirstOf, Safe}
use Rattle.station_link.proofs.Queues.{Fine, fine, also}
use Rattle.station_link.proofs.Stretches.{old_rints, old_others, new_rints, new_others, old_rint, old_ack_lem, old_eot, new_rint, new_ack, next, bounded, behind, later, between_lost, between_repeated, between_damaged, between_disturbed, nak_replaced, nak_inserted}
use Rattle.station_link.proofs.Numbers.{not_itself}
use Rattle.station_link.proofs.Content.{first_of, oldest_append}
use Rattle.station_link.proofs.Invariant.{from, even_end, Behind, Stand, StandOf, idle, pending, taken}
use Rattle.station_link.proofs.SlaveSteps.{even_most}
use Rattle.station_link.proofs.MasterSteps.{noted_rint, noted-is, not_reversed, stretch_tail, last_refused}
use Rattle.station_link.proofs.Quiet.{Quiet, run_quiet}
use Rattle.station_link.proofs.Safety.{other, no_blocks, ended_same, asks_same, taken_in, given_in, Basis, basis, run_stands}

-- the master does not learn of the block out: no ACK of it is on the line, and no RINT
abbrev Silent : Master → Bool → List Response → Type 0
Silent (Idle count) r rs = ⊥
Silent (Waiting o) r rs = Behind (block_number o.count) r false rs
Silent (Closed count) r rs = Fine

-- ---- a master that does not learn of it reports nothing done
record Mute (d : ℕ) (rs : List Response) (r : Bool) (a : MasterActed) : Type 0 where
  silent : Silent a.master r rs
  plain : is_acknowledged a.progress ≡ false
  undone : done_after a.progress d ≡ d

module _ (d : ℕ) (rs : List Response) (r : Bool) where
  same_mute : (o : Outstanding) → Behind (block_number o.count) r false rs → Mute d rs r (unchanged (Waiting o))
  same_mute o i = record { silent = i; plain = refl; undone = refl }

  resend_mute : (o : Outstanding) → Behind (block_number o.count) r false rs → Mute d rs r (resend_of o)
  unfolding resend_of
  resend_mute o i =
      cond_ind (Mute d rs r) (leb 5 o.resends) _ _ (λ h. record { silent = fine; plain = refl; undone = refl }) (λ h. record { silent = i; plain = refl; undone = refl })

  ack_mute : (o : Outstanding) (n : ℕ) → precedes n (block_number o.count) ≡ true → Behind (block_number o.count) r false rs → Mute d rs r (ack_of n o)
  unfolding ack_of
  ack_mute o n q i =
      cond_ind (Mute d rs r) (eqb n (block_number o.count)) _ _ (λ h. absurd (not_itself n (block_number o.count) q (eqb-true n (block_number o.count) h)))
      (λ h. cond_ind (Mute d rs r) (precedes n (block_number o.count)) _ _ (λ g. resend_mute o i) (λ g. same_mute o i))

  timer_mute : (m : Master) → Silent m r rs → Mute d rs r (timer_a_of m)
  unfolding timer_a_of
  timer_mute (Closed count) i = record { silent = fine; plain = refl; undone = refl }
  timer_mute (Idle count) i = absurd i
  timer_mute (Waiting o) i = cond_ind (Mute d rs r) (valid_outstanding o) _ _ (λ h. resend_mute o i) (λ h. record { silent = i; plain = refl; undone = refl })

  close_mute : (m : Master) → Silent m r rs → Mute d rs r (close_of m)
  unfolding close_of
  close_mute (Closed count) i = record { silent = fine; plain = refl; undone = refl }
  close_mute (Idle count) i = absurd i
  close_mute (Waiting o) i = record { silent = i; plain = refl; undone = refl }

  enquire_mute : (m : Master) → Silent m r rs → Mute d rs r (enquire_of m)
  unfolding enquire_of
  enquire_mute (Closed count) i = record { silent = fine; plain = refl; undone = refl }
  enquire_mute (Idle count) i = absurd i
  enquire_mute (Waiting o) i =
      cond_ind (Mute d rs r) (valid_outstanding o) _ _ (λ h. record { silent = i; plain = refl; undone = refl }) (λ h. record { silent = i; plain = refl; undone = refl })

  start_mute : (n size : ℕ) (m : Master) → Silent m r rs → Mute d rs r (start_of n size m)
  unfolding start_of
  start_mute n size m i = cond_ind (Mute d rs r) (leb 1 size) _ _ (λ h. now m i) (λ h. record { silent = i; plain = refl; undone = refl })
    where
      now : (m : Master) → Silent m r rs → Mute d rs r (start_now n size m)
      now (Closed count) j = record { silent = fine; plain = refl; undone = refl }
      now (Idle count) j = absurd j
      now (Waiting o) j = record { silent = j; plain = refl; undone = refl }

-- a reply: a RINT on a line of old replies comes right after a RINT, and is refused
module _ (d : ℕ) (rs : List Response) where
  tail : (n : ℕ) (q : Response) (r : Bool) → Behind n r false (q ∷ rs) → Behind n (noted_rint q r) false rs
  tail n q r i = stretch_tail n old_others rs q r i

  old_head : (n m : ℕ) (r : Bool) → Behind n r false (Ack m ∷ rs) → precedes m n ≡ true
  old_head n m r (next {p = old_others} l (old_ack_lem e) i) = e
  old_head n m r (next {p = new_others} l (new_ack e) i) = let k = bounded n old_others new_others rs i in absurd (omega (arith, k))
  old_head n m r (next {p = old_rints} l a i) = elim a [ ]
  old_head n m r (next {p = new_rints} l a i) = elim a [ ]

  rint_last : (n : ℕ) (r : Bool) → Behind n r false (Rint ∷ rs) → r ≡ true
  rint_last n true i = refl
  rint_last n false (next {p = old_rints} l old_rint i) = absurd (omega (arith, l))
  rint_last n false (next {p = new_rints} l new_rint i) = let k = bounded n old_others new_rints rs i in absurd (omega (arith, k))
  rint_last n false (next {p = old_others} l a i) = elim a [ ]
  rint_last n false (next {p = new_others} l a i) = elim a [ ]

  rint_mute : (refuses : Bool) (o : Outstanding) (r : Bool) → (r ≡ true → refuses ≡ true) → Behind (block_number o.count) r false (Rint ∷ rs)
      → Mute d rs true (cond refuses (resend_of o) (accepted_of o))
  rint_mute true o r f i = resend_mute d rs true o (tail (block_number o.count) Rint r i)
  rint_mute false o r f i = absurd (true≢false (sym (f (rint_last (block_number o.count) r i))))

  waiting_mute : (refuses : Bool) (o : Outstanding) (q : Response) (r : Bool) → (r ≡ true → refuses ≡ true) → Behind (block_number o.count) r false (q ∷ rs)
      → Mute d rs (noted_rint q r) (waiting_reply refuses q o)
  waiting_mute refuses o (Ack n) r f i = ack_mute d rs false o n (old_head (block_number o.count) n r i) (tail (block_number o.count) (Ack n) r i)
  waiting_mute refuses o Nak r f i = resend_mute d rs false o (tail (block_number o.count) Nak r i)
  waiting_mute refuses o Eot r f i = record { silent = fine; plain = refl; undone = refl }
  waiting_mute refuses o Damaged r f i = same_mute d rs r o (tail (block_number o.count) Damaged r i)
  waiting_mute refuses o Rint r f i = rint_mute refuses o r f i

  reply_mute : (refuses : Bool) (q : Response) (r : Bool) (m : Master) → (r ≡ true → refuses ≡ true) → Silent m r (q ∷ rs) → Mute d rs (noted_rint q r) (master_reply_of refuses q m)
  unfolding master_reply_of
  reply_mute refuses q r (Closed count) f i = record { silent = fine; plain = refl; undone = refl }
  reply_mute refuses q r (Idle count) f i = absurd i
  reply_mute refuses q r (Waiting o) f i =
      cond_ind (Mute d rs (noted_rint q r)) (valid_outstanding o) _ _ (λ h. waiting_mute refuses o q r f i)
      (λ h. record { silent = tail (block_number o.count) q r i; plain = refl; undone = refl })

-- ---- with what the master keeps of the replies
abbrev MuteAnswer : ℕ → List Response → MasterAnswer → Type 0
MuteAnswer d rs x = Mute d rs (is_rint_kind x.reversal.last) x.acted

module _ (d : ℕ) (rs : List Response) where
  kept_silent : (m : Master) (t : Transmission) (v : Reversal) → Silent m (is_rint_kind v.last) rs → Silent m (is_rint_kind (kept m t v).last) rs
  kept_silent (Closed count) t v i = fine
  kept_silent (Idle count) t v i = absurd i
  kept_silent (Waiting o) t v i = i

  answer_mute : (v : Reversal) (a : MasterActed) → Mute d rs (is_rint_kind v.last) a → MuteAnswer d rs (answer_of v a)
  unfolding answer_of
  answer_mute v a k = record { silent = kept_silent a.master a.send v k.silent; plain = k.plain; undone = k.undone }

  may_mute_now : (m : Master) (v : Reversal) → Silent m (is_rint_kind v.last) rs → MuteAnswer d rs (may_receive_now m v)
  may_mute_now (Closed count) v i = answer_mute v (refused_master 11 (Closed count)) (record { silent = fine; plain = refl; undone = refl })
  may_mute_now (Idle count) v i = absurd i
  may_mute_now (Waiting o) v i =
      cond_ind (MuteAnswer d rs) (valid_outstanding o) _ _ (λ h. answer_mute (allowed v) (unchanged (Waiting o)) (record { silent = i; plain = refl; undone = refl }))
      (λ h. answer_mute v (refused_master 11 (Waiting o)) (record { silent = i; plain = refl; undone = refl }))

  may_mute : (m : Master) (v : Reversal) → Silent m (is_rint_kind v.last) rs → MuteAnswer d rs (may_receive_of (master_state m v))
  unfolding may_receive_of
  may_mute m v i =
      cond_ind (MuteAnswer d rs) v.interrupted _ _ (λ h. may_mute_now m v i) (λ h. answer_mute v (refused_master 11 m) (record { silent = i; plain = refl; undone = refl }))

  reply_answer_mute : (q : Response) (m : Master) (v : Reversal) → Silent m (is_rint_kind v.last) (q ∷ rs) → MuteAnswer d rs (reply_answer q (master_state m v))
  reply_answer_mute q m v i =
      let k = reply_mute d rs (refuses_rint v) q (is_rint_kind v.last) m (last_refused v.last v.enquired) i in
      answer_mute (noted q v) (reversed_of v (master_reply_of (refuses_rint v) q m))
      (subst (Mute d rs (is_rint_kind (noted q v).last)) (sym (not_reversed v (master_reply_of (refuses_rint v) q m) k.plain))
      (subst (λ (x : Bool). Mute d rs x (master_reply_of (refuses_rint v) q m)) (sym (noted-is q v)) k))

-- what changes only the line back
silent_kept : (rs vs : List Response) (r : Bool) → ((n : ℕ) → Behind n r false rs → Behind n r false vs) → (m : Master) → Silent m r rs → Silent m r vs
silent_kept rs vs r f (Closed count) i = fine
silent_kept rs vs r f (Idle count) i = absurd i
silent_kept rs vs r f (Waiting o) i = f (block_number o.count) i

module _ (b : List ℕ) where
  abbrev c : ℕ
  c = length b

  -- all that was handed over is stored; or all but the last, and then the station is ended and nobody acknowledges
  pub data Stores (y : System) : Type 0 where
    both : handed b y ≡ y.receiving.stored → Stores y
    lacks : (m : List ℕ) → handed b y ≡ m ∷ y.receiving.stored → (past_of c y.receiving.received).closed ≡ true
        → y.sending.done ≤ length y.receiving.stored → Silent y.sending.master (taken_in y) y.backward → Stores y

  -- ---- the master acts
  module _ (y : System) (a : MasterAnswer) (ms : List Started) (rs : List Response) (mute : Silent y.sending.master (taken_in y) y.backward → MuteAnswer y.sending.done rs a) where
    master_stores : Stores y → Stores (master_did a ms (system y.sending y.receiving y.forward rs))
    master_stores (both e) = both e
    master_stores (lacks m e k d i) = let z = (mute i).undone in lacks m e k (omega (arith, z, d)) (mute i).silent

  -- ---- only the lines change
  line-stores : (y : System) (us : List Unit) (rs : List Response) → ((n : ℕ) → Behind n (taken_in y) false y.backward → Behind n (taken_in y) false rs) → Stores y → Stores (system y.sending y.receiving us rs)
  line-stores y us rs f (both e) = both e
  line-stores y us rs f (lacks m e k d i) = lacks m e k d (silent_kept y.backward rs (taken_in y) f y.sending.master i)

  -- ---- a closed station completes nothing and replies nothing
  module _ (o : Opening) (e : o.run.station ≡ ClosedStation) where
    closed_incomplete : (u : Unit) → (unit_outcome o u).answer.acted.message ≡ None
    unfolding good_block_of bad_block_of eot_of answered_of bare_enq_of interrupt_of
    closed_incomplete (good n x t) = rw e
    closed_incomplete bad = rw e
    closed_incomplete enquiry = rw e
    closed_incomplete eot = rw e
    closed_incomplete bare_enq = rw e
    closed_incomplete asks = rw e

    closed_reply : (u : Unit) → (unit_outcome o u).answer.acted.reply ≡ NoReply
    unfolding good_block_of bad_block_of eot_of answered_of reply_given bare_enq_of interrupt_of
    closed_reply (good n x t) = rw e
    closed_reply bad = rw e
    closed_reply enquiry = rw e
    closed_reply eot = rw e
    closed_reply bare_enq = rw e
    closed_reply asks = rw e

  closed_station : (us : List Unit) → (past_of c us).closed ≡ true → (station_run b us).run.station ≡ ClosedStation
  closed_station us h = (stands b us).station ∙ rw h

  pub stays_closed : (u : Unit) (us : List Unit) → (past_of c us).closed ≡ true → (past_of c (u ∷ us)).closed ≡ true
  unfolding past_of
  stays_closed u us h = rw h

  same-closed : (u : Unit) (us : List Unit) → (past_of c us).closed ≡ true → (past_of c (u ∷ us)).blocks ≡ (past_of c us).blocks
  unfolding past_of
  same-closed u us h = rw h

  ended-closed : (us : List Unit) → (past_of c (eot ∷ us)).closed ≡ true
  unfolding past_of
  ended-closed us = cond_ind (λ (p : Past). p.closed ≡ true) (past_of c us).closed _ _ (λ h. h) (λ h. refl)

  ended-handed : (us : List Unit) → (station_run b (eot ∷ us)).run.messages ≡ (station_run b us).run.messages
  ended-handed us = (stands b (eot ∷ us)).messages ∙ ap messages_of (ended_same b us) ∙ sym (stands b us).messages

  eot_behind : (n : ℕ) (r : Bool) (rs : List Response) → Behind n r false rs → Behind n r false (rs ++ Eot ∷ [])
  eot_behind n r rs i = behind n old_others old_others (from r) Eot rs (omega arith) old_eot i

  behind_refused : (n : ℕ) (r : Bool) (w : Reply) (rs : List Response) → Behind n r false rs → Behind n r false (rs ++ refused_reply w)
  behind_refused n r NoReply rs i = subst (Behind n r false) (sym (append_none rs)) i
  behind_refused n r (AckReply m) rs i = eot_behind n r rs i
  behind_refused n r NakReply rs i = eot_behind n r rs i
  behind_refused n r EotReply rs i = eot_behind n r rs i
  behind_refused n r RintReply rs i = eot_behind n r rs i

  -- ---- a unit arrives, and is stored
  module _ (y : System) (u : Unit) (us : List Unit) where
    abbrev r : Receiving
    r = y.receiving

    module _ (own drivers rint : Bool) where
      abbrev stored_system : System
      stored_system = system y.sending (record { opened = r.opened; received = u ∷ r.received; stored = stored_after b r u; station_eot = own; driver_eot = drivers; gave_rint = rint }) us (y.backward ++ responses_of (station_reply b r u))

      stored_on : Stores y → Stores stored_system
      unfolding station_run
      stored_on (both e) =
          both (ap (handed_over (unit_outcome (station_run b r.received) u).answer.acted.message (unit_outcome (station_run b r.received) u).buffer) e)
      stored_on (lacks m e k d i) =
          let closed = closed_station r.received k in
          let nothing = closed_incomplete (station_run b r.received) closed u in
          let same : stored_after b r u ≡ r.stored = ap (λ (z : Option ℕ). handed_over z (unit_outcome (station_run b r.received) u).buffer r.stored) nothing in
          lacks m
          (ap (λ (z : Option ℕ). handed_over z (unit_outcome (station_run b r.received) u).buffer (handed b y)) nothing ∙ e ∙ ap (λ (l : List (List ℕ)). m ∷ l) (sym same))
          (stays_closed u r.received k) (subst (λ (l : List (List ℕ)). y.sending.done ≤ length l) (sym same) d)
          (subst (λ (w : Reply). Silent y.sending.master (taken_in y) (y.backward ++ responses_of w)) (sym (closed_reply (station_run b r.received) closed u))
          (subst (Silent y.sending.master (taken_in y)) (sym (append_none y.backward)) i))

      -- ---- it could not be stored
      abbrev unstored_system : System
      unstored_system = system y.sending (record { opened = r.opened; received = eot ∷ u ∷ r.received; stored = r.stored; station_eot = own; driver_eot = drivers; gave_rint = rint }) us (y.backward ++ refused_reply (station_reply b r u))

      abbrev history : Past
      history = past_of c r.received

      silent_refused : (m : Master) → Silent m (taken_in y) y.backward → Silent m (taken_in y) (y.backward ++ refused_reply (station_reply b r u))
      silent_refused m i = silent_kept y.backward (y.backward ++ refused_reply (station_reply b r u)) (taken_in y) (λ n j. behind_refused n (taken_in y) (station_reply b r u) y.backward j) m i

      -- by what the station has accepted then
      now_handed : (station_run b (eot ∷ u ∷ r.received)).run.messages ≡ messages_of (past_of c (u ∷ r.received)).blocks
      now_handed = ended-handed (u ∷ r.received) ∙ (stands b (u ∷ r.received)).messages

      same_messages : messages_of (past_of c (u ∷ r.received)).blocks ≡ messages_of (accepted b y) → Stores y → Stores unstored_system
      same_messages h (both e) = both (now_handed ∙ h ∙ sym (stands b r.received).messages ∙ e)
      same_messages h (lacks m e k d i) =
          lacks m (now_handed ∙ h ∙ sym (stands b r.received).messages ∙ e) (ended-closed (u ∷ r.received)) d (silent_refused y.sending.master i)

      -- the last block of a message is accepted: the message is lost with the station, and the master does not learn of it
      one_more : (t : List ℕ) → messages_of (past_of c (u ∷ r.received)).blocks ≡ t ∷ messages_of (accepted b y) → history.closed ≡ false
          → y.sending.done ≤ length (handed b y) → Silent y.sending.master (taken_in y) y.backward → Stores y → Stores unstored_system
      one_more t h k d i (both e) =
          lacks t (now_handed ∙ h ∙ ap (λ (l : List (List ℕ)). t ∷ l) (sym (stands b r.received).messages ∙ e)) (ended-closed (u ∷ r.received))
          (let n = ap length e in omega (arith, n, d)) (silent_refused y.sending.master i)
      one_more t h k d i (lacks m e z q j) = absurd (true≢false (sym z ∙ k))

-- the expected block arrives: the block out was not accepted, and no ACK of it is on the line
awaited : (ms : List Started) (d : ℕ) (bs sent : List Block) (us : List Unit) (rs : List Response) (r z : Bool) (m : Master) (n : ℕ) (x : Ending) (t : List ℕ)
    → n ≡ expected_after bs → Stand ms d bs sent (good n x t ∷ us) rs r z m → Silent m r rs
awaited ms d bs sent us rs r z (Idle a) n x t g (idle e l k h (also q i) w) = not_itself n (expected_after bs) q g
awaited ms d bs sent us rs r z (Waiting o) n x t g (pending p v e l h f w) = later (block_number o.count) (even_end z) old_others (from r) rs (even_most z) w
awaited ms d bs sent us rs r z (Waiting o) n x t g (taken p v e l h (also q i) w) = absurd (not_itself n (expected_after bs) q g)
awaited ms d bs sent us rs r z (Closed a) n x t g s = fine

module _ (b : List ℕ) where
  abbrev size : ℕ
  size = length b

  module _ (y : System) (us : List Unit) (s : Stores b y) where
    abbrev end : Receiving
    end = y.receiving

    abbrev before : Past
    before = past_of size end.received

    abbrev There : Unit → Type 0
    There u = Stand y.sending.started y.sending.done (accepted b y) y.sending.sent (u ∷ us) y.backward (taken_in y) (given_in b y) y.sending.master

    good_unstored : (n : ℕ) (x : Ending) (t : List ℕ) (own drivers rint : Bool) → There (good n x t) → StandOf b y → before.closed ≡ false → Stores b (unstored_system b y (good n x t) us own drivers rint)
    unfolding past_of messages_of
    good_unstored n x t own drivers rint there st k = go (eqb n (expected_after (accepted b y))) (fits size (accepted b y) t) refl refl
      where
        after : (v f : Bool) → eqb n (expected_after (accepted b y)) ≡ v → fits size (accepted b y) t ≡ f
            → messages_of (past_of size (good n x t ∷ end.received)).blocks ≡ messages_of (cond v (need f (past (accepted b y) true) (past (block x t ∷ accepted b y) false)) (past (accepted b y) false)).blocks
        after v f g q = rw (k, g, q)

        done_handed : y.sending.done ≤ length (handed b y)
        done_handed = let z = basis b y st in let l = z.good.least in let e = ap length z.handed-is in omega (arith, l, e)

        ended_as : (w : Ending) → x ≡ w → eqb n (expected_after (accepted b y)) ≡ true → fits size (accepted b y) t ≡ true → Stores b (unstored_system b y (good n x t) us own drivers rint)
        ended_as Etb e g q = same_messages b y (good n x t) us own drivers rint (after true true g q ∙ ap (λ (w : Ending). messages_of (block w t ∷ accepted b y)) e) s
        ended_as Etx e g q =
            one_more b y (good n x t) us own drivers rint (text_held (accepted b y) ++ t) (after true true g q ∙ ap (λ (w : Ending). messages_of (block w t ∷ accepted b y)) e) k done_handed
            (awaited y.sending.started y.sending.done (accepted b y) y.sending.sent us y.backward (taken_in y) (given_in b y) y.sending.master n x t (eqb-true n (expected_after (accepted b y)) g) there) s

        go : (v f : Bool) → eqb n (expected_after (accepted b y)) ≡ v → fits size (accepted b y) t ≡ f → Stores b (unstored_system b y (good n x t) us own drivers rint)
        go false f g q = same_messages b y (good n x t) us own drivers rint (after false f g q) s
        go true false g q = same_messages b y (good n x t) us own drivers rint (after true false g q) s
        go true true g q = ended_as x refl g q

    unstored_on : (u : Unit) (own drivers rint : Bool) → There u → StandOf b y → Stores b (unstored_system b y u us own drivers rint)
    unfolding past_of
    unstored_on u own drivers rint there st = by_closed before.closed refl
      where
        by_unit : (w : Unit) → There w → before.closed ≡ false → Stores b (unstored_system b y w us own drivers rint)
        by_unit (good n x t) e k = good_unstored n x t own drivers rint e st k
        by_unit bad e k = same_messages b y bad us own drivers rint (ap messages_of (cond_ind (λ (p : Past). p.blocks ≡ accepted b y) before.closed _ _ (λ h. refl) (λ h. refl))) s
        by_unit enquiry e k = same_messages b y enquiry us own drivers rint (ap messages_of (cond_ind (λ (p : Past). p.blocks ≡ accepted b y) before.closed _ _ (λ h. refl) (λ h. refl))) s
        by_unit eot e k = same_messages b y eot us own drivers rint (ap messages_of (cond_ind (λ (p : Past). p.blocks ≡ accepted b y) before.closed _ _ (λ h. refl) (λ h. refl))) s
        by_unit bare_enq e k = same_messages b y bare_enq us own drivers rint (ap messages_of (cond_ind (λ (p : Past). p.blocks ≡ accepted b y) before.closed _ _ (λ h. refl) (λ h. refl))) s
        by_unit asks e k = same_messages b y asks us own drivers rint (ap messages_of (cond_ind (λ (p : Past). p.blocks ≡ accepted b y) before.closed _ _ (λ h. refl) (λ h. refl))) s

        by_closed : (v : Bool) → before.closed ≡ v → Stores b (unstored_system b y u us own drivers rint)
        by_closed true k = same_messages b y u us own drivers rint (ap messages_of (same-closed b u end.received k)) s
        by_closed false k = by_unit u there k

  arrives_stores : (y : System) (us : List Unit) → y.forward ≡ us → StandOf b y → Stores b y → Stores b (arrived b us y)
  arrives_stores y [] on st s = s
  arrives_stores y (u ∷ us) on st s = cond_ind (Stores b) y.receiving.opened _ _ (λ h. stored_on b y u us _ _ _ s) (λ h. line-stores b y us y.backward (λ n i. i) s)

  unstored_stores : (y : System) (us : List Unit) → y.forward ≡ us → StandOf b y → Stores b y → Stores b (arrived_unstored b us y)
  unstored_stores y [] on st s = s
  unstored_stores y (u ∷ us) on st s =
      cond_ind (Stores b) y.receiving.opened _ _
      (λ h. unstored_on y us s u _ _ _ (subst (λ (l : List Unit). Stand y.sending.started y.sending.done (accepted b y) y.sending.sent l y.backward (taken_in y) (given_in b y) y.sending.master) on st) st)
      (λ h. line-stores b y us y.backward (λ n i. i) s)

  reply_stores : (y : System) (rs : List Response) → y.backward ≡ rs → Stores b y → Stores b (reply_arrived b rs y)
  reply_stores y [] on s = s
  reply_stores y (q ∷ rs) on s =
      master_stores b y (reply_answer q (state_in y)) y.sending.started rs
      (λ i. reply_answer_mute y.sending.done rs q y.sending.master y.sending.reversal (subst (Silent y.sending.master (taken_in y)) on i)) s

  ended-stores : (y : System) (sends : Bool) → Stores b y → Stores b (link_act b (slave_ends sends) y)
  unfolding link_act
  ended-stores y sends s = cond_ind (Stores b) y.receiving.opened _ _ (λ h. go s) (λ h. s)
    where
      sent_behind : (n : ℕ) (v : Bool) → Behind n (taken_in y) false y.backward → Behind n (taken_in y) false (y.backward ++ cond v (Eot ∷ []) [])
      sent_behind n true i = eot_behind b n (taken_in y) y.backward i
      sent_behind n false i = subst (Behind n (taken_in y) false) (sym (append_none y.backward)) i

      after : System
      after = system y.sending (receiving_after (eot ∷ []) y.receiving.stored false sends false y.receiving) y.forward (y.backward ++ cond sends (Eot ∷ []) [])

      go : Stores b y → Stores b after
      go (both e) = both (ended-handed b y.receiving.received ∙ e)
      go (lacks m e k d i) =
          lacks m (ended-handed b y.receiving.received ∙ e) (ended-closed b y.receiving.received) d
          (silent_kept y.backward (y.backward ++ cond sends (Eot ∷ []) []) (taken_in y) (λ n j. sent_behind n sends j) y.sending.master i)

  -- while nothing is accepted nothing is handed over
  granted_stores : (y : System) (anew : Bool) → Stores b y → Stores b (link_act b (grants anew) y)
  unfolding link_act station_run messages_of
  granted_stores y anew s = cond_ind (Stores b) (may_grant b y.receiving) _ _ (λ h. go h anew s) (λ h. s)
    where
      none_handed : may_grant b y.receiving ≡ true → handed b y ≡ []
      none_handed h =
          (stands b y.receiving.received).messages
          ∙ ap messages_of (no_blocks (accepted b y) (eqb-true (length (accepted b y)) 0 (and_right (not y.receiving.station_eot) _ h)))

      go : may_grant b y.receiving ≡ true → (v : Bool) → Stores b y
          → Stores b (system y.sending (opened_receiving (cond v [] y.receiving.received) y.receiving) y.forward (y.backward ++ Ack 0 ∷ []))
      go h true (both e) = both (sym (none_handed h) ∙ e)
      go h false (both e) = both e
      go h v (lacks m e k d i) = let n = ap length (sym (none_handed h) ∙ e) in absurd (omega (arith, n))

  -- asking for a RINT hands nothing over
  asked-stores : (y : System) → Stores b y → Stores b (link_act b asks_rint y)
  unfolding link_act
  asked-stores y s = cond_ind (Stores b) y.receiving.opened _ _ (λ h. go s) (λ h. s)
    where
      same : (station_run b (asks ∷ y.receiving.received)).run.messages ≡ handed b y
      same = (stands b (asks ∷ y.receiving.received)).messages ∙ ap messages_of (asks_same b y.receiving.received) ∙ sym (stands b y.receiving.received).messages

      go : Stores b y → Stores b (system y.sending (receiving_after (asks ∷ []) y.receiving.stored false false false y.receiving) y.forward y.backward)
      go (both e) = both (same ∙ e)
      go (lacks m e k d i) = lacks m (same ∙ e) (stays_closed b asks y.receiving.received k) d i

  start_stores : (y : System) (t : List ℕ) (size : ℕ) → Stores b y → Stores b (link_act b (starts t size) y)
  unfolding link_act answer_of
  start_stores y t size s =
      cond_ind (Stores b) (eqb (start_of (length t) size y.sending.master).refusal 0) _ _
      (λ h. master_stores b y (start_answer (length t) size (state_in y)) (record { message = t; size = size } ∷ y.sending.started) y.backward
      (λ i. answer_mute y.sending.done y.backward y.sending.reversal _ (start_mute y.sending.done y.backward (taken_in y) (length t) size y.sending.master i)) s) (λ h. s)

  -- a damaged reply, or noise
  damaged_behind : (y : System) → Quiet y → (n k : ℕ) (nak gave : Bool) → y.receiving.gave_rint ≡ gave → Behind k (taken_in y) false y.backward
      → Behind k (taken_in y) false (replaced_at n (damaged_reply nak gave) y.backward)
  damaged_behind y q n k true true e i = between_damaged k old_others n (from (taken_in y)) y.backward i
  damaged_behind y q n k true false e i = nak_replaced k old_others n (from (taken_in y)) y.backward (other (taken_in y) (q e).1) (q e).0 i
  damaged_behind y q n k false gave e i = between_damaged k old_others n (from (taken_in y)) y.backward i

  disturbed_behind : (y : System) → Quiet y → (n k : ℕ) (nak gave : Bool) → y.receiving.gave_rint ≡ gave → Behind k (taken_in y) false y.backward
      → Behind k (taken_in y) false (inserted_at n (damaged_reply nak gave) y.backward)
  disturbed_behind y q n k true true e i = between_disturbed k old_others n (from (taken_in y)) y.backward i
  disturbed_behind y q n k true false e i = nak_inserted k old_others n (from (taken_in y)) y.backward (other (taken_in y) (q e).1) (q e).0 i
  disturbed_behind y q n k false gave e i = between_disturbed k old_others n (from (taken_in y)) y.backward i

  act_stores : (x : LinkAct) (y : System) → Quiet y → StandOf b y → Stores b y → Stores b (link_act b x y)
  unfolding link_act
  act_stores (starts t size) y q st s = start_stores y t size s
  act_stores timer_runs y q st s =
      master_stores b y (timer_answer (state_in y)) y.sending.started y.backward
      (λ i. answer_mute y.sending.done y.backward y.sending.reversal _ (timer_mute y.sending.done y.backward (taken_in y) y.sending.master i)) s
  act_stores closes y q st s =
      master_stores b y (close_answer (state_in y)) y.sending.started y.backward
      (λ i. answer_mute y.sending.done y.backward y.sending.reversal _ (close_mute y.sending.done y.backward (taken_in y) y.sending.master i)) s
  act_stores master_eot y q st s = line-stores b y (y.forward ++ eot ∷ []) y.backward (λ n i. i) s
  act_stores enquires y q st s =
      master_stores b y (enquire_answer (state_in y)) y.sending.started y.backward
      (λ i. answer_mute y.sending.done y.backward y.sending.reversal _ (enquire_mute y.sending.done y.backward (taken_in y) y.sending.master i)) s
  act_stores may_receive y q st s =
      master_stores b y (may_receive_of (state_in y)) y.sending.started y.backward (λ i. may_mute y.sending.done y.backward y.sending.master y.sending.reversal i) s
  act_stores slave_opens y q st (both e) = both e
  act_stores slave_opens y q st (lacks m e k d i) = lacks m e k d i
  act_stores (grants anew) y q st s = granted_stores y anew s
  act_stores asks_rint y q st s = asked-stores y s
  act_stores (slave_ends sends) y q st s = ended-stores y sends s
  act_stores arrives y q st s = arrives_stores y y.forward refl st s
  act_stores arrives_unstored y q st s = unstored_stores y y.forward refl st s
  act_stores reply_arrives y q st s = reply_stores y y.backward refl s
  act_stores (loses n) y q st s = line-stores b y _ y.backward (λ k i. i) s
  act_stores (loses_reply n) y q st s = line-stores b y y.forward _ (λ k i. between_lost k old_others n (from (taken_in y)) y.backward i) s
  act_stores (repeats n) y q st s = line-stores b y _ y.backward (λ k i. i) s
  act_stores (repeats_reply n) y q st s = line-stores b y y.forward _ (λ k i. between_repeated k old_others n (from (taken_in y)) y.backward i) s
  act_stores (damages n v) y q st s = line-stores b y _ y.backward (λ k i. i) s
  act_stores (damages_reply n v) y q st s = line-stores b y y.forward _ (λ k i. damaged_behind y q n k v y.receiving.gave_rint refl i) s
  act_stores (disturbs n v) y q st s = line-stores b y _ y.backward (λ k i. i) s
  act_stores (disturbs_reply n v) y q st s = line-stores b y y.forward _ (λ k i. disturbed_behind y q n k v y.receiving.gave_rint refl i) s

  run-stores : (xs : List LinkAct) → Stores b (link_run b beginning xs)
  unfolding link_run station_run
  run-stores [] = both refl
  run-stores (x ∷ xs) = act_stores x (link_run b beginning xs) (run_quiet b xs) (run_stands b xs) (run-stores xs)

  -- ---- 02, §3 and §14: at every moment of every run
  safe : (y : System) → StandOf b y → Stores b y → Safe b y
  safe y st s =
      let z = basis b y st in
      let g = z.good in
      let n = ap length z.handed-is in
      let l = g.least in
      let k = g.most in
      record {
        accepted_first = z.accepted_first;
        sent_first = z.sent_first;
        count_most = z.count.most;
        count_least = z.count.least;
        messages_first = first_messages g.later (handed b y) (ap (λ (w : List (List ℕ)). g.later ++ w) z.handed-is ∙ g.messages);
        done_most = omega (arith, n, l);
        done_least = omega (arith, n, k);
        stored_first = stored_is s;
        done_stored = done_is s;
        started_most = g.begun;
      }
    where
      first_messages : (later ms : List (List ℕ)) → later ++ ms ≡ messages_started y.sending.started → FirstOf (oldest_first ms) (oldest_first (messages_started y.sending.started))
      first_messages later ms e = first_of (oldest_first ms) (oldest_first later) _ (sym (oldest_append later ms) ∙ ap oldest_first e)

      whole : Basis b y → (basis b y st).good.later ++ handed b y ≡ messages_started y.sending.started
      whole z = ap (λ (w : List (List ℕ)). (basis b y st).good.later ++ w) z.handed-is ∙ (basis b y st).good.messages

      stored_is : Stores b y → FirstOf (oldest_first y.receiving.stored) (oldest_first (messages_started y.sending.started))
      stored_is (both e) = first_messages (basis b y st).good.later y.receiving.stored (ap (λ (w : List (List ℕ)). (basis b y st).good.later ++ w) (sym e) ∙ whole (basis b y st))
      stored_is (lacks m e q d i) =
          first_messages ((basis b y st).good.later ++ m ∷ []) y.receiving.stored
          (append_assoc (basis b y st).good.later (m ∷ []) y.receiving.stored ∙ ap (λ (w : List (List ℕ)). (basis b y st).good.later ++ w) (sym e) ∙ whole (basis b y st))

      done_is : Stores b y → y.sending.done ≤ length y.receiving.stored
      done_is (both e) =
          let a = (basis b y st).good.least in let f = ap length (basis b y st).handed-is in let h = ap length e in omega (arith, a, f, h)
      done_is (lacks m e q d i) = d

  pub link_safe : (xs : List LinkAct) → Safe b (link_run b beginning xs)
  link_safe xs = safe (link_run b beginning xs) (run_stands b xs) (run-stores xs)
