-- 02, §3 and §14: the statement, at every moment of every run.
use mathlib.Core.Path.{◌≡◌, refl, sym, ap, ◌∙◌, subst}
use mathlib.Core.List.{List, [], ◌∷◌, ◌++◌}
use mathlib.Core.Bool.{Bool, true, false, cond, not, true≢false}
use Prim.Native.Nat.{ℕ, ◌+◌, ◌≤◌}
use native.Mathlib.Omega.{arith}
use lib.ListN.{length}
use lib.Dec.{eqb}
use borrow.Author.Tests.{eqb-true, ne_eqb}
use Rattle.lists.proofs.Append.{append_none}
use Rattle.lists.proofs.Tests.{cond_ind, and_right}
use Rattle.station.specs.Station.{next_number, precedes}
use Rattle.station.specs.Interrupt.{fresh_turn, turn_after, ack_given, open_given, last_reply}
use Rattle.station.specs.declared.Reply.{Reply}
use Rattle.station.specs.declared.ReplyKind.{ReplyKind}
use Rattle.station.specs.declared.ReplyKind.TheVariants.{NoneYet, Ack as AckKind, Nak as NakKind, Rint as RintKind}
use Rattle.station.specs.declared.Interrupt.{Interrupt}
use Rattle.station.specs.declared.Interrupt.TheVariants.{Unasked, Pending, Given}
use Rattle.station.specs.declared.Turn.{Turn}
use Rattle.station.specs.History.{Unit, good, bad, enquiry, eot, bare_enq, asks, Block, expected_after, text_held, messages_of, Past, unit_after, asked, turn_by, turn_of, turn_fits, station_of, past_of}
use Rattle.station.proofs.Turns.{good_cases, turn-fits, fresh-only}
use Rattle.station.proofs.History.{stands, replies}
use Rattle.master.specs.Master.{start_of}
use Rattle.master.specs.Reversal.{answer_of, count_in}
use Rattle.master.specs.declared.Master.{Master}
use Rattle.master.specs.declared.Master.TheVariants.{Closed, Idle, Waiting}
use Rattle.master.specs.declared.Response.{Response}
use Rattle.master.specs.declared.Response.TheVariants.{Ack, Nak, Eot, Damaged}
use Rattle.master.specs.MasterHistory.{is_rint_kind}
use Rattle.station_link.specs.System.{lost_at, replaced_at, inserted_at, repeated_at, Noise, as_bad, as_enquiry, as_bare_enq, damaged_unit, damaged_reply, Started, System, system, beginning, refused_reply}
use Rattle.station_link.specs.System.{LinkAct, starts, timer_runs, closes, master_eot, enquires, may_receive, slave_opens, grants, asks_rint, slave_ends, arrives, arrives_unstored, reply_arrives, loses, loses_reply, repeats, repeats_reply, damages, damages_reply, disturbs, disturbs_reply}
use Rattle.station_link.specs.System.{station_reply, arrived, arrived_unstored, reply_arrived, may_grant, link_act, link_run}
use Rattle.station_link.specs.Promise.{oldest_first, started_blocks, messages_started, accepted, handed, FirstOf}
use Rattle.station_link.proofs.Queues.{fine, All, none, Phases, all-appended, all_lost, all-repeated, all_replaced, all_inserted, new_behind, phases_lost, phases_repeated, phases_replaced, phases_inserted}
use Rattle.station_link.proofs.Stretches.{old_others, end, Other, in_old, between_lost, between_repeated, between_damaged, between_disturbed, nak_replaced, nak_inserted}
use Rattle.station_link.proofs.Content.{first_of, out_of, Good, complete_good, acknowledged_good, out_good}
use Rattle.station_link.proofs.Invariant.{Duplicate, Copy, from, even_end, out_end, Behind, Level, Stand, StandOf, idle, pending, taken, over_even, over_ahead, rint_given, forward_kept, backward_kept}
use Rattle.station_link.proofs.MasterSteps.{timer_stands, close_stands, enquire_stands, may_receive_stands, start_stands, reply_stands}
use Rattle.station_link.proofs.SlaveSteps.{eot_added, forgotten, ack_added, Arrived, unit_arrives, passed}
use Rattle.station_link.proofs.Quiet.{Quiet, run_quiet}

-- ---- what the stand says
module _ (ms : List Started) (d : ℕ) (bs sent : List Block) (us : List Unit) (rs : List Response) (r z : Bool) where
  stand_good : (m : Master) → Stand ms d bs sent us rs r z m → Good ms d bs
  stand_good (Idle a) (idle e l c h u w) = rw h (complete_good ms bs c)
  stand_good (Waiting o) (pending p v e l h u w) = subst (Good ms d) e (rw h (acknowledged_good ms sent o p))
  stand_good (Waiting o) (taken p v e l h u w) = subst (Good ms d) e (rw h (out_good ms sent o p))
  stand_good (Closed a) (over_even e l k c u) = c
  stand_good (Closed a) (over_ahead k e l c j u) = c

  sent_good : (m : Master) → Stand ms d bs sent us rs r z m → Good ms d sent
  sent_good (Idle a) (idle e l c h u w) = subst (Good ms d) (sym e) (rw h (complete_good ms bs c))
  sent_good (Waiting o) (pending p v e l h u w) = rw h (out_good ms sent o p)
  sent_good (Waiting o) (taken p v e l h u w) = rw h (out_good ms sent o p)
  sent_good (Closed a) (over_even e l k c u) = subst (Good ms d) (sym e) c
  sent_good (Closed a) (over_ahead k e l c j u) = j

  -- those accepted are all sent, or all but the last
  pub data Lag : Type 0 where
    all-accepted : sent ≡ bs → Lag
    all_but_one : (k : Block) → sent ≡ k ∷ bs → Lag

  pub lag : (m : Master) → Stand ms d bs sent us rs r z m → Lag
  lag (Idle a) (idle e l c h u w) = all-accepted e
  lag (Waiting o) (pending p v e l h u w) = all_but_one (out_of p.now.message o) (p.out ∙ ap (λ (z : List Block). out_of p.now.message o ∷ z) e)
  lag (Waiting o) (taken p v e l h u w) = all-accepted e
  lag (Closed a) (over_even e l k c u) = all-accepted e
  lag (Closed a) (over_ahead k e l c j u) = all_but_one k e

  pub record Counts (count : ℕ) : Type 0 where
    pub most : count ≤ length bs
    pub least : length bs ≤ count + 1

  pub counts : (m : Master) → Stand ms d bs sent us rs r z m → Counts (count_in m)
  counts (Idle a) (idle e l c h u w) = record { most = omega (arith, l); least = omega (arith, l) }
  counts (Waiting o) (pending p v e l h u w) = record { most = omega (arith, l); least = omega (arith, l) }
  counts (Waiting o) (taken p v e l h u w) =
      let n = ap length (sym e ∙ p.out) in record { most = omega (arith, n, l); least = omega (arith, n, l) }
  counts (Closed a) (over_even e l k c u) = record { most = l; least = k }
  counts (Closed a) (over_ahead k e l c j u) = record { most = omega (arith, l); least = omega (arith, l) }

  first_accepted : Lag → FirstOf (oldest_first bs) (oldest_first sent)
  unfolding oldest_first
  first_accepted (all-accepted e) = first_of (oldest_first bs) [] (oldest_first sent) (append_none (oldest_first bs) ∙ ap oldest_first (sym e))
  first_accepted (all_but_one k e) = first_of (oldest_first bs) (k ∷ []) (oldest_first sent) (ap oldest_first (sym e))

-- whether the last reply that the master took, and the last one that the slave gave, is a RINT
abbrev pub taken_in : System → Bool
taken_in y = is_rint_kind y.sending.reversal.last

abbrev pub given_in : List ℕ → System → Bool
given_in b y = rint_given b y.receiving.received

-- all but what is stored
pub record Basis (b : List ℕ) (y : System) : Type 0 where
  pub accepted_first : FirstOf (oldest_first (accepted b y)) (oldest_first y.sending.sent)
  pub sent_first : FirstOf (oldest_first y.sending.sent) (started_blocks y.sending.started)
  pub count : Counts y.sending.started y.sending.done (accepted b y) y.sending.sent y.forward y.backward (taken_in y) (given_in b y) (count_in y.sending.master)
  pub good : Good y.sending.started y.sending.done (accepted b y)
  pub handed-is : handed b y ≡ messages_of (accepted b y)

pub basis : (b : List ℕ) (y : System) → StandOf b y → Basis b y
basis b y s =
    let bs = accepted b y in
    let ms = y.sending.started in
    record {
      accepted_first = first_accepted ms y.sending.done bs y.sending.sent y.forward y.backward (taken_in y) (given_in b y) (lag ms y.sending.done bs y.sending.sent y.forward y.backward (taken_in y) (given_in b y) y.sending.master s);
      sent_first = (sent_good ms y.sending.done bs y.sending.sent y.forward y.backward (taken_in y) (given_in b y) y.sending.master s).blocks;
      count = counts ms y.sending.done bs y.sending.sent y.forward y.backward (taken_in y) (given_in b y) y.sending.master s;
      good = stand_good ms y.sending.done bs y.sending.sent y.forward y.backward (taken_in y) (given_in b y) y.sending.master s;
      handed-is = (stands b y.receiving.received).messages;
    }

-- ---- the acts
harmless_unit : (v : Noise) (e : ℕ) → Duplicate e (damaged_unit v)
harmless_unit as_bad e = fine
harmless_unit as_enquiry e = fine
harmless_unit as_bare_enq e = fine

harmless_copy : (v : Noise) (u : Unit) → Copy u (damaged_unit v)
harmless_copy as_bad u = fine
harmless_copy as_enquiry u = fine
harmless_copy as_bare_enq u = fine

pub no_blocks : (bs : List Block) → length bs ≡ 0 → bs ≡ []
no_blocks [] h = refl
no_blocks (k ∷ bs) h = absurd (omega (arith, h))

before_first : (bs : List Block) → bs ≡ [] → precedes 0 (expected_after bs) ≡ true
unfolding expected_after precedes next_number
before_first bs h = rw h

-- ---- no RINT is given before a block is accepted
dup_no_rint : (e n : ℕ) (v : Turn) (i : Interrupt) → (n ≡ e → ⊥) → is_rint_kind (turn_after (ack_given e n i) v).last ≡ false
unfolding turn_after
dup_no_rint e n v Unasked h = refl
dup_no_rint e n v Pending h = rw (ne_eqb n e h)
dup_no_rint e n v Given h = refl

again_no_rint : (e : ℕ) (k : ReplyKind) (v : Turn) → is_rint_kind k ≡ false → is_rint_kind (turn_after (last_reply e k) v).last ≡ false
unfolding turn_after
again_no_rint e NoneYet v h = refl
again_no_rint e AckKind v h = refl
again_no_rint e NakKind v h = refl
again_no_rint e RintKind v h = absurd (true≢false h)

asked_no_rint : (k : ReplyKind) (i : Interrupt) → is_rint_kind k ≡ false → is_rint_kind (asked k i).last ≡ false
asked_no_rint k Unasked h = h
asked_no_rint k Pending h = h
asked_no_rint k Given h = h

unit_no_rint : (c : ℕ) (bs : List Block) (v : Turn) → (length bs ≡ 0 → is_rint_kind v.last ≡ false) → (u : Unit) → length (unit_after c bs u).blocks ≡ 0
    → is_rint_kind (turn_by c bs v u).last ≡ false
unfolding turn_after
unit_no_rint c bs v f (good n x t) =
    good_cases (λ (p : Past) (w : Reply). length p.blocks ≡ 0 → is_rint_kind (turn_after (open_given (expected_after bs) w v.interrupt) v).last ≡ false) c bs n x t
    record {
      neither = λ h. refl;
      duplicate = λ other d h. dup_no_rint (expected_after bs) n v v.interrupt other;
      too_long = λ same h. refl;
      accepted = λ same r h. absurd (omega (arith, h));
    }
unit_no_rint c bs v f bad = λ h. refl
unit_no_rint c bs v f enquiry = λ h. refl
unit_no_rint c bs v f eot = λ h. refl
unit_no_rint c bs v f bare_enq = λ h. again_no_rint (expected_after bs) v.last v (f h)
unit_no_rint c bs v f asks = λ h. asked_no_rint v.last v.interrupt (f h)

none_given : (c : ℕ) (us : List Unit) → length (past_of c us).blocks ≡ 0 → is_rint_kind (turn_of c us).last ≡ false
unfolding past_of turn_of
none_given c [] h = refl
none_given c (u ∷ us) h = go (none_given c us) (past_of c us).closed h
  where
    go : (length (past_of c us).blocks ≡ 0 → is_rint_kind (turn_of c us).last ≡ false) → (k : Bool) → length (cond k (past_of c us) (unit_after c (past_of c us).blocks u)).blocks ≡ 0
        → is_rint_kind (cond k fresh_turn (turn_by c (past_of c us).blocks (turn_of c us) u)).last ≡ false
    go f true q = refl
    go f false q = unit_no_rint c (past_of c us).blocks (turn_of c us) f u q

-- a closed station keeps nothing of its replies
closed-fresh : (c : ℕ) (us : List Unit) → (past_of c us).closed ≡ true → turn_of c us ≡ fresh_turn
closed-fresh c us h = sym (fresh-only (turn_of c us).last (turn_of c us).interrupt (subst (λ (k : Bool). turn_fits (station_of (record { blocks = (past_of c us).blocks; closed = k })) (turn_of c us) ≡ true) h (turn-fits c us)))

pub other : (r : Bool) → r ≡ false → Other (from r)
other true h = absurd (true≢false h)
other false h = in_old

module _ (b : List ℕ) where
  abbrev c : ℕ
  c = length b

  -- a station that was ended has accepted what it had, and given no RINT
  pub ended_same : (us : List Unit) → (past_of c (eot ∷ us)).blocks ≡ (past_of c us).blocks
  unfolding past_of
  ended_same us = cond_ind (λ (p : Past). p.blocks ≡ (past_of c us).blocks) (past_of c us).closed _ _ (λ h. refl) (λ h. refl)

  pub ended_none : (us : List Unit) → rint_given b (eot ∷ us) ≡ false
  unfolding turn_of
  ended_none us = cond_ind (λ (v : Turn). is_rint_kind v.last ≡ false) (past_of c us).closed _ _ (λ h. refl) (λ h. refl)

  -- so has one that is asked for a RINT accepted what it had, and its last reply is the same
  pub asks_same : (us : List Unit) → (past_of c (asks ∷ us)).blocks ≡ (past_of c us).blocks
  unfolding past_of
  asks_same us = cond_ind (λ (p : Past). p.blocks ≡ (past_of c us).blocks) (past_of c us).closed _ _ (λ h. refl) (λ h. refl)

  asked_last : (k : ReplyKind) (i : Interrupt) → (asked k i).last ≡ k
  asked_last k Unasked = refl
  asked_last k Pending = refl
  asked_last k Given = refl

  asks_given : (us : List Unit) → rint_given b (asks ∷ us) ≡ rint_given b us
  unfolding turn_of
  asks_given us =
      cond_ind (λ (v : Turn). is_rint_kind v.last ≡ rint_given b us) (past_of c us).closed _ _ (λ h. ap (λ (v : Turn). is_rint_kind v.last) (sym (closed-fresh c us h)))
      (λ h. ap is_rint_kind (asked_last (turn_of c us).last (turn_of c us).interrupt))

  module _ (y : System) (s : StandOf b y) where
    abbrev ms : List Started
    ms = y.sending.started

    abbrev d : ℕ
    d = y.sending.done

    abbrev bs : List Block
    bs = accepted b y

    abbrev sent : List Block
    sent = y.sending.sent

    abbrev m : Master
    m = y.sending.master

    abbrev r : Bool
    r = taken_in y

    abbrev z : Bool
    z = given_in b y

    forward_changed : (vs : List Unit) → ((e : ℕ) → All (Duplicate e) y.forward → All (Duplicate e) vs)
        → ((e : ℕ) (v : Unit) → Phases (Duplicate e) (Copy v) y.forward → Phases (Duplicate e) (Copy v) vs)
        → StandOf b (system y.sending y.receiving vs y.backward)
    forward_changed vs f g = forward_kept ms d bs sent y.forward y.backward r z vs f g m s

    backward_changed : (vs : List Response) → ((n : ℕ) → Behind n r z y.backward → Behind n r z vs)
        → ((n : ℕ) → Level n r z y.backward → Level n r z vs) → StandOf b (system y.sending y.receiving y.forward vs)
    backward_changed vs f g = backward_kept ms d bs sent y.forward y.backward r z vs r z f g m s

    -- a reply is damaged, or comes in by noise; it is a NAK only where no RINT was given
    damaged_kept : Quiet y → (n : ℕ) (nak gave : Bool) → y.receiving.gave_rint ≡ gave → StandOf b (system y.sending y.receiving y.forward (replaced_at n (damaged_reply nak gave) y.backward))
    damaged_kept q n true true e =
        backward_changed (replaced_at n Damaged y.backward) (λ k i. between_damaged k (even_end z) n (from r) y.backward i) (λ k i. between_damaged k (out_end z) n (from r) y.backward i)
    damaged_kept q n true false e =
        backward_changed (replaced_at n Nak y.backward) (λ k i. nak_replaced k (even_end z) n (from r) y.backward (other r (q e).1) (q e).0 i)
        (λ k i. nak_replaced k (out_end z) n (from r) y.backward (other r (q e).1) (q e).0 i)
    damaged_kept q n false gave e =
        backward_changed (replaced_at n Damaged y.backward) (λ k i. between_damaged k (even_end z) n (from r) y.backward i) (λ k i. between_damaged k (out_end z) n (from r) y.backward i)

    disturbed_kept : Quiet y → (n : ℕ) (nak gave : Bool) → y.receiving.gave_rint ≡ gave → StandOf b (system y.sending y.receiving y.forward (inserted_at n (damaged_reply nak gave) y.backward))
    disturbed_kept q n true true e =
        backward_changed (inserted_at n Damaged y.backward) (λ k i. between_disturbed k (even_end z) n (from r) y.backward i) (λ k i. between_disturbed k (out_end z) n (from r) y.backward i)
    disturbed_kept q n true false e =
        backward_changed (inserted_at n Nak y.backward) (λ k i. nak_inserted k (even_end z) n (from r) y.backward (other r (q e).1) (q e).0 i)
        (λ k i. nak_inserted k (out_end z) n (from r) y.backward (other r (q e).1) (q e).0 i)
    disturbed_kept q n false gave e =
        backward_changed (inserted_at n Damaged y.backward) (λ k i. between_disturbed k (even_end z) n (from r) y.backward i) (λ k i. between_disturbed k (out_end z) n (from r) y.backward i)

    -- what the slave has accepted, and whether its last reply is a RINT
    slave_as : (us : List Unit) (rs : List Response) (v : Bool) → (past_of c us).blocks ≡ bs → rint_given b us ≡ v → Stand ms d bs sent y.forward rs r v m
        → Stand ms d (past_of c us).blocks sent y.forward rs r (rint_given b us) m
    slave_as us rs v e f t = subst (λ (x : Bool). Stand ms d (past_of c us).blocks sent y.forward rs r x m) (sym f) (subst (λ (l : List Block). Stand ms d l sent y.forward rs r v m) (sym e) t)

    ended-kept : (sends : Bool) → StandOf b (link_act b (slave_ends sends) y)
    unfolding link_act
    ended-kept sends =
        cond_ind (StandOf b) y.receiving.opened _ _
        (λ h. slave_as (eot ∷ y.receiving.received) (y.backward ++ cond sends (Eot ∷ []) []) false (ended_same y.receiving.received) (ended_none y.receiving.received) (go sends)) (λ h. s)
      where
        go : (v : Bool) → Stand ms d bs sent y.forward (y.backward ++ cond v (Eot ∷ []) []) r false m
        go true = eot_added ms d bs sent y.forward y.backward r z m s
        go false =
            subst (λ (l : List Response). Stand ms d bs sent y.forward l r false m) (sym (append_none y.backward)) (forgotten ms d bs sent y.forward y.backward r z m s)

    -- ACK 0 has the number just before that of the first block
    granted_kept : (anew : Bool) → StandOf b (link_act b (grants anew) y)
    unfolding link_act past_of turn_of
    granted_kept anew = cond_ind (StandOf b) (may_grant b y.receiving) _ _ (λ h. go anew (fresh_blocks h)) (λ h. s)
      where
        fresh_blocks : may_grant b y.receiving ≡ true → bs ≡ []
        fresh_blocks h = no_blocks bs (eqb-true (length bs) 0 (and_right (not y.receiving.station_eot) _ h))

        given : bs ≡ [] → Stand ms d bs sent y.forward (y.backward ++ Ack 0 ∷ []) r false m
        given e = ack_added ms d bs sent y.forward y.backward r z 0 (before_first bs e) m s

        go : (v : Bool) → bs ≡ [] → Stand ms d (past_of c (cond v [] y.receiving.received)).blocks sent y.forward (y.backward ++ Ack 0 ∷ []) r (rint_given b (cond v [] y.receiving.received)) m
        go true e = slave_as [] (y.backward ++ Ack 0 ∷ []) false (sym e) refl (given e)
        go false e = slave_as y.receiving.received (y.backward ++ Ack 0 ∷ []) false refl (none_given c y.receiving.received (ap length e)) (given e)

    start_act : (t : List ℕ) (size : ℕ) → StandOf b (link_act b (starts t size) y)
    unfolding link_act answer_of
    start_act t size =
        cond_ind (StandOf b) (eqb (start_of (length t) size m).refusal 0) _ _
        (λ h. start_stands ms d bs sent y.forward z (record { message = t; size = size }) y.backward y.sending.reversal m s h) (λ h. s)

    -- what the slave's driver asks for leaves its replies as they are
    asked-kept : StandOf b (link_act b asks_rint y)
    unfolding link_act
    asked-kept = cond_ind (StandOf b) y.receiving.opened _ _ (λ h. slave_as (asks ∷ y.receiving.received) y.backward z same_blocks same_given s) (λ h. s)
      where
        same_blocks : (past_of c (asks ∷ y.receiving.received)).blocks ≡ bs
        same_blocks = asks_same y.receiving.received

        same_given : rint_given b (asks ∷ y.receiving.received) ≡ z
        same_given = asks_given y.receiving.received

  -- a unit arrives
  module _ (y : System) (u : Unit) (us : List Unit) where
    abbrev history : Past
    history = past_of c y.receiving.received

    abbrev turned : Turn
    turned = turn_of c y.receiving.received

    abbrev Before : Type 0
    Before = Stand y.sending.started y.sending.done (accepted b y) y.sending.sent (u ∷ us) y.backward (taken_in y) (given_in b y) y.sending.master

    arrived_stands : Before
        → Arrived y.sending.started y.sending.done y.sending.sent us y.backward (taken_in y) y.sending.master
        (cond history.closed history (unit_after c history.blocks u)) (cond history.closed fresh_turn (turn_by c history.blocks turned u)) (station_reply b y.receiving u)
    arrived_stands s =
        rw (replies b y.receiving.received u)
        (unit_arrives y.sending.started y.sending.done c (accepted b y) y.sending.sent us y.backward (taken_in y) y.sending.master history.closed u turned s)

    passed_by : Before → StandOf b (system y.sending y.receiving us y.backward)
    passed_by s = passed y.sending.started y.sending.done (accepted b y) y.sending.sent u us y.backward (taken_in y) (given_in b y) y.sending.master s

    pub arrive_kept : Before → StandOf b (arrived b (u ∷ us) y)
    unfolding past_of turn_of
    arrive_kept s = cond_ind (StandOf b) y.receiving.opened _ _ (λ h. (arrived_stands s).replied) (λ h. passed_by s)

    pub unstored_kept : Before → StandOf b (arrived_unstored b (u ∷ us) y)
    unfolding past_of
    unstored_kept s =
        cond_ind (StandOf b) y.receiving.opened _ _
        (λ h. subst (λ (x : Bool). Stand y.sending.started y.sending.done (past_of c (eot ∷ u ∷ y.receiving.received)).blocks y.sending.sent us (y.backward ++ refused_reply (station_reply b y.receiving u)) (taken_in y) x y.sending.master)
        (sym (ended_none (u ∷ y.receiving.received)))
        (subst (λ (l : List Block). Stand y.sending.started y.sending.done l y.sending.sent us (y.backward ++ refused_reply (station_reply b y.receiving u)) (taken_in y) false y.sending.master)
        (sym (ended_same (u ∷ y.receiving.received))) (arrived_stands s).unstored))
        (λ h. passed_by s)

  module _ (y : System) where
    abbrev There : List Unit → List Response → Type 0
    There us rs = Stand y.sending.started y.sending.done (accepted b y) y.sending.sent us rs (taken_in y) (given_in b y) y.sending.master

    arrives_act : (us : List Unit) → There us y.backward → y.forward ≡ us → StandOf b (arrived b us y)
    arrives_act [] s e = subst (λ (l : List Unit). There l y.backward) (sym e) s
    arrives_act (u ∷ us) s e = arrive_kept y u us s

    unstored_act : (us : List Unit) → There us y.backward → y.forward ≡ us → StandOf b (arrived_unstored b us y)
    unstored_act [] s e = subst (λ (l : List Unit). There l y.backward) (sym e) s
    unstored_act (u ∷ us) s e = unstored_kept y u us s

    reply_act : (rs : List Response) → There y.forward rs → y.backward ≡ rs → StandOf b (reply_arrived b rs y)
    reply_act [] s e = subst (λ (l : List Response). There y.forward l) (sym e) s
    reply_act (q ∷ rs) s e =
        reply_stands y.sending.started y.sending.done (accepted b y) y.sending.sent y.forward (given_in b y) q rs y.sending.reversal y.sending.master s

  pub act_kept : (x : LinkAct) (y : System) → Quiet y → StandOf b y → StandOf b (link_act b x y)
  unfolding link_act
  act_kept (starts t size) y q s = start_act y s t size
  act_kept timer_runs y q s =
      timer_stands y.sending.started y.sending.done (accepted b y) y.sending.sent y.forward (given_in b y) y.backward y.sending.reversal y.sending.master s
  act_kept closes y q s =
      close_stands y.sending.started y.sending.done (accepted b y) y.sending.sent y.forward (given_in b y) y.backward y.sending.reversal y.sending.master s
  act_kept master_eot y q s =
      forward_changed y s (y.forward ++ eot ∷ []) (λ e u. all-appended (Duplicate e) y.forward eot u fine) (λ e v u. new_behind (Duplicate e) (Copy v) y.forward eot u fine)
  act_kept enquires y q s =
      enquire_stands y.sending.started y.sending.done (accepted b y) y.sending.sent y.forward (given_in b y) y.backward y.sending.reversal y.sending.master s
  act_kept may_receive y q s =
      may_receive_stands y.sending.started y.sending.done (accepted b y) y.sending.sent y.forward (given_in b y) y.backward y.sending.reversal y.sending.master s
  act_kept slave_opens y q s = s
  act_kept (grants anew) y q s = granted_kept y s anew
  act_kept asks_rint y q s = asked-kept y s
  act_kept (slave_ends sends) y q s = ended-kept y s sends
  act_kept arrives y q s = arrives_act y y.forward s refl
  act_kept arrives_unstored y q s = unstored_act y y.forward s refl
  act_kept reply_arrives y q s = reply_act y y.backward s refl
  act_kept (loses n) y q s =
      forward_changed y s (lost_at n y.forward) (λ e u. all_lost (Duplicate e) n y.forward u) (λ e v u. phases_lost (Duplicate e) (Copy v) n y.forward u)
  act_kept (loses_reply n) y q s =
      backward_changed y s (lost_at n y.backward) (λ k i. between_lost k (even_end (given_in b y)) n (from (taken_in y)) y.backward i)
      (λ k i. between_lost k (out_end (given_in b y)) n (from (taken_in y)) y.backward i)
  act_kept (damages n v) y q s =
      forward_changed y s (replaced_at n (damaged_unit v) y.forward) (λ e u. all_replaced (Duplicate e) (damaged_unit v) (harmless_unit v e) n y.forward u)
      (λ e w u. phases_replaced (Duplicate e) (Copy w) (damaged_unit v) (harmless_unit v e) (harmless_copy v w) n y.forward u)
  act_kept (damages_reply n v) y q s = damaged_kept y s q n v y.receiving.gave_rint refl
  act_kept (disturbs n v) y q s =
      forward_changed y s (inserted_at n (damaged_unit v) y.forward) (λ e u. all_inserted (Duplicate e) (damaged_unit v) (harmless_unit v e) n y.forward u)
      (λ e w u. phases_inserted (Duplicate e) (Copy w) (damaged_unit v) (harmless_unit v e) (harmless_copy v w) n y.forward u)
  act_kept (disturbs_reply n v) y q s = disturbed_kept y s q n v y.receiving.gave_rint refl
  act_kept (repeats n) y q s =
      forward_changed y s (repeated_at n y.forward) (λ e u. all-repeated (Duplicate e) n y.forward u) (λ e v u. phases_repeated (Duplicate e) (Copy v) n y.forward u)
  act_kept (repeats_reply n) y q s =
      backward_changed y s (repeated_at n y.backward) (λ k i. between_repeated k (even_end (given_in b y)) n (from (taken_in y)) y.backward i)
      (λ k i. between_repeated k (out_end (given_in b y)) n (from (taken_in y)) y.backward i)

  begins_so : StandOf b beginning
  unfolding past_of turn_of answer_of oldest_first started_blocks messages_started text_held messages_of
  begins_so = idle refl refl (record { blocks = refl; held = refl; messages = refl }) refl none (end {lo = old_others} (omega arith))

  pub run_stands : (xs : List LinkAct) → StandOf b (link_run b beginning xs)
  unfolding link_run
  run_stands [] = begins_so
  run_stands (x ∷ xs) = act_kept x (link_run b beginning xs) (run_quiet b xs) (run_stands xs)
