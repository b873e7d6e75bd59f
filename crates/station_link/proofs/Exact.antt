-- The corollaries: when the count is exact, and which numbers arrive.
use mathlib.Core.Path.{◌≡◌, refl, sym, ap, ◌∙◌, subst}
use mathlib.Core.List.{List, [], ◌∷◌, ◌++◌}
use mathlib.Core.Bool.{Bool, true, false, cond, not, ◌||◌, true≢false}
use Prim.Native.Nat.{ℕ, suc, ◌+◌, ◌≤◌}
use native.Mathlib.Omega.{arith}
use lib.ListN.{length}
use lib.Dec.{leb, eqb}
use Rattle.lists.specs.Outcome.{need}
use Rattle.lists.proofs.Append.{append_none}
use Rattle.lists.proofs.Tests.{or_true, cond_ind, and_left}
use Rattle.station.specs.Station.{is_duplicate}
use Rattle.station.specs.declared.Ending.{Ending}
use Rattle.station.specs.declared.Reply.{Reply}
use Rattle.station.specs.declared.Reply.TheVariants.{NoReply, Ack as AckReply, Nak as NakReply, Eot as EotReply, Rint as RintReply}
use Rattle.station.specs.declared.ReplyKind.{ReplyKind}
use Rattle.station.specs.declared.ReplyKind.TheVariants.{NoneYet, Ack as AckKind, Nak as NakKind, Rint as RintKind}
use Rattle.station.specs.declared.Interrupt.{Interrupt}
use Rattle.station.specs.declared.Interrupt.TheVariants.{Unasked, Pending, Given}
use Rattle.station.specs.declared.Turn.{Turn}
use Rattle.station.specs.Interrupt.{open_given, last_reply}
use Rattle.station.specs.History.{Unit, good, bad, enquiry, eot, bare_enq, asks, Block, block, expected_after, messages_of, Past, past, fits, unit_after, past_of, plain_reply, open_reply, reply_of, turn_of}
use Rattle.station.specs.Retransmission.{in_order}
use Rattle.station.proofs.History.{stands, replies}
use Rattle.master.specs.Master.{block_number, is_last, start_of}
use Rattle.master.specs.Reversal.{answer_of, refuses_rint, may_receive_of, start_answer, reply_answer, timer_answer, close_answer, enquire_answer, count_in}
use Rattle.master.specs.declared.MasterAnswer.{MasterAnswer}
use Rattle.master.specs.declared.Outstanding.{Outstanding}
use Rattle.master.specs.declared.Master.{Master}
use Rattle.master.specs.declared.Master.TheVariants.{Closed, Idle, Waiting}
use Rattle.master.specs.declared.Response.{Response}
use Rattle.master.specs.declared.Response.TheVariants.{Ack, Nak, Eot, Damaged, Rint}
use Rattle.master.specs.declared.End.{End}
use Rattle.master.specs.declared.End.TheVariants.{NotEnded, Failed, BySlave, ByDriver, Reversed}
use Rattle.station_link.specs.System.{damaged_reply, Started, Receiving, System, system, beginning, message_out, done_after, end_after, master_did, state_in, responses_of, is_eot, is_rint, refused_reply, is_replaced, receiving_after, opened_receiving}
use Rattle.station_link.specs.System.{LinkAct, starts, timer_runs, closes, master_eot, enquires, may_receive, slave_opens, grants, asks_rint, slave_ends, arrives, arrives_unstored, reply_arrives, loses, loses_reply, repeats, repeats_reply, damages, damages_reply, disturbs, disturbs_reply}
use Rattle.station_link.specs.System.{station_reply, stored_after, arrived, arrived_unstored, reply_arrived, may_grant, link_act, link_run}
use Rattle.station_link.specs.Promise.{accepted, handed, Exact, OneShort, failed, refused, Ends, OneOfTwo, expected_one, one_before, Numbered}
use Rattle.station_link.proofs.Queues.{Fine, fine, All, none, also, all-appended, all_as, all_lost, all-repeated, all_replaced, all_inserted}
use Rattle.station_link.proofs.Content.{AllSent, Partly, started_length, last_complete, whole_messages}
use Rattle.station_link.proofs.Stretches.{Stretch, old_rints, old_others, new_rints, new_others, old_ack_lem, new_ack, Between, next as then}
use Rattle.station_link.proofs.Invariant.{from, even_end, out_end, Stand, StandOf, idle, pending, taken}
use Rattle.station_link.proofs.SlaveSteps.{Arriving, duplicate, next, arriving, dup_reply}
use Rattle.station_link.proofs.Quiet.{run_quiet}
use Rattle.station_link.proofs.Safety.{taken_in, given_in, Counts, counts, Lag, all-accepted, all_but_one, lag, ended_same, asks_same, run_stands, act_kept}
use Rattle.station_link.proofs.Stored.{stays_closed}
use Rattle.station_link.proofs.Ends.{is_closed, Told, Idled, ToldAfter, timer_told, close_told, enquire_told, may_told, reply_told, start_told, reply_grows, timer_grows, close_grows, enquire_grows, may_grows, start_grows, Finished, IdleDone, timer_finished, close_finished, enquire_finished, may_finished, reply_finished, start_finished}

-- an EOT on the line back was put there by the station or by its driver
abbrev EotKnown : Bool → Response → Type 0
EotKnown eots (Ack n) = Fine
EotKnown eots Nak = Fine
EotKnown eots Eot = eots ≡ true
EotKnown eots Damaged = Fine
EotKnown eots Rint = Fine

harmless_known : (v g e : Bool) → EotKnown e (damaged_reply v g)
harmless_known true true e = fine
harmless_known true false e = fine
harmless_known false g e = fine

or_more : (u v a d : Bool) → (a || d) ≡ true → ((u || a) || (v || d)) ≡ true
or_more true v a d h = refl
or_more false v true d h = refl
or_more false true false d h = refl
or_more false false false d h = h

known_more : (e f : Bool) → (e ≡ true → f ≡ true) → (r : Response) → EotKnown e r → EotKnown f r
known_more e f g (Ack n) k = fine
known_more e f g Nak k = fine
known_more e f g Eot k = g k
known_more e f g Damaged k = fine
known_more e f g Rint k = fine

told_more : (e f : Bool) → (e ≡ true → f ≡ true) → (d : End) (m : Master) (sent : List Block) (n : ℕ) → Told d m sent n e → Told d m sent n f
told_more e f g NotEnded m sent n t = t
told_more e f g Failed m sent n t = t
told_more e f g BySlave m sent n t = (t.0, g t.1)
told_more e f g ByDriver m sent n t = t
told_more e f g Reversed m sent n t = t

abbrev number_in : Unit → ℕ
number_in (good n x t) = n
number_in bad = 0
number_in enquiry = 0
number_in eot = 0
number_in bare_enq = 0
number_in asks = 0

all_messages : (ms : List Started) (bs : List Block) → AllSent ms bs → length (messages_of bs) ≡ length ms
all_messages ms bs k = ap length k.messages ∙ started_length ms

module _ (b : List ℕ) where
  abbrev c : ℕ
  c = length b

  abbrev eots : System → Bool
  eots y = y.receiving.station_eot || y.receiving.driver_eot

  pub record EndsKept (y : System) : Type 0 where
    pub stand : StandOf b y
    pub closed : y.receiving.station_eot ≡ true → (past_of c y.receiving.received).closed ≡ true
    pub exact : y.receiving.station_eot ≡ true → length (accepted b y) ≡ count_in y.sending.master
    pub known : All (EotKnown (eots y)) y.backward
    pub told : Told y.sending.ended y.sending.master y.sending.sent y.sending.done (eots y)
    pub finished : Finished y.sending.ended y.sending.started y.sending.done

  stand_counts : (y : System) → StandOf b y → Counts y.sending.started y.sending.done (accepted b y) y.sending.sent y.forward y.backward (taken_in y) (given_in b y) (count_in y.sending.master)
  stand_counts y s = counts y.sending.started y.sending.done (accepted b y) y.sending.sent y.forward y.backward (taken_in y) (given_in b y) y.sending.master s

  -- the messages in what was sent
  module _ {ms : List Started} {sent : List Block} {o : Outstanding} {d : ℕ} (p : Partly ms sent o) where
    last_done : is_last o ≡ true → d ≡ length p.earlier → length (messages_of sent) ≡ suc d
    last_done i h = let n = ap length p.begun in all_messages ms sent (last_complete ms sent o p i) ∙ omega (arith, n, h)

    none_done : is_last o ≡ false → d ≡ length p.earlier → length (messages_of sent) ≡ d
    none_done i h = ap length (whole_messages ms sent o p i) ∙ ap length p.messages ∙ started_length p.earlier ∙ sym h

  idled : (y : System) → StandOf b y → Idled y.sending.master y.sending.sent y.sending.done
  idled y s = go y.sending.master s
    where
      go : (m : Master) → Stand y.sending.started y.sending.done (accepted b y) y.sending.sent y.forward y.backward (taken_in y) (given_in b y) m → Idled m y.sending.sent y.sending.done
      go (Closed a) t = fine
      go (Idle a) (idle e l k h u r) = (ap length e ∙ l, ap (λ (bs : List Block). length (messages_of bs)) e ∙ all_messages y.sending.started (accepted b y) k ∙ sym h)
      go (Waiting o) (pending p v e l h u w) = (let n = ap length p.out in let q = ap length e in omega (arith, n, q, l), (λ i. last_done p i h, λ i. none_done p i h))
      go (Waiting o) (taken p v e l h u w) = (let n = ap length p.out in omega (arith, n, l), (λ i. last_done p i h, λ i. none_done p i h))

  idle_done_all : (y : System) → StandOf b y → IdleDone y.sending.master y.sending.started y.sending.done
  idle_done_all y s = go y.sending.master s
    where
      go : (m : Master) → Stand y.sending.started y.sending.done (accepted b y) y.sending.sent y.forward y.backward (taken_in y) (given_in b y) m → IdleDone m y.sending.started y.sending.done
      go (Closed a) t = fine
      go (Idle a) (idle e l k h u r) = h
      go (Waiting o) t = fine

  -- ---- the master acts: what the slave accepted stays
  module _ (y : System) (k : EndsKept y) (a : MasterAnswer) (ms : List Started) (rs : List Response)
      (grows : count_in y.sending.master ≤ count_in a.acted.master)
      (known : All (EotKnown (eots y)) rs)
      (told : ToldAfter (message_out ms) y.sending.ended y.sending.sent y.sending.done (eots y) a.acted)
      (finished : Finished (end_after a.acted.end y.sending.ended) ms (done_after a.acted.progress y.sending.done)) where
    pub master_kept : StandOf b (master_did a ms (system y.sending y.receiving y.forward rs)) → EndsKept (master_did a ms (system y.sending y.receiving y.forward rs))
    master_kept s =
        let n = (stand_counts (master_did a ms (system y.sending y.receiving y.forward rs)) s).most in
        record {
          stand = s;
          closed = k.closed;
          exact = λ h. let x = k.exact h in omega (arith, x, grows, n);
          known = known;
          told = told;
          finished = finished;
        }

  -- ---- only the lines change
  module _ (y : System) (k : EndsKept y) (us : List Unit) (rs : List Response) where
    line_kept : All (EotKnown (eots y)) rs → StandOf b (system y.sending y.receiving us rs) → EndsKept (system y.sending y.receiving us rs)
    line_kept known s = record { stand = s; closed = k.closed; exact = k.exact; known = known; told = k.told; finished = k.finished }

  -- ---- the station gives EOT only where the expected block does not fit: it has closed, and has accepted what it had
  record Closes (bs : List Block) (p : Past) : Type 0 where
    now_closed : p.closed ≡ true
    same : p.blocks ≡ bs

  good_closes : (bs : List Block) (n : ℕ) (x : Ending) (t : List ℕ) (v e f d : Bool)
      → is_eot (need v NakReply (cond e (need f EotReply (AckReply n)) (cond d (AckReply n) NakReply))) ≡ true
      → Closes bs (cond e (need f (past bs true) (past (block x t ∷ bs) false)) (past bs false))
  good_closes bs n x t true true false d h = record { now_closed = refl; same = refl }
  good_closes bs n x t true true true d h = absurd (true≢false (sym h))
  good_closes bs n x t true false f true h = absurd (true≢false (sym h))
  good_closes bs n x t true false f false h = absurd (true≢false (sym h))
  good_closes bs n x t false e f d h = absurd (true≢false (sym h))

  -- RINT in place of an ACK is no EOT
  given_eot : (e : ℕ) (w : Reply) (i : Interrupt) → is_eot (open_given e w i) ≡ is_eot w
  given_eot e NoReply i = refl
  given_eot e (AckReply n) Unasked = refl
  given_eot e (AckReply n) Pending = cond_ind (λ (w : Reply). is_eot w ≡ false) (eqb n e) RintReply (AckReply n) (λ h. refl) (λ h. refl)
  given_eot e (AckReply n) Given = refl
  given_eot e NakReply i = refl
  given_eot e EotReply i = refl
  given_eot e RintReply i = refl

  again_no_eot : (e : ℕ) (k : ReplyKind) → is_eot (last_reply e k) ≡ false
  again_no_eot e NoneYet = refl
  again_no_eot e AckKind = refl
  again_no_eot e NakKind = refl
  again_no_eot e RintKind = refl

  open_closes : (bs : List Block) (v : Turn) (u : Unit) → is_eot (open_reply c bs v u) ≡ true → Closes bs (unit_after c bs u)
  open_closes bs v (good n x t) h =
      good_closes bs n x t (leb n 7) (eqb n (expected_after bs)) (fits c bs t) (is_duplicate (expected_after bs) n)
      (sym (given_eot (expected_after bs) (plain_reply c bs (good n x t)) v.interrupt) ∙ h)
  open_closes bs v bad h = absurd (true≢false (sym h))
  open_closes bs v enquiry h = absurd (true≢false (sym h))
  open_closes bs v eot h = absurd (true≢false (sym h))
  open_closes bs v bare_enq h = absurd (true≢false (sym h ∙ again_no_eot (expected_after bs) v.last))
  open_closes bs v asks h = absurd (true≢false (sym h))

  -- then the block was not counted either
  module _ (ms : List Started) (d : ℕ) (bs sent : List Block) (us : List Unit) (rs : List Response) (r z : Bool) (m : Master) (v : Turn) where
    good_uncounted : (n : ℕ) (x : Ending) (t : List ℕ) → Stand ms d bs sent (good n x t ∷ us) rs r z m → is_eot (open_reply c bs v (good n x t)) ≡ true → length bs ≡ count_in m
    good_uncounted n x t s h = go (arriving ms d bs sent (good n x t) us rs r z n x t refl m s)
      where
        go : Arriving ms d bs sent (good n x t) us rs r z n x t m → length bs ≡ count_in m
        go (duplicate q) = absurd (true≢false (sym h ∙ ap is_eot (dup_reply c bs n x t q v)))
        go (next k e s2) =
            let f = (counts ms d bs sent (good n x t ∷ us) rs r z m s).most in
            let g = (counts ms d (k ∷ bs) sent us rs r false m (s2 false)).least in
            omega (arith, f, g)

    uncounted : (u : Unit) → Stand ms d bs sent (u ∷ us) rs r z m → is_eot (open_reply c bs v u) ≡ true → length bs ≡ count_in m
    uncounted (good n x t) s h = good_uncounted n x t s h
    uncounted bad s h = absurd (true≢false (sym h))
    uncounted enquiry s h = absurd (true≢false (sym h))
    uncounted eot s h = absurd (true≢false (sym h))
    uncounted bare_enq s h = absurd (true≢false (sym h ∙ again_no_eot (expected_after bs) v.last))
    uncounted asks s h = absurd (true≢false (sym h))

  -- ---- a unit arrives
  record Settled (bs : List Block) (m : Master) (p : Past) : Type 0 where
    shut : p.closed ≡ true
    even : length p.blocks ≡ count_in m

  module _ (ms : List Started) (d : ℕ) (bs sent : List Block) (us : List Unit) (rs : List Response) (r z : Bool) (m : Master) (v : Turn) (u : Unit)
      (s : Stand ms d bs sent (u ∷ us) rs r z m) where
    by_eot : (k : Bool) → is_eot (reply_of c (past bs k) v u) ≡ true → Settled bs m (cond k (past bs k) (unit_after c bs u))
    by_eot true h = absurd (true≢false (sym h))
    by_eot false h =
        let x = open_closes bs v u h in
        record { shut = x.now_closed; even = ap length x.same ∙ uncounted ms d bs sent us rs r z m v u s h }

    by_closed : (k : Bool) → k ≡ true → length bs ≡ count_in m → Settled bs m (cond k (past bs k) (unit_after c bs u))
    by_closed true h e = record { shut = refl; even = e }
    by_closed false h e = absurd (true≢false (sym h))

    settled : (k w a : Bool) → w ≡ is_eot (reply_of c (past bs k) v u) → (a ≡ true → k ≡ true) → (a ≡ true → length bs ≡ count_in m) → (w || a) ≡ true
        → Settled bs m (cond k (past bs k) (unit_after c bs u))
    settled k true a e f g h = by_eot k (sym e)
    settled k false a e f g h = by_closed k (f h) (g h)

  replied_known : (w : Reply) (a d : Bool) (rs : List Response) → All (EotKnown (a || d)) rs → All (EotKnown ((is_eot w || a) || (false || d))) (rs ++ responses_of w)
  replied_known NoReply a d rs i = subst (All (EotKnown (a || d))) (sym (append_none rs)) i
  replied_known (AckReply n) a d rs i = all-appended (EotKnown (a || d)) rs (Ack n) i fine
  replied_known NakReply a d rs i = all-appended (EotKnown (a || d)) rs Nak i fine
  replied_known RintReply a d rs i = all-appended (EotKnown (a || d)) rs Rint i fine
  replied_known EotReply a d rs i = all-appended (EotKnown true) rs Eot (all_as (EotKnown (a || d)) (EotKnown true) (known_more (a || d) true (λ h. refl)) rs i) refl

  all_known : (rs : List Response) (e : Bool) → All (EotKnown e) rs → All (EotKnown true) rs
  all_known rs e i = all_as (EotKnown e) (EotKnown true) (known_more e true (λ h. refl)) rs i

  -- an EOT in place of a reply is the driver's, unless the station gave it
  unstored_known : (w : Reply) (a d : Bool) (rs : List Response) → All (EotKnown (a || d)) rs → All (EotKnown ((is_eot w || a) || (is_replaced w || d))) (rs ++ refused_reply w)
  unstored_known NoReply a d rs i = subst (All (EotKnown (a || d))) (sym (append_none rs)) i
  unstored_known (AckReply n) a d rs i =
      subst (λ (e : Bool). All (EotKnown e) (rs ++ Eot ∷ [])) (sym (or_true a)) (all-appended (EotKnown true) rs Eot (all_known rs (a || d) i) refl)
  unstored_known NakReply a d rs i =
      subst (λ (e : Bool). All (EotKnown e) (rs ++ Eot ∷ [])) (sym (or_true a)) (all-appended (EotKnown true) rs Eot (all_known rs (a || d) i) refl)
  unstored_known RintReply a d rs i =
      subst (λ (e : Bool). All (EotKnown e) (rs ++ Eot ∷ [])) (sym (or_true a)) (all-appended (EotKnown true) rs Eot (all_known rs (a || d) i) refl)
  unstored_known EotReply a d rs i = all-appended (EotKnown true) rs Eot (all_known rs (a || d) i) refl

  module _ (y : System) (k : EndsKept y) (u : Unit) (us : List Unit) (on : y.forward ≡ u ∷ us) where
    abbrev r : Receiving
    r = y.receiving

    abbrev history : Past
    history = past_of c r.received

    abbrev w : Reply
    w = station_reply b r u

    there : Stand y.sending.started y.sending.done (accepted b y) y.sending.sent (u ∷ us) y.backward (taken_in y) (given_in b y) y.sending.master
    there = subst (λ (l : List Unit). Stand y.sending.started y.sending.done (accepted b y) y.sending.sent l y.backward (taken_in y) (given_in b y) y.sending.master) on k.stand

    after_unit : (is_eot w || r.station_eot) ≡ true → Settled (accepted b y) y.sending.master (cond history.closed history (unit_after c history.blocks u))
    after_unit h =
        settled y.sending.started y.sending.done (accepted b y) y.sending.sent us y.backward (taken_in y) (given_in b y) y.sending.master (turn_of c r.received) u there history.closed (is_eot w) r.station_eot
        (ap is_eot (replies b r.received u)) k.closed k.exact h

    pub arrive_ends : StandOf b (arrived b (u ∷ us) y) → EndsKept (arrived b (u ∷ us) y)
    unfolding past_of
    arrive_ends = go r.opened
      where
        go : (v : Bool)
            → StandOf b (cond v (system y.sending (receiving_after (u ∷ []) (stored_after b r u) (is_eot w) false (is_rint w) r) us (y.backward ++ responses_of w)) (system y.sending r us y.backward))
            → EndsKept (cond v (system y.sending (receiving_after (u ∷ []) (stored_after b r u) (is_eot w) false (is_rint w) r) us (y.backward ++ responses_of w)) (system y.sending r us y.backward))
        go true s =
            record {
              stand = s;
              closed = λ h. (after_unit h).shut;
              exact = λ h. (after_unit h).even;
              known = replied_known w r.station_eot r.driver_eot y.backward k.known;
              told = told_more (eots y) ((is_eot w || r.station_eot) || (false || r.driver_eot)) (or_more (is_eot w) false r.station_eot r.driver_eot) y.sending.ended y.sending.master y.sending.sent y.sending.done k.told;
              finished = k.finished;
            }
        go false s = line_kept y k us y.backward k.known s

    pub unstored_ends : StandOf b (arrived_unstored b (u ∷ us) y) → EndsKept (arrived_unstored b (u ∷ us) y)
    unfolding past_of
    unstored_ends = go r.opened
      where
        last : Past
        last = cond history.closed history (unit_after c history.blocks u)

        shut : (cond last.closed last (past last.blocks true)).closed ≡ true
        shut = cond_ind (λ (p : Past). p.closed ≡ true) last.closed _ _ (λ h. h) (λ h. refl)

        go : (v : Bool)
            → StandOf b (cond v (system y.sending (receiving_after (eot ∷ u ∷ []) r.stored (is_eot w) (is_replaced w) false r) us (y.backward ++ refused_reply w)) (system y.sending r us y.backward))
            → EndsKept (cond v (system y.sending (receiving_after (eot ∷ u ∷ []) r.stored (is_eot w) (is_replaced w) false r) us (y.backward ++ refused_reply w)) (system y.sending r us y.backward))
        go true s =
            record {
              stand = s;
              closed = λ h. shut;
              exact = λ h. ap length (ended_same b (u ∷ r.received)) ∙ (after_unit h).even;
              known = unstored_known w r.station_eot r.driver_eot y.backward k.known;
              told = told_more (eots y) ((is_eot w || r.station_eot) || (is_replaced w || r.driver_eot)) (or_more (is_eot w) (is_replaced w) r.station_eot r.driver_eot) y.sending.ended y.sending.master y.sending.sent y.sending.done k.told;
              finished = k.finished;
            }
        go false s = line_kept y k us y.backward k.known s

  module _ (y : System) (k : EndsKept y) where
    abbrev rec : Receiving
    rec = y.receiving

    ended_ends : (sends : Bool) → StandOf b (link_act b (slave_ends sends) y) → EndsKept (link_act b (slave_ends sends) y)
    unfolding link_act past_of
    ended_ends sends = go rec.opened
      where
        past_now : Past
        past_now = past_of c rec.received

        shut : (cond past_now.closed past_now (past past_now.blocks true)).closed ≡ true
        shut = cond_ind (λ (p : Past). p.closed ≡ true) past_now.closed _ _ (λ h. h) (λ h. refl)

        sent_known : (v a d : Bool) → All (EotKnown (a || d)) y.backward → All (EotKnown (a || (v || d))) (y.backward ++ cond v (Eot ∷ []) [])
        sent_known true a d i =
            subst (λ (e : Bool). All (EotKnown e) (y.backward ++ Eot ∷ [])) (sym (or_true a)) (all-appended (EotKnown true) y.backward Eot (all_known y.backward (a || d) i) refl)
        sent_known false a d i = subst (All (EotKnown (a || d))) (sym (append_none y.backward)) i

        go : (v : Bool)
            → StandOf b (cond v (system y.sending (receiving_after (eot ∷ []) rec.stored false sends false rec) y.forward (y.backward ++ cond sends (Eot ∷ []) [])) y)
            → EndsKept (cond v (system y.sending (receiving_after (eot ∷ []) rec.stored false sends false rec) y.forward (y.backward ++ cond sends (Eot ∷ []) [])) y)
        go true s =
            record {
              stand = s;
              closed = λ h. shut;
              exact = λ h. ap length (ended_same b rec.received) ∙ k.exact h;
              known = sent_known sends rec.station_eot rec.driver_eot k.known;
              told = told_more (eots y) (rec.station_eot || (sends || rec.driver_eot)) (or_more false sends rec.station_eot rec.driver_eot) y.sending.ended y.sending.master y.sending.sent y.sending.done k.told;
              finished = k.finished;
            }
        go false s = k

    granted_ends : (anew : Bool) → StandOf b (link_act b (grants anew) y) → EndsKept (link_act b (grants anew) y)
    unfolding link_act past_of
    granted_ends anew = go anew (may_grant b rec) refl
      where
        no_eot : may_grant b rec ≡ true → rec.station_eot ≡ true → ⊥
        no_eot f h = true≢false (sym (and_left (not rec.station_eot) _ f) ∙ ap not h)

        opens : (anew : Bool) → System
        opens anew = system y.sending (opened_receiving (cond anew [] rec.received) rec) y.forward (y.backward ++ Ack 0 ∷ [])

        go : (anew v : Bool) → may_grant b rec ≡ v → StandOf b (cond v (opens anew) y) → EndsKept (cond v (opens anew) y)
        go anew true f s =
            record {
              stand = s;
              closed = λ h. absurd (no_eot f h);
              exact = λ h. absurd (no_eot f h);
              known = all-appended (EotKnown (eots y)) y.backward (Ack 0) k.known fine;
              told = k.told;
              finished = k.finished;
            }
        go anew false f s = k

    asked_ends : StandOf b (link_act b asks_rint y) → EndsKept (link_act b asks_rint y)
    unfolding link_act
    asked_ends = go rec.opened
      where
        go : (v : Bool) → StandOf b (cond v (system y.sending (receiving_after (asks ∷ []) rec.stored false false false rec) y.forward y.backward) y)
            → EndsKept (cond v (system y.sending (receiving_after (asks ∷ []) rec.stored false false false rec) y.forward y.backward) y)
        go true s =
            record {
              stand = s;
              closed = λ h. stays_closed b asks rec.received (k.closed h);
              exact = λ h. ap length (asks_same b rec.received) ∙ k.exact h;
              known = k.known;
              told = k.told;
              finished = k.finished;
            }
        go false s = k

    start_ends : (t : List ℕ) (size : ℕ) → StandOf b (link_act b (starts t size) y) → EndsKept (link_act b (starts t size) y)
    unfolding link_act answer_of
    start_ends t size = go (eqb (start_of (length t) size y.sending.master).refusal 0) refl
      where
        go : (v : Bool) → eqb (start_of (length t) size y.sending.master).refusal 0 ≡ v
            → StandOf b (cond v (master_did (start_answer (length t) size (state_in y)) (record { message = t; size = size } ∷ y.sending.started) y) y)
            → EndsKept (cond v (master_did (start_answer (length t) size (state_in y)) (record { message = t; size = size } ∷ y.sending.started) y) y)
        go true z s =
            master_kept y k (start_answer (length t) size (state_in y)) (record { message = t; size = size } ∷ y.sending.started) y.backward
            (start_grows (length t) size y.sending.master) k.known
            (start_told t y.sending.ended y.sending.sent y.sending.done (eots y) y.sending.master (length t) size k.told)
            (start_finished y.sending.started y.sending.done y.sending.ended y.sending.sent (eots y) (length t) size (record { message = t; size = size }) y.sending.master k.told z) s
        go false z s = k

  head_known : (e : Bool) (q : Response) (rs : List Response) → All (EotKnown e) (q ∷ rs) → q ≡ Eot → e ≡ true
  head_known e q rs (also p i) h = subst (EotKnown e) h p

  tail_known : (e : Bool) (q : Response) (rs : List Response) → All (EotKnown e) (q ∷ rs) → All (EotKnown e) rs
  tail_known e q rs (also p i) = i

  reply_ends : (y : System) (rs : List Response) → y.backward ≡ rs → EndsKept y → StandOf b (reply_arrived b rs y) → EndsKept (reply_arrived b rs y)
  unfolding answer_of
  reply_ends y [] on k s = k
  reply_ends y (q ∷ rs) on k s =
      let i = subst (All (EotKnown (eots y))) on k.known in
      let v = y.sending.reversal in
      master_kept y k (reply_answer q (state_in y)) y.sending.started rs (reply_grows v (refuses_rint v) q y.sending.master) (tail_known (eots y) q rs i)
      (reply_told (message_out y.sending.started) y.sending.ended y.sending.sent y.sending.done (eots y) v (refuses_rint v) y.sending.master q (head_known (eots y) q rs i) (idled y k.stand) k.told)
      (reply_finished y.sending.started y.sending.done y.sending.ended y.sending.sent (eots y) v (refuses_rint v) q y.sending.master k.told k.finished) s

  arrives_ends : (y : System) (us : List Unit) → y.forward ≡ us → EndsKept y → StandOf b (arrived b us y) → EndsKept (arrived b us y)
  arrives_ends y [] on k s = k
  arrives_ends y (u ∷ us) on k s = arrive_ends y k u us on s

  unstored_all : (y : System) (us : List Unit) → y.forward ≡ us → EndsKept y → StandOf b (arrived_unstored b us y) → EndsKept (arrived_unstored b us y)
  unstored_all y [] on k s = k
  unstored_all y (u ∷ us) on k s = unstored_ends y k u us on s

  act_ends : (x : LinkAct) (y : System) → EndsKept y → StandOf b (link_act b x y) → EndsKept (link_act b x y)
  unfolding link_act answer_of
  act_ends (starts t size) y k s = start_ends y k t size s
  act_ends timer_runs y k s =
      master_kept y k (timer_answer (state_in y)) y.sending.started y.backward (timer_grows y.sending.master) k.known
      (timer_told (message_out y.sending.started) y.sending.ended y.sending.sent y.sending.done (eots y) y.sending.master k.told)
      (timer_finished y.sending.started y.sending.done y.sending.ended y.sending.sent (eots y) y.sending.master k.told k.finished) s
  act_ends closes y k s =
      master_kept y k (close_answer (state_in y)) y.sending.started y.backward (close_grows y.sending.master) k.known
      (close_told (message_out y.sending.started) y.sending.ended y.sending.sent y.sending.done (eots y) y.sending.master (idled y k.stand) k.told)
      (close_finished y.sending.started y.sending.done y.sending.ended y.sending.sent (eots y) y.sending.master (idle_done_all y k.stand) k.finished) s
  act_ends master_eot y k s = line_kept y k _ y.backward k.known s
  act_ends enquires y k s =
      master_kept y k (enquire_answer (state_in y)) y.sending.started y.backward (enquire_grows y.sending.master) k.known
      (enquire_told (message_out y.sending.started) y.sending.ended y.sending.sent y.sending.done (eots y) y.sending.master k.told)
      (enquire_finished y.sending.started y.sending.done y.sending.ended y.sending.sent (eots y) y.sending.master k.finished) s
  act_ends may_receive y k s =
      master_kept y k (may_receive_of (state_in y)) y.sending.started y.backward (may_grows y.sending.master y.sending.reversal) k.known
      (may_told (message_out y.sending.started) y.sending.ended y.sending.sent y.sending.done (eots y) y.sending.master y.sending.reversal (idled y k.stand) k.told)
      (may_finished y.sending.started y.sending.done y.sending.ended y.sending.sent (eots y) y.sending.master y.sending.reversal k.finished) s
  act_ends slave_opens y k s = record { stand = s; closed = k.closed; exact = k.exact; known = k.known; told = k.told; finished = k.finished }
  act_ends (grants anew) y k s = granted_ends y k anew s
  act_ends asks_rint y k s = asked_ends y k s
  act_ends (slave_ends sends) y k s = ended_ends y k sends s
  act_ends (repeats n) y k s = line_kept y k _ y.backward k.known s
  act_ends (repeats_reply n) y k s = line_kept y k y.forward _ (all-repeated (EotKnown (eots y)) n y.backward k.known) s
  act_ends arrives y k s = arrives_ends y y.forward refl k s
  act_ends arrives_unstored y k s = unstored_all y y.forward refl k s
  act_ends reply_arrives y k s = reply_ends y y.backward refl k s
  act_ends (loses n) y k s = line_kept y k _ y.backward k.known s
  act_ends (loses_reply n) y k s = line_kept y k y.forward _ (all_lost (EotKnown (eots y)) n y.backward k.known) s
  act_ends (damages n v) y k s = line_kept y k _ y.backward k.known s
  act_ends (damages_reply n v) y k s =
      line_kept y k y.forward _ (all_replaced (EotKnown (eots y)) (damaged_reply v y.receiving.gave_rint) (harmless_known v y.receiving.gave_rint (eots y)) n y.backward k.known) s
  act_ends (disturbs n v) y k s = line_kept y k _ y.backward k.known s
  act_ends (disturbs_reply n v) y k s =
      line_kept y k y.forward _ (all_inserted (EotKnown (eots y)) (damaged_reply v y.receiving.gave_rint) (harmless_known v y.receiving.gave_rint (eots y)) n y.backward k.known) s

  run_ends : (xs : List LinkAct) → EndsKept (link_run b beginning xs)
  unfolding link_run answer_of
  run_ends [] =
      record { stand = run_stands b []; closed = λ h. absurd (true≢false (sym h)); exact = λ h. absurd (true≢false (sym h)); known = none; told = refl; finished = fine }
  run_ends (x ∷ xs) = act_ends x (link_run b beginning xs) (run_ends xs) (act_kept b x (link_run b beginning xs) (run_quiet b xs) (run_ends xs).stand)

  -- ---- what follows
  module _ (y : System) (k : EndsKept y) where
    abbrev count : ℕ
    count = count_in y.sending.master

    -- all that was sent is counted
    all-counted : length y.sending.sent ≡ count → Exact b y
    all-counted h = go (lag y.sending.started y.sending.done (accepted b y) y.sending.sent y.forward y.backward (taken_in y) (given_in b y) y.sending.master k.stand)
      where
        most : count ≤ length (accepted b y)
        most = (stand_counts y k.stand).most

        go : Lag y.sending.started y.sending.done (accepted b y) y.sending.sent y.forward y.backward (taken_in y) (given_in b y) → Exact b y
        go (all-accepted e) = sym h ∙ ap length e
        go (all_but_one z e) = let n = ap length e in absurd (omega (arith, n, h, most))

    idle_is : (a : ℕ) → y.sending.master ≡ Idle a → Exact b y
    idle_is a e = all-counted ((subst (λ (m : Master). Idled m y.sending.sent y.sending.done) e (idled y k.stand)).0 ∙ sym (ap count_in e))

    idle_all : (a : ℕ) → y.sending.master ≡ Idle a → y.sending.done ≡ length y.sending.started
    idle_all a e = go (subst (λ (m : Master). Stand y.sending.started y.sending.done (accepted b y) y.sending.sent y.forward y.backward (taken_in y) (given_in b y) m) e k.stand)
      where
        go : Stand y.sending.started y.sending.done (accepted b y) y.sending.sent y.forward y.backward (taken_in y) (given_in b y) (Idle a) → y.sending.done ≡ length y.sending.started
        go (idle q l z h u v) = h

    by_driver_is : y.sending.ended ≡ ByDriver → Exact b y
    by_driver_is e = all-counted (subst (λ (z : End). Told z y.sending.master y.sending.sent y.sending.done (eots y)) e k.told).1

    abbrev TurnedRound : Type 0
    TurnedRound = (is_closed y.sending.master ≡ true) × ((length y.sending.sent ≡ count) × (length (messages_of y.sending.sent) ≡ y.sending.done))

    turned_round : y.sending.ended ≡ Reversed → TurnedRound
    turned_round e = subst (λ (z : End). Told z y.sending.master y.sending.sent y.sending.done (eots y)) e k.told

    reversed_is : y.sending.ended ≡ Reversed → Exact b y
    reversed_is e = all-counted (turned_round e).1.0

    -- as many were accepted as sent, so the same ones
    reversed_all : y.sending.ended ≡ Reversed → length (handed b y) ≡ y.sending.done
    reversed_all e = go (lag y.sending.started y.sending.done (accepted b y) y.sending.sent y.forward y.backward (taken_in y) (given_in b y) y.sending.master k.stand)
      where
        go : Lag y.sending.started y.sending.done (accepted b y) y.sending.sent y.forward y.backward (taken_in y) (given_in b y) → length (handed b y) ≡ y.sending.done
        go (all-accepted q) = ap length (stands b y.receiving.received).messages ∙ ap (λ (bs : List Block). length (messages_of bs)) (sym q) ∙ (turned_round e).1.1
        go (all_but_one z q) = let n = ap length q in let l = (turned_round e).1.0 in let m = (stand_counts y k.stand).most in absurd (omega (arith, n, l, m))

    closed_all : y.sending.ended ≡ ByDriver → y.sending.done ≡ length y.sending.started
    closed_all e = subst (λ (z : End). Finished z y.sending.started y.sending.done) e k.finished

    eot_is : y.receiving.station_eot ≡ true → Exact b y
    eot_is h = sym (k.exact h)

    -- whose EOT it was
    which : (a d : Bool) → y.receiving.station_eot ≡ a → y.receiving.driver_eot ≡ d → (a || d) ≡ true → (a ≡ true → ⊥) → d ≡ true
    which true d e f h g = absurd (g refl)
    which false d e f h g = h

    short_is : (a : ℕ) → y.sending.master ≡ Closed a → length (accepted b y) ≡ a + 1 → OneShort y
    short_is a m l = go y.sending.ended refl k.told
      where
        inexact : Exact b y → ⊥
        inexact x = let z = ap count_in m in omega (arith, x, z, l)

        go : (e : End) → y.sending.ended ≡ e → Told e y.sending.master y.sending.sent y.sending.done (eots y) → OneShort y
        go NotEnded e t = absurd (true≢false (sym (ap is_closed m) ∙ t))
        go Failed e t = failed e
        go BySlave e t = refused e (which y.receiving.station_eot y.receiving.driver_eot refl refl t.1 (λ h. inexact (eot_is h)))
        go ByDriver e t = absurd (inexact (by_driver_is e))
        go Reversed e t = absurd (inexact (reversed_is e))

  -- 02, §3 and §14: how an opening ends
  pub link_ends : (xs : List LinkAct) → Ends b (link_run b beginning xs)
  link_ends xs =
      let y = link_run b beginning xs in
      let k = run_ends xs in
      record { idle_exact = idle_is y k; idle_done = idle_all y k; closed_exact = by_driver_is y k; closed_done = closed_all y k; reversed_exact = reversed_is y k; reversed_done = reversed_all y k; eot_exact = eot_is y k; one_short = short_is y k }

  -- ---- the numbers that arrive
  expected_or_before : (y : System) → StandOf b y → (n : ℕ) (x : Ending) (t : List ℕ) (us : List Unit) → y.forward ≡ good n x t ∷ us → OneOfTwo n (expected_after (accepted b y))
  expected_or_before y s n x t us e =
      go (arriving y.sending.started y.sending.done (accepted b y) y.sending.sent (good n x t) us y.backward (taken_in y) (given_in b y) n x t refl y.sending.master
      (subst (λ (l : List Unit). Stand y.sending.started y.sending.done (accepted b y) y.sending.sent l y.backward (taken_in y) (given_in b y) y.sending.master) e s))
    where
      numbered : (z : Block) → good n x t ≡ in_order (accepted b y) z → n ≡ expected_after (accepted b y)
      numbered (block x2 t2) q = ap number_in q

      go : Arriving y.sending.started y.sending.done (accepted b y) y.sending.sent (good n x t) us y.backward (taken_in y) (given_in b y) n x t y.sending.master
          → OneOfTwo n (expected_after (accepted b y))
      go (duplicate q) = one_before q
      go (next z q s2) = expected_one (numbered z q)

  ack_head : (n m : ℕ) (hi lo : Stretch) (rs : List Response) → Between m hi lo (Ack n ∷ rs) → OneOfTwo n m
  ack_head n m hi lo rs (then {p = old_others} l (old_ack_lem q) i) = one_before q
  ack_head n m hi lo rs (then {p = new_others} l (new_ack q) i) = expected_one q
  ack_head n m hi lo rs (then {p = old_rints} l a i) = elim a [ ]
  ack_head n m hi lo rs (then {p = new_rints} l a i) = elim a [ ]

  out_or_before : (y : System) → StandOf b y → (n : ℕ) (rs : List Response) (o : Outstanding) → y.backward ≡ Ack n ∷ rs → y.sending.master ≡ Waiting o → OneOfTwo n (block_number o.count)
  out_or_before y s n rs o e f =
      go
      (subst (λ (m : Master). Stand y.sending.started y.sending.done (accepted b y) y.sending.sent y.forward (Ack n ∷ rs) (taken_in y) (given_in b y) m) f
      (subst (λ (l : List Response). Stand y.sending.started y.sending.done (accepted b y) y.sending.sent y.forward l (taken_in y) (given_in b y) y.sending.master) e s))
    where
      go : Stand y.sending.started y.sending.done (accepted b y) y.sending.sent y.forward (Ack n ∷ rs) (taken_in y) (given_in b y) (Waiting o) → OneOfTwo n (block_number o.count)
      go (pending p v q l h u w) = ack_head n (block_number o.count) (even_end (given_in b y)) (from (taken_in y)) rs w
      go (taken p v q l h u w) = ack_head n (block_number o.count) (out_end (given_in b y)) (from (taken_in y)) rs w

  pub link_numbered : (xs : List LinkAct) → Numbered b (link_run b beginning xs)
  link_numbered xs =
      let y = link_run b beginning xs in
      record { block_number_lem = expected_or_before y (run_stands b xs); ack_number = out_or_before y (run_stands b xs) }
