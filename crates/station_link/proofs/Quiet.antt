-- As long as the slave has given no RINT, none is on the line back, and the master has taken none.
use mathlib.Core.Path.{◌≡◌, refl, sym, subst}
use mathlib.Core.List.{List, [], ◌∷◌, ◌++◌}
use mathlib.Core.Bool.{Bool, true, false, cond, ◌||◌, true≢false}
use Prim.Native.Nat.{ℕ}
use lib.ListN.{length}
use lib.Dec.{eqb}
use Rattle.lists.proofs.Append.{append_none}
use Rattle.lists.proofs.Tests.{cond_ind}
use Rattle.station.specs.declared.Reply.{Reply}
use Rattle.station.specs.declared.Reply.TheVariants.{NoReply, Ack as AckReply, Nak as NakReply, Eot as EotReply, Rint as RintReply}
use Rattle.station.specs.History.{Unit}
use Rattle.master.specs.Master.{valid_outstanding, refused_master}
use Rattle.master.specs.Reversal.{noted, kept, answer_of, may_receive_now, may_receive_of, master_state, start_answer, timer_answer, close_answer, enquire_answer}
use Rattle.master.specs.declared.Master.{Master}
use Rattle.master.specs.declared.Master.TheVariants.{Closed, Idle, Waiting}
use Rattle.master.specs.declared.Response.{Response}
use Rattle.master.specs.declared.Response.TheVariants.{Ack, Nak, Eot, Damaged, Rint}
use Rattle.master.specs.declared.Transmission.{Transmission}
use Rattle.master.specs.declared.Reversal.{Reversal}
use Rattle.master.specs.declared.MasterActed.{MasterActed}
use Rattle.master.specs.declared.MasterAnswer.{MasterAnswer}
use Rattle.master.specs.MasterHistory.{is_rint_kind}
use Rattle.station_link.specs.System.{damaged_reply, Started, System, system, beginning, master_did, state_in, responses_of, is_rint, refused_reply}
use Rattle.station_link.specs.System.{LinkAct, starts, timer_runs, closes, master_eot, enquires, may_receive, slave_opens, grants, asks_rint, slave_ends, arrives, arrives_unstored, reply_arrives, loses, loses_reply, repeats, repeats_reply, damages, damages_reply, disturbs, disturbs_reply}
use Rattle.station_link.specs.System.{station_reply, arrived, arrived_unstored, reply_arrived, may_grant, link_act, link_run}
use Rattle.station_link.proofs.Queues.{fine, All, none, also, all-appended, all_lost, all-repeated, all_replaced, all_inserted}
use Rattle.station_link.proofs.Stretches.{NoRint}

abbrev pub NoneTaken : Reversal → Type 0
NoneTaken v = is_rint_kind v.last ≡ false

abbrev pub Quiet : System → Type 0
Quiet y = y.receiving.gave_rint ≡ false → All NoRint y.backward × NoneTaken y.sending.reversal

-- ---- what the master keeps
kept_none : (m : Master) (t : Transmission) (v : Reversal) → NoneTaken v → NoneTaken (kept m t v)
kept_none (Closed a) t v h = refl
kept_none (Idle a) t v h = h
kept_none (Waiting o) t v h = h

answer_none : (v : Reversal) (a : MasterActed) → NoneTaken v → NoneTaken (answer_of v a).reversal
unfolding answer_of
answer_none v a h = kept_none a.master a.send v h

now_none : (m : Master) (v : Reversal) → NoneTaken v → NoneTaken (may_receive_now m v).reversal
now_none (Closed a) v h = answer_none v (refused_master 11 (Closed a)) h
now_none (Idle a) v h = answer_none v _ h
now_none (Waiting o) v h = cond_ind (λ (x : MasterAnswer). NoneTaken x.reversal) (valid_outstanding o) _ _ (λ g. answer_none _ _ h) (λ g. answer_none v _ h)

may_none : (m : Master) (v : Reversal) → NoneTaken v → NoneTaken (may_receive_of (master_state m v)).reversal
unfolding may_receive_of
may_none m v h = cond_ind (λ (x : MasterAnswer). NoneTaken x.reversal) v.interrupted _ _ (λ g. now_none m v h) (λ g. answer_none v _ h)

noted_none : (q : Response) (v : Reversal) → NoRint q → NoneTaken v → NoneTaken (noted q v)
noted_none (Ack n) v i h = refl
noted_none Nak v i h = refl
noted_none Eot v i h = h
noted_none Damaged v i h = h
noted_none Rint v i h = absurd i

-- ---- what the slave puts on the line
no_rint : (w : Reply) (rs : List Response) → is_rint w ≡ false → All NoRint rs → All NoRint (rs ++ responses_of w)
no_rint NoReply rs h i = subst (All NoRint) (sym (append_none rs)) i
no_rint (AckReply n) rs h i = all-appended NoRint rs (Ack n) i fine
no_rint NakReply rs h i = all-appended NoRint rs Nak i fine
no_rint EotReply rs h i = all-appended NoRint rs Eot i fine
no_rint RintReply rs h i = absurd (true≢false h)

no_rint_refused : (w : Reply) (rs : List Response) → All NoRint rs → All NoRint (rs ++ refused_reply w)
no_rint_refused NoReply rs i = subst (All NoRint) (sym (append_none rs)) i
no_rint_refused (AckReply n) rs i = all-appended NoRint rs Eot i fine
no_rint_refused NakReply rs i = all-appended NoRint rs Eot i fine
no_rint_refused EotReply rs i = all-appended NoRint rs Eot i fine
no_rint_refused RintReply rs i = all-appended NoRint rs Eot i fine

neither : (a c : Bool) → (a || c) ≡ false → (a ≡ false) × (c ≡ false)
neither true c h = absurd (true≢false h)
neither false c h = (refl, h)

damaged_none : (nak gave : Bool) → NoRint (damaged_reply nak gave)
damaged_none true true = fine
damaged_none true false = fine
damaged_none false gave = fine

-- ---- the acts
module _ (b : List ℕ) where
  line_quiet : (y : System) (us : List Unit) (rs : List Response) → (All NoRint y.backward → All NoRint rs) → Quiet y → Quiet (system y.sending y.receiving us rs)
  line_quiet y us rs f q h = (f (q h).0, (q h).1)

  master_quiet : (y : System) (x : MasterAnswer) (ms : List Started) → (NoneTaken y.sending.reversal → NoneTaken x.reversal) → Quiet y → Quiet (master_did x ms y)
  master_quiet y x ms f q h = ((q h).0, f (q h).1)

  arrives_quiet : (y : System) (us : List Unit) → Quiet y → Quiet (arrived b us y)
  arrives_quiet y [] q = q
  arrives_quiet y (u ∷ us) q =
      cond_ind Quiet y.receiving.opened _ _
      (λ g h. let z = neither (is_rint (station_reply b y.receiving u)) y.receiving.gave_rint h in (no_rint (station_reply b y.receiving u) y.backward z.0 (q z.1).0, (q z.1).1))
      (λ g. q)

  unstored_quiet : (y : System) (us : List Unit) → Quiet y → Quiet (arrived_unstored b us y)
  unstored_quiet y [] q = q
  unstored_quiet y (u ∷ us) q =
      cond_ind Quiet y.receiving.opened _ _ (λ g h. (no_rint_refused (station_reply b y.receiving u) y.backward (q h).0, (q h).1)) (λ g. q)

  head_quiet : (r : Response) (rs : List Response) → All NoRint (r ∷ rs) → NoRint r × All NoRint rs
  head_quiet r rs (also p i) = (p, i)

  reply_quiet : (y : System) (rs : List Response) → y.backward ≡ rs → Quiet y → Quiet (reply_arrived b rs y)
  reply_quiet y [] e q = q
  reply_quiet y (r ∷ rs) e q =
      λ h. let i = head_quiet r rs (subst (All NoRint) e (q h).0) in
      (i.1, answer_none (noted r y.sending.reversal) _ (noted_none r y.sending.reversal i.0 (q h).1))

  ended_quiet : (y : System) (sends : Bool) → Quiet y → Quiet (link_act b (slave_ends sends) y)
  unfolding link_act
  ended_quiet y sends q = cond_ind Quiet y.receiving.opened _ _ (λ g h. (go sends (q h).0, (q h).1)) (λ g. q)
    where
      go : (v : Bool) → All NoRint y.backward → All NoRint (y.backward ++ cond v (Eot ∷ []) [])
      go true i = all-appended NoRint y.backward Eot i fine
      go false i = subst (All NoRint) (sym (append_none y.backward)) i

  act_quiet : (x : LinkAct) (y : System) → Quiet y → Quiet (link_act b x y)
  unfolding link_act
  act_quiet (starts t size) y q =
      cond_ind Quiet (eqb (start_answer (length t) size (state_in y)).acted.refusal 0) _ _ (λ h. master_quiet y (start_answer (length t) size (state_in y)) (record { message = t; size = size } ∷ y.sending.started) (answer_none _ _) q) (λ h. q)
  act_quiet timer_runs y q = master_quiet y (timer_answer (state_in y)) y.sending.started (answer_none _ _) q
  act_quiet closes y q = master_quiet y (close_answer (state_in y)) y.sending.started (answer_none _ _) q
  act_quiet master_eot y q = q
  act_quiet enquires y q = master_quiet y (enquire_answer (state_in y)) y.sending.started (answer_none _ _) q
  act_quiet may_receive y q = master_quiet y (may_receive_of (state_in y)) y.sending.started (may_none y.sending.master y.sending.reversal) q
  act_quiet slave_opens y q = q
  act_quiet (grants anew) y q =
      cond_ind Quiet (may_grant b y.receiving) _ _ (λ g h. (all-appended NoRint y.backward (Ack 0) (q h).0 fine, (q h).1)) (λ g. q)
  act_quiet asks_rint y q = cond_ind Quiet y.receiving.opened _ _ (λ g. q) (λ g. q)
  act_quiet (slave_ends sends) y q = ended_quiet y sends q
  act_quiet arrives y q = arrives_quiet y y.forward q
  act_quiet arrives_unstored y q = unstored_quiet y y.forward q
  act_quiet reply_arrives y q = reply_quiet y y.backward refl q
  act_quiet (loses n) y q = q
  act_quiet (loses_reply n) y q = line_quiet y y.forward _ (all_lost NoRint n y.backward) q
  act_quiet (repeats n) y q = q
  act_quiet (repeats_reply n) y q = line_quiet y y.forward _ (all-repeated NoRint n y.backward) q
  act_quiet (damages n v) y q = q
  act_quiet (damages_reply n v) y q = line_quiet y y.forward _ (all_replaced NoRint _ (damaged_none v y.receiving.gave_rint) n y.backward) q
  act_quiet (disturbs n v) y q = q
  act_quiet (disturbs_reply n v) y q = line_quiet y y.forward _ (all_inserted NoRint _ (damaged_none v y.receiving.gave_rint) n y.backward) q

  pub run_quiet : (xs : List LinkAct) → Quiet (link_run b beginning xs)
  unfolding link_run answer_of
  run_quiet [] = λ h. (none, refl)
  run_quiet (x ∷ xs) = act_quiet x (link_run b beginning xs) (run_quiet xs)
