-- Demand 3: at every moment of every run, where the hosts keep their duties.
use Rattle.std.specs.Prelude.{Option, None, ℕ}
use mathlib.Core.Path.{◌≡◌, refl, sym, ap, ◌∙◌, subst}
use mathlib.Core.List.{List, [], ◌∷◌, ◌++◌}
use mathlib.Core.Bool.{Bool, true, cond}
use mathlib.Core.Logic.{◌⊎◌, inl, inr}
use native.Mathlib.Omega.{arith}
use borrow.Author.Tests.{eq-eqb}
use Rattle.receiver.specs.Receiver.{valid_expected}
use Rattle.sender.specs.Sender.{fresh_sender, open_of}
use Rattle.link.specs.Duties.{Duty, every, one_at}
use Rattle.link.specs.System.{Link, System, Remains, beginning, start_of, nothing_left, new_circuit, sender_acted, SystemAct, opens, ends, resets, timer, submits, sender_persists, sender_writes, sender_forgets, sender_reads, sender_acts, sender_discards, sender_restores}
use Rattle.link.specs.System.{sender_crashes, receiver_reads, receiver_decides, receiver_reports, receiver_naks, receiver_discards, receiver_persists, receiver_writes, receiver_restores, receiver_crashes}
use Rattle.link.specs.System.{damages_forward, damages_back, persists_number, persists_transaction, lands_late, reverts_to, sender_reverts_to, brings_late, brings_late_request, after_act, run_of}
use Rattle.link.specs.Promise.{Ready, Safe, OnlyAnswers}
use Rattle.link.specs.Needed.{Needed}
use Rattle.link.proofs.SenderInvariant.{fresh-valid}
use Rattle.link.proofs.SenderDue.{open_taken}
use Rattle.link.proofs.Runs.{run_join}
use Rattle.link.proofs.Invariant.{Inv}
use Rattle.link.proofs.Early.{Early, early_start, early_acts, Standing, stands}
use Rattle.link.proofs.Acts.{start, opens_keeps, ends_keeps, resets_keeps, timer_keeps, submits_keeps, sender_persists_keeps, sender_writes_keeps, sender_forgets_keeps, sender_reads_keeps, sender_acts_keeps}
use Rattle.link.proofs.Acts.{sender_discards_keeps, sender_restores_keeps, sender_crashes_keeps, receiver_reads_keeps, receiver_decides_keeps, receiver_discards_keeps}
use Rattle.link.proofs.Acts.{receiver_persists_keeps, receiver_reports_keeps, receiver_naks_keeps, receiver_writes_keeps, receiver_restores_keeps, receiver_crashes_keeps, damages_forward_keeps, damages_back_keeps}

pub none_left_lem : OnlyAnswers nothing_left
none_left_lem = record { forward = refl; requests = refl }

module _ (l : Link) (rd : Ready l) where
  act_keeps : (a : SystemAct) (y : System) → Inv l y → Inv l (after_act every l a y)
  act_keeps opens y i = opens_keeps l rd y i
  act_keeps ends y i = ends_keeps l rd y i
  act_keeps resets y i = resets_keeps l rd y i
  act_keeps timer y i = timer_keeps l rd y i
  act_keeps (submits limit d) y i = submits_keeps l rd y i limit d
  act_keeps sender_persists y i = sender_persists_keeps l rd y i
  act_keeps sender_reads y i = sender_reads_keeps l rd y i y.back.bytes refl
  act_keeps sender_restores y i = sender_restores_keeps l rd y i
  act_keeps sender_crashes y i = sender_crashes_keeps l rd y i
  act_keeps receiver_reads y i = receiver_reads_keeps l rd y i y.forward.bytes refl
  act_keeps receiver_persists y i = receiver_persists_keeps l rd y i
  act_keeps receiver_writes y i = receiver_writes_keeps l rd y i y.receiving.pending refl
  act_keeps receiver_restores y i = receiver_restores_keeps l rd y i
  act_keeps receiver_crashes y i = receiver_crashes_keeps l rd y i
  act_keeps (sender_writes n) y i = sender_writes_keeps l rd y i y.sending.named refl
  act_keeps (sender_forgets n) y i = sender_forgets_keeps l rd y i n
  act_keeps (sender_acts n) y i = sender_acts_keeps l rd y i n (one_at n y.sending.arrived) refl
  act_keeps (sender_discards n) y i = sender_discards_keeps l rd y i n
  act_keeps (receiver_discards n) y i = receiver_discards_keeps l rd y i n
  act_keeps (receiver_decides n a) y i = receiver_decides_keeps l rd y i a y.receiving.arrived refl
  act_keeps (receiver_reports success start b) y i = receiver_reports_keeps l rd y i success start b
  act_keeps (receiver_naks n start b) y i = receiver_naks_keeps l rd y i n start b
  act_keeps (damages_forward b) y i = damages_forward_keeps l rd y i b
  act_keeps (damages_back b) y i = damages_back_keeps l rd y i b
  -- a host that keeps its duties does none of these
  act_keeps persists_number y i = i
  act_keeps persists_transaction y i = i
  act_keeps (lands_late p) y i = i
  act_keeps (reverts_to p) y i = i
  act_keeps (sender_reverts_to p) y i = i
  act_keeps (brings_late b) y i = i
  act_keeps (brings_late_request b) y i = i

  pub run_keeps : (e : Option ℕ) → valid_expected e ≡ true → (ds : List SystemAct) → Inv l (run_of every l (start_of l e) ds)
  unfolding run_of
  run_keeps e v [] = start l rd e v []
  run_keeps e v (a ∷ ds) = act_keeps a (run_of every l (start_of l e) ds) (run_keeps e v ds)

  -- where an earlier tenant's answers are left, the invariant holds without them until the first circuit drops them
  either_keeps : (a : SystemAct) (y : System) → Early l y ⊎ Inv l y → Early l (after_act every l a y) ⊎ Inv l (after_act every l a y)
  either_keeps a y (inl i) = early_acts l rd y i a
  either_keeps a y (inr i) = inr (act_keeps a y i)

  pub run_keeps_from : (m : Remains) → OnlyAnswers m → (e : Option ℕ) → valid_expected e ≡ true → (ds : List SystemAct)
      → Early l (run_of every l (beginning every l e m) ds) ⊎ Inv l (run_of every l (beginning every l e m) ds)
  unfolding run_of
  run_keeps_from m only e v [] = inl (early_start l rd m only e v)
  run_keeps_from m only e v (a ∷ ds) = either_keeps a (run_of every l (beginning every l e m) ds) (run_keeps_from m only e v ds)

  pub run_stands : (m : Remains) → OnlyAnswers m → (e : Option ℕ) → valid_expected e ≡ true → (ds : List SystemAct) → Standing l (run_of every l (beginning every l e m) ds)
  run_stands m only e v ds = stands l (run_of every l (beginning every l e m) ds) (run_keeps_from m only e v ds)

  is_safe : (y : System) → Standing l y → Safe l y
  is_safe y i =
      let n = i.core.numbers in
      record {
        count = i.way.persisted.count;
        has = i.ends.persisted.has;
        covers = record { begun = omega arith; at_most = n.covered; at_least = omega arith };
        persisted_covers = record { begun = omega arith; at_most = omega arith; at_least = omega arith };
        submitted = omega arith;
        unfrozen = i.core.senders.unfrozen;
        persisted_unfrozen = i.core.senders.persisted_unfrozen;
      }

  -- "at every moment the receiver has the first k transactions, each once, in order, and the sender's mark covers k or k less one. The sender never freezes."
  -- Whatever answers of an earlier tenancy are left
  pub safety_from : (m : Remains) → OnlyAnswers m → (e : Option ℕ) → valid_expected e ≡ true → (ds : List SystemAct) → Safe l (run_of every l (beginning every l e m) ds)
  safety_from m only e v ds = is_safe (run_of every l (beginning every l e m) ds) (run_stands m only e v ds)

  pub safety : (e : Option ℕ) → valid_expected e ≡ true → (ds : List SystemAct) → Safe l (run_of every l (start_of l e) ds)
  safety e v ds = safety_from nothing_left none_left_lem e v ds

  -- what a duty that is needed breaks, it breaks alone: with every duty kept, the statement holds of the same acts from the same beginning
  pub kept : (d : Duty) (n : Needed l d) → Safe l (run_of every l (beginning every l n.expected n.remains) n.acts)
  kept d n = safety_from n.remains n.only_answers n.expected n.valid n.acts

  -- Where a circuit is opened before anything else, whatever is left of an earlier tenancy, requests too: it drops all of it
  abbrev message_only : Remains → Remains
  message_only m = record { forward = []; back = []; pending = []; requests = []; answers = []; decision = None; message = m.message }

  opened-same : (e : Option ℕ) (m : Remains) → after_act every l opens (beginning every l e m) ≡ after_act every l opens (beginning every l e (message_only m))
  opened-same e m =
      let a = open_of (fresh_sender l.first) in
      let k = message_only m in
      let done = eq-eqb a.refusal 0 (open_taken (fresh_sender l.first) (fresh-valid l.first rd.first_least rd.first_most) refl refl) in
      ap (λ (b : Bool). cond b (new_circuit every (beginning every l e m) a) (sender_acted (beginning every l e m) m.answers a)) done
      ∙ sym (ap (λ (b : Bool). cond b (new_circuit every (beginning every l e k) a) (sender_acted (beginning every l e k) [] a)) done)

  pub safety_opened : (m : Remains) (e : Option ℕ) → valid_expected e ≡ true → (ds : List SystemAct) → Safe l (run_of every l (after_act every l opens (beginning every l e m)) ds)
  unfolding run_of
  safety_opened m e v ds =
      let k = message_only m in
      subst (λ (y : System). Safe l (run_of every l y ds)) (sym (opened-same e m))
      (subst (Safe l) (run_join l (beginning every l e k) (opens ∷ []) ds) (safety_from k (record { forward = refl; requests = refl }) e v (ds ++ opens ∷ [])))
