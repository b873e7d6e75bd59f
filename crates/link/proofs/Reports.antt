-- Demand 3, of every run: "It sends at once what waits .. and reports how many it made."
use Rattle.std.specs.Prelude.{Option, Some, None, Result, Ok, Err}
use mathlib.Core.Path.{◌≡◌, refl, sym, ap, ◌∙◌, subst}
use mathlib.Core.List.{List, [], ◌∷◌}
use mathlib.Core.Bool.{Bool, true, false, cond, not, ◌&&◌}
use mathlib.Core.Logic.{◌⊎◌, inl, inr}
use Prim.Native.Nat.{ℕ, ◌+◌, ◌≤◌, ◌<◌}
use native.Mathlib.Omega.{arith}
use lib.Dec.{eqb}
use borrow.Author.Tests.{eq-eqb, ne_eqb}
use Rattle.lists.proofs.Tests.{cond_ind}
use Rattle.numbers.specs.declared.SequenceNumber.{SequenceNumber}
use Rattle.numbers.specs.declared.SequenceNumber.TheVariants.{Number}
use Rattle.stream.specs.Stream.{Judged}
use Rattle.refusal.specs.declared.Accepted.{Accepted}
use Rattle.refusal.specs.declared.Refusal.{Refusal}
use Rattle.receiver.specs.Receiver.{valid_expected, is_closed, decide_of, answer_of, nak_of}
use Rattle.receiver.specs.declared.Application.{Application}
use Rattle.sender.specs.Sender.{is_open, valid_sender, waiting_message, waits_of, open_of}
use Rattle.sender.specs.declared.Persisted.{Persisted}
use Rattle.sender.specs.declared.Waiting.{Waiting}
use Rattle.sender.specs.declared.Waiting.TheVariants.{Closed, Idle, Resynchronizing, Querying, Sending}
use Rattle.sender.specs.declared.Sender.{Sender}
use Rattle.sender.specs.declared.Event.{Event}
use Rattle.sender.specs.declared.Acted.{Acted}
use Rattle.link.specs.SenderActs.{Act, opened, ended, reset, timer, block, submit, act_of, falls_due, resends_of, after_crash}
use Rattle.link.specs.SenderHistory.{Entry, reported, crashed, counted_of, is_abandoned, sends_to_report}
use Rattle.link.proofs.Facts.{not_both}
use Rattle.link.proofs.SenderValid.{right_from, WaitsRight}
use Rattle.link.proofs.SenderSteps.{Step, refuses, keeps, starts, resends, abandons, shuts, steps}
use Rattle.link.proofs.SenderCounts.{Counts, count_is, counts_step, reported_right, few_step, up_step}
use Rattle.link.proofs.SenderDue.{only_due, due_as_timer, timer_abandons}
use Rattle.link.specs.Duties.{every, one_at, others_at}
use Rattle.link.specs.Line.{damages, disorders}
use Rattle.link.specs.System.{Link, System, SendingEnd, Remains, beginning, same_persisted, request_written, is_true, reply_written, sender_read, answer_taken, receiver_read, verdict_decided, request_taken}
use Rattle.link.specs.System.{SystemAct, opens, ends, resets, submits, timer as timer_runs, sender_persists, sender_writes, sender_forgets, sender_reads, sender_acts, sender_discards, sender_restores, sender_crashes}
use Rattle.link.specs.System.{receiver_reads, receiver_decides, receiver_reports, receiver_naks, receiver_discards, receiver_persists, receiver_writes, receiver_restores, receiver_crashes, damages_forward, damages_back}
use Rattle.link.specs.System.{persists_number, persists_transaction, lands_late, reverts_to, sender_reverts_to, brings_late, brings_late_request, after_act, run_of}
use Rattle.link.specs.Promise.{Ready, OnlyAnswers}
use Rattle.link.proofs.Safety.{run_stands}

-- an act that gives up ends the circuit
pub abandoned_closes : (s : Sender) → valid_sender s ≡ true → (a : Act) → is_abandoned (act_of a s).event ≡ true → is_open (act_of a s).sender.waiting ≡ false
abandoned_closes s v a = go (steps s v a)
  where
    go : {r n : ℕ} {s t : Sender} {k : ℕ} {c : Option SequenceNumber} {x : Event} → Step r s n t c k x → is_abandoned x ≡ true → is_open t.waiting ≡ false
    go (refuses q) u = not_both (sym u)
    go (keeps q g j y) u = not_both (sym u ∙ g)
    go (starts g j f) u = not_both (sym u ∙ g)
    go (resends q j) u = not_both (sym u)
    go (abandons j q w) u = refl
    go (shuts g j) u = not_both (sym u ∙ g)

-- ---- what an act of the link does at the sender's end: an act of the sender, persisting, a crash, or nothing
module _ (l : Link) (P : Sender → Persisted → List Entry → Type 0)
    (acts : (s : Sender) (p : Persisted) (h : List Entry) → valid_sender s ≡ true → P s p h → (a : Act) → resends_of a ≤ l.resends → P (act_of a s).sender p (reported (act_of a s) ∷ h)) where
  abbrev At : SendingEnd → Type 0
  At e = P e.sender e.persisted e.history

  module _ (y : System) (v : valid_sender y.sending.sender ≡ true) (now : At y.sending) (persists : P y.sending.sender y.sending.sender.persisted y.sending.history)
      (crashes : P (after_crash y.sending.persisted) y.sending.persisted (crashed ∷ y.sending.history)) where
    by : (a : Act) → resends_of a ≤ l.resends
        → P (act_of a y.sending.sender).sender y.sending.persisted (reported (act_of a y.sending.sender) ∷ y.sending.history)
    by = acts y.sending.sender y.sending.persisted y.sending.history v now

    written : (ws vs : List SequenceNumber) → At (request_written every l y ws vs).sending
    written [] vs = now
    written (x ∷ xs) vs = cond_ind (λ (z : System). At z.sending) (same_persisted y.sending.sender.persisted y.sending.persisted) _ _ (λ z. now) (λ z. now)

    replied : (bs : List (List ℕ)) → At (reply_written y bs).sending
    replied [] = now
    replied (b ∷ bs) = now

    -- whatever the test says, the sender's end is as it was
    either_way : (t : Bool) (z : System) → z.sending ≡ y.sending → At (cond t z y).sending
    either_way true z e = subst At (sym e) now
    either_way false z e = now

    answer_read_lem : (xs : List ℕ) → At (sender_read l y xs).sending
    answer_read_lem [] = now
    answer_read_lem (x ∷ xs) = now

    answer_taken_lem : (ws vs : List Judged) → At (answer_taken l y ws vs).sending
    answer_taken_lem [] vs = now
    answer_taken_lem (w ∷ ws) vs = by (block l.resends w.verdict w.content) (omega arith)

    request_read_lem : (xs : List ℕ) → At (receiver_read l y xs).sending
    request_read_lem [] = now
    request_read_lem (x ∷ xs) = now

    decided : (a : Application) (ws : List Judged) (d : List ℕ) (v : Result Accepted Refusal) → At (verdict_decided a y ws d v).sending
    decided a ws d (Err v) = now
    decided a ws d (Ok v) = either_way (eqb (decide_of a y.receiving.receiver v.block_type d).refusal 0) _ refl

    request_taken_lem : (a : Application) (ws vs : List Judged) → At (request_taken a y ws vs).sending
    request_taken_lem a [] vs = now
    request_taken_lem a (w ∷ ws) vs = decided a vs w.content w.verdict

    at_after : (d : SystemAct) → At (after_act every l d y).sending
    at_after opens = cond_ind (λ (z : System). At z.sending) (eqb (open_of y.sending.sender).refusal 0) _ _ (λ z. by opened (omega arith)) (λ z. by opened (omega arith))
    at_after ends = by ended (omega arith)
    at_after resets = by reset (omega arith)
    at_after timer_runs = by (timer l.resends) (omega arith)
    at_after (submits limit d) = by (submit limit d) (omega arith)
    at_after sender_persists = persists
    at_after sender_reads = answer_read_lem y.back.bytes
    at_after sender_restores = crashes
    at_after sender_crashes = crashes
    at_after receiver_reads = request_read_lem y.forward.bytes
    at_after receiver_persists = either_way (not (is_closed y.receiving.receiver.decision) && not y.receiving.reports) _ refl
    at_after receiver_writes = replied y.receiving.pending
    at_after receiver_restores = now
    at_after receiver_crashes = now
    at_after (sender_writes n) = written (one_at 0 y.sending.named) (others_at 0 y.sending.named)
    at_after (sender_forgets n) = now
    at_after (sender_acts n) = answer_taken_lem (one_at n y.sending.arrived) (others_at n y.sending.arrived)
    at_after (sender_discards n) = now
    at_after (receiver_discards n) = now
    at_after (receiver_decides n a) = request_taken_lem a (one_at 0 y.receiving.arrived) (others_at 0 y.receiving.arrived)
    at_after (receiver_reports success start b) =
        either_way (is_true every success y.receiving.reports && eqb (answer_of l.settings success y.receiving.receiver start b).answer.refusal 0) _ refl
    at_after (receiver_naks n start b) = either_way (eqb (nak_of l.settings n y.receiving.receiver start b).answer.refusal 0) _ refl
    at_after (damages_forward b) = cond_ind (λ (z : System). At z.sending) (damages l.settings y.forward b) _ _ (λ z. now) (λ z. now)
    at_after (damages_back b) = cond_ind (λ (z : System). At z.sending) (disorders l.settings y.back b) _ _ (λ z. now) (λ z. now)
    at_after persists_number = now
    at_after persists_transaction = now
    at_after (lands_late p) = now
    at_after (reverts_to p) = now
    at_after (sender_reverts_to p) = now
    at_after (brings_late b) = now
    at_after (brings_late_request b) = now

module _ (l : Link) (rd : Ready l) (remains : Remains) (only : OnlyAnswers remains) (e : Option ℕ) (v : valid_expected e ≡ true) where
  abbrev at : List SystemAct → System
  at ds = run_of every l (beginning every l e remains) ds

  pub run-valid : (ds : List SystemAct) → valid_sender (at ds).sending.sender ≡ true
  run-valid ds = (run_stands l rd remains only e v ds).ends.valid

  run_counts : (ds : List SystemAct) → Counts (at ds).sending.sender (at ds).sending.history
  unfolding run_of
  run_counts [] = λ m. refl
  run_counts (d ∷ ds) =
      at_after l (λ s p h. Counts s h) (λ s p h i c a r. counts_step h c (steps s i a)) (at ds) (run-valid ds) (run_counts ds) (run_counts ds) (λ m. refl) d

  -- "and reports how many it made": the number that any act of the sender reports, at any moment of any run
  pub reports : (ds : List SystemAct) (a : Act)
      → (act_of a (at ds).sending.sender).sends ≡ sends_to_report (at ds).sending.sender (at ds).sending.history (act_of a (at ds).sending.sender)
  reports ds a =
      reported_right (at ds).sending.sender (at ds).sending.history (act_of a (at ds).sending.sender) (right_from (at ds).sending.sender (run-valid ds)) (run_counts ds) (resends_of a)
      (steps (at ds).sending.sender (run-valid ds) a)

  -- "It sends at once what waits": what waits after an act is named by it, or waited before
  pub sends_at_once : (ds : List SystemAct) (a : Act) (m : SequenceNumber) → waits_of (act_of a (at ds).sending.sender).sender ≡ Some m
      → ((act_of a (at ds).sending.sender).send ≡ Some m) ⊎ (waits_of (at ds).sending.sender ≡ Some m)
  sends_at_once ds a m w = go (steps (at ds).sending.sender (run-valid ds) a) w
    where
      go : {r n : ℕ} {s t : Sender} {k : ℕ} {c : Option SequenceNumber} {x : Event} → Step r s n t c k x → waits_of t ≡ Some m → (c ≡ Some m) ⊎ (waits_of s ≡ Some m)
      go (refuses q) z = inr z
      go {s = s} (keeps {p = p} {w = u} q g j y) z = inr (ap (λ (i : Waiting). waiting_message s.persisted i) q ∙ sym y ∙ z)
      go (starts g j f) z = inl z
      go (resends q j) z = inl z
      go (abandons j q u) z = not_both cc
      go (shuts g j) z = not_both cc

  -- the other way: what an act names is what waits after it
  pub named_waits : (ds : List SystemAct) (a : Act) (m : SequenceNumber) → (act_of a (at ds).sending.sender).send ≡ Some m
      → waits_of (act_of a (at ds).sending.sender).sender ≡ Some m
  named_waits ds a m w = go (steps (at ds).sending.sender (run-valid ds) a) w
    where
      go : {r n : ℕ} {s t : Sender} {k : ℕ} {c : Option SequenceNumber} {x : Event} → Step r s n t c k x → c ≡ Some m → waits_of t ≡ Some m
      go (refuses q) z = not_both cc
      go (keeps q g j y) z = not_both cc
      go (starts g j f) z = z
      go (resends q j) z = z
      go (abandons j q u) z = not_both cc
      go (shuts g j) z = not_both cc

  -- and where nothing waits on an open circuit, all that was submitted is delivered
  pub nothing_left_lem : (ds : List SystemAct) → (at ds).sending.sender.waiting ≡ Idle
      → (at ds).sending.sender.persisted.delivered ≡ (at ds).sending.sender.persisted.last
  nothing_left_lem ds z =
      (subst (λ (w : Waiting). WaitsRight (at ds).sending.sender.persisted w (at ds).sending.sender.sends) z (right_from (at ds).sending.sender (run-valid ds)).waits).1.all

  -- ---- the log may be purged: the persisted delivered number never falls, and what waits is above it
  pub stored_grows : (d : SystemAct) (ds : List SystemAct) → (at ds).sending.persisted.delivered ≤ (at (d ∷ ds)).sending.persisted.delivered
  unfolding run_of
  stored_grows d ds =
      at_after l (λ s p h. (at ds).sending.persisted.delivered ≤ p.delivered) (λ s p h i c a r. c) (at ds) (run-valid ds) (omega arith)
      (run_stands l rd remains only e v ds).core.numbers.delivered_more (omega arith) d

  pub waits_above : (ds : List SystemAct) (n : ℕ) → waits_of (at ds).sending.sender ≡ Some (Number n) → 1 ≤ n → (at ds).sending.persisted.delivered < n
  waits_above ds n w z = go (at ds).sending.sender.waiting w (run_stands l rd remains only e v ds).core.numbers.delivered_more
    where
      go : (x : Waiting) → waiting_message (at ds).sending.sender.persisted x ≡ Some (Number n)
          → (at ds).sending.persisted.delivered ≤ (at ds).sending.sender.persisted.delivered → (at ds).sending.persisted.delivered < n
      go Closed y q = not_both cc
      go Idle y q = not_both cc
      go Resynchronizing y q = not_both cc
      go Querying y q = let r : ◌≡◌ {A = ℕ} 0 n = cc in absurd (omega arith)
      go Sending y q = let r : (at ds).sending.sender.persisted.delivered + 1 ≡ n = cc in omega arith

  -- ---- never more than r + 1 sends
  run-within : (ds : List SystemAct) → (at ds).sending.sender.sends ≤ l.resends + 1
  unfolding run_of
  run-within [] = omega arith
  run-within (d ∷ ds) =
      at_after l (λ s p h. s.sends ≤ l.resends + 1) (λ s p h i c a r. (few_step l.resends r c (steps s i a)).after) (at ds) (run-valid ds) (run-within ds) (run-within ds) (omega arith) d

  -- "gives up exactly when a resend falls due with its stated sends spent": an act that gives up, with the resends of the link, had made r + 1 sends
  pub abandons_spent : (ds : List SystemAct) (a : Act) → resends_of a ≡ l.resends → is_abandoned (act_of a (at ds).sending.sender).event ≡ true
      → (act_of a (at ds).sending.sender).sends ≡ l.resends + 1
  abandons_spent ds a q u =
      let t = steps (at ds).sending.sender (run-valid ds) a in
      let x = (few_step l.resends (omega arith) (run-within ds) t).reported in
      let y = up_step t u in
      omega arith

  -- the sends by the history are the sends that the sender has counted
  counted_is : (ds : List SystemAct) → counted_of (waits_of (at ds).sending.sender) (at ds).sending.history ≡ (at ds).sending.sender.sends
  counted_is ds =
      let s = (at ds).sending.sender in
      sym (count_is s.persisted s.waiting s.sends (at ds).sending.history (right_from s (run-valid ds)).waits (run_counts ds))

  -- as one equation: an act gives up exactly when a resend falls due with it and r + 1 sends were made, by the history, of what waits
  pub abandons_exactly : (ds : List SystemAct) (a : Act) → (falls_due a ≡ true → resends_of a ≡ l.resends)
      → is_abandoned (act_of a (at ds).sending.sender).event ≡ (falls_due a && eqb (counted_of (waits_of (at ds).sending.sender) (at ds).sending.history) (l.resends + 1))
  abandons_exactly ds a given = go (is_abandoned (act_of a (at ds).sending.sender).event) refl
    where
      spent : is_abandoned (act_of a (at ds).sending.sender).event ≡ true → counted_of (waits_of (at ds).sending.sender) (at ds).sending.history ≡ l.resends + 1
      spent u =
          let b = act_of a (at ds).sending.sender in
          let told : b.sends ≡ counted_of (waits_of (at ds).sending.sender) (at ds).sending.history =
          reports ds a ∙ ap (λ (z : Bool). cond z (counted_of (waits_of (at ds).sending.sender) (at ds).sending.history) (counted_of (waits_of b.sender) (reported b ∷ (at ds).sending.history))) u in
          sym told ∙ abandons_spent ds a (given (only_due a (at ds).sending.sender u)) u

      waiting : (w : Option SequenceNumber) → waits_of (at ds).sending.sender ≡ w → falls_due a ≡ true → (at ds).sending.sender.sends ≡ l.resends + 1
          → is_abandoned (act_of a (at ds).sending.sender).event ≡ true
      waiting None w d e =
          let none : 0 ≡ (at ds).sending.sender.sends = ap (λ (m : Option SequenceNumber). counted_of m (at ds).sending.history) (sym w) ∙ counted_is ds in
          absurd (omega arith)
      waiting (Some m) w d e =
          let s = (at ds).sending.sender in
          ap is_abandoned (due_as_timer l.resends s rd.resends (run-valid ds) m w a d (given d))
          ∙ ap (λ (b : Acted). is_abandoned b.event) (timer_abandons l.resends s rd.resends (run-valid ds) m w (omega arith))

      unspent : is_abandoned (act_of a (at ds).sending.sender).event ≡ false → (d : Bool) → falls_due a ≡ d
          → (d && eqb (counted_of (waits_of (at ds).sending.sender) (at ds).sending.history) (l.resends + 1)) ≡ false
      unspent u false d = refl
      unspent u true d =
          ne_eqb (counted_of (waits_of (at ds).sending.sender) (at ds).sending.history) (l.resends + 1)
          (λ z. not_both (sym (waiting (waits_of (at ds).sending.sender) refl d (sym (counted_is ds) ∙ z)) ∙ u))

      go : (b : Bool) → is_abandoned (act_of a (at ds).sending.sender).event ≡ b
          → is_abandoned (act_of a (at ds).sending.sender).event ≡ (falls_due a && eqb (counted_of (waits_of (at ds).sending.sender) (at ds).sending.history) (l.resends + 1))
      go true u = u ∙ sym (rw (only_due a (at ds).sending.sender u, eq-eqb (counted_of (waits_of (at ds).sending.sender) (at ds).sending.history) (l.resends + 1) (spent u)))
      go false u = u ∙ sym (unspent u (falls_due a) refl)
