-- Before the first circuit: an earlier tenant's answers may be left on the line back, at the receiver and at the sender. Nobody takes them, and the first circuit drops them.
use Rattle.std.specs.Prelude.{Option, Some, None, Result, Ok, Err}
use mathlib.Core.Path.{◌≡◌, refl, sym, ap, ◌∙◌, subst}
use mathlib.Core.List.{List, [], ◌∷◌, ◌++◌}
use mathlib.Core.Bool.{Bool, true, false, cond, not, ◌&&◌}
use mathlib.Core.Logic.{◌⊎◌, inl, inr}
use Prim.Native.Nat.{ℕ, ◌+◌}
use lib.ListN.{length}
use lib.Dec.{leb, eqb}
use Rattle.lists.specs.Bytes.{same}
use Rattle.lists.proofs.Tests.{cond_ind}
use Rattle.settings.specs.Settings.{valid_link_limit}
use Rattle.settings.specs.DataBytes.{all_allowed}
use Rattle.fields.specs.Fields.{bytes_of}
use Rattle.numbers.specs.Numbers.{number_field, greatest_sent, text_of}
use Rattle.numbers.specs.declared.SequenceNumber.{SequenceNumber}
use Rattle.numbers.specs.declared.SequenceNumber.TheVariants.{Number}
use Rattle.header.specs.Header.{header_of}
use Rattle.header.specs.declared.Header.{Header}
use Rattle.stream.specs.Stream.{Judged, run}
use Rattle.refusal.specs.declared.Accepted.{Accepted}
use Rattle.refusal.specs.declared.Refusal.{Refusal}
use Rattle.receiver.specs.Receiver.{valid_expected, closed as closed_receiver, is_closed, decide_of, answer_of, nak_of}
use Rattle.receiver.specs.declared.Application.{Application}
use Rattle.sender.specs.Sender.{valid_sender, fresh_sender, is_open, on_circuit, no_state, refused, begins_to_wait, is_number, taken_in, submitted_header, valid_resends, when_open}
use Rattle.sender.specs.Sender.{open_of, ended_of, reset_of, timer_of, submit_of, block_read_of}
use Rattle.sender.specs.declared.Waiting.{Waiting}
use Rattle.sender.specs.declared.Waiting.TheVariants.{Closed, Resynchronizing, Querying}
use Rattle.sender.specs.declared.Sender.{Sender}
use Rattle.sender.specs.declared.Event.TheVariants.{NoEvent}
use Rattle.sender.specs.declared.Acted.{Acted}
use Rattle.link.specs.SenderActs.{after_crash}
use Rattle.link.specs.Duties.{every, one_at, others_at}
use Rattle.link.specs.Line.{line, new_reader, empty_line, accepted_of, damages, disorders}
use Rattle.link.specs.System.{Link, System, Remains, beginning, stored, sending, receiving, link, sender_acted, circuit_opened, request_written, sender_read, answer_taken}
use Rattle.link.specs.System.{decided_end, verdict_decided, replies_of, receiver_persisted, to_persist, is_true, reported_end, receiver_read, request_taken, reply_written, SystemAct, opens, ends, resets, timer, submits, sender_persists, sender_writes, sender_forgets, sender_reads}
use Rattle.link.specs.System.{sender_acts, sender_discards, sender_restores, sender_crashes, receiver_reads, receiver_decides, receiver_reports, receiver_naks, receiver_discards, receiver_persists, receiver_writes}
use Rattle.link.specs.System.{receiver_restores, receiver_crashes, damages_forward, damages_back, persists_number, persists_transaction, lands_late, reverts_to, sender_reverts_to, brings_late, brings_late_request, after_act}
use Rattle.link.specs.Promise.{Ready, OnlyAnswers}
use Rattle.link.proofs.Facts.{not_both}
use Rattle.link.proofs.Queues.{none, all_right, each_none}
use Rattle.link.proofs.Books.{Waits, Queried, books, Core, queried_of, lines_with, waits_with}
use Rattle.link.proofs.Naming.{quiet}
use Rattle.link.proofs.Invariant.{Transit, transit, books_of, Ends, Opening, opening_as, Inv, sender_acts_lem}
use Rattle.link.proofs.RequestsRead.{request_one}
use Rattle.link.proofs.Acts.{start, opens_keeps, resets_keeps, submits_keeps, sender_persists_keeps, sender_forgets_keeps, sender_restores_keeps, sender_crashes_keeps, receiver_reads_keeps}
use Rattle.link.proofs.Acts.{receiver_discards_keeps, receiver_persists_keeps, receiver_reports_keeps, receiver_naks_keeps, receiver_restores_keeps, receiver_crashes_keeps, damages_forward_keeps}

-- all else equal, without the answers: those on the line back, those read and not yet acted on, and those not yet sent
abbrev pub without_answers : System → System
without_answers y =
    let s = y.sending in
    let r = y.receiving in
    link (sending s.sender s.persisted s.named [] s.history) (receiving r.receiver r.persisted r.message r.reports [] r.arrived) y.forward empty_line

-- no circuit is open, and but for the answers the invariant holds
pub record Early (l : Link) (y : System) : Type 0 where
  pub closed : y.sending.sender.waiting ≡ Closed
  pub rest : Inv l (without_answers y)

-- ---- a sender without a circuit
module _ (s : Sender) (c : s.waiting ≡ Closed) where
  abbrev IsClosed : Acted → Type 0
  IsClosed a = a.sender.waiting ≡ Closed

  no_circuit : on_circuit s ≡ false
  no_circuit = ap (λ (w : Waiting). valid_sender s && is_open w) c ∙ go (valid_sender s)
    where
      go : (b : Bool) → (b && false) ≡ false
      go true = refl
      go false = refl

  reset_closed : IsClosed (reset_of s)
  unfolding reset_of
  reset_closed = cond_ind IsClosed (valid_sender s) _ _ (λ v. cond_ind IsClosed s.persisted.frozen _ _ (λ z. refl) (λ z. c)) (λ v. c)

  header_closed : (message : List ℕ) (x : Option Header) → IsClosed (submitted_header s message x)
  header_closed message None = c
  header_closed message (Some h) =
      let next = s.persisted.last + 1 in
      cond_ind IsClosed (is_number next (number_field greatest_sent (bytes_of h.sequence message)) && same (bytes_of h.control_id message) (text_of (Number next))) _ _
      (λ z. subst (λ (w : Waiting). IsClosed (taken_in s w)) (sym c) c) (λ z. c)

  submit_closed : (limit : ℕ) (message : List ℕ) → IsClosed (submit_of limit s message)
  unfolding submit_of
  submit_closed limit message =
      cond_ind IsClosed (valid_link_limit limit) _ _
      (λ a. cond_ind IsClosed (valid_sender s) _ _
      (λ v. cond_ind IsClosed (not s.persisted.frozen) _ _
      (λ y. cond_ind IsClosed (leb (length message) limit) _ _
      (λ z. cond_ind IsClosed (all_allowed message) _ _ (λ x. header_closed message (header_of message)) (λ x. c))
      (λ z. c)) (λ y. c)) (λ v. c)) (λ a. c)

  pub open_is : valid_sender s ≡ true → s.persisted.frozen ≡ false
      → open_of s ≡ begins_to_wait s.persisted (cond s.persisted.resynchronized Querying Resynchronizing) NoEvent
  unfolding open_of
  open_is v u =
      let opening = begins_to_wait s.persisted (cond s.persisted.resynchronized Querying Resynchronizing) NoEvent in
      ap (λ (b : Bool). cond b (cond (not (is_open s.waiting) && not s.persisted.frozen) opening (refused 11 0 s)) (no_state s)) v
      ∙ ap (λ (w : Waiting). cond (not (is_open w) && not s.persisted.frozen) opening (refused 11 0 s)) c
      ∙ ap (λ (b : Bool). cond (not b) opening (refused 11 0 s)) u

module _ (l : Link) (rd : Ready l) where
  -- ---- the beginning
  pub early_start : (m : Remains) → OnlyAnswers m → (e : Option ℕ) → valid_expected e ≡ true → Early l (beginning every l e m)
  early_start m only e v =
      let p = (fresh_sender l.first).persisted in
      let end = sending (after_crash p) p [] [] [] in
      record {
        closed = refl;
        rest = subst (λ (xs : List ℕ). Inv l (link end (receiving (closed_receiver e) (stored e []) m.message false [] m.requests) (line new_reader xs) empty_line)) (sym only.forward)
            (subst (λ (ws : List Judged). Inv l (link end (receiving (closed_receiver e) (stored e []) m.message false [] ws) empty_line empty_line)) (sym only.requests) (start l rd e v m.message));
      }

  without_answers_lem : (y : System) → Inv l y → Inv l (without_answers y)
  unfolding accepted_of run
  without_answers_lem y i =
      let c = i.core in
      let b = books_of l y i.way in
      record {
        way = transit i.way.forward [] [] i.way.opening i.way.volatile i.way.persisted;
        core = lines_with c b.waiting b.named b.forward [] b.pending c.forward none c.pending
            (waits_with c (books b.held b.persisted b.waiting b.named b.volatile b.stored b.forward [] b.pending)
            (λ t. queried_of t.synchronized t.zeros (all_right b.back b.pending t.names) none));
        ends = i.ends;
        opening = opening_as [] y.receiving.arrived i.opening;
        forward = i.forward;
        back = each_none;
        pending = each_none;
      }

  module _ (y : System) (i : Early l y) where
    abbrev s : Sender
    s = y.sending.sender

    early : (z : System) → z.sending.sender.waiting ≡ Closed → Inv l (without_answers z) → Early l z
    early z c j = record { closed = c; rest = j }

    nothing_named : y.sending.named ≡ []
    nothing_named =
        let b = books_of l (without_answers y) i.rest.way in
        subst (Waits b.held.resynchronized b.named (Queried b)) i.closed i.rest.core.waits

    -- ---- the sender refuses what needs a circuit
    still : (ws : List Judged) (n k : ℕ) → Early l (sender_acted y ws (record { refusal = n; sender = s; send = None; sends = k; event = NoEvent; block = 0; offset = 0 }))
    still ws n k =
        let j = i.rest in
        let a : Acted = record { refusal = n; sender = s; send = None; sends = k; event = NoEvent; block = 0; offset = 0 } in
        early (sender_acted y ws a) i.closed (sender_acts_lem l (without_answers y) j [] j.way.back a (quiet j.core) j.ends.valid j.back)

    off_circuit : (ws : List Judged) (a : Acted) → Early l (sender_acted y ws (cond (on_circuit s) a (no_state s)))
    off_circuit ws a =
        cond_ind (λ (x : Acted). Early l (sender_acted y ws x)) (on_circuit s) _ _ (λ z. not_both (sym z ∙ no_circuit s i.closed)) (λ z. still ws 11 0)

    when_open_lem : (ws : List Judged) (r : ℕ) (a : Acted) → Early l (sender_acted y ws (when_open r s a))
    when_open_lem ws r a = cond_ind (λ (x : Acted). Early l (sender_acted y ws x)) (valid_resends r) _ _ (λ z. off_circuit ws a) (λ z. still ws 1 s.sends)

    ends_early : Early l (sender_acted y y.sending.arrived (ended_of s))
    unfolding ended_of
    ends_early = off_circuit y.sending.arrived _

    timer_early : Early l (sender_acted y y.sending.arrived (timer_of l.resends s))
    unfolding timer_of
    timer_early = when_open_lem y.sending.arrived l.resends _

    answer_early : (ws vs : List Judged) → Early l (answer_taken l y ws vs)
    unfolding block_read_of
    answer_early [] vs = i
    answer_early (w ∷ ws) vs = when_open_lem vs l.resends _

    -- ---- the first circuit
    opens_first : Inv l (circuit_opened every y (open_of s))
    opens_first =
        let j = i.rest in
        let e = open_is s i.closed j.ends.valid j.core.senders.unfrozen in
        subst (λ (a : Acted). Inv l (circuit_opened every y a)) (sym e) (subst (λ (a : Acted). Inv l (circuit_opened every (without_answers y) a)) e (opens_keeps l rd (without_answers y) j))

    -- ---- what is named, read and answered
    written_early : (vs : List SequenceNumber) → y.sending.named ≡ vs → Early l (request_written every l y (one_at 0 vs) (others_at 0 vs))
    unfolding one_at others_at
    written_early [] e = i
    written_early (v ∷ vs) e = let z : v ∷ vs ≡ [] = sym e ∙ nothing_named in not_both cc

    answer_read_early : (xs : List ℕ) → Early l (sender_read l y xs)
    answer_read_early [] = i
    answer_read_early (x ∷ xs) = early (sender_read l y (x ∷ xs)) i.closed i.rest

    request_read_early : (xs : List ℕ) → y.forward.bytes ≡ xs → Early l (receiver_read l y xs)
    request_read_early [] e = i
    request_read_early (x ∷ xs) e = early (receiver_read l y (x ∷ xs)) i.closed (receiver_reads_keeps l rd (without_answers y) i.rest (x ∷ xs) e)

    decided_early : (a : Application) (ws : List Judged) (d : List ℕ) (v : Result Accepted Refusal) → Inv l (verdict_decided a (without_answers y) ws d v) → Early l (verdict_decided a y ws d v)
    decided_early a ws d (Err v) j = i
    decided_early a ws d (Ok v) j =
        let x = decide_of a y.receiving.receiver v.block_type d in
        let bare = without_answers y in
        let then = link bare.sending (decided_end bare.receiving ws d x) bare.forward bare.back in
        cond_ind (Early l) (eqb x.refusal 0) _ _
        (λ z. early (link y.sending (decided_end y.receiving ws d x) y.forward y.back) i.closed (subst (λ (k : Bool). Inv l (cond k then bare)) z j))
        (λ z. i)

    request_early : (a : Application) (ws : List Judged) → y.receiving.arrived ≡ ws → Early l (request_taken a y (one_at 0 ws) (others_at 0 ws))
    unfolding one_at others_at
    request_early a [] e = i
    request_early a (w ∷ ws) e = decided_early a ws w.content w.verdict (request_one l rd a (without_answers y) i.rest w ws e)

    -- a decision is reported, and an N block given: its reply is pending, and is left out too
    stored_early : Early l (after_act every l receiver_persists y)
    stored_early =
        let e = y.receiving in
        let bare = without_answers y in
        cond_ind (Early l) (not (is_closed e.receiver.decision) && not e.reports) _ _
        (λ z. early (receiver_persisted y (to_persist e) true) i.closed
        (subst (λ (k : Bool). Inv l (cond k (receiver_persisted bare (to_persist e) true) bare)) z (receiver_persists_keeps l rd bare i.rest)))
        (λ z. i)

    reported_early : (success : Bool) (start : ℕ) (b : List ℕ) → Early l (after_act every l (receiver_reports success start b) y)
    reported_early success start b =
        let o = answer_of l.settings success y.receiving.receiver start b in
        let bare = without_answers y in
        cond_ind (Early l) (is_true every success y.receiving.reports && eqb o.answer.refusal 0) _ _
        (λ z. early (reported_end y start o) i.closed
        (without_answers_lem (reported_end bare start o) (subst (λ (k : Bool). Inv l (cond k (reported_end bare start o) bare)) z (receiver_reports_keeps l rd bare i.rest success start b))))
        (λ z. i)

    nak_early : (n start : ℕ) (b : List ℕ) → Early l (after_act every l (receiver_naks n start b) y)
    nak_early n start b =
        let o = nak_of l.settings n y.receiving.receiver start b in
        let e = y.receiving in
        let bare = without_answers y in
        let then = link bare.sending (receiving e.receiver e.persisted e.message e.reports ([] ++ replies_of start o) e.arrived) bare.forward bare.back in
        cond_ind (Early l) (eqb o.answer.refusal 0) _ _
        (λ z. early (link y.sending (receiving e.receiver e.persisted e.message e.reports (e.pending ++ replies_of start o) e.arrived) y.forward y.back) i.closed
        (without_answers_lem then (subst (λ (k : Bool). Inv l (cond k then bare)) z (receiver_naks_keeps l rd bare i.rest n start b))))
        (λ z. i)

    reply_early : (bs : List (List ℕ)) → Early l (reply_written y bs)
    reply_early [] = i
    reply_early (b ∷ bs) = early _ i.closed i.rest

    damages_forward_early : (xs : List ℕ) → Early l (after_act every l (damages_forward xs) y)
    damages_forward_early xs =
        let bare = without_answers y in
        let then = link bare.sending bare.receiving (line y.forward.reader xs) bare.back in
        cond_ind (Early l) (damages l.settings y.forward xs) _ _
        (λ z. early (link y.sending y.receiving (line y.forward.reader xs) y.back) i.closed
        (subst (λ (k : Bool). Inv l (cond k then bare)) z (damages_forward_keeps l rd bare i.rest xs)))
        (λ z. i)

    damages_back_early : (xs : List ℕ) → Early l (after_act every l (damages_back xs) y)
    damages_back_early xs =
        cond_ind (Early l) (disorders l.settings y.back xs) _ _
        (λ z. early (link y.sending y.receiving y.forward (line y.back.reader xs)) i.closed i.rest) (λ z. i)

    -- ---- any act
    pub early_acts : (a : SystemAct) → Early l (after_act every l a y) ⊎ Inv l (after_act every l a y)
    early_acts opens = inr opens_first
    early_acts ends = inl ends_early
    early_acts resets = inl (early (after_act every l resets y) (reset_closed s i.closed) (resets_keeps l rd (without_answers y) i.rest))
    early_acts timer = inl timer_early
    early_acts (submits limit d) =
        inl (early (after_act every l (submits limit d) y) (submit_closed s i.closed limit d) (submits_keeps l rd (without_answers y) i.rest limit d))
    early_acts sender_persists = inl (early (after_act every l sender_persists y) i.closed (sender_persists_keeps l rd (without_answers y) i.rest))
    early_acts sender_reads = inl (answer_read_early y.back.bytes)
    early_acts sender_restores = inl (early (after_act every l sender_restores y) refl (sender_restores_keeps l rd (without_answers y) i.rest))
    early_acts sender_crashes = inl (early (after_act every l sender_crashes y) refl (sender_crashes_keeps l rd (without_answers y) i.rest))
    early_acts receiver_reads = inl (request_read_early y.forward.bytes refl)
    early_acts receiver_persists = inl stored_early
    early_acts receiver_writes = inl (reply_early y.receiving.pending)
    early_acts receiver_restores = inl (early (after_act every l receiver_restores y) i.closed (receiver_restores_keeps l rd (without_answers y) i.rest))
    early_acts receiver_crashes = inl (early (after_act every l receiver_crashes y) i.closed (receiver_crashes_keeps l rd (without_answers y) i.rest))
    early_acts (sender_writes n) = inl (written_early y.sending.named refl)
    early_acts (sender_forgets n) = inl (early (after_act every l (sender_forgets n) y) i.closed (sender_forgets_keeps l rd (without_answers y) i.rest n))
    early_acts (sender_acts n) = inl (answer_early (one_at n y.sending.arrived) (others_at n y.sending.arrived))
    early_acts (sender_discards n) = inl (early (after_act every l (sender_discards n) y) i.closed i.rest)
    early_acts (receiver_discards n) = inl (early (after_act every l (receiver_discards n) y) i.closed (receiver_discards_keeps l rd (without_answers y) i.rest n))
    early_acts (receiver_decides n a) = inl (request_early a y.receiving.arrived refl)
    early_acts (receiver_reports success start b) = inl (reported_early success start b)
    early_acts (receiver_naks n start b) = inl (nak_early n start b)
    early_acts (damages_forward b) = inl (damages_forward_early b)
    early_acts (damages_back b) = inl (damages_back_early b)
    -- a host that keeps its duties does none of these
    early_acts persists_number = inl i
    early_acts persists_transaction = inl i
    early_acts (lands_late p) = inl i
    early_acts (reverts_to p) = inl i
    early_acts (sender_reverts_to p) = inl i
    early_acts (brings_late b) = inl i
    early_acts (brings_late_request b) = inl i

-- ---- what holds before the first circuit and after it: the numbers, the stored transactions and the open decision
pub record Standing (l : Link) (y : System) : Type 0 where
  pub way : Transit
  pub core : Core l.first (books_of l y way)
  pub ends : Ends l y.sending.sender y.sending.persisted y.receiving.receiver y.receiving.persisted way.persisted.count
  pub opening : Opening l y.receiving way.volatile way.persisted way.opening

pub stands : (l : Link) (y : System) → Early l y ⊎ Inv l y → Standing l y
stands l y (inl i) =
    record { way = i.rest.way; core = i.rest.core; ends = i.rest.ends; opening = opening_as y.receiving.pending y.receiving.arrived i.rest.opening }
stands l y (inr i) = record { way = i.way; core = i.core; ends = i.ends; opening = i.opening }
