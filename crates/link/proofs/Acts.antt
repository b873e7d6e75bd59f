-- Each act keeps the invariant, where the hosts keep their duties.
use Rattle.std.specs.Prelude.{Option, Some, None}
use mathlib.Core.Path.{◌≡◌, refl, sym, ap, ◌∙◌, subst}
use mathlib.Core.List.{List, [], ◌∷◌, ◌++◌, append_assoc, append-nil}
use mathlib.Core.Bool.{Bool, true, false, cond, not, ◌&&◌}
use Prim.Native.Nat.{ℕ, zero, suc, ◌+◌, ◌≤◌}
use Prim.Native.Char.{code}
use native.Mathlib.Omega.{arith}
use lib.ListN.{length, length-append, take, drop}
use lib.Dec.{eqb, leb}
use borrow.Author.Tests.{eqb-true, leb-true}
use Rattle.lists.specs.Outcome.{Outcome, outcome}
use Rattle.lists.proofs.Tests.{cond_ind, and_left, and_right}
use Rattle.block.specs.Format.{block_of}
use Rattle.numbers.specs.declared.SequenceNumber.{SequenceNumber}
use Rattle.stream.specs.Stream.{Judged, run}
use Rattle.settings.specs.Settings.{by_kind, valid_link}
use Rattle.settings.specs.declared.Kind.{Kind}
use Rattle.settings.specs.declared.Kind.TheVariants.{Hybrid, Minimal}
use Rattle.messages.specs.Messages.{answer_message}
use Rattle.numbers.proofs.Reading.{text_allowed}
use Rattle.control_id.specs.ControlId.{in_words}
use Rattle.numbers.specs.Numbers.{text_of}
use Rattle.receiver.specs.Receiver.{valid_expected, valid_receiver, closed, is_closed, reason_of, nak_block, nak_reply, is_block_number, answer_block, answered, replied, reported_of, reply_space, answer_of, nak_of}
use Rattle.receiver.specs.declared.Application.{Application}
use Rattle.receiver.specs.declared.Row.{Row}
use Rattle.receiver.specs.declared.Decision.{Decision}
use Rattle.receiver.specs.declared.Receiver.{Receiver}
use Rattle.receiver.specs.declared.Answered.{Answered}
use Rattle.receiver.proofs.Rows.{id_back}
use Rattle.sender.specs.Sender.{valid_sender, fresh_sender, begins_to_wait, refused, no_state, is_open, open_of, ended_of, reset_of, timer_of, submit_of}
use Rattle.sender.specs.declared.Persisted.{Persisted}
use Rattle.sender.specs.declared.Waiting.{Waiting}
use Rattle.sender.specs.declared.Waiting.TheVariants.{Resynchronizing, Querying}
use Rattle.sender.specs.declared.Event.TheVariants.{NoEvent}
use Rattle.sender.specs.declared.Acted.{Acted}
use Rattle.link.proofs.Facts.{not_both}
use Rattle.link.proofs.SenderInvariant.{act_valid, crash_valid, fresh-valid}
use Rattle.block_theorems.specs.Shapes.{type_read}
use Rattle.link.specs.Duties.{every, one_at, others_at}
use Rattle.link.specs.SenderActs.{Act, opened, ended, reset, timer, submit, act_of}
use Rattle.link.specs.Line.{Line, line, reads_byte, Arrival, arrival, accepted_of, arriving, damages, disorders}
use Rattle.link.specs.System.{Link, System, beginning, sending, receiving, link, request_of, sender_acted, new_circuit, circuit_opened, same_flag, stored_by, to_persist, replies_of}
use Rattle.link.specs.System.{same_persisted, request_written, sender_read, answer_taken, request_taken, nak_taken, receiver_read, receiver_persisted, reported_end, reply_written, after_act}
use Rattle.link.specs.System.{sender_persists, sender_forgets, sender_restores, sender_crashes, sender_discards, receiver_persists, receiver_reports, receiver_naks, receiver_restores, receiver_crashes, receiver_discards}
use Rattle.link.specs.System.{damages_forward, damages_back}
use Rattle.link.specs.Promise.{Ready, transactions}
use Rattle.link.proofs.Queues.{All, none, all_head, all_right, sub-all, sub_none, sub_behind, sub_others, sub_among, among_both, nobody, good_none, Each, each_none, each_end, each_front, each_sub, each_among}
use Rattle.link.proofs.Queues.{Front, front, Chosen, some, Others, others, Answer, replies, refuses, side}
use Rattle.link.proofs.Books.{forward_of, chain, books, with_lines, Core, old, lose_forward, forget_named, lose_back, persist_sender, persist_receiver, restore_receiver, restore_sender, nak}
use Rattle.link.proofs.Moves.{write, reply}
use Rattle.link.proofs.Naming.{quiet, open_first, open_later}
use Rattle.link.proofs.Sending.{After, submits as submits-after, ended as ended-after, reset as reset-after}
use Rattle.link.proofs.Messages.{IsRequest, IsReply, IsBlock, Nameable, request_writable, request_is, answer_block_lem, nak_block_lem}
use Rattle.link.proofs.AnswersRead.{timer_runs}
use Rattle.link.proofs.Arrivals.{others_sub, read_same, lost_line, among_line, some_sub, each_of_lem}
use Rattle.link.proofs.Invariant.{ends_of, Reach, transit, books_of, requests_to, answers_to, Sayable, Opening, none_open, to_store_lem, to_report, opening_as, opening_names, Inv, sender_acts_lem, answer_one}
use Rattle.link.proofs.Receiving.{closed-valid, answer_short, answer_is}
use Rattle.link.proofs.RequestsRead.{all_nameable, reply_is, request_one}
use Rattle.link.proofs.Bytes.{arriving_block}

-- ---- equal by their tests
flag_is : (a b : Bool) → same_flag a b ≡ true → a ≡ b
flag_is true b e = sym e
flag_is false true e = e
flag_is false false e = refl

persisted_is : (p q : Persisted) → same_persisted p q ≡ true → p ≡ q
persisted_is p q e =
    let first = eqb p.first q.first in
    let delivered = eqb p.delivered q.delivered in
    let last = eqb p.last q.last in
    let resynchronized = same_flag p.resynchronized q.resynchronized in
    let frozen = same_flag p.frozen q.frozen in
    let n = and_left (first && (delivered && last)) (resynchronized && frozen) e in
    let m = and_right (first && (delivered && last)) (resynchronized && frozen) e in
    let k = and_right first (delivered && last) n in
    let a = eqb-true p.first q.first (and_left first (delivered && last) n) in
    let b = eqb-true p.delivered q.delivered (and_left delivered last k) in
    let c = eqb-true p.last q.last (and_right delivered last k) in
    let d = flag_is p.resynchronized q.resynchronized (and_left resynchronized frozen m) in
    let f = flag_is p.frozen q.frozen (and_right resynchronized frozen m) in
    ap (λ (z : ℕ). record { first = z; delivered = p.delivered; last = p.last; resynchronized = p.resynchronized; frozen = p.frozen }) a
    ∙ ap (λ (z : ℕ). record { first = q.first; delivered = z; last = p.last; resynchronized = p.resynchronized; frozen = p.frozen }) b
    ∙ ap (λ (z : ℕ). record { first = q.first; delivered = q.delivered; last = z; resynchronized = p.resynchronized; frozen = p.frozen }) c
    ∙ ap (λ (z : Bool). record { first = q.first; delivered = q.delivered; last = q.last; resynchronized = z; frozen = p.frozen }) d
    ∙ ap (λ (z : Bool). record { first = q.first; delivered = q.delivered; last = q.last; resynchronized = q.resynchronized; frozen = z }) f

pub transactions-length : (l : Link) (n : ℕ) → length (transactions l n) ≡ n
unfolding transactions
transactions-length l zero = refl
transactions-length l (suc n) =
    let e = transactions-length l n in length-append (transactions l n) (l.log (l.first + n) ∷ []) ∙ (let z : length (transactions l n) + 1 ≡ suc n = omega arith in z)

not_true : (b : Bool) → not b ≡ true → b ≡ false
not_true true e = not_both (sym e)
not_true false e = refl

module _ (l : Link) (rd : Ready l) where
  -- ---- the start
  pub start : (e : Option ℕ) → valid_expected e ≡ true → (d : List ℕ) → Inv l (beginning every l e (record { forward = []; back = []; pending = []; requests = []; answers = []; decision = None; message = d }))
  unfolding transactions accepted_of run
  start e v d =
      let a = rd.first_least in
      let b = rd.first_most in
      let reach : Reach = record { count = 0; old = true } in
      record {
        way = transit [] [] [] [] reach reach;
        core = record {
          numbers = chain a (omega arith) (omega arith) (omega arith) (omega arith) (omega arith) (omega arith) (omega arith) (omega arith);
          senders = record { first = refl; persisted_first = refl; unfrozen = refl; persisted_unfrozen = refl; later = λ z. z };
          receivers = record { expects = old refl (omega arith); stored_expects = old refl (omega arith); newer = λ z. z; synchronized = λ (z : false ≡ true). not_both (sym z) };
          forward = forward_of good_none none none (λ z. omega arith) (λ z. none);
          back = none;
          pending = none;
          waits = refl;
        };
        ends = ends_of (fresh-valid l.first a b) (crash_valid (fresh_sender l.first) (fresh-valid l.first a b)) (closed-valid e v) (record { valid = v; has = refl });
        opening = none_open refl refl refl;
        forward = each_none;
        back = each_none;
        pending = each_none;
      }

  module _ (y : System) (i : Inv l y) where
    -- ---- the driver's and the operator's acts on the sender
    by_act : (a : Acted) → After l.first (books_of l y i.way) a → valid_sender a.sender ≡ true → Inv l (sender_acted y y.sending.arrived a)
    by_act a c v = sender_acts_lem l y i y.sending.arrived i.way.back a c v i.back

    act_keeps : (a : Act) → After l.first (books_of l y i.way) (act_of a y.sending.sender) → Inv l (sender_acted y y.sending.arrived (act_of a y.sending.sender))
    act_keeps a c = by_act (act_of a y.sending.sender) c (act_valid a y.sending.sender i.ends.valid)

    pub ends_keeps : Inv l (sender_acted y y.sending.arrived (ended_of y.sending.sender))
    ends_keeps = act_keeps ended (ended-after l.first (books_of l y i.way) y.sending.sender i.core)

    pub resets_keeps : Inv l (sender_acted y y.sending.arrived (reset_of y.sending.sender))
    resets_keeps = act_keeps reset (reset-after l.first (books_of l y i.way) y.sending.sender i.core)

    pub timer_keeps : Inv l (sender_acted y y.sending.arrived (timer_of l.resends y.sending.sender))
    timer_keeps = act_keeps (timer l.resends) (timer_runs l.first (books_of l y i.way) l.resends y.sending.sender i.core)

    pub submits_keeps : (limit : ℕ) (message : List ℕ) → Inv l (sender_acted y y.sending.arrived (submit_of limit y.sending.sender message))
    submits_keeps limit message = act_keeps (submit limit message) (submits-after l.first (books_of l y i.way) y.sending.sender i.core limit message)

    -- ---- a new circuit
    abbrev Opened : Acted → Type 0
    Opened a = valid_sender a.sender ≡ true → Inv l (circuit_opened every y a)

    still : (n : ℕ) → Inv l (sender_acted y y.sending.arrived (refused n 0 y.sending.sender))
    still n = by_act (refused n 0 y.sending.sender) (quiet i.core) i.ends.valid

    new_circuit_lem : (a : Acted) → Core l.first (books_of l (new_circuit every y a) (transit [] [] [] i.way.opening i.way.volatile i.way.persisted))
        → valid_sender a.sender ≡ true → Inv l (new_circuit every y a)
    unfolding accepted_of run
    new_circuit_lem a c v =
        record {
          way = transit [] [] [] i.way.opening i.way.volatile i.way.persisted;
          core = c;
          ends = ends_of v i.ends.persisted_valid i.ends.receiver_valid i.ends.persisted;
          opening = opening_as [] [] i.opening;
          forward = each_none;
          back = each_none;
          pending = each_none;
        }

    begins_circuit : Opened (begins_to_wait y.sending.sender.persisted (cond y.sending.sender.persisted.resynchronized Querying Resynchronizing) NoEvent)
    begins_circuit =
        let p = y.sending.sender.persisted in
        cond_ind (λ (w : Waiting). Opened (begins_to_wait p w NoEvent)) p.resynchronized Querying Resynchronizing
        (λ z v. new_circuit_lem (begins_to_wait p Querying NoEvent) (open_later i.core z (opening_names i.opening)) v)
        (λ z v. new_circuit_lem (begins_to_wait p Resynchronizing NoEvent) (open_first i.core z) v)

    opens_test : Opened (open_of y.sending.sender)
    unfolding open_of
    opens_test =
        let s = y.sending.sender in
        cond_ind Opened (valid_sender s) _ _
        (λ z. cond_ind Opened (not (is_open s.waiting) && not s.persisted.frozen) _ _ (λ x. begins_circuit) (λ x v. still 11))
        (λ z v. by_act (no_state s) (quiet i.core) i.ends.valid)

    pub opens_keeps : Inv l (circuit_opened every y (open_of y.sending.sender))
    opens_keeps = opens_test (act_valid opened y.sending.sender i.ends.valid)

    -- ---- persisting
    pub sender_persists_keeps : Inv l (after_act every l sender_persists y)
    sender_persists_keeps =
        record {
          way = i.way;
          core = persist_sender i.core;
          ends = ends_of i.ends.valid (crash_valid y.sending.sender i.ends.valid) i.ends.receiver_valid i.ends.persisted;
          opening = i.opening;
          forward = i.forward;
          back = i.back;
          pending = i.pending;
        }

    -- what the open decision says is persisted, and is to be reported
    module _ (n : SequenceNumber) (r : Row) (s : Sayable n r) (is : y.receiving.receiver.decision ≡ Some (record { control_id = in_words (text_of n); row = r })) (names : i.way.opening ≡ replies n r.code r.number ∷ []) where
      -- as it is, and as it is once that is persisted
      new_expected : (to_persist y.receiving).expected ≡ r.persisted.expected
      new_expected = ap (λ (o : Option Decision). (stored_by y.receiving.persisted y.receiving.message o).expected) is

      persisted_now : valid_expected r.persisted.expected ≡ true → (to_persist y.receiving).has ≡ transactions l i.way.volatile.count
          → Inv l (receiver_persisted y (to_persist y.receiving) true)
      persisted_now v h =
          let again = ap (λ (o : Option Decision). (stored_by (to_persist y.receiving) y.receiving.message o).expected) is ∙ sym new_expected in
          let m = i.way.volatile in
          record {
            way = transit i.way.forward i.way.back i.way.pending i.way.opening m m;
            core = subst (λ (e : Option ℕ). Core l.first (books y.sending.sender.persisted y.sending.persisted y.sending.sender.waiting y.sending.named
                (side e (l.first + m.count) m.old) (side (to_persist y.receiving).expected (l.first + m.count) m.old) i.way.forward (i.way.back ++ i.way.pending) i.way.opening))
                (sym again) (persist_receiver i.core);
            ends = ends_of i.ends.valid i.ends.persisted_valid i.ends.receiver_valid
                (record { valid = subst (λ (e : Option ℕ). valid_expected e ≡ true) (sym new_expected) v; has = h });
            opening = subst (Opening l (receiving y.receiving.receiver (to_persist y.receiving) y.receiving.message true y.receiving.pending y.receiving.arrived) m m) (sym names)
                (to_report n r is refl s new_expected refl);
            forward = i.forward;
            back = i.back;
            pending = i.pending;
          }

    store_open : (os : List Answer) → i.way.opening ≡ os → Opening l y.receiving i.way.volatile i.way.persisted os
        → (not (is_closed y.receiving.receiver.decision) && not y.receiving.reports) ≡ true → Inv l (receiver_persisted y (to_persist y.receiving) true)
    store_open os e (none_open a b c) z = not_both (sym z ∙ ap (λ (r : Receiver). not (is_closed r.decision) && not y.receiving.reports) a)
    store_open os e (to_store_lem n r a b s x h) z =
        let is = ap (λ (t : Receiver). t.decision) a in
        persisted_now n r s is e x (ap (λ (o : Option Decision). (stored_by y.receiving.persisted y.receiving.message o).has) is ∙ h)
    store_open os e (to_report n r a b s x h) z =
        not_both (sym (and_right (not (is_closed y.receiving.receiver.decision)) (not y.receiving.reports) z) ∙ ap not b)

    pub receiver_persists_keeps : Inv l (after_act every l receiver_persists y)
    receiver_persists_keeps =
        let e = y.receiving in
        cond_ind (Inv l) (not (is_closed e.receiver.decision) && not e.reports) _ _ (store_open i.way.opening refl i.opening) (λ z. i)

    -- ---- storing fails, and the end goes on from what is persisted
    pub sender_restores_keeps : Inv l (after_act every l sender_restores y)
    sender_restores_keeps =
        record {
          way = i.way;
          core = restore_sender i.core;
          ends = ends_of i.ends.persisted_valid i.ends.persisted_valid i.ends.receiver_valid i.ends.persisted;
          opening = i.opening;
          forward = i.forward;
          back = i.back;
          pending = i.pending;
        }

    pub sender_forgets_keeps : (n : ℕ) → Inv l (after_act every l (sender_forgets n) y)
    sender_forgets_keeps n =
        record { way = i.way; core = forget_named i.core (sub_others n y.sending.named); ends = i.ends; opening = i.opening; forward = i.forward; back = i.back; pending = i.pending }

    -- ---- the open decision is reported
    abbrev space : ℕ → List ℕ → Bool
    space start b = leb (start + reply_space l.settings) (length b)

    -- stored: its answer is pending
    module _ (start : ℕ) (b : List ℕ) (n : SequenceNumber) (r : Row) (s : Sayable n r) (is : y.receiving.receiver.decision ≡ Some (record { control_id = in_words (text_of n); row = r }))
        (same : y.receiving.persisted.expected ≡ r.persisted.expected) (equal : i.way.volatile ≡ i.way.persisted) (names : i.way.opening ≡ replies n r.code r.number ∷ []) where
      abbrev answer : Outcome Answered
      answer = replied (closed r.persisted.expected) (answer_block l.settings (text_of n) r) start b

      answer_given : space start b ≡ true → answer_of l.settings true y.receiving.receiver start b ≡ answer
      answer_given f =
          answer_is l.settings rd.settings y.receiving.receiver i.ends.receiver_valid start b true f
          ∙ ap (reported_of l.settings true y.receiving.receiver start b) is
          ∙ ap (λ (id : List ℕ). replied (closed r.persisted.expected) (answer_block l.settings id r) start b) (id_back (text_of n) (text_allowed n) s.control)

      answered_core : Core l.first (books y.sending.sender.persisted y.sending.persisted y.sending.sender.waiting y.sending.named
          (side y.receiving.persisted.expected (l.first + i.way.persisted.count) i.way.persisted.old)
          (side y.receiving.persisted.expected (l.first + i.way.persisted.count) i.way.persisted.old) i.way.forward
          (i.way.back ++ (i.way.pending ++ replies n r.code r.number ∷ [])) [])
      answered_core =
          let a = replies n r.code r.number in
          let now = ap (λ (o : Option Decision). (stored_by y.receiving.persisted y.receiving.message o).expected) is ∙ sym same in
          subst (λ (m : Reach). Core l.first (books y.sending.sender.persisted y.sending.persisted y.sending.sender.waiting y.sending.named
          (side y.receiving.persisted.expected (l.first + m.count) m.old) (side y.receiving.persisted.expected (l.first + m.count) m.old) i.way.forward
          (i.way.back ++ (i.way.pending ++ a ∷ [])) [])) equal
          (subst (λ (bs : List Answer). Core l.first (books y.sending.sender.persisted y.sending.persisted y.sending.sender.waiting y.sending.named
          (side y.receiving.persisted.expected (l.first + i.way.volatile.count) i.way.volatile.old)
          (side y.receiving.persisted.expected (l.first + i.way.volatile.count) i.way.volatile.old) i.way.forward bs []))
          (append_assoc i.way.back i.way.pending (a ∷ []))
          (subst (λ (e : Option ℕ). Core l.first (books y.sending.sender.persisted y.sending.persisted y.sending.sender.waiting y.sending.named
          (side e (l.first + i.way.volatile.count) i.way.volatile.old) (side e (l.first + i.way.volatile.count) i.way.volatile.old) i.way.forward
          ((i.way.back ++ i.way.pending) ++ a ∷ []) [])) now (reply i.core a [] names)))

      answered_now : space start b ≡ true → Inv l (reported_end y start answer)
      answered_now f =
          let m = i.way.persisted in
          let a = replies n r.code r.number in
          let begins : start ≤ length b = (let k = leb-true (start + reply_space l.settings) (length b) f in omega arith) in
          record {
            way = transit i.way.forward i.way.back (i.way.pending ++ a ∷ []) [] m m;
            core = answered_core;
            ends = ends_of i.ends.valid i.ends.persisted_valid (closed-valid r.persisted.expected (subst (λ (e : Option ℕ). valid_expected e ≡ true) same i.ends.persisted.valid)) i.ends.persisted;
            opening = none_open (ap closed (sym same)) refl refl;
            forward = i.forward;
            back = i.back;
            pending = subst (λ (bs : List (List ℕ)). Each (IsBlock l.settings) (y.receiving.pending ++ bs) (i.way.pending ++ a ∷ []))
                (sym (reply_is l.settings (code "D") (answer_message (text_of n) r.code r.number) start b answer begins refl refl))
                (each_end i.pending (answer_block_lem l.settings rd.settings n r.code r.number (record { control = s.control; number = s.number })));
          }

    -- failed: nothing is sent, and the state is that of before
    failed_now : (b : List ℕ) (start : ℕ) → Inv l (reported_end y start (outcome (answered 0 (closed y.receiving.persisted.expected) 0) b))
    failed_now b start =
        let m = i.way.persisted in
        record {
          way = transit i.way.forward i.way.back i.way.pending [] m m;
          core = restore_receiver i.core;
          ends = ends_of i.ends.valid i.ends.persisted_valid (closed-valid y.receiving.persisted.expected i.ends.persisted.valid) i.ends.persisted;
          opening = none_open refl refl refl;
          forward = i.forward;
          back = i.back;
          pending = subst (λ (bs : List (List ℕ)). Each (IsBlock l.settings) bs i.way.pending) (sym (append-nil y.receiving.pending)) i.pending;
        }

    -- a report is refused where its buffer is too short
    abbrev Reported : ℕ → Outcome Answered → Type 0
    Reported start o = eqb o.answer.refusal 0 ≡ true → Inv l (reported_end y start o)

    short : (success : Bool) (start : ℕ) (b : List ℕ) → space start b ≡ false → Reported start (answer_of l.settings success y.receiving.receiver start b)
    short success start b f =
        subst (Reported start) (sym (answer_short l.settings rd.settings y.receiving.receiver i.ends.receiver_valid start b success f)) (λ (z : eqb 2 0 ≡ true). not_both (sym z))

    success_open : (os : List Answer) → i.way.opening ≡ os → Opening l y.receiving i.way.volatile i.way.persisted os → y.receiving.reports ≡ true
        → (start : ℕ) (b : List ℕ) → space start b ≡ true → Reported start (answer_of l.settings true y.receiving.receiver start b)
    success_open os e (none_open a u c) t start b f z = not_both (sym t ∙ u)
    success_open os e (to_store_lem n r a u s x h) t start b f z = not_both (sym t ∙ u)
    success_open os e (to_report n r a u s x h) t start b f z =
        subst (λ (o : Outcome Answered). Inv l (reported_end y start o)) (sym (answer_given start b n r s a x h e f)) (answered_now start b n r s a x h e f)

    failure_open : (os : List Answer) → i.way.opening ≡ os → Opening l y.receiving i.way.volatile i.way.persisted os → y.receiving.reports ≡ false
        → (start : ℕ) (b : List ℕ) → space start b ≡ true → Reported start (answer_of l.settings false y.receiving.receiver start b)
    failure_open os e (none_open a u c) t start b f z =
        subst (Reported start)
        (sym (answer_is l.settings rd.settings y.receiving.receiver i.ends.receiver_valid start b false f
        ∙ ap (reported_of l.settings false y.receiving.receiver start b) (ap (λ (k : Receiver). k.decision) a)))
        (λ (k : eqb 11 0 ≡ true). not_both (sym k)) z
    failure_open os e (to_store_lem n r a u s x h) t start b f z =
        subst (λ (o : Outcome Answered). Inv l (reported_end y start o))
        (sym (answer_is l.settings rd.settings y.receiving.receiver i.ends.receiver_valid start b false f
        ∙ ap (reported_of l.settings false y.receiving.receiver start b) (ap (λ (k : Receiver). k.decision) a)
        ∙ ap (λ (k : Receiver). outcome (answered 0 (closed k.expected) 0) b) a))
        (failed_now b start)
    failure_open os e (to_report n r a u s x h) t start b f z = not_both (sym u ∙ t)

    by_space : (success : Bool) (start : ℕ) (b : List ℕ) → (space start b ≡ true → Reported start (answer_of l.settings success y.receiving.receiver start b))
        → Reported start (answer_of l.settings success y.receiving.receiver start b)
    by_space success start b k = go (space start b) refl
      where
        go : (z : Bool) → space start b ≡ z → Reported start (answer_of l.settings success y.receiving.receiver start b)
        go true z = k z
        go false z = short success start b z

    pub receiver_reports_keeps : (success : Bool) (start : ℕ) (b : List ℕ) → Inv l (after_act every l (receiver_reports success start b) y)
    receiver_reports_keeps true start b =
        let o = answer_of l.settings true y.receiving.receiver start b in
        let t = y.receiving.reports in
        let done = eqb o.answer.refusal 0 in
        cond_ind (Inv l) (t && done) _ _ (λ z. by_space true start b (success_open i.way.opening refl i.opening (and_left t done z) start b) (and_right t done z)) (λ z. i)
    receiver_reports_keeps false start b =
        let o = answer_of l.settings false y.receiving.receiver start b in
        let t = not y.receiving.reports in
        let done = eqb o.answer.refusal 0 in
        cond_ind (Inv l) (t && done) _ _
        (λ z. by_space false start b (failure_open i.way.opening refl i.opening (not_true y.receiving.reports (and_left t done z)) start b) (and_right t done z)) (λ z. i)

    -- ---- an N reply
    abbrev Nakked : ℕ → Outcome Answered → Type 0
    Nakked start o = Inv l (nak_taken y start o)

    nak_pending : (start : ℕ) (o : Outcome Answered) (n : ℕ) (block : List ℕ) → o.answer.refusal ≡ 0 → replies_of start o ≡ block ∷ [] → IsBlock l.settings block (refuses n) → Nakked start o
    nak_pending start o n block done given is =
        let e = y.receiving in
        subst (λ (k : ℕ). Inv l (cond (eqb k 0)
        (link y.sending (receiving e.receiver e.persisted e.message e.reports (e.pending ++ replies_of start o) e.arrived) y.forward y.back) y)) (sym done)
        (record {
          way = transit i.way.forward i.way.back (i.way.pending ++ refuses n ∷ []) i.way.opening i.way.volatile i.way.persisted;
          core = subst (λ (bs : List Answer). Core l.first (with_lines (books_of l y i.way) i.way.forward bs)) (append_assoc i.way.back i.way.pending (refuses n ∷ [])) (nak i.core n);
          ends = i.ends;
          opening = opening_as (e.pending ++ replies_of start o) e.arrived i.opening;
          forward = i.forward;
          back = i.back;
          pending = subst (λ (bs : List (List ℕ)). Each (IsBlock l.settings) (e.pending ++ bs) (i.way.pending ++ refuses n ∷ [])) (sym given) (each_end i.pending is);
        })

    none_pending : (start : ℕ) (o : Outcome Answered) → o.answer.refusal ≡ 0 → o.answer.reply_length ≡ 0 → Nakked start o
    none_pending start o done size =
        let e = y.receiving in
        subst (λ (k : ℕ). Inv l (cond (eqb k 0)
        (link y.sending (receiving e.receiver e.persisted e.message e.reports (e.pending ++ replies_of start o) e.arrived) y.forward y.back) y)) (sym done)
        (subst (λ (k : ℕ). Inv l (link y.sending (receiving e.receiver e.persisted e.message e.reports
        (e.pending ++ cond (eqb k 0) [] (take k (drop start o.buffer) ∷ [])) e.arrived) y.forward y.back)) (sym size)
        (subst (λ (bs : List (List ℕ)). Inv l (link y.sending (receiving e.receiver e.persisted e.message e.reports bs e.arrived) y.forward y.back))
        (sym (append-nil e.pending)) i))

    nak_given : (n start : ℕ) (b : List ℕ) → space start b ≡ true → Nakked start (replied y.receiving.receiver (nak_reply l.settings n) start b)
    nak_given n start b f = go l.settings.kind refl
      where
        begins : start ≤ length b
        begins = let k = leb-true (start + reply_space l.settings) (length b) f in omega arith

        go : (k : Kind) → l.settings.kind ≡ k → Nakked start (replied y.receiving.receiver (by_kind k (nak_block l.settings n) []) start b)
        go Hybrid e =
            let o = replied y.receiving.receiver (nak_block l.settings n) start b in
            nak_pending start o n (nak_block l.settings n) refl (reply_is l.settings (code "N") (reason_of n ∷ []) start b o begins refl refl) (nak_block_lem l.settings rd.settings n e)
        go Minimal e = none_pending start (replied y.receiving.receiver [] start b) refl refl

    pub receiver_naks_keeps : (n start : ℕ) (b : List ℕ) → Inv l (after_act every l (receiver_naks n start b) y)
    unfolding nak_of
    receiver_naks_keeps n start b =
        let s = y.receiving.receiver in
        cond_ind (Nakked start) (valid_link l.settings && is_block_number n) _ _
        (λ p. cond_ind (Nakked start) (space start b) _ _
        (λ q. cond_ind (Nakked start) (valid_receiver s && is_closed s.decision) _ _ (λ t. nak_given n start b q) (λ t. i)) (λ q. i)) (λ p. i)

    -- ---- the receiver goes on from what is persisted
    pub receiver_restores_keeps : Inv l (after_act every l receiver_restores y)
    receiver_restores_keeps =
        let m = i.way.persisted in
        record {
          way = transit i.way.forward i.way.back i.way.pending [] m m;
          core = restore_receiver i.core;
          ends = ends_of i.ends.valid i.ends.persisted_valid (closed-valid y.receiving.persisted.expected i.ends.persisted.valid) i.ends.persisted;
          opening = none_open refl refl refl;
          forward = i.forward;
          back = i.back;
          pending = i.pending;
        }

    -- ---- crashes
    pub sender_crashes_keeps : Inv l (after_act every l sender_crashes y)
    unfolding accepted_of run
    sender_crashes_keeps = go (each_sub (lost_line (accepted_of y.receiving.arrived) (arriving l.settings y.forward)) i.forward)
      where
        go : Chosen (IsRequest l) (accepted_of y.receiving.arrived ++ []) i.way.forward → Inv l (after_act every l sender_crashes y)
        go (some zs s e) =
            record {
              way = transit zs [] i.way.pending i.way.opening i.way.volatile i.way.persisted;
              core = lose_back (lose_forward (restore_sender i.core) s) (among_both (nobody {ys = i.way.back}) (sub_among (sub-all i.way.pending)));
              ends = ends_of i.ends.persisted_valid i.ends.persisted_valid i.ends.receiver_valid i.ends.persisted;
              opening = i.opening;
              forward = e;
              back = each_none;
              pending = i.pending;
            }

    pub receiver_crashes_keeps : Inv l (after_act every l receiver_crashes y)
    unfolding accepted_of run
    receiver_crashes_keeps = go (each_sub (lost_line (accepted_of y.sending.arrived) (arriving l.settings y.back)) i.back)
      where
        go : Chosen IsReply (accepted_of y.sending.arrived ++ []) i.way.back → Inv l (after_act every l receiver_crashes y)
        go (some zs s e) =
            record {
              way = transit [] zs [] [] i.way.persisted i.way.persisted;
              core = lose_back (lose_forward (restore_receiver i.core) (sub_none i.way.forward)) (among_both (sub_among s) (nobody {ys = i.way.pending}));
              ends = ends_of i.ends.valid i.ends.persisted_valid (closed-valid y.receiving.persisted.expected i.ends.persisted.valid) i.ends.persisted;
              opening = none_open refl refl refl;
              forward = each_none;
              back = e;
              pending = each_none;
            }

    -- ---- at the receiver's end or on its line there is less, or the same
    less_forward : (ws : List Judged) (x : Line) → Chosen (IsRequest l) (accepted_of ws ++ arriving l.settings x) i.way.forward
        → Inv l (link y.sending (let e = y.receiving in receiving e.receiver e.persisted e.message e.reports e.pending ws) x y.back)
    less_forward ws x (some zs s e) =
        record {
          way = transit zs i.way.back i.way.pending i.way.opening i.way.volatile i.way.persisted;
          core = lose_forward i.core s;
          ends = i.ends;
          opening = opening_as y.receiving.pending ws i.opening;
          forward = e;
          back = i.back;
          pending = i.pending;
        }

    -- at the sender's end or on its line there is less, or the same again, in any order
    less_back : (ws : List Judged) (x : Line) → Others IsReply (accepted_of ws ++ arriving l.settings x) i.way.back
        → Inv l (link (sending y.sending.sender y.sending.persisted y.sending.named ws y.sending.history) y.receiving y.forward x)
    less_back ws x (others zs s e) =
        record {
          way = transit i.way.forward zs i.way.pending i.way.opening i.way.volatile i.way.persisted;
          core = lose_back i.core (among_both s (sub_among (sub-all i.way.pending)));
          ends = i.ends;
          opening = i.opening;
          forward = i.forward;
          back = e;
          pending = i.pending;
        }

    -- a verdict is dropped
    pub sender_discards_keeps : (n : ℕ) → Inv l (after_act every l (sender_discards n) y)
    sender_discards_keeps n = less_back (others_at n y.sending.arrived) y.back (each_among (sub_among (others_sub n y.sending.arrived (arriving l.settings y.back))) i.back)

    pub receiver_discards_keeps : (n : ℕ) → Inv l (after_act every l (receiver_discards n) y)
    receiver_discards_keeps n = less_forward (others_at n y.receiving.arrived) y.forward (each_sub (others_sub n y.receiving.arrived (arriving l.settings y.forward)) i.forward)

    -- loss, damage and disorder
    pub damages_forward_keeps : (b : List ℕ) → Inv l (after_act every l (damages_forward b) y)
    damages_forward_keeps b =
        let new = line y.forward.reader b in
        let ws = accepted_of y.receiving.arrived in
        cond_ind (Inv l) (damages l.settings y.forward b) _ _
        (λ z. less_forward y.receiving.arrived new (each_sub (sub_behind ws (some_sub (arriving l.settings new) (arriving l.settings y.forward) z)) i.forward)) (λ z. i)

    pub damages_back_keeps : (b : List ℕ) → Inv l (after_act every l (damages_back b) y)
    damages_back_keeps b =
        let new = line y.back.reader b in
        let ws = accepted_of y.sending.arrived in
        cond_ind (Inv l) (disorders l.settings y.back b) _ _
        (λ z. less_back y.sending.arrived new (each_among (among_line ws (each_of_lem (arriving l.settings new) (arriving l.settings y.back) z)) i.back)) (λ z. i)

    -- ---- bytes are read
    pub sender_reads_keeps : (b : List ℕ) → y.back.bytes ≡ b → Inv l (sender_read l y b)
    sender_reads_keeps [] e = i
    sender_reads_keeps (x ∷ xs) e =
        let r = y.back.reader in
        let ws = y.sending.arrived in
        record {
          way = i.way;
          core = i.core;
          ends = i.ends;
          opening = i.opening;
          forward = i.forward;
          back = subst (λ (us : List Arrival). Each IsReply us i.way.back)
              (ap (λ (b : List ℕ). accepted_of ws ++ arriving l.settings (line r b)) e ∙ sym (read_same l.settings ws r x xs)) i.back;
          pending = i.pending;
        }

    pub receiver_reads_keeps : (b : List ℕ) → y.forward.bytes ≡ b → Inv l (receiver_read l y b)
    receiver_reads_keeps [] e = i
    receiver_reads_keeps (x ∷ xs) e =
        let r = y.forward.reader in
        let ws = y.receiving.arrived in
        record {
          way = i.way;
          core = i.core;
          ends = i.ends;
          opening = opening_as y.receiving.pending (ws ++ (reads_byte l.settings r x).says) i.opening;
          forward = subst (λ (us : List Arrival). Each (IsRequest l) us i.way.forward)
              (ap (λ (b : List ℕ). accepted_of ws ++ arriving l.settings (line r b)) e ∙ sym (read_same l.settings ws r x xs)) i.forward;
          back = i.back;
          pending = i.pending;
        }

    -- ---- verdicts are acted on
    pub sender_acts_keeps : (n : ℕ) (ws : List Judged) → one_at n y.sending.arrived ≡ ws → Inv l (answer_taken l y ws (others_at n y.sending.arrived))
    sender_acts_keeps n [] e = i
    sender_acts_keeps n (w ∷ vs) e = answer_one l y i n w vs e

    pub receiver_decides_keeps : (a : Application) (ws : List Judged) → y.receiving.arrived ≡ ws → Inv l (request_taken a y (one_at 0 ws) (others_at 0 ws))
    unfolding one_at others_at
    receiver_decides_keeps a [] e = i
    receiver_decides_keeps a (w ∷ ws) e = request_one l rd a y i w ws e

    -- ---- a message is written
    module _ (v : SequenceNumber) (vs : List SequenceNumber) (e : y.sending.named ≡ v ∷ vs) where
      nameable : Nameable l.first v
      nameable = all_head (all_right i.way.forward (v ∷ vs) (subst (λ (ns : List SequenceNumber). All (Nameable l.first) (i.way.forward ++ ns)) e (all_nameable i.core)))

      abbrev with_request : Line
      with_request = line y.forward.reader (y.forward.bytes ++ block_of l.settings (code "D") (request_of l v))

      request_queued : accepted_of y.receiving.arrived ++ arriving l.settings with_request ≡ requests_to l y ++ arrival (type_read l.settings (code "D")) (request_of l v) ∷ []
      request_queued =
          let ws = accepted_of y.receiving.arrived in
          ap (λ (us : List Arrival). ws ++ us) (arriving_block l.settings (code "D") (request_of l v) (request_writable l rd v nameable) y.forward.reader y.forward.bytes)
          ∙ sym (append_assoc ws (arriving l.settings y.forward) (arrival (type_read l.settings (code "D")) (request_of l v) ∷ []))

      written : same_persisted y.sending.sender.persisted y.sending.persisted ≡ true
          → Inv l (link (sending y.sending.sender y.sending.persisted vs y.sending.arrived y.sending.history) y.receiving with_request y.back)
      written z =
          record {
            way = transit (i.way.forward ++ v ∷ []) i.way.back i.way.pending i.way.opening i.way.volatile i.way.persisted;
            core = write i.core v vs e (persisted_is y.sending.sender.persisted y.sending.persisted z);
            ends = i.ends;
            opening = i.opening;
            forward = subst (λ (us : List Arrival). Each (IsRequest l) us (i.way.forward ++ v ∷ [])) (sym request_queued) (each_end i.forward (request_is l rd v nameable));
            back = i.back;
            pending = i.pending;
          }

    pub sender_writes_keeps : (vs : List SequenceNumber) → y.sending.named ≡ vs → Inv l (request_written every l y (one_at 0 vs) (others_at 0 vs))
    unfolding one_at others_at
    sender_writes_keeps [] e = i
    sender_writes_keeps (v ∷ vs) e = cond_ind (Inv l) (same_persisted y.sending.sender.persisted y.sending.persisted) _ _ (written v vs e) (λ z. i)

    -- ---- a reply goes out
    module _ (b : List ℕ) (bs : List (List ℕ)) (a : Answer) (cs : List Answer) (queue : i.way.pending ≡ a ∷ cs) (is : IsBlock l.settings b a) (rest : Each (IsBlock l.settings) bs cs) where
      abbrev with_reply : Line
      with_reply = line y.back.reader (y.back.bytes ++ b)

      reply_queued : accepted_of y.sending.arrived ++ arriving l.settings with_reply ≡ answers_to l y ++ arrival (type_read l.settings is.type) is.content ∷ []
      reply_queued =
          let ws = accepted_of y.sending.arrived in
          ap (λ (k : List ℕ). ws ++ arriving l.settings (line y.back.reader (y.back.bytes ++ k))) is.is
          ∙ ap (λ (us : List Arrival). ws ++ us) (arriving_block l.settings is.type is.content is.writable y.back.reader y.back.bytes)
          ∙ sym (append_assoc ws (arriving l.settings y.back) (arrival (type_read l.settings is.type) is.content ∷ []))

      replied_out : Inv l (link y.sending (let e = y.receiving in receiving e.receiver e.persisted e.message e.reports bs e.arrived) y.forward with_reply)
      replied_out =
          record {
            way = transit i.way.forward (i.way.back ++ a ∷ []) cs i.way.opening i.way.volatile i.way.persisted;
            core = subst (λ (us : List Answer). Core l.first (with_lines (books_of l y i.way) i.way.forward us))
                (ap (λ (us : List Answer). i.way.back ++ us) queue ∙ sym (append_assoc i.way.back (a ∷ []) cs)) i.core;
            ends = i.ends;
            opening = opening_as bs y.receiving.arrived i.opening;
            forward = i.forward;
            back = subst (λ (us : List Arrival). Each IsReply us (i.way.back ++ a ∷ [])) (sym reply_queued) (each_end i.back is.reply);
            pending = rest;
          }

    pub receiver_writes_keeps : (bs : List (List ℕ)) → y.receiving.pending ≡ bs → Inv l (reply_written y bs)
    receiver_writes_keeps [] e = i
    receiver_writes_keeps (b ∷ bs) e = go (each_front (subst (λ (k : List (List ℕ)). Each (IsBlock l.settings) k i.way.pending) e i.pending))
      where
        go : Front (IsBlock l.settings) b bs i.way.pending → Inv l (reply_written y (b ∷ bs))
        go (front a cs q is rest) = replied_out b bs a cs q is rest
