-- The receiver's driver reads, decides, stores, reports, replies and crashes: each is a run of the link.
use Rattle.std.specs.Prelude.{Option, Some, None, Result, Ok, Err}
use mathlib.Core.Path.{◌≡◌, refl, sym, ap, ◌∙◌, subst}
use mathlib.Core.List.{List, [], ◌∷◌, ◌++◌, append_assoc, append-nil}
use mathlib.Core.Bool.{Bool, true, false, cond, not, ◌&&◌}
use Prim.Native.Nat.{ℕ, ◌+◌, ◌≤◌}
use native.Mathlib.Omega.{arith}
use lib.ListN.{length, take, drop, get_or, take-append-drop}
use lib.Seq.{length-take-le}
use lib.Dec.{leb, eqb}
use borrow.Author.Tests.{le-leb, leb-true, ne_eqb, eqb-true}
use Rattle.lists.specs.Bytes.{over}
use Rattle.lists.specs.Outcome.{Outcome, Called, called}
use Rattle.lists.proofs.Calls.{over-is}
use Rattle.lists.proofs.Tests.{cond_ind, and_left, and_right}
use Rattle.settings.specs.Settings.{valid_link}
use Rattle.settings.specs.declared.Settings.{Settings}
use Rattle.words.specs.Words.{report_words}
use Prim.Native.Char.{code}
use Rattle.settings.specs.DataBytes.{all_allowed}
use Rattle.fields.specs.Fields.{bytes_of}
use Rattle.numbers.specs.declared.SequenceNumber.TheVariants.{MinusOne, Number}
use Rattle.numbers.specs.declared.SequenceNumber.{SequenceNumber}
use Rattle.numbers.specs.declared.NumberError.{NumberError}
use Rattle.header.specs.Header.{header_of}
use Rattle.header.specs.declared.Header.{Header}
use Rattle.header.specs.declared.Code.{Code}
use Rattle.header.specs.declared.Code.TheVariants.{AA, AE, AR}
use Rattle.stream.specs.Stream.{Judged, run}
use Rattle.receiver.specs.Receiver.{reply_space, valid_receiver, closed, is_closed, same_expected, row_of, header_decided, is_block_number, refused, replied, reported_of, nak_reply, decide_of, answer_of, nak_of}
use Rattle.receiver.specs.declared.Application.{Application}
use Rattle.receiver.specs.declared.Row.{Row}
use Rattle.receiver.specs.declared.Decision.{Decision}
use Rattle.receiver.specs.declared.Receiver.{Receiver}
use Rattle.receiver.specs.declared.Decided.{Decided}
use Rattle.receiver.specs.declared.Answered.{Answered}
use Rattle.receiver.proofs.Rows.{expected_is, is-row, opened, open_transaction}
use Rattle.receiver.proofs.Acts.{decide_same, decide_while_open, report_closes}
use Rattle.receiver_calls.specs.ReceiverCalls.{expected_word, code_word, transaction_word, flag, receiver_words, receiver_in, application_from, is_type, outcome_from, to_store, decision_words, decided_as, decide_with, decide_for, decide_call}
use Rattle.control_id.specs.ControlId.{in_words}
use Rattle.control_id.specs.declared.ControlId.{ControlId}
use Rattle.numbers.specs.Numbers.{text_of}
use Rattle.receiver_calls.specs.ReceiverCalls.{answered_as, answer_words, answer_with, answer_call, nak_as, nak_words, nak_with, nak_call}
use Rattle.receiver_calls.proofs.ReadBack.{words_read}
use Rattle.link.specs.Duties.{every, one_at, others_at}
use Rattle.link.specs.Line.{Reader, Line, line, empty_line, reads_byte, reader_after}
use Rattle.link.specs.System.{Link, System, SendingEnd, ReceivingEnd, run_of, receiver_reads as link_reads, receiving, link, has_with, stored_by, to_persist, replies_of, decided_end, request_decided, verdict_decided, request_taken, nak_taken, is_true}
use Rattle.link.specs.System.{receiver_persisted, reported_end, decision_reported, reply_written, after_act, receiver_decides, receiver_reports, receiver_naks, receiver_discards, receiver_persists, receiver_writes, receiver_restores as link_restores, receiver_crashes as end_crashes}
use Rattle.link.specs.Promise.{Ready}
use Rattle.link.proofs.Facts.{not_both}
use Rattle.link.proofs.Queues.{Each, each_none, Front, front, each_front, Answer}
use Rattle.link.proofs.Receiving.{answer_short, answer_is as reported-is}
use Rattle.link.proofs.Invariant.{Reach, Opening, none_open, to_store_lem, to_report}
use Rattle.link.proofs.Early.{Standing}
use Rattle.call_theorems.specs.Reading.{Shown, used_bytes, new_verdict}
use Rattle.call_theorems.specs.Driver.{Passed, made_from, ReceiverMemory, Noted, noted, nothing_noted, Drivers, drivers, receiver_end, receiver_memory, with_verdict, enough_to_read, enough_to_receive, fresh_reader, after_reading, reader_past, line_past}
use Rattle.call_theorems.specs.Driver.{read_bytes, with_transaction, reply_by, noted_by, decided_by, decision_on, oldest_decided, tried_by, oldest_tried, is_open_word, may_report, answered_by, answer_on, nakked_by, nak_on, reply_sent, restored_receiver, after_driver}
use Rattle.call_theorems.specs.Driver.{receiver_reads, decides, answers, naks, receiver_replaces, tries, receiver_drops, receiver_stores, receiver_restores, replies, receiver_crashes}
use Rattle.call_theorems.specs.DriversRun.{repeated, once, decides_on, acts_of}
use Rattle.call_theorems.specs.DriversPromise.{Agrees}
use Rattle.call_theorems.proofs.Verdicts.{accepted_number}
use Rattle.call_theorems.proofs.OneCall.{over-length}
use Rattle.call_theorems.proofs.Shows.{SameVerdict, Behind, SameNote, Shows, other_verdict, over_behind, behind_length}
use Rattle.call_theorems.proofs.Taking.{Took, brought, read_took}
use Rattle.call_theorems.proofs.Driving.{Goes, stays, by_act, settings_valid, link_made, fresh_enough}
use Rattle.call_theorems.proofs.SenderDriving.{each_others, each_both, repeated-run}

-- the transaction is there where its word is not 0
transaction_is : (t : Option ℕ) → ((n : ℕ) → t ≡ Some n → 1 ≤ n) → (d : List ℕ) (ts : List (List ℕ)) → cond (eqb (transaction_word t) 0) ts (ts ++ d ∷ []) ≡ has_with t d ts
transaction_is None s d ts = refl
transaction_is (Some n) s d ts = let l = s n refl in rw (ne_eqb n 0 (λ (e : n ≡ 0). omega arith))

code_some : (c : Code) → eqb (code_word c) 0 ≡ false
code_some AA = refl
code_some AE = refl
code_some AR = refl

-- a decision is open where the state's word for its code is not 0
open_is : (s : Receiver) (rest : List ℕ) → is_open_word (receiver_words s ++ rest) ≡ not (is_closed s.decision)
open_is s rest = go s.decision
  where
    go : (o : Option Decision) → is_open_word (receiver_words (record { expected = s.expected; decision = o }) ++ rest) ≡ not (is_closed o)
    go None = refl
    go (Some o) = ap not (code_some o.row.code)

nine : (s : Receiver) → 9 ≡ length (receiver_words s)
nine s = go s.decision
  where
    go : (o : Option Decision) → 9 ≡ length (receiver_words (record { expected = s.expected; decision = o }))
    go None = refl
    go (Some o) = refl

and_none : (u : Bool) → (u && false) ≡ false
and_none true = refl
and_none false = refl

and-all : (u : Bool) → (u && true) ≡ u
and-all true = refl
and-all false = refl

outcome_made : (b : Bool) → outcome_from (flag b) ≡ Some b
outcome_made true = refl
outcome_made false = refl

-- a decision where none is open is not refused, and where one is it is 11
header_taken : (a : Application) (s : Receiver) (d : List ℕ) (h : Option Header) → (header_decided a s d h).refusal ≡ 0
header_taken a s d None = refl
header_taken a s d (Some h) = cond_ind (λ (x : Decided). x.refusal ≡ 0) (all_allowed (bytes_of h.control_id d)) _ _ (λ e. refl) (λ e. refl)

decide_taken : (a : Application) (s : Receiver) (t : ℕ) (d : List ℕ) → valid_receiver s ≡ true → is_closed s.decision ≡ true → (decide_of a s t d).refusal ≡ 0
unfolding decide_of
decide_taken a s t d v c =
    rw (v, c) (cond_ind (λ (x : Decided). x.refusal ≡ 0) (eqb t (code "N")) _ _ (λ e. refl) (λ e. header_taken a s d (header_of d)))

-- a row that changes nothing has no transaction
unchanged-row : (a : Application) (e : Option ℕ) (f : Result SequenceNumber NumberError) → (row_of a e f).persisted.expected ≡ e → (row_of a e f).persisted.transaction ≡ None
unfolding row_of
unchanged-row a e (Err why) = λ z. refl
unchanged-row a e (Ok MinusOne) = λ z. refl
unchanged-row a None (Ok (Number n)) =
    cond_ind (λ (r : Row). r.persisted.expected ≡ None → r.persisted.transaction ≡ None) (eqb n 0) _ _ (λ z u. refl) (λ z (u : Some (n + 1) ≡ None). not_both cc)
unchanged-row a (Some e) (Ok (Number n)) =
    cond_ind (λ (r : Row). r.persisted.expected ≡ Some e → r.persisted.transaction ≡ None) (eqb n 0) _ _ (λ z u. refl)
    (λ z. cond_ind (λ (r : Row). r.persisted.expected ≡ Some e → r.persisted.transaction ≡ None) (eqb n e) _ _
    (λ y (u : Some (n + 1) ≡ Some e). let m = eqb-true n e y in let k : n + 1 ≡ e = cc in absurd (omega arith)) (λ y u. refl))

-- a report's words: the reply's length is the first of them
report_word_lem : (p : List ℕ) (n : ℕ) → 2 ≤ length p → get_or (over p (report_words n 0)) 0 0 ≡ n
report_word_lem p n h = ap (λ (ws : List ℕ). get_or ws 0 0) (over-is p (report_words n 0) h)

-- the receiver reads the first bytes on its line, one by one
requests_repeated : (l : Link) (xs ys : List ℕ) (r : Reader) (s : SendingEnd) (e : ReceivingEnd) (b : Line)
    → run_of every l (link s e (line r (xs ++ ys)) b) (repeated (length xs) link_reads)
    ≡ link s (receiving e.receiver e.persisted e.message e.reports e.pending (e.arrived ++ run l.settings r.offset r.mode xs)) (line (reader_past l.settings r xs) ys) b
unfolding run reader_past repeated run_of
requests_repeated l [] ys r s e b = ap (λ (ws : List Judged). link s (receiving e.receiver e.persisted e.message e.reports e.pending ws) (line r ys) b) (sym (append-nil e.arrived))
requests_repeated l (x ∷ xs) ys r s e b =
    let us = (reads_byte l.settings r x).says in
    let q = reader_after l.settings r x in
    repeated-run l (length xs) link_reads (link s e (line r (x ∷ xs ++ ys)) b)
    ∙ requests_repeated l xs ys q s (receiving e.receiver e.persisted e.message e.reports e.pending (e.arrived ++ us)) b
    ∙ ap (λ (ws : List Judged). link s (receiving e.receiver e.persisted e.message e.reports e.pending ws) (line (reader_past l.settings q xs) ys) b)
    (append_assoc e.arrived us (run l.settings q.offset q.mode xs))

module _ (k : Passed) (ag : Agrees k) (rd : Ready k.link) (x : Drivers) (y : System) (i : Standing k.link y) (h : Shows k.link x y) where
  abbrev l : Link
  l = k.link

  abbrev g : Settings
  g = k.link.settings

  abbrev s : Receiver
  s = y.receiving.receiver

  abbrev st : List ℕ
  st = x.receiver.memory.state

  abbrev p : List ℕ
  p = x.receiver.memory.report

  abbrev q : List ℕ
  q = x.receiver.memory.decision

  abbrev b : List ℕ
  b = x.receiver.memory.reply

  state_long : 9 ≤ length st
  state_long = let n = nine s in let m = behind_length h.receiver.state in omega arith

  state_read : receiver_in st ≡ Some s
  state_read = ap receiver_in h.receiver.state.is ∙ words_read s h.receiver.state.rest i.ends.receiver_valid

  -- ---- reading
  module _ (u : ℕ) where
    abbrev read_end : System
    read_end =
        let e = y.receiving in
        link y.sending (receiving e.receiver e.persisted e.message e.reports e.pending (e.arrived ++ brought g u y.forward)) (line_past g u y.forward) y.back

    requests_run : u ≤ length y.forward.bytes → run_of every l y (repeated u link_reads) ≡ read_end
    requests_run most =
        let e = y.receiving in
        let b = y.forward in
        ap (λ (n : ℕ). run_of every l y (repeated n link_reads)) (sym (length-take-le u b.bytes most))
        ∙ ap (λ (bs : List ℕ). run_of every l (link y.sending e (line b.reader bs) y.back) (repeated (length (take u b.bytes)) link_reads)) (sym (take-append-drop u b.bytes))
        ∙ requests_repeated l (take u b.bytes) (drop u b.bytes) b.reader y.sending e y.back

  module _ (n : ℕ) where
    abbrev reading : Called
    reading = read_bytes k.numbers n x.receiver.memory.reader x.forward

    abbrev used : ℕ
    used = used_bytes reading

    abbrev read_by : Drivers
    read_by =
        let e = x.receiver in
        let m = x.receiver.memory in
        drivers x.sender (receiver_end (receiver_memory m.state m.decision m.report (after_reading reading) m.reply) e.stored e.stored_has e.noted e.reports e.pending (e.arrived ++ new_verdict reading))
        (line_past g used x.forward) x.back

    read_shows : Took g x.forward reading → Shows l read_by (read_end used)
    read_shows t =
        record {
          sender = h.sender;
          receiver = record {
            state = h.receiver.state;
            decision = h.receiver.decision;
            report = h.receiver.report;
            stored = h.receiver.stored;
            stored_has_lem = h.receiver.stored_has_lem;
            note = h.receiver.note;
            reports = h.receiver.reports;
            pending = h.receiver.pending;
            arrived = each_both h.receiver.arrived (subst (λ (z : Line). Each (SameVerdict g) (new_verdict reading) (brought g used z)) h.forward t.shows);
            reader = t.stands;
          };
          forward = ap (line_past g used) h.forward;
          back = h.back;
        }

    pub receiver_reads_goes : Goes l (acts_of k (receiver_reads n) x) (after_driver k (receiver_reads n) x) y
    receiver_reads_goes = go (eqb reading.number 0) refl
      where
        go : (b : Bool) → eqb reading.number 0 ≡ b → Goes l (cond b (repeated used link_reads) []) (cond b read_by x) y
        go false e = stays l x y h
        go true e =
            let t = read_took g (settings_valid k ag rd) x.receiver.memory.reader x.forward h.receiver.reader n (made_from k.numbers) ag.settings e in
            record {
              shows =
                  subst (Shows l read_by) (sym (requests_run used (subst (λ (z : Line). used ≤ length z.bytes) h.forward t.used)))
                  (read_shows t);
            }

  -- ---- a decision
  module _ (application : ℕ) (a : Application) (known : application_from application ≡ Some a) (t : ℕ) (d : List ℕ) (type : is_type t ≡ true) where
    decision_is : decide_call application t d st q ≡ decided_as st q (decide_of a s t d)
    unfolding decide_call
    decision_is =
        ap (λ (z : Option Application). decide_for z t d st q) known
        ∙ rw (type, le-leb 9 (length st) state_long, le-leb 5 (length q) h.receiver.decision)
        (ap (decide_with a t d st q) state_read)

  -- what the driver has after any decision
  abbrev after_decision : List ℕ → List Shown → Called → Drivers
  after_decision d ws c =
      let e = x.receiver in
      let m = x.receiver.memory in
      drivers x.sender (receiver_end (receiver_memory c.state c.report m.report m.reader m.reply) e.stored e.stored_has (noted_by e.noted d c) e.reports e.pending ws)
      x.forward x.back

  -- what a decision leaves
  module _ (x' : Decided) (d : List ℕ) (ws : List Shown) (vs : List Judged) (rest : Each (SameVerdict g) ws vs) where
    abbrev report : List ℕ
    report = over q (decision_words x')

    five : (o : Option Decision) → over q (x'.block ∷ flag x'.opened ∷ to_store x' o) ≡ (x'.block ∷ flag x'.opened ∷ to_store x' o) ++ drop 5 q
    five None = over-is q _ h.receiver.decision
    five (Some o) = over-is q _ h.receiver.decision

    report_long : 5 ≤ length report
    report_long = go (cond x'.opened x'.receiver.decision None)
      where
        go : (o : Option Decision) → 5 ≤ length (over q (x'.block ∷ flag x'.opened ∷ to_store x' o))
        go None = let z = over-length q (x'.block ∷ flag x'.opened ∷ to_store x' None) h.receiver.decision in let m = h.receiver.decision in omega arith
        go (Some o) = let z = over-length q (x'.block ∷ flag x'.opened ∷ to_store x' (Some (record { control_id = o.control_id; row = o.row }))) h.receiver.decision in let m = h.receiver.decision in omega arith

    abbrev done_call : Called
    done_call = called 0 (cond x'.opened (over st (receiver_words x'.receiver)) st) [] report

    abbrev decided_drivers : Drivers
    decided_drivers = after_decision d ws done_call

    abbrev decided_system : System
    decided_system = link y.sending (decided_end y.receiving vs d x') y.forward y.back

    -- with the state's words and the note
    decided_with : Behind (receiver_words x'.receiver) done_call.state
        → SameNote (noted_by x.receiver.noted d done_call) (cond x'.opened d y.receiving.message) x'.receiver.expected x'.receiver.decision → Shows l decided_drivers decided_system
    decided_with w n =
        record {
          sender = h.sender;
          receiver = record {
            state = w;
            decision = report_long;
            report = h.receiver.report;
            stored = h.receiver.stored;
            stored_has_lem = h.receiver.stored_has_lem;
            note = n;
            reports = h.receiver.reports;
            pending = h.receiver.pending;
            arrived = rest;
            reader = h.receiver.reader;
          };
          forward = h.forward;
          back = h.back;
        }

    note_new : x'.opened ≡ true → (o : Option Decision) → x'.receiver.decision ≡ o → SameNote (noted_by x.receiver.noted d done_call) d x'.receiver.expected o
    note_new z None e = refl
    note_new z (Some held) e =
        ap (λ (ws : List ℕ). cond (eqb (get_or ws 1 0) 0) x.receiver.noted (noted (get_or ws 2 0) (get_or ws 3 0) (get_or ws 4 0) d))
        (ap (λ (u : Bool). over q (x'.block ∷ flag u ∷ to_store x' (cond u x'.receiver.decision None))) z
        ∙ ap (λ (o : Option Decision). over q (x'.block ∷ 1 ∷ to_store x' o)) e
        ∙ over-is q _ h.receiver.decision)

    note_old : x'.opened ≡ false → noted_by x.receiver.noted d done_call ≡ x.receiver.noted
    note_old z =
        ap (λ (ws : List ℕ). cond (eqb (get_or ws 1 0) 0) x.receiver.noted (noted (get_or ws 2 0) (get_or ws 3 0) (get_or ws 4 0) d))
        (ap (λ (u : Bool). over q (x'.block ∷ flag u ∷ to_store x' (cond u x'.receiver.decision None))) z ∙ over-is q _ h.receiver.decision)

    decided_shows : (x'.opened ≡ false → x'.receiver ≡ s) → Shows l decided_drivers decided_system
    decided_shows same = go x'.opened refl
      where
        go : (u : Bool) → x'.opened ≡ u → Shows l decided_drivers decided_system
        go true z =
            decided_with
            (subst (λ (u : Bool). Behind (receiver_words x'.receiver) (cond u (over st (receiver_words x'.receiver)) st)) (sym z)
            (over_behind (receiver_words x'.receiver) st (let n = nine x'.receiver in let m = state_long in omega arith)))
            (subst (λ (u : Bool). SameNote (noted_by x.receiver.noted d done_call) (cond u d y.receiving.message) x'.receiver.expected x'.receiver.decision) (sym z)
            (note_new z x'.receiver.decision refl))
        go false z =
            decided_with
            (subst (λ (u : Bool). Behind (receiver_words x'.receiver) (cond u (over st (receiver_words x'.receiver)) st)) (sym z)
            (subst (λ (r : Receiver). Behind (receiver_words r) st) (sym (same z)) h.receiver.state))
            (subst (λ (u : Bool). SameNote (noted_by x.receiver.noted d done_call) (cond u d y.receiving.message) x'.receiver.expected x'.receiver.decision) (sym z)
            (subst (λ (n : Noted). SameNote n y.receiving.message x'.receiver.expected x'.receiver.decision) (sym (note_old z))
            (subst (λ (r : Receiver). SameNote x.receiver.noted y.receiving.message r.expected r.decision) (sym (same z)) h.receiver.note)))

    -- done or refused
    pub decided_goes : (x'.opened ≡ false → x'.receiver ≡ s) → Shows l (decided_by x d ws (decided_as st q x')) (request_decided y vs d x')
    decided_goes same = go (eqb x'.refusal 0) refl
      where
        go : (u : Bool) → eqb x'.refusal 0 ≡ u
            → Shows l (decided_by x d ws (cond u done_call (called x'.refusal st [] q))) (cond u decided_system y)
        go true e = decided_shows same
        go false e = subst (λ (u : Bool). Shows l (cond u (after_decision d ws (called x'.refusal st [] q)) x) y) (sym e) h

  module _ (application : ℕ) (w : Shown) (ws : List Shown) (v : Judged) (vs : List Judged) (queue : y.receiving.arrived ≡ v ∷ vs) (is : SameVerdict g w v) (rest : Each (SameVerdict g) ws vs) where
    abbrev offered : Called
    offered = decision_on application x.receiver.memory w

    -- the link's act on the same verdict
    acted-is : (a : Application) → eqb w.number 0 ≡ true → after_act every l (receiver_decides 0 a) y ≡ request_decided y vs w.content (decide_of a s w.type w.content)
    unfolding one_at others_at
    acted-is a z =
        let shown-is = is.is in
        ap (λ (us : List Judged). request_taken a y (one_at 0 us) (others_at 0 us)) queue
        ∙ ap (verdict_decided a y vs v.content) (accepted_number v.verdict is.given (ap (λ (u : Shown). eqb u.number 0) (sym shown-is) ∙ z))
        ∙ ap (λ (u : Shown). request_decided y vs u.content (decide_of a s u.type u.content)) (sym shown-is)

    refused_goes : offered.number ≡ 1 → decided_by x w.content ws offered ≡ x
    refused_goes e = ap (λ (n : ℕ). cond (eqb n 0) (after_decision w.content ws offered) x) e

    unknown_refused : (z : Option Application) → application_from application ≡ z → z ≡ None → offered.number ≡ 1
    unfolding decide_call
    unknown_refused z e u = ap (λ (n : Option Application). (decide_for n w.type w.content st q).number) (e ∙ u)

    type_refused : (a : Application) → application_from application ≡ Some a → is_type w.type ≡ false → offered.number ≡ 1
    unfolding decide_call
    type_refused a e u = ap (λ (n : Option Application). (decide_for n w.type w.content st q).number) e ∙ rw u

    one_decided : (z : Option Application) → application_from application ≡ z → Goes l (decides_on z (w ∷ ws)) (oldest_decided application x (w ∷ ws)) y
    one_decided None e =
        stays l _ y (cond_ind (λ (u : Drivers). Shows l u y) (eqb w.number 0) _ _ (λ n. subst (λ (u : Drivers). Shows l u y) (sym (refused_goes (unknown_refused None e refl))) h) (λ n. h))
    one_decided (Some a) e = go (eqb w.number 0) (is_type w.type) refl refl
      where
        go : (n t : Bool) → eqb w.number 0 ≡ n → is_type w.type ≡ t → Goes l (once (n && t) (receiver_decides 0 a)) (cond n (decided_by x w.content ws offered) x) y
        go false t p u = stays l x y h
        go true false p u = stays l _ y (subst (λ (z : Drivers). Shows l z y) (sym (refused_goes (type_refused a e u))) h)
        go true true p u =
            by_act l _ y (receiver_decides 0 a)
            (subst (Shows l (decided_by x w.content ws offered)) (sym (acted-is a p))
            (subst (λ (c : Called). Shows l (decided_by x w.content ws c) (request_decided y vs w.content (decide_of a s w.type w.content))) (sym (decision_is application a e w.type w.content u))
            (decided_goes (decide_of a s w.type w.content) w.content ws vs rest (decide_same a s w.type w.content))))

  pub decides_goes : (application : ℕ) → Goes l (acts_of k (decides application) x) (after_driver k (decides application) x) y
  decides_goes application = go x.receiver.arrived h.receiver.arrived
    where
      none : (z : Option Application) → Goes l (decides_on z []) x y
      none None = stays l x y h
      none (Some a) = stays l x y h

      first : (w : Shown) (ws : List Shown) → Front (SameVerdict g) w ws y.receiving.arrived → Goes l (decides_on (application_from application) (w ∷ ws)) (oldest_decided application x (w ∷ ws)) y
      first w ws (front v vs q is rest) = one_decided application w ws v vs q is rest (application_from application) refl

      go : (ws : List Shown) → Each (SameVerdict g) ws y.receiving.arrived → Goes l (decides_on (application_from application) ws) (oldest_decided application x ws) y
      go [] e = none (application_from application)
      go (w ∷ ws) e = first w ws (each_front e)

  -- ---- a trial, and other memory: the link stays
  with_memory : (d r v c : List ℕ) → 5 ≤ length d → 2 ≤ length r → 8 ≤ length v
      → Shows l (drivers x.sender (let e = x.receiver in receiver_end (receiver_memory st d r (with_verdict v e.memory.reader) c) e.stored e.stored_has e.noted e.reports e.pending e.arrived)
      x.forward x.back) y
  with_memory d r v c m n o =
      record {
        sender = h.sender;
        receiver = record {
          state = h.receiver.state;
          decision = m;
          report = n;
          stored = h.receiver.stored;
          stored_has_lem = h.receiver.stored_has_lem;
          note = h.receiver.note;
          reports = h.receiver.reports;
          pending = h.receiver.pending;
          arrived = h.receiver.arrived;
          reader = other_verdict g x.receiver.memory.reader x.forward h.receiver.reader v o;
        };
        forward = h.forward;
        back = h.back;
      }

  tried_shows : (c : Called) → 5 ≤ length c.report → Shows l (tried_by x c) y
  tried_shows c m =
      record {
        sender = h.sender;
        receiver = record {
          state = h.receiver.state;
          decision = m;
          report = h.receiver.report;
          stored = h.receiver.stored;
          stored_has_lem = h.receiver.stored_has_lem;
          note = h.receiver.note;
          reports = h.receiver.reports;
          pending = h.receiver.pending;
          arrived = h.receiver.arrived;
          reader = h.receiver.reader;
        };
        forward = h.forward;
        back = h.back;
      }

  -- whatever is tried, the report has its words
  abbrev Long : Called → Type 0
  Long c = 5 ≤ length c.report

  decided_long : (x' : Decided) → Long (decided_as st q x')
  decided_long x' =
      cond_ind Long (eqb x'.refusal 0) _ _ (λ z. report_long x' [] [] [] each_none) (λ z. h.receiver.decision)

  tried_long : (application t : ℕ) (d : List ℕ) (z : Option Application) → application_from application ≡ z → Long (decide_call application t d st q)
  unfolding decide_call
  tried_long application t d None e = subst (λ (n : Option Application). Long (decide_for n t d st q)) (sym e) h.receiver.decision
  tried_long application t d (Some a) e =
      subst (λ (n : Option Application). Long (decide_for n t d st q)) (sym e)
      (cond_ind Long (is_type t) _ _
      (λ u. cond_ind Long (leb 9 (length st) && leb 5 (length q)) _ _
      (λ v. subst (λ (r : Option Receiver). Long (decide_with a t d st q r)) (sym state_read) (decided_long (decide_of a s t d))) (λ v. h.receiver.decision)) (λ u. h.receiver.decision))

  pub tries_goes : (application : ℕ) → Goes l [] (after_driver k (tries application) x) y
  tries_goes application = go x.receiver.arrived
    where
      go : (ws : List Shown) → Goes l [] (oldest_tried application x ws) y
      go [] = stays l x y h
      go (w ∷ ws) = stays l _ y (tried_shows (decision_on application x.receiver.memory w) (tried_long application w.type w.content (application_from application) refl))

  pub receiver_replaces_goes : (d r v c : List ℕ) → Goes l [] (after_driver k (receiver_replaces d r v c) x) y
  receiver_replaces_goes d r v c =
      let long = leb 5 (length d) in
      let reports = leb 2 (length r) in
      let verdict = leb 8 (length v) in
      stays l _ y
      (cond_ind (λ (z : Drivers). Shows l z y) (long && (reports && verdict)) _ _
      (λ e. with_memory d r v c (leb-true 5 (length d) (and_left long (reports && verdict) e)) (leb-true 2 (length r) (and_left reports verdict (and_right long (reports && verdict) e)))
      (leb-true 8 (length v) (and_right reports verdict (and_right long (reports && verdict) e)))) (λ e. h))

  pub receiver_drops_goes : (n : ℕ) → Goes l (receiver_discards n ∷ []) (after_driver k (receiver_drops n) x) y
  receiver_drops_goes n =
      by_act l (after_driver k (receiver_drops n) x) y (receiver_discards n)
      (record {
        sender = h.sender;
        receiver = record {
          state = h.receiver.state;
          decision = h.receiver.decision;
          report = h.receiver.report;
          stored = h.receiver.stored;
          stored_has_lem = h.receiver.stored_has_lem;
          note = h.receiver.note;
          reports = h.receiver.reports;
          pending = h.receiver.pending;
          arrived = each_others n h.receiver.arrived;
          reader = h.receiver.reader;
        };
        forward = h.forward;
        back = h.back;
      })

  -- ---- storing
  -- what is noted is what the open decision says
  pub stored_is : (o : Option Decision) → s.decision ≡ o → is_closed o ≡ false
      → (x.receiver.noted.expected ∷ [] ≡ expected_word (to_persist y.receiving).expected ∷ []) × (with_transaction x.receiver.stored_has x.receiver.noted ≡ (to_persist y.receiving).has)
  stored_is None e z = not_both z
  stored_is (Some o) e z =
      let w = opened s o.control_id o.row i.ends.receiver_valid e in
      let note : x.receiver.noted ≡ noted (transaction_word o.row.persisted.transaction) (expected_word o.row.persisted.expected) (flag (not (same_expected o.row.persisted.expected s.expected))) y.receiving.message =
      subst (SameNote x.receiver.noted y.receiving.message s.expected) e h.receiver.note in (
        ap (λ (n : Noted). n.expected ∷ []) note ∙ ap (λ (t : Option Decision). expected_word (stored_by y.receiving.persisted y.receiving.message t).expected ∷ []) (sym e),
        ap (with_transaction x.receiver.stored_has) note
            ∙ transaction_is o.row.persisted.transaction (open_transaction s.expected w.expected o.row w.in_table) y.receiving.message x.receiver.stored_has
            ∙ ap (has_with o.row.persisted.transaction y.receiving.message) h.receiver.stored_has_lem
            ∙ ap (λ (t : Option Decision). (stored_by y.receiving.persisted y.receiving.message t).has) (sym e),
      )

  -- the driver's test is the link's
  stores_test : (is_open_word st && not x.receiver.reports) ≡ (not (is_closed s.decision) && not y.receiving.reports)
  stores_test =
      ap (λ (ws : List ℕ). is_open_word ws && not x.receiver.reports) h.receiver.state.is
      ∙ ap (λ (u : Bool). u && not x.receiver.reports) (open_is s h.receiver.state.rest)
      ∙ ap (λ (u : Bool). not (is_closed s.decision) && not u) h.receiver.reports

  not-closed : (u : Bool) → not u ≡ true → u ≡ false
  not-closed true e = not_both (sym e)
  not-closed false e = refl

  abbrev stored_drivers : Drivers
  stored_drivers =
      let e = x.receiver in
      drivers x.sender (receiver_end e.memory (e.noted.expected ∷ []) (with_transaction e.stored_has e.noted) e.noted true e.pending e.arrived) x.forward x.back

  pub receiver_stores_goes : Goes l (receiver_persists ∷ []) (after_driver k receiver_stores x) y
  receiver_stores_goes = by_act l (after_driver k receiver_stores x) y receiver_persists (go (not (is_closed s.decision) && not y.receiving.reports) refl)
    where
      done : (not (is_closed s.decision) && not y.receiving.reports) ≡ true
          → Shows l stored_drivers (receiver_persisted y (to_persist y.receiving) true)
      done e =
          let t = stored_is s.decision refl (not-closed (is_closed s.decision) (and_left (not (is_closed s.decision)) (not y.receiving.reports) e)) in
          record {
            sender = h.sender;
            receiver = record {
              state = h.receiver.state;
              decision = h.receiver.decision;
              report = h.receiver.report;
              stored = t.0;
              stored_has_lem = t.1;
              note = h.receiver.note;
              reports = refl;
              pending = h.receiver.pending;
              arrived = h.receiver.arrived;
              reader = h.receiver.reader;
            };
            forward = h.forward;
            back = h.back;
          }

      go : (u : Bool) → (not (is_closed s.decision) && not y.receiving.reports) ≡ u
          → Shows l (cond (is_open_word st && not x.receiver.reports) stored_drivers x) (cond (not (is_closed s.decision) && not y.receiving.reports) (receiver_persisted y (to_persist y.receiving) true) y)
      go u e =
          subst (λ (v : Bool). Shows l (cond v stored_drivers x) (cond (not (is_closed s.decision) && not y.receiving.reports) (receiver_persisted y (to_persist y.receiving) true) y)) (sym stores_test)
          (both u e)
        where
          both : (v : Bool) → (not (is_closed s.decision) && not y.receiving.reports) ≡ v
              → Shows l (cond (not (is_closed s.decision) && not y.receiving.reports) stored_drivers x)
              (cond (not (is_closed s.decision) && not y.receiving.reports) (receiver_persisted y (to_persist y.receiving) true) y)
          both true f =
              subst (λ (v : Bool). Shows l (cond v stored_drivers x) (cond v (receiver_persisted y (to_persist y.receiving) true) y)) (sym f) (done f)
          both false f = subst (λ (v : Bool). Shows l (cond v stored_drivers x) (cond v (receiver_persisted y (to_persist y.receiving) true) y)) (sym f) h

  -- one more reply is pending, of which the report says the length
  more_pending : (start n : ℕ) (c : List ℕ)
      → x.receiver.pending ++ (let r = over p (report_words n 0) in cond (eqb (get_or r 0 0) 0) [] (take (get_or r 0 0) (drop start c) ∷ [])) ≡ y.receiving.pending ++ cond (eqb n 0) [] (take n (drop start c) ∷ [])
  more_pending start n c =
      ap (λ (m : ℕ). x.receiver.pending ++ cond (eqb m 0) [] (take m (drop start c) ∷ [])) (report_word_lem p n h.receiver.report)
      ∙ ap (λ (bs : List (List ℕ)). bs ++ cond (eqb n 0) [] (take n (drop start c) ∷ [])) h.receiver.pending

  -- ---- a report
  module _ (success : Bool) (start : ℕ) where
    abbrev o : Outcome Answered
    o = answer_of g success s start b

    abbrev space : Bool
    space = leb (start + reply_space g) (length b)

    answer_long : space ≡ true → answer_on k success start x.receiver.memory ≡ answered_as st p o
    unfolding answer_call
    answer_long f =
        ap (λ (m : Option Settings). answer_with m (outcome_from (flag success)) st b start p) (link_made k ag rd)
        ∙ ap (λ (z : Option Bool). answer_with (Some g) z st b start p) (outcome_made success)
        ∙ rw (rd.settings, le-leb 9 (length st) state_long, le-leb 2 (length p) h.receiver.report, f) (ap (answer_words g success st b start p) state_read)

    answer_too_short : space ≡ false → answer_on k success start x.receiver.memory ≡ answered_as st p o
    unfolding answer_call
    answer_too_short f =
        ap (λ (m : Option Settings). answer_with m (outcome_from (flag success)) st b start p) (link_made k ag rd)
        ∙ ap (λ (z : Option Bool). answer_with (Some g) z st b start p) (outcome_made success)
        ∙ rw (rd.settings, le-leb 9 (length st) state_long, le-leb 2 (length p) h.receiver.report, f)
        (sym (ap (answered_as st p) (answer_short g rd.settings s i.ends.receiver_valid start b success f)))

    answer_is : answer_on k success start x.receiver.memory ≡ answered_as st p o
    answer_is = go space refl
      where
        go : (u : Bool) → space ≡ u → answer_on k success start x.receiver.memory ≡ answered_as st p o
        go true e = answer_long e
        go false e = answer_too_short e

    report_test : (success : Bool) (u v : Bool) → u ≡ v → may_report success u ≡ is_true every success v
    report_test true u v e = e
    report_test false u v e = ap not e

    -- no decision is open then
    note_closed : (d : List ℕ) (t : Option Decision) → is_closed t ≡ true → SameNote x.receiver.noted d o.answer.receiver.expected t
    note_closed d None e = refl
    note_closed d (Some o) e = not_both (sym e)

    abbrev answered : Drivers
    answered =
        let e = x.receiver in
        let m = x.receiver.memory in
        let r = over p (report_words o.answer.reply_length 0) in
        drivers x.sender (receiver_end (receiver_memory (over st (receiver_words o.answer.receiver)) m.decision r m.reader o.buffer) e.stored e.stored_has e.noted false
        (e.pending ++ reply_by start (called 0 (over st (receiver_words o.answer.receiver)) o.buffer r)) e.arrived) x.forward x.back

    answered_shows : eqb o.answer.refusal 0 ≡ true → Shows l answered (reported_end y start o)
    answered_shows e =
        record {
          sender = h.sender;
          receiver = record {
            state = over_behind (receiver_words o.answer.receiver) st (let n = nine o.answer.receiver in let m = state_long in omega arith);
            decision = h.receiver.decision;
            report = let z = over-length p (report_words o.answer.reply_length 0) h.receiver.report in let m = h.receiver.report in omega arith;
            stored = h.receiver.stored;
            stored_has_lem = h.receiver.stored_has_lem;
            note = note_closed y.receiving.message o.answer.receiver.decision (report_closes g s start b success e);
            reports = refl;
            pending = more_pending start o.answer.reply_length o.buffer;
            arrived = h.receiver.arrived;
            reader = h.receiver.reader;
          };
          forward = h.forward;
          back = h.back;
        }

    -- what the driver has after any call
    abbrev after : Called → Drivers
    after c =
        let e = x.receiver in
        let m = x.receiver.memory in
        drivers x.sender (receiver_end (receiver_memory c.state m.decision c.report m.reader c.buffer) e.stored e.stored_has e.noted false (e.pending ++ reply_by start c) e.arrived)
        x.forward x.back

    abbrev done_answer : Called
    done_answer = called 0 (over st (receiver_words o.answer.receiver)) o.buffer (over p (report_words o.answer.reply_length 0))

    abbrev refused_answer : Called
    refused_answer = called o.answer.refusal st o.buffer p

    abbrev may : Bool
    may = may_report success x.receiver.reports

    refused_call : eqb o.answer.refusal 0 ≡ false → answered_by x success start (answered_as st p o) ≡ x
    refused_call f =
        ap (λ (u : Bool). answered_by x success start (cond u done_answer refused_answer)) f
        ∙ ap (λ (u : Bool). cond (may && u) (after refused_answer) x) f
        ∙ ap (λ (u : Bool). cond u (after refused_answer) x) (and_none may)

    refused_act : eqb o.answer.refusal 0 ≡ false → decision_reported every y success start o ≡ y
    refused_act f =
        let t = is_true every success y.receiving.reports in
        ap (λ (u : Bool). cond (t && u) (reported_end y start o) y) f ∙ ap (λ (u : Bool). cond u (reported_end y start o) y) (and_none t)

    done_call_lem : eqb o.answer.refusal 0 ≡ true → answered_by x success start (answered_as st p o) ≡ cond may (after done_answer) x
    done_call_lem f =
        ap (λ (u : Bool). answered_by x success start (cond u done_answer refused_answer)) f
        ∙ ap (λ (u : Bool). cond u (after done_answer) x) (and-all may)

    done_act : eqb o.answer.refusal 0 ≡ true → decision_reported every y success start o ≡ cond may (reported_end y start o) y
    done_act f =
        let t = is_true every success y.receiving.reports in
        ap (λ (u : Bool). cond (t && u) (reported_end y start o) y) f
        ∙ ap (λ (u : Bool). cond u (reported_end y start o) y) (and-all t ∙ sym (report_test success x.receiver.reports y.receiving.reports h.receiver.reports))

    reported_shows : Shows l (answered_by x success start (answered_as st p o)) (decision_reported every y success start o)
    reported_shows = go (eqb o.answer.refusal 0) refl
      where
        either : eqb o.answer.refusal 0 ≡ true → (u : Bool) → Shows l (cond u (after done_answer) x) (cond u (reported_end y start o) y)
        either f true = answered_shows f
        either f false = h

        go : (u : Bool) → eqb o.answer.refusal 0 ≡ u → Shows l (answered_by x success start (answered_as st p o)) (decision_reported every y success start o)
        go true f =
            subst (λ (z : Drivers). Shows l z (decision_reported every y success start o)) (sym (done_call_lem f)) (subst (Shows l (cond may (after done_answer) x)) (sym (done_act f)) (either f may))
        go false f = subst (λ (z : Drivers). Shows l z (decision_reported every y success start o)) (sym (refused_call f)) (subst (Shows l x) (sym (refused_act f)) h)

    pub answers_goes : Goes l (acts_of k (answers success start) x) (after_driver k (answers success start) x) y
    answers_goes =
        by_act l (after_driver k (answers success start) x) y (receiver_reports success start b)
        (subst (λ (c : Called). Shows l (answered_by x success start c) (decision_reported every y success start o)) (sym answer_is) reported_shows)

  -- ---- an N reply
  module _ (number start : ℕ) where
    abbrev n : Outcome Answered
    n = nak_of g number s start b

    abbrev fits : Bool
    fits = leb (start + reply_space g) (length b)

    numbered : (u : Bool) → is_block_number number ≡ u → (valid_link g && is_block_number number) ≡ u
    numbered u e = ap (λ (v : Bool). v && is_block_number number) rd.settings ∙ e

    bad_number : is_block_number number ≡ false → nak_of g number s start b ≡ refused 1 s b
    unfolding nak_of
    bad_number e = ap (λ (u : Bool). cond u (cond fits (cond (valid_receiver s && is_closed s.decision) (replied s (nak_reply g number) start b) (refused 11 s b)) (refused 2 s b)) (refused 1 s b)) (numbered false e)

    short_buffer : is_block_number number ≡ true → fits ≡ false → nak_of g number s start b ≡ refused 2 s b
    unfolding nak_of
    short_buffer e f =
        ap (λ (u : Bool). cond u (cond fits (cond (valid_receiver s && is_closed s.decision) (replied s (nak_reply g number) start b) (refused 11 s b)) (refused 2 s b)) (refused 1 s b)) (numbered true e)
        ∙ ap (λ (u : Bool). cond u (cond (valid_receiver s && is_closed s.decision) (replied s (nak_reply g number) start b) (refused 11 s b)) (refused 2 s b)) f

    abbrev enough : Bool
    enough = leb 9 (length st) && (leb 2 (length p) && fits)

    enough_is : enough ≡ fits
    enough_is = rw (le-leb 9 (length st) state_long, le-leb 2 (length p) h.receiver.report)

    call_is : nak_on k number start x.receiver.memory ≡ cond (is_block_number number) (cond fits (nak_as p n) (called 2 [] b p)) (called 1 [] b p)
    unfolding nak_call
    call_is =
        ap (λ (m : Option Settings). nak_with m number st b start p) (link_made k ag rd)
        ∙ ap (λ (u : Bool). cond (u && is_block_number number) (cond enough (nak_words g number b start p (receiver_in st)) (called 2 [] b p)) (called 1 [] b p)) rd.settings
        ∙ ap (λ (u : Bool). cond (is_block_number number) (cond u (nak_words g number b start p (receiver_in st)) (called 2 [] b p)) (called 1 [] b p)) enough_is
        ∙ ap (λ (r : Option Receiver). cond (is_block_number number) (cond fits (nak_words g number b start p r) (called 2 [] b p)) (called 1 [] b p)) state_read

    nak_is : nak_on k number start x.receiver.memory ≡ nak_as p n
    nak_is = call_is ∙ go (is_block_number number) fits refl refl
      where
        go : (u v : Bool) → is_block_number number ≡ u → fits ≡ v → cond u (cond v (nak_as p n) (called 2 [] b p)) (called 1 [] b p) ≡ nak_as p n
        go true true e f = refl
        go true false e f = sym (ap (nak_as p) (short_buffer e f))
        go false v e f = sym (ap (nak_as p) (bad_number e))

    abbrev nakked : Called → Drivers
    nakked c =
        let e = x.receiver in
        let m = x.receiver.memory in
        drivers x.sender (receiver_end (receiver_memory st m.decision c.report m.reader c.buffer) e.stored e.stored_has e.noted e.reports (e.pending ++ reply_by start c) e.arrived)
        x.forward x.back

    abbrev done_nak : Called
    done_nak = called 0 [] n.buffer (over p (report_words n.answer.reply_length 0))

    abbrev refused_nak : Called
    refused_nak = called n.answer.refusal [] n.buffer p

    abbrev nak_system : System
    nak_system =
        let e = y.receiving in
        link y.sending (receiving e.receiver e.persisted e.message e.reports (e.pending ++ replies_of start n) e.arrived) y.forward y.back

    nakked_shows : Shows l (nakked done_nak) nak_system
    nakked_shows =
        record {
          sender = h.sender;
          receiver = record {
            state = h.receiver.state;
            decision = h.receiver.decision;
            report = let z = over-length p (report_words n.answer.reply_length 0) h.receiver.report in let m = h.receiver.report in omega arith;
            stored = h.receiver.stored;
            stored_has_lem = h.receiver.stored_has_lem;
            note = h.receiver.note;
            reports = h.receiver.reports;
            pending = more_pending start n.answer.reply_length n.buffer;
            arrived = h.receiver.arrived;
            reader = h.receiver.reader;
          };
          forward = h.forward;
          back = h.back;
        }

    naks_shows : Shows l (nakked_by x start (nak_as p n)) (nak_taken y start n)
    naks_shows = go (eqb n.answer.refusal 0) refl
      where
        go : (u : Bool) → eqb n.answer.refusal 0 ≡ u → Shows l (nakked_by x start (nak_as p n)) (nak_taken y start n)
        go true f =
            subst (λ (u : Bool). Shows l (nakked_by x start (cond u done_nak refused_nak)) (cond u nak_system y)) (sym f) nakked_shows
        go false f =
            subst (λ (u : Bool). Shows l (nakked_by x start (cond u done_nak refused_nak)) (cond u nak_system y)) (sym f)
            (subst (λ (u : Bool). Shows l (cond u (nakked refused_nak) x) y) (sym f) h)

    pub naks_goes : Goes l (acts_of k (naks number start) x) (after_driver k (naks number start) x) y
    naks_goes =
        by_act l (after_driver k (naks number start) x) y (receiver_naks number start b)
        (subst (λ (c : Called). Shows l (nakked_by x start c) (nak_taken y start n)) (sym nak_is) naks_shows)

  -- ---- going on from what is stored; and a crash: the memory is new
  pub word_restored : (z : List ℕ) → 9 ≤ length z → Behind (receiver_words (closed y.receiving.persisted.expected)) (restored_receiver x.receiver z)
  word_restored z m =
      subst (λ (d : List ℕ). Behind (receiver_words (closed y.receiving.persisted.expected)) (over z (d ++ 0 ∷ 0 ∷ 0 ∷ 0 ∷ 0 ∷ 0 ∷ 0 ∷ 0 ∷ []))) (sym h.receiver.stored)
      (over_behind (receiver_words (closed y.receiving.persisted.expected)) z m)

  pub receiver_restores_goes : Goes l (link_restores ∷ []) (after_driver k receiver_restores x) y
  receiver_restores_goes =
      by_act l (after_driver k receiver_restores x) y link_restores
      (record {
        sender = h.sender;
        receiver = record {
          state = word_restored st state_long;
          decision = h.receiver.decision;
          report = h.receiver.report;
          stored = h.receiver.stored;
          stored_has_lem = h.receiver.stored_has_lem;
          note = refl;
          reports = refl;
          pending = h.receiver.pending;
          arrived = h.receiver.arrived;
          reader = h.receiver.reader;
        };
        forward = h.forward;
        back = h.back;
      })

  pub receiver_crashes_goes : (m : ReceiverMemory) → Goes l (acts_of k (receiver_crashes m) x) (after_driver k (receiver_crashes m) x) y
  receiver_crashes_goes m = go (enough_to_receive g m) refl
    where
      go : (b : Bool) → enough_to_receive g m ≡ b
          → Goes l (once b end_crashes) (cond b (drivers x.sender (receiver_end (receiver_memory (restored_receiver x.receiver m.state) m.decision m.report (fresh_reader m.reader) m.reply)
          x.receiver.stored x.receiver.stored_has nothing_noted false [] []) empty_line (line x.back.reader [])) x) y
      go false e = stays l x y h
      go true e =
          let states = leb 9 (length m.state) in
          let decisions = leb 5 (length m.decision) in
          let reports = leb 2 (length m.report) in
          let rest = and_right states (decisions && (reports && enough_to_read g m.reader)) e in
          let more = and_right decisions (reports && enough_to_read g m.reader) rest in
          by_act l _ y end_crashes
          (record {
            sender = record {
              state = h.sender.state;
              report = h.sender.report;
              stored = h.sender.stored;
              named = h.sender.named;
              arrived = h.sender.arrived;
              reports = h.sender.reports;
              reader = record { stands = h.sender.reader.stands; within = h.sender.reader.within };
            };
            receiver = record {
              state = word_restored m.state (leb-true 9 (length m.state) (and_left states (decisions && (reports && enough_to_read g m.reader)) e));
              decision = leb-true 5 (length m.decision) (and_left decisions (reports && enough_to_read g m.reader) rest);
              report = leb-true 2 (length m.report) (and_left reports (enough_to_read g m.reader) more);
              stored = h.receiver.stored;
              stored_has_lem = h.receiver.stored_has_lem;
              note = refl;
              reports = refl;
              pending = refl;
              arrived = each_none;
              reader = fresh_enough k ag rd m.reader (and_right reports (enough_to_read g m.reader) more);
            };
            forward = refl;
            back = ap (λ (z : Line). line z.reader []) h.back;
          })

  -- ---- a reply goes out
  replied_shows : (c : List ℕ) (bs : List (List ℕ)) → x.receiver.pending ≡ c ∷ bs → Shows l (reply_sent x (c ∷ bs)) (reply_written y (c ∷ bs))
  replied_shows c bs queue =
      record {
        sender = record {
          state = h.sender.state;
          report = h.sender.report;
          stored = h.sender.stored;
          named = h.sender.named;
          arrived = h.sender.arrived;
          reports = h.sender.reports;
          reader = record { stands = h.sender.reader.stands; within = h.sender.reader.within };
        };
        receiver = record {
          state = h.receiver.state;
          decision = h.receiver.decision;
          report = h.receiver.report;
          stored = h.receiver.stored;
          stored_has_lem = h.receiver.stored_has_lem;
          note = h.receiver.note;
          reports = h.receiver.reports;
          pending = refl;
          arrived = h.receiver.arrived;
          reader = h.receiver.reader;
        };
        forward = h.forward;
        back = ap (λ (z : Line). line z.reader (z.bytes ++ c)) h.back;
      }

  pub replies_goes : Goes l (receiver_writes ∷ []) (after_driver k replies x) y
  replies_goes =
      by_act l (after_driver k replies x) y receiver_writes
      (subst (λ (bs : List (List ℕ)). Shows l (reply_sent x x.receiver.pending) (reply_written y bs)) h.receiver.pending (go x.receiver.pending refl))
    where
      go : (bs : List (List ℕ)) → x.receiver.pending ≡ bs → Shows l (reply_sent x bs) (reply_written y bs)
      go [] e = h
      go (c ∷ bs) e = replied_shows c bs e

  -- ---- what is called is done: no driver is stuck
  closed_word : is_open_word st ≡ false → is_closed s.decision ≡ true
  closed_word e = go (is_closed s.decision) (sym (ap is_open_word h.receiver.state.is ∙ open_is s h.receiver.state.rest) ∙ e)
    where
      go : (u : Bool) → not u ≡ false → u ≡ true
      go true z = refl
      go false z = not_both z

  open_word : is_open_word st ≡ true → is_closed s.decision ≡ false
  open_word e = not-closed (is_closed s.decision) (sym (ap is_open_word h.receiver.state.is ∙ open_is s h.receiver.state.rest) ∙ e)

  module _ (application t : ℕ) (a : Application) (known : application_from application ≡ Some a) (type : is_type t ≡ true) (d : List ℕ) where
    -- a block that was accepted is decided on, while no decision is open
    pub decide_done : is_open_word st ≡ false → (decide_call application t d st q).number ≡ 0
    decide_done e =
        ap (λ (c : Called). c.number) (decision_is application a known t d type)
        ∙ cond_ind (λ (c : Called). c.number ≡ 0) (eqb (decide_of a s t d).refusal 0) _ _ (λ z. refl) (λ z. decide_taken a s t d i.ends.receiver_valid (closed_word e))

    -- and refused by 11, with nothing changed, while one is
    pub decide_held : is_open_word st ≡ true → decide_call application t d st q ≡ called 11 st [] q
    decide_held e =
        decision_is application a known t d type
        ∙ ap (decided_as st q) (decide_while_open a s t d i.ends.receiver_valid (open_word e))

  -- ---- where GMV_DECISION_CHANGES is 0, storing leaves what is stored: a driver that does not store then does this act all the same
  module _ (is_open_lem : is_open_word st ≡ true) (unreported : x.receiver.reports ≡ false) (unchanged : x.receiver.noted.changes ≡ 0) where
    abbrev Same : Type 0
    Same = (x.receiver.noted.expected ∷ [] ≡ x.receiver.stored) × (with_transaction x.receiver.stored_has x.receiver.noted ≡ x.receiver.stored_has)

    flag_false : (u : Bool) → flag (not u) ≡ 0 → u ≡ true
    flag_false true e = refl
    flag_false false e = absurd (omega arith)

    row_same : (id : ControlId) (r : Row) → s.decision ≡ Some (record { control_id = id; row = r }) → s.expected ≡ y.receiving.persisted.expected → Same
    row_same id r e now =
        let w = opened s id r i.ends.receiver_valid e in
        let table = is-row s.expected w.expected r w.in_table in
        let note : x.receiver.noted ≡ noted (transaction_word r.persisted.transaction) (expected_word r.persisted.expected) (flag (not (same_expected r.persisted.expected s.expected))) y.receiving.message =
        subst (SameNote x.receiver.noted y.receiving.message s.expected) e h.receiver.note in
        let same : r.persisted.expected ≡ s.expected =
        expected_is r.persisted.expected s.expected (flag_false (same_expected r.persisted.expected s.expected) (sym (ap (λ (n : Noted). n.changes) note) ∙ unchanged)) in
        let none : r.persisted.transaction ≡ None =
        ap (λ (z : Row). z.persisted.transaction) table.is
        ∙ unchanged-row table.application s.expected table.field (sym (ap (λ (z : Row). z.persisted.expected) table.is) ∙ same) in (
          ap (λ (n : Noted). n.expected ∷ []) note ∙ ap (λ (z : Option ℕ). expected_word z ∷ []) (same ∙ now) ∙ sym h.receiver.stored,
          ap (with_transaction x.receiver.stored_has) note
              ∙ ap (λ (z : Option ℕ). cond (eqb (transaction_word z) 0) x.receiver.stored_has (x.receiver.stored_has ++ y.receiving.message ∷ [])) none,
        )

    pub stores_nothing : Same
    stores_nothing = go i.opening
      where
        go : {v p : Reach} {os : List Answer} → Opening l y.receiving v p os → Same
        go (none_open a u c) = not_both (sym (ap (λ (z : Receiver). is_closed z.decision) a) ∙ open_word is_open_lem)
        go (to_store_lem n r a u c d f) = row_same (in_words (text_of n)) r (ap (λ (z : Receiver). z.decision) a) (ap (λ (z : Receiver). z.expected) a)
        go (to_report n r a u c d f) = not_both (sym u ∙ sym h.receiver.reports ∙ unreported)

  -- ---- the open decision can be reported, where the buffer has its length
  pub answer_done : is_open_word st ≡ true → (success : Bool) (start : ℕ) → start + reply_space g ≤ length b → (answer_on k success start x.receiver.memory).number ≡ 0
  answer_done e success start m =
      let fits = le-leb (start + reply_space g) (length b) m in
      ap (λ (c : Called). c.number) (answer_is success start)
      ∙ cond_ind (λ (c : Called). c.number ≡ 0) (eqb (answer_of g success s start b).answer.refusal 0) _ _ (λ z. refl)
      (λ z. ap (λ (n : Outcome Answered). n.answer.refusal) (reported-is g rd.settings s i.ends.receiver_valid start b success fits) ∙ open_taken s.decision (open_word e) success)
    where
      open_taken : (t : Option Decision) → is_closed t ≡ false → (q : Bool) → (reported_of g q s start b t).answer.refusal ≡ 0
      open_taken None z q = not_both z
      open_taken (Some o) z true = refl
      open_taken (Some o) z false = refl
