-- Demand 3 of the C functions: every run of two drivers that call them is a run of the link, and so what they hold and have stored is as the demand says.
use Rattle.std.specs.Prelude.{Option, Some, None, Result, Ok, Err}
use mathlib.Core.Path.{◌≡◌, refl, sym, ap, ◌∙◌, subst}
use mathlib.Core.List.{List, [], ◌∷◌, ◌++◌, map}
use mathlib.Core.Bool.{Bool, true, false, cond, not, ◌&&◌}
use mathlib.Core.Logic.{◌⊎◌, inl, inr}
use Prim.Native.Nat.{ℕ, suc, ◌+◌, ◌≤◌, ◌<◌}
use Prim.Native.Char.{code}
use native.Mathlib.Omega.{arith}
use lib.ListN.{length, take, get_or}
use lib.Dec.{leb, eqb}
use borrow.Author.Tests.{le-leb, leb-true, eq-eqb, eqb-true}
use Rattle.lists.specs.Bytes.{same, over}
use Rattle.lists.specs.Outcome.{Called, called}
use Rattle.lists.proofs.Tests.{and_left, and_right}
use Rattle.settings.specs.declared.Settings.{Settings}
use Rattle.refusal.specs.Refusal.{number_of, type_of, accepted_as}
use Rattle.refusal.specs.declared.Accepted.{Accepted}
use Rattle.refusal.specs.declared.Refusal.{Refusal}
use Rattle.block.specs.Format.{block_of}
use Rattle.writer.specs.Write.{need_of}
use Rattle.fields.specs.Fields.{bytes_of}
use Rattle.numbers.specs.Numbers.{greatest_sent, text_of}
use Rattle.numbers.specs.declared.SequenceNumber.TheVariants.{Number}
use Rattle.header.specs.Header.{answer_field}
use Rattle.stream.specs.Stream.{Judged}
use Rattle.receiver.specs.Receiver.{reply_space, valid_expected}
use Rattle.receiver.specs.declared.Application.{Application}
use Rattle.receiver_calls.specs.ReceiverCalls.{expected_word, expected_from, application_from, is_type, decide_call}
use Rattle.words.specs.Words.{verdict_from}
use Rattle.sender.specs.Sender.{valid_sender, is_open, waiting_message, waits_of, fresh_sender, sender_of, open_of}
use Rattle.sender.specs.declared.Waiting.TheVariants.{Resynchronizing, Querying}
use Rattle.sender.specs.declared.Sender.{Sender}
use Rattle.numbers.specs.declared.SequenceNumber.{SequenceNumber}
use Rattle.sender.specs.declared.Acted.{Acted}
use Rattle.sender_calls.specs.SenderCalls.{flag_word, waiting_of, sender_words, send_words, fresh_call, open_call, submit_call}
use Rattle.link.specs.Duties.{every, one_at, others_at}
use Rattle.link.specs.SenderActs.{act_of, falls_due}
use Rattle.link.specs.SenderHistory.{Entry, reported, counted_of, is_abandoned}
use Rattle.link.specs.Line.{Line, line, damages, disorders}
use Rattle.link.specs.System.{Link, System, Remains, SystemAct, beginning, link, damages_forward as link_damages_forward, damages_back as link_damages_back, run_of}
use Rattle.link.specs.Promise.{Logged, Ready, Covers, OnlyAnswers}
use Rattle.link.proofs.Queues.{Each, each_none, each_more, Front, front, each_front}
use Rattle.link.proofs.SenderDue.{due_sends, timer_on, block_on, submit_on}
use Rattle.link.proofs.Submitted.{submit_logged, logged_submits}
use Rattle.link.proofs.Progress.{limit_valid_lem}
use Rattle.link.proofs.Early.{Standing, open_is}
use Rattle.link.proofs.Safety.{run_stands, safety_from}
use Rattle.link.proofs.Reports.{reports, sends_at_once, named_waits, nothing_left_lem, abandons_exactly, abandoned_closes}
use Rattle.link.proofs.Delivery.{answer_moves}
use Rattle.link.proofs.Facts.{not_both}
use Rattle.link.proofs.Runs.{run_join}
use Rattle.call_theorems.specs.Driver.{Passed, Named, ReaderMemory, SenderMemory, ReceiverMemory, ReceiverEnd, Drivers, drivers, enough_to_read, enough_to_send, enough_to_receive, waits_words, report_of, with_transaction, is_open_word, answer_on, DriverAct, verdict_taken, after_driver, driven_by, DriversLeft, drivers_start}
use Rattle.call_theorems.specs.Driver.{opens, ends, resets, timer, submits, stores, restores, receiver_stores, receiver_restores, replies, sends, forgets, reads, takes, drops, receiver_reads, receiver_drops}
use Rattle.call_theorems.specs.Driver.{decides, answers, naks, replaces, receiver_replaces, tries, crashes, receiver_crashes, damages_forward, damages_back}
use Rattle.call_theorems.specs.Verdicts.{reader_gives}
use Rattle.call_theorems.specs.Reading.{Shown, shown}
use Rattle.call_theorems.specs.DriversRun.{acts_of, link_run}
use Rattle.call_theorems.specs.DriversPromise.{In, here, there, Agrees, all_given, DriversSafe, delivered_word, last_word, frozen_word, waits_word, SenderCall, opening, ending, resetting, timing, submitting, taking, called_by, verdict_by, keeps_circuit, act_by, Offered, abandoned_word, send_words_of, applies, message_named, sends_shown, Reported}
use Rattle.call_theorems.specs.Apart.{of_sender, of_receiver, all_of, with_receiver, gone_over, opens_apart, opens_later}
use Rattle.call_theorems.proofs.Apart.{later_is, senders_leave, apart_is, driven_join}
use Rattle.call_theorems.proofs.Shows.{SameVerdict, Behind, Shows, waits_is, over_behind}
use Rattle.call_theorems.proofs.Driving.{Goes, by_act, fresh_enough, opens_goes, ends_goes, resets_goes, timer_goes, submits_goes, stores_goes, restores_goes}
use Rattle.call_theorems.proofs.Reporting.{Words, sends_shown_lem, call_words, call_showed, call_number, word_closed, twice, waiting_is, call_taken, due_resends}
use Rattle.call_theorems.proofs.SenderDriving.{each_one, named_goes_out, sends_goes, forgets_goes, reads_goes, takes_goes, drops_goes, replaces_goes, crashes_goes}
use Rattle.call_theorems.proofs.ReceiverDriving.{receiver_reads_goes, decides_goes, tries_goes, receiver_replaces_goes, receiver_drops_goes, receiver_stores_goes, receiver_restores_goes, answers_goes, naks_goes, receiver_crashes_goes, replies_goes, decide_done, decide_held, answer_done, stores_nothing}

-- where one of a list stands
record At {A : Type 0} (x : A) (xs : List A) : Type 0 where
  index : ℕ
  is : one_at index xs ≡ x ∷ []

at_index : {A : Type 0} {x : A} {xs : List A} → In x xs → At x xs
unfolding one_at
at_index here = record { index = 0; is = refl }
at_index (there i) = let a = at_index i in record { index = suc a.index; is = a.is }

flag_off : (b : Bool) → flag_word b ≡ 0 → b ≡ false
flag_off true e = absurd (omega (arith, e))
flag_off false e = refl

-- a verdict with the number 0 and the type D is that of an accepted data block
record AcceptedData (v : Result Accepted Refusal) : Type 0 where
  size : ℕ
  is : v ≡ accepted_as (code "D") size

accepted_data : (v : Result Accepted Refusal) → reader_gives v ≡ true → number_of v ≡ 0 → type_of v ≡ code "D" → AcceptedData v
accepted_data (Ok v) g z d = record { size = v.data_length; is = ap (λ (k : ℕ). accepted_as k v.data_length) d }
accepted_data (Err v) g z d = let a = leb-true 3 v.number (and_left (leb 3 v.number) (leb v.number 8) g) in absurd (omega arith)

module _ (k : Passed) (ag : Agrees k) (rd : Ready k.link) where
  abbrev l : Link
  l = k.link

  abbrev g : Settings
  g = k.link.settings

  -- ---- loss and damage
  module _ (x : Drivers) (y : System) (h : Shows l x y) (xs : List ℕ) where
    abbrev damaged : Drivers
    damaged = drivers x.sender x.receiver (line x.forward.reader xs) x.back

    damaged_shows : Shows l damaged (link y.sending y.receiving (line y.forward.reader xs) y.back)
    damaged_shows =
        record {
          sender = h.sender;
          receiver = record {
            state = h.receiver.state;
            decision = h.receiver.decision;
            report = h.receiver.report;
            stored = h.receiver.stored;
            stored_has_lem = h.receiver.stored_has_lem;
            note = h.receiver.note;
            reports = h.receiver.reports;
            pending = h.receiver.pending;
            arrived = h.receiver.arrived;
            reader = record { stands = h.receiver.reader.stands; within = h.receiver.reader.within };
          };
          forward = ap (λ (z : Line). line z.reader xs) h.forward;
          back = h.back;
        }

    forward_goes : (b : Bool) → damages g x.forward xs ≡ b → Goes l (link_damages_forward xs ∷ []) (cond b damaged x) y
    forward_goes false e =
        by_act l x y (link_damages_forward xs)
        (subst (λ (b : Bool). Shows l x (cond b (link y.sending y.receiving (line y.forward.reader xs) y.back) y))
        (sym (ap (λ (z : Line). damages g z xs) (sym h.forward) ∙ e)) h)
    forward_goes true e =
        by_act l damaged y (link_damages_forward xs)
        (subst (λ (b : Bool). Shows l damaged (cond b (link y.sending y.receiving (line y.forward.reader xs) y.back) y))
        (sym (ap (λ (z : Line). damages g z xs) (sym h.forward) ∙ e)) damaged_shows)

    abbrev disordered : Drivers
    disordered = drivers x.sender x.receiver x.forward (line x.back.reader xs)

    disordered_shows : Shows l disordered (link y.sending y.receiving y.forward (line y.back.reader xs))
    disordered_shows =
        record {
          sender = record {
            state = h.sender.state;
            report = h.sender.report;
            stored = h.sender.stored;
            named = h.sender.named;
            arrived = h.sender.arrived;
            reports = h.sender.reports;
            reader = record { stands = h.sender.reader.stands; within = h.sender.reader.within };
          };
          receiver = h.receiver;
          forward = h.forward;
          back = ap (λ (z : Line). line z.reader xs) h.back;
        }

    back_goes : (b : Bool) → disorders g x.back xs ≡ b → Goes l (link_damages_back xs ∷ []) (cond b disordered x) y
    back_goes false e =
        by_act l x y (link_damages_back xs)
        (subst (λ (b : Bool). Shows l x (cond b (link y.sending y.receiving y.forward (line y.back.reader xs)) y))
        (sym (ap (λ (z : Line). disorders g z xs) (sym h.back) ∙ e)) h)
    back_goes true e =
        by_act l disordered y (link_damages_back xs)
        (subst (λ (b : Bool). Shows l disordered (cond b (link y.sending y.receiving y.forward (line y.back.reader xs)) y))
        (sym (ap (λ (z : Line). disorders g z xs) (sym h.back) ∙ e)) disordered_shows)

  -- ---- each act
  act_goes : (a : DriverAct) (x : Drivers) (y : System) → Standing l y → Shows l x y → Goes l (acts_of k a x) (after_driver k a x) y
  act_goes (opens r q) x y i h = opens_goes k ag rd x y i h r q
  act_goes ends x y i h = ends_goes k ag rd x y i h
  act_goes resets x y i h = resets_goes k ag rd x y i h
  act_goes timer x y i h = timer_goes k ag rd x y i h
  act_goes (submits limit d) x y i h = submits_goes k ag rd x y i h limit d
  act_goes stores x y i h = stores_goes k ag rd x y i h
  act_goes restores x y i h = restores_goes k ag rd x y i h
  act_goes receiver_stores x y i h = receiver_stores_goes k ag rd x y i h
  act_goes receiver_restores x y i h = receiver_restores_goes k ag rd x y i h
  act_goes replies x y i h = replies_goes k ag rd x y i h
  act_goes (sends start) x y i h = sends_goes k ag rd x y i h start
  act_goes (forgets n) x y i h = forgets_goes k ag rd x y i h n
  act_goes (reads n) x y i h = reads_goes k ag rd x y i h n
  act_goes (takes n) x y i h = takes_goes k ag rd x y i h n
  act_goes (drops n) x y i h = drops_goes k ag rd x y i h n
  act_goes (receiver_reads n) x y i h = receiver_reads_goes k ag rd x y i h n
  act_goes (receiver_drops n) x y i h = receiver_drops_goes k ag rd x y i h n
  act_goes (decides a) x y i h = decides_goes k ag rd x y i h a
  act_goes (answers b start) x y i h = answers_goes k ag rd x y i h b start
  act_goes (naks n start) x y i h = naks_goes k ag rd x y i h n start
  act_goes (replaces p v b w) x y i h = replaces_goes k ag rd x y i h p v b w
  act_goes (receiver_replaces d p v b) x y i h = receiver_replaces_goes k ag rd x y i h d p v b
  act_goes (tries a) x y i h = tries_goes k ag rd x y i h a
  act_goes (crashes m) x y i h = crashes_goes k ag rd x y i h m
  act_goes (receiver_crashes m) x y i h = receiver_crashes_goes k ag rd x y i h m
  act_goes (damages_forward xs) x y i h = forward_goes x y h xs (damages g x.forward xs) refl
  act_goes (damages_back xs) x y i h = back_goes x y h xs (disorders g x.back xs) refl

  -- what is asked of a receiver's end is what it has stored
  safe_with : (e : ReceiverEnd) (x : Drivers) → e.stored_has ≡ x.receiver.stored_has → DriversSafe l x → DriversSafe l (with_receiver e x)
  safe_with e x a f =
      record {
        count = f.count;
        has = a ∙ f.has;
        covers = f.covers;
        stored_covers = f.stored_covers;
        submitted = f.submitted;
        unfrozen = f.unfrozen;
        stored_unfrozen = f.stored_unfrozen;
      }

  -- ---- the beginning
  -- the verdicts that are left are shown as the reader gave them
  all_shown : (ws : List Judged) → all_given ws ≡ true → Each (SameVerdict g) (map (shown g) ws) ws
  all_shown [] e = each_none
  all_shown (w ∷ ws) e =
      each_more {y = w} (record { is = refl; given = and_left (reader_gives w.verdict) (all_given ws) e }) (all_shown ws (and_right (reader_gives w.verdict) (all_given ws) e))

  module _ (left : DriversLeft) (given : all_given left.answers ≡ true) (m : SenderMemory) (n : ReceiverMemory) (w : ℕ) (enough : enough_to_send g m ≡ true) (space : enough_to_receive g n ≡ true)
      (state : valid_expected (expected_from w) ≡ true) where
    abbrev e : Option ℕ
    e = expected_from w

    abbrev begun : Drivers
    begun = drivers_start k left m n w

    -- the same as the link has it
    abbrev remains : Remains
    remains = record { forward = []; back = left.back; pending = left.pending; requests = []; answers = left.answers; decision = None; message = [] }

    only : OnlyAnswers remains
    only = record { forward = refl; requests = refl }

    -- the word stands for what it is read as
    word_is : expected_word (expected_from w) ≡ w
    word_is = go (eqb w 0) refl
      where
        go : (b : Bool) → eqb w 0 ≡ b → expected_word (cond b None (Some w)) ≡ w
        go true z = sym (eqb-true w 0 z)
        go false z = refl

    state_words_lem : 7 ≤ length m.state
    state_words_lem = leb-true 7 (length m.state) (and_left (leb 7 (length m.state)) (leb 8 (length m.report) && enough_to_read g m.reader) enough)

    sender_rest : (leb 8 (length m.report) && enough_to_read g m.reader) ≡ true
    sender_rest = and_right (leb 7 (length m.state)) (leb 8 (length m.report) && enough_to_read g m.reader) enough

    receiver_rest : (leb 5 (length n.decision) && (leb 2 (length n.report) && enough_to_read g n.reader)) ≡ true
    receiver_rest = and_right (leb 9 (length n.state)) (leb 5 (length n.decision) && (leb 2 (length n.report) && enough_to_read g n.reader)) space

    receiver_more : (leb 2 (length n.report) && enough_to_read g n.reader) ≡ true
    receiver_more = and_right (leb 5 (length n.decision)) (leb 2 (length n.report) && enough_to_read g n.reader) receiver_rest

    fresh_words_lem : (fresh_call l.first m.state).state ≡ over m.state (sender_words (fresh_sender l.first))
    unfolding fresh_call sender_of
    fresh_words_lem =
        let a = le-leb 1 l.first rd.first_least in
        let b = le-leb l.first 999999999999998 rd.first_most in
        rw (a, b) (rw (a, b, le-leb 7 (length m.state) state_words_lem))

    behind : Behind (sender_words (fresh_sender l.first)) (fresh_call l.first m.state).state
    behind = subst (Behind (sender_words (fresh_sender l.first))) (sym fresh_words_lem) (over_behind (sender_words (fresh_sender l.first)) m.state state_words_lem)

    start_shows : Shows l begun (beginning every l e remains)
    start_shows =
        let answers = fresh_enough k ag rd m.reader (and_right (leb 8 (length m.report)) (enough_to_read g m.reader) sender_rest) in
        record {
          sender = record {
            state = behind;
            report = leb-true 8 (length m.report) (and_left (leb 8 (length m.report)) (enough_to_read g m.reader) sender_rest);
            stored = ap (take 5) behind.is;
            named = each_none;
            arrived = all_shown left.answers given;
            reports = each_none;
            reader = record { stands = answers.stands; within = answers.within };
          };
          receiver = record {
            state = subst (λ (v : ℕ). Behind (v ∷ 0 ∷ 0 ∷ 0 ∷ 0 ∷ 0 ∷ 0 ∷ 0 ∷ 0 ∷ []) (over n.state (w ∷ 0 ∷ 0 ∷ 0 ∷ 0 ∷ 0 ∷ 0 ∷ 0 ∷ 0 ∷ []))) (sym word_is)
                (over_behind (w ∷ 0 ∷ 0 ∷ 0 ∷ 0 ∷ 0 ∷ 0 ∷ 0 ∷ 0 ∷ []) n.state
                (leb-true 9 (length n.state) (and_left (leb 9 (length n.state)) (leb 5 (length n.decision) && (leb 2 (length n.report) && enough_to_read g n.reader)) space)));
            decision = leb-true 5 (length n.decision) (and_left (leb 5 (length n.decision)) (leb 2 (length n.report) && enough_to_read g n.reader) receiver_rest);
            report = leb-true 2 (length n.report) (and_left (leb 2 (length n.report)) (enough_to_read g n.reader) receiver_more);
            stored = ap (λ (v : ℕ). v ∷ []) (sym word_is);
            stored_has_lem = refl;
            note = refl;
            reports = refl;
            pending = refl;
            arrived = each_none;
            reader = fresh_enough k ag rd n.reader (and_right (leb 2 (length n.report)) (enough_to_read g n.reader) receiver_more);
          };
          forward = refl;
          back = refl;
        }

    -- ---- every run of the drivers is a run of the link, act by act
    abbrev pub link_end : List DriverAct → System
    link_end ds = run_of every l (beginning every l e remains) (link_run k begun ds)

    standing : (ds : List DriverAct) → Standing l (link_end ds)
    standing ds = run_stands l rd remains only e state (link_run k begun ds)

    pub calls_run : (ds : List DriverAct) → Shows l (driven_by k begun ds) (link_end ds)
    unfolding driven_by run_of link_run
    calls_run [] = start_shows
    calls_run (a ∷ ds) =
        subst (Shows l (after_driver k a (driven_by k begun ds))) (sym (run_join l (beginning every l e remains) (link_run k begun ds) (acts_of k a (driven_by k begun ds))))
        (act_goes a (driven_by k begun ds) (link_end ds) (standing ds) (calls_run ds)).shows

    -- ---- so demand 3 holds of what C sees
    pub calls_safe : (ds : List DriverAct) → DriversSafe l (driven_by k begun ds)
    calls_safe ds =
        let h = calls_run ds in
        let f = safety_from l rd remains only e state (link_run k begun ds) in
        let held = ap (λ (ws : List ℕ). get_or ws 1 0) h.sender.state.is in
        let kept = ap (λ (ws : List ℕ). get_or ws 1 0) h.sender.stored in
        let last = ap (λ (ws : List ℕ). get_or ws 2 0) h.sender.stored in
        record {
          count = f.count;
          has = h.receiver.stored_has_lem ∙ f.has;
          covers = subst (λ (n : ℕ). Covers l n f.count) (sym held) f.covers;
          stored_covers = subst (λ (n : ℕ). Covers l n f.count) (sym kept) f.persisted_covers;
          submitted = subst (λ (n : ℕ). l.first + f.count ≤ n + 1) (sym last) f.submitted;
          unfrozen = ap (λ (ws : List ℕ). get_or ws 4 0) h.sender.state.is ∙ ap flag_word f.unfrozen;
          stored_unfrozen = ap (λ (ws : List ℕ). get_or ws 4 0) h.sender.stored ∙ ap flag_word f.persisted_unfrozen;
        }

    -- ---- what the calls do and show, after any run
    module _ (ds : List DriverAct) where
      abbrev x : Drivers
      x = driven_by k begun ds

      abbrev st : List ℕ
      st = x.sender.memory.state

      abbrev run : List SystemAct
      run = link_run k begun ds

      abbrev s : Sender
      s = (link_end ds).sending.sender

      abbrev h : List Entry
      h = (link_end ds).sending.history

      sender_valid : valid_sender (link_end ds).sending.sender ≡ true
      sender_valid = (standing ds).ends.valid

      -- a call that applies is done: opening where no circuit is open, the timer, the end and each verdict on one
      pub calls_taken : (q : SenderCall) → Offered x.sender.arrived q → applies q st ≡ true → (called_by k x.sender.memory q).number ≡ 0
      calls_taken = call_taken k rd (driven_by k begun ds) (link_end ds) sender_valid (calls_run ds) (standing ds).core.senders.unfrozen

      -- what is submitted under the link's limit and taken is a message of a log, under the next number, and counts as submitted
      last_is : last_word st ≡ s.persisted.last
      last_is = ap (λ (ws : List ℕ). get_or ws 2 0) (calls_run ds).sender.state.is

      pub calls_submit : (d : List ℕ) → (submit_call g.data_limit d st x.sender.memory.report).number ≡ 0
          → Logged g (last_word st + 1) d × (last_word (submit_call g.data_limit d st x.sender.memory.report).state ≡ last_word st + 1)
      calls_submit d z =
          let call = submitting g.data_limit d in
          let y = link_end ds in
          let taken = submit_logged g s d (sym (call_number k rd (driven_by k begun ds) y sender_valid (calls_run ds) call refl) ∙ z) in
          let written = ap (λ (n : ℕ). eqb n 1) z in
          let words = call_words k rd (driven_by k begun ds) y sender_valid (calls_run ds) call refl written in (
            subst (λ (n : ℕ). Logged g (n + 1) d) (sym last_is) taken.logged,
            ap (λ (ws : List ℕ). get_or ws 2 0) words.state.is ∙ taken.last ∙ ap (λ (n : ℕ). n + 1) (sym last_is),
          )

      -- and the next message of the log is taken, as long as there are numbers
      pub calls_submits : last_word st < greatest_sent → (submit_call g.data_limit (l.log (last_word st + 1)) st x.sender.memory.report).number ≡ 0
      calls_submits more =
          let call = submitting g.data_limit (l.log (last_word st + 1)) in
          let n = (standing ds).core.numbers in
          let e = last_is in
          call_number k rd (driven_by k begun ds) (link_end ds) sender_valid (calls_run ds) call refl
          ∙ logged_submits g s (l.log (last_word st + 1)) (limit_valid_lem l rd) sender_valid (standing ds).core.senders.unfrozen
          (subst (λ (i : ℕ). Logged g (i + 1) (l.log (last_word st + 1))) last_is (rd.logged (last_word st + 1) (omega arith) (omega arith)))

      -- a circuit opens with -1, or with 0 where the line is resynchronised (GMV_SENDER_RESYNCHRONIZED)
      pub calls_open : waits_word st ≡ 0 → waits_words (open_call st x.sender.memory.report).state ≡ cond (eqb (get_or st 3 0) 1) 2 1 ∷ 0 ∷ []
      calls_open closed =
          let done = calls_taken opening refl (eq-eqb (waits_word st) 0 closed) in
          let words = call_words k rd (driven_by k begun ds) (link_end ds) sender_valid (calls_run ds) opening refl (ap (λ (n : ℕ). eqb n 1) done) in
          let none = sym (waiting_is k rd (driven_by k begun ds) (link_end ds) sender_valid (calls_run ds)) ∙ ap waiting_of closed in
          waits_is (open_of s).sender (open_call st x.sender.memory.report).state words.state
          ∙ ap (λ (a : Acted). send_words (waits_of a.sender)) (open_is s none sender_valid (standing ds).core.senders.unfrozen)
          ∙ go s.persisted.resynchronized
          ∙ ap (λ (n : ℕ). cond (eqb n 1) 2 1 ∷ 0 ∷ []) (sym (ap (λ (ws : List ℕ). get_or ws 3 0) (calls_run ds).sender.state.is))
        where
          go : (b : Bool) → send_words (waiting_message s.persisted (cond b Querying Resynchronizing)) ≡ cond (eqb (flag_word b) 1) 2 1 ∷ 0 ∷ []
          go true = refl
          go false = refl

      before_is : sends_shown (waits_words st) x.sender.reports ≡ counted_of (waits_of s) h
      before_is = ap (λ (ws : List ℕ). sends_shown ws x.sender.reports) (waits_is s st (calls_run ds).sender.state) ∙ sends_shown_lem (waits_of s) (calls_run ds).sender.reports

      module _ (q : SenderCall) (o : Offered x.sender.arrived q) (written : eqb (called_by k x.sender.memory q).number 1 ≡ false) where
        abbrev c : Called
        c = called_by k x.sender.memory q

        abbrev a : Acted
        a = act_of (act_by k q) s

        words : Words a c
        words = call_words k rd (driven_by k begun ds) (link_end ds) sender_valid (calls_run ds) q o written

        then_waits : waits_words c.state ≡ send_words (waits_of a.sender)
        then_waits = waits_is a.sender c.state words.state

        before_waits : waits_words st ≡ send_words (waits_of s)
        before_waits = waits_is s st (calls_run ds).sender.state

        after_is : sends_shown (waits_words c.state) (report_of c ∷ x.sender.reports) ≡ counted_of (waits_of a.sender) (reported a ∷ h)
        after_is =
            ap (λ (ws : List ℕ). sends_shown ws (report_of c ∷ x.sender.reports)) then_waits
            ∙ sends_shown_lem (waits_of a.sender) (each_more {y = reported a} (call_showed k rd (driven_by k begun ds) (link_end ds) sender_valid (calls_run ds) q o) (calls_run ds).sender.reports)

        named : (m : Option SequenceNumber) → waits_of a.sender ≡ m → (waits_words c.state ≡ send_words_of c) ⊎ ((waits_words c.state ≡ 0 ∷ 0 ∷ []) ⊎ (waits_words c.state ≡ waits_words st))
        named None z = inr (inl (then_waits ∙ ap send_words z))
        named (Some m) z = go (sends_at_once l rd remains only e state run (act_by k q) m z)
          where
            go : (a.send ≡ Some m) ⊎ (waits_of s ≡ Some m) → (waits_words c.state ≡ send_words_of c) ⊎ ((waits_words c.state ≡ 0 ∷ 0 ∷ []) ⊎ (waits_words c.state ≡ waits_words st))
            go (inl y) = inl (then_waits ∙ ap send_words (z ∙ sym y) ∙ sym words.send)
            go (inr y) = inr (inr (then_waits ∙ ap send_words (z ∙ sym y) ∙ sym before_waits))

        names_waiting : (m : Option SequenceNumber) → a.send ≡ m → (send_words_of c ≡ 0 ∷ 0 ∷ []) ⊎ (send_words_of c ≡ waits_words c.state)
        names_waiting None z = inl (words.send ∙ ap send_words z)
        names_waiting (Some m) z = inr (words.send ∙ ap send_words (z ∙ sym (named_waits l rd remains only e state run (act_by k q) m z)) ∙ sym then_waits)

        sent_again : eqb c.number 0 ≡ true → falls_due (act_by k q) ≡ true → abandoned_word c ≡ false → (send_words_of c ≡ waits_words st) × (waits_words c.state ≡ waits_words st)
        sent_again done d u =
            let taken = sym (call_number k rd (driven_by k begun ds) (link_end ds) sender_valid (calls_run ds) q o) ∙ eqb-true c.number 0 done in
            let t = due_sends s (act_by k q) d taken (sym words.abandons ∙ u) in
            (words.send ∙ ap send_words t.send ∙ sym before_waits, then_waits ∙ ap send_words t.waits ∙ sym before_waits)

        -- ---- the circuit goes on
        closed_word : eqb (waits_word c.state) 0 ≡ not (is_open a.sender.waiting)
        closed_word = ap (λ (ws : List ℕ). eqb (get_or ws 5 0) 0) words.state.is ∙ word_closed a.sender.waiting

        open_before : eqb (waits_word st) 0 ≡ false → is_open s.waiting ≡ true
        open_before z =
            sym (twice (is_open s.waiting)) ∙ ap not (sym (ap (λ (ws : List ℕ). eqb (get_or ws 5 0) 0) (calls_run ds).sender.state.is ∙ word_closed s.waiting) ∙ z)

        unfrozen_then : frozen_word c.state ≡ 0 → a.sender.persisted.frozen ≡ false
        unfrozen_then z = flag_off a.sender.persisted.frozen (sym (ap (λ (ws : List ℕ). get_or ws 4 0) words.state.is) ∙ z)

        not_abandoned : is_open a.sender.waiting ≡ true → (b : Bool) → is_abandoned a.event ≡ b → b ≡ false
        not_abandoned z true y = not_both (sym z ∙ abandoned_closes s sender_valid (act_by k q) y)
        not_abandoned z false y = refl

        by_event : frozen_word c.state ≡ 0 → (is_open a.sender.waiting ≡ true) ⊎ ((is_abandoned a.event ≡ true) ⊎ (a.sender.persisted.frozen ≡ true))
            → eqb (waits_word c.state) 0 ≡ abandoned_word c
        by_event u (inl z) = closed_word ∙ ap not z ∙ sym (words.abandons ∙ not_abandoned z (is_abandoned a.event) refl)
        by_event u (inr (inl z)) = closed_word ∙ ap not (abandoned_closes s sender_valid (act_by k q) z) ∙ sym (words.abandons ∙ z)
        by_event u (inr (inr z)) = not_both (sym z ∙ unfrozen_then u)

        abbrev GoesOn : Type 0
        GoesOn = keeps_circuit q ≡ true → eqb (waits_word st) 0 ≡ false → eqb (waits_word c.state) 0 ≡ abandoned_word c

        report_is : GoesOn → Reported k x.sender q c
        report_is goes =
            let t = words in
            record {
              sends =
                  t.sends
                  ∙ reports l rd remains only e state run (act_by k q)
                  ∙ ap (λ (b : Bool). cond b (counted_of (waits_of s) h) (counted_of (waits_of a.sender) (reported a ∷ h))) (sym t.abandons)
                  ∙ ap (λ (i : ℕ). cond (abandoned_word c) i (counted_of (waits_of a.sender) (reported a ∷ h))) (sym before_is)
                  ∙ ap (λ (i : ℕ). cond (abandoned_word c) (sends_shown (waits_words st) x.sender.reports) i) (sym after_is);
              abandons =
                  t.abandons
                  ∙ abandons_exactly l rd remains only e state run (act_by k q) (due_resends k q)
                  ∙ ap (λ (i : ℕ). falls_due (act_by k q) && eqb i (l.resends + 1)) (sym before_is);
              names = names_waiting a.send refl;
              resends = sent_again;
              goes_on_lem = goes;
              at_once = named (waits_of a.sender) refl;
            }

      -- ---- every call of the sender's driver
      pub calls_report : (q : SenderCall) → Offered x.sender.arrived q → eqb (called_by k x.sender.memory q).number 1 ≡ false → Reported k x.sender q (called_by k x.sender.memory q)
      unfolding driven_by
      calls_report opening o w = report_is opening o w (λ p z. not_both (sym p))
      calls_report ending o w = report_is ending o w (λ p z. not_both (sym p))
      calls_report resetting o w = report_is resetting o w (λ p z. not_both (sym p))
      calls_report timing o w =
          report_is timing o w (λ p z. by_event timing o w (calls_safe (timer ∷ ds)).unfrozen (timer_on s sender_valid (open_before timing o w z) l.resends))
      calls_report (submitting limit d) o w =
          report_is (submitting limit d) o w
          (λ p z. by_event (submitting limit d) o w (calls_safe (submits limit d ∷ ds)).unfrozen (submit_on s sender_valid (open_before (submitting limit d) o w z) limit d))
      calls_report (taking v) o w =
          let i = at_index o in
          let taken = ap (λ (vs : List Shown). frozen_word (verdict_taken k x vs (others_at i.index x.sender.arrived)).sender.memory.state) (sym i.is) ∙ (calls_safe (takes i.index ∷ ds)).unfrozen in
          report_is (taking v) o w
          (λ p z. by_event (taking v) o w taken (block_on s sender_valid (open_before (taking v) o w z) l.resends (verdict_by (verdict_from v.number v.type)) v.content))

      -- where nothing waits on an open circuit, all that was submitted is delivered
      pub calls_idle : waits_word st ≡ 1 → delivered_word st ≡ last_word st
      calls_idle z =
          let is = (calls_run ds).sender.state.is in
          ap (λ (ws : List ℕ). get_or ws 1 0) is
          ∙ nothing_left_lem l rd remains only e state run (sym (waiting_is k rd (driven_by k begun ds) (link_end ds) sender_valid (calls_run ds)) ∙ ap waiting_of z)
          ∙ sym (ap (λ (ws : List ℕ). get_or ws 2 0) is)

      -- what a report named goes out, once the words are stored
      pub calls_send : (start : ℕ) (v : Named) (vs : List Named) → x.sender.named ≡ v ∷ vs → same (take 5 st) x.sender.stored ≡ true
          → start + need_of g (message_named k v) ≤ length x.sender.memory.block → 2 ≤ length x.sender.memory.written
          → (driven_by k begun (sends start ∷ ds)).forward.bytes ≡ x.forward.bytes ++ block_of g (code "D") (message_named k v)
      unfolding driven_by
      calls_send = named_goes_out k ag rd (driven_by k begun ds) (link_end ds) (standing ds) (calls_run ds)

      -- an accepted block is decided on by gmv_receiver_decide while no decision is open, and refused by 11 while one is
      pub calls_decide : (application t : ℕ) (a : Application) → application_from application ≡ Some a → is_type t ≡ true → (d : List ℕ) → is_open_word x.receiver.memory.state ≡ false
          → (decide_call application t d x.receiver.memory.state x.receiver.memory.decision).number ≡ 0
      calls_decide = decide_done k ag rd (driven_by k begun ds) (link_end ds) (standing ds) (calls_run ds)

      pub calls_held : (application t : ℕ) (a : Application) → application_from application ≡ Some a → is_type t ≡ true → (d : List ℕ) → is_open_word x.receiver.memory.state ≡ true
          → decide_call application t d x.receiver.memory.state x.receiver.memory.decision ≡ called 11 x.receiver.memory.state [] x.receiver.memory.decision
      calls_held = decide_held k ag rd (driven_by k begun ds) (link_end ds) (standing ds) (calls_run ds)

      -- the open decision is reported by gmv_*_answer, where the buffer has the stated length
      pub calls_answer : is_open_word x.receiver.memory.state ≡ true → (success : Bool) (start : ℕ) → start + reply_space g ≤ length x.receiver.memory.reply
          → (answer_on k success start x.receiver.memory).number ≡ 0
      calls_answer = answer_done k ag rd (driven_by k begun ds) (link_end ds) (standing ds) (calls_run ds)

      -- a driver that does not store a decision that changes nothing does as one that stores it
      pub calls_unchanged : is_open_word x.receiver.memory.state ≡ true → x.receiver.reports ≡ false → x.receiver.noted.changes ≡ 0
          → (x.receiver.noted.expected ∷ [] ≡ x.receiver.stored) × (with_transaction x.receiver.stored_has x.receiver.noted ≡ x.receiver.stored_has)
      calls_unchanged = stores_nothing k ag rd (driven_by k begun ds) (link_end ds) (standing ds) (calls_run ds)

      -- ---- the two drivers change circuit at different moments
      module _ (r q : ReaderMemory) (readable : (enough_to_read g r && enough_to_read g q) ≡ true) (closed : waits_word st ≡ 0) (ss rs : List DriverAct) (own : all_of of_sender ss ≡ true)
          (others : all_of of_receiver rs ≡ true) where
        opening_done : eqb (open_call x.sender.memory.state x.sender.memory.report).number 0 ≡ true
        opening_done = eq-eqb (open_call x.sender.memory.state x.sender.memory.report).number 0 (calls_taken opening refl (eq-eqb (waits_word st) 0 closed))

        -- when the receiver's has gone over too
        pub calls_apart : DriversSafe l (opens_apart k r q x ss rs)
        calls_apart =
            subst (DriversSafe l) (sym (apart_is k r q (driven_by k begun ds) readable opening_done ss rs own others ∙ driven_join k begun ds (ss ++ opens r q ∷ rs))) (calls_safe ((ss ++ opens r q ∷ rs) ++ ds))

        -- and before it has
        pub calls_meanwhile : DriversSafe l (with_receiver (driven_by k x rs).receiver (driven_by k (after_driver k (opens r q) x) ss))
        calls_meanwhile = safe_with (driven_by k x rs).receiver (opens_apart k r q x ss rs) refl calls_apart

      -- and where the receiver's goes over first: before the sender's opens, and then
      pub calls_first : (p : ReaderMemory) → DriversSafe l (with_receiver (gone_over p x.receiver) x)
      calls_first p = safe_with (gone_over p x.receiver) (driven_by k begun ds) refl (calls_safe ds)

      -- "An intact answer to the waiting transaction, read before that, moves the mark.": the driver acts on an accepted data block whose MSA-2 is the number of the transaction that waits
      module _ (i : ℕ) (v : Shown) (vs : List Shown) (shows : one_at i x.sender.arrived ≡ v ∷ vs) (accepted : v.number ≡ 0) (kind : v.type ≡ code "D") (waits : waits_word st ≡ 4)
          (own : bytes_of (answer_field 2 v.content) v.content ≡ text_of (Number (delivered_word st + 1))) where
        moves : Front (SameVerdict g) v vs (one_at i (link_end ds).sending.arrived) → delivered_word (driven_by k begun (takes i ∷ ds)).sender.memory.state ≡ delivered_word st + 1
        unfolding link_run
        moves (front j js q is rest) =
            let held = ap (λ (ws : List ℕ). get_or ws 1 0) (calls_run ds).sender.state.is in
            let verdict = accepted_data j.verdict is.given (ap (λ (z : Shown). z.number) (sym is.is) ∙ accepted) (ap (λ (z : Shown). z.type) (sym is.is) ∙ kind) in
            let content = ap (λ (z : Shown). z.content) is.is in
            ap (λ (ws : List ℕ). get_or ws 1 0) (calls_run (takes i ∷ ds)).sender.state.is
            ∙ answer_moves l rd remains only e state run i j js q verdict.size verdict.is
            (sym (waiting_is k rd (driven_by k begun ds) (link_end ds) sender_valid (calls_run ds)) ∙ ap waiting_of waits)
            (ap (λ (d : List ℕ). bytes_of (answer_field 2 d) d) (sym content) ∙ own ∙ ap (λ (d : ℕ). text_of (Number (d + 1))) held)
            ∙ ap (λ (d : ℕ). d + 1) (sym held)

        pub calls_move : delivered_word (driven_by k begun (takes i ∷ ds)).sender.memory.state ≡ delivered_word st + 1
        calls_move = moves (each_front (subst (λ (us : List Shown). Each (SameVerdict g) us (one_at i (link_end ds).sending.arrived)) shows (each_one i (calls_run ds).sender.arrived)))

    -- where the receiver's driver is on the new circuit first: what it then reports, and replies there, comes after the opening all the same
    pub calls_later : (ds ss rs : List DriverAct) (r q : ReaderMemory) → (enough_to_read g r && enough_to_read g q) ≡ true → all_of of_sender ss ≡ true → all_of of_receiver rs ≡ true
        → waits_word (driven_by k (driven_by k begun ds) ss).sender.memory.state ≡ 0 → DriversSafe l (opens_later k r q (driven_by k begun ds) ss rs)
    unfolding driven_by
    calls_later ds ss rs r q readable own others none =
        let x = driven_by k begun ds in
        let y = driven_by k x ss in
        let same = driven_join k begun ds ss in
        let waits = subst (λ (z : Drivers). waits_word z.sender.memory.state ≡ 0) same none in
        let done : eqb (open_call y.sender.memory.state y.sender.memory.report).number 0 ≡ true =
        subst (λ (z : Drivers). eqb (open_call z.sender.memory.state z.sender.memory.report).number 0 ≡ true) (sym same)
        (eq-eqb (open_call (driven_by k begun (ss ++ ds)).sender.memory.state (driven_by k begun (ss ++ ds)).sender.memory.report).number 0
        (calls_taken (ss ++ ds) opening refl (eq-eqb (waits_word (driven_by k begun (ss ++ ds)).sender.memory.state) 0 waits))) in
        subst (DriversSafe l)
        (sym (later_is k r q y readable done x (senders_leave k x ss own) rs others
        ∙ ap (λ (z : Drivers). driven_by k (after_driver k (opens r q) z) rs) same
        ∙ opened_join rs (ss ++ ds) r q))
        (calls_safe (rs ++ opens r q ∷ (ss ++ ds)))
      where
        opened_join : (rs es : List DriverAct) (r q : ReaderMemory) → driven_by k (after_driver k (opens r q) (driven_by k begun es)) rs ≡ driven_by k begun (rs ++ opens r q ∷ es)
        opened_join rs es r q = driven_join k begun (opens r q ∷ es) rs
