-- The sender's driver sends, reads, acts on verdicts and crashes: each is a run of the link.
use mathlib.Core.Path.{◌≡◌, refl, sym, ap, ◌∙◌, subst}
use mathlib.Core.List.{List, [], ◌∷◌, ◌++◌, append_assoc, append-nil}
use mathlib.Core.Bool.{Bool, true, false, cond, ◌&&◌}
use Prim.Native.Nat.{ℕ, zero, suc, ◌+◌, ◌≤◌}
use Prim.Native.Char.{code}
use native.Mathlib.Omega.{arith}
use lib.ListN.{length, take, drop, get_or, take-append-drop}
use lib.Seq.{length-take-le}
use lib.Dec.{leb, eqb}
use borrow.Author.Tests.{leb-true, eq-eqb}
use Rattle.lists.specs.Bytes.{same, over}
use Rattle.lists.specs.Outcome.{Called}
use Rattle.lists.proofs.Tests.{and_left, and_right}
use Rattle.lists.proofs.Same.{same-is}
use Rattle.settings.specs.declared.Settings.{Settings}
use Rattle.block.specs.Format.{block_of}
use Rattle.numbers.specs.declared.SequenceNumber.{SequenceNumber}
use Rattle.stream.specs.Stream.{Judged, run}
use Rattle.writer.specs.Write.{need_of}
use Rattle.sender.specs.Sender.{block_read_of}
use Rattle.sender.specs.declared.Persisted.{Persisted}
use Rattle.sender_calls.specs.SenderCalls.{flag_word, persisted_words, block_call}
use Rattle.link.specs.SenderHistory.{crashed}
use Rattle.link.specs.Duties.{every, one_at, others_at}
use Rattle.link.specs.Line.{Reader, Line, line, empty_line, reads_byte, reader_after}
use Rattle.link.specs.System.{Link, System, SendingEnd, ReceivingEnd, SystemAct, sending, link, request_of, same_flag, same_persisted, request_written, answer_taken, sender_acted}
use Rattle.link.specs.System.{sender_writes, sender_forgets, sender_acts, sender_discards, sender_crashes, sender_reads, after_act, run_of}
use Rattle.link.specs.Promise.{Ready}
use Rattle.link.proofs.Queues.{All, all_head, all_right, Each, each_none, each_more, Front, front, each_front}
use Rattle.link.proofs.Messages.{Nameable, request_writable}
use Rattle.link.proofs.RequestsRead.{all_nameable}
use Rattle.link.proofs.Early.{Standing}
use Rattle.link.proofs.Runs.{run_join}
use Rattle.call_theorems.specs.Reading.{Shown, shown, used_bytes, new_verdict}
use Rattle.call_theorems.specs.Driver.{Passed, made_from, Named, SenderMemory, Drivers, drivers, sender_end, sender_memory, with_verdict, restarted, enough_to_read, enough_to_send, reader_past, line_past, after_reading, fresh_reader}
use Rattle.call_theorems.specs.Driver.{read_bytes, block_of_named, oldest_sent, verdict_taken, by_sender, after_driver, sends, forgets, reads, takes, drops, replaces, crashes}
use Rattle.call_theorems.specs.DriversRun.{repeated, once, goes_out, acts_of}
use Rattle.call_theorems.specs.DriversPromise.{Agrees, message_named}
use Rattle.call_theorems.proofs.Shows.{SameSend, SameVerdict, Shows, other_verdict}
use Rattle.call_theorems.proofs.Acting.{block_does}
use Rattle.call_theorems.proofs.Taking.{Took, brought, read_took}
use Rattle.call_theorems.proofs.Writing.{named_written, named_done, message_is}
use Rattle.call_theorems.proofs.Driving.{Goes, stays, by_act, settings_valid, fresh_enough, by_call, restored}

-- ---- the persisted words are stored
flags_same : (a b : Bool) → flag_word a ≡ flag_word b → same_flag a b ≡ true
flags_same true true e = refl
flags_same true false e = absurd (omega (arith, e))
flags_same false true e = absurd (omega (arith, e))
flags_same false false e = refl

words_same : (p q : Persisted) → persisted_words p ≡ persisted_words q → same_persisted p q ≡ true
words_same p q e =
    rw (
      eq-eqb p.first q.first (ap (λ (l : List ℕ). get_or l 0 0) e),
      eq-eqb p.delivered q.delivered (ap (λ (l : List ℕ). get_or l 1 0) e),
      eq-eqb p.last q.last (ap (λ (l : List ℕ). get_or l 2 0) e),
      flags_same p.resynchronized q.resynchronized (ap (λ (l : List ℕ). get_or l 3 0) e),
      flags_same p.frozen q.frozen (ap (λ (l : List ℕ). get_or l 4 0) e),
    )

-- ---- one of a list, and the others
pub each_one : {A B : Type 0} {R : A → B → Type 0} (n : ℕ) {xs : List A} {ys : List B} → Each R xs ys → Each R (one_at n xs) (one_at n ys)
unfolding one_at
each_one n each_none = each_none
each_one zero (each_more p ps) = each_more p each_none
each_one (suc n) (each_more p ps) = each_one n ps

pub each_others : {A B : Type 0} {R : A → B → Type 0} (n : ℕ) {xs : List A} {ys : List B} → Each R xs ys → Each R (others_at n xs) (others_at n ys)
unfolding others_at
each_others n each_none = each_none
each_others zero (each_more p ps) = ps
each_others (suc n) (each_more p ps) = each_more p (each_others n ps)

pub each_both : {A B : Type 0} {R : A → B → Type 0} {xs us : List A} {ys vs : List B} → Each R xs ys → Each R us vs → Each R (xs ++ us) (ys ++ vs)
each_both each_none q = q
each_both (each_more p ps) q = each_more p (each_both ps q)

-- the sender reads the first bytes on its line, one by one
repeated_end : (n : ℕ) (a : SystemAct) → repeated (suc n) a ≡ repeated n a ++ a ∷ []
unfolding repeated
repeated_end zero a = refl
repeated_end (suc n) a = ap (λ (ds : List SystemAct). a ∷ ds) (repeated_end n a)

pub repeated-run : (l : Link) (n : ℕ) (a : SystemAct) (y : System) → run_of every l y (repeated (suc n) a) ≡ run_of every l (after_act every l a y) (repeated n a)
unfolding run_of
repeated-run l n a y = ap (run_of every l y) (repeated_end n a) ∙ run_join l y (a ∷ []) (repeated n a)

answers_repeated : (l : Link) (xs ys : List ℕ) (r : Reader) (e : SendingEnd) (v : ReceivingEnd) (b : Line)
    → run_of every l (link e v b (line r (xs ++ ys))) (repeated (length xs) sender_reads)
    ≡ link (sending e.sender e.persisted e.named (e.arrived ++ run l.settings r.offset r.mode xs) e.history) v b (line (reader_past l.settings r xs) ys)
unfolding run reader_past repeated run_of
answers_repeated l [] ys r e v b =
    ap (λ (ws : List Judged). link (sending e.sender e.persisted e.named ws e.history) v b (line r ys)) (sym (append-nil e.arrived))
answers_repeated l (x ∷ xs) ys r e v b =
    let us = (reads_byte l.settings r x).says in
    let q = reader_after l.settings r x in
    repeated-run l (length xs) sender_reads (link e v b (line r (x ∷ xs ++ ys)))
    ∙ answers_repeated l xs ys q (sending e.sender e.persisted e.named (e.arrived ++ us) e.history) v b
    ∙ ap (λ (ws : List Judged). link (sending e.sender e.persisted e.named ws e.history) v b (line (reader_past l.settings q xs) ys))
    (append_assoc e.arrived us (run l.settings q.offset q.mode xs))

module _ (k : Passed) (ag : Agrees k) (rd : Ready k.link) (x : Drivers) (y : System) (i : Standing k.link y) (h : Shows k.link x y) where
  abbrev l : Link
  l = k.link

  abbrev g : Settings
  g = k.link.settings

  -- ---- sending
  module _ (start : ℕ) (n : Named) (ns : List Named) (v : SequenceNumber) (vs : List SequenceNumber) (queue : y.sending.named ≡ v ∷ vs) (is : SameSend n v) (rest : Each SameSend ns vs) where
    abbrev call : Called
    call = block_of_named k start x.sender.memory n

    nameable : Nameable l.first v
    nameable = all_head (all_right i.way.forward (v ∷ vs) (subst (λ (ms : List SequenceNumber). All (Nameable l.first) (i.way.forward ++ ms)) queue (all_nameable i.core)))

    abbrev sent : Drivers
    sent =
        let e = x.sender in
        let m = x.sender.memory in
        drivers (sender_end (sender_memory m.state m.report m.reader call.buffer call.report) e.stored ns e.arrived e.reports) x.receiver
        (line x.forward.reader (x.forward.bytes ++ take (get_or call.report 0 0) (drop start call.buffer))) x.back

    abbrev written : System
    written =
        link (sending y.sending.sender y.sending.persisted vs y.sending.arrived y.sending.history) y.receiving
        (line y.forward.reader (y.forward.bytes ++ block_of g (code "D") (request_of l v))) y.back

    written_is : same_persisted y.sending.sender.persisted y.sending.persisted ≡ true → after_act every l (sender_writes 0) y ≡ written
    unfolding one_at others_at
    written_is s =
        ap (λ (ms : List SequenceNumber). request_written every l y (one_at 0 ms) (others_at 0 ms)) queue
        ∙ ap (λ (b : Bool). cond b written y) s

    sent_shows : eqb call.number 0 ≡ true → Shows l sent written
    sent_shows d =
        record {
          sender = record { state = h.sender.state; report = h.sender.report; stored = h.sender.stored; named = rest; arrived = h.sender.arrived; reports = h.sender.reports; reader = h.sender.reader };
          receiver = record {
            state = h.receiver.state;
            decision = h.receiver.decision;
            report = h.receiver.report;
            stored = h.receiver.stored;
            stored_has_lem = h.receiver.stored_has_lem;
            note = h.receiver.note;
            reports = h.receiver.reports;
            pending = h.receiver.pending;
            arrived = h.receiver.arrived;
            reader = record { stands = h.receiver.reader.stands; within = h.receiver.reader.within };
          };
          forward =
              ap (λ (bs : List ℕ). line x.forward.reader (x.forward.bytes ++ bs)) (named_written k ag rd start x.sender.memory n v is (request_writable l rd v nameable) d)
              ∙ ap (λ (z : Line). line z.reader (z.bytes ++ block_of g (code "D") (request_of l v))) h.forward;
          back = h.back;
        }

    one_sent : (b : Bool) → (eqb call.number 0 && same (take 5 x.sender.memory.state) x.sender.stored) ≡ b → Goes l (once b (sender_writes 0)) (cond b sent x) y
    one_sent false e = stays l x y h
    one_sent true e =
        let done = and_left (eqb call.number 0) (same (take 5 x.sender.memory.state) x.sender.stored) e in
        let words = same-is (take 5 x.sender.memory.state) x.sender.stored (and_right (eqb call.number 0) (same (take 5 x.sender.memory.state) x.sender.stored) e) in
        let kept = words_same y.sending.sender.persisted y.sending.persisted (sym (ap (take 5) h.sender.state.is) ∙ words ∙ h.sender.stored) in
        by_act l sent y (sender_writes 0) (subst (Shows l sent) (sym (written_is kept)) (sent_shows done))

    -- what is named and stored goes out, where the memory is long enough
    goes_out_lem : same (take 5 x.sender.memory.state) x.sender.stored ≡ true → start + need_of g (message_named k n) ≤ length x.sender.memory.block → 2 ≤ length x.sender.memory.written
        → (oldest_sent k start x (n ∷ ns)).forward.bytes ≡ x.forward.bytes ++ block_of g (code "D") (message_named k n)
    goes_out_lem e f p =
        let w = request_writable l rd v nameable in
        let done = eq-eqb call.number 0 (named_done k ag rd start x.sender.memory n v is w f p) in
        ap (λ (b : Bool). (cond b sent x).forward.bytes) (ap (λ (b : Bool). b && same (take 5 x.sender.memory.state) x.sender.stored) done ∙ e)
        ∙ ap (λ (bs : List ℕ). x.forward.bytes ++ bs) (named_written k ag rd start x.sender.memory n v is w done ∙ ap (block_of g (code "D")) (sym (message_is k ag rd start x.sender.memory n v is)))

  pub named_goes_out : (start : ℕ) (n : Named) (ns : List Named) → x.sender.named ≡ n ∷ ns → same (take 5 x.sender.memory.state) x.sender.stored ≡ true
      → start + need_of g (message_named k n) ≤ length x.sender.memory.block → 2 ≤ length x.sender.memory.written
      → (after_driver k (sends start) x).forward.bytes ≡ x.forward.bytes ++ block_of g (code "D") (message_named k n)
  named_goes_out start n ns q e f p =
      ap (λ (ms : List Named). (oldest_sent k start x ms).forward.bytes) q ∙ go (each_front (subst (λ (ms : List Named). Each SameSend ms y.sending.named) q h.sender.named))
    where
      go : Front SameSend n ns y.sending.named → (oldest_sent k start x (n ∷ ns)).forward.bytes ≡ x.forward.bytes ++ block_of g (code "D") (message_named k n)
      go (front v vs z is rest) = goes_out_lem start n ns v vs z is rest e f p

  pub sends_goes : (start : ℕ) → Goes l (acts_of k (sends start) x) (after_driver k (sends start) x) y
  sends_goes start = go x.sender.named h.sender.named
    where
      named : (n : Named) (ns : List Named) → Front SameSend n ns y.sending.named → Goes l (once (goes_out k start x (n ∷ ns)) (sender_writes 0)) (oldest_sent k start x (n ∷ ns)) y
      named n ns (front v vs q is rest) = one_sent start n ns v vs q is rest (eqb (block_of_named k start x.sender.memory n).number 0 && same (take 5 x.sender.memory.state) x.sender.stored) refl

      go : (ns : List Named) → Each SameSend ns y.sending.named → Goes l (once (goes_out k start x ns) (sender_writes 0)) (oldest_sent k start x ns) y
      go [] e = stays l x y h
      go (n ∷ ns) e = named n ns (each_front e)

  pub forgets_goes : (n : ℕ) → Goes l (sender_forgets n ∷ []) (after_driver k (forgets n) x) y
  forgets_goes n =
      by_act l (after_driver k (forgets n) x) y (sender_forgets n)
      (record {
        sender = record {
          state = h.sender.state;
          report = h.sender.report;
          stored = h.sender.stored;
          named = each_others n h.sender.named;
          arrived = h.sender.arrived;
          reports = h.sender.reports;
          reader = h.sender.reader;
        };
        receiver = h.receiver;
        forward = h.forward;
        back = h.back;
      })

  -- ---- reading
  module _ (u : ℕ) where
    abbrev read_end : System
    read_end =
        let e = y.sending in
        link (sending e.sender e.persisted e.named (e.arrived ++ brought g u y.back) e.history) y.receiving y.forward (line_past g u y.back)

    answers_run : u ≤ length y.back.bytes → run_of every l y (repeated u sender_reads) ≡ read_end
    answers_run most =
        let e = y.sending in
        let b = y.back in
        ap (λ (n : ℕ). run_of every l y (repeated n sender_reads)) (sym (length-take-le u b.bytes most))
        ∙ ap (λ (bs : List ℕ). run_of every l (link e y.receiving y.forward (line b.reader bs)) (repeated (length (take u b.bytes)) sender_reads)) (sym (take-append-drop u b.bytes))
        ∙ answers_repeated l (take u b.bytes) (drop u b.bytes) b.reader e y.receiving y.forward

  module _ (n : ℕ) where
    abbrev reading : Called
    reading = read_bytes k.numbers n x.sender.memory.reader x.back

    abbrev used : ℕ
    used = used_bytes reading

    abbrev read_by : Drivers
    read_by =
        let e = x.sender in
        let m = x.sender.memory in
        drivers (sender_end (sender_memory m.state m.report (after_reading reading) m.block m.written) e.stored e.named (e.arrived ++ new_verdict reading) e.reports) x.receiver
        x.forward (line_past g used x.back)

    read_shows : Took g x.back reading → Shows l read_by (read_end used)
    read_shows t =
        record {
          sender = record {
            state = h.sender.state;
            report = h.sender.report;
            stored = h.sender.stored;
            named = h.sender.named;
            arrived = each_both h.sender.arrived (subst (λ (z : Line). Each (SameVerdict g) (new_verdict reading) (brought g used z)) h.back t.shows);
            reports = h.sender.reports;
            reader = t.stands;
          };
          receiver = h.receiver;
          forward = h.forward;
          back = ap (line_past g used) h.back;
        }

    pub reads_goes : Goes l (acts_of k (reads n) x) (after_driver k (reads n) x) y
    reads_goes = go (eqb reading.number 0) refl
      where
        go : (b : Bool) → eqb reading.number 0 ≡ b → Goes l (cond b (repeated used sender_reads) []) (cond b read_by x) y
        go false e = stays l x y h
        go true e =
            let t = read_took g (settings_valid k ag rd) x.sender.memory.reader x.back h.sender.reader n (made_from k.numbers) ag.settings e in
            record {
              shows =
                  subst (Shows l read_by) (sym (answers_run used (subst (λ (z : Line). used ≤ length z.bytes) h.back t.used)))
                  (read_shows t);
            }

  -- ---- acting on a verdict
  pub takes_goes : (n : ℕ) → Goes l (sender_acts n ∷ []) (after_driver k (takes n) x) y
  takes_goes n = go (one_at n x.sender.arrived) (one_at n y.sending.arrived) refl (each_one n h.sender.arrived)
    where
      by : (vs : List Judged) → one_at n y.sending.arrived ≡ vs → after_act every l (sender_acts n) y ≡ answer_taken l y vs (others_at n y.sending.arrived)
      by vs e = ap (λ (us : List Judged). answer_taken l y us (others_at n y.sending.arrived)) e

      go : (ws : List Shown) (vs : List Judged) → one_at n y.sending.arrived ≡ vs → Each (SameVerdict g) ws vs → Goes l (sender_acts n ∷ []) (verdict_taken k x ws (others_at n x.sender.arrived)) y
      go [] vs e each_none = by_act l x y (sender_acts n) (subst (Shows l x) (sym (by [] e)) h)
      go (w ∷ ws) [] e i = elim i [ ]
      go (w ∷ ws) (v ∷ vs) e (each_more p ps) =
          let s = y.sending.sender in
          let st = x.sender.memory.state in
          let r = x.sender.memory.report in
          let a = block_read_of l.resends s v.verdict v.content in
          by_act l (verdict_taken k x (w ∷ ws) (others_at n x.sender.arrived)) y (sender_acts n)
          (subst (λ (z : System). Shows l (verdict_taken k x (w ∷ ws) (others_at n x.sender.arrived)) z) (sym (by (v ∷ vs) e))
          (subst (λ (z : Shown). Shows l (by_sender x (others_at n x.sender.arrived) (block_call l.resends z.number z.type z.content st r)) (sender_acted y (others_at n y.sending.arrived) a)) (sym p.is)
          (by_call k ag rd x y i h a (block_call l.resends (shown g v).number (shown g v).type v.content st r) (others_at n x.sender.arrived) (others_at n y.sending.arrived)
          (block_does s i.ends.valid st r h.sender.state h.sender.report l.resends rd.resends v.verdict v.content p.given)
          (each_others n h.sender.arrived))))

  pub drops_goes : (n : ℕ) → Goes l (sender_discards n ∷ []) (after_driver k (drops n) x) y
  drops_goes n =
      by_act l (after_driver k (drops n) x) y (sender_discards n)
      (record {
        sender = record {
          state = h.sender.state;
          report = h.sender.report;
          stored = h.sender.stored;
          named = h.sender.named;
          arrived = each_others n h.sender.arrived;
          reports = h.sender.reports;
          reader = h.sender.reader;
        };
        receiver = h.receiver;
        forward = h.forward;
        back = h.back;
      })

  -- ---- other memory: the link stays
  pub replaces_goes : (p v b w : List ℕ) → Goes l [] (after_driver k (replaces p v b w) x) y
  replaces_goes p v b w = go (leb 8 (length p) && leb 8 (length v)) refl
    where
      go : (c : Bool) → (leb 8 (length p) && leb 8 (length v)) ≡ c
          → Goes l [] (cond c (drivers (sender_end (sender_memory x.sender.memory.state p (with_verdict v x.sender.memory.reader) b w) x.sender.stored x.sender.named x.sender.arrived x.sender.reports) x.receiver x.forward x.back) x) y
      go false e = stays l x y h
      go true e =
          stays l _ y
          (record {
            sender = record {
              state = h.sender.state;
              report = leb-true 8 (length p) (and_left (leb 8 (length p)) (leb 8 (length v)) e);
              stored = h.sender.stored;
              named = h.sender.named;
              arrived = h.sender.arrived;
              reports = h.sender.reports;
              reader = other_verdict g x.sender.memory.reader x.back h.sender.reader v (leb-true 8 (length v) (and_right (leb 8 (length p)) (leb 8 (length v)) e));
            };
            receiver = h.receiver;
            forward = h.forward;
            back = h.back;
          })

  -- ---- a crash: the memory is new
  pub crashes_goes : (m : SenderMemory) → Goes l (acts_of k (crashes m) x) (after_driver k (crashes m) x) y
  crashes_goes m = go (enough_to_send g m) refl
    where
      go : (b : Bool) → enough_to_send g m ≡ b
          → Goes l (once b sender_crashes) (cond b (drivers (sender_end (sender_memory (over m.state (x.sender.stored ++ 0 ∷ 0 ∷ [])) m.report (fresh_reader m.reader) m.block m.written) x.sender.stored [] [] (restarted ∷ x.sender.reports)) x.receiver
          (line x.forward.reader []) empty_line) x) y
      go false e = stays l x y h
      go true e =
          let states = leb 7 (length m.state) in
          let reports = leb 8 (length m.report) in
          let rest = and_right states (reports && enough_to_read g m.reader) e in
          by_act l _ y sender_crashes
          (record {
            sender = record {
              state = restored k ag rd x y i h m.state (leb-true 7 (length m.state) (and_left states (reports && enough_to_read g m.reader) e));
              report = leb-true 8 (length m.report) (and_left reports (enough_to_read g m.reader) rest);
              stored = h.sender.stored;
              named = each_none;
              arrived = each_none;
              reports = each_more {x = restarted} {y = crashed} refl h.sender.reports;
              reader = fresh_enough k ag rd m.reader (and_right reports (enough_to_read g m.reader) rest);
            };
            receiver = record {
              state = h.receiver.state;
              decision = h.receiver.decision;
              report = h.receiver.report;
              stored = h.receiver.stored;
              stored_has_lem = h.receiver.stored_has_lem;
              note = h.receiver.note;
              reports = h.receiver.reports;
              pending = h.receiver.pending;
              arrived = h.receiver.arrived;
              reader = record { stands = h.receiver.reader.stands; within = h.receiver.reader.within };
            };
            forward = ap (λ (z : Line). line z.reader []) h.forward;
            back = refl;
          })
