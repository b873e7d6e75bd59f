-- Whatever has been lost, damaged or cut off: from every moment of every run there is a continuation that delivers all that was submitted and stored.
use Rattle.std.specs.Prelude.{Option, Some, None, Ok}
use mathlib.Core.Path.{◌≡◌, refl, sym, ap, ◌∙◌, subst}
use mathlib.Core.List.{List, [], ◌∷◌, ◌++◌}
use mathlib.Core.Bool.{Bool, true, false, cond}
use mathlib.Core.Logic.{◌⊎◌, inl, inr}
use Prim.Native.Nat.{ℕ, zero, suc, ◌+◌, ◌≤◌, ◌<◌, ◌-◌}
use native.Mathlib.Omega.{arith}
use native.Mathlib.Decide.{dec_le}
use borrow.Author.Tests.{eq-eqb}
use Rattle.numbers.specs.Numbers.{greatest_sent}
use Rattle.numbers.specs.declared.SequenceNumber.TheVariants.{MinusOne, Number}
use Rattle.header.specs.declared.Code.TheVariants.{AA}
use Rattle.receiver.specs.Receiver.{valid_expected, expected_number, row}
use Rattle.receiver.specs.declared.Application.{Application}
use Rattle.sender.specs.Sender.{answer_of, answer_query, proceeds, freezes, resynchronized_of, delivered_of}
use Rattle.sender.specs.declared.Persisted.{Persisted}
use Rattle.sender.specs.declared.Waiting.TheVariants.{Closed, Querying}
use Rattle.sender.specs.declared.Event.{Event}
use Rattle.sender.specs.declared.Event.TheVariants.{NoEvent, DeliveredUnknown}
use Rattle.link.specs.SenderActs.{sender_at, after_crash}
use Rattle.link.specs.Duties.{every}
use Rattle.link.specs.SenderHistory.{crashed}
use Rattle.link.specs.Line.{empty_line}
use Rattle.link.specs.System.{Link, System, Stored, stored, link, Remains, nothing_left, beginning, start_of, request_of, SystemAct, sender_crashes, receiver_crashes, after_act, run_of}
use Rattle.link.specs.Promise.{Ready, OnlyAnswers, transactions}
use Rattle.link.proofs.ReceiverInvariant.{expects_none, expects_next}
use Rattle.link.proofs.Facts.{not_both, either}
use Rattle.link.proofs.Early.{Standing}
use Rattle.link.proofs.Safety.{none_left_lem, run_stands}
use Rattle.link.proofs.Queues.{Side, side}
use Rattle.link.proofs.Books.{books, Core, Expects, old, unknown, next, crash_receiver, crash_sender}
use Rattle.link.proofs.Sending.{query_same, query_moved}
use Rattle.link.proofs.Messages.{transaction_is}
use Rattle.receiver.proofs.Rows.{expected_answerable}
use Rattle.link.proofs.RequestsRead.{none_answerable, minus_row, zero_row, transactions_more}
use Rattle.link.proofs.Runs.{Reaches, act, join}
use Rattle.link.proofs.Exchange.{sending_at, receiving_at}
use Rattle.link.proofs.Progress.{submitted-all, Stage, first_stage, next_stage}

module _ (l : Link) (rd : Ready l) (a : Application) (y : System) where
  record Delivering (total n : ℕ) : Type 0 where
    p : Persisted
    x : Stored
    stage : Stage l rd y p x
    first : p.first ≡ l.first
    unfrozen : p.frozen ≡ false
    synchronized : p.resynchronized ≡ true
    reached : p.delivered + 1 ≡ l.first + n
    last : p.last + 1 ≡ l.first + total
    expected : (x.expected ≡ None) ⊎ (x.expected ≡ Some (p.delivered + 1))
    fits : valid_expected x.expected ≡ true
    has : x.has ≡ transactions l n

  step : (total n : ℕ) → l.first + total ≤ greatest_sent + 1 → n < total → Delivering total n → Delivering total (suc n)
  step total n h m t =
      let q = t.p in
      let r = t.reached in
      let k = t.last in
      let g = rd.first_least in
      record {
        p = delivered_of q;
        x = stored (Some (q.delivered + 1 + 1)) (t.x.has ++ request_of l (Number (q.delivered + 1)) ∷ []);
        stage = next_stage l rd a y q t.x t.stage t.first t.unfrozen t.synchronized (omega arith) (omega arith) (omega arith) t.expected t.fits;
        first = t.first;
        unfrozen = t.unfrozen;
        synchronized = t.synchronized;
        reached = omega arith;
        last = k;
        expected = inr refl;
        fits = expects_next (q.delivered + 1 + 1) (omega arith) (omega arith);
        has = transactions_more l n (request_of l (Number (q.delivered + 1))) t.x.has t.has (transaction_is l rd (q.delivered + 1) (omega arith) ∙ ap l.log r);
      }

  all_from : (total : ℕ) → l.first + total ≤ greatest_sent + 1 → (k n : ℕ) → n + k ≡ total → Delivering total n → Delivering total total
  all_from total h zero n e t = subst (Delivering total) (let z : n ≡ total = omega arith in z) t
  all_from total h (suc k) n e t = all_from total h k (suc n) (omega arith) (step total n h (omega arith) t)

  -- ---- from where the run is
  module _ (i : Standing l y) where
    abbrev q : Persisted
    q = y.sending.persisted

    abbrev d : Stored
    d = y.receiving.persisted

    abbrev count : ℕ
    count = i.way.persisted.count

    abbrev total : ℕ
    total = q.last + 1 - l.first

    abbrev reached : Side
    reached = side d.expected (l.first + count) i.way.persisted.old

    -- both ends crash
    core : Core l.first (books y.sending.persisted y.sending.persisted Closed [] reached reached [] [] [])
    core = crash_sender (crash_receiver i.core)

    here : Reaches l y (link (sending_at (after_crash y.sending.persisted) [] (crashed ∷ y.sending.history)) (receiving_at y.receiving.persisted [] []) empty_line empty_line)
    here = join l (act l receiver_crashes y) (act l sender_crashes (after_act every l receiver_crashes y))

    total_is : l.first + (y.sending.persisted.last + 1 - l.first) ≡ y.sending.persisted.last + 1
    total_is = let n = core.numbers in omega arith

    -- the first exchange goes on with p, and the receiver has what it had
    begun : (p : Persisted) (e : Option ℕ) → Stage l rd y p (stored e d.has) → p.first ≡ l.first → p.frozen ≡ false → p.resynchronized ≡ true
        → p.delivered + 1 ≡ l.first + count → p.last ≡ q.last
        → (e ≡ None) ⊎ (e ≡ Some (p.delivered + 1)) → valid_expected e ≡ true → Delivering total count
    begun p e s f u r c m x v =
        let t = total_is in
        record { p = p; x = stored e d.has; stage = s; first = f; unfrozen = u; synchronized = r; reached = c; last = omega arith; expected = x; fits = v; has = i.ends.persisted.has }

    resynchronizes : q.resynchronized ≡ false → Delivering total count
    resynchronizes z =
        let n = core.numbers in
        let b = core.forward.start z in
        begun (resynchronized_of q) None
        (first_stage l rd a y q (crashed ∷ y.sending.history) d [] i.ends.persisted.valid i.ends.persisted_valid core.senders.unfrozen here false z
        (row AA MinusOne None None) (minus_row a d.expected) none_answerable (resynchronized_of q) NoEvent refl refl)
        core.senders.first core.senders.unfrozen refl (omega arith) refl (inl refl) expects_none

    -- 0 is answered by what the receiver has persisted
    queried : q.resynchronized ≡ true → (p : Persisted) (ev : Event)
        → answer_of (sender_at q Querying 1) (Some AA) (Ok (expected_number d.expected)) ≡ proceeds p ev
        → p.first ≡ q.first → p.frozen ≡ q.frozen → p.resynchronized ≡ q.resynchronized
        → p.delivered + 1 ≡ l.first + count → p.last ≡ q.last → (d.expected ≡ None) ⊎ (d.expected ≡ Some (p.delivered + 1)) → Delivering total count
    queried z p ev e f u r c m x =
        begun p d.expected
        (first_stage l rd a y q (crashed ∷ y.sending.history) d [] i.ends.persisted.valid i.ends.persisted_valid core.senders.unfrozen here true z
        (row AA (expected_number d.expected) None d.expected) (zero_row a d.expected 0 refl)
        (expected_answerable d.expected i.ends.persisted.valid) p ev e refl)
        (f ∙ core.senders.first) (u ∙ core.senders.unfrozen) (r ∙ z) c m x i.ends.persisted.valid

    later : q.resynchronized ≡ true → Expects l.first reached → Delivering total count
    later z (old b c) = not_both (sym b ∙ core.receivers.synchronized z)
    later z (unknown b c x) =
        let n = core.numbers in
        let g = core.senders.first in
        queried z q NoEvent (ap (λ (m : Option ℕ). answer_query q AA (expected_number m)) x ∙ ap (λ (t : Bool). cond t (proceeds q NoEvent) (freezes q))
        (eq-eqb y.sending.persisted.delivered (y.sending.persisted.first - 1) (omega arith)))
        refl refl refl (omega arith) refl (inl x)
    later z (next b c x) = near (dec_le (l.first + count) (q.delivered + 1))
      where
        answers : answer_of (sender_at q Querying 1) (Some AA) (Ok (expected_number d.expected)) ≡ answer_query q AA (Number (l.first + count))
        answers = ap (λ (m : Option ℕ). answer_query q AA (expected_number m)) x

        near : Dec (l.first + count ≤ q.delivered + 1) → Delivering total count
        near (yes w) =
            let n = core.numbers in
            let same : l.first + count ≡ q.delivered + 1 = omega arith in
            queried z q NoEvent (answers ∙ query_same q (l.first + count) same) refl refl refl (omega arith) refl (inr (x ∙ ap Some same))
        near (no w) =
            let n = core.numbers in
            let same : l.first + count ≡ q.delivered + 1 + 1 = omega arith in
            queried z (delivered_of q) (DeliveredUnknown (q.delivered + 1)) (answers ∙ query_moved q (l.first + count) (omega arith) (omega arith)) refl refl refl (omega arith) refl
            (inr (x ∙ ap Some same))

    resumed : Delivering total count
    resumed = go (either q.resynchronized)
      where
        go : (q.resynchronized ≡ true) ⊎ (q.resynchronized ≡ false) → Delivering total count
        go (inl z) = later z core.receivers.stored_expects
        go (inr z) = resynchronizes z

    abbrev all : Delivering total total
    all = let n = core.numbers in let t = total_is in all_from total (omega arith) (total - count) count (omega arith) resumed

-- a run that ends with all that was stored as submitted stored in order at the receiver, and known and stored at the sender
pub record Delivers (l : Link) (y : System) (total : ℕ) : Type 0 where
  pub end : System
  pub run : Reaches l y end
  pub has : end.receiving.persisted.has ≡ transactions l total
  pub delivered : end.sending.persisted.delivered + 1 ≡ l.first + total

module _ (l : Link) (rd : Ready l) (a : Application) (e : Option ℕ) (v : valid_expected e ≡ true) where
  -- "whatever is lost, damaged or cut off", and whatever answers an earlier tenancy left
  pub resumes : (m : Remains) → OnlyAnswers m → (ds : List SystemAct)
      → Delivers l (run_of every l (beginning every l e m) ds) ((run_of every l (beginning every l e m) ds).sending.persisted.last + 1 - l.first)
  resumes m only ds =
      let y = run_of every l (beginning every l e m) ds in
      let t = all l rd a y (run_stands l rd m only e v ds) in
      record { end = _; run = t.stage.comes.run; has = t.has; delivered = t.reached }

  -- for every number of transactions there is a run that delivers all
  pub delivers : (n : ℕ) → l.first + n ≤ greatest_sent + 1 → Delivers l (start_of l e) n
  delivers n h =
      let s = submitted-all l rd e n h in
      let i = s.is in
      let r = resumes nothing_left none_left_lem s.run.acts in
      let last : (run_of every l (start_of l e) s.run.acts).sending.persisted.last ≡ s.last = ap (λ (z : System). z.sending.persisted.last) s.run.arrives in
      let total : (run_of every l (start_of l e) s.run.acts).sending.persisted.last + 1 - l.first ≡ n = omega arith in
      record {
        end = r.end;
        run = join l (record { acts = s.run.acts; arrives = refl }) r.run;
        has = r.has ∙ ap (transactions l) total;
        delivered = let k = r.delivered in omega arith;
      }
