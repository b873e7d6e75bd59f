-- The protocol makes progress: for every number of transactions there is a run that delivers all.
use Rattle.std.specs.Prelude.{Option, Some, None, Ok}
use mathlib.Core.Path.{◌≡◌, refl, sym, ap, ◌∙◌, subst}
use mathlib.Core.List.{List, [], ◌∷◌, ◌++◌}
use mathlib.Core.Bool.{Bool, true, false, cond, not, ◌&&◌}
use mathlib.Core.Logic.{◌⊎◌, inl, inr}
use Prim.Native.Nat.{ℕ, zero, suc, ◌+◌, ◌≤◌, ◌<◌, ◌-◌}
use native.Mathlib.Omega.{arith}
use lib.ListN.{length}
use lib.Dec.{leb}
use borrow.Author.Tests.{le-leb, lt-ltb, eq-eqb}
use Rattle.lists.specs.Bytes.{same}
use Rattle.settings.specs.Settings.{valid_link_limit}
use Rattle.settings.proofs.Laws.{valid_limit}
use Rattle.settings.specs.DataBytes.{all_allowed, first_forbidden}
use Rattle.fields.specs.Fields.{bytes_of}
use Rattle.numbers.specs.Numbers.{number_field, greatest_sent, text_of}
use Rattle.numbers.specs.declared.SequenceNumber.{SequenceNumber}
use Rattle.numbers.specs.declared.SequenceNumber.TheVariants.{MinusOne, Number}
use Rattle.header.specs.Header.{header_of, control_id_field, sequence_field}
use Rattle.messages.specs.Messages.{answerable}
use Rattle.receiver.specs.declared.Row.{Row}
use Rattle.message_theorems.proofs.Control.{control_header}
use Rattle.receiver.specs.Receiver.{valid_expected, application_code, stores as storing, row_of}
use Rattle.receiver.specs.declared.Application.{Application}
use Rattle.receiver.specs.declared.Application.TheVariants.{Accepts, Errs}
use Rattle.sender.specs.Sender.{valid_sender, is_open, waiting_message, acted, begins_to_wait, refused, open_of, answer_of, answer_transaction}
use Rattle.sender.specs.Sender.{proceeds, delivered_of, submitted, is_number, submitted_header, submit_of}
use Rattle.sender.specs.declared.Persisted.{Persisted}
use Rattle.sender.specs.declared.Waiting.{Waiting}
use Rattle.sender.specs.declared.Waiting.TheVariants.{Idle, Resynchronizing, Querying, Sending}
use Rattle.sender.specs.declared.Event.{Event}
use Rattle.sender.specs.declared.Event.TheVariants.{NoEvent, Delivered}
use Rattle.sender.specs.declared.Acted.{Acted}
use Rattle.link.specs.SenderActs.{sender_at, after_crash}
use Rattle.link.specs.Duties.{every}
use Rattle.link.specs.SenderHistory.{Entry, reported}
use Rattle.link.specs.Line.{empty_line}
use Rattle.link.specs.System.{Link, System, Stored, stored, link, start_of, request_of, named_after, circuit_opened, has_with, opens, submits, sender_persists, after_act}
use Rattle.link.specs.Promise.{Logged, Ready}
use Rattle.link.proofs.Facts.{not_both}
use Rattle.link.proofs.SenderValid.{numbers_of_lem, WaitsRight, right_from, right_valid}
use Rattle.link.proofs.Messages.{Nameable, minus, query, transaction, link-valid, link_limit}
use Rattle.lists.proofs.Same.{same_self}
use Rattle.link.proofs.RequestsRead.{number_answerable, unknown_row_lem, next_row}
use Rattle.link.proofs.Runs.{Reaches, stay, act, join, to}
use Rattle.link.proofs.Exchange.{resting, sending_at, receiving_at, quiet_at, Comes, exchange}

module _ (l : Link) (rd : Ready l) where
  answer_known : (p : Persisted) (a : Application)
      → answer_transaction p (application_code a) (Number (p.delivered + 1)) ≡ proceeds (delivered_of p) (Delivered (p.delivered + 1) (application_code a))
  answer_known p Accepts = rw (eq-eqb (p.delivered + 1) (p.delivered + 1) refl)
  answer_known p Errs = rw (eq-eqb (p.delivered + 1) (p.delivered + 1) refl)

  -- ---- a transaction is submitted without a circuit
  pub limit_valid_lem : valid_link_limit l.settings.data_limit ≡ true
  limit_valid_lem =
      rw (
        le-leb 1 l.settings.data_limit (let m = link_limit l.settings rd.settings in omega arith),
        le-leb 128 l.settings.data_limit (link_limit l.settings rd.settings),
        le-leb l.settings.data_limit 99994 (valid_limit l.settings (link-valid l.settings rd.settings)),
      )

  module _ (p : Persisted) (z : valid_sender (after_crash p) ≡ true) (unfrozen : p.frozen ≡ false) (low : l.first ≤ p.last + 1) (high : p.last + 1 ≤ greatest_sent) where
    abbrev message : List ℕ
    message = l.log (p.last + 1)

    logged : Logged l.settings (p.last + 1) (l.log (p.last + 1))
    logged = rd.logged (p.last + 1) low high

    takes : (is_number (p.last + 1) (number_field greatest_sent (bytes_of (sequence_field message) message))
        && same (bytes_of (control_id_field message) message) (text_of (Number (p.last + 1)))) ≡ true
    takes = rw (logged.reads.number_read, eq-eqb (p.last + 1) (p.last + 1) refl, logged.reads.id_read) (same_self (text_of (Number (p.last + 1))))

    pub submit_is : submit_of l.settings.data_limit (after_crash p) message ≡ acted (after_crash (submitted p)) None NoEvent
    unfolding submit_of
    submit_is =
        let limit = l.settings.data_limit in
        let s = after_crash p in
        let rest = cond (leb (length message) limit) (cond (all_allowed message) (submitted_header s message (header_of message)) (refused 3 (first_forbidden message) s)) (refused 4 0 s) in
        rw (limit_valid_lem, z)
        (ap (λ (b : Bool). cond (not b) rest (refused 11 0 s)) unfrozen
        ∙ rw (le-leb (length message) limit logged.fits, logged.allowed, control_header message (Number (p.last + 1)) logged.reads)
        (ap (λ (b : Bool). cond b (acted (after_crash (submitted p)) None NoEvent) (refused 10 0 s)) takes))

  -- ---- n transactions are submitted and persisted, before any circuit
  abbrev pub before : ℕ → Persisted
  before last = record { first = l.first; delivered = l.first - 1; last = last; resynchronized = false; frozen = false }

  before_valid : (last : ℕ) → l.first - 1 ≤ last → last ≤ greatest_sent → valid_sender (after_crash (before last)) ≡ true
  before_valid last a b =
      let c = rd.first_least in
      let d = rd.first_most in
      right_valid (after_crash (before last))
      (record { stored = numbers_of_lem c d (omega arith) a b (λ z. omega arith); waits = refl })

  pub record Submitted (e : Option ℕ) (n : ℕ) : Type 0 where
    pub last : ℕ
    pub is : last + 1 ≡ l.first + n
    pub history : List Entry
    pub run : Reaches l (start_of l e) (quiet_at (sending_at (after_crash (before last)) [] history) (stored e []) [] resting resting)

  pub submitted-all : (e : Option ℕ) (n : ℕ) → l.first + n ≤ greatest_sent + 1 → Submitted e n
  submitted-all e zero h = record { last = l.first - 1; is = let a = rd.first_least in omega arith; history = []; run = stay l (start_of l e) }
  submitted-all e (suc n) h =
      let t = submitted-all e n (omega arith) in
      let a = rd.first_least in
      let i = t.is in
      let y = quiet_at (sending_at (after_crash (before t.last)) [] t.history) (stored e []) [] resting resting in
      let next = submits l.settings.data_limit (l.log (t.last + 1)) in
      let k = submit_is (before t.last) (before_valid t.last (omega arith) (omega arith)) refl (omega arith) (omega arith) in
      record {
        last = t.last + 1;
        is = omega arith;
        history = reported (acted (after_crash (submitted (before t.last))) None NoEvent) ∷ t.history;
        run =
            join l t.run
            (join l (act l next y)
            (to l (act l sender_persists (after_act every l next y)) (ap (λ (x : Acted). quiet_at (sending_at x.sender (named_after [] x) (reported x ∷ t.history)) (stored e []) [] resting resting) k)));
      }

  -- ---- a stage: so many are delivered, and the next waits, or nothing does
  pub record Stage (y : System) (p : Persisted) (x : Stored) : Type 0 where
    pub event : Event
    pub history : List Entry
    pub comes : Comes l y (sending_at (proceeds p event).sender (named_after [] (proceeds p event)) history) x

  -- -1 or 0, which a new circuit sends first
  abbrev pub first_message : Bool → SequenceNumber
  first_message true = Number 0
  first_message false = MinusOne

  abbrev pub first_waiting : Bool → Waiting
  first_waiting true = Querying
  first_waiting false = Resynchronizing

  module _ (a : Application) (y : System) where
    -- ---- the first exchange of a circuit, from ends that have persisted all and hold nothing else
    module _ (q : Persisted) (hist : List Entry) (d : Stored) (m : List ℕ) (vd : valid_expected d.expected ≡ true) (z : valid_sender (after_crash q) ≡ true) (unfrozen : q.frozen ≡ false)
        (here : Reaches l y (link (sending_at (after_crash q) [] hist) (receiving_at d m []) empty_line empty_line)) where
      open_is : (b : Bool) → q.resynchronized ≡ b → open_of (after_crash q) ≡ begins_to_wait q (first_waiting b) NoEvent
      unfolding open_of
      open_is true e = rw (z, unfrozen, e)
      open_is false e = rw (z, unfrozen, e)

      opened : (b : Bool) → q.resynchronized ≡ b
          → Comes l y (sending_at (sender_at q (first_waiting b) 1) (first_message b ∷ []) (reported (begins_to_wait q (first_waiting b) NoEvent) ∷ hist)) d
      opened b e = record { message = m; far = resting; own = resting; run = go b (open_is b e) }
        where
          t : System
          t = link (sending_at (after_crash q) [] hist) (receiving_at d m []) empty_line empty_line

          go : (b : Bool) → open_of (after_crash q) ≡ begins_to_wait q (first_waiting b) NoEvent
              → Reaches l y (quiet_at (sending_at (sender_at q (first_waiting b) 1) (first_message b ∷ []) (reported (begins_to_wait q (first_waiting b) NoEvent) ∷ hist)) d m resting resting)
          go true i = join l here (to l (act l opens t) (ap (λ (x : Acted). circuit_opened every t x) i))
          go false i = join l here (to l (act l opens t) (ap (λ (x : Acted). circuit_opened every t x) i))

      waiting_valid : (b : Bool) → q.resynchronized ≡ b → valid_sender (sender_at q (first_waiting b) 1) ≡ true
      waiting_valid b e = right_valid (sender_at q (first_waiting b) 1) (record { stored = (right_from (after_crash q) z).stored; waits = go b e })
        where
          go : (b : Bool) → q.resynchronized ≡ b → WaitsRight q (first_waiting b) 1
          go true e = (record { unfrozen = unfrozen; synchronized = e }, record { some = omega arith; few = omega arith })
          go false e = (record { unfrozen = unfrozen; synchronized = e }, record { some = omega arith; few = omega arith })

      pub first_stage : (b : Bool) → q.resynchronized ≡ b → (r : Row) → row_of a d.expected (Ok (first_message b)) ≡ r
          → answerable r.number ≡ true → (p : Persisted) (ev : Event)
          → answer_of (sender_at q (first_waiting b) 1) (Some r.code) (Ok r.number) ≡ proceeds p ev → r.persisted.transaction ≡ None
          → Stage y p (stored r.persisted.expected d.has)
      first_stage b e r meets sayable p ev takes none =
          record {
            event = ev;
            history = reported (proceeds p ev) ∷ reported (begins_to_wait q (first_waiting b) NoEvent) ∷ hist;
            comes =
                subst (λ (t : Option ℕ). Comes l y (sending_at (proceeds p ev).sender (named_after [] (proceeds p ev))
                (reported (proceeds p ev) ∷ reported (begins_to_wait q (first_waiting b) NoEvent) ∷ hist)) (stored r.persisted.expected (has_with t (request_of l (first_message b)) d.has))) none
                (exchange l rd a (sender_at q (first_waiting b) 1) (first_message b) (waiting_valid b e) (is_open_lem b) (names b) (nameable b) d vd r meets sayable (proceeds p ev) takes
                (reported (begins_to_wait q (first_waiting b) NoEvent) ∷ hist) y (opened b e));
          }
        where
          is_open_lem : (b : Bool) → is_open (first_waiting b) ≡ true
          is_open_lem true = refl
          is_open_lem false = refl

          names : (b : Bool) → waiting_message q (first_waiting b) ≡ Some (first_message b)
          names true = refl
          names false = refl

          nameable : (b : Bool) → Nameable l.first (first_message b)
          nameable true = query refl
          nameable false = minus

    -- ---- the next transaction
    module _ (p : Persisted) (x : Stored) (st : Stage y p x) (first : p.first ≡ l.first) (unfrozen : p.frozen ≡ false) (synchronized : p.resynchronized ≡ true)
        (low : l.first ≤ p.delivered + 1) (more : p.delivered < p.last) (high : p.last ≤ greatest_sent)
        (expected : (x.expected ≡ None) ⊎ (x.expected ≡ Some (p.delivered + 1))) (vx : valid_expected x.expected ≡ true) where
      sending-valid : valid_sender (sender_at p Sending 1) ≡ true
      sending-valid =
          let a = rd.first_least in
          let b = rd.first_most in
          right_valid (sender_at p Sending 1)
          (record {
            stored = numbers_of_lem (omega arith) (omega arith) (omega arith) (omega arith) high (λ z. not_both (sym synchronized ∙ z));
            waits = (record { unfrozen = unfrozen; synchronized = synchronized }, record { more = more; sent = record { some = omega arith; few = omega arith } });
          })

      next_nameable : Nameable l.first (Number (p.delivered + 1))
      next_nameable = transaction {n = p.delivered + 1} (omega arith) low (omega arith)

      meets : row_of a x.expected (Ok (Number (p.delivered + 1))) ≡ storing a (p.delivered + 1)
      meets = go expected
        where
          go : (x.expected ≡ None) ⊎ (x.expected ≡ Some (p.delivered + 1))
              → row_of a x.expected (Ok (Number (p.delivered + 1))) ≡ storing a (p.delivered + 1)
          go (inl z) = ap (λ (k : Option ℕ). row_of a k (Ok (Number (p.delivered + 1)))) z ∙ unknown_row_lem a (p.delivered + 1) (omega arith)
          go (inr z) = ap (λ (k : Option ℕ). row_of a k (Ok (Number (p.delivered + 1)))) z ∙ next_row a (p.delivered + 1) (omega arith)

      waits_now : proceeds p st.event ≡ begins_to_wait p Sending st.event
      waits_now = ap (λ (b : Bool). begins_to_wait p (cond b Sending Idle) st.event) (lt-ltb p.delivered p.last more)

      pub next_stage : Stage y (delivered_of p) (stored (Some (p.delivered + 1 + 1)) (x.has ++ request_of l (Number (p.delivered + 1)) ∷ []))
      next_stage =
          let n = p.delivered + 1 in
          let after = proceeds (delivered_of p) (Delivered (p.delivered + 1) (application_code a)) in
          let start = subst (λ (k : Acted). Comes l y (sending_at k.sender (named_after [] k) st.history) x) waits_now st.comes in
          record {
            event = Delivered (p.delivered + 1) (application_code a);
            history = reported after ∷ st.history;
            comes = exchange l rd a (sender_at p Sending 1) (Number n) sending-valid refl refl next_nameable x vx (storing a n) meets
                (number_answerable (p.delivered + 1) (omega arith) (omega arith)) after (answer_known p a) st.history y start;
          }
