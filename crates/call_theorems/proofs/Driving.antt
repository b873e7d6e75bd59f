-- Each act of the drivers is some acts of the link, or none.
use Rattle.std.specs.Prelude.{Some}
use mathlib.Core.Path.{◌≡◌, refl, sym, ap, ◌∙◌, subst}
use mathlib.Core.List.{List, [], ◌∷◌, ◌++◌}
use mathlib.Core.Bool.{Bool, true, false, cond, ◌&&◌}
use Prim.Native.Nat.{ℕ, ◌≤◌}
use native.Mathlib.Omega.{arith}
use lib.ListN.{length, take}
use lib.Dec.{leb, eqb}
use borrow.Author.Tests.{le-leb, leb-true, ne_eqb}
use Rattle.lists.specs.Bytes.{same, over}
use Rattle.lists.specs.Outcome.{Called, called}
use Rattle.lists.proofs.Tests.{and_left, and_right}
use Rattle.settings.specs.Settings.{valid, capacity_of, link_of}
use Rattle.settings.specs.declared.Settings.{Settings}
use Rattle.stream.specs.Stream.{Judged, between}
use Rattle.stream.specs.Scan.{fresh}
use Rattle.block_calls.specs.ReaderWords.{reader_words}
use Rattle.block_calls.specs.ReadCalls.{fresh_reader_call}
use Rattle.sender.specs.Sender.{open_of, ended_of, reset_of, timer_of, submit_of}
use Rattle.sender.specs.declared.Acted.{Acted}
use Rattle.sender_calls.specs.SenderCalls.{sender_words, open_call, ended_call, reset_call, timer_call, submit_call, act_words}
use Rattle.link.specs.Duties.{every}
use Rattle.link.specs.SenderActs.{after_crash}
use Rattle.link.specs.SenderHistory.{reported, crashed}
use Rattle.link.specs.Line.{empty_line}
use Rattle.link.specs.System.{Link, System, sender_acted, new_circuit, circuit_opened, SystemAct, opens, ends, resets, timer, submits, sender_persists, sender_restores, after_act, run_of}
use Rattle.link.specs.Promise.{Ready}
use Rattle.link.proofs.Queues.{Each, each_none, each_more}
use Rattle.link.proofs.Messages.{link-valid, link_limit}
use Rattle.link.proofs.Early.{Standing}
use Rattle.call_theorems.specs.Reading.{Shown, Taken, hybrid, minimal}
use Rattle.call_theorems.specs.Driver.{SettingNumbers, hybrid as hybrid_numbers, minimal as minimal_numbers, Passed, made_from, ReaderMemory, Drivers, fresh_reader}
use Rattle.call_theorems.specs.Driver.{enough_to_read, report_of, restarted, by_sender, opened_by, after_driver}
use Rattle.call_theorems.specs.Driver.{opens as opens_driver, ends as ends_driver, resets as resets_driver, timer as timer_driver, submits as submits_driver, stores, restores}
use Rattle.call_theorems.specs.DriversRun.{once, acts_of}
use Rattle.call_theorems.specs.DriversPromise.{Agrees}
use Rattle.call_theorems.proofs.Streams.{StandsAt, fresh_stands_at}
use Rattle.call_theorems.proofs.Shows.{SameVerdict, SameReport, Behind, StandsOn, Shows, over_behind, behind_length, Does, done, refused, named_is, report_length, same_report, call_shows}
use Rattle.call_theorems.proofs.Acting.{open_does, ended_does, reset_does, timer_does, submit_does}

-- by these acts the link comes from y to what the drivers have
pub record Goes (l : Link) (acts : List SystemAct) (x : Drivers) (y : System) : Type 0 where
  pub shows : Shows l x (run_of every l y acts)

pub stays : (l : Link) (x : Drivers) (y : System) → Shows l x y → Goes l [] x y
unfolding run_of
stays l x y h = record { shows = h }

pub by_act : (l : Link) (x : Drivers) (y : System) (d : SystemAct) → Shows l x (after_act every l d y) → Goes l (d ∷ []) x y
unfolding run_of
by_act l x y d h = record { shows = h }

module _ (k : Passed) (ag : Agrees k) (rd : Ready k.link) where
  abbrev l : Link
  l = k.link

  abbrev g : Settings
  g = k.link.settings

  pub settings_valid : valid g ≡ true
  settings_valid = link-valid g rd.settings

  pub link_made : link_of (made_from k.numbers) ≡ Some g
  link_made = ap link_of ag.settings ∙ rw (le-leb 128 g.data_limit (link_limit g rd.settings))

  taken : Taken (made_from k.numbers) g
  taken = go k.numbers ag.settings
    where
      go : (n : SettingNumbers) → made_from n ≡ Some g → Taken (made_from n) g
      go (hybrid_numbers sb eb d) e = hybrid sb eb d e
      go (minimal_numbers d) e = minimal d e

  -- ---- a fresh reader
  fresh_words_lem : (st : List ℕ) → 4 ≤ length st → (fresh_reader_call st).state ≡ over st (reader_words fresh)
  unfolding fresh_reader_call
  fresh_words_lem st h = rw (le-leb 4 (length st) h)

  pub fresh_on : (m : ReaderMemory) → 4 ≤ length m.state → capacity_of g ≤ length m.buffer → 8 ≤ length m.verdict → StandsOn g (fresh_reader m) empty_line
  fresh_on m a b c =
      record {
        stands = subst (λ (st : List ℕ). StandsAt g 0 between (called 0 st m.buffer m.verdict)) (sym (fresh_words_lem m.state a))
            (fresh_stands_at (made_from k.numbers) g taken m.state m.buffer m.verdict a b c);
        within = omega arith;
      }

  pub fresh_enough : (m : ReaderMemory) → enough_to_read g m ≡ true → StandsOn g (fresh_reader m) empty_line
  fresh_enough m e =
      let states = leb 4 (length m.state) in
      let buffers = leb (capacity_of g) (length m.buffer) in
      let verdicts = leb 8 (length m.verdict) in
      let more = and_right states (buffers && verdicts) e in
      fresh_on m (leb-true 4 (length m.state) (and_left states (buffers && verdicts) e)) (leb-true (capacity_of g) (length m.buffer) (and_left buffers verdicts more))
      (leb-true 8 (length m.verdict) (and_right buffers verdicts more))

  -- ---- acts of the sender
  module _ (x : Drivers) (y : System) (i : Standing l y) (h : Shows l x y) where
    abbrev st : List ℕ
    st = x.sender.memory.state

    abbrev p : List ℕ
    p = x.sender.memory.report

    pub by_call : (a : Acted) (c : Called) (ws : List Shown) (vs : List Judged) → Does y.sending.sender st p a c → Each (SameVerdict g) ws vs → Shows l (by_sender x ws c) (sender_acted y vs a)
    by_call a c ws vs d e =
        record { sender = call_shows g x.sender y.sending x.back h.sender a c d ws vs e; receiver = h.receiver; forward = h.forward; back = h.back }

    called_is : (d : SystemAct) (a : Acted) (c : Called) → after_act every l d y ≡ sender_acted y y.sending.arrived a → Does y.sending.sender st p a c
        → Goes l (d ∷ []) (by_sender x x.sender.arrived c) y
    called_is d a c e does =
        by_act l (by_sender x x.sender.arrived c) y d
        (subst (Shows l (by_sender x x.sender.arrived c)) (sym e) (by_call a c x.sender.arrived y.sending.arrived does h.sender.arrived))

    pub ends_goes : Goes l (ends ∷ []) (after_driver k ends_driver x) y
    ends_goes = called_is ends (ended_of y.sending.sender) (ended_call st p) refl (ended_does y.sending.sender i.ends.valid st p h.sender.state h.sender.report)

    pub resets_goes : Goes l (resets ∷ []) (after_driver k resets_driver x) y
    resets_goes = called_is resets (reset_of y.sending.sender) (reset_call st p) refl (reset_does y.sending.sender i.ends.valid st p h.sender.state h.sender.report)

    pub timer_goes : Goes l (timer ∷ []) (after_driver k timer_driver x) y
    timer_goes =
        called_is timer (timer_of l.resends y.sending.sender) (timer_call l.resends st p) refl
        (timer_does y.sending.sender i.ends.valid st p h.sender.state h.sender.report l.resends rd.resends)

    pub submits_goes : (limit : ℕ) (d : List ℕ) → Goes l (submits limit d ∷ []) (after_driver k (submits_driver limit d) x) y
    submits_goes limit d =
        called_is (submits limit d) (submit_of limit y.sending.sender d) (submit_call limit d st p) refl
        (submit_does y.sending.sender i.ends.valid st p h.sender.state h.sender.report limit d)

    -- a new circuit
    new_circuit_lem : (r q : ReaderMemory) → StandsOn g (fresh_reader r) empty_line → StandsOn g (fresh_reader q) empty_line → (a : Acted) → SameReport (report_of (called 0 (over st (sender_words a.sender)) [] (over p (act_words a)))) (reported a)
        → Shows l (opened_by x r q (called 0 (over st (sender_words a.sender)) [] (over p (act_words a)))) (new_circuit every y a)
    new_circuit_lem r q readable read a showed =
        record {
          sender = record {
            state = over_behind (sender_words a.sender) st (behind_length h.sender.state);
            report = let z = report_length a st p h.sender.report in let k = h.sender.report in omega arith;
            stored = h.sender.stored;
            named = named_is a (over st (sender_words a.sender)) p h.sender.report;
            arrived = each_none;
            reports = each_more showed h.sender.reports;
            reader = readable;
          };
          receiver = record {
            state = h.receiver.state;
            decision = h.receiver.decision;
            report = h.receiver.report;
            stored = h.receiver.stored;
            stored_has_lem = h.receiver.stored_has_lem;
            note = h.receiver.note;
            reports = h.receiver.reports;
            pending = refl;
            arrived = each_none;
            reader = read;
          };
          forward = refl;
          back = refl;
        }

    module _ (r q : ReaderMemory) where
      opened_by_lem : StandsOn g (fresh_reader r) empty_line → StandsOn g (fresh_reader q) empty_line → (c : Called) → Does y.sending.sender st p (open_of y.sending.sender) c
          → Shows l (cond (eqb c.number 0) (opened_by x r q c) (by_sender x x.sender.arrived c)) (circuit_opened every y (open_of y.sending.sender))
      opened_by_lem readable read c (done o z) =
          let a = open_of y.sending.sender in
          let showed = same_report y.sending.sender st p a c h.sender.state h.sender.report (done o z) in
          subst (λ (c : Called). Shows l (cond (eqb c.number 0) (opened_by x r q c) (by_sender x x.sender.arrived c)) (circuit_opened every y (open_of y.sending.sender))) (sym z)
          (subst (λ (n : ℕ). Shows l (opened_by x r q (called 0 (over st (sender_words (open_of y.sending.sender).sender)) [] (over p (act_words (open_of y.sending.sender)))))
          (cond (eqb n 0) (new_circuit every y (open_of y.sending.sender)) (sender_acted y y.sending.arrived (open_of y.sending.sender)))) (sym o)
          (new_circuit_lem r q readable read a (subst (λ (t : Called). SameReport (report_of t) (reported (open_of y.sending.sender))) z showed)))
      opened_by_lem readable read c (refused n o z t same none report) =
          let a = open_of y.sending.sender in
          let no : eqb (open_of y.sending.sender).refusal 0 ≡ false = ne_eqb (open_of y.sending.sender).refusal 0 (λ w. let m = leb-true 1 (open_of y.sending.sender).refusal n in omega arith) in
          let number : eqb c.number 0 ≡ false = ap (λ (m : ℕ). eqb m 0) o ∙ no in
          subst (λ (b : Bool). Shows l (cond b (opened_by x r q c) (by_sender x x.sender.arrived c)) (circuit_opened every y (open_of y.sending.sender))) (sym number)
          (subst (λ (b : Bool). Shows l (by_sender x x.sender.arrived c) (cond b (new_circuit every y (open_of y.sending.sender)) (sender_acted y y.sending.arrived (open_of y.sending.sender)))) (sym no)
          (by_call a c x.sender.arrived y.sending.arrived (refused n o z t same none report) h.sender.arrived))

      pub opens_goes : Goes l (acts_of k (opens_driver r q) x) (after_driver k (opens_driver r q) x) y
      opens_goes = go (enough_to_read g r && enough_to_read g q) refl
        where
          go : (b : Bool) → (enough_to_read g r && enough_to_read g q) ≡ b
              → Goes l (once b opens) (cond b (cond (eqb (open_call st p).number 0) (opened_by x r q (open_call st p)) (by_sender x x.sender.arrived (open_call st p))) x) y
          go false e = stays l x y h
          go true e =
              by_act l _ y opens
              (opened_by_lem (fresh_enough r (and_left (enough_to_read g r) (enough_to_read g q) e)) (fresh_enough q (and_right (enough_to_read g r) (enough_to_read g q) e)) (open_call st p)
              (open_does y.sending.sender i.ends.valid st p h.sender.state h.sender.report))

    -- storing, and going on from what is stored
    pub stores_goes : Goes l (sender_persists ∷ []) (after_driver k stores x) y
    stores_goes =
        by_act l (after_driver k stores x) y sender_persists
        (record {
          sender = record {
            state = h.sender.state;
            report = h.sender.report;
            stored = ap (take 5) h.sender.state.is;
            named = h.sender.named;
            arrived = h.sender.arrived;
            reports = h.sender.reports;
            reader = h.sender.reader;
          };
          receiver = h.receiver;
          forward = h.forward;
          back = h.back;
        })

    pub restored : (s : List ℕ) → 7 ≤ length s → Behind (sender_words (after_crash y.sending.persisted)) (over s (x.sender.stored ++ 0 ∷ 0 ∷ []))
    restored s m =
        subst (λ (d : List ℕ). Behind (sender_words (after_crash y.sending.persisted)) (over s (d ++ 0 ∷ 0 ∷ []))) (sym h.sender.stored)
        (over_behind (sender_words (after_crash y.sending.persisted)) s m)

    pub restores_goes : Goes l (sender_restores ∷ []) (after_driver k restores x) y
    restores_goes =
        by_act l (after_driver k restores x) y sender_restores
        (record {
          sender = record {
            state = restored st (behind_length h.sender.state);
            report = h.sender.report;
            stored = h.sender.stored;
            named = each_none;
            arrived = h.sender.arrived;
            reports = each_more {x = restarted} {y = crashed} refl h.sender.reports;
            reader = h.sender.reader;
          };
          receiver = h.receiver;
          forward = h.forward;
          back = h.back;
        })
