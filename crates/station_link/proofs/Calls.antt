-- Each call is the act of which the statement speaks, and leaves the words of the state after it.
use Rattle.std.specs.Prelude.{Option, Some}
use mathlib.Core.Path.{◌≡◌, refl, sym, ap, ◌∙◌}
use mathlib.Core.List.{List, [], ◌∷◌, ◌++◌}
use mathlib.Core.Bool.{Bool, true, false, ◌&&◌, true≢false}
use Prim.Native.Nat.{ℕ, ◌≤◌}
use native.Mathlib.Omega.{arith}
use lib.ListN.{length, drop, length-append, length-drop}
use lib.Seq.{drop-append_seam}
use lib.Dec.{leb, eqb}
use borrow.Author.Tests.{le-leb, eqb-false}
use Rattle.lists.specs.Bytes.{over}
use Rattle.lists.specs.Outcome.{need, Outcome, outcome, Called, called}
use Rattle.lists.proofs.Calls.{over-is}
use Rattle.lists.proofs.Tests.{and_right}
use Rattle.station.specs.Interrupt.{turn, station_state, station_answer, opened_station_answer, good_block_answer, bad_block_answer, eot_answer, bare_enq_of, asked_when, interrupt_at, interrupt_of}
use Rattle.station.specs.Station.{valid_station, refused_station}
use Rattle.station.specs.declared.Station.{Station}
use Rattle.station.specs.declared.Station.TheVariants.{Closed as ClosedStation, Open}
use Rattle.station.specs.declared.ReplyKind.{ReplyKind}
use Rattle.station.specs.declared.Interrupt.{Interrupt}
use Rattle.station.specs.declared.Interrupt.TheVariants.{Unasked, Pending, Given}
use Rattle.station.specs.declared.Ending.{Ending}
use Rattle.station.specs.declared.Ending.TheVariants.{Etb, Etx}
use Rattle.station.specs.declared.Turn.{Turn}
use Rattle.station.specs.declared.StationState.{StationState}
use Rattle.station.specs.declared.StationAnswer.{StationAnswer}
use Rattle.station.specs.History.{Unit, good, bad, enquiry, eot, bare_enq, asks, holds_at_most, turn_fits, Opening, state_of, unit_outcome, station_run}
use Rattle.station.specs.StationCalls.{station_words, station_report, ending_of, act_written, enough_words, act_on, station_call, block_ended_by, open_station_call, good_block_call, bad_block_call, eot_call, bare_enq_call, interrupt_call}
use Rattle.station.proofs.ReadBack.{words_back as station-words-back}
use Rattle.station.proofs.Turns.{fresh-only}
use Rattle.station.proofs.History.{reachable as station-reachable, never_refused}
use Rattle.master.specs.Master.{start_of}
use Rattle.master.specs.Reversal.{answer_of, opened_master_answer, start_answer, reply_answer, timer_answer, close_answer, enquire_answer, may_receive_of, reversal_fits}
use Rattle.master.specs.declared.Master.{Master}
use Rattle.master.specs.declared.Master.TheVariants.{Closed, Idle, Waiting}
use Rattle.master.specs.declared.Response.TheVariants.{Ack, Nak, Eot, Damaged, Rint}
use Rattle.master.specs.declared.Reversal.{Reversal}
use Rattle.master.specs.declared.MasterState.{MasterState}
use Rattle.master.specs.declared.MasterAnswer.{MasterAnswer}
use Rattle.master.specs.MasterCalls.{state_words, ending_word, master_report, master_written, enough_master_words, master_act_on, master_call, open_master_call, start_call, master_reply_call, timer_a_call, close_call, enquire_call, may_receive_call}
use Rattle.master.specs.MasterHistory.{MasterAct, start, reply, timer, close, enquire, may_receive, master_act_of, state_then, master_after}
use Rattle.master.proofs.ReadBack.{words_back}
use Rattle.master.proofs.Valid.{fits_after}
use Rattle.master.proofs.History.{reachable}
use Rattle.master.proofs.Reversing.{refused_equal}
use Rattle.station_link.specs.Calls.{master_call_of, master_words_after, StationWords, station_call_of, buffer_after, station_words_after}

-- words written over words
over-length : (l ws : List ℕ) → length ws ≤ length l → length (over l ws) ≡ length l
over-length l ws h =
    ap length (over-is l ws h) ∙ (let a = length-append ws (drop (length ws) l) in let d = length-drop (length ws) l in omega (arith, a, d, h))

over-over : (l ws vs : List ℕ) → length ws ≤ length l → length ws ≡ length vs → over (over l ws) vs ≡ over l vs
over-over l ws vs h e =
    let k = over-length l ws h in
    over-is (over l ws) vs (omega (arith, k, e, h))
    ∙ ap (λ (z : List ℕ). vs ++ z) (ap (drop (length vs)) (over-is l ws h) ∙ ap (λ (n : ℕ). drop n (ws ++ drop (length ws) l)) (sym e) ∙ drop-append_seam ws (drop (length ws) l) ∙ ap (λ (n : ℕ). drop n l) e)
    ∙ sym (over-is l vs (omega (arith, e, h)))

-- ---- the master
ten : (m : Master) (v : Reversal) → length (state_words m v) ≡ 10
ten (Closed count) v = refl
ten (Idle count) v = refl
ten (Waiting o) v = refl

module _ (st : List ℕ) (enough : 10 ≤ length st) where
  abbrev words : MasterState → List ℕ
  words s = over st (state_words s.master s.reversal)

  long : (s : MasterState) → length (words s) ≡ length st
  long s = over-length st (state_words s.master s.reversal) (let n = ten s.master s.reversal in omega (arith, n, enough))

  module _ (p : List ℕ) (reports : 10 ≤ length p) where
    is_enough_lem : (s : MasterState) → enough_master_words (length (words s)) (length p) ≡ true
    is_enough_lem s = let n = long s in rw (le-leb 10 (length (words s)) (omega (arith, n, enough)), le-leb 10 (length p) reports)

    module _ (s : MasterState) (fits : reversal_fits s.master s.reversal ≡ true) where
      call_is : (f : MasterState → MasterAnswer) → master_call f (words s) p ≡ master_written (words s) p (f s)
      call_is f = rw (is_enough_lem s) (ap (λ (d : Option MasterState). master_act_on d f (words s) p) (words_back st s.master s.reversal enough fits))

      start_is : (n size : ℕ) → start_call n size (words s) p ≡ master_written (words s) p (start_answer n size s)
      unfolding start_call start_of answer_of
      start_is n size = go (leb 1 size) refl
        where
          go : (v : Bool) → leb 1 size ≡ v → need v (called 1 (words s) [] p) (master_call (start_answer n size) (words s) p) ≡ master_written (words s) p (start_answer n size s)
          go true h = call_is (start_answer n size)
          go false h = rw h

      -- each call is its act
      pub call_is_act : (x : MasterAct) → master_call_of x (words s) p ≡ master_written (words s) p (master_act_of x s)
      unfolding master_reply_call timer_a_call close_call enquire_call may_receive_call
      call_is_act (start n size) = start_is n size
      call_is_act (reply (Ack n)) = call_is (reply_answer (Ack n))
      call_is_act (reply Nak) = call_is (reply_answer Nak)
      call_is_act (reply Eot) = call_is (reply_answer Eot)
      call_is_act (reply Damaged) = call_is (reply_answer Damaged)
      call_is_act (reply Rint) = call_is (reply_answer Rint)
      call_is_act timer = call_is timer_answer
      call_is_act close = call_is close_answer
      call_is_act enquire = call_is enquire_answer
      call_is_act may_receive = call_is may_receive_of

    -- the words after an act; a refused one leaves the master as it is
    written_words : (s : MasterState) (a : MasterAnswer) → ((a.acted.refusal ≡ 0 → ⊥) → state_then a ≡ s) → (master_written (words s) p a).state ≡ words (state_then a)
    written_words s a f = go (eqb a.acted.refusal 0) (λ h. f (eqb-false a.acted.refusal 0 h))
      where
        now : List ℕ
        now = state_words a.acted.master a.reversal

        twice : over (words s) now ≡ words (state_then a)
        twice =
            over-over st (state_words s.master s.reversal) now (let n = ten s.master s.reversal in omega (arith, n, enough))
            (ten s.master s.reversal ∙ sym (ten a.acted.master a.reversal))

        go : (v : Bool) → (v ≡ false → state_then a ≡ s)
            → (need v (called a.acted.refusal (words s) [] p) (called 0 (over (words s) now) [] (over p (master_report a.acted)))).state ≡ words (state_then a)
        go true g = twice
        go false g = ap words (sym (g refl))

    enough_first : enough_master_words (length st) (length p) ≡ true
    enough_first = rw (le-leb 10 (length st) enough, le-leb 10 (length p) reports)

    -- the words after every run of calls are those of the master after the acts
    pub master_calls_lem : (xs : List MasterAct) → master_words_after st p xs ≡ words (master_after xs)
    unfolding master_words_after master_after open_master_call answer_of
    master_calls_lem [] = ap (λ (v : Bool). (need v (called 2 st [] p) (master_written st p opened_master_answer)).state) enough_first
    master_calls_lem (x ∷ xs) =
        ap (λ (ws : List ℕ). (master_call_of x ws p).state) (master_calls_lem xs)
        ∙ ap (λ (c : Called). c.state) (call_is_act (master_after xs) (fits_after xs) x)
        ∙ written_words (master_after xs) (master_act_of x (master_after xs)) (refused_equal (master_after xs) (reachable xs) (fits_after xs) x)

-- ---- the station
five : (s : Station) (v : Turn) → length (station_words s v) ≡ 5
five ClosedStation v = refl
five (Open e h) v = refl

ending_code : (x : Ending) → ending_of (ending_word x) ≡ Some x
ending_code Etb = refl
ending_code Etx = refl

abbrev Refused : StationAnswer → Type 0
Refused a = eqb a.acted.refusal 0 ≡ false

-- a request for a RINT that is refused leaves the state as it is
asks_refused : (s : Station) (v : Turn) → turn_fits s v ≡ true → Refused (interrupt_at s v) → station_state (interrupt_at s v).acted.station (interrupt_at s v).turn ≡ station_state s v
asks_refused ClosedStation v f r = ap (station_state ClosedStation) (fresh-only v.last v.interrupt f)
asks_refused (Open e h) v f r = go (leb e 7) r
  where
    asked : (k : ReplyKind) (i : Interrupt) → Refused (asked_when (Open e h) k i) → station_state (asked_when (Open e h) k i).acted.station (asked_when (Open e h) k i).turn ≡ station_state (Open e h) (turn k i)
    asked k Unasked q = absurd (true≢false q)
    asked k Pending q = refl
    asked k Given q = refl

    go : (w : Bool) → Refused (need w (station_answer (refused_station (Open e h)) v) (asked_when (Open e h) v.last v.interrupt))
        → station_state (need w (station_answer (refused_station (Open e h)) v) (asked_when (Open e h) v.last v.interrupt)).acted.station (need w (station_answer (refused_station (Open e h)) v) (asked_when (Open e h) v.last v.interrupt)).turn
        ≡ station_state (Open e h) v
    go true q = asked v.last v.interrupt q
    go false q = refl

module _ (st : List ℕ) (enough : 5 ≤ length st) (p : List ℕ) (reports : 4 ≤ length p) where
  abbrev written : StationState → List ℕ
  written s = over st (station_words s.station s.turn)

  station_long : (s : StationState) → length (written s) ≡ length st
  station_long s = over-length st (station_words s.station s.turn) (let n = five s.station s.turn in omega (arith, n, enough))

  station_enough : (s : StationState) → enough_words (length (written s)) (length p) ≡ true
  station_enough s = let n = station_long s in rw (le-leb 5 (length (written s)) (omega (arith, n, enough)), le-leb 4 (length p) reports)

  module _ (o : Opening) (fits : turn_fits o.run.station o.turn ≡ true) where
    station_call_is : (f : StationState → Outcome StationAnswer) (b : List ℕ) → station_call f (written (state_of o)) b p ≡ act_written (written (state_of o)) p (f (state_of o))
    station_call_is f b =
        rw (station_enough (state_of o)) (ap (λ (d : Option StationState). act_on d f (written (state_of o)) b p) (station-words-back st o.run.station o.turn enough fits))

    -- what a call writes: the outcome of the unit, without a buffer where none is lent
    abbrev called_outcome : Unit → Outcome StationAnswer
    called_outcome (good n x t) = unit_outcome o (good n x t)
    called_outcome bad = outcome (bad_block_answer (state_of o)) []
    called_outcome enquiry = outcome (bad_block_answer (state_of o)) []
    called_outcome eot = outcome (eot_answer (state_of o)) []
    called_outcome bare_enq = outcome (bare_enq_of (state_of o)) []
    called_outcome asks = outcome (interrupt_of (state_of o)) []

    pub unit_call_is : (u : Unit) → station_call_of u (record { words = written (state_of o); buffer = o.run.buffer }) p ≡ act_written (written (state_of o)) p (called_outcome u)
    unfolding good_block_call bad_block_call eot_call bare_enq_call interrupt_call
    unit_call_is (good n x t) =
        ap (λ (d : Option Ending). block_ended_by d n t o.run.buffer (written (state_of o)) p) (ending_code x)
        ∙ station_call_is (λ (s : StationState). good_block_answer s n x t o.run.buffer) o.run.buffer
    unit_call_is bad = station_call_is (λ (s : StationState). outcome (bad_block_answer s) []) []
    unit_call_is enquiry = station_call_is (λ (s : StationState). outcome (bad_block_answer s) []) []
    unit_call_is eot = station_call_is (λ (s : StationState). outcome (eot_answer s) []) []
    unit_call_is bare_enq = station_call_is (λ (s : StationState). outcome (bare_enq_of s) []) []
    unit_call_is asks = station_call_is (λ (s : StationState). outcome (interrupt_of s) []) []

  -- the state that an answer leaves
  abbrev left : StationAnswer → StationState
  left a = station_state a.acted.station a.turn

  over_left : (s t : StationState) → over (written s) (station_words t.station t.turn) ≡ written t
  over_left s t =
      over-over st (station_words s.station s.turn) (station_words t.station t.turn) (let n = five s.station s.turn in omega (arith, n, enough))
      (five s.station s.turn ∙ sym (five t.station t.turn))

  -- an outcome that is not refused, and one that is
  written_station : (s : StationState) (o : Outcome StationAnswer) → o.answer.acted.refusal ≡ 0 → (act_written (written s) p o).state ≡ written (left o.answer)
  written_station s o e = rw e (over_left s (left o.answer))

  written_buffer : (s : StationState) (o : Outcome StationAnswer) → o.answer.acted.refusal ≡ 0 → (act_written (written s) p o).buffer ≡ o.buffer
  written_buffer s o e = rw e

  written_either : (s : StationState) (a : StationAnswer) → (Refused a → left a ≡ s) → (act_written (written s) p (outcome a [])).state ≡ written (left a)
  written_either s a f = go (eqb a.acted.refusal 0) f
    where
      go : (v : Bool) → (v ≡ false → left a ≡ s)
          → (need v (called a.acted.refusal (written s) [] p) (called 0 (over (written s) (station_words a.acted.station a.turn)) [] (over p (station_report a.acted)))).state ≡ written (left a)
      go true g = over_left s (left a)
      go false g = ap written (sym (g refl))

  module _ (b : List ℕ) where
    abbrev at : List Unit → StationWords
    at us = record { words = written (state_of (station_run b us)); buffer = (station_run b us).run.buffer }

    abbrev so_far : List Unit → Opening
    so_far us = station_run b us

    fits_so_far : (us : List Unit) → turn_fits (station_run b us).run.station (station_run b us).turn ≡ true
    fits_so_far us =
        and_right (valid_station (station_run b us).run.station && holds_at_most (length b) (station_run b us).run.station) _ (station-reachable b us)

    -- a unit for which no buffer is lent
    without_buffer : (us : List Unit) (u : Unit) (a : StationAnswer) → (act_written (written (state_of (so_far us))) p (outcome a [])).state ≡ written (left a)
        → station_call_of u (at us) p ≡ act_written (written (state_of (so_far us))) p (outcome a [])
        → ◌≡◌ {A = StationWords} (record { words = (station_call_of u (at us) p).state; buffer = (station_run b us).run.buffer }) (record { words = written (left a); buffer = (station_run b us).run.buffer })
    without_buffer us u a e f = ap (λ (ws : List ℕ). record { words = ws; buffer = (station_run b us).run.buffer }) (ap (λ (c : Called). c.state) f ∙ e)

    accepted_call : (us : List Unit) (u : Unit) (a : StationAnswer) → a.acted.refusal ≡ 0 → station_call_of u (at us) p ≡ act_written (written (state_of (so_far us))) p (outcome a [])
        → ◌≡◌ {A = StationWords} (record { words = (station_call_of u (at us) p).state; buffer = (station_run b us).run.buffer }) (record { words = written (left a); buffer = (station_run b us).run.buffer })
    accepted_call us u a e f = without_buffer us u a (written_station (state_of (so_far us)) (outcome a []) e) f

    unit_after_lem : (u : Unit) (us : List Unit)
        → record { words = (station_call_of u (at us) p).state; buffer = buffer_after u (at us) (station_call_of u (at us) p) } ≡ at (u ∷ us)
    unfolding station_run interrupt_of
    unit_after_lem (good n x t) us =
        let s = state_of (so_far us) in
        let o = unit_outcome (so_far us) (good n x t) in
        let e = never_refused b us (so_far us).run.buffer (good n x t) refl in
        ap (λ (c : Called). record { words = c.state; buffer = c.buffer }) (unit_call_is (so_far us) (fits_so_far us) (good n x t))
        ∙ ap (λ (ws : List ℕ). record { words = ws; buffer = (act_written (written s) p o).buffer }) (written_station s o e)
        ∙ ap (λ (l : List ℕ). record { words = written (left o.answer); buffer = l }) (written_buffer s o e)
    unit_after_lem bad us = accepted_call us bad (bad_block_answer (state_of (so_far us))) (never_refused b us (so_far us).run.buffer bad refl) (unit_call_is (so_far us) (fits_so_far us) bad)
    unit_after_lem enquiry us = accepted_call us enquiry (bad_block_answer (state_of (so_far us))) (never_refused b us (so_far us).run.buffer enquiry refl) (unit_call_is (so_far us) (fits_so_far us) enquiry)
    unit_after_lem eot us = accepted_call us eot (eot_answer (state_of (so_far us))) (never_refused b us (so_far us).run.buffer eot refl) (unit_call_is (so_far us) (fits_so_far us) eot)
    unit_after_lem bare_enq us = accepted_call us bare_enq (bare_enq_of (state_of (so_far us))) (never_refused b us (so_far us).run.buffer bare_enq refl) (unit_call_is (so_far us) (fits_so_far us) bare_enq)
    unit_after_lem asks us =
        without_buffer us asks (interrupt_of (state_of (so_far us)))
        (written_either (state_of (so_far us)) (interrupt_of (state_of (so_far us))) (asks_refused (so_far us).run.station (so_far us).turn (fits_so_far us)))
        (unit_call_is (so_far us) (fits_so_far us) asks)

    first_enough : enough_words (length st) (length p) ≡ true
    first_enough = rw (le-leb 5 (length st) enough, le-leb 4 (length p) reports)

    -- the words and the buffer after every run of calls are those of the station after the units
    pub station_calls_lem : (us : List Unit) → station_words_after st b p us ≡ at us
    unfolding station_words_after station_run open_station_call
    station_calls_lem [] = ap (λ (v : Bool). record { words = (need v (called 2 st [] p) (act_written st p (outcome opened_station_answer []))).state; buffer = b }) first_enough
    station_calls_lem (u ∷ us) =
        ap (λ (w : StationWords). record { words = (station_call_of u w p).state; buffer = buffer_after u w (station_call_of u w p) }) (station_calls_lem us) ∙ unit_after_lem u us
