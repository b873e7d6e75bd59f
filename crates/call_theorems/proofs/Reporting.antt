-- What a call of the sender's driver reports: how many sends were made, that it gave up, and what is to be sent.
use Rattle.std.specs.Prelude.{Option, Result, Some, None}
use mathlib.Core.Path.{◌≡◌, refl, sym, ap, ◌∙◌, subst}
use mathlib.Core.List.{List, [], ◌∷◌, ◌++◌}
use mathlib.Core.Bool.{Bool, true, false, cond, not, ◌&&◌}
use mathlib.Core.Logic.{inl, inr}
use Prim.Native.Nat.{ℕ, ◌≤◌}
use native.Mathlib.Omega.{arith}
use lib.ListN.{length, drop, get_or}
use lib.Dec.{eqb}
use borrow.Author.Tests.{eq-eqb, eqb-true}
use Rattle.lists.specs.Bytes.{same, over}
use Rattle.lists.specs.Outcome.{Called}
use Rattle.lists.proofs.Calls.{over-is}
use Rattle.lists.proofs.Same.{same_self}
use Rattle.settings.specs.declared.Settings.{Settings}
use Rattle.numbers.specs.declared.SequenceNumber.{SequenceNumber}
use Rattle.numbers.specs.declared.SequenceNumber.TheVariants.{MinusOne, Number}
use Rattle.stream.specs.Stream.{Judged}
use Rattle.words.specs.Words.{verdict_from}
use Rattle.refusal.specs.declared.Accepted.{Accepted}
use Rattle.refusal.specs.declared.Refusal.{Refusal}
use Rattle.sender.specs.Sender.{valid_sender, is_open, waits_of, block_read_of}
use Rattle.sender.specs.declared.Waiting.{Waiting}
use Rattle.sender.specs.declared.Waiting.TheVariants.{Closed, Idle, Resynchronizing, Querying, Sending}
use Rattle.sender.specs.declared.Sender.{Sender}
use Rattle.sender.specs.declared.Event.{Event}
use Rattle.sender.specs.declared.Event.TheVariants.{NoEvent, Delivered, DeliveredUnknown, Abandoned, Froze, Dropped}
use Rattle.sender.specs.declared.Acted.{Acted}
use Rattle.sender_calls.proofs.ReadBack.{waiting_back}
use Rattle.sender_calls.specs.SenderCalls.{waiting_word, waiting_of, sender_words, send_words, event_words, act_words}
use Rattle.link.specs.SenderActs.{act_of, falls_due, resends_of}
use Rattle.link.specs.SenderHistory.{Entry, reported, crashed, is, counted, counted_of, is_abandoned}
use Rattle.link.specs.System.{System}
use Rattle.link.specs.Promise.{Ready}
use Rattle.link.proofs.Facts.{not_both}
use Rattle.link.proofs.Queues.{Each, each_none, each_more}
use Rattle.link.proofs.SenderDue.{open_taken, ended_taken, timer_taken, block_taken}
use Rattle.call_theorems.specs.Verdicts.{reader_gives}
use Rattle.call_theorems.specs.Reading.{Shown, shown}
use Rattle.call_theorems.specs.Driver.{Passed, CallReport, Drivers, report_of}
use Rattle.call_theorems.specs.DriversPromise.{In, here, there, SenderCall, opening, ending, resetting, timing, submitting, taking, called_by, verdict_by, act_by, Offered, sends_word, abandoned_word, send_words_of, applies, counted_words, sends_shown}
use Rattle.call_theorems.proofs.Verdicts.{made_again, sends_the_same}
use Rattle.call_theorems.proofs.Shows.{SameVerdict, SameReport, Behind, Shows, over_behind, behind_length, Does, done, refused, eight, kind_some, send_is, same_report}
use Rattle.call_theorems.proofs.Acting.{open_does, ended_does, reset_does, timer_does, submit_does, block_does}

-- ---- the words of a report, and of the state
pub record Words (a : Acted) (c : Called) : Type 0 where
  pub sends : sends_word c ≡ a.sends
  pub abandons : abandoned_word c ≡ is_abandoned a.event
  pub send : send_words_of c ≡ send_words a.send
  pub state : Behind (sender_words a.sender) c.state

-- the words behind what is sent
listed : (m : Option SequenceNumber) (n : ℕ) (e : Event) (x y : ℕ) (rest : List ℕ) → (get_or ((send_words m ++ n ∷ event_words e ++ x ∷ y ∷ []) ++ rest) 2 0 ≡ n)
    × (eqb (get_or ((send_words m ++ n ∷ event_words e ++ x ∷ y ∷ []) ++ rest) 3 0) 2 ≡ is_abandoned e)
listed m n e x y rest = go m
  where
    event : (e : Event) → eqb (get_or ((event_words e ++ x ∷ y ∷ []) ++ rest) 0 0) 2 ≡ is_abandoned e
    event NoEvent = refl
    event (Delivered n c) = refl
    event (DeliveredUnknown n) = refl
    event Abandoned = refl
    event Froze = refl
    event Dropped = refl

    go : (m : Option SequenceNumber) → (get_or ((send_words m ++ n ∷ event_words e ++ x ∷ y ∷ []) ++ rest) 2 0 ≡ n)
        × (eqb (get_or ((send_words m ++ n ∷ event_words e ++ x ∷ y ∷ []) ++ rest) 3 0) 2 ≡ is_abandoned e)
    go None = (refl, event e)
    go (Some MinusOne) = (refl, event e)
    go (Some (Number k)) = (refl, event e)

-- a call whose report was written: all but those that are refused by 1
report_words_lem : (st p : List ℕ) (a : Acted) (c : Called) → 8 ≤ length p → c.report ≡ over p (act_words a) → Behind (sender_words a.sender) c.state → Words a c
report_words_lem st p a c h e behind =
    let report : c.report ≡ act_words a ++ drop (length (act_words a)) p = e ∙ over-is p (act_words a) (let n = eight a in omega arith) in
    let words = listed a.send a.sends a.event a.block a.offset (drop (length (act_words a)) p) in
    record {
      sends = ap (λ (r : List ℕ). get_or r 2 0) report ∙ words.0;
      abandons = ap (λ (r : List ℕ). eqb (get_or r 3 0) 2) report ∙ words.1;
      send = ap (λ (r : List ℕ). get_or r 0 0 ∷ get_or r 1 0 ∷ []) e ∙ send_is a st p h;
      state = behind;
    }

call_report : (s : Sender) (st p : List ℕ) (a : Acted) (c : Called) → Behind (sender_words s) st → 8 ≤ length p → Does s st p a c → eqb c.number 1 ≡ false → Words a c
call_report s st p a c b h (refused n o z t same none (inl e)) q = not_both (sym (eq-eqb c.number 1 (o ∙ e)) ∙ q)
call_report s st p a c b h (refused n o z t same none (inr e)) q =
    report_words_lem st p a c h e (subst (Behind (sender_words a.sender)) (sym z) (subst (λ (k : Sender). Behind (sender_words k) st) (sym same) b))
call_report s st p a c b h (done o z) q =
    report_words_lem st p a c h (ap (λ (k : Called). k.report) z)
    (subst (λ (k : Called). Behind (sender_words a.sender) k.state) (sym z) (over_behind (sender_words a.sender) st (behind_length b)))

-- ---- the sends that the calls showed are those of the history
is_same : (m : SequenceNumber) (n : Option SequenceNumber) → same (send_words (Some m)) (send_words n) ≡ is m n
unfolding same
is_same MinusOne None = refl
is_same MinusOne (Some MinusOne) = refl
is_same MinusOne (Some (Number k)) = go (eqb k 0)
  where
    go : (b : Bool) → (eqb 1 (cond b 2 3) && (eqb 0 k && true)) ≡ false
    go true = refl
    go false = refl
is_same (Number n) None = go (eqb n 0)
  where
    go : (b : Bool) → (eqb (cond b 2 3) 0 && (eqb n 0 && true)) ≡ false
    go true = refl
    go false = refl
is_same (Number n) (Some MinusOne) = go (eqb n 0)
  where
    go : (b : Bool) → (eqb (cond b 2 3) 1 && (eqb n 0 && true)) ≡ false
    go true = refl
    go false = refl
is_same (Number n) (Some (Number k)) = go (eqb n k) refl
  where
    go : (b : Bool) → eqb n k ≡ b → same (send_words (Some (Number n))) (send_words (Some (Number k))) ≡ b
    go true e = ap (λ (j : ℕ). same (send_words (Some (Number n))) (send_words (Some (Number j)))) (sym (eqb-true n k e)) ∙ same_self (send_words (Some (Number n)))
    go false e = ap (λ (b : Bool). eqb (cond (eqb n 0) 2 3) (cond (eqb k 0) 2 3) && (b && true)) e ∙ never (eqb (cond (eqb n 0) 2 3) (cond (eqb k 0) 2 3))
      where
        never : (b : Bool) → (b && false) ≡ false
        never true = refl
        never false = refl

counted_is : (m : SequenceNumber) {rs : List CallReport} {h : List Entry} → Each SameReport rs h → counted_words (send_words (Some m)) rs ≡ counted m h
unfolding counted_words
counted_is m each_none = refl
counted_is m (each_more {x = r} {y = crashed} p ps) =
    let waits = ap (same (send_words (Some m))) p ∙ is_same m None in
    rw waits
counted_is m (each_more {x = r} {y = reported a} p ps) =
    let w = send_words (Some m) in
    let waits = ap (same w) p.1 ∙ is_same m (waits_of a.sender) in
    let sends = ap (same w) p.0 ∙ is_same m a.send in
    let more = counted_is m ps in
    rw (waits, sends, more)

pub sends_shown_lem : (w : Option SequenceNumber) {rs : List CallReport} {h : List Entry} → Each SameReport rs h → sends_shown (send_words w) rs ≡ counted_of w h
sends_shown_lem None e = refl
sends_shown_lem (Some MinusOne) e = counted_is MinusOne e
sends_shown_lem (Some (Number n)) {rs} e = ap (λ (b : Bool). cond b 0 (counted_words (send_words (Some (Number n))) rs)) (kind_some (eqb n 0)) ∙ counted_is (Number n) e

-- no circuit is open exactly where GMV_SENDER_WAITING is 0
pub word_closed : (w : Waiting) → eqb (waiting_word w) 0 ≡ not (is_open w)
word_closed Closed = refl
word_closed Idle = refl
word_closed Resynchronizing = refl
word_closed Querying = refl
word_closed Sending = refl

pub twice : (b : Bool) → not (not b) ≡ b
twice true = refl
twice false = refl

-- ---- each call is its act
-- the verdict that was shown
record Given (g : Settings) (w : Shown) : Type 0 where
  verdict : Judged
  is : w ≡ shown g verdict
  given : reader_gives verdict.verdict ≡ true

given_in_lem : (g : Settings) (w : Shown) {ws : List Shown} {vs : List Judged} → In w ws → Each (SameVerdict g) ws vs → Given g w
given_in_lem g w here (each_more {y = v} p ps) = record { verdict = v; is = p.is; given = p.given }
given_in_lem g w (there i) (each_more p ps) = given_in_lem g w i ps

module _ (k : Passed) (rd : Ready k.link) (x : Drivers) (y : System) (valid : valid_sender y.sending.sender ≡ true) (h : Shows k.link x y) where
  abbrev s : Sender
  s = y.sending.sender

  abbrev st : List ℕ
  st = x.sender.memory.state

  abbrev p : List ℕ
  p = x.sender.memory.report

  taken_does : (w : Shown) → Given k.link.settings w → Does s st p (act_of (act_by k (taking w)) s) (called_by k x.sender.memory (taking w))
  taken_does w v =
      let r = k.link.resends in
      let g = k.link.settings in
      let j = v.verdict in
      subst (λ (z : Shown). Does s st p (act_of (act_by k (taking z)) s) (called_by k x.sender.memory (taking z))) (sym v.is)
      (subst (λ (z : Option (Result Accepted Refusal)). Does s st p (block_read_of r s (verdict_by z) j.content) (called_by k x.sender.memory (taking (shown g j)))) (sym (made_again j.verdict v.given))
      (subst (λ (a : Acted). Does s st p a (called_by k x.sender.memory (taking (shown g j)))) (sym (sends_the_same r s j.verdict j.content))
      (block_does s valid st p h.sender.state h.sender.report r rd.resends j.verdict j.content v.given)))

  call_does : (q : SenderCall) → Offered x.sender.arrived q → Does s st p (act_of (act_by k q) s) (called_by k x.sender.memory q)
  call_does opening o = open_does s valid st p h.sender.state h.sender.report
  call_does ending o = ended_does s valid st p h.sender.state h.sender.report
  call_does resetting o = reset_does s valid st p h.sender.state h.sender.report
  call_does timing o = timer_does s valid st p h.sender.state h.sender.report k.link.resends rd.resends
  call_does (submitting limit d) o = submit_does s valid st p h.sender.state h.sender.report limit d
  call_does (taking w) o = taken_does w (given_in_lem k.link.settings w o h.sender.arrived)

  pub call_words : (q : SenderCall) → Offered x.sender.arrived q → eqb (called_by k x.sender.memory q).number 1 ≡ false → Words (act_of (act_by k q) s) (called_by k x.sender.memory q)
  call_words q o = call_report s st p (act_of (act_by k q) s) (called_by k x.sender.memory q) h.sender.state h.sender.report (call_does q o)

  -- what it shows is what the history has of it
  pub call_showed : (q : SenderCall) → Offered x.sender.arrived q → SameReport (report_of (called_by k x.sender.memory q)) (reported (act_of (act_by k q) s))
  call_showed q o = same_report s st p (act_of (act_by k q) s) (called_by k x.sender.memory q) h.sender.state h.sender.report (call_does q o)

  pub call_number : (q : SenderCall) → Offered x.sender.arrived q → (called_by k x.sender.memory q).number ≡ (act_of (act_by k q) s).refusal
  call_number q o = go (called_by k x.sender.memory q) (call_does q o)
    where
      go : (c : Called) → Does s st p (act_of (act_by k q) s) c → c.number ≡ (act_of (act_by k q) s).refusal
      go c (done o z) = ap (λ (k : Called). k.number) z ∙ sym o
      go c (refused n o z t same none report) = o

  word_is : get_or st 5 0 ≡ waiting_word s.waiting
  word_is = ap (λ (ws : List ℕ). get_or ws 5 0) h.sender.state.is

  pub waiting_is : waiting_of (get_or st 5 0) ≡ s.waiting
  waiting_is = ap waiting_of word_is ∙ waiting_back s.waiting

  closed_is : eqb (get_or st 5 0) 0 ≡ true → s.waiting ≡ Closed
  closed_is e = sym waiting_is ∙ ap waiting_of (eqb-true (get_or st 5 0) 0 e)

  open_is : not (eqb (get_or st 5 0) 0) ≡ true → is_open s.waiting ≡ true
  open_is e = sym (ap not (ap (λ (n : ℕ). eqb n 0) word_is ∙ word_closed s.waiting) ∙ twice (is_open s.waiting)) ∙ e

  -- a call that applies is done
  pub call_taken : s.persisted.frozen ≡ false → (q : SenderCall) → Offered x.sender.arrived q → applies q st ≡ true → (called_by k x.sender.memory q).number ≡ 0
  call_taken u q o e = call_number q o ∙ go q e
    where
      go : (q : SenderCall) → applies q st ≡ true → (act_of (act_by k q) s).refusal ≡ 0
      go opening e = open_taken s valid (closed_is e) u
      go ending e = ended_taken s valid (open_is e)
      go timing e = timer_taken s valid (open_is e) k.link.resends rd.resends
      go (taking w) e = block_taken s valid (open_is e) k.link.resends rd.resends (verdict_by (verdict_from w.number w.type)) w.content
      go resetting e = not_both (sym e)
      go (submitting limit d) e = not_both (sym e)

-- the act is given the link's r
pub due_resends : (k : Passed) (q : SenderCall) → falls_due (act_by k q) ≡ true → resends_of (act_by k q) ≡ k.link.resends
due_resends k opening e = not_both (sym e)
due_resends k ending e = not_both (sym e)
due_resends k resetting e = not_both (sym e)
due_resends k timing e = refl
due_resends k (submitting limit d) e = not_both (sym e)
due_resends k (taking w) e = refl
