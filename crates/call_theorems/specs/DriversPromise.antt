-- Demand 3 of what two drivers have: of the words and bytes that they hold and have stored, and of what the sender's calls report.
use Rattle.refusal.specs.Refusal.{refused_by}
use Rattle.std.specs.Prelude.{◌≡◌, List, [], ◌∷◌, Bool, true, false, cond, not, ◌&&◌, ◌⊎◌, ℕ, ◌+◌, ◌≤◌, get_or, eqb, Option, Some, None, Result}
use Rattle.lists.specs.Bytes.{same}
use Rattle.lists.specs.Outcome.{Called}
use Rattle.refusal.specs.declared.Accepted.{Accepted}
use Rattle.refusal.specs.declared.Refusal.{Refusal}
use Rattle.stream.specs.Stream.{Judged}
use Rattle.messages.specs.Messages.{control_message, message_type}
use Rattle.messages.specs.declared.Control.TheVariants.{Resynchronize, Query}
use Rattle.words.specs.Words.{verdict_from}
use Rattle.sender_calls.specs.SenderCalls.{open_call, ended_call, reset_call, timer_call, block_call, submit_call}
use Rattle.link.specs.SenderActs.{Act, opened, ended, reset, timer, block, submit, falls_due}
use Rattle.link.specs.System.{Link}
use Rattle.link.specs.Promise.{transactions, Covers}
use Rattle.call_theorems.specs.Verdicts.{reader_gives}
use Rattle.call_theorems.specs.Reading.{Shown}
use Rattle.call_theorems.specs.Driver.{Passed, Named, SenderMemory, CallReport, SenderEnd, Drivers, made_from, waits_words, report_of}

-- one of a list
pub data In {A : Type 0} (x : A) : List A → Type 0 where
  here : {ys : List A} → In x (x ∷ ys)
  there : {y : A} {ys : List A} → In x ys → In x (y ∷ ys)

-- the numbers and letters stand for the link's settings and type
pub record Agrees (k : Passed) : Type 0 where
  pub settings : made_from k.numbers ≡ Some k.link.settings
  pub letters : message_type k.letters ≡ Some k.link.name

-- the verdicts that an earlier tenancy left are some that a reader gives
abbrev pub all_given : List Judged → Bool
all_given [] = true
all_given (w ∷ ws) = reader_gives w.verdict && all_given ws

-- GMV_SENDER_DELIVERED, GMV_SENDER_LAST, GMV_SENDER_FROZEN, GMV_SENDER_WAITING
abbrev pub delivered_word : List ℕ → ℕ
delivered_word ws = get_or ws 1 0

abbrev pub last_word : List ℕ → ℕ
last_word ws = get_or ws 2 0

abbrev pub waits_word : List ℕ → ℕ
waits_word ws = get_or ws 5 0

abbrev pub frozen_word : List ℕ → ℕ
frozen_word ws = get_or ws 4 0

-- "the receiver has the first k transactions, each once, in order, and the sender's mark covers k or k less one .. The sender never freezes."
pub record DriversSafe (l : Link) (x : Drivers) : Type 0 where
  pub count : ℕ
  pub has : x.receiver.stored_has ≡ transactions l count
  pub covers : Covers l (delivered_word x.sender.memory.state) count
  pub stored_covers : Covers l (delivered_word x.sender.stored) count
  -- nothing is there that was not submitted: GMV_SENDER_LAST, as stored
  pub submitted : l.first + count ≤ last_word x.sender.stored + 1
  pub unfrozen : frozen_word x.sender.memory.state ≡ 0
  pub stored_unfrozen : frozen_word x.sender.stored ≡ 0

-- ---- "It sends at once what waits, gives up exactly when a resend falls due with its stated sends spent, and reports how many it made."
-- the calls of the sender's driver, and the act that each is
pub data SenderCall : Type 0 where
  opening ending resetting timing : SenderCall
  submitting : ℕ → List ℕ → SenderCall
  taking : Shown → SenderCall

abbrev pub called_by : Passed → SenderMemory → SenderCall → Called
called_by k m opening = open_call m.state m.report
called_by k m ending = ended_call m.state m.report
called_by k m resetting = reset_call m.state m.report
called_by k m timing = timer_call k.link.resends m.state m.report
called_by k m (submitting limit d) = submit_call limit d m.state m.report
called_by k m (taking w) = block_call k.link.resends w.number w.type w.content m.state m.report

abbrev pub verdict_by : Option (Result Accepted Refusal) → Result Accepted Refusal
verdict_by (Some v) = v
verdict_by None = refused_by 0 0

abbrev pub act_by : Passed → SenderCall → Act
act_by k opening = opened
act_by k ending = ended
act_by k resetting = reset
act_by k timing = timer k.link.resends
act_by k (submitting limit d) = submit limit d
act_by k (taking w) = block k.link.resends (verdict_by (verdict_from w.number w.type)) w.content

-- a verdict that is acted on is one that the driver was shown
abbrev pub Offered : List Shown → SenderCall → Type 0
Offered ws opening = ws ≡ ws
Offered ws ending = ws ≡ ws
Offered ws resetting = ws ≡ ws
Offered ws timing = ws ≡ ws
Offered ws (submitting limit d) = ws ≡ ws
Offered ws (taking w) = In w ws

-- GMV_ACT_SENDS, GMV_ACT_EVENT with GMV_EVENT_ABANDONED, GMV_ACT_SEND with GMV_ACT_SEND_NUMBER
abbrev pub sends_word : Called → ℕ
sends_word c = get_or c.report 2 0

abbrev pub abandoned_word : Called → Bool
abandoned_word c = eqb (get_or c.report 3 0) 2

abbrev pub send_words_of : Called → List ℕ
send_words_of c = get_or c.report 0 0 ∷ get_or c.report 1 0 ∷ []

-- where a call applies, by GMV_SENDER_WAITING: opening without a circuit, the end, the timer and each verdict on one
abbrev pub applies : SenderCall → List ℕ → Bool
applies opening st = eqb (waits_word st) 0
applies ending st = not (eqb (waits_word st) 0)
applies timing st = not (eqb (waits_word st) 0)
applies (taking w) st = not (eqb (waits_word st) 0)
applies resetting st = false
applies (submitting limit d) st = false

-- the data of a message that a report named
abbrev pub message_named : Passed → Named → List ℕ
message_named k v =
    cond (eqb v.kind 1) (control_message k.link.name Resynchronize) (cond (eqb v.kind 2) (control_message k.link.name Query) (k.link.log v.number))

-- "the sends in the history since it began to wait on this circuit": those of m among what the newest calls showed, as far back as m waited after each
unfoldable pub counted_words : List ℕ → List CallReport → ℕ
counted_words m [] = 0
counted_words m (r ∷ rs) = cond (same m r.waits) (cond (same m r.send) 1 0 + counted_words m rs) 0

abbrev pub sends_shown : List ℕ → List CallReport → ℕ
sends_shown m rs = cond (eqb (get_or m 0 0) 0) 0 (counted_words m rs)

-- the calls that neither open nor end a circuit
abbrev pub keeps_circuit : SenderCall → Bool
keeps_circuit timing = true
keeps_circuit (submitting limit d) = true
keeps_circuit (taking w) = true
keeps_circuit opening = false
keeps_circuit ending = false
keeps_circuit resetting = false

-- what a call shows, in words, done or refused: the sends of what waits then, or of what was just given up; that it gave up, exactly when;
-- that it names what waits then, or nothing; what is sent again, and goes on waiting; that the circuit goes on unless it was given up;
-- and that what waits after it is named by it, or waited before
pub record Reported (k : Passed) (e : SenderEnd) (q : SenderCall) (c : Called) : Type 0 where
  pub sends : sends_word c ≡ cond (abandoned_word c) (sends_shown (waits_words e.memory.state) e.reports) (sends_shown (waits_words c.state) (report_of c ∷ e.reports))
  pub abandons : abandoned_word c ≡ (falls_due (act_by k q) && eqb (sends_shown (waits_words e.memory.state) e.reports) (k.link.resends + 1))
  pub names : (send_words_of c ≡ 0 ∷ 0 ∷ []) ⊎ (send_words_of c ≡ waits_words c.state)
  pub resends : eqb c.number 0 ≡ true → falls_due (act_by k q) ≡ true → abandoned_word c ≡ false
      → (send_words_of c ≡ waits_words e.memory.state) × (waits_words c.state ≡ waits_words e.memory.state)
  pub goes_on_lem : keeps_circuit q ≡ true → eqb (waits_word e.memory.state) 0 ≡ false → eqb (waits_word c.state) 0 ≡ abandoned_word c
  pub at_once : (waits_words c.state ≡ send_words_of c) ⊎ ((waits_words c.state ≡ 0 ∷ 0 ∷ []) ⊎ (waits_words c.state ≡ waits_words e.memory.state))
