-- What two drivers have, as words and bytes, stands for the two ends of a link.
use Rattle.std.specs.Prelude.{Option, Some, None}
use mathlib.Core.Path.{◌≡◌, refl, sym, ap, ◌∙◌, subst}
use mathlib.Core.List.{List, [], ◌∷◌, ◌++◌}
use mathlib.Core.Bool.{Bool, true, false, cond, not, ◌&&◌}
use mathlib.Core.Logic.{◌⊎◌}
use Prim.Native.Nat.{ℕ, ◌+◌, ◌≤◌}
use native.Mathlib.Omega.{arith}
use lib.ListN.{length, length-append, drop, get_or}
use lib.Dec.{leb, eqb}
use borrow.Author.Tests.{leb-true, ne_eqb}
use Rattle.lists.specs.Bytes.{greatest_word, over}
use Rattle.lists.specs.Outcome.{Called, called}
use Rattle.lists.proofs.Calls.{over-is}
use Rattle.settings.specs.declared.Settings.{Settings}
use Rattle.numbers.specs.declared.SequenceNumber.{SequenceNumber}
use Rattle.numbers.specs.declared.SequenceNumber.TheVariants.{MinusOne, Number}
use Rattle.stream.specs.Stream.{Judged}
use Rattle.sender.specs.Sender.{is_open, waiting_message, waits_of}
use Rattle.sender.specs.declared.Waiting.{Waiting}
use Rattle.sender.specs.declared.Waiting.TheVariants.{Closed, Idle, Resynchronizing, Querying, Sending}
use Rattle.sender.specs.declared.Sender.{Sender}
use Rattle.sender.specs.declared.Event.{Event}
use Rattle.sender.specs.declared.Event.TheVariants.{NoEvent, Delivered, DeliveredUnknown, Abandoned, Froze, Dropped}
use Rattle.sender.specs.declared.Acted.{Acted}
use Rattle.sender_calls.specs.SenderCalls.{waiting_word, persisted_words, sender_words, send_words, event_words, act_words}
use Rattle.receiver.specs.Receiver.{same_expected}
use Rattle.receiver.specs.declared.Decision.{Decision}
use Rattle.receiver_calls.specs.ReceiverCalls.{expected_word, transaction_word, flag, receiver_words}
use Rattle.link.specs.SenderHistory.{Entry, reported, crashed}
use Rattle.link.specs.Line.{Line}
use Rattle.link.specs.System.{Link, System, SendingEnd, ReceivingEnd, sends_of, named_after, acted_end}
use Rattle.link.proofs.Queues.{Each, each_none, each_more}
use Rattle.call_theorems.specs.Verdicts.{reader_gives}
use Rattle.call_theorems.specs.Reading.{Shown, shown}
use Rattle.call_theorems.specs.Driver.{ReaderMemory, Named, CallReport, SenderEnd, ReceiverEnd, Noted, noted, Drivers, with_verdict, named_by, waits_words, report_of, sender_called}
use Rattle.call_theorems.proofs.OneCall.{over-length}
use Rattle.call_theorems.proofs.Streams.{StandsAt}

-- ---- the relation
-- a message named, and a verdict handed on
abbrev pub SameSend : Named → SequenceNumber → Type 0
SameSend m v = m.kind ∷ m.number ∷ [] ≡ send_words (Some v)

pub record SameVerdict (g : Settings) (s : Shown) (w : Judged) : Type 0 where
  pub is : s ≡ shown g w
  pub given : reader_gives w.verdict ≡ true

-- the words of a state, and whatever stands behind them
pub record Behind (words state : List ℕ) : Type 0 where
  pub rest : List ℕ
  pub is : state ≡ words ++ rest

-- the reader's memory stands where the line says; an offset is a word
pub record StandsOn (g : Settings) (m : ReaderMemory) (x : Line) : Type 0 where
  pub stands : StandsAt g x.reader.offset x.reader.mode (called 0 m.state m.buffer m.verdict)
  pub within : x.reader.offset ≤ greatest_word

-- what a call showed, and what the history has for it
abbrev pub SameReport : CallReport → Entry → Type 0
SameReport r (reported a) = (r.send ≡ send_words a.send) × (r.waits ≡ send_words (waits_of a.sender))
SameReport r crashed = r.waits ≡ 0 ∷ 0 ∷ []

pub record SenderShows (g : Settings) (e : SenderEnd) (y : SendingEnd) (x : Line) : Type 0 where
  pub state : Behind (sender_words y.sender) e.memory.state
  pub report : 8 ≤ length e.memory.report
  pub stored : e.stored ≡ persisted_words y.persisted
  pub named : Each SameSend e.named y.named
  pub arrived : Each (SameVerdict g) e.arrived y.arrived
  pub reports : Each SameReport e.reports y.history
  pub reader : StandsOn g e.memory.reader x

-- what the driver noted of the open decision
abbrev pub SameNote : Noted → List ℕ → Option ℕ → Option Decision → Type 0
SameNote n d e None = n ≡ n
SameNote n d e (Some o) =
    n ≡ noted (transaction_word o.row.persisted.transaction) (expected_word o.row.persisted.expected) (flag (not (same_expected o.row.persisted.expected e))) d

pub record ReceiverShows (g : Settings) (e : ReceiverEnd) (y : ReceivingEnd) (x : Line) : Type 0 where
  pub state : Behind (receiver_words y.receiver) e.memory.state
  pub decision : 5 ≤ length e.memory.decision
  pub report : 2 ≤ length e.memory.report
  pub stored : e.stored ≡ expected_word y.persisted.expected ∷ []
  pub stored_has_lem : e.stored_has ≡ y.persisted.has
  pub note : SameNote e.noted y.message y.receiver.expected y.receiver.decision
  pub reports : e.reports ≡ y.reports
  pub pending : e.pending ≡ y.pending
  pub arrived : Each (SameVerdict g) e.arrived y.arrived
  pub reader : StandsOn g e.memory.reader x

pub record Shows (l : Link) (x : Drivers) (y : System) : Type 0 where
  pub sender : SenderShows l.settings x.sender y.sending x.back
  pub receiver : ReceiverShows l.settings x.receiver y.receiving x.forward
  pub forward : x.forward ≡ y.forward
  pub back : x.back ≡ y.back

-- other words for the verdict, which calls only write
pub other_verdict : (g : Settings) (m : ReaderMemory) (x : Line) → StandsOn g m x → (v : List ℕ) → 8 ≤ length v → StandsOn g (with_verdict v m) x
other_verdict g m x h v e =
    let c = h.stands.encodes in
    record {
      stands = record {
        reader = h.stands.reader;
        encodes = record { done = refl; state_words_lem = c.state_words_lem; verdict_words_lem = e; reader = c.reader };
        stands = h.stands.stands;
      };
      within = h.within;
    }

-- ---- words written over others
pub over_behind : (ws st : List ℕ) → length ws ≤ length st → Behind ws (over st ws)
over_behind ws st h = record { rest = drop (length ws) st; is = over-is st ws h }

pub behind_length : {ws st : List ℕ} → Behind ws st → length ws ≤ length st
behind_length {ws} {st} b = let e : length st ≡ length ws + length b.rest = ap length b.is ∙ length-append ws b.rest in omega arith

-- what waits, by the words of the state
pub waits_is : (s : Sender) (st : List ℕ) → Behind (sender_words s) st → waits_words st ≡ send_words (waits_of s)
waits_is s st b = ap waits_words b.is ∙ go s.waiting
  where
    go : (w : Waiting) → waits_words ((persisted_words s.persisted ++ waiting_word w ∷ s.sends ∷ []) ++ b.rest) ≡ send_words (waiting_message s.persisted w)
    go Closed = refl
    go Idle = refl
    go Resynchronizing = refl
    go Querying = refl
    go Sending = let n = s.persisted.delivered + 1 in ap (λ (z : Bool). cond z 2 3 ∷ n ∷ []) (sym (ne_eqb n 0 (λ q. omega arith)))

-- ---- a call of an act of the sender: it was done, or it was refused and left the state. 1 writes no report
pub data Does (s : Sender) (st p : List ℕ) (a : Acted) (c : Called) : Type 0 where
  done : a.refusal ≡ 0 → c ≡ called 0 (over st (sender_words a.sender)) [] (over p (act_words a)) → Does s st p a c
  refused : leb 1 a.refusal ≡ true → c.number ≡ a.refusal → c.state ≡ st → length c.report ≡ length p → a.sender ≡ s → a.send ≡ None
      → (a.refusal ≡ 1) ⊎ (c.report ≡ over p (act_words a)) → Does s st p a c

-- what the report names
pub eight : (a : Acted) → length (act_words a) ≡ 8
eight a = go a.send a.event
  where
    events : (e : Event) (n m : ℕ) → length (event_words e ++ n ∷ m ∷ []) ≡ 5
    events NoEvent n m = refl
    events (Delivered k c) n m = refl
    events (DeliveredUnknown k) n m = refl
    events Abandoned n m = refl
    events Froze n m = refl
    events Dropped n m = refl

    go : (m : Option SequenceNumber) (e : Event) → length (send_words m ++ a.sends ∷ event_words e ++ a.block ∷ a.offset ∷ []) ≡ 8
    go None e = let z = events e a.block a.offset in omega (arith, z)
    go (Some MinusOne) e = let z = events e a.block a.offset in omega (arith, z)
    go (Some (Number n)) e = let z = events e a.block a.offset in omega (arith, z)

-- GMV_ACT_SEND of a message by its number is not 0
pub kind_some : (b : Bool) → eqb (cond b 2 3) 0 ≡ false
kind_some true = refl
kind_some false = refl

-- one message
one_named : (k n : ℕ) (v : SequenceNumber) (st rest : List ℕ) → eqb k 0 ≡ false → k ∷ n ∷ [] ≡ send_words (Some v) → Each SameSend (named_by (called 0 st [] (k ∷ n ∷ rest))) (v ∷ [])
one_named k n v st rest e q =
    subst (λ (b : Bool). Each SameSend (cond (not b) (record { kind = k; number = n } ∷ []) []) (v ∷ [])) (sym e) (each_more {y = v} q each_none)

module _ (a : Acted) (st p : List ℕ) (h : 8 ≤ length p) where
  report_is : over p (act_words a) ≡ act_words a ++ drop (length (act_words a)) p
  report_is = over-is p (act_words a) (let e = eight a in omega arith)

  -- what a done call names is what the act names
  pub named_is : Each SameSend (named_by (called 0 st [] (over p (act_words a)))) (sends_of a.send)
  named_is = subst (λ (r : List ℕ). Each SameSend (named_by (called 0 st [] r)) (sends_of a.send)) (sym report_is) (go a.send)
    where
      go : (m : Option SequenceNumber) → Each SameSend (named_by (called 0 st [] ((send_words m ++ a.sends ∷ event_words a.event ++ a.block ∷ a.offset ∷ []) ++ drop (length (act_words a)) p))) (sends_of m)
      go None = each_none
      go (Some MinusOne) = each_more refl each_none
      go (Some (Number n)) =
          one_named (cond (eqb n 0) 2 3) n (Number n) st ((a.sends ∷ event_words a.event ++ a.block ∷ a.offset ∷ []) ++ drop (length (act_words a)) p) (kind_some (eqb n 0)) refl

  pub send_is : get_or (over p (act_words a)) 0 0 ∷ get_or (over p (act_words a)) 1 0 ∷ [] ≡ send_words a.send
  send_is = ap (λ (r : List ℕ). get_or r 0 0 ∷ get_or r 1 0 ∷ []) report_is ∙ go a.send
    where
      go : (m : Option SequenceNumber) → get_or ((send_words m ++ a.sends ∷ event_words a.event ++ a.block ∷ a.offset ∷ []) ++ drop (length (act_words a)) p) 0 0
          ∷ get_or ((send_words m ++ a.sends ∷ event_words a.event ++ a.block ∷ a.offset ∷ []) ++ drop (length (act_words a)) p) 1 0 ∷ [] ≡ send_words m
      go None = refl
      go (Some MinusOne) = refl
      go (Some (Number n)) = refl

  pub report_length : length (over p (act_words a)) ≡ length p
  report_length = over-length p (act_words a) (let e = eight a in omega arith)

each_append : {us vs : List Named} {ns ms : List SequenceNumber} → Each SameSend us ns → Each SameSend vs ms → Each SameSend (us ++ vs) (ns ++ ms)
each_append each_none q = q
each_append (each_more p ps) q = each_more p (each_append ps q)

-- no circuit is open exactly where GMV_SENDER_WAITING is 0
named_with : (w : Waiting) {us vs : List Named} {ns ms : List SequenceNumber} → Each SameSend us ns → Each SameSend vs ms
    → Each SameSend (cond (eqb (waiting_word w) 0) [] (us ++ vs)) (cond (is_open w) (ns ++ ms) [])
named_with Closed p q = each_none
named_with Idle p q = each_append p q
named_with Resynchronizing p q = each_append p q
named_with Querying p q = each_append p q
named_with Sending p q = each_append p q

-- what a call shows is what the history has of its act
pub same_report : (s : Sender) (st p : List ℕ) (a : Acted) (c : Called) → Behind (sender_words s) st → 8 ≤ length p → Does s st p a c → SameReport (report_of c) (reported a)
same_report s st p a c b h (done o z) =
    let behind = over_behind (sender_words a.sender) st (behind_length b) in
    subst (λ (k : Called). SameReport (report_of k) (reported a)) (sym z) (send_is a st p h, waits_is a.sender (over st (sender_words a.sender)) behind)
same_report s st p a c b h (refused n o z l same none report) =
    let number : eqb c.number 0 ≡ false = ne_eqb c.number 0 (λ q. let k = leb-true 1 a.refusal n in omega arith) in (
      ap (λ (t : Bool). cond t (get_or c.report 0 0 ∷ get_or c.report 1 0 ∷ []) (0 ∷ 0 ∷ [])) number ∙ ap send_words (sym none),
      ap waits_words z ∙ waits_is s st b ∙ ap (λ (t : Sender). send_words (waits_of t)) (sym same),
    )

module _ (g : Settings) (e : SenderEnd) (y : SendingEnd) (x : Line) (i : SenderShows g e y x) (a : Acted) (c : Called)
    (d : Does y.sender e.memory.state e.memory.report a c) (ws : List Shown) (vs : List Judged) (arrived : Each (SameVerdict g) ws vs) where
  showed : SameReport (report_of c) (reported a)
  showed = same_report y.sender e.memory.state e.memory.report a c i.state i.report d

  pub call_shows : SenderShows g (sender_called e ws c) (acted_end y vs a) x
  call_shows = go d
    where
      go : Does y.sender e.memory.state e.memory.report a c → SenderShows g (sender_called e ws c) (acted_end y vs a) x
      go (done o z) = subst (λ (k : Called). SenderShows g (sender_called e ws k) (acted_end y vs a) x) (sym z) done_shows
        where
          behind : Behind (sender_words a.sender) (over e.memory.state (sender_words a.sender))
          behind = over_behind (sender_words a.sender) e.memory.state (behind_length i.state)

          done_shows : SenderShows g (sender_called e ws (called 0 (over e.memory.state (sender_words a.sender)) [] (over e.memory.report (act_words a)))) (acted_end y vs a) x
          done_shows =
              record {
                state = behind;
                report = let z = report_length a e.memory.state e.memory.report i.report in let k = i.report in omega arith;
                stored = i.stored;
                named = subst (λ (t : List ℕ). Each SameSend (cond (eqb (get_or t 5 0) 0) [] (e.named ++ named_by (called 0 (over e.memory.state (sender_words a.sender)) [] (over e.memory.report (act_words a)))))
                    (named_after y.named a)) (sym behind.is) (named_with a.sender.waiting i.named (named_is a (over e.memory.state (sender_words a.sender)) e.memory.report i.report));
                arrived = arrived;
                reports = each_more (subst (λ (k : Called). SameReport (report_of k) (reported a)) z showed) i.reports;
                reader = i.reader;
              }
      go (refused n o z l same none report) =
          let number : eqb c.number 0 ≡ false = ne_eqb c.number 0 (λ q. let k = leb-true 1 a.refusal n in omega arith) in
          record {
            state = subst (λ (t : List ℕ). Behind (sender_words a.sender) t) (sym z) (subst (λ (k : Sender). Behind (sender_words k) e.memory.state) (sym same) i.state);
            report = let k = i.report in omega arith;
            stored = i.stored;
            named =
                subst (λ (t : List ℕ). Each SameSend (cond (eqb (get_or t 5 0) 0) [] (e.named ++ named_by c)) (named_after y.named a)) (sym (z ∙ i.state.is))
                (subst (λ (b : Bool). Each SameSend (cond (eqb (waiting_word y.sender.waiting) 0) [] (e.named ++ cond (b && not (eqb (get_or c.report 0 0) 0)) (record { kind = get_or c.report 0 0; number = get_or c.report 1 0 } ∷ []) []))
                (named_after y.named a)) (sym number)
                (subst (λ (m : Option SequenceNumber). Each SameSend (cond (eqb (waiting_word y.sender.waiting) 0) [] (e.named ++ [])) (cond (is_open a.sender.waiting) (y.named ++ sends_of m) [])) (sym none)
                (subst (λ (k : Sender). Each SameSend (cond (eqb (waiting_word y.sender.waiting) 0) [] (e.named ++ [])) (cond (is_open k.waiting) (y.named ++ []) [])) (sym same)
                (named_with y.sender.waiting i.named each_none))));
            arrived = arrived;
            reports = each_more showed i.reports;
            reader = i.reader;
          }
