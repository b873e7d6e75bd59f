-- One exchange on a good line: a message is written, read, stored and answered, and its answer is read.
use Rattle.std.specs.Prelude.{Some, Ok}
use mathlib.Core.Path.{◌≡◌, refl, ap, ◌∙◌, subst}
use mathlib.Core.List.{List, [], ◌∷◌, append-nil}
use mathlib.Core.Bool.{Bool, true, false, cond}
use Prim.Native.Nat.{ℕ, zero, suc, ◌+◌}
use Prim.Native.Char.{code}
use native.Mathlib.Omega.{arith}
use lib.ListN.{length}
use lib.Dec.{leb}
use borrow.Author.Tests.{le-leb, eq-eqb}
use Rattle.lists.specs.Outcome.{Outcome}
use Rattle.block.specs.Format.{block_of}
use Rattle.numbers.specs.Numbers.{text_of}
use Rattle.numbers.specs.declared.SequenceNumber.{SequenceNumber}
use Rattle.header.specs.declared.Code.{Code}
use Rattle.messages.specs.Messages.{answer_message, answerable}
use Rattle.message_theorems.proofs.Answer.{answer_reads_back}
use Rattle.stream.specs.Stream.{Judged, Mode, between, run, after}
use Rattle.numbers.proofs.Reading.{text_allowed}
use Rattle.control_id.specs.ControlId.{in_words}
use Rattle.receiver.specs.Receiver.{valid_expected, valid_receiver, row_of, closed, opens, decide_of, answer_block, replied, reply_space, answer_of as report_of}
use Rattle.receiver.proofs.Rows.{id_back}
use Rattle.receiver.specs.declared.Application.{Application}
use Rattle.receiver.specs.declared.Row.{Row}
use Rattle.receiver.specs.declared.Receiver.{Receiver}
use Rattle.receiver.specs.declared.Decided.{Decided}
use Rattle.receiver.specs.declared.Answered.{Answered}
use Rattle.sender.specs.Sender.{valid_sender, is_open, waits_of, answer_of}
use Rattle.sender.specs.declared.Persisted.{Persisted}
use Rattle.sender.specs.declared.Sender.{Sender}
use Rattle.sender.specs.declared.Acted.{Acted}
use Rattle.block_theorems.specs.Shapes.{Writable, accepted}
use Rattle.block_theorems.proofs.RoundTrip.{reads_back}
use Rattle.link.specs.SenderHistory.{Entry, reported}
use Rattle.link.specs.Line.{Reader, Line, line, new_reader}
use Rattle.link.specs.Duties.{every, one_at, others_at}
use Rattle.link.specs.System.{Link, System, SendingEnd, Stored, stored, sending, ReceivingEnd, receiving, link, request_of, named_after, acted_end, same_flag, same_persisted}
use Rattle.link.specs.System.{has_with, request_decided, decision_reported, sender_persists, sender_writes, sender_acts, receiver_decides, receiver_persists, receiver_reports, receiver_writes}
use Rattle.link.specs.Promise.{Ready}
use Rattle.link.proofs.Messages.{Nameable, SayableAnswer, request_reads, request_control, request_writable, answer_writable, data_read}
use Rattle.link.proofs.Receiving.{decided, holding_valid, answer_is}
use Rattle.link.proofs.RequestsRead.{nameable_fits, reply_is}
use Rattle.link.proofs.AnswersRead.{read_own}
use Rattle.link.proofs.Bytes.{alone}
use Rattle.link.proofs.Runs.{Reaches, act, join, to, from, reader_through, verdicts_of, read_requests, read_answers, through_mode}

flag_same : (b : Bool) → same_flag b b ≡ true
flag_same true = refl
flag_same false = refl

persisted_same : (p : Persisted) → same_persisted p p ≡ true
persisted_same p =
    rw (eq-eqb p.first p.first refl, eq-eqb p.delivered p.delivered refl, eq-eqb p.last p.last refl, flag_same p.resynchronized, flag_same p.frozen)

-- a buffer for a reply
unfoldable pub blank : ℕ → List ℕ
blank zero = []
blank (suc n) = 0 ∷ blank n

blank_length : (n : ℕ) → length (blank n) ≡ n
unfolding blank
blank_length zero = refl
blank_length (suc n) = ap suc (blank_length n)

abbrev pub reply_buffer : Link → List ℕ
reply_buffer l = blank (reply_space l.settings)

buffer_fits_lem : (l : Link) → leb (0 + reply_space l.settings) (length (reply_buffer l)) ≡ true
buffer_fits_lem l = le-leb (0 + reply_space l.settings) (length (reply_buffer l)) (let z = blank_length (reply_space l.settings) in omega arith)

-- a reader between blocks
pub record Resting : Type 0 where
  pub reader : Reader
  pub rests : reader.mode ≡ between

abbrev pub resting : Resting
resting = record { reader = new_reader; rests = refl }

-- a sender's end with all persisted
abbrev pub sending_at : Sender → List SequenceNumber → List Entry → SendingEnd
sending_at s ns h = sending s s.persisted ns [] h

-- a receiver's end that has persisted and reported all
abbrev pub receiving_at : Stored → List ℕ → List Judged → ReceivingEnd
receiving_at x d ws = receiving (closed x.expected) x d false [] ws

-- both ends have persisted all and acted on all, no decision is open, no reply is pending, and the lines are empty
abbrev pub quiet_at : SendingEnd → Stored → List ℕ → Resting → Resting → System
quiet_at s x d far own = link s (receiving_at x d []) (line far.reader []) (line own.reader [])

-- some run leads to such ends
pub record Comes (l : Link) (y : System) (s : SendingEnd) (x : Stored) : Type 0 where
  pub message : List ℕ
  pub far : Resting
  pub own : Resting
  pub run : Reaches l y (quiet_at s x message far own)

module _ (l : Link) (rd : Ready l) where
  -- a block of data that is all that is on the line
  module _ (d : List ℕ) (w : Writable l.settings (code "D") d) (r : Resting) where
    pub block_says : verdicts_of l r.reader (block_of l.settings (code "D") d) ≡ accepted r.reader.offset (code "D") d ∷ []
    block_says =
        ap (λ (m : Mode). run l.settings r.reader.offset m (block_of l.settings (code "D") d)) r.rests
        ∙ alone l.settings (code "D") d w r.reader.offset
        ∙ ap (λ (t : ℕ). accepted r.reader.offset t d ∷ []) (data_read l.settings rd.settings)

    abbrev pub after_block : Resting
    after_block =
        record {
          reader = reader_through l r.reader (block_of l.settings (code "D") d);
          rests =
              through_mode l (block_of l.settings (code "D") d) r.reader
              ∙ ap (λ (m : Mode). after l.settings r.reader.offset m (block_of l.settings (code "D") d)) r.rests
              ∙ (reads_back l.settings (code "D") d w).rest r.reader.offset;
        }

  -- the answer to what waits is all that is on the line back: it is read and acted on, and what changed is persisted
  module _ (s : Sender) (v : SequenceNumber) (valid : valid_sender s ≡ true) (on : is_open s.waiting ≡ true) (names : waits_of s ≡ Some v)
      (d : Code) (m : SequenceNumber) (y : SayableAnswer v m) (k : Acted) (takes : answer_of s (Some d) (Ok m) ≡ k) where
    abbrev answer : List ℕ
    answer = answer_message (text_of v) d m

    abbrev pub answer_able : Writable l.settings (code "D") answer
    answer_able = answer_writable l.settings rd.settings v d m y

    -- the sender's end with these verdicts read
    abbrev heard : List Judged → List Entry → SendingEnd
    heard ws h = sending s s.persisted [] ws h

    pub read_answer : (h : List Entry) (e : ReceivingEnd) (b : Line) (own : Resting)
        → Reaches l (link (sending_at s [] h) e b (line own.reader (block_of l.settings (code "D") answer)))
        (link (sending_at k.sender (named_after [] k) (reported k ∷ h)) e b (line (after_block answer answer_able own).reader []))
    unfolding one_at others_at
    read_answer h e b own =
        let block = block_of l.settings (code "D") answer in
        let end = line (reader_through l own.reader (block_of l.settings (code "D") answer)) [] in
        let one = accepted own.reader.offset (code "D") answer in
        join l
        (from l (ap (λ (bs : List ℕ). link (heard [] h) e b (line own.reader bs)) (append-nil block))
        (to l (read_answers l (block_of l.settings (code "D") answer) [] own.reader s s.persisted [] [] h e b)
        (ap (λ (ws : List Judged). link (heard ws h) e b end) (block_says answer answer_able own))))
        (join l
        (to l (act l (sender_acts 0) (link (heard (one ∷ []) h) e b end))
        (ap (λ (z : Acted). link (acted_end (heard (one ∷ []) h) [] z) e b end)
        (read_own l.resends s answer v d m (answer_reads_back (text_of v) d m y.control y.number) rd.resends valid on names (length answer) ∙ takes)))
        (act l sender_persists (link (acted_end (heard (one ∷ []) h) [] k) e b end)))

  -- the message v is named and all else is quiet: it is written, read, stored, and answered by the row that it meets; and the answer is taken
  module _ (a : Application) (s : Sender) (v : SequenceNumber) (valid : valid_sender s ≡ true) (on : is_open s.waiting ≡ true)
      (names : waits_of s ≡ Some v) (nm : Nameable l.first v)
      (x : Stored) (vx : valid_expected x.expected ≡ true) (r : Row) (meets : row_of a x.expected (Ok v) ≡ r) (sayable : answerable r.number ≡ true)
      (k : Acted) (takes : answer_of s (Some r.code) (Ok r.number) ≡ k) (h : List Entry) (y : System) (i : Comes l y (sending_at s (v ∷ []) h) x) where
    abbrev before : List ℕ
    before = i.message

    abbrev far : Resting
    far = i.far

    abbrev own : Resting
    own = i.own

    abbrev request : List ℕ
    request = request_of l v

    abbrev request_block : List ℕ
    request_block = block_of l.settings (code "D") request

    abbrev reply : List ℕ
    reply = answer_block l.settings (text_of v) r

    abbrev x' : Stored
    x' = stored r.persisted.expected (has_with r.persisted.transaction request x.has)

    able : Writable l.settings (code "D") request
    able = request_writable l rd v nm

    says : SayableAnswer v r.number
    says = record { control = request_control l rd v nm; number = sayable }

    abbrev far' : Resting
    far' = after_block request able far

    abbrev own' : Resting
    own' = after_block (answer_message (text_of v) r.code r.number) (answer_able s v valid on names r.code r.number says k takes) own

    -- the ends and lines, with the message and the reply on the way
    abbrev at : ReceivingEnd → List ℕ → Reader → List ℕ → System
    at e xs r bs = link (sending_at s [] h) e (line r xs) (line own.reader bs)

    -- written
    step_1 : Reaches l (quiet_at (sending_at s (v ∷ []) h) x before far own) (at (receiving_at x before []) request_block far.reader [])
    unfolding one_at others_at
    step_1 =
        let z = quiet_at (sending_at s (v ∷ []) h) x before far own in
        to l (act l (sender_writes 0) z)
        (ap (λ (b : Bool). cond b (at (receiving_at x before []) request_block far.reader []) z) (persisted_same s.persisted))

    -- read
    abbrev one : Judged
    one = accepted far.reader.offset (code "D") request

    step_2 : Reaches l (at (receiving_at x before []) request_block far.reader []) (at (receiving_at x before (one ∷ [])) [] far'.reader [])
    step_2 =
        from l (ap (λ (xs : List ℕ). at (receiving_at x before []) xs far.reader []) (append-nil request_block))
        (to l (read_requests l request_block [] far.reader (sending_at s [] h) (closed x.expected) x before false [] [] (line own.reader []))
        (ap (λ (ws : List Judged). at (receiving_at x before ws) [] far'.reader []) (block_says request able far)))

    -- decided on
    abbrev holding : Receiver
    holding = record { expected = x.expected; decision = Some (record { control_id = in_words (text_of v); row = r }) }

    abbrev held : Stored → Bool → ReceivingEnd
    held y b = receiving holding y request b [] []

    decides : decide_of a (closed x.expected) (code "D") request ≡ opens (closed x.expected) (in_words (text_of v)) r
    decides = decided a x.expected vx request v (request_reads l rd v nm) able.bytes ∙ ap (opens (closed x.expected) (in_words (text_of v))) meets

    step_3 : Reaches l (at (receiving_at x before (one ∷ [])) [] far'.reader []) (at (held x false) [] far'.reader [])
    unfolding one_at others_at
    step_3 =
        let z = at (receiving_at x before (one ∷ [])) [] far'.reader [] in
        to l (act l (receiver_decides 0 a) z) (ap (λ (k : Decided). request_decided z [] request k) decides)

    -- stored
    step_4 : Reaches l (at (held x false) [] far'.reader []) (at (held x' true) [] far'.reader [])
    step_4 = act l receiver_persists (at (held x false) [] far'.reader [])

    -- reported, and answered
    reply_given_lem : Outcome Answered
    reply_given_lem = replied (closed r.persisted.expected) reply 0 (reply_buffer l)

    reports : report_of l.settings true holding 0 (reply_buffer l) ≡ reply_given_lem
    unfolding reply_given_lem
    reports =
        let control = request_control l rd v nm in
        answer_is l.settings rd.settings holding
        (subst (λ (z : Row). valid_receiver (record { expected = x.expected; decision = Some (record { control_id = in_words (text_of v); row = z }) }) ≡ true) meets
        (holding_valid a x.expected vx v control (nameable_fits l.first v nm))) 0 (reply_buffer l) true (buffer_fits_lem l)
        ∙ ap (λ (id : List ℕ). replied (closed r.persisted.expected) (answer_block l.settings id r) 0 (reply_buffer l)) (id_back (text_of v) (text_allowed v) control)

    step_5 : Reaches l (at (held x' true) [] far'.reader []) (at (receiving (closed r.persisted.expected) x' request false (reply ∷ []) []) [] far'.reader [])
    unfolding reply_given_lem
    step_5 =
        let z = at (held x' true) [] far'.reader [] in
        to l (act l (receiver_reports true 0 (reply_buffer l)) z)
        (ap (λ (o : Outcome Answered). decision_reported every z true 0 o) reports
        ∙ ap (λ (bs : List (List ℕ)). at (receiving (closed r.persisted.expected) x' request false bs []) [] far'.reader [])
        (reply_is l.settings (code "D") (answer_message (text_of v) r.code r.number) 0 (reply_buffer l) reply_given_lem (omega arith) refl refl))

    step_6 : Reaches l (at (receiving (closed r.persisted.expected) x' request false (reply ∷ []) []) [] far'.reader []) (at (receiving_at x' request []) [] far'.reader reply)
    step_6 = act l receiver_writes (at (receiving (closed r.persisted.expected) x' request false (reply ∷ []) []) [] far'.reader [])

    pub exchange : Comes l y (sending_at k.sender (named_after [] k) (reported k ∷ h)) x'
    exchange =
        record {
          message = request;
          far = far';
          own = own';
          run =
              join l i.run
              (join l step_1 (join l step_2 (join l step_3 (join l step_4 (join l step_5 (join l step_6
              (read_answer s v valid on names r.code r.number says k takes h (receiving_at x' request []) (line far'.reader []) own)))))));
        }
