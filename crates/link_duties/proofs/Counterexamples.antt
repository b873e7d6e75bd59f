-- Runs from a tenancy's beginning that break the statement, each without one duty of the hosts, on a link of either kind. f is 1.
use Rattle.std.specs.Prelude.{Option, Some, None, Ok}
use mathlib.Core.Path.{◌≡◌, refl, sym, ap, ◌∙◌}
use mathlib.Core.List.{List, [], ◌∷◌, ◌++◌}
use mathlib.Core.Bool.{Bool, true, false, ◌&&◌}
use Prim.Native.Nat.{ℕ, zero, suc}
use Prim.Native.Char.{code}
use native.Mathlib.Omega.{arith}
use lib.ListN.{length}
use Rattle.lists.specs.Bytes.{same, put}
use Rattle.settings.specs.Settings.{valid, valid_link}
use Rattle.settings.specs.declared.Kind.{Kind}
use Rattle.settings.specs.declared.Kind.TheVariants.{Hybrid, Minimal}
use Rattle.block.specs.Content.{content_of}
use Rattle.block.specs.Format.{five_digits, three_digits, count_field, checksum_of, hybrid_body, hybrid_block, minimal_block, block_of}
use Rattle.block.specs.Judge.{type_matches, header_ok, checksum_matches, judge_parts, data_of, judge_hybrid, judge_minimal, judge}
use Rattle.stream.specs.Stream.{between, end_verdict, move, run}
use Rattle.fields.specs.Fields.{field_start, field_of, bytes_of}
use Rattle.numbers.specs.Numbers.{number_field, decimal, text_of}
use Rattle.numbers.specs.declared.SequenceNumber.{SequenceNumber}
use Rattle.numbers.specs.declared.SequenceNumber.TheVariants.{MinusOne, Number}
use Rattle.header.specs.Header.{begins, readable_header, header_of, readable_answer, acknowledgment_of, code_field}
use Rattle.header.specs.declared.Code.TheVariants.{AA}
use Rattle.messages.specs.Messages.{answer_message, control_message, numbered_message, valid_control_id}
use Rattle.control_id.specs.ControlId.{packed, unpacked, in_words, word_bytes, bytes_in}
use Rattle.receiver.specs.Receiver.{valid_expected, row_of, is_row, carried, valid_receiver, decide_of, answer_of}
use Rattle.receiver.specs.declared.Application.TheVariants.{Accepts}
use Rattle.receiver.specs.declared.Decision.{Decision}
use Rattle.sender.specs.Sender.{valid_sender, submit_of, open_of, timer_of, block_read_of}
use Rattle.link.specs.Duties.{Duty, exchanges, empties_lines, drops_replies, drops_verdicts, brings_nothing_late, writes_in_order, offers_in_order, sender_persists_first, persists_as_one}
use Rattle.link.specs.Duties.{reports_persisted, reports_failed, settles_writes, drops_named, drops_reports, drops_decision, survives, every, one_at, others_at}
use Rattle.link.specs.Line.{accepted_of, some_of}
use Rattle.link.specs.System.{System, Remains, nothing_left, stored, beginning, run_of, SystemAct, opens, timer, submits, sender_persists, sender_writes, sender_reads, sender_acts, sender_crashes}
use Rattle.link.specs.System.{receiver_reads, receiver_decides, receiver_persists, receiver_reports, receiver_writes, receiver_crashes, damages_forward, persists_transaction, lands_late, reverts_to, brings_late}
use Rattle.link.specs.Promise.{Safe, transactions}
use Rattle.link.specs.Needed.{every_but}
use Rattle.link.specs.Example.{example_log, example_link}
use Rattle.lists.proofs.Same.{same_self}
use Rattle.link.proofs.Facts.{not_both}
use Rattle.link.proofs.Acts.{transactions-length}
use Rattle.link.proofs.Exchange.{blank}

-- ---- a run, the oldest act first
unfoldable pub times : ℕ → SystemAct → List SystemAct
times zero a = []
times (suc n) a = a ∷ times n a

unfoldable pub reversed : List SystemAct → List SystemAct → List SystemAct
reversed [] ds = ds
reversed (a ∷ more) ds = reversed more (a ∷ ds)

-- the oldest message named is persisted and written
unfoldable pub sends : List SystemAct
sends = sender_persists ∷ sender_writes 0 ∷ []

-- a block is read at the far end; it is decided on, that is stored, and reported; the answer is read and acted on
unfoldable pub reads : List SystemAct
reads = times 64 receiver_reads

unfoldable pub decides : SystemAct
decides = receiver_decides 0 Accepts

unfoldable pub reports_stored : SystemAct
reports_stored = receiver_reports true 0 (blank 143)

unfoldable pub reports_failure : SystemAct
reports_failure = receiver_reports false 0 (blank 143)

unfoldable pub receives : List SystemAct
receives = decides ∷ receiver_persists ∷ reports_stored ∷ []

unfoldable pub answered : List SystemAct
answered = times 64 sender_reads ++ sender_acts 0 ∷ []

unfoldable pub exchanged : List SystemAct
exchanged = sends ++ (reads ++ (receives ++ receiver_writes ∷ answered))

unfoldable pub submitted : ℕ → SystemAct
submitted n = submits 128 (example_log n)

-- a circuit, on which the exchange for -1 was made and the first transaction is named
unfoldable pub begun : List SystemAct
begun = submitted 1 ∷ submitted 2 ∷ opens ∷ exchanged

-- the next message named is lost
unfoldable pub loses : List SystemAct
loses = sender_persists ∷ sender_writes 0 ∷ damages_forward [] ∷ []

-- what the decision on 1 said is stored after all
unfoldable pub landed : SystemAct
landed = lands_late (stored (Some 2) (example_log 1 ∷ []))

-- ---- what an earlier tenant left: its answers, as bytes on the line back, as a reply not yet sent, as a verdict not yet acted on; and a decision on its 1, still open
unfoldable pub old_answer : Kind → SequenceNumber → List ℕ
old_answer k v = block_of (example_link k).settings (code "D") (answer_message (text_of v) AA v)

unfoldable pub left : List ℕ → Remains
left bs = record { forward = []; back = bs; pending = []; requests = []; answers = []; decision = None; message = [] }

unfoldable pub left_pending : List ℕ → Remains
left_pending b = record { forward = []; back = []; pending = b ∷ []; requests = []; answers = []; decision = None; message = [] }

unfoldable pub left_read : Kind → List ℕ → Remains
left_read k bs = record { forward = []; back = []; pending = []; requests = []; answers = run (example_link k).settings 0 between bs; decision = None; message = [] }

unfoldable pub foreign : List ℕ
foreign = numbered_message (record { first = code "O"; second = code "R"; third = code "U" }) (Number 1)

unfoldable pub open_decision : Option Decision
open_decision = Some (record { control_id = in_words (text_of (Number 1)); row = row_of Accepts None (Ok (Number 1)) })

unfoldable pub left_open : Remains
left_open = record { forward = []; back = []; pending = []; requests = []; answers = []; decision = open_decision; message = foreign }

-- ---- without each duty: what the receiver expects, what is left, and the acts
pub record Case : Type 0 where
  pub expected : Option ℕ
  pub remains : Remains
  pub acts : List SystemAct

unfoldable pub case : Option ℕ → Remains → List SystemAct → Case
case e m ds = record { expected = e; remains = m; acts = reversed ds [] }

unfoldable pub case_of : Kind → Duty → Case
-- 0 is answered by the number that the earlier tenant left: taken for a delivery
case_of k exchanges = case (Some 2) nothing_left (submitted 1 ∷ opens ∷ (exchanged ++ sender_persists ∷ []))
-- the night of slot 7: -1 and then 1 are lost, and the earlier tenant's answers to both come out
case_of k empties_lines =
    case None (left (old_answer k MinusOne ++ old_answer k (Number 1))) (submitted 1 ∷ opens ∷ (loses ++ (answered ++ (loses ++ (answered ++ sender_persists ∷ [])))))
-- -1 is lost, and the earlier tenant's answer to it is still to be sent. The receiver, which expects 2, answers 1 by AR 2: taken for a delivery
case_of k drops_replies = case (Some 2) (left_pending (old_answer k MinusOne)) (submitted 1 ∷ opens ∷ (loses ++ receiver_writes ∷ (answered ++ (exchanged ++ sender_persists ∷ []))))
-- the same with one that was read and not yet acted on
case_of k drops_verdicts = case (Some 2) (left_read k (old_answer k MinusOne)) (submitted 1 ∷ opens ∷ (loses ++ sender_acts 0 ∷ (exchanged ++ sender_persists ∷ [])))
-- 1 is lost, and an answer to the earlier tenant's 1 comes late
case_of k brings_nothing_late = case None nothing_left (begun ++ (loses ++ brings_late (old_answer k (Number 1)) ∷ (answered ++ sender_persists ∷ [])))
-- -1 was named twice, and the second is written behind 1: the receiver forgets, and stores 1 again
case_of k writes_in_order =
    case None nothing_left
    (submitted 1 ∷ opens ∷ timer ∷ (exchanged ++ sender_persists ∷ sender_writes 1 ∷ sender_writes 0 ∷ (reads ++ (reads ++ (receives ++ (receives ++ timer ∷ (sends
    ++ (reads ++ decides ∷ receiver_persists ∷ []))))))))
-- the second -1 is refused while the first is open, held, and offered behind 1
case_of k offers_in_order =
    case None nothing_left
    (submitted 1 ∷ opens ∷ timer ∷ (sends ++ (sends ++ (reads ++ (reads ++ decides ∷ decides ∷ receiver_persists ∷ reports_stored ∷ receiver_writes ∷ (answered ++ (sends ++ (reads
    ++ receiver_decides 1 Accepts ∷ receiver_persists ∷ reports_stored ∷ (receives ++ timer ∷ (sends ++ (reads ++ decides ∷ receiver_persists ∷ [])))))))))))
-- 2 goes out while the delivery of 1 is not persisted
case_of k sender_persists_first = case None nothing_left (begun ++ (exchanged ++ sender_writes 0 ∷ (reads ++ decides ∷ receiver_persists ∷ [])))
-- 1 is persisted, a crash comes before its number is, and 1 is sent again
case_of k persists_as_one =
    case None nothing_left (begun ++ (sends ++ (reads ++ decides ∷ persists_transaction ∷ receiver_crashes ∷ timer ∷ (sends ++ (reads ++ decides ∷ receiver_persists ∷ [])))))
-- 1 is reported stored before it is, its answer goes out, and a crash comes
case_of k reports_persisted =
    case None nothing_left (begun ++ (sends ++ (reads ++ decides ∷ reports_stored ∷ receiver_writes ∷ (answered ++ sender_persists ∷ receiver_crashes ∷ []))))
-- 1 is stored and reported as failed, so that it is still expected; it is sent again
case_of k reports_failed =
    case None nothing_left (begun ++ (sends ++ (reads ++ decides ∷ receiver_persists ∷ reports_failure ∷ timer ∷ (sends ++ (reads ++ decides ∷ receiver_persists ∷ [])))))
-- 1 is reported as failed, and what was to be stored lands after that; it is sent again
case_of k settles_writes =
    case None nothing_left (begun ++ (sends ++ (reads ++ decides ∷ reports_failure ∷ landed ∷ timer ∷ (sends ++ (reads ++ decides ∷ receiver_persists ∷ [])))))
-- 2 was named, a crash takes the delivery of 1 back, and 2 is written after it
case_of k drops_named = case None nothing_left (begun ++ (exchanged ++ sender_crashes ∷ sender_writes 0 ∷ (reads ++ decides ∷ receiver_persists ∷ [])))
-- -1 was named twice. The second is stored, a crash comes, and the report on it comes when 1 is open
case_of k drops_reports =
    case None nothing_left
    (submitted 1 ∷ opens ∷ timer ∷ (exchanged ++ (sends ++ (reads ++ decides ∷ receiver_persists ∷ receiver_crashes ∷ (sends ++ (reads ++ decides ∷ reports_stored ∷ receiver_writes ∷ (answered
    ++ sender_persists ∷ [])))))))
-- the earlier tenant's 1 was decided on, and is stored for the new one, whose own 1 comes behind it
case_of k drops_decision = case None left_open (receiver_persists ∷ reports_stored ∷ (begun ++ (sends ++ (reads ++ decides ∷ receiver_persists ∷ []))))
-- 1 was stored and answered, and the disk has the older state again
case_of k survives = case None nothing_left (begun ++ (exchanged ++ reverts_to (stored None []) ∷ []))

unfoldable pub end_of : Kind → Duty → System
end_of k d =
    let l = example_link k in
    let c = case_of k d in
    run_of (every_but d) l (beginning (every_but d) l c.expected c.remains) c.acts

-- ---- what is seen then: how many transactions the receiver has stored, and the delivered number, as held and as persisted
abbrev pub seen : System → List ℕ
seen y = length y.receiving.persisted.has ∷ y.sending.sender.persisted.delivered ∷ y.sending.persisted.delivered ∷ []

-- 1 counts as delivered, and nothing is stored; or two are stored, and none is stored as delivered
abbrev pub ends : Duty → List ℕ
ends exchanges = 0 ∷ 1 ∷ 1 ∷ []
ends empties_lines = 0 ∷ 1 ∷ 1 ∷ []
ends drops_replies = 0 ∷ 1 ∷ 1 ∷ []
ends drops_verdicts = 0 ∷ 1 ∷ 1 ∷ []
ends brings_nothing_late = 0 ∷ 1 ∷ 1 ∷ []
ends writes_in_order = 2 ∷ 0 ∷ 0 ∷ []
ends offers_in_order = 2 ∷ 0 ∷ 0 ∷ []
ends sender_persists_first = 2 ∷ 1 ∷ 0 ∷ []
ends persists_as_one = 2 ∷ 0 ∷ 0 ∷ []
ends reports_persisted = 0 ∷ 1 ∷ 1 ∷ []
ends reports_failed = 2 ∷ 0 ∷ 0 ∷ []
ends settles_writes = 2 ∷ 0 ∷ 0 ∷ []
ends drops_named = 2 ∷ 0 ∷ 0 ∷ []
ends drops_reports = 0 ∷ 1 ∷ 1 ∷ []
ends drops_decision = 2 ∷ 0 ∷ 0 ∷ []
ends survives = 0 ∷ 1 ∷ 0 ∷ []

-- ---- computed, one claim for each kind of block
abbrev pub Ends : Kind → Duty → Type 0
Ends k d = seen (end_of k d) ≡ ends d

abbrev pub All : Kind → Type 0
All k =
    Ends k exchanges × Ends k empties_lines × Ends k drops_replies × Ends k drops_verdicts × Ends k brings_nothing_late × Ends k writes_in_order × Ends k offers_in_order × Ends k sender_persists_first × Ends k persists_as_one × Ends k reports_persisted × Ends k reports_failed × Ends k settles_writes × Ends k drops_named × Ends k drops_reports × Ends k drops_decision × Ends k survives

pub computed_hybrid : All Hybrid
unfolding times reversed sends reads decides reports_stored reports_failure receives answered exchanged submitted begun loses landed old_answer left left_pending left_read foreign open_decision left_open case case_of end_of five_digits three_digits count_field checksum_of hybrid_body hybrid_block minimal_block block_of type_matches header_ok checksum_matches judge_parts data_of judge_hybrid judge_minimal judge content_of same put valid valid_link end_verdict move run field_start field_of bytes_of number_field decimal begins readable_header header_of readable_answer acknowledgment_of code_field answer_message control_message packed unpacked in_words word_bytes bytes_in valid_control_id valid_expected row_of is_row carried valid_receiver decide_of answer_of valid_sender submit_of open_of timer_of block_read_of one_at others_at accepted_of some_of run_of blank
computed_hybrid = (refl, refl, refl, refl, refl, refl, refl, refl, refl, refl, refl, refl, refl, refl, refl, refl)

pub computed_minimal : All Minimal
unfolding times reversed sends reads decides reports_stored reports_failure receives answered exchanged submitted begun loses landed old_answer left left_pending left_read foreign open_decision left_open case case_of end_of five_digits three_digits count_field checksum_of hybrid_body hybrid_block minimal_block block_of type_matches header_ok checksum_matches judge_parts data_of judge_hybrid judge_minimal judge content_of same put valid valid_link end_verdict move run field_start field_of bytes_of number_field decimal begins readable_header header_of readable_answer acknowledgment_of code_field answer_message control_message packed unpacked in_words word_bytes bytes_in valid_control_id valid_expected row_of is_row carried valid_receiver decide_of answer_of valid_sender submit_of open_of timer_of block_read_of one_at others_at accepted_of some_of run_of blank
computed_minimal = (refl, refl, refl, refl, refl, refl, refl, refl, refl, refl, refl, refl, refl, refl, refl, refl)

-- ---- the night of slot 7, more closely
-- acts from a beginning with these duties, this number expected and these answers on the line back
unfoldable pub slot_seven_of : Kind → (Duty → Bool) → Option ℕ → List ℕ → List SystemAct → System
slot_seven_of k h e bs ds = run_of h (example_link k) (beginning h (example_link k) e (left bs)) (reversed ds [])

abbrev pub without_both : Duty → Bool
without_both d = every_but exchanges d && every_but empties_lines d

unfoldable pub answer_to : Kind → SequenceNumber → SequenceNumber → List ℕ
answer_to k v n = block_of (example_link k).settings (code "D") (answer_message (text_of v) AA n)

-- the new answer to -1 is taken before an old one to 1, 1 is lost, and then the old one is taken
unfoldable pub disordered : List SystemAct
disordered =
    submitted 1 ∷ opens ∷ (sends ++ (reads ++ (receives ++ receiver_writes ∷ (times 128 sender_reads ++ sender_acts 1 ∷ (loses ++ sender_acts 0 ∷ sender_persists ∷ [])))))

-- One old answer, to 1, is dropped where order is kept, since the opening message waits: 1 is delivered only when it is stored.
-- Where answers come in another order, which the statement allows, it is enough.
-- An old one to the opening message in front of it breaks the statement in order: to 0 too, where there is no exchange.
-- And where the receiver expects 2, one old answer to -1 is enough.
abbrev SlotSeven : Kind → Type 0
SlotSeven k =
    (seen (slot_seven_of k (every_but empties_lines) None (old_answer k (Number 1)) (submitted 1 ∷ opens ∷ (answered ++ exchanged))) ≡ 0 ∷ 0 ∷ 0 ∷ [])
    × (seen (slot_seven_of k (every_but empties_lines) None (old_answer k (Number 1)) (submitted 1 ∷ opens ∷ (answered ++ (exchanged ++ exchanged)))) ≡ 1 ∷ 1 ∷ 0 ∷ [])
    × (seen (slot_seven_of k without_both None (old_answer k (Number 1)) (submitted 1 ∷ opens ∷ (answered ++ exchanged))) ≡ 0 ∷ 0 ∷ 0 ∷ [])
    × (seen (slot_seven_of k without_both None (answer_to k (Number 0) MinusOne ++ old_answer k (Number 1)) (submitted 1 ∷ opens ∷ (loses ++ (answered ++ (loses ++ answered))))) ≡ 0 ∷ 1 ∷ 0 ∷ [])
    × (seen (slot_seven_of k (every_but empties_lines) (Some 2) (old_answer k MinusOne) (submitted 1 ∷ opens ∷ (loses ++ (answered ++ exchanged)))) ≡ 0 ∷ 1 ∷ 0 ∷ [])
    × (seen (slot_seven_of k (every_but empties_lines) None (old_answer k (Number 1)) disordered) ≡ 0 ∷ 1 ∷ 1 ∷ [])

runs_hybrid : SlotSeven Hybrid
unfolding times reversed sends reads decides reports_stored reports_failure receives answered exchanged submitted begun loses landed old_answer left left_pending left_read foreign open_decision left_open case case_of end_of five_digits three_digits count_field checksum_of hybrid_body hybrid_block minimal_block block_of type_matches header_ok checksum_matches judge_parts data_of judge_hybrid judge_minimal judge content_of same put valid valid_link end_verdict move run field_start field_of bytes_of number_field decimal begins readable_header header_of readable_answer acknowledgment_of code_field answer_message control_message packed unpacked in_words word_bytes bytes_in valid_control_id valid_expected row_of is_row carried valid_receiver decide_of answer_of valid_sender submit_of open_of timer_of block_read_of one_at others_at accepted_of some_of run_of blank slot_seven_of answer_to disordered
runs_hybrid = (refl, refl, refl, refl, refl, refl)

runs_minimal : SlotSeven Minimal
unfolding times reversed sends reads decides reports_stored reports_failure receives answered exchanged submitted begun loses landed old_answer left left_pending left_read foreign open_decision left_open case case_of end_of five_digits three_digits count_field checksum_of hybrid_body hybrid_block minimal_block block_of type_matches header_ok checksum_matches judge_parts data_of judge_hybrid judge_minimal judge content_of same put valid valid_link end_verdict move run field_start field_of bytes_of number_field decimal begins readable_header header_of readable_answer acknowledgment_of code_field answer_message control_message packed unpacked in_words word_bytes bytes_in valid_control_id valid_expected row_of is_row carried valid_receiver decide_of answer_of valid_sender submit_of open_of timer_of block_read_of one_at others_at accepted_of some_of run_of blank slot_seven_of answer_to disordered
runs_minimal = (refl, refl, refl, refl, refl, refl)

pub slot_seven_runs : (k : Kind) → SlotSeven k
slot_seven_runs Hybrid = runs_hybrid
slot_seven_runs Minimal = runs_minimal

-- ---- the line to the receiver is not empty when the tenancy begins: an earlier tenant's 1 is read before any circuit, and stored
left_forward : List ℕ → Remains
left_forward bs = record { forward = bs; back = []; pending = []; requests = []; answers = []; decision = None; message = [] }

pub with_request : Kind → System
with_request k =
    let l = example_link k in
    run_of every l (beginning every l (Some 1) (left_forward (block_of (example_link k).settings (code "D") foreign))) (reversed (reads ++ decides ∷ receiver_persists ∷ []) [])

-- the same request, which was read before: the circuit is opened first, and without drops_verdicts it is decided on after that
left_request : Kind → Remains
left_request k =
    let g = (example_link k).settings in
    record { forward = []; back = []; pending = []; requests = run g 0 between (block_of g (code "D") foreign); answers = []; decision = None; message = [] }

pub with_kept : (Duty → Bool) → Kind → System
with_kept h k =
    let l = example_link k in
    run_of h l (beginning h l None (left_request k)) (reversed (submitted 1 ∷ opens ∷ decides ∷ receiver_persists ∷ []) [])

-- a decision on it is open, and without drops_decision is stored for the new tenant
pub with_open : (Duty → Bool) → Kind → System
with_open h k =
    let l = example_link k in
    run_of h l (beginning h l None left_open) (reversed (submitted 1 ∷ sender_persists ∷ receiver_persists ∷ []) [])

abbrev Stores : Kind → Type 0
Stores k =
    ((with_request k).receiving.persisted.has ≡ foreign ∷ []) × (same foreign (example_log 1) ≡ false) × ((with_kept (every_but drops_verdicts) k).receiving.persisted.has ≡ foreign ∷ [])
    × ((with_kept every k).receiving.persisted.has ≡ []) × ((with_open (every_but drops_decision) k).receiving.persisted.has ≡ foreign ∷ []) × ((with_open every k).receiving.persisted.has ≡ [])

stores_hybrid : Stores Hybrid
unfolding times reversed sends reads decides reports_stored reports_failure receives answered exchanged submitted begun loses landed old_answer left left_pending left_read foreign open_decision left_open case case_of end_of five_digits three_digits count_field checksum_of hybrid_body hybrid_block minimal_block block_of type_matches header_ok checksum_matches judge_parts data_of judge_hybrid judge_minimal judge content_of same put valid valid_link end_verdict move run field_start field_of bytes_of number_field decimal begins readable_header header_of readable_answer acknowledgment_of code_field answer_message control_message packed unpacked in_words word_bytes bytes_in valid_control_id valid_expected row_of is_row carried valid_receiver decide_of answer_of valid_sender submit_of open_of timer_of block_read_of one_at others_at accepted_of some_of run_of blank left_forward with_request left_request with_kept with_open
stores_hybrid = (refl, refl, refl, refl, refl, refl)

stores_minimal : Stores Minimal
unfolding times reversed sends reads decides reports_stored reports_failure receives answered exchanged submitted begun loses landed old_answer left left_pending left_read foreign open_decision left_open case case_of end_of five_digits three_digits count_field checksum_of hybrid_body hybrid_block minimal_block block_of type_matches header_ok checksum_matches judge_parts data_of judge_hybrid judge_minimal judge content_of same put valid valid_link end_verdict move run field_start field_of bytes_of number_field decimal begins readable_header header_of readable_answer acknowledgment_of code_field answer_message control_message packed unpacked in_words word_bytes bytes_in valid_control_id valid_expected row_of is_row carried valid_receiver decide_of answer_of valid_sender submit_of open_of timer_of block_read_of one_at others_at accepted_of some_of run_of blank left_forward with_request left_request with_kept with_open
stores_minimal = (refl, refl, refl, refl, refl, refl)

stores : (k : Kind) → Stores k
stores Hybrid = stores_hybrid
stores Minimal = stores_minimal

one_is : (k : Kind) (n : ℕ) (d : List ℕ) → n ≡ 1 → d ∷ [] ≡ transactions (example_link k) n → d ≡ example_log 1
unfolding transactions
one_is k n d e z = let w : d ∷ [] ≡ example_log 1 ∷ [] = z ∙ ap (transactions (example_link k)) e in let q : d ≡ example_log 1 = cc in q

no_foreign : (k : Kind) (y : System) → y.receiving.persisted.has ≡ foreign ∷ [] → Safe (example_link k) y → ⊥
no_foreign k y has f =
    let e = sym has ∙ f.has in
    let n : f.count ≡ 1 = sym (transactions-length (example_link k) f.count) ∙ ap length (sym e) in
    let z : same foreign foreign ≡ false = ap (same foreign) (one_is k f.count foreign n e) ∙ (stores k).1 in
    not_both (sym (same_self foreign) ∙ z)

pub with_old_request : (k : Kind) → Safe (example_link k) (with_request k) → ⊥
with_old_request k f = no_foreign k (with_request k) (stores k).0 f

-- and where it was read before, and kept over the first circuit: with the duty nothing is stored
pub with_kept_request : (k : Kind) → (Safe (example_link k) (with_kept (every_but drops_verdicts) k) → ⊥) × ((with_kept every k).receiving.persisted.has ≡ [])
with_kept_request k = (λ f. no_foreign k (with_kept (every_but drops_verdicts) k) (stores k).2 f, (stores k).3)

-- and where a decision on it was open
pub with_open_decision : (k : Kind) → (Safe (example_link k) (with_open (every_but drops_decision) k) → ⊥) × ((with_open every k).receiving.persisted.has ≡ [])
with_open_decision k = (λ f. no_foreign k (with_open (every_but drops_decision) k) (stores k).4 f, (stores k).5)

-- ---- so the statement is false of it
module _ (k : Kind) (y : System) where
  -- 1 counts as delivered, and is not stored
  pub unstored : (n : ℕ) → seen y ≡ 0 ∷ 1 ∷ n ∷ [] → Safe (example_link k) y → ⊥
  unstored n e f =
      let a : length y.receiving.persisted.has ≡ 0 = cc in
      let b : y.sending.sender.persisted.delivered ≡ 1 = cc in
      let c = sym (transactions-length (example_link k) f.count) ∙ ap length (sym f.has) ∙ a in
      let d = f.covers.at_most in
      omega arith

  -- two are stored, and none is stored as delivered
  pub ahead : (n : ℕ) → seen y ≡ 2 ∷ n ∷ 0 ∷ [] → Safe (example_link k) y → ⊥
  ahead n e f =
      let a : length y.receiving.persisted.has ≡ 2 = cc in
      let b : y.sending.persisted.delivered ≡ 0 = cc in
      let c = sym (transactions-length (example_link k) f.count) ∙ ap length (sym f.has) ∙ a in
      let d = f.persisted_covers.at_least in
      omega arith

  pub frozen : y.sending.sender.persisted.frozen ≡ true → Safe (example_link k) y → ⊥
  frozen e f = not_both (sym e ∙ f.unfrozen)
