-- The drivers do their work: a run by the C functions alone, computed, in which a transaction is delivered, of either kind of block.
use Rattle.refusal.specs.Refusal.{accepted_as}
use mathlib.Core.Path.{◌≡◌, refl}
use mathlib.Core.List.{List, [], ◌∷◌, ◌++◌}
use mathlib.Core.Bool.{true, false}
use Prim.Native.Nat.{ℕ}
use native.Mathlib.Omega.{arith}
use Prim.Native.Char.{code}
use lib.ListN.{get_or}
use Rattle.lists.specs.Bytes.{bytes, same, put, over}
use Rattle.settings.specs.Settings.{valid, valid_link}
use Rattle.settings.specs.declared.Kind.{Kind}
use Rattle.settings.specs.declared.Kind.TheVariants.{Hybrid, Minimal}
use Rattle.block.specs.Content.{content_of}
use Rattle.block.specs.Format.{five_digits, three_digits, count_field, checksum_of, hybrid_body, hybrid_block, minimal_block, block_of}
use Rattle.block.specs.Judge.{type_matches, header_ok, checksum_matches, judge_parts, data_of, judge_hybrid, judge_minimal, judge}
use Rattle.stream.specs.Stream.{end_verdict, move, run}
use Rattle.stream.specs.Scan.{stored_verdict, step, fold, read_of}
use Rattle.writer.specs.Write.{frame_of}
use Rattle.fields.specs.Fields.{field_start, field_of, bytes_of}
use Rattle.header.specs.Header.{begins, readable_header, header_of, readable_answer, acknowledgment_of, code_field}
use Rattle.numbers.specs.Numbers.{number_field, decimal, text_of}
use Rattle.numbers.specs.declared.SequenceNumber.{SequenceNumber}
use Rattle.numbers.specs.declared.SequenceNumber.TheVariants.{MinusOne, Number}
use Rattle.header.specs.declared.Code.TheVariants.{AA}
use Rattle.messages.specs.Messages.{answer_message, control_message, valid_control_id, valid_type, message_type}
use Rattle.control_block.specs.ControlBlock.{control_block_of}
use Rattle.control_id.specs.ControlId.{packed, unpacked, in_words, word_bytes, bytes_in}
use Rattle.receiver.specs.Receiver.{valid_expected, row_of, is_row, carried, valid_receiver, decide_of, answer_of}
use Rattle.sender.specs.Sender.{valid_sender, sender_of, submit_of, open_of, ended_of, timer_of, block_read_of, timer_act_of, block_act_of}
use Rattle.words.specs.Words.{write_finished}
use Rattle.block_calls.specs.ReaderWords.{reader_words, decoded, verdict_words, pending_words}
use Rattle.block_calls.specs.ReadCalls.{fresh_reader_call, read_call}
use Rattle.block_calls.specs.WriteCalls.{write_call}
use Rattle.message_calls.specs.ControlCalls.{control_block_call}
use Rattle.sender_calls.specs.SenderCalls.{sender_in, fresh_call, open_call, ended_call, timer_call, block_call, submit_call}
use Rattle.receiver_calls.specs.ReceiverCalls.{receiver_in, decide_call, answer_call}
use Rattle.link.specs.Duties.{one_at, others_at}
use Rattle.link.specs.Line.{accepted_of, some_of, one_of, each_of}
use Rattle.link.specs.Example.{example_log, example_link}
use Rattle.link.proofs.Exchange.{blank}
use Rattle.link.proofs.ReceiverInvariant.{expects_next}
use Rattle.link.proofs.Example.{ready}
use Rattle.call_theorems.specs.Driver.{SettingNumbers, hybrid, minimal, Passed, ReaderMemory, reader_memory, SenderMemory, sender_memory, ReceiverMemory, receiver_memory, Drivers, reader_past, driven_by, DriversLeft, drivers_start}
use Rattle.call_theorems.specs.Driver.{DriverAct, opens, ends, timer, submits, stores, receiver_stores, replies, sends, reads, takes, receiver_reads, decides, answers, tries, crashes, receiver_crashes, damages_forward, damages_back, enough_to_send, enough_to_receive}
use Rattle.call_theorems.specs.DriversPromise.{Agrees, all_given, DriversSafe, delivered_word, frozen_word}
use Rattle.call_theorems.proofs.Demand.{calls_safe}

numbers_of : Kind → SettingNumbers
numbers_of Hybrid = hybrid 0x0B 0x1C 128
numbers_of Minimal = minimal 128

passed : Kind → Passed
passed k = record { link = example_link k; numbers = numbers_of k; letters = bytes "ADT" }

reader_space : ReaderMemory
reader_space = reader_memory (blank 4) (blank 140) (blank 8)

sender_space : SenderMemory
sender_space = sender_memory (blank 7) (blank 8) reader_space (blank 143) (blank 2)

receiver_space : ReceiverMemory
receiver_space = receiver_memory (blank 9) (blank 5) (blank 2) reader_space (blank 143)

-- the oldest message is stored, written and sent, read in two parts at the far end, decided on, stored, reported and answered, and the answer is read and taken
exchanged : List DriverAct
exchanged =
    stores ∷ sends 0 ∷ receiver_reads 20 ∷ receiver_reads 64 ∷ decides 1 ∷ receiver_stores ∷ answers true 0 ∷ replies ∷ reads 30 ∷ reads 64 ∷ takes 0 ∷ []

reversed : List DriverAct → List DriverAct → List DriverAct
reversed [] ds = ds
reversed (a ∷ more) ds = reversed more (a ∷ ds)

new_circuit : DriverAct
new_circuit = opens reader_space reader_space

-- 1 is submitted and lost after the exchange for -1, the sender crashes, and on the next circuit 0 and then 1 get through
lost_run : List DriverAct
lost_run =
    reversed
    (submits 128 (example_log 1) ∷ stores ∷ new_circuit ∷ (exchanged ++ stores ∷ sends 0 ∷ damages_forward [] ∷ crashes sender_space ∷ new_circuit ∷ (exchanged ++ (exchanged ++ stores ∷ [])))) []

-- 1 is sent twice, as the timer ran out, and both come in one part. The second is refused while the first is decided on; the first could not be stored, and is reported so; the second is tried, stored and answered
restored_run : List DriverAct
restored_run =
    reversed
    (submits 128 (example_log 1) ∷ stores ∷ new_circuit ∷ (exchanged ++ stores ∷ sends 0 ∷ timer ∷ sends 0 ∷ receiver_reads 200 ∷ receiver_reads 200 ∷ decides 1 ∷ decides 1 ∷ answers false 0 ∷ tries 1 ∷ decides 2
    ∷ receiver_stores ∷ answers true 0 ∷ replies ∷ reads 200 ∷ takes 0 ∷ stores ∷ ends ∷ [])) []

-- The beginning of the night of slot 7: an earlier tenant's answers to -1 and to 1 are on the line, one to 1 is still to be sent, and one to 1 was read.
old_answer : Kind → SequenceNumber → List ℕ
old_answer k v = block_of (example_link k).settings (code "D") (answer_message (text_of v) AA v)

answers_left : Kind → DriversLeft
answers_left k =
    record {
      back = old_answer k MinusOne ++ old_answer k (Number 1);
      pending = old_answer k (Number 1) ∷ [];
      answers = record { offset = 0; verdict = accepted_as (code "D") 42; content = answer_message (text_of (Number 1)) AA (Number 1) } ∷ [];
    }

none_left : DriversLeft
none_left = record { back = []; pending = []; answers = [] }

-- 1 and 2 are submitted. After the exchange for -1 the receiver stores 1, and its answer is lost. 1 is sent three times more, and each is lost; when the timer runs out again, it is given up
abandoned_run : List DriverAct
abandoned_run =
    submits 128 (example_log 1) ∷ submits 128 (example_log 2) ∷ stores ∷ new_circuit ∷ (exchanged ++ stores ∷ sends 0 ∷ receiver_reads 200 ∷ decides 1 ∷ receiver_stores ∷ answers true 0 ∷ replies ∷ damages_back []
    ∷ timer ∷ sends 0 ∷ damages_forward [] ∷ timer ∷ sends 0 ∷ damages_forward [] ∷ timer ∷ sends 0 ∷ damages_forward [] ∷ timer ∷ [])

-- the receiver crashes, and on the next circuit the answer to 0 says that 1 is there, and 2 gets through
resumed_run : List DriverAct
resumed_run = abandoned_run ++ receiver_crashes receiver_space ∷ new_circuit ∷ (exchanged ++ (exchanged ++ stores ∷ []))

begun : Kind → DriversLeft → Drivers
begun k d = drivers_start (passed k) d sender_space receiver_space 7

pub delivered : Kind → Drivers
delivered k = driven_by (passed k) (begun k none_left) lost_run

pub restored : Kind → Drivers
restored k = driven_by (passed k) (begun k none_left) restored_run

pub abandoned : Kind → Drivers
abandoned k = driven_by (passed k) (begun k (answers_left k)) (reversed abandoned_run [])

pub resumed : Kind → Drivers
resumed k = driven_by (passed k) (begun k (answers_left k)) (reversed resumed_run [])

-- what is seen where a run ends: what the receiver has stored and its word; GMV_SENDER_DELIVERED and GMV_SENDER_FROZEN as stored, GMV_SENDER_WAITING; GMV_ACT_SENDS and GMV_ACT_EVENT
pub record Seen : Type 0 where
  pub has : List (List ℕ)
  pub words : List ℕ

unfoldable pub seen_of : Drivers → Seen
seen_of x =
    let m = x.sender.memory in
    record {
      has = x.receiver.stored_has;
      words = get_or x.receiver.stored 0 0 ∷ delivered_word x.sender.stored ∷ frozen_word x.sender.stored ∷ get_or m.state 5 0 ∷ get_or m.report 2 0 ∷ get_or m.report 3 0 ∷ [];
    }

-- 1 is stored and 2 expected, and 1 is stored as delivered; and so where storing failed once. Given up after 4 sends (2 is GMV_EVENT_ABANDONED), 1 is stored at the receiver alone;
-- and where that goes on, 1 and 2 are stored as delivered
pub record Delivered (k : Kind) : Type 0 where
  pub lost : seen_of (delivered k) ≡ record { has = example_log 1 ∷ []; words = 2 ∷ 1 ∷ 0 ∷ 1 ∷ 0 ∷ 1 ∷ [] }
  pub restored : seen_of (restored k) ≡ record { has = example_log 1 ∷ []; words = 2 ∷ 1 ∷ 0 ∷ 0 ∷ 0 ∷ 0 ∷ [] }
  pub abandoned : seen_of (abandoned k) ≡ record { has = example_log 1 ∷ []; words = 2 ∷ 0 ∷ 0 ∷ 0 ∷ 4 ∷ 2 ∷ [] }
  pub resumed : seen_of (resumed k) ≡ record { has = example_log 1 ∷ example_log 2 ∷ []; words = 3 ∷ 2 ∷ 0 ∷ 1 ∷ 0 ∷ 1 ∷ [] }

delivered_hybrid : Delivered Hybrid
unfolding seen_of numbers_of passed reader_space sender_space receiver_space exchanged new_circuit reversed old_answer answers_left none_left begun abandoned_run resumed_run delivered restored abandoned resumed lost_run restored_run five_digits three_digits count_field checksum_of hybrid_body hybrid_block minimal_block block_of type_matches header_ok checksum_matches judge_parts data_of judge_hybrid judge_minimal judge content_of same put over valid valid_link end_verdict move run stored_verdict step fold read_of frame_of field_start field_of bytes_of begins readable_header header_of readable_answer acknowledgment_of code_field number_field decimal answer_message control_message valid_type message_type control_block_of packed unpacked in_words word_bytes bytes_in valid_control_id valid_expected row_of is_row carried valid_receiver decide_of answer_of valid_sender sender_of submit_of open_of ended_of timer_of block_read_of timer_act_of block_act_of write_finished reader_words decoded verdict_words pending_words fresh_reader_call read_call write_call control_block_call sender_in fresh_call open_call ended_call timer_call block_call submit_call receiver_in decide_call answer_call one_at others_at accepted_of some_of one_of each_of blank reader_past driven_by
delivered_hybrid = record { lost = refl; restored = refl; abandoned = refl; resumed = refl }

delivered_minimal : Delivered Minimal
unfolding seen_of numbers_of passed reader_space sender_space receiver_space exchanged new_circuit reversed old_answer answers_left none_left begun abandoned_run resumed_run delivered restored abandoned resumed lost_run restored_run five_digits three_digits count_field checksum_of hybrid_body hybrid_block minimal_block block_of type_matches header_ok checksum_matches judge_parts data_of judge_hybrid judge_minimal judge content_of same put over valid valid_link end_verdict move run stored_verdict step fold read_of frame_of field_start field_of bytes_of begins readable_header header_of readable_answer acknowledgment_of code_field number_field decimal answer_message control_message valid_type message_type control_block_of packed unpacked in_words word_bytes bytes_in valid_control_id valid_expected row_of is_row carried valid_receiver decide_of answer_of valid_sender sender_of submit_of open_of ended_of timer_of block_read_of timer_act_of block_act_of write_finished reader_words decoded verdict_words pending_words fresh_reader_call read_call write_call control_block_call sender_in fresh_call open_call ended_call timer_call block_call submit_call receiver_in decide_call answer_call one_at others_at accepted_of some_of one_of each_of blank reader_past driven_by
delivered_minimal = record { lost = refl; restored = refl; abandoned = refl; resumed = refl }

pub drivers_deliver : (k : Kind) → Delivered k
drivers_deliver Hybrid = delivered_hybrid
drivers_deliver Minimal = delivered_minimal

-- ---- and the premises hold of them
agrees : (k : Kind) → Agrees (passed k)
unfolding numbers_of passed message_type valid_type valid
agrees Hybrid = record { settings = refl; letters = refl }
agrees Minimal = record { settings = refl; letters = refl }

sender_enough : (k : Kind) → enough_to_send (example_link k).settings sender_space ≡ true
unfolding sender_space reader_space blank
sender_enough Hybrid = refl
sender_enough Minimal = refl

receiver_enough : (k : Kind) → enough_to_receive (example_link k).settings receiver_space ≡ true
unfolding receiver_space reader_space blank
receiver_enough Hybrid = refl
receiver_enough Minimal = refl

given : (k : Kind) → all_given (answers_left k).answers ≡ true
unfolding answers_left
given k = refl

pub drivers_safe : (k : Kind) → DriversSafe (example_link k) (resumed k)
unfolding passed begun resumed
drivers_safe k =
    calls_safe (passed k) (agrees k) (ready k) (answers_left k) (given k) sender_space receiver_space 7 (sender_enough k) (receiver_enough k) (expects_next 7 (omega arith) (omega arith))
    (reversed resumed_run [])
