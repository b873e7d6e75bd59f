-- Document 01, 'Cases by hand (P: proved)', and 02, §2: "The P cases are proved of the definitions as one list under one claim". A later case is one equation more in the list.
use Rattle.std.specs.Prelude.{◌≡◌, List, [], ◌∷◌, ◌++◌, true, ℕ, replicate, Option, Some, None, Result}
use Prim.Native.Char.{code}
use Prim.Native.String.{String}
use Rattle.lists.specs.Bytes.{bytes}
use Rattle.lists.specs.Outcome.{Outcome, outcome}
use Rattle.block.specs.Format.{hybrid_block}
use Rattle.refusal.specs.Refusal.{number_of, length_of, accepted_as, refused_by}
use Rattle.settings.specs.declared.Kind.TheVariants.{Hybrid}
use Rattle.settings.specs.declared.Settings.{Settings}
use Rattle.refusal.specs.declared.Accepted.{Accepted}
use Rattle.refusal.specs.declared.Refusal.{Refusal}
use Rattle.stream.specs.Stream.{Judged, verdicts}
use Rattle.numbers.specs.declared.SequenceNumber.TheVariants.{Number}
use Rattle.control_id.specs.ControlId.{in_words}
use Rattle.header.specs.declared.Code.TheVariants.{AA, AR}
use Rattle.receiver.specs.Receiver.{row, closed, opens, decide_of, answered, answer_of}
use Rattle.receiver.specs.declared.Application.TheVariants.{Accepts}
use Rattle.receiver.specs.declared.Row.{Row}
use Rattle.receiver.specs.declared.Decided.{Decided}
use Rattle.receiver.specs.declared.Answered.{Answered}
use Rattle.sender.specs.Sender.{fresh_sender, open_of, timer_act_of}
use Rattle.sender.specs.declared.Event.TheVariants.{Abandoned}
use Rattle.sender.specs.declared.Acted.{Acted}
use Rattle.message_theorems.specs.Examples.{AnswerFor17, ControlFor0, ControlForMinusOne}
use Rattle.whole_block.specs.Whole.{check_of}
use Rattle.station.specs.Station.{dropped}
use Rattle.station.specs.Interrupt.{turn, station_state, station_answer, good_block_answer}
use Rattle.station.specs.declared.Station.TheVariants.{Open}
use Rattle.station.specs.declared.Ending.TheVariants.{Etb}
use Rattle.station.specs.declared.Reply.TheVariants.{Ack, Nak}
use Rattle.station.specs.declared.ReplyKind.{ReplyKind}
use Rattle.station.specs.declared.ReplyKind.TheVariants.{Ack as AckKind, Nak as NakKind}
use Rattle.station.specs.declared.Interrupt.TheVariants.{Unasked}
use Rattle.station.specs.declared.Reply.{Reply}

infixr 2 ◌and◌
-- "with default settings and D of 4,096"
abbrev pub usual : Settings
usual = record { kind = Hybrid; start_block = 0x0B; end_block = 0x1C; data_limit = 4096 }

-- "for each verdict, SB's offset, the number (0 if accepted) and the data length (0 if refused)"
pub record Line : Type 0 where
  pub offset : ℕ
  pub number : ℕ
  pub size : ℕ

abbrev pub line : ℕ → ℕ → ℕ → Line
line s n m = record { offset = s; number = n; size = m }

abbrev pub lines_of : List Judged → List Line
lines_of [] = []
lines_of (w ∷ l) = line w.offset (number_of w.verdict) (length_of w.verdict) ∷ lines_of l

-- what a stream of these bytes gives
abbrev pub lines : List ℕ → List Line
lines xs = lines_of (verdicts usual xs)

-- what the check of a whole block gives
abbrev pub check : List ℕ → Result Accepted Refusal
check xs = check_of usual xs

-- an empty D block with the fields ccccc xxx; an N block of a reason with its field xxx
abbrev pub empty_block : String → List ℕ
empty_block fields = bytes "\u{b}D23\r" ++ bytes fields ++ bytes "\u{1c}\r"

abbrev pub reason_block : String → String → List ℕ
reason_block reason xxx = bytes "\u{b}N23\r" ++ bytes reason ++ bytes "00006" ++ bytes xxx ++ bytes "\u{1c}\r"

-- "P1 empty D block: count 00005, sum 067."
abbrev pub p1 : List ℕ
p1 = empty_block "00005067"

-- "P2 data `A` CR: 00007, 015."
abbrev pub p2 : List ℕ
p2 = bytes "\u{b}D23\rA\r00007015\u{1c}\r"

-- "P3 N block X: bytes 0B 4E 32 33 0D 58 30 30 30 30 36 30 31 37 1C 0D."
abbrev pub p3 : List ℕ
p3 = 0x0B ∷ 0x4E ∷ 0x32 ∷ 0x33 ∷ 0x0D ∷ 0x58 ∷ 0x30 ∷ 0x30 ∷ 0x30 ∷ 0x30 ∷ 0x36 ∷ 0x30 ∷ 0x31 ∷ 0x37 ∷ 0x1C ∷ 0x0D ∷ []

-- a receiver's decision on an accepted block with the number 5 in MSH-13; and the report of success, with the smallest D and just enough space for a reply
abbrev pub smallest : Settings
smallest = record { kind = Hybrid; start_block = 0x0B; end_block = 0x1C; data_limit = 128 }

abbrev pub decides5 : Option ℕ → Decided
decides5 e = decide_of Accepts (closed e) (code "D") (bytes "MSH|^~\\&|||||||ADT|5|P|2.3.1|5\r")

abbrev pub answers5 : Option ℕ → Outcome Answered
answers5 e = answer_of smallest true (decides5 e).receiver 0 (replicate 143 0)

-- the decision to the control ID 5, which is open then
abbrev pub opens5 : Option ℕ → Row → Decided
opens5 e r = opens (closed e) (in_words (bytes "5")) r

-- what is expected then, and the reply of 56 bytes; the other bytes of the buffer stay
abbrev pub replies : String → Option ℕ → Outcome Answered
replies block e = outcome (answered 0 (closed e) 56) (bytes block ++ replicate 87 0)

-- what a sender's act says of giving up: the sends made, and no circuit is open
abbrev pub gave_up : ℕ → Acted
gave_up n = record { refusal = 0; sender = fresh_sender 1; send = None; sends = n; event = Abandoned; block = 0; offset = 0 }

-- every one of the equations holds
pub data Each : List (Type 0) → Type 1 where
  none : Each []
  ◌and◌ : {P : Type 0} {l : List (Type 0)} → P → Each l → Each (P ∷ l)

-- an open station that has acknowledged its last block drops a block with this reply, and no byte of the buffer changes
abbrev pub DropsWith : ℕ → ℕ → Reply → ReplyKind → Type 0
DropsWith expected n w k =
    good_block_answer (station_state (Open expected 0) (turn AckKind Unasked)) n Etb (bytes "A") (bytes "U")
    ≡ outcome (station_answer (dropped (Open expected 0) w) (turn k Unasked)) (bytes "U")

abbrev pub cases : List (Type 0)
cases =
    -- P1
    (hybrid_block usual (code "D") [] ≡ p1)
    ∷ (lines p1 ≡ line 0 0 0 ∷ [])
    ∷ (check p1 ≡ accepted_as (code "D") 0)
    -- P2
    ∷ (hybrid_block usual (code "D") (bytes "A\r") ≡ p2)
    ∷ (lines p2 ≡ line 0 0 2 ∷ [])
    ∷ (check p2 ≡ accepted_as (code "D") 2)
    -- P3
    ∷ (hybrid_block usual (code "N") (bytes "X") ≡ p3)
    ∷ (lines p3 ≡ line 0 0 1 ∷ [])
    ∷ (check p3 ≡ accepted_as (code "N") 1)
    -- "P4 sums of N blocks C, B, G: 010, 011, 014."
    ∷ (hybrid_block usual (code "N") (bytes "C") ≡ reason_block "C" "010")
    ∷ (hybrid_block usual (code "N") (bytes "B") ≡ reason_block "B" "011")
    ∷ (hybrid_block usual (code "N") (bytes "G") ≡ reason_block "G" "014")
    ∷ (lines (reason_block "C" "010") ≡ line 0 0 1 ∷ [])
    ∷ (lines (reason_block "B" "011") ≡ line 0 0 1 ∷ [])
    ∷ (lines (reason_block "G" "014") ≡ line 0 0 1 ∷ [])
    ∷ (check (reason_block "C" "010") ≡ accepted_as (code "N") 1)
    ∷ (check (reason_block "B" "011") ≡ accepted_as (code "N") 1)
    ∷ (check (reason_block "G" "014") ≡ accepted_as (code "N") 1)
    -- "P5 P1 with sum 999: accepted; with 256: 7."
    ∷ (lines (empty_block "00005999") ≡ line 0 0 0 ∷ [])
    ∷ (check (empty_block "00005999") ≡ accepted_as (code "D") 0)
    ∷ (lines (empty_block "00005256") ≡ line 0 7 0 ∷ [])
    ∷ (check (empty_block "00005256") ≡ refused_by 7 0)
    -- "P6 P1 with count 00006: 6."
    ∷ (lines (empty_block "00006067") ≡ line 0 6 0 ∷ [])
    ∷ (check (empty_block "00006067") ≡ refused_by 6 0)
    -- "P7 P1 with count 00006 and sum 068: 6."
    ∷ (lines (empty_block "00006068") ≡ line 0 6 0 ∷ [])
    ∷ (check (empty_block "00006068") ≡ refused_by 6 0)
    -- "P8 SB D SB: 8."
    ∷ (lines (bytes "\u{b}D\u{b}") ≡ line 0 8 0 ∷ [])
    ∷ (check (bytes "\u{b}D\u{b}") ≡ refused_by 8 0)
    -- "For P1 followed by P3 it prints exactly `0 0 0` and `15 0 1`"
    ∷ (lines (p1 ++ p3) ≡ line 0 0 0 ∷ line 15 0 1 ∷ [])
    ∷ (check (p1 ++ p3) ≡ refused_by 5 0)
    -- "P9 receiver NONE, 5: AA 5, then expects 6."
    ∷ (decides5 None ≡ opens5 None (row AA (Number 5) (Some 5) (Some 6)))
    ∷ (answers5 None ≡ replies "\u{b}D23\rMSH|^~\\&|||||||ACK|5|P|2.3.1\rMSA|AA|5||5\r00046112\u{1c}\r" (Some 6))
    -- "P10 expects 6, gets 5: AR 6."
    ∷ (decides5 (Some 6) ≡ opens5 (Some 6) (row AR (Number 6) None (Some 6)))
    ∷ (answers5 (Some 6) ≡ replies "\u{b}D23\rMSH|^~\\&|||||||ACK|5|P|2.3.1\rMSA|AR|5||6\r00046096\u{1c}\r" (Some 6))
    -- "P11 r = 0, one timer: gives up, count 1.": on a circuit that has just been opened
    ∷ (timer_act_of (record { first = 1; resends = 0 }) (open_of (fresh_sender 1)).sender ≡ gave_up 1)
    -- "P12 station expects 3, gets 2: ACK 2; gets 4: NAK."
    ∷ DropsWith 3 2 (Ack 2) AckKind
    ∷ DropsWith 3 4 Nak NakKind
    -- 02, §2: "expects 0, gets 7: ACK 7, and expects 3, gets 1: NAK."
    ∷ DropsWith 0 7 (Ack 7) AckKind
    ∷ DropsWith 3 1 Nak NakKind
    -- 'Header fields': the answer for request 17 and the control messages for 0 and -1, byte for byte
    ∷ AnswerFor17
    ∷ ControlFor0
    ∷ ControlForMinusOne
    ∷ []
