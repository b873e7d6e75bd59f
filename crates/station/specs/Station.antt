-- Document 01, 'X3.28 receiving station' (000, C.3.1.5 and C.3.3.2), as changed by 02, §2: what it replies, appends and hands over.
use Rattle.std.specs.Prelude.{List, Bool, true, cond, ℕ, ◌+◌, length, leb, eqb, Option, Some, None}
use Rattle.lists.specs.Bytes.{put}
use Rattle.lists.specs.Outcome.{need, Outcome, outcome}
use Rattle.refusal.specs.Refusal.{STATE}
use Rattle.station.specs.declared.Station.{Station}
use Rattle.station.specs.declared.Station.TheVariants.{Closed, Open}
use Rattle.station.specs.declared.Ending.{Ending}
use Rattle.station.specs.declared.Ending.TheVariants.{Etb, Etx}
use Rattle.station.specs.declared.Reply.{Reply}
use Rattle.station.specs.declared.Reply.TheVariants.{NoReply, Ack, Nak, Eot}
use Rattle.station.specs.declared.Acted.{Acted}

-- "Opened by the driver, it expects block 1"; "The driver may open at any time, which starts afresh."
abbrev pub opened_station : Station
opened_station = Open 1 0

-- "after 7 comes 0"
unfoldable pub next_number : ℕ → ℕ
next_number n = cond (eqb n 7) 0 (n + 1)

-- 02, §2: "the number just before .., counting round from 0 back to 7": the number after n is m
unfoldable pub precedes : ℕ → ℕ → Bool
precedes n m = eqb (next_number n) m

-- 02, §2: "A duplicate is the number just before the expected one"
abbrev pub is_duplicate : ℕ → ℕ → Bool
is_duplicate expected n = precedes n expected

-- what is a station: the expected number is 0 to 7, whatever the length of the text held
abbrev pub valid_station : Station → Bool
valid_station Closed = true
valid_station (Open e h) = leb e 7

-- what an act answers: the station then, its reply, and whether a message is complete
abbrev pub station_acted : Station → Reply → Option ℕ → Acted
station_acted s r m = record { refusal = 0; station = s; reply = r; message = m }

-- "dropped": the station stays as it is
abbrev pub dropped : Station → Reply → Acted
dropped s r = station_acted s r None

-- what is no station, and an act that does not apply: 11
abbrev pub refused_station : Station → Acted
refused_station s = record { refusal = STATE; station = s; reply = NoReply; message = None }

-- "answered ACK with its number; ETX completes the message, and the next block starts a new one at the buffer's start": n bytes are held then
abbrev pub appended : ℕ → Ending → ℕ → Acted
appended e Etb n = station_acted (Open (next_number e) n) (Ack e) None
appended e Etx n = station_acted (Open (next_number e) 0) (Ack e) (Some n)

-- "A good block with the expected number is appended to the message buffer";
-- "An otherwise good expected block that doesn't fit after the text held: EOT, station closed, held text forgotten."
abbrev pub expected_block : ℕ → ℕ → Ending → List ℕ → List ℕ → Outcome Acted
expected_block e h x text b =
    need (leb (h + length text) (length b)) (outcome (station_acted Closed Eot None) b)
    (outcome (appended e x (h + length text)) (put b h text))

-- "A bad block, one numbered over 7, or one ended by ENQ: dropped, NAK."; the expected number; "a duplicate: dropped, ACK with its own number";
-- 02, §2: "Any other unexpected number is dropped with NAK."
abbrev pub open_block : ℕ → ℕ → ℕ → Ending → List ℕ → List ℕ → Outcome Acted
open_block e h n x text b =
    need (leb n 7) (outcome (dropped (Open e h) Nak) b)
    (cond (eqb n e) (expected_block e h x text b)
    (cond (is_duplicate e n) (outcome (dropped (Open e h) (Ack n)) b) (outcome (dropped (Open e h) Nak) b)))

-- a good block, ended by ETB or ETX; "Closed: anything is dropped without reply."
unfoldable pub good_block_of : Station → ℕ → Ending → List ℕ → List ℕ → Outcome Acted
good_block_of Closed n x text b = outcome (dropped Closed NoReply) b
good_block_of (Open e h) n x text b =
    need (valid_station (Open e h)) (outcome (refused_station (Open e h)) b) (open_block e h n x text b)

-- "A bad block, .. or one ended by ENQ: dropped, NAK."
unfoldable pub bad_block_of : Station → Acted
bad_block_of Closed = dropped Closed NoReply
bad_block_of (Open e h) = need (valid_station (Open e h)) (refused_station (Open e h)) (dropped (Open e h) Nak)

-- "A received EOT does the same without reply": station closed, held text forgotten
unfoldable pub eot_of : Station → Acted
eot_of Closed = dropped Closed NoReply
eot_of (Open e h) = need (valid_station (Open e h)) (refused_station (Open e h)) (station_acted Closed NoReply None)
