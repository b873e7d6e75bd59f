-- 02, §2, over a history: blocks that come in order, each transmitted once or several times.
use Rattle.std.specs.Prelude.{◌≡◌, List, [], ◌∷◌, ◌++◌, Bool, true, ◌&&◌, ℕ, ◌≤◌, replicate, None}
use Rattle.station.specs.Station.{is_duplicate}
use Rattle.station.specs.declared.Ending.{Ending}
use Rattle.station.specs.declared.Ending.TheVariants.{Etx}
use Rattle.station.specs.declared.Reply.{Reply}
use Rattle.station.specs.declared.Reply.TheVariants.{Ack}
use Rattle.station.specs.History.{Unit, good, Block, block, expected_after, messages_of, fits, unit_outcome, station_run}

-- for this expected number exactly one number is a duplicate, and it is 0 to 7
pub record OneDuplicate (expected : ℕ) : Type 0 where
  pub number : ℕ
  pub small : number ≤ 7
  pub duplicate : is_duplicate expected number ≡ true
  pub only : (n : ℕ) → is_duplicate expected n ≡ true → n ≡ number

-- after these units the unit u is dropped with the reply w, and station, buffer and messages stay equal
pub record Dropped (b : List ℕ) (us : List Unit) (u : Unit) (w : Reply) : Type 0 where
  pub reply : (unit_outcome (station_run b us) u).answer.acted.reply ≡ w
  pub incomplete : (unit_outcome (station_run b us) u).answer.acted.message ≡ None
  pub same : (station_run b (u ∷ us)).run ≡ (station_run b us).run

-- ---- lists have the newest first
-- a block as the unit that it is in order after these
abbrev pub in_order : List Block → Block → Unit
in_order bs (block x t) = good (expected_after bs) x t

-- blocks in order, each reported once
unfoldable pub each_once : List Block → List Unit
each_once [] = []
each_once (k ∷ bs) = in_order bs k ∷ each_once bs

-- a block, and how many times it comes again right after the first time
pub record Transmitted : Type 0 where
  pub content : Block
  pub retransmissions : ℕ

unfoldable pub blocks_of : List Transmitted → List Block
blocks_of [] = []
blocks_of (s ∷ ss) = s.content ∷ blocks_of ss

-- blocks in order, each reported once and for each of its retransmissions
unfoldable pub each_repeated : List Transmitted → List Unit
each_repeated [] = []
each_repeated (s ∷ ss) =
    replicate s.retransmissions (in_order (blocks_of ss) s.content) ++ in_order (blocks_of ss) s.content ∷ each_repeated ss

-- each block fits a buffer of c bytes when it comes
unfoldable pub all_fit : ℕ → List Block → Bool
all_fit c [] = true
all_fit c (block x t ∷ bs) = all_fit c bs && fits c bs t

-- the replies to units
unfoldable pub replies_to : List ℕ → List Unit → List Reply
replies_to b [] = []
replies_to b (u ∷ us) = (unit_outcome (station_run b us) u).answer.acted.reply ∷ replies_to b us

-- ACK with its own number for every report of a block
unfoldable pub acknowledgments : List Transmitted → List Reply
acknowledgments [] = []
acknowledgments (s ∷ ss) =
    replicate s.retransmissions (Ack (expected_after (blocks_of ss))) ++ Ack (expected_after (blocks_of ss)) ∷ acknowledgments ss

-- station, buffer and messages are those of each block once, no message is lost, and every reply is ACK with the block's number
pub record AsOnce (b : List ℕ) (ss : List Transmitted) : Type 0 where
  pub same : (station_run b (each_repeated ss)).run ≡ (station_run b (each_once (blocks_of ss))).run
  pub messages : (station_run b (each_repeated ss)).run.messages ≡ messages_of (blocks_of ss)
  pub replies : replies_to b (each_repeated ss) ≡ acknowledgments ss

-- DECISIONS.md E-1: opened while the block 0 of an opening before is out, the station acknowledges and drops it, and takes block 1 behind the hole
pub record LostBlock (b lost t : List ℕ) (x : Ending) : Type 0 where
  pub replies : replies_to b (good 1 Etx t ∷ good 0 x lost ∷ []) ≡ Ack 1 ∷ Ack 0 ∷ []
  pub messages : (station_run b (good 1 Etx t ∷ good 0 x lost ∷ [])).run.messages ≡ t ∷ []
