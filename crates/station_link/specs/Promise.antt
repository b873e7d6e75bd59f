-- 02, §3: "the blocks the slave accepted are the first k sent, each once, and the master's count of acknowledged blocks is k or k less one"; §14: "counts an
-- accepted RINT as an acknowledgement". At every moment of every run.
use Rattle.std.specs.Prelude.{◌≡◌, List, [], ◌∷◌, ◌++◌, map, true, ℕ, ◌+◌, ◌≤◌, length, take}
use Rattle.fragments.specs.Fragments.{Fragment, fragments_of}
use Rattle.station.specs.Station.{precedes}
use Rattle.station.specs.declared.Ending.{Ending}
use Rattle.station.specs.History.{Unit, good, Block, block, expected_after, past_of, station_run}
use Rattle.master.specs.Master.{block_number, ending_of_part}
use Rattle.master.specs.Reversal.{count_in}
use Rattle.master.specs.declared.Master.TheVariants.{Closed, Idle, Waiting}
use Rattle.master.specs.declared.Outstanding.{Outstanding}
use Rattle.master.specs.declared.Response.{Response}
use Rattle.master.specs.declared.Response.TheVariants.{Ack}
use Rattle.master.specs.declared.End.TheVariants.{Failed, BySlave, ByDriver, Reversed}
use Rattle.station_link.specs.System.{Started, System, beginning, LinkAct, link_run}

unfoldable pub oldest_first : {A : Type 0} → List A → List A
oldest_first [] = []
oldest_first (x ∷ xs) = oldest_first xs ++ x ∷ []

-- ---- the blocks of the messages started, in order
abbrev pub block_of : Fragment → Block
block_of f = block (ending_of_part f.last) f.text

abbrev pub message_blocks : Started → List Block
message_blocks s = map block_of (fragments_of s.size s.message)

unfoldable pub started_blocks : List Started → List Block
started_blocks [] = []
started_blocks (s ∷ ss) = started_blocks ss ++ message_blocks s

unfoldable pub messages_started : List Started → List (List ℕ)
messages_started [] = []
messages_started (s ∷ ss) = s.message ∷ messages_started ss

-- ---- the slave's side: the blocks that it accepted (appended to the buffer and answered ACK or RINT; T-31 and T-32 tie its history to its answers), and the messages handed over, as taken from its buffer
abbrev pub accepted : List ℕ → System → List Block
accepted b y = (past_of (length b) y.receiving.received).blocks

abbrev pub handed : List ℕ → System → List (List ℕ)
handed b y = (station_run b y.receiving.received).run.messages

-- k of a list are its first k
abbrev pub FirstOf : {A : Type 0} → List A → List A → Type 0
FirstOf xs ys = xs ≡ take (length xs) ys

pub record Safe (b : List ℕ) (y : System) : Type 0 where
  -- the blocks accepted are the first k of those first sent, and these the first of the messages started: each once, in order, byte for byte
  pub accepted_first : FirstOf (oldest_first (accepted b y)) (oldest_first y.sending.sent)
  pub sent_first : FirstOf (oldest_first y.sending.sent) (started_blocks y.sending.started)
  -- the master's count, which outlives the closing, is k or k less one
  pub count_most : count_in y.sending.master ≤ length (accepted b y)
  pub count_least : length (accepted b y) ≤ count_in y.sending.master + 1
  -- the messages handed over are the first ones started, as many as were reported done or one more
  pub messages_first : FirstOf (oldest_first (handed b y)) (oldest_first (messages_started y.sending.started))
  pub done_most : y.sending.done ≤ length (handed b y)
  pub done_least : length (handed b y) ≤ y.sending.done + 1
  -- what was reported done is stored: the messages stored are the first ones started, and those done are among them
  pub stored_first : FirstOf (oldest_first y.receiving.stored) (oldest_first (messages_started y.sending.started))
  pub done_stored : y.sending.done ≤ length y.receiving.stored
  -- and of the messages started at most the last is not reported done
  pub started_most : length y.sending.started ≤ y.sending.done + 1

-- ---- when the count is k exactly
abbrev pub Exact : List ℕ → System → Type 0
Exact b y = count_in y.sending.master ≡ length (accepted b y)

-- what may leave it one short: failure, and an EOT that the slave's driver sends of its own or in place of a reply
pub data OneShort (y : System) : Type 0 where
  failed : y.sending.ended ≡ Failed → OneShort y
  refused : y.sending.ended ≡ BySlave → y.receiving.driver_eot ≡ true → OneShort y

pub record Ends (b : List ℕ) (y : System) : Type 0 where
  -- with no block out, so after 'message done'; then all that was started is done
  pub idle_exact : (count : ℕ) → y.sending.master ≡ Idle count → Exact b y
  pub idle_done : (count : ℕ) → y.sending.master ≡ Idle count → y.sending.done ≡ length y.sending.started
  -- closed by the driver; the same
  pub closed_exact : y.sending.ended ≡ ByDriver → Exact b y
  pub closed_done : y.sending.ended ≡ ByDriver → y.sending.done ≡ length y.sending.started
  -- reversed; what was handed over is done, with what the last reply completed
  pub reversed_exact : y.sending.ended ≡ Reversed → Exact b y
  pub reversed_done : y.sending.ended ≡ Reversed → length (handed b y) ≡ y.sending.done
  -- after an EOT that the station itself gave
  pub eot_exact : y.receiving.station_eot ≡ true → Exact b y
  pub one_short : (count : ℕ) → y.sending.master ≡ Closed count → length (accepted b y) ≡ count + 1 → OneShort y

-- ---- the numbers on the line
pub data OneOfTwo (number expected : ℕ) : Type 0 where
  expected_one : number ≡ expected → OneOfTwo number expected
  one_before : precedes number expected ≡ true → OneOfTwo number expected

pub record Numbered (b : List ℕ) (y : System) : Type 0 where
  -- a good block that arrives has the number that the slave expects, or the one just before: never is it NAK for its number
  pub block_number_lem : (n : ℕ) (x : Ending) (t : List ℕ) (us : List Unit) → y.forward ≡ good n x t ∷ us → OneOfTwo n (expected_after (accepted b y))
  -- while a block is out, an ACK that arrives has its number, or the one just before
  pub ack_number : (n : ℕ) (rs : List Response) (o : Outstanding) → y.backward ≡ Ack n ∷ rs → y.sending.master ≡ Waiting o → OneOfTwo n (block_number o.count)

-- ---- the statement is not empty: a run that delivers messages and closes
pub data AllFit (c : ℕ) : List Started → Type 0 where
  no_more : AllFit c []
  one_more : {s : Started} {ss : List Started} → 1 ≤ s.size → length s.message ≤ c → AllFit c ss → AllFit c (s ∷ ss)

pub record Delivered (b : List ℕ) (ms : List Started) (y : System) : Type 0 where
  pub started : y.sending.started ≡ ms
  pub all-handed : handed b y ≡ messages_started ms
  pub stored : y.receiving.stored ≡ messages_started ms
  pub done : y.sending.done ≡ length ms
  pub count : count_in y.sending.master ≡ length (started_blocks ms)
  pub closed : y.sending.ended ≡ ByDriver

pub record DeliveringRun (b : List ℕ) (ms : List Started) : Type 0 where
  pub acts : List LinkAct
  pub delivered : Delivered b ms (link_run b beginning acts)
