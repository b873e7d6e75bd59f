-- 02, §3 and §14, of drivers that go by the words of the C functions: each call is the act of which the statement speaks.
use Rattle.std.specs.Prelude.{List, [], ◌∷◌, ℕ}
use Rattle.lists.specs.Outcome.{Called}
use Rattle.station.specs.History.{Unit, good, bad, enquiry, eot, bare_enq, asks}
use Rattle.station.specs.StationCalls.{open_station_call, good_block_call, bad_block_call, eot_call, bare_enq_call, interrupt_call}
use Rattle.master.specs.declared.Response.{Response}
use Rattle.master.specs.declared.Response.TheVariants.{Ack, Nak, Eot, Damaged, Rint}
use Rattle.master.specs.MasterCalls.{ending_word, open_master_call, start_call, master_reply_call, timer_a_call, close_call, enquire_call, may_receive_call}
use Rattle.master.specs.MasterHistory.{MasterAct, start, reply, timer, close, enquire, may_receive}

-- ---- the master's calls
abbrev pub reply_code : Response → ℕ
reply_code (Ack n) = 1
reply_code Nak = 2
reply_code Eot = 3
reply_code Damaged = 4
reply_code Rint = 5

abbrev pub reply_number : Response → ℕ
reply_number (Ack n) = n
reply_number Nak = 0
reply_number Eot = 0
reply_number Damaged = 0
reply_number Rint = 0

abbrev pub master_call_of : MasterAct → List ℕ → List ℕ → Called
master_call_of (start n size) st p = start_call n size st p
master_call_of (reply r) st p = master_reply_call (reply_code r) (reply_number r) st p
master_call_of timer st p = timer_a_call st p
master_call_of close st p = close_call st p
master_call_of enquire st p = enquire_call st p
master_call_of may_receive st p = may_receive_call st p

-- the words after gmv_master_open on any words, and the calls that follow; the newest first
unfoldable pub master_words_after : List ℕ → List ℕ → List MasterAct → List ℕ
master_words_after st p [] = (open_master_call st p).state
master_words_after st p (x ∷ xs) = (master_call_of x (master_words_after st p xs) p).state

-- ---- the station's calls, on its words and its buffer
pub record StationWords : Type 0 where
  pub words : List ℕ
  pub buffer : List ℕ

abbrev pub station_call_of : Unit → StationWords → List ℕ → Called
station_call_of (good n x t) w p = good_block_call n (ending_word x) t w.buffer w.words p
station_call_of bad w p = bad_block_call w.words p
station_call_of enquiry w p = bad_block_call w.words p
station_call_of eot w p = eot_call w.words p
station_call_of bare_enq w p = bare_enq_call w.words p
station_call_of asks w p = interrupt_call w.words p

-- gmv_station_block is the only one that is lent the buffer
abbrev pub buffer_after : Unit → StationWords → Called → List ℕ
buffer_after (good n x t) w c = c.buffer
buffer_after bad w c = w.buffer
buffer_after enquiry w c = w.buffer
buffer_after eot w c = w.buffer
buffer_after bare_enq w c = w.buffer
buffer_after asks w c = w.buffer

unfoldable pub station_words_after : List ℕ → List ℕ → List ℕ → List Unit → StationWords
station_words_after st b p [] = record { words = (open_station_call st p).state; buffer = b }
station_words_after st b p (u ∷ us) =
    record {
      words = (station_call_of u (station_words_after st b p us) p).state;
      buffer = buffer_after u (station_words_after st b p us) (station_call_of u (station_words_after st b p us) p);
    }
