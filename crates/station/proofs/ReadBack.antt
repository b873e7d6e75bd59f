-- The words stand for the station and its answer: what is written is read back.
use Rattle.std.specs.Prelude.{Option, Some, None}
use mathlib.Core.Path.{◌≡◌, refl, sym, ap, ◌∙◌}
use mathlib.Core.List.{List, [], ◌++◌}
use mathlib.Core.Bool.{true, cond}
use Prim.Native.Nat.{ℕ, ◌≤◌}
use lib.ListN.{length, drop, get_or}
use lib.Dec.{leb, eqb}
use Rattle.lists.specs.Bytes.{over}
use Rattle.station.specs.Interrupt.{station_state}
use Rattle.station.specs.History.{turn_fits}
use Rattle.station.specs.declared.Station.{Station}
use Rattle.station.specs.declared.Station.TheVariants.{Closed, Open}
use Rattle.station.specs.declared.ReplyKind.{ReplyKind}
use Rattle.station.specs.declared.ReplyKind.TheVariants.{NoneYet, Ack as AckKind, Nak as NakKind, Rint as RintKind}
use Rattle.station.specs.declared.Interrupt.{Interrupt}
use Rattle.station.specs.declared.Interrupt.TheVariants.{Unasked, Pending, Given}
use Rattle.station.specs.declared.Turn.{Turn}
use Rattle.station.specs.declared.Reply.{Reply}
use Rattle.station.specs.declared.Reply.TheVariants.{NoReply, Ack, Nak, Eot, Rint}
use Rattle.station.specs.declared.Acted.{Acted}
use Rattle.station.specs.StationCalls.{kind_word, is_kind, kind_in, interrupt_word, interrupt_in, station_words, station_in, reply_words, message_words, station_report}
use Rattle.lists.proofs.Calls.{over-is}
use Rattle.station.proofs.Turns.{fresh-only}

-- ---- the last reply and RINT, each by its word
kind_read : (k : ReplyKind) → kind_in (kind_word k) ≡ k
kind_read NoneYet = refl
kind_read AckKind = refl
kind_read NakKind = refl
kind_read RintKind = refl

kind_known : (k : ReplyKind) → is_kind (kind_word k) ≡ true
kind_known NoneYet = refl
kind_known AckKind = refl
kind_known NakKind = refl
kind_known RintKind = refl

interrupt_read : (i : Interrupt) → interrupt_in (interrupt_word i) ≡ i
interrupt_read Unasked = refl
interrupt_read Pending = refl
interrupt_read Given = refl

interrupt_known : (i : Interrupt) → leb (interrupt_word i) 2 ≡ true
interrupt_known Unasked = refl
interrupt_known Pending = refl
interrupt_known Given = refl

-- ---- the state
words_read : (s : Station) (v : Turn) (rest : List ℕ) → turn_fits s v ≡ true → station_in (station_words s v ++ rest) ≡ Some (station_state s v)
unfolding station_in
words_read Closed v rest f = ap (λ (z : Turn). Some (station_state Closed z)) (fresh-only v.last v.interrupt f)
words_read (Open e h) v rest f = rw (kind_known v.last, interrupt_known v.interrupt, kind_read v.last, interrupt_read v.interrupt, f)

-- What is written of a state is read back.
pub words_back : (st : List ℕ) (s : Station) (v : Turn) → 5 ≤ length st → turn_fits s v ≡ true → station_in (over st (station_words s v)) ≡ Some (station_state s v)
words_back st Closed v h f = ap station_in (over-is st (station_words Closed v) h) ∙ words_read Closed v (drop 5 st) f
words_back st (Open e k) v h f = ap station_in (over-is st (station_words (Open e k) v) h) ∙ words_read (Open e k) v (drop 5 st) f

-- So different states have different words.
pub states_differ : (s t : Station) (v w : Turn) → turn_fits s v ≡ true → turn_fits t w ≡ true → station_words s v ≡ station_words t w → station_state s v ≡ station_state t w
states_differ s t v w f g e = cc (words_read s v [] f, words_read t w [] g, ap (λ (ws : List ℕ). station_in (ws ++ [])) e)

-- ---- reports of different replies, or of different messages, have different words
abbrev reply_in : List ℕ → Reply
reply_in ws = cond (eqb (get_or ws 0 0) 1) (Ack (get_or ws 1 0)) (cond (eqb (get_or ws 0 0) 2) Nak (cond (eqb (get_or ws 0 0) 3) Eot (cond (eqb (get_or ws 0 0) 5) Rint NoReply)))

abbrev message_in : List ℕ → Option ℕ
message_in ws = cond (eqb (get_or ws 0 0) 1) (Some (get_or ws 1 0)) None

reply_read : (r : Reply) (ws : List ℕ) → reply_in (reply_words r ++ ws) ≡ r
reply_read NoReply ws = refl
reply_read (Ack n) ws = refl
reply_read Nak ws = refl
reply_read Eot ws = refl
reply_read Rint ws = refl

behind_reply : (r : Reply) (ws : List ℕ) → drop 2 (reply_words r ++ ws) ≡ ws
behind_reply NoReply ws = refl
behind_reply (Ack n) ws = refl
behind_reply Nak ws = refl
behind_reply Eot ws = refl
behind_reply Rint ws = refl

message_read : (m : Option ℕ) → message_in (message_words m) ≡ m
message_read None = refl
message_read (Some n) = refl

pub replies_differ : (a c : Acted) → station_report a ≡ station_report c → a.reply ≡ c.reply
replies_differ a c e = sym (reply_read a.reply (message_words a.message)) ∙ ap reply_in e ∙ reply_read c.reply (message_words c.message)

pub messages_differ : (a c : Acted) → station_report a ≡ station_report c → a.message ≡ c.message
messages_differ a c e = sym (read a) ∙ ap (λ (ws : List ℕ). message_in (drop 2 ws)) e ∙ read c
  where
    read : (z : Acted) → message_in (drop 2 (station_report z)) ≡ z.message
    read z = ap message_in (behind_reply z.reply (message_words z.message)) ∙ message_read z.message
