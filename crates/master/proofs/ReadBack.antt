-- The words stand for the master and its answer: what is written is read back.
use Rattle.std.specs.Prelude.{Some}
use mathlib.Core.Path.{◌≡◌, refl, ap, ◌∙◌}
use mathlib.Core.List.{List, ◌∷◌, ◌++◌}
use mathlib.Core.Bool.{Bool, true, false, cond}
use lib.Dec.{leb, eqb}
use Prim.Native.Nat.{ℕ, zero, suc, ◌≤◌, ◌<◌}
use native.Mathlib.Omega.{arith}
use lib.ListN.{length, drop, get_or}
use Rattle.lists.specs.Bytes.{over}
use Rattle.lists.proofs.Calls.{over-is}
use Rattle.lists.proofs.Append.{append_assoc}
use Rattle.station.specs.declared.Ending.{Ending}
use Rattle.station.specs.declared.Ending.TheVariants.{Etb, Etx}
use Rattle.station.specs.declared.ReplyKind.{ReplyKind}
use Rattle.station.specs.declared.ReplyKind.TheVariants.{NoneYet, Ack as AckKind, Nak as NakKind, Rint as RintKind}
use Rattle.station.specs.StationCalls.{kind_word, is_kind, kind_in}
use Rattle.master.specs.declared.Master.{Master}
use Rattle.master.specs.declared.Master.TheVariants.{Closed, Idle, Waiting}
use Rattle.master.specs.declared.Transmission.{Transmission}
use Rattle.master.specs.declared.Transmission.TheVariants.{Nothing, SendBlock, SendEot, SendEnq}
use Rattle.master.specs.declared.Progress.{Progress}
use Rattle.master.specs.declared.Progress.TheVariants.{NoProgress, Acknowledged, Done}
use Rattle.master.specs.declared.End.{End}
use Rattle.master.specs.declared.End.TheVariants.{NotEnded, Failed, BySlave, ByDriver, Reversed}
use Rattle.master.specs.declared.Reversal.{Reversal}
use Rattle.master.specs.declared.MasterActed.{MasterActed}
use Rattle.master.specs.Reversal.{master_state, reversal_fits}
use Rattle.master.specs.MasterHistory.{MasterAct, master_after}
use Rattle.master.proofs.Valid.{fits_after}
use Rattle.master.specs.MasterCalls.{flag_word, state_words, known_if, master_in, transmission_words, progress_words, end_word, count_words, master_report, ending_word, ending_in, transmission_in, progress_in, end_in, resends_in}

kind_read : (k : ReplyKind) → kind_in (kind_word k) ≡ k
kind_read NoneYet = refl
kind_read AckKind = refl
kind_read NakKind = refl
kind_read RintKind = refl

kind_known : (k : ReplyKind) → is_kind (kind_word k) ≡ true
kind_known NoneYet = refl
kind_known AckKind = refl
kind_known NakKind = refl
kind_known RintKind = refl

flag_read : (b : Bool) → eqb (flag_word b) 1 ≡ b
flag_read true = refl
flag_read false = refl

flag_known : (b : Bool) → leb (flag_word b) 1 ≡ true
flag_known true = refl
flag_known false = refl

module _ (v : Reversal) where
  -- the four words are known, and stand for v
  known_if_lem : (m : Master) (ws : List ℕ) → get_or ws 6 0 ≡ kind_word v.last → get_or ws 7 0 ≡ flag_word v.interrupted
      → get_or ws 8 0 ≡ flag_word v.enquired → get_or ws 9 0 ≡ flag_word v.may_receive → reversal_fits m v ≡ true → known_if ws m ≡ Some (master_state m v)
  known_if_lem m ws e f g i h =
      rw (
        e,
        f,
        g,
        i,
        kind_known v.last,
        flag_known v.interrupted,
        flag_known v.enquired,
        flag_known v.may_receive,
        kind_read v.last,
        flag_read v.interrupted,
        flag_read v.enquired,
        flag_read v.may_receive,
        h,
      )

  words_read : (m : Master) (rest : List ℕ) → reversal_fits m v ≡ true → master_in (state_words m v ++ rest) ≡ Some (master_state m v)
  unfolding master_in
  words_read (Closed count) rest h = known_if_lem (Closed count) (state_words (Closed count) v ++ rest) refl refl refl refl h
  words_read (Idle count) rest h = known_if_lem (Idle count) (state_words (Idle count) v ++ rest) refl refl refl refl h
  words_read (Waiting o) rest h = known_if_lem (Waiting o) (state_words (Waiting o) v ++ rest) refl refl refl refl h

-- every master, a corrupt one too, with what goes with it
pub words_back : (st : List ℕ) (m : Master) (v : Reversal) → 10 ≤ length st → reversal_fits m v ≡ true → master_in (over st (state_words m v)) ≡ Some (master_state m v)
words_back st m v h f = ap master_in (over-is st (state_words m v) (let n = ten_words m v in omega (arith, n))) ∙ words_read v m (drop (length (state_words m v)) st) f
  where
    ten_words : (m : Master) (v : Reversal) → length (state_words m v) ≡ 10
    ten_words (Closed count) v = refl
    ten_words (Idle count) v = refl
    ten_words (Waiting o) v = refl

-- so the words after every run from an opening are read as its state
pub run_back : (st : List ℕ) (xs : List MasterAct) → 10 ≤ length st → master_in (over st (state_words (master_after xs).master (master_after xs).reversal)) ≡ Some (master_after xs)
run_back st xs h = words_back st (master_after xs).master (master_after xs).reversal h (fits_after xs)

-- ---- the report
ending_read : (e : Ending) → ending_in (ending_word e) ≡ e
ending_read Etb = refl
ending_read Etx = refl

transmission_read : (t : Transmission) (ws : List ℕ) → transmission_in (transmission_words t ++ ws) ≡ t
transmission_read Nothing ws = refl
transmission_read (SendBlock b) ws = ap (λ (e : Ending). SendBlock (record { number = b.number; ending = e; offset = b.offset; length = b.length })) (ending_read b.ending)
transmission_read SendEot ws = refl
transmission_read SendEnq ws = refl

progress_read : (t : Transmission) (p : Progress) (ws : List ℕ) → progress_in (transmission_words t ++ (progress_words p ++ ws)) ≡ p
progress_read Nothing NoProgress ws = refl
progress_read Nothing Acknowledged ws = refl
progress_read Nothing Done ws = refl
progress_read (SendBlock b) NoProgress ws = refl
progress_read (SendBlock b) Acknowledged ws = refl
progress_read (SendBlock b) Done ws = refl
progress_read SendEot NoProgress ws = refl
progress_read SendEot Acknowledged ws = refl
progress_read SendEot Done ws = refl
progress_read SendEnq NoProgress ws = refl
progress_read SendEnq Acknowledged ws = refl
progress_read SendEnq Done ws = refl

-- the words from the eighth on
pub record LastWords (t : Transmission) (p : Progress) (ws : List ℕ) : Type 0 where
  seventh : get_or (transmission_words t ++ (progress_words p ++ ws)) 7 0 ≡ get_or ws 0 0
  eighth : get_or (transmission_words t ++ (progress_words p ++ ws)) 8 0 ≡ get_or ws 1 0
  ninth : get_or (transmission_words t ++ (progress_words p ++ ws)) 9 0 ≡ get_or ws 2 0
  long : length (transmission_words t ++ (progress_words p ++ ws)) ≡ suc (suc (suc (suc (suc (suc (suc (length ws)))))))

last_words : (t : Transmission) (p : Progress) (ws : List ℕ) → LastWords t p ws
last_words Nothing NoProgress ws = record { seventh = refl; eighth = refl; ninth = refl; long = refl }
last_words Nothing Acknowledged ws = record { seventh = refl; eighth = refl; ninth = refl; long = refl }
last_words Nothing Done ws = record { seventh = refl; eighth = refl; ninth = refl; long = refl }
last_words (SendBlock b) NoProgress ws = record { seventh = refl; eighth = refl; ninth = refl; long = refl }
last_words (SendBlock b) Acknowledged ws = record { seventh = refl; eighth = refl; ninth = refl; long = refl }
last_words (SendBlock b) Done ws = record { seventh = refl; eighth = refl; ninth = refl; long = refl }
last_words SendEot NoProgress ws = record { seventh = refl; eighth = refl; ninth = refl; long = refl }
last_words SendEot Acknowledged ws = record { seventh = refl; eighth = refl; ninth = refl; long = refl }
last_words SendEot Done ws = record { seventh = refl; eighth = refl; ninth = refl; long = refl }
last_words SendEnq NoProgress ws = record { seventh = refl; eighth = refl; ninth = refl; long = refl }
last_words SendEnq Acknowledged ws = record { seventh = refl; eighth = refl; ninth = refl; long = refl }
last_words SendEnq Done ws = record { seventh = refl; eighth = refl; ninth = refl; long = refl }

end_read : (e : End)
    → cond (eqb (end_word e) 1) Failed (cond (eqb (end_word e) 2) BySlave (cond (eqb (end_word e) 3) ByDriver (cond (eqb (end_word e) 4) Reversed NotEnded))) ≡ e
end_read NotEnded = refl
end_read Failed = refl
end_read BySlave = refl
end_read ByDriver = refl
end_read Reversed = refl

count_words_lem : (m : Master) → length (count_words m) ≡ 2
count_words_lem (Closed count) = refl
count_words_lem (Idle count) = refl
count_words_lem (Waiting o) = refl

-- what a driver reads is what the act answered
pub record ReadAs (ws : List ℕ) (a : MasterActed) : Type 0 where
  pub send : transmission_in ws ≡ a.send
  pub progress : progress_in ws ≡ a.progress
  pub end : end_in ws ≡ a.end
  pub count : get_or ws 8 0 ≡ get_or (count_words a.master) 0 0
  pub resends : resends_in ws ≡ get_or (count_words a.master) 1 0

counts_read : (m : Master) (rest : List ℕ) (i : ℕ) → i < 2 → get_or (count_words m ++ rest) i 0 ≡ get_or (count_words m) i 0
counts_read (Closed count) rest zero h = refl
counts_read (Closed count) rest (suc zero) h = refl
counts_read (Closed count) rest (suc (suc i)) h = absurd (omega (arith, h))
counts_read (Idle count) rest zero h = refl
counts_read (Idle count) rest (suc zero) h = refl
counts_read (Idle count) rest (suc (suc i)) h = absurd (omega (arith, h))
counts_read (Waiting o) rest zero h = refl
counts_read (Waiting o) rest (suc zero) h = refl
counts_read (Waiting o) rest (suc (suc i)) h = absurd (omega (arith, h))

pub report_back : (q : List ℕ) (a : MasterActed) → 10 ≤ length q → ReadAs (over q (master_report a)) a
report_back q a h =
    let rest = drop (length (master_report a)) q in
    let t = a.send in
    let p = a.progress in
    let ws = end_word a.end ∷ (count_words a.master ++ rest) in
    let n = (last_words t p (end_word a.end ∷ count_words a.master)).long in
    let k = count_words_lem a.master in
    let is : over q (master_report a) ≡ transmission_words t ++ (progress_words p ++ ws) =
    over-is q (master_report a) (omega (arith, n, k, h)) ∙ append_assoc (transmission_words t) (progress_words p ++ end_word a.end ∷ count_words a.master) rest
    ∙ ap (λ (l : List ℕ). transmission_words t ++ l) (append_assoc (progress_words p) (end_word a.end ∷ count_words a.master) rest) in
    record {
      send = ap transmission_in is ∙ transmission_read t (progress_words p ++ ws);
      progress = ap progress_in is ∙ progress_read t p ws;
      end = ap end_in is ∙ rw (last_words t p ws).seventh (end_read a.end);
      count = ap (λ (l : List ℕ). get_or l 8 0) is ∙ (last_words t p ws).eighth ∙ counts_read a.master rest 0 (omega arith);
      resends = ap resends_in is ∙ (last_words t p ws).ninth ∙ counts_read a.master rest 1 (omega arith);
    }
