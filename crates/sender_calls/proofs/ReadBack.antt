-- The words stand for the sender: what is written is read back, and the persisted words are what a crash keeps.
use Rattle.std.specs.Prelude.{Option, Some, None}
use mathlib.Core.Path.{◌≡◌, refl, sym, ap, ◌∙◌}
use mathlib.Core.List.{List, [], ◌∷◌, ◌++◌}
use mathlib.Core.Bool.{Bool, true, false}
use Prim.Native.Nat.{ℕ, ◌≤◌}
use native.Mathlib.Omega.{arith}
use lib.ListN.{length, drop}
use lib.Dec.{eqb, leb}
use borrow.Author.Tests.{le-leb, eqb-false}
use Rattle.lists.specs.Bytes.{over}
use Rattle.lists.specs.Outcome.{Called, called}
use Rattle.lists.proofs.Tests.{cond_ind}
use Rattle.lists.proofs.Calls.{met, over-is}
use Rattle.sender.specs.Sender.{closed}
use Rattle.sender.specs.declared.Persisted.{Persisted}
use Rattle.sender.specs.declared.Waiting.{Waiting}
use Rattle.sender.specs.declared.Waiting.TheVariants.{Closed, Idle, Resynchronizing, Querying, Sending}
use Rattle.sender.specs.declared.Sender.{Sender}
use Rattle.sender.specs.declared.Acted.{Acted}
use Rattle.sender_calls.specs.SenderCalls.{flag_word, waiting_word, waiting_of, persisted_words, sender_words, sender_in, act_written, enough_words, act_on, sender_call}

flag_back : (b : Bool) → eqb (flag_word b) 1 ≡ b
flag_back true = refl
flag_back false = refl

pub waiting_back : (w : Waiting) → waiting_of (waiting_word w) ≡ w
waiting_back Closed = refl
waiting_back Idle = refl
waiting_back Resynchronizing = refl
waiting_back Querying = refl
waiting_back Sending = refl

good_flag : (b : Bool) → leb (flag_word b) 1 ≡ true
good_flag true = refl
good_flag false = refl

good_waiting : (w : Waiting) → leb (waiting_word w) 4 ≡ true
good_waiting Closed = refl
good_waiting Idle = refl
good_waiting Resynchronizing = refl
good_waiting Querying = refl
good_waiting Sending = refl

-- whatever stands behind the seven words
pub words_read : (s : Sender) (rest : List ℕ) → sender_in (sender_words s ++ rest) ≡ Some s
unfolding sender_in
words_read s rest =
    let p = s.persisted in
    let w = s.waiting in
    rw (good_flag p.resynchronized, good_flag p.frozen, good_waiting w, flag_back p.resynchronized, flag_back p.frozen, waiting_back w)

module _ (st : List ℕ) (h : 7 ≤ length st) where
  pub words_back : (s : Sender) → sender_in (over st (sender_words s)) ≡ Some s
  words_back s = ap sender_in (over-is st (sender_words s) h) ∙ words_read s (drop 7 st)

  -- after a crash the driver restores the persisted words, and sets the others to 0
  pub crash_back : (p : Persisted) → sender_in (over st (persisted_words p ++ (0 ∷ 0 ∷ []))) ≡ Some (closed p)
  crash_back p = words_back (closed p)

-- a call makes of the words what the act makes of the sender
module _ (f : Sender → Acted) (same : (s : Sender) → leb 1 (f s).refusal ≡ true → (f s).sender ≡ s) (st p : List ℕ) (h : 7 ≤ length st) (l : 8 ≤ length p) where
  some_number : (n : ℕ) → eqb n 0 ≡ false → leb 1 n ≡ true
  some_number n e = le-leb 1 n (let z : n ≡ 0 → ⊥ = eqb-false n 0 e in omega arith)

  read_as : (d : Option Sender) → sender_in st ≡ d → act_on d f st p ≡ sender_call f st p
  read_as d e =
      ap (λ (z : Option Sender). act_on z f st p) (sym e)
      ∙ met (enough_words (length st) (length p)) (called 2 st [] p) (act_on (sender_in st) f st p) (rw (le-leb 7 (length st) h, le-leb 8 (length p) l))

  written : (s : Sender) → sender_in st ≡ Some s → sender_in (act_written st p (f s)).state ≡ Some (f s).sender
  written s e =
      cond_ind (λ (c : Called). sender_in c.state ≡ Some (f s).sender) (eqb (f s).refusal 0) _ _
      (λ z. words_back st h (f s).sender)
      (λ z. e ∙ ap Some (sym (same s (some_number (f s).refusal z))))

  pub call_acts : (s : Sender) → sender_in st ≡ Some s → sender_in (sender_call f st p).state ≡ Some (f s).sender
  call_acts s e = ap (λ (c : Called). sender_in c.state) (sym (read_as (Some s) e)) ∙ written s e

  -- and words that encode no sender stay as they are
  pub call_keeps : sender_in st ≡ None → (sender_call f st p).state ≡ st
  call_keeps e = ap (λ (c : Called). c.state) (sym (read_as None e))
