-- What a C function returns and leaves: needs, the words of a state and of a report, and the buffer of a call.
use mathlib.Core.Path.{◌≡◌, sym, ap}
use mathlib.Core.List.{List, ◌++◌}
use mathlib.Core.Bool.{Bool, true, false, ◌&&◌}
use Prim.Native.Nat.{ℕ, ◌≤◌}
use lib.ListN.{length, drop}
use lib.Dec.{leb}
use borrow.Author.Tests.{le-leb, leb-true}
use Rattle.lists.specs.Bytes.{over}
use Rattle.lists.specs.Outcome.{need, Called, called}
use Rattle.lists.proofs.Tests.{and_left, and_right}

-- a need that is met, and one that is not
module _ {A : Type 0} (test : Bool) (refusal rest : A) where
  pub met : test ≡ true → rest ≡ need test refusal rest
  met e = sym (ap (λ (b : Bool). need b refusal rest) e)

  pub unmet : test ≡ false → refusal ≡ need test refusal rest
  unmet e = sym (ap (λ (b : Bool). need b refusal rest) e)

-- a state of at least n words, and a report of at least m
module _ (n m : ℕ) (state report : List ℕ) (h : (leb n (length state) && leb m (length report)) ≡ true) where
  pub state_words_lem : n ≤ length state
  state_words_lem = leb-true n (length state) (and_left (leb n (length state)) (leb m (length report)) h)

  pub report_words_lem : m ≤ length report
  report_words_lem = leb-true m (length report) (and_right (leb n (length state)) (leb m (length report)) h)

-- the words that are written, and then those that stood there
pub over-is : (l ws : List ℕ) → length ws ≤ length l → over l ws ≡ ws ++ drop (length ws) l
unfolding over
over-is l ws h = rw (le-leb (length ws) (length l) h)

-- what is left of a call, with this buffer
abbrev pub with_buffer : Called → List ℕ → Called
with_buffer c b = called c.number c.state b c.report

pub with_buffer_lem : (test : Bool) (c refusal rest : Called) (b : List ℕ) → c ≡ need test refusal rest
    → with_buffer c b ≡ need test (with_buffer refusal b) (with_buffer rest b)
with_buffer_lem true c refusal rest b e = ap (λ (z : Called). with_buffer z b) e
with_buffer_lem false c refusal rest b e = ap (λ (z : Called). with_buffer z b) e
