-- Block numbers go round, and texts are appended.
use mathlib.Core.Path.{◌≡◌, sym, ap, ◌∙◌}
use mathlib.Core.List.{List, [], ◌∷◌, ◌++◌}
use mathlib.Core.Bool.{true, false}
use Prim.Native.Nat.{ℕ, ◌+◌, ◌*◌, ◌≤◌}
use native.Mathlib.Omega.{arith}
use lib.ListN.{length, take, drop, length-append}
use lib.Seq.{take-append_seam}
use lib.Dec.{eqb}
use borrow.Author.Tests.{eqb-true, eqb-false}
use Rattle.lists.specs.Bytes.{put}
use Rattle.lists.proofs.Tests.{cond_ind}
use Rattle.station.specs.Station.{next_number}
use Rattle.station.specs.History.{Block, expected_after}

-- k blocks after opening the expected number is k + 1, counted round at 8
pub record Round (k e : ℕ) : Type 0 where
  pub rounds : ℕ
  pub counts : k + 1 ≡ 8 * rounds + e
  pub most : e ≤ 7

round_next : (k e : ℕ) → Round k e → Round (k + 1) (next_number e)
unfolding next_number
round_next k e r =
    cond_ind (λ (z : ℕ). Round (k + 1) z) (eqb e 7) 0 (e + 1)
    (λ (h : eqb e 7 ≡ true). let f = eqb-true e 7 h in let c = r.counts in record { rounds = r.rounds + 1; counts = omega arith; most = omega arith })
    (λ (h : eqb e 7 ≡ false). let f : e ≡ 7 → ⊥ = eqb-false e 7 h in let c = r.counts in let m = r.most in record { rounds = r.rounds; counts = omega arith; most = omega arith })

pub goes_round : (bs : List Block) → Round (length bs) (expected_after bs)
unfolding expected_after
goes_round [] = record { rounds = 0; counts = omega arith; most = omega arith }
goes_round (b ∷ bs) = ap_length (round_next (length bs) (expected_after bs) (goes_round bs))
  where
    ap_length : Round (length bs + 1) (next_number (expected_after bs)) → Round (length (b ∷ bs)) (next_number (expected_after bs))
    ap_length r = let c = r.counts in record { rounds = r.rounds; counts = omega arith; most = r.most }

-- t written behind the text held
pub appended_text : (b held t : List ℕ) → take (length held) b ≡ held → take (length held + length t) (put b (length held) t) ≡ held ++ t
unfolding put
appended_text b held t h =
    ap (λ (z : List ℕ). take (length held + length t) ((z ++ t) ++ drop (length held + length t) b)) h
    ∙ ap (λ (n : ℕ). take n ((held ++ t) ++ drop (length held + length t) b)) (sym (length-append held t))
    ∙ take-append_seam (held ++ t) (drop (length held + length t) b)
