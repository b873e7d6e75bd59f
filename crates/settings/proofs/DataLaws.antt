-- What the adaptors of the library do, in the words of the definitions.
use mathlib.Core.Path.{◌≡◌, refl, sym, ◌∙◌}
use mathlib.Core.List.{List, [], ◌∷◌}
use mathlib.Core.Bool.{Bool, true, false, not, cond}
use Prim.Native.Nat.{ℕ, suc, ◌+◌}
use native.Mathlib.Omega.{arith}
use lib.ListN.{length}
use Rattle.std.specs.Prelude.{fold, position, unwrap_or}
use Rattle.std.specs.Int.Bits.{bit_xor}
use Rattle.std.proofs.lemmas.List.Recursion.{is_position_or_len}
use Rattle.lists.proofs.Search.{position-is}
use Rattle.settings.specs.Settings.{allowed}
use Rattle.settings.specs.DataBytes.{first_forbidden, xor_from}

pub forbidden_position : (s : List ℕ) → unwrap_or (position (λ x. not (allowed x)) s) (length s) ≡ first_forbidden s
forbidden_position s = position-is hit s ∙ sym (is_position_or_len first_forbidden hit refl step s)
  where
    hit : ℕ → Bool
    hit x = not (allowed x)

    step : (x : ℕ) (xs : List ℕ) → first_forbidden (x ∷ xs) ≡ cond (hit x) 0 (1 + first_forbidden xs)
    step x xs = go (allowed x)
      where
        go : (b : Bool) → cond b (suc (first_forbidden xs)) 0 ≡ cond (not b) 0 (1 + first_forbidden xs)
        go true = omega arith
        go false = refl

pub fold_is : (s : List ℕ) (a : ℕ) → fold bit_xor a s ≡ xor_from a s
fold_is [] a = refl
fold_is (x ∷ xs) a = fold_is xs (bit_xor a x)
