-- What cannot be, and what must be one of two.
use mathlib.Core.Path.{◌≡◌, refl}
use mathlib.Core.Bool.{Bool, true, false}
use mathlib.Core.Logic.{◌⊎◌, inl, inr}
use Prim.Native.Nat.{ℕ}
use native.Mathlib.Omega.{arith}
use Rattle.numbers.specs.declared.SequenceNumber.TheVariants.{Number}

-- `not-both cc` stands for any two hypotheses that clash
pub not_both : {P : Type 0} → true ≡ false → P
not_both e = let z : ◌≡◌ {A = ℕ} 0 1 = cc in absurd (omega arith)

pub either : (b : Bool) → (b ≡ true) ⊎ (b ≡ false)
either true = inl refl
either false = inr refl

pub number_is : {m n : ℕ} → Number m ≡ Number n → m ≡ n
number_is {m} {n} e = let z : m ≡ n = cc in z
