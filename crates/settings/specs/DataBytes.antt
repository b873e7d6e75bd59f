-- Document 01, 'Hybrid block': which bytes data may have, their exclusive-or, and decimal digits.
use Rattle.std.specs.Prelude.{List, [], ◌∷◌, Bool, cond, ℕ, suc, ◌+◌, ◌%◌}
use Prim.Native.Char.{code}
use Rattle.std.specs.Int.Bits.{bit_xor}
use Rattle.lists.specs.Bytes.{all}
use Rattle.settings.specs.Settings.{allowed}

abbrev pub all_allowed : List ℕ → Bool
all_allowed s = all allowed s

-- the offset of the first byte that is not allowed; the length where there is none
abbrev pub first_forbidden : List ℕ → ℕ
first_forbidden [] = 0
first_forbidden (x ∷ xs) = cond (allowed x) (suc (first_forbidden xs)) 0

-- the exclusive-or of a and every byte
abbrev pub xor_from : ℕ → List ℕ → ℕ
xor_from a [] = a
xor_from a (x ∷ xs) = xor_from (bit_xor a x) xs

-- the last decimal digit, in ASCII
abbrev pub digit : ℕ → ℕ
digit n = n % 10 + code "0"
