-- Document 01, 'Header fields': which fields are numbers, and how a number is written.
use Rattle.std.specs.Prelude.{List, [], ◌∷◌, ◌++◌, Bool, cond, ◌&&◌, ℕ, zero, suc, ◌+◌, ◌-◌, ◌*◌, ◌/◌, length, leb, ltb, Result, Ok, Err}
use Prim.Native.Char.{code}
use Rattle.lists.specs.Bytes.{bytes, all, same}
use Rattle.lists.specs.Outcome.{need}
use Rattle.settings.specs.DataBytes.{digit}
use Rattle.numbers.specs.declared.SequenceNumber.{SequenceNumber}
use Rattle.numbers.specs.declared.SequenceNumber.TheVariants.{MinusOne, Number}
use Rattle.numbers.specs.declared.NumberError.{NumberError}
use Rattle.numbers.specs.declared.NumberError.TheVariants.{Missing, NotNumber}

abbrev pub is_digit : ℕ → Bool
is_digit x = leb (code "0") x && leb x (code "9")

-- the number that digits after those of a stand for
abbrev pub value_from : ℕ → List ℕ → ℕ
value_from a [] = a
value_from a (x ∷ xs) = value_from (a * 10 + (x - code "0")) xs

abbrev pub value : List ℕ → ℕ
value s = value_from 0 s

-- what a field is: missing or empty, a number, or not. "A number is -1 or 1 to 15 digits, leading zeros allowed, at most" a bound
unfoldable pub number_field : ℕ → List ℕ → Result SequenceNumber NumberError
number_field most s =
    need (leb 1 (length s)) (Err Missing)
    (cond (same s (bytes "-1")) (Ok MinusOne)
    (need (leb (length s) 15 && (all is_digit s && leb (value s) most)) (Err NotNumber)
    (Ok (Number (value s)))))

-- "at most 999,999,999,999,998"; "999,999,999,999,999 may be expected but never sent, and is a number in MSA-4 only"
abbrev pub greatest_sent : ℕ
greatest_sent = 999999999999998

abbrev pub greatest_expected : ℕ
greatest_expected = 999999999999999

-- plain decimal, of at most f digits
abbrev pub decimal_of : ℕ → ℕ → List ℕ
decimal_of zero n = []
decimal_of (suc f) n = cond (ltb n 10) (digit n ∷ []) (decimal_of f (n / 10) ++ digit n ∷ [])

-- plain decimal: n has fewer than n + 1 digits, or it is one digit
unfoldable pub decimal : ℕ → List ℕ
decimal n = decimal_of (suc n) n

-- a number as it stands in a field
abbrev pub text_of : SequenceNumber → List ℕ
text_of MinusOne = bytes "-1"
text_of (Number n) = decimal n
