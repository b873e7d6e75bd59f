-- Document 01, 'Numbers that say no'. A refusal is a number of the table and a place: "Except 3, the place is 0."
use Rattle.std.specs.Prelude.{ℕ, cond, eqb, Result, Ok, Err, Option, Some, None}
use Rattle.std.specs.Result.{result_err}
use Rattle.refusal.specs.declared.Accepted.{Accepted}
use Rattle.refusal.specs.declared.Refusal.{Refusal}

-- the table; ROOM is TOO_SHORT and CUT is INTERRUPTED here and in C
abbrev pub SETTING : ℕ
SETTING = 1

abbrev pub TOO_SHORT : ℕ
TOO_SHORT = 2

abbrev pub BYTE : ℕ
BYTE = 3

abbrev pub LONG : ℕ
LONG = 4

abbrev pub SHAPE : ℕ
SHAPE = 5

abbrev pub COUNT : ℕ
COUNT = 6

abbrev pub CHECK : ℕ
CHECK = 7

abbrev pub INTERRUPTED : ℕ
INTERRUPTED = 8

abbrev pub HEAD : ℕ
HEAD = 9

abbrev pub NUMBER : ℕ
NUMBER = 10

abbrev pub STATE : ℕ
STATE = 11

-- a block that is accepted, by its type and the length of its data; and what is refused, by a number of the table and an offset
abbrev pub accepted_as : ℕ → ℕ → Result Accepted Refusal
accepted_as t n = Ok (record { block_type = t; data_length = n })

abbrev pub refused_by : {A : Type 0} → ℕ → ℕ → Result A Refusal
refused_by k i = Err (record { number = k; offset = i })

-- the number, and the place: 0 where nothing was refused
abbrev pub number_in : Option Refusal → ℕ
number_in None = 0
number_in (Some r) = r.number

abbrev pub offset_in : Option Refusal → ℕ
offset_in None = 0
offset_in (Some r) = r.offset

-- those of what was accepted, written or done, or refused
abbrev pub number_of : {A : Type 0} → Result A Refusal → ℕ
number_of r = number_in (result_err r)

abbrev pub offset_of : {A : Type 0} → Result A Refusal → ℕ
offset_of r = offset_in (result_err r)

-- an answer that says no more than its number: refused by no 0, and at no place
abbrev pub answer_by : ℕ → Result (Unit {0}) Refusal
answer_by n = cond (eqb n 0) (Ok tt) (Err (record { number = n; offset = 0 }))

-- the type of an accepted block, D or N, and the length of its data
abbrev pub type_of : Result Accepted Refusal → ℕ
type_of (Ok a) = a.block_type
type_of (Err r) = 0

abbrev pub length_of : Result Accepted Refusal → ℕ
length_of (Ok a) = a.data_length
length_of (Err r) = 0

-- the length of what was written
abbrev pub written_length : Result ℕ Refusal → ℕ
written_length (Ok n) = n
written_length (Err r) = 0
