-- For the theorems: what is left of a verdict when it goes through the C functions as its number and its type.
use Rattle.std.specs.Prelude.{Bool, ◌&&◌, leb, Result, Ok, Err}
use Rattle.refusal.specs.Refusal.{BYTE, INTERRUPTED, accepted_as, refused_by}
use Rattle.refusal.specs.declared.Accepted.{Accepted}
use Rattle.refusal.specs.declared.Refusal.{Refusal}

-- without the data's length, and without the offset of the forbidden byte
abbrev pub passed_on : Result Accepted Refusal → Result Accepted Refusal
passed_on (Ok v) = accepted_as v.block_type 0
passed_on (Err v) = refused_by v.number 0

-- every verdict that a reader gives is one of these: a type is a byte; "reading 8, 4, 5, 3, 6, 7"
abbrev pub reader_gives : Result Accepted Refusal → Bool
reader_gives (Ok v) = leb v.block_type 255
reader_gives (Err v) = leb BYTE v.number && leb v.number INTERRUPTED
