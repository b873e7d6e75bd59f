-- Document 01, 'Numbers that say no': the verdict on the bytes between SB and EB of a block that fits and has its CR after EB, in the order 5, 3, 6, 7.
use Rattle.std.specs.Prelude.{List, [], ◌∷◌, Bool, true, false, cond, ◌||◌, ℕ, ◌-◌, length, take, drop, get_or, leb, eqb, Result}
use Prim.Native.Char.{code}
use Rattle.lists.specs.Bytes.{bytes, same}
use Rattle.lists.specs.Outcome.{need}
use Rattle.settings.specs.DataBytes.{all_allowed, first_forbidden}
use Rattle.block.specs.Format.{version, count_field, checksum_of, three_digits}
use Rattle.settings.specs.Settings.{by_kind}
use Rattle.settings.specs.declared.Settings.{Settings}
use Rattle.refusal.specs.Refusal.{BYTE, SHAPE, COUNT, CHECK, accepted_as, refused_by}
use Rattle.refusal.specs.declared.Accepted.{Accepted}
use Rattle.refusal.specs.declared.Refusal.{Refusal}

-- "An N block's data is one byte: C, X, B or G."
abbrev pub is_reason : List ℕ → Bool
is_reason [] = false
is_reason (x ∷ []) = eqb x (code "C") || eqb x (code "X") || eqb x (code "B") || eqb x (code "G")
is_reason (x ∷ y ∷ ys) = false

-- "t is D or N"; "wrong t .. N data wrong"
unfoldable pub type_matches : ℕ → List ℕ → Bool
type_matches t d = cond (eqb t (code "D")) true (cond (eqb t (code "N")) (is_reason d) false)

-- not "under 12 bytes", nor "wrong .. vv or CR"
unfoldable pub header_ok : List ℕ → Bool
header_ok body = cond (leb 12 (length body)) (same (take 3 (drop 1 body)) version) false

-- "xxx neither 999 nor the right sum in three digits"
unfoldable pub checksum_matches : ℕ → ℕ → List ℕ → List ℕ → Bool
checksum_matches sb t d xxx = same xxx (bytes "999") || same xxx (three_digits (checksum_of sb t d))

-- the fields t, data, ccccc and xxx, in the order 5, 3, 6, 7
unfoldable pub judge_parts : ℕ → ℕ → List ℕ → List ℕ → List ℕ → Result Accepted Refusal
judge_parts sb t d ccccc xxx =
    need (type_matches t d) (refused_by SHAPE 0)
    (need (all_allowed d) (refused_by BYTE (first_forbidden d))
    (need (same ccccc (count_field d)) (refused_by COUNT 0)
    (need (checksum_matches sb t d xxx) (refused_by CHECK 0)
    (accepted_as t (length d)))))

-- the data is all but the four bytes before it and the eight after it
unfoldable pub data_of : List ℕ → List ℕ
data_of body = take (length body - 12) (drop 4 body)

unfoldable pub judge_hybrid : ℕ → List ℕ → Result Accepted Refusal
judge_hybrid sb body =
    need (header_ok body) (refused_by SHAPE 0)
    (judge_parts sb (get_or body 0 0) (data_of body) (take 5 (drop (length body - 8) body)) (drop (length body - 3) body))

-- "Minimal reading has 8, 4, 5, 3 only"; a minimal block counts as a data block
unfoldable pub judge_minimal : List ℕ → Result Accepted Refusal
judge_minimal body = need (all_allowed body) (refused_by BYTE (first_forbidden body)) (accepted_as (code "D") (length body))

unfoldable pub judge : Settings → List ℕ → Result Accepted Refusal
judge s body = by_kind s.kind (judge_hybrid s.start_block body) (judge_minimal body)
