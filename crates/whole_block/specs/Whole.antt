-- Document 01, 'Reading a stream': the check of one whole block.
use Rattle.std.specs.Prelude.{List, [], ◌∷◌, Bool, false, ℕ, eqb, Result}
use Rattle.lists.specs.Outcome.{need}
use Rattle.settings.specs.Settings.{valid}
use Rattle.settings.specs.declared.Settings.{Settings}
use Rattle.refusal.specs.Refusal.{SETTING, SHAPE, refused_by}
use Rattle.refusal.specs.declared.Accepted.{Accepted}
use Rattle.refusal.specs.declared.Refusal.{Refusal}
use Rattle.stream.specs.Stream.{Judged, verdicts}

abbrev pub begins_with : ℕ → List ℕ → Bool
begins_with sb [] = false
begins_with sb (x ∷ xs) = eqb x sb

-- the one verdict of the whole where there was none before its last byte
abbrev pub only : List Judged → List Judged → Result Accepted Refusal
only [] [] = (refused_by SHAPE 0)
only [] (w ∷ []) = w.verdict
only [] (w ∷ v ∷ r) = (refused_by SHAPE 0)
only (w ∷ r) l = (refused_by SHAPE 0)

-- all bytes but the last
abbrev pub initial : List ℕ → List ℕ
initial [] = []
initial (x ∷ []) = []
initial (x ∷ y ∷ ys) = x ∷ initial (y ∷ ys)

-- "as the stream does where the bytes begin with SB and give exactly one verdict, at their last byte; otherwise 5"
unfoldable pub whole_of : Settings → List ℕ → Result Accepted Refusal
whole_of g xs =
    need (begins_with g.start_block xs) (refused_by SHAPE 0) (only (verdicts g (initial xs)) (verdicts g xs))

unfoldable pub check_of : Settings → List ℕ → Result Accepted Refusal
check_of g xs = need (valid g) (refused_by SETTING 0) (whole_of g xs)
