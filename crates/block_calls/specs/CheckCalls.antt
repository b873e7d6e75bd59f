-- What gmv_hybrid_check and gmv_minimal_check return and leave in what was lent, for every input (include/giamuvich.h). Order of refusals: 1, 2. The report is the verdict.
use Rattle.std.specs.Prelude.{List, [], ℕ, ◌+◌, length, leb, Option, Some, None, Result}
use Rattle.lists.specs.Bytes.{over}
use Rattle.lists.specs.Outcome.{need, Called, called}
use Rattle.settings.specs.Settings.{valid, data_offset_of}
use Rattle.settings.specs.declared.Settings.{Settings}
use Rattle.refusal.specs.Refusal.{SETTING, TOO_SHORT, number_of}
use Rattle.refusal.specs.declared.Accepted.{Accepted}
use Rattle.refusal.specs.declared.Refusal.{Refusal}
use Rattle.whole_block.specs.Whole.{whole_of}
use Rattle.block_calls.specs.ReaderWords.{verdict_words}

-- the data lies one byte further on than in a reader's buffer, after SB
abbrev pub check_finished : Settings → List ℕ → List ℕ → Result Accepted Refusal → Called
check_finished g xs v w = called (number_of w) [] [] (over v (verdict_words 0 w (data_offset_of g + 1) (length xs)))

unfoldable pub check_call : Option Settings → List ℕ → List ℕ → Called
check_call None xs v = called SETTING [] [] v
check_call (Some g) xs v =
    need (valid g) (called SETTING [] [] v)
    (need (leb 8 (length v)) (called TOO_SHORT [] [] v)
    (check_finished g xs v (whole_of g xs)))
