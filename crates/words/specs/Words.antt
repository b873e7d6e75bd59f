-- What the numbers of a C driver mean that hand a verdict on, and the words of a writer's report.
use Rattle.std.specs.Prelude.{List, [], ◌∷◌, Bool, cond, ◌&&◌, ℕ, length, leb, ltb, eqb, Option, Some, None, Result, Ok, Err}
use Rattle.lists.specs.Bytes.{over}
use Rattle.lists.specs.Outcome.{need, Outcome, Called, called}
use Rattle.refusal.specs.Refusal.{SETTING, TOO_SHORT, BYTE, INTERRUPTED, accepted_as, refused_by}
use Rattle.refusal.specs.declared.Refusal.{Refusal}
use Rattle.refusal.specs.declared.Accepted.{Accepted}

-- "every act first 1, 2": memory is too short, and the settings are valid or not
abbrev pub short_refusal : Bool → ℕ
short_refusal valid = cond valid TOO_SHORT SETTING

-- GMV_REPORT_BLOCK_LENGTH or GMV_REPORT_MESSAGE_LENGTH, then GMV_REPORT_FORBIDDEN_OFFSET
abbrev pub report_words : ℕ → ℕ → List ℕ
report_words n i = n ∷ i ∷ []

-- a writer's answer as a number and a report. 1 and 2 change nothing
unfoldable pub write_finished : List ℕ → List ℕ → Result ℕ Refusal → Called
write_finished b p (Ok n) = called 0 [] b (over p (report_words n 0))
write_finished b p (Err r) = cond (leb r.number TOO_SHORT) (called r.number [] b p) (called r.number [] b (over p (report_words 0 r.offset)))

-- 2 for the report, then what the writer answers
abbrev pub with_report : List ℕ → List ℕ → Outcome (Result ℕ Refusal) → Called
with_report b p o = need (leb 2 (length p)) (called TOO_SHORT [] b p) (write_finished o.buffer p o.answer)

-- a type over 255 is no byte: it counts as 0, which no writer takes
abbrev pub type_byte : ℕ → ℕ
type_byte t = cond (ltb 255 t) 0 t

-- the verdict that a reader gave, by its number, 0 or 3 to 8, and its type; a receiver and a sender take every type but N for a data block's
abbrev pub verdict_from : ℕ → ℕ → Option (Result Accepted Refusal)
verdict_from n t = cond (eqb n 0) (Some (accepted_as (type_byte t) 0)) (cond (leb BYTE n && leb n INTERRUPTED) (Some (refused_by n 0)) None)
