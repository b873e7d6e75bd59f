-- What the 64-bit words of a C driver mean: a reader's state and a verdict.
use Rattle.std.specs.Prelude.{List, [], ◌∷◌, cond, ℕ, length, get_or, ltb, eqb, Option, Some, None, Result, Ok, Err}
use Rattle.refusal.specs.Refusal.{number_of, offset_of, type_of, length_of}
use Rattle.refusal.specs.declared.Accepted.{Accepted}
use Rattle.refusal.specs.declared.Refusal.{Refusal}
use Rattle.stream.specs.declared.Phase.{Phase}
use Rattle.stream.specs.declared.Phase.TheVariants.{Between, Inside, Ended}
use Rattle.stream.specs.declared.Reader.{Reader}

abbrev pub phase_number : Phase → ℕ
phase_number Between = 0
phase_number Inside = 1
phase_number Ended = 2

-- GMV_READER_PHASE, GMV_READER_BODY_LENGTH, GMV_READER_BLOCK_OFFSET, GMV_READER_POSITION
unfoldable pub reader_words : Reader → List ℕ
reader_words r = phase_number r.phase ∷ r.body_length ∷ r.block_offset ∷ r.position ∷ []

abbrev pub with_phase : Phase → List ℕ → Option Reader
with_phase p ws = Some (record { phase = p; body_length = get_or ws 1 0; block_offset = get_or ws 2 0; position = get_or ws 3 0 })

-- every content of the words is an input: fewer than four, or any phase but these three, encode no state
unfoldable pub decoded : List ℕ → Option Reader
decoded ws =
    cond (ltb (length ws) 4) None
    (cond (eqb (get_or ws 0 0) 0) (with_phase Between ws)
    (cond (eqb (get_or ws 0 0) 1) (with_phase Inside ws) (cond (eqb (get_or ws 0 0) 2) (with_phase Ended ws) None)))

-- where an accepted block's data begins; 0 for a refused block
abbrev pub data_start : ℕ → Result Accepted Refusal → ℕ
data_start o (Ok v) = o
data_start o (Err v) = 0

-- GMV_VERDICT_FOUND, GMV_VERDICT_OFFSET, GMV_VERDICT_NUMBER, GMV_VERDICT_FORBIDDEN_OFFSET, GMV_VERDICT_TYPE, GMV_VERDICT_DATA_OFFSET, GMV_VERDICT_DATA_LENGTH, GMV_VERDICT_USED
unfoldable pub verdict_words : ℕ → Result Accepted Refusal → ℕ → ℕ → List ℕ
verdict_words s v o used =
    1 ∷ s ∷ number_of v ∷ offset_of v ∷ type_of v ∷ data_start o v ∷ length_of v ∷ used ∷ []

-- no block ended yet
unfoldable pub pending_words : ℕ → List ℕ
pending_words used = 0 ∷ 0 ∷ 0 ∷ 0 ∷ 0 ∷ 0 ∷ 0 ∷ used ∷ []
