-- Document 01, 'Reading a stream', as one call of the reader does it: from the state and the lent buffer over a part of the input, up to the first verdict.
use Rattle.std.specs.Prelude.{List, [], ◌∷◌, cond, ℕ, ◌+◌, max, ◌-◌, length, take, set, leb, ltb, eqb, Option, Some, None, Result, Ok, Err}
use Rattle.lists.specs.Bytes.{greatest_word}
use Rattle.lists.specs.Outcome.{need, Outcome, outcome}
use Rattle.settings.specs.Settings.{valid, capacity_of}
use Rattle.block.specs.Judge.{judge}
use Rattle.settings.specs.declared.Settings.{Settings}
use Rattle.refusal.specs.Refusal.{SETTING, TOO_SHORT, LONG, SHAPE, INTERRUPTED, STATE, refused_by}
use Rattle.refusal.specs.declared.Accepted.{Accepted}
use Rattle.refusal.specs.declared.Refusal.{Refusal}
use Rattle.stream.specs.declared.Phase.{Phase}
use Rattle.stream.specs.declared.Phase.TheVariants.{Between, Inside, Ended}
use Rattle.stream.specs.declared.Reader.{Reader}
use Rattle.stream.specs.declared.Found.{Found}
use Rattle.stream.specs.declared.Reading.{Reading}

-- the reader and its buffer in the middle of a part: Pending until the first verdict
pub record Scan : Type 0 where
  pub answer : Result (Option Found) Refusal
  pub reader : Reader
  pub buffer : List ℕ

abbrev pub scan : Result (Option Found) Refusal → Phase → ℕ → ℕ → ℕ → List ℕ → Scan
scan a p n s k b =
    record { answer = a; reader = record { phase = p; body_length = n; block_offset = s; position = k }; buffer = b }

-- n bytes are in the buffer if they fit; a larger n says that the block is too long
unfoldable pub stored_verdict : Settings → ℕ → List ℕ → ℕ → Result Accepted Refusal
stored_verdict g n b x = cond (ltb (capacity_of g) n) (refused_by LONG 0) (need (eqb x 0x0D) (refused_by SHAPE 0) (judge g (take n b)))

-- the byte x after EB
abbrev pub ended_step : Settings → ℕ → ℕ → ℕ → List ℕ → ℕ → Scan
ended_step g n s k b x =
    cond (eqb x g.start_block) (scan (Ok (Some (record { block_offset = s; verdict = stored_verdict g n b x }))) Inside 0 k (k + 1) b)
    (scan (Ok (Some (record { block_offset = s; verdict = stored_verdict g n b x }))) Between 0 0 (k + 1) b)

-- the byte x of a block: stored if it fits
abbrev pub keep_step : Settings → ℕ → ℕ → ℕ → List ℕ → ℕ → Scan
keep_step g n s k b x =
    cond (ltb n (capacity_of g)) (scan (Ok None) Inside (n + 1) s (k + 1) (set b n x))
    (scan (Ok None) Inside (max n (capacity_of g + 1)) s (k + 1) b)

abbrev pub phase_step : Settings → Phase → ℕ → ℕ → ℕ → List ℕ → ℕ → Scan
phase_step g Between n s k b x =
    cond (eqb x g.start_block) (scan (Ok None) Inside 0 k (k + 1) b) (scan (Ok None) Between n s (k + 1) b)
phase_step g Inside n s k b x =
    cond (eqb x g.start_block) (scan (Ok (Some (record { block_offset = s; verdict = refused_by INTERRUPTED 0 }))) Inside 0 k (k + 1) b)
    (cond (eqb x g.end_block) (scan (Ok None) Ended n s (k + 1) b) (keep_step g n s k b x))
phase_step g Ended n s k b x = ended_step g n s k b x

-- nothing is read after a verdict
unfoldable pub step : Settings → Result (Option Found) Refusal → Reader → List ℕ → ℕ → Scan
step g (Ok None) r b x = phase_step g r.phase r.body_length r.block_offset r.position b x
step g (Ok (Some f)) r b x = record { answer = Ok (Some f); reader = r; buffer = b }
step g (Err n) r b x = record { answer = Err n; reader = r; buffer = b }

unfoldable pub fold : Settings → Scan → List ℕ → Scan
fold g t [] = t
fold g t (x ∷ xs) = fold g (step g t.answer t.reader t.buffer x) xs

-- what a call gives: the answer, the next state and how many bytes of the part were read; and the buffer
abbrev pub refused : ℕ → Reader → List ℕ → Outcome Reading
refused n r b = outcome (record { answer = refused_by n 0; reader = r; used = 0 }) b

abbrev pub scanned : ℕ → Scan → Outcome Reading
scanned k t = outcome (record { answer = t.answer; reader = t.reader; used = t.reader.position - k }) t.buffer

-- Order 1, 2, 11. Offsets are 64-bit numbers: a part that would lead past them is refused (11).
unfoldable pub read_of : Settings → Reader → List ℕ → List ℕ → Outcome Reading
read_of g r xs b =
    need (valid g) (refused SETTING r b)
    (need (leb (capacity_of g) (length b)) (refused TOO_SHORT r b)
    (need (leb (length xs) (greatest_word - r.position)) (refused STATE r b)
    (scanned r.position (fold g (record { answer = Ok None; reader = r; buffer = b }) xs))))

-- the state before the first byte of a stream
abbrev pub fresh : Reader
fresh = record { phase = Between; body_length = 0; block_offset = 0; position = 0 }
