-- Document 01, 'Reading a stream': the verdicts of a whole input, and what the reader's buffer holds after it. Nothing here knows of the parts in which the input comes.
use Rattle.std.specs.Prelude.{List, [], ◌∷◌, ◌++◌, cond, ℕ, ◌+◌, length, set, ltb, eqb, Result}
use Rattle.lists.specs.Outcome.{need}
use Rattle.block.specs.Content.{content_of}
use Rattle.settings.specs.Settings.{capacity_of}
use Rattle.block.specs.Judge.{judge}
use Rattle.settings.specs.declared.Settings.{Settings}
use Rattle.refusal.specs.Refusal.{LONG, SHAPE, INTERRUPTED, refused_by}
use Rattle.refusal.specs.declared.Accepted.{Accepted}
use Rattle.refusal.specs.declared.Refusal.{Refusal}

-- A verdict as it is given: the offset of the block's SB in the input, the verdict (with its number, place and type), and the data, empty where the block is refused.
pub record Judged : Type 0 where
  pub offset : ℕ
  pub verdict : Result Accepted Refusal
  pub content : List ℕ

abbrev pub judged : Settings → ℕ → Result Accepted Refusal → List ℕ → Judged
judged g s v body = record { offset = s; verdict = v; content = content_of g v body }

-- Where the reader stands: between blocks; in a block whose SB was at an offset, with the bytes since; after a block's EB.
pub data Mode : Type 0 where
  between : Mode
  inside : ℕ → List ℕ → Mode
  ended : ℕ → List ℕ → Mode

-- "its verdict comes with the byte after. If that byte is not CR, the block has the wrong shape"; 4 comes before 5
unfoldable pub end_verdict : Settings → List ℕ → ℕ → Result Accepted Refusal
end_verdict g body x = cond (ltb (capacity_of g) (length body)) (refused_by LONG 0) (need (eqb x 0x0D) (refused_by SHAPE 0) (judge g body))

-- what one byte brings: at most one verdict, and where the reader stands then
pub record Moved : Type 0 where
  pub says : List Judged
  pub mode : Mode

abbrev pub moved : List Judged → Mode → Moved
moved l m = record { says = l; mode = m }

-- "Bytes outside a block are skipped until SB."
abbrev pub opened : Settings → ℕ → ℕ → Mode
opened g k x = cond (eqb x g.start_block) (inside k []) between

-- the byte x at offset k. "A block ends at the first EB"; "An SB inside a block ends it as cut, and starts the next"; the byte after EB, CR or not, "is then read as one between blocks"
unfoldable pub move : Settings → ℕ → Mode → ℕ → Moved
move g k between x = moved [] (opened g k x)
move g k (inside s body) x =
    cond (eqb x g.start_block) (moved (judged g s (refused_by INTERRUPTED 0) body ∷ []) (inside k []))
    (cond (eqb x g.end_block) (moved [] (ended s body)) (moved [] (inside s (body ++ x ∷ []))))
move g k (ended s body) x = moved (judged g s (end_verdict g body x) body ∷ []) (opened g k x)

-- the verdicts of the bytes from offset k on. "Unfinished input gives no verdict."
unfoldable pub run : Settings → ℕ → Mode → List ℕ → List Judged
run g k m [] = []
run g k m (x ∷ xs) = (move g k m x).says ++ run g (k + 1) (move g k m x).mode xs

-- where the reader stands after them
unfoldable pub after : Settings → ℕ → Mode → List ℕ → Mode
after g k m [] = m
after g k m (x ∷ xs) = after g (k + 1) (move g k m x).mode xs

-- the verdicts of a whole input
abbrev pub verdicts : Settings → List ℕ → List Judged
verdicts g xs = run g 0 between xs

-- "The buffer holds the current block's bytes between SB and EB, as many as fit in D + 12 (minimal: D); other bytes of it are unchanged."
unfoldable pub hold : Settings → Mode → List ℕ → ℕ → List ℕ
hold g between b x = b
hold g (inside s body) b x =
    cond (eqb x g.start_block) b
    (cond (eqb x g.end_block) b (cond (ltb (length body) (capacity_of g)) (set b (length body) x) b))
hold g (ended s body) b x = b

-- the buffer after the bytes from offset k on
unfoldable pub held : Settings → ℕ → Mode → List ℕ → List ℕ → List ℕ
held g k m b [] = b
held g k m b (x ∷ xs) = held g (k + 1) (move g k m x).mode (hold g m b x) xs
