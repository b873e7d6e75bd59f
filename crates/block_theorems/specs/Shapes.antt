-- What the theorems on blocks speak of.
use Rattle.refusal.specs.Refusal.{accepted_as}
use Rattle.std.specs.Prelude.{◌≡◌, List, [], ◌∷◌, ◌++◌, true, ◌⊎◌, ℕ, ◌+◌, ◌≤◌, length}
use Prim.Native.Char.{code}
use Rattle.lists.specs.Bytes.{bytes}
use Rattle.settings.specs.DataBytes.{all_allowed}
use Rattle.block.specs.Format.{three_digits, checksum_of, hybrid_body, block_of}
use Rattle.settings.specs.Settings.{by_kind, valid}
use Rattle.block.specs.Judge.{type_matches}
use Rattle.settings.specs.declared.Kind.TheVariants.{Hybrid, Minimal}
use Rattle.settings.specs.declared.Settings.{Settings}
use Rattle.stream.specs.Stream.{Judged, between, run, after, verdicts}
use Rattle.whole_block.specs.Whole.{initial, whole_of}
use Rattle.writer.specs.Write.{type_valid}

-- SB, the bytes of a block, EB and CR
abbrev pub framed : Settings → List ℕ → List ℕ
framed g body = g.start_block ∷ (body ++ g.end_block ∷ 0x0D ∷ [])

-- the type with which a block of type t reads back; a minimal block counts as a data block
abbrev pub type_read : Settings → ℕ → ℕ
type_read g t = by_kind g.kind t (code "D")

-- what the writer writes
pub record Writable (g : Settings) (t : ℕ) (d : List ℕ) : Type 0 where
  pub settings : valid g ≡ true
  pub fits : length d ≤ g.data_limit
  pub type : type_valid g.kind t d ≡ true
  pub bytes : all_allowed d ≡ true

-- the verdict on a block of type t with data d, whose SB is at offset s
abbrev pub accepted : ℕ → ℕ → List ℕ → Judged
accepted s t d = record { offset = s; verdict = accepted_as t (length d); content = d }

-- A block of the bytes bs reads as type t and data d: at every offset, with any bytes after it. The reader is between blocks then, and there is no verdict before its last byte.
pub record ReadsBack (g : Settings) (bs : List ℕ) (t : ℕ) (d : List ℕ) : Type 0 where
  pub verdict : (k : ℕ) (ys : List ℕ) → run g k between (bs ++ ys) ≡ accepted k t d ∷ run g (k + length bs) between ys
  pub rest : (k : ℕ) → after g k between bs ≡ between
  pub silent : (k : ℕ) → run g k between (initial bs) ≡ []
  pub only_one : verdicts g bs ≡ accepted 0 t d ∷ []
  pub whole : whole_of g bs ≡ accepted_as t (length d)

-- the bytes at the writer's place are the block, and read back as its type and data
pub record Wrote (g : Settings) (t : ℕ) (d bs : List ℕ) : Type 0 where
  pub is : bs ≡ block_of g t d
  pub able : Writable g t d
  pub reads : ReadsBack g bs (type_read g t) d

-- bytes between SB and EB as the format has them: type t, data d, and for the sum the computed one or 999
pub record Formatted (sb t : ℕ) (d body : List ℕ) : Type 0 where
  pub sum : List ℕ
  pub is : body ≡ hybrid_body t d sum
  pub either : (sum ≡ bytes "999") ⊎ (sum ≡ three_digits (checksum_of sb t d))
  pub type : type_matches t d ≡ true
  pub bytes : all_allowed d ≡ true

-- the same for either kind; the bytes of a minimal block are its data
pub data Body (g : Settings) (t : ℕ) (d body : List ℕ) : Type 0 where
  hybrid : g.kind ≡ Hybrid → Formatted g.start_block t d body → Body g t d body
  minimal : g.kind ≡ Minimal → t ≡ code "D" → body ≡ d → all_allowed d ≡ true → Body g t d body

-- some data of n bytes with which a hybrid body has the format
pub record Found (sb : ℕ) (body : List ℕ) (t n : ℕ) : Type 0 where
  pub content : List ℕ
  pub form : Formatted sb t content body
  pub size : n ≡ length content

-- the same for either kind, and within the data limit
pub record Accepts (g : Settings) (body : List ℕ) (t n : ℕ) : Type 0 where
  pub content : List ℕ
  pub form : Body g t content body
  pub fits : length content ≤ g.data_limit
  pub size : n ≡ length content

-- and x, the byte after EB, is CR
pub record Closed (g : Settings) (body : List ℕ) (x t n : ℕ) : Type 0 where
  pub return : x ≡ 0x0D
  pub accepts : Accepts g body t n

-- where a block is accepted: its bytes stand in xs after others, k being the offset of the first byte of xs, and w is the verdict on it
pub record Stands (g : Settings) (k : ℕ) (xs : List ℕ) (w : Judged) : Type 0 where
  pub before : List ℕ
  pub body : List ℕ
  pub rest : List ℕ
  pub type : ℕ
  pub content : List ℕ
  pub is : xs ≡ before ++ (framed g body ++ rest)
  pub form : Body g type content body
  pub fits : length content ≤ g.data_limit
  pub says : w ≡ accepted (k + length before) type content

-- the bytes are one block, of type t and with n bytes of data
pub record OneBlock (g : Settings) (xs : List ℕ) (t n : ℕ) : Type 0 where
  pub body : List ℕ
  pub is : xs ≡ framed g body
  pub accepts : Accepts g body t n
