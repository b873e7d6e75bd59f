-- Document 01, 'Hybrid block' and 'Numbers that say no': what the writer answers, and what it leaves in the caller's buffer.
use Rattle.std.specs.Prelude.{List, Bool, true, ℕ, ◌+◌, length, leb, Result, Ok}
use Rattle.lists.specs.Bytes.{put}
use Rattle.settings.specs.DataBytes.{all_allowed, first_forbidden}
use Rattle.block.specs.Format.{block_of}
use Rattle.settings.specs.Settings.{by_kind, valid}
use Rattle.block.specs.Judge.{type_matches}
use Rattle.settings.specs.declared.Kind.{Kind}
use Rattle.settings.specs.declared.Settings.{Settings}
use Rattle.refusal.specs.Refusal.{SETTING, TOO_SHORT, BYTE, LONG, SHAPE, refused_by}
use Rattle.refusal.specs.declared.Refusal.{Refusal}
use Rattle.lists.specs.Outcome.{need, Outcome, outcome}

-- the bytes of a block that are not data: SB t v v CR, ccccc xxx EB CR; of a minimal block SB, EB CR
abbrev pub frame_length : Kind → ℕ
frame_length k = by_kind k 15 3

-- "Room needed from the named place: the writer's block"
abbrev pub need_of : Settings → List ℕ → ℕ
need_of s d = length d + frame_length s.kind

-- "5 at the writer means only a wrong t or N data"; a minimal block has no t
abbrev pub type_valid : Kind → ℕ → List ℕ → Bool
type_valid k t d = by_kind k (type_matches t d) true

-- "A writer's refusal writes nothing."
abbrev pub refused : ℕ → ℕ → List ℕ → Outcome (Result ℕ Refusal)
refused k i b = outcome (refused_by k i) b

-- "the bytes before that place and after the block are unchanged"
abbrev pub wrote : List ℕ → ℕ → List ℕ → Outcome (Result ℕ Refusal)
wrote b start block = outcome (Ok (length block)) (put b start block)

-- the block of type t with data d, written into b from the place on: 2, then "any other act 4, 5, 3"
unfoldable pub frame_of : Settings → ℕ → List ℕ → ℕ → List ℕ → Outcome (Result ℕ Refusal)
frame_of s t d start b =
    need (leb (start + need_of s d) (length b)) (refused TOO_SHORT 0 b)
    (need (leb (length d) s.data_limit) (refused LONG 0 b)
    (need (type_valid s.kind t d) (refused SHAPE 0 b)
    (need (all_allowed d) (refused BYTE (first_forbidden d) b)
    (wrote b start (block_of s t d)))))

-- "every act first 1"
unfoldable pub write_of : Settings → ℕ → List ℕ → ℕ → List ℕ → Outcome (Result ℕ Refusal)
write_of s t d start b = need (valid s) (refused SETTING 0 b) (frame_of s t d start b)
