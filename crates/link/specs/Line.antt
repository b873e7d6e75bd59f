-- Demand 3, "circuits that keep order but may lose blocks or damage them so that the block rules refuse them": a line carries bytes, and a reader takes them one by one.
use Rattle.std.specs.Prelude.{List, [], ◌∷◌, ◌++◌, Bool, true, false, cond, ◌&&◌, ℕ, ◌+◌, eqb, Result, Ok, Err}
use Rattle.lists.specs.Bytes.{same}
use Rattle.settings.specs.declared.Settings.{Settings}
use Rattle.refusal.specs.declared.Accepted.{Accepted}
use Rattle.refusal.specs.declared.Refusal.{Refusal}
use Rattle.stream.specs.Stream.{Judged, Mode, between, Moved, move, run}

-- a reader: where it stands in the stream, and the offset of the next byte
pub record Reader : Type 0 where
  pub mode : Mode
  pub offset : ℕ

abbrev pub new_reader : Reader
new_reader = record { mode = between; offset = 0 }

-- a line in one direction: the reader at its end, and the bytes on the way to it
pub record Line : Type 0 where
  pub reader : Reader
  pub bytes : List ℕ

abbrev pub line : Reader → List ℕ → Line
line r xs = record { reader = r; bytes = xs }

-- nothing on the way, and no block half read
abbrev pub empty_line : Line
empty_line = line new_reader []

-- one byte is read: at most one verdict, and the reader then
abbrev pub reads_byte : Settings → Reader → ℕ → Moved
reads_byte g r x = move g r.offset r.mode x

abbrev pub reader_after : Settings → Reader → ℕ → Reader
reader_after g r x = record { mode = (reads_byte g r x).mode; offset = r.offset + 1 }

-- a block that the block rules accept: its type and data
pub record Arrival : Type 0 where
  pub type : ℕ
  pub content : List ℕ

abbrev pub arrival : ℕ → List ℕ → Arrival
arrival t d = record { type = t; content = d }

abbrev pub accepts : Result Accepted Refusal → List ℕ → List Arrival
accepts (Ok v) d = arrival v.block_type d ∷ []
accepts (Err v) d = []

unfoldable pub accepted_of : List Judged → List Arrival
accepted_of [] = []
accepted_of (w ∷ ws) = accepts w.verdict w.content ++ accepted_of ws

-- the blocks that the reader will accept of the bytes on its line
abbrev pub arriving : Settings → Line → List Arrival
arriving g x = accepted_of (run g x.reader.offset x.reader.mode x.bytes)

abbrev pub same_arrival : Arrival → Arrival → Bool
same_arrival a b = eqb a.type b.type && same a.content b.content

-- whether the first are some of the second, in their order
unfoldable pub some_of : List Arrival → List Arrival → Bool
some_of [] ys = true
some_of (x ∷ xs) [] = false
some_of (x ∷ xs) (y ∷ ys) = cond (same_arrival x y) (some_of xs ys) (some_of (x ∷ xs) ys)

-- whether each of the first is one of the second: in any order, and any number of times
unfoldable pub one_of : Arrival → List Arrival → Bool
one_of x [] = false
one_of x (y ∷ ys) = cond (same_arrival x y) true (one_of x ys)

unfoldable pub each_of : List Arrival → List Arrival → Bool
each_of [] ys = true
each_of (x ∷ xs) ys = one_of x ys && each_of xs ys

-- Loss and damage: any other bytes may come in place of those on the line, as many as you like, if no block is accepted that would not have been:
-- all that changed is refused, by one refusal, by several, or by none until the next SB
abbrev pub damages : Settings → Line → List ℕ → Bool
damages g x ys = some_of (arriving g (line x.reader ys)) (arriving g x)

-- and of answers, which need no order: they may come in another one, and repeatedly
abbrev pub disorders : Settings → Line → List ℕ → Bool
disorders g x ys = each_of (arriving g (line x.reader ys)) (arriving g x)
