-- What is written reads back in any parts: the round trip and the independence of the parts, together.
use mathlib.Core.Path.{◌≡◌, sym, ap, ◌∙◌}
use mathlib.Core.List.{List, [], ◌∷◌, append-nil}
use Prim.Native.Nat.{ℕ, ◌+◌, ◌≤◌}
use lib.ListN.{length}
use Rattle.lists.specs.Bytes.{greatest_word}
use Rattle.block.specs.Format.{block_of}
use Rattle.settings.specs.declared.Settings.{Settings}
use Rattle.stream.proofs.Run.{run_none}
use Rattle.stream.specs.Stream.{Judged, between, run}
use Rattle.whole_block.specs.Whole.{initial}
use Rattle.stream.specs.declared.Reader.{Reader}
use Rattle.block_theorems.specs.Session.{Served, session, joined}
use Rattle.block_theorems.proofs.Simulation.{Stands}
use Rattle.block_theorems.proofs.Parts.{Serves, session-from}
use Rattle.block_theorems.specs.Shapes.{Writable, accepted, type_read}
use Rattle.block_theorems.proofs.RoundTrip.{reads_back}

-- A session that reads the bytes bs, in whatever parts, gives one verdict, and leaves the reader between blocks.
pub record ReadInParts (g : Settings) (k : ℕ) (bs : List ℕ) (t : ℕ) (d : List ℕ) (s : Served) : Type 0 where
  pub says : s.says ≡ accepted k t d ∷ []
  pub stands : Stands g (k + length bs) between s.reader s.buffer

-- "so that what is written reads back": the block's bytes, in any number of parts of any length, to a reader that is between blocks at offset k
pub reads_back_in_parts : (g : Settings) (t : ℕ) (d : List ℕ) (k : ℕ) (r : Reader) (b : List ℕ) (parts : List (List ℕ))
    → Writable g t d → Stands g k between r b → joined parts ≡ block_of g t d → k + length (block_of g t d) ≤ greatest_word
    → ReadInParts g k (block_of g t d) (type_read g t) d (session g r b parts)
reads_back_in_parts g t d k r b parts w h e l =
    let p : Serves g k between b (block_of g t d) (session g r b parts) = rw e at (session-from g w.settings parts k between r b (rw e l) h) in
    let z = reads_back g t d w in
    record {
      says = p.says ∙ ap (λ (x : List ℕ). run g k between x) (sym (append-nil (block_of g t d))) ∙ z.verdict k []
          ∙ ap (λ (x : List Judged). accepted k (type_read g t) d ∷ x) (run_none g (k + length (block_of g t d)) between);
      stands = rw (z.rest k) at p.stands;
    }

-- and none before the last byte
pub silent_in_parts : (g : Settings) (t : ℕ) (d : List ℕ) (k : ℕ) (r : Reader) (b : List ℕ) (parts : List (List ℕ))
    → Writable g t d → Stands g k between r b → joined parts ≡ initial (block_of g t d) → k + length (initial (block_of g t d)) ≤ greatest_word
    → (session g r b parts).says ≡ []
silent_in_parts g t d k r b parts w h e l =
    let p : Serves g k between b (initial (block_of g t d)) (session g r b parts) = rw e at (session-from g w.settings parts k between r b (rw e l) h) in
    p.says ∙ (reads_back g t d w).silent k
