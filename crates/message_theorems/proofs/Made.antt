-- A message made at the start of a buffer of its own is the buffer's first bytes.
use Rattle.std.specs.Prelude.{Result}
use mathlib.Core.Path.{◌≡◌, ap, ◌∙◌}
use mathlib.Core.List.{List}
use Prim.Native.Nat.{ℕ, ◌≤◌}
use lib.ListN.{length, take}
use Rattle.lists.specs.Bytes.{put}
use Rattle.lists.specs.Outcome.{Outcome, outcome}
use Rattle.lists.proofs.Put.{first_fits, first_size, first_part}
use Rattle.refusal.specs.Refusal.{written_length}
use Rattle.refusal.specs.declared.Refusal.{Refusal}
use Rattle.writer.specs.Write.{wrote}

module _ (l message : List ℕ) (h : length message ≤ length l) (w : Result ℕ Refusal) (m : List ℕ) (e : outcome w m ≡ wrote l 0 message)
    (s : ℕ) (q : s ≡ written_length w) where
  made_size : s ≡ length message
  made_size = q ∙ ap (λ (z : Outcome (Result ℕ Refusal)). written_length z.answer) e

  made_content : m ≡ put l 0 message
  made_content = ap (λ (z : Outcome (Result ℕ Refusal)). z.buffer) e

  pub size_fits : s ≤ length m
  size_fits = first_fits l message m h made_content s made_size

  pub part_size : s ≡ length (take s m)
  part_size = first_size l message m h made_content s made_size

  pub made_part : take s m ≡ message
  made_part = first_part l message m h made_content s made_size
