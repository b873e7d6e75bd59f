-- The ways in which a call of the reader returns, held against the definition of what it gives.
use Rattle.std.specs.Prelude.{None, Ok}
use mathlib.Core.Path.{◌≡◌, sym, ap, ◌∙◌}
use mathlib.Core.List.{List}
use mathlib.Core.Bool.{true, false}
use Prim.Native.Nat.{ℕ, ◌≤◌, ◌<◌, ◌-◌}
use native.Mathlib.Nat.{add-zero}
use lib.ListN.{length}
use borrow.Author.Tests.{lt-leb, le-leb}
use Rattle.settings.specs.Settings.{valid, capacity_of}
use Rattle.settings.specs.declared.Settings.{Settings}
use Rattle.settings.proofs.Laws.{valid_limit}
use Rattle.stream.specs.Scan.{Scan, scan, fold, refused, scanned, read_of}
use Rattle.lists.specs.Bytes.{greatest_word}
use Rattle.stream.specs.Internal.{from}
use Rattle.stream.specs.declared.Reader.{Reader}

module _ (g : Settings) (r : Reader) (xs b : List ℕ) where
  pub read_setting : valid g ≡ false → refused 1 r b ≡ read_of g r xs b
  unfolding read_of
  read_setting e = rw e

  pub read_too_short : valid g ≡ true → length b < capacity_of g → refused 2 r b ≡ read_of g r xs b
  unfolding read_of
  read_too_short e h = rw (e, lt-leb (capacity_of g) (length b) h)

  pub read_state : valid g ≡ true → capacity_of g ≤ length b → greatest_word - r.position < length xs → refused 11 r b ≡ read_of g r xs b
  unfolding read_of
  read_state e h l = rw (e, le-leb (capacity_of g) (length b) h, lt-leb (length xs) (greatest_word - r.position) l)

  pub read_scan : valid g ≡ true → capacity_of g ≤ length b → length xs ≤ greatest_word - r.position
      → scanned r.position (fold g (record { answer = (Ok None); reader = r; buffer = b }) xs) ≡ read_of g r xs b
  unfolding read_of
  read_scan e h l = rw (e, le-leb (capacity_of g) (length b) h, le-leb (length xs) (greatest_word - r.position) l)

  -- the scan from the part's first byte on
  from_start : from g r.phase r.body_length r.block_offset r.position b 0 xs ≡ fold g (record { answer = (Ok None); reader = r; buffer = b }) xs
  unfolding from
  from_start = ap (λ (k : ℕ). fold g (scan (Ok None) r.phase r.body_length r.block_offset k b) xs) (add-zero r.position)

  pub read_from : valid g ≡ true → capacity_of g ≤ length b → length xs ≤ greatest_word - r.position
      → read_of g r xs b ≡ scanned r.position (from g r.phase r.body_length r.block_offset r.position b 0 xs)
  read_from e h l = sym (ap (λ (t : Scan). scanned r.position t) from_start ∙ read_scan e h l)

pub ruleset read_cases = (read_setting, read_too_short, read_state, read_from, valid_limit)
