-- The cases of `next_of`, by the tests of `field_at`.
use Rattle.std.specs.Prelude.{Some, None}
use mathlib.Core.Path.{◌≡◌, sym}
use mathlib.Core.List.{List}
use Prim.Native.Nat.{ℕ, ◌+◌, ◌≤◌, ◌<◌}
use lib.ListN.{length, get_or}
use borrow.Author.Tests.{le-ltb, lt-ltb, ne_eqb}
use native.Mathlib.Omega.{arith}
use Rattle.fields.specs.Fields.{bar, field_of}
use Rattle.fields.specs.declared.Field.{Field}
use Rattle.fields.proofs.Segment.{field_inside}
use Rattle.field_reader.specs.FieldReader.{next_of, found_of}
use Rattle.field_reader.specs.declared.Delimiter.TheVariants.{Separator, SegmentEnd, MessageEnd}

module _ (m : List ℕ) (at : ℕ) where
  pub at_end : length m ≤ at → None ≡ next_of m at
  unfolding next_of
  at_end h = simp (le-ltb at (length m) h)

  module _ (f : Field) (is : f ≡ field_of bar at 0 m) (h : at < length m) where
    pub end_inside : f.start + f.length ≤ length m
    end_inside = rw is (field_inside bar m at 0 (omega arith))

    pub next_is : next_of m at ≡ found_of m f
    unfolding next_of
    next_is = simp (lt-ltb at (length m) h, sym is)

    module _ (e : ℕ) (he : e ≡ f.start + f.length) where
      pub to_end : length m ≤ e → Some (record { field = f; delimiter = MessageEnd; after = e }) ≡ next_of m at
      to_end k = rw (next_is, sym he) (simp (le-ltb e (length m) k))

      pub to_bar : e < length m → get_or m e 0 ≡ bar → Some (record { field = f; delimiter = Separator; after = e + 1 }) ≡ next_of m at
      to_bar k b = rw (next_is, sym he) (simp (lt-ltb e (length m) k, b))

      pub to_return : e < length m → (get_or m e 0 ≡ bar → ⊥) → Some (record { field = f; delimiter = SegmentEnd; after = e + 1 }) ≡ next_of m at
      to_return k b = rw (next_is, sym he) (simp (lt-ltb e (length m) k, ne_eqb (get_or m e 0) bar b))

pub ruleset field_cases = (at_end, end_inside, to_end, to_bar, to_return)
