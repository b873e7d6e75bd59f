-- Words written over the beginning of others.
use mathlib.Core.Path.{◌≡◌, ◌∙◌}
use mathlib.Core.List.{List}
use Prim.Native.Nat.{ℕ, ◌+◌, ◌≤◌, ◌<◌}
use native.Mathlib.Omega.{arith}
use lib.ListN.{length}
use lib.Seq.{sets, sets-eq}
use borrow.Author.Tests.{le-leb, lt-leb}
use Rattle.lists.specs.Bytes.{over}

-- too few words: nothing is written
pub few : (l ws : List ℕ) → length l < length ws → l ≡ over l ws
unfolding over
few l ws h = rw (lt-leb (length ws) (length l) h)

-- words written one by one, as many as there are
pub written_over : (l ws : List ℕ) → length ws ≤ length l → sets l 0 ws ≡ over l ws
unfolding over
written_over l ws h =
    let z : 0 + length ws ≡ length ws = omega arith in
    sets-eq ws l 0 (omega arith) ∙ rw (z, le-leb (length ws) (length l) h)
