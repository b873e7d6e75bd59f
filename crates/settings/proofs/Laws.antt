-- What valid settings say.
use mathlib.Core.Path.{◌≡◌}
use mathlib.Core.Bool.{true, not, ◌&&◌}
use Prim.Native.Nat.{◌≤◌}
use lib.Dec.{eqb, leb}
use borrow.Author.Tests.{leb-true}
use Rattle.lists.proofs.Tests.{and_right}
use Rattle.settings.specs.Settings.{allowed, by_kind, valid, hybrid_valid, minimal_valid}
use Rattle.settings.specs.declared.Kind.{Kind}
use Rattle.settings.specs.declared.Kind.TheVariants.{Hybrid, Minimal}
use Rattle.settings.specs.declared.Settings.{Settings}

-- valid settings have a data limit within its range
pub valid_limit : (g : Settings) → valid g ≡ true → g.data_limit ≤ 99994
unfolding valid
valid_limit g = go g.kind
  where
    go : (k : Kind) → by_kind k (hybrid_valid g.start_block g.end_block g.data_limit) (minimal_valid g.start_block g.end_block g.data_limit) ≡ true → g.data_limit ≤ 99994
    go Hybrid e = leb-true _ _ (and_right (leb 1 g.data_limit) _ (and_right (not (allowed g.start_block) && not (allowed g.end_block) && not (eqb g.start_block g.end_block)) _ e))
    go Minimal e = leb-true _ _ (and_right (leb 1 g.data_limit) _ (and_right (eqb g.start_block 11 && eqb g.end_block 28) _ e))
