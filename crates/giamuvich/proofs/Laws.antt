-- What refuses the settings of no link may be passed settings that nobody looked at.
use Rattle.std.specs.Prelude.{Option, Some, None}
use mathlib.Core.Path.{◌≡◌, refl}
use mathlib.Core.Bool.{Bool, true, false}
use Prim.Native.Nat.{ℕ}
use lib.Dec.{leb, ltb}
use Rattle.lists.specs.Outcome.{Called}
use Rattle.settings.specs.Settings.{valid, valid_link, made_of, link_of, hybrid_link, minimal_link}
use Rattle.settings.specs.declared.Settings.{Settings}
use Rattle.giamuvich.specs.Internal.{hybrid_numbers, minimal_numbers, unchecked_hybrid, unchecked_minimal}

module _ (call : Option Settings → Called) (refuses : (g : Settings) → valid_link g ≡ false → call (Some g) ≡ call None) where
  passed : (g : Settings) → call (Some g) ≡ call (link_of (made_of g))
  unfolding valid_link
  passed g = go (valid g) (leb 128 g.data_limit) refl refl
    where
      go : (v l : Bool) → valid g ≡ v → leb 128 g.data_limit ≡ l → call (Some g) ≡ call (link_of (made_of g))
      go true true e f = rw (e, f)
      go true false e f = rw (e, f) (refuses g (rw (e, f)))
      go false l e f = rw e (refuses g (rw e))

  pub hybrid_passed : (sb eb d : ℕ) → call (unchecked_hybrid sb eb d) ≡ call (hybrid_link sb eb d)
  hybrid_passed sb eb d = go (ltb 255 sb) (ltb 255 eb) refl refl
    where
      go : (s e : Bool) → ltb 255 sb ≡ s → ltb 255 eb ≡ e → call (unchecked_hybrid sb eb d) ≡ call (hybrid_link sb eb d)
      go true e f g = rw f
      go false true f g = rw (f, g)
      go false false f g = rw (f, g) (passed (hybrid_numbers sb eb d))

  pub minimal_passed : (d : ℕ) → call (unchecked_minimal d) ≡ call (minimal_link d)
  minimal_passed d = passed (minimal_numbers d)
