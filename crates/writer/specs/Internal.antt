-- What the contracts of the writer's private functions cite. Nobody needs to believe these: of the writer's definitions the public functions' contracts cite Write alone.
use Rattle.std.specs.Prelude.{List, [], ◌∷◌, ◌++◌, ℕ}
use Rattle.block.specs.Format.{version, five_digits, three_digits}

-- SB t v v CR
unfoldable pub hybrid_header : ℕ → ℕ → List ℕ
hybrid_header sb t = sb ∷ t ∷ version

-- ccccc xxx EB CR
unfoldable pub hybrid_trailer : ℕ → ℕ → ℕ → List ℕ
hybrid_trailer count sum eb = five_digits count ++ three_digits sum ++ eb ∷ 0x0D ∷ []
