-- What the contracts of the private functions cite. Nobody needs to believe these: no public function's contract cites them.
use Rattle.std.specs.Prelude.{cond, ℕ, ltb, Option, Some, None}
use Rattle.settings.specs.declared.Kind.TheVariants.{Hybrid, Minimal}
use Rattle.settings.specs.declared.Settings.{Settings}

abbrev pub hybrid_numbers : ℕ → ℕ → ℕ → Settings
hybrid_numbers sb eb d = record { kind = Hybrid; start_block = sb; end_block = eb; data_limit = d }

abbrev pub minimal_numbers : ℕ → Settings
minimal_numbers d = record { kind = Minimal; start_block = 0x0B; end_block = 0x1C; data_limit = d }

-- the numbers as settings, valid or not; a byte is at most 255
abbrev pub unchecked_hybrid : ℕ → ℕ → ℕ → Option Settings
unchecked_hybrid sb eb d = cond (ltb 255 sb) None (cond (ltb 255 eb) None (Some (hybrid_numbers sb eb d)))

abbrev pub unchecked_minimal : ℕ → Option Settings
unchecked_minimal d = Some (minimal_numbers d)
