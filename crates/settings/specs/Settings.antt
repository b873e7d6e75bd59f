-- Document 01, 'Hybrid block': the settings, their ranges, and what follows from them.
use Rattle.std.specs.Prelude.{Bool, cond, ◌&&◌, ◌||◌, not, ℕ, ◌+◌, leb, ltb, eqb, Option, Some, None}
use Rattle.settings.specs.declared.Kind.{Kind}
use Rattle.settings.specs.declared.Kind.TheVariants.{Hybrid, Minimal}
use Rattle.settings.specs.declared.Settings.{Settings}

-- "Data bytes are 20 to 7E and CR."
abbrev pub allowed : ℕ → Bool
allowed x = (leb 0x20 x && leb x 0x7E) || eqb x 0x0D

abbrev pub by_kind : {A : Type 0} → Kind → A → A → A
by_kind Hybrid h m = h
by_kind Minimal h m = m

-- "The data limit D is a setting, 1 to 99,994"
abbrev pub limit_valid : ℕ → Bool
limit_valid d = leb 1 d && leb d 99994

-- "for a sender or receiver at least 128"
abbrev pub enough_for_link : ℕ → Bool
enough_for_link d = leb 128 d

abbrev pub valid_link_limit : ℕ → Bool
valid_link_limit d = limit_valid d && enough_for_link d

-- "A setting is refused if the two are equal, or if either is CR (0D) or lies in 20 to 7E": these are just the data bytes
abbrev pub hybrid_valid : ℕ → ℕ → ℕ → Bool
hybrid_valid sb eb d = not (allowed sb) && not (allowed eb) && not (eqb sb eb) && limit_valid d

-- a minimal block has "0B and 1C fixed" and "the same D"
abbrev pub minimal_valid : ℕ → ℕ → ℕ → Bool
minimal_valid sb eb d = eqb sb 0x0B && eqb eb 0x1C && limit_valid d

-- number 1 is given exactly where this is false
unfoldable pub valid : Settings → Bool
valid s =
    by_kind s.kind (hybrid_valid s.start_block s.end_block s.data_limit)
    (minimal_valid s.start_block s.end_block s.data_limit)

unfoldable pub valid_link : Settings → Bool
valid_link s = valid s && enough_for_link s.data_limit

-- "as many as fit in D + 12 (minimal: D)"
abbrev pub capacity_of : Settings → ℕ
capacity_of s = by_kind s.kind (s.data_limit + 12) s.data_limit

-- the data follows t, vv and CR; in a minimal block it comes first
abbrev pub data_offset_of : Settings → ℕ
data_offset_of s = by_kind s.kind 4 0

abbrev pub made_of : Settings → Option Settings
made_of s = cond (valid s) (Some s) None

-- settings of plain numbers; a byte is at most 255
abbrev pub hybrid_of : ℕ → ℕ → ℕ → Option Settings
hybrid_of sb eb d =
    cond (ltb 255 sb) None
    (cond (ltb 255 eb) None
    (made_of (record { kind = Hybrid; start_block = sb; end_block = eb; data_limit = d })))

abbrev pub minimal_of : ℕ → Option Settings
minimal_of d = made_of (record { kind = Minimal; start_block = 0x0B; end_block = 0x1C; data_limit = d })

abbrev pub link_of : Option Settings → Option Settings
link_of None = None
link_of (Some s) = cond (enough_for_link s.data_limit) (Some s) None

abbrev pub hybrid_link : ℕ → ℕ → ℕ → Option Settings
hybrid_link sb eb d = link_of (hybrid_of sb eb d)

abbrev pub minimal_link : ℕ → Option Settings
minimal_link d = link_of (minimal_of d)
