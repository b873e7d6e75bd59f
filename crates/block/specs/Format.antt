-- Document 01, 'Hybrid block' with its minimal block (000, C.2.2 and C.4.2): the fields of digits, the checksum, and the bytes of a block.
use Rattle.std.specs.Prelude.{List, [], ◌∷◌, ◌++◌, ℕ, ◌+◌, ◌/◌, length}
use Rattle.lists.specs.Bytes.{bytes}
use Rattle.settings.specs.DataBytes.{xor_from, digit}
use Rattle.settings.specs.Settings.{by_kind}
use Rattle.settings.specs.declared.Settings.{Settings}

-- "ccccc is five decimal digits"
unfoldable pub five_digits : ℕ → List ℕ
five_digits n = digit (n / 10000) ∷ digit (n / 1000) ∷ digit (n / 100) ∷ digit (n / 10) ∷ digit n ∷ []

-- "xxx is three digits"
unfoldable pub three_digits : ℕ → List ℕ
three_digits n = digit (n / 100) ∷ digit (n / 10) ∷ digit n ∷ []

-- vv, "23", and the CR after it
abbrev pub version : List ℕ
version = bytes "23\r"

-- "5 plus the data length"
unfoldable pub count_field : List ℕ → List ℕ
count_field d = five_digits (5 + length d)

-- "the exclusive-or of every byte from SB to the last data byte"
unfoldable pub checksum_of : ℕ → ℕ → List ℕ → ℕ
checksum_of sb t d = xor_from sb (t ∷ version ++ d)

-- what stands between SB and EB, with the field xxx given
unfoldable pub hybrid_body : ℕ → List ℕ → List ℕ → List ℕ
hybrid_body t d xxx = t ∷ version ++ d ++ count_field d ++ xxx

-- SB t v v CR data ccccc xxx EB CR
unfoldable pub hybrid_block : Settings → ℕ → List ℕ → List ℕ
hybrid_block s t d =
    s.start_block ∷ (hybrid_body t d (three_digits (checksum_of s.start_block t d)) ++ s.end_block ∷ 0x0D ∷ [])

-- SB data EB CR
unfoldable pub minimal_block : Settings → List ℕ → List ℕ
minimal_block s d = s.start_block ∷ (d ++ s.end_block ∷ 0x0D ∷ [])

-- the bytes of a block of either kind; a minimal block has no type
unfoldable pub block_of : Settings → ℕ → List ℕ → List ℕ
block_of s t d = by_kind s.kind (hybrid_block s t d) (minimal_block s d)
