-- A control ID of up to 24 bytes in three words.
use Rattle.std.specs.Prelude.{List, [], ◌∷◌, ◌++◌, Bool, ℕ, zero, suc, ◌+◌, ◌*◌, ◌/◌, ◌%◌, length, take, drop, ltb}
use Rattle.lists.specs.Bytes.{all}
use Rattle.control_id.specs.declared.ControlId.{ControlId}

abbrev pub is_byte : ℕ → Bool
is_byte x = ltb x 256

abbrev pub all_bytes : List ℕ → Bool
all_bytes bs = all is_byte bs

-- up to eight bytes in a word, the first one lowest
unfoldable pub packed : List ℕ → ℕ
packed [] = 0
packed (x ∷ xs) = x + 256 * packed xs

-- the lowest n bytes of a word
unfoldable pub unpacked : ℕ → ℕ → List ℕ
unpacked zero w = []
unpacked (suc n) w = w % 256 ∷ unpacked n (w / 256)

-- what is past 24 bytes is in no word
unfoldable pub in_words : List ℕ → ControlId
in_words bs = record { length = length bs; first = packed (take 8 bs); second = packed (take 8 (drop 8 bs)); third = packed (take 8 (drop 16 bs)) }

-- all 24 bytes of the words
unfoldable pub word_bytes : ControlId → List ℕ
word_bytes c = unpacked 8 c.first ++ (unpacked 8 c.second ++ unpacked 8 c.third)

-- those that the control ID has
unfoldable pub bytes_in : ControlId → List ℕ
bytes_in c = take c.length (word_bytes c)
