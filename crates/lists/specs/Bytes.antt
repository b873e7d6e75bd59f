-- Bytes searched, and bytes written over others.
use Rattle.std.specs.Prelude.{List, [], ◌∷◌, ◌++◌, Bool, true, false, cond, ◌&&◌, ◌||◌, ℕ, suc, ◌+◌, min, length, take, drop, leb, eqb}
use Rattle.std.specs.Borrow.{Bor}
use Prim.Native.Char.{code}
use Prim.Native.String.{String, [] as nil, ◌∷◌ as ◌then◌}

-- the bytes of a text
abbrev pub bytes : String → List ℕ
bytes nil = []
bytes (c then cs) = code c ∷ bytes cs

-- 2^64 - 1
abbrev pub greatest_word : ℕ
greatest_word = 0xFFFFFFFFFFFFFFFF

-- how many bytes come before the first a or b
abbrev pub clear : ℕ → ℕ → List ℕ → ℕ
clear a b [] = 0
clear a b (x ∷ xs) = cond (eqb x a || eqb x b) 0 (suc (clear a b xs))

-- whether a or b is among the bytes
abbrev pub has_any : ℕ → ℕ → List ℕ → Bool
has_any a b [] = false
has_any a b (x ∷ xs) = (eqb x a || eqb x b) || has_any a b xs

-- whether the test holds of all bytes
abbrev pub all : (ℕ → Bool) → List ℕ → Bool
all test [] = true
all test (x ∷ xs) = test x && all test xs

-- whether two lists have the same bytes
unfoldable pub same : List ℕ → List ℕ → Bool
same [] [] = true
same [] (y ∷ ys) = false
same (x ∷ xs) [] = false
same (x ∷ xs) (y ∷ ys) = eqb x y && same xs ys

-- l with vs written over it from offset a on (document 01: place)
unfoldable pub put : List ℕ → ℕ → List ℕ → List ℕ
put l a vs = take a l ++ vs ++ drop (a + length vs) l

-- target with source written over its beginning, as much of it as fits
abbrev pub overwritten : List ℕ → List ℕ → List ℕ
overwritten target source = take (length target) source ++ drop (length source) target

-- bytes or words with others written over their beginning, if there are so many; otherwise as they were
unfoldable pub over : List ℕ → List ℕ → List ℕ
over l ws = cond (leb (length ws) (length l)) (ws ++ drop (length ws) l) l

-- the address of the part of s that begins `start` bytes after it: a block of memory, and an offset in it. A part that would begin past the end begins there, so that an empty part has one address too.
abbrev pub part_address : Bor (List ℕ) → ℕ → ℕ × ℕ
part_address s start = (s.ref_ptr.0, s.ref_ptr.1 + min start (length s.now))
