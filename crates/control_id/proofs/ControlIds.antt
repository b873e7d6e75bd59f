-- What a control ID in words is: the bytes come back, 24 of them, each a byte.
use mathlib.Core.Path.{◌≡◌, refl}
use mathlib.Core.List.{List, [], ◌∷◌, ◌++◌, append-nil}
use mathlib.Core.Bool.{true}
use Prim.Native.Nat.{ℕ, zero, suc, ◌+◌, ◌*◌, ◌/◌, ◌%◌, ◌≤◌, ◌<◌}
use native.Mathlib.Omega.{arith}
use lib.ListN.{length, take, drop, length-append, length-drop}
use lib.Seq.{drop-drop, length-take-le}
use borrow.Author.Tests.{ltb-true, lt-ltb}
use Rattle.lists.proofs.Parts.{drop_none}
use Rattle.lists.proofs.All.{all_append, all_take, all_drop}
use Rattle.lists.proofs.Tests.{and_left, and_right}
use Rattle.control_id.specs.ControlId.{is_byte, all_bytes, packed, unpacked, in_words, word_bytes, bytes_in}
use Rattle.control_id.specs.declared.ControlId.{ControlId}
use Rattle.control_id.proofs.Words.{unpacked-length}

-- the first n bytes go by a word of n bytes, if the others come back
back_more : (n : ℕ) (bs rest : List ℕ) → all_bytes bs ≡ true → take (length (drop n bs)) rest ≡ drop n bs
    → take (length bs) (unpacked n (packed (take n bs)) ++ rest) ≡ bs
unfolding packed unpacked
back_more zero bs rest a e = e
back_more (suc n) [] rest a e = refl
back_more (suc n) (x ∷ bs) rest a e =
    let l : x < 256 = ltb-true x 256 (and_left (is_byte x) (all_bytes bs) a) in
    let low : (x + 256 * packed (take n bs)) % 256 ≡ x = omega arith in
    let high : (x + 256 * packed (take n bs)) / 256 ≡ packed (take n bs) = omega arith in
    rw (low, high, back_more n bs rest (and_right (is_byte x) (all_bytes bs) a) e)

pub bytes_back : (bs : List ℕ) → length bs ≤ 24 → all_bytes bs ≡ true → bytes_in (in_words bs) ≡ bs
unfolding bytes_in word_bytes in_words
bytes_back bs h a =
    let none : drop 8 (drop 16 bs) ≡ [] = drop_none (drop 16 bs) 8 (simp length-drop (omega arith)) in
    let third : take (length (drop 16 bs)) (unpacked 8 (packed (take 8 (drop 16 bs))) ++ []) ≡ drop 16 bs =
    back_more 8 (drop 16 bs) [] (all_drop is_byte 16 bs a) (rw none) in
    let last : take (length (drop 16 bs)) (unpacked 8 (packed (take 8 (drop 16 bs)))) ≡ drop 16 bs = rw append-nil at third in
    let second : take (length (drop 8 bs)) (unpacked 8 (packed (take 8 (drop 8 bs))) ++ unpacked 8 (packed (take 8 (drop 16 bs)))) ≡ drop 8 bs =
    back_more 8 (drop 8 bs) (unpacked 8 (packed (take 8 (drop 16 bs)))) (all_drop is_byte 8 bs a) (rw (drop-drop 8 8 bs) last) in
    back_more 8 bs (unpacked 8 (packed (take 8 (drop 8 bs))) ++ unpacked 8 (packed (take 8 (drop 16 bs)))) a second

pub length_most : (c : ControlId) → length (word_bytes c) ≡ 24
unfolding word_bytes
length_most c =
    simp (length-append, unpacked-length)

pub bytes-length : (c : ControlId) → c.length ≤ 24 → length (bytes_in c) ≡ c.length
unfolding bytes_in
bytes-length c h = length-take-le c.length (word_bytes c) (omega (arith, length_most c))

unpacked_small : (n word : ℕ) → all_bytes (unpacked n word) ≡ true
unfolding unpacked
unpacked_small zero word = refl
unpacked_small (suc n) word = rw (lt-ltb (word % 256) 256 (omega arith), unpacked_small n (word / 256))

pub bytes_small : (c : ControlId) → all_bytes (bytes_in c) ≡ true
unfolding bytes_in word_bytes
bytes_small c =
    all_take is_byte c.length (unpacked 8 c.first ++ (unpacked 8 c.second ++ unpacked 8 c.third))
    (all_append is_byte (unpacked 8 c.first) (unpacked 8 c.second ++ unpacked 8 c.third) (unpacked_small 8 c.first)
    (all_append is_byte (unpacked 8 c.second) (unpacked 8 c.third) (unpacked_small 8 c.second) (unpacked_small 8 c.third)))
