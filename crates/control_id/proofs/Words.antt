-- The bytes of a word taken together one by one, and apart as std has them.
use mathlib.Core.Path.{◌≡◌, refl, sym, ap, ◌∙◌}
use mathlib.Core.List.{List, ◌++◌, append_assoc, append-nil}
use Prim.Native.Nat.{ℕ, zero, suc, ◌+◌, ◌-◌, ◌*◌, ◌/◌, ◌^◌, ◌≤◌, ◌<◌}
use native.Mathlib.Omega.{arith}
use native.Mathlib.Nat.{zero-add, pow-suc, pow-le-pow_right}
use native.Mathlib.Numerals.{add-one}
use mir.Syntax.{w64}
use lib.ListN.{length, drop, get_or, length-append}
use Rattle.std.specs.Int.{to_le_bytes}
use Rattle.lists.specs.Bytes.{put, overwritten}
use Rattle.lists.proofs.Parts.{drop_more, drop_none}
use Rattle.lists.proofs.Put.{put-put, copied, over-fits, length-put}
use borrow.Rule.Slice.PartMut.{mid_of, put_mid}
use Rattle.control_id.specs.ControlId.{packed, unpacked}

pub packed_none : (s : List ℕ) (i : ℕ) → length s ≤ i → 0 ≡ packed (drop i s)
unfolding packed
packed_none s i h = sym (rw (drop_none s i h))

-- the byte before those that are in the word
pub packed_more : (s : List ℕ) (i word : ℕ) → 0 < i → i ≤ length s → word ≡ packed (drop i s)
    → word * 256 + get_or s (i - 1) 0 ≡ packed (drop (i - 1) s)
unfolding packed
packed_more s i word p h e =
    let j : i - 1 + 1 ≡ i = omega arith in
    rw (drop_more s (i - 1) (omega arith), j, ← e) (omega arith)

-- k bytes are less than 256 to the power k
pub power_more : (word x k : ℕ) → word < 256 ^ k → x < 256 → word * 256 + x < 256 ^ (k + 1)
power_more word x k h l = rw (add-one k, pow-suc 256 k) (omega arith)

pub power_most : (word k : ℕ) → word < 256 ^ k → k ≤ 7 → word < 72057594037927936
power_most word k h l =
    let p : 256 ^ k ≤ 72057594037927936 = pow-le-pow_right {n = 256} (omega arith) {i = k} {j = 7} (omega arith) in
    omega arith

pub bytes_of_word : (w : ℕ) → to_le_bytes w64 w ≡ unpacked 8 w
unfolding unpacked
bytes_of_word w =
    let e7 : w / 256 / 256 / 256 / 256 / 256 / 256 / 256 ≡ w / 72057594037927936 = omega arith in
    let e6 : w / 256 / 256 / 256 / 256 / 256 / 256 ≡ w / 281474976710656 = omega arith in
    let e5 : w / 256 / 256 / 256 / 256 / 256 ≡ w / 1099511627776 = omega arith in
    let e4 : w / 256 / 256 / 256 / 256 ≡ w / 4294967296 = omega arith in
    let e3 : w / 256 / 256 / 256 ≡ w / 16777216 = omega arith in
    let e2 : w / 256 / 256 ≡ w / 65536 = omega arith in
    rw (e7, e6, e5, e4, e3, e2)

-- what is written over all that is there
put_all : (l vs : List ℕ) → length vs ≡ length l → put l 0 vs ≡ vs
unfolding put
put_all l vs h = rw (drop_none l (0 + length vs) (omega arith)) (append-nil vs)

-- three words written one after the other
pub put_words : (l a b c : List ℕ) → length l ≡ 24 → length a ≡ 8 → length b ≡ 8 → length c ≡ 8 → put (put (put l 0 a) 8 b) 16 c ≡ a ++ (b ++ c)
put_words l a b c n i j k =
    let eight : 0 + length a ≡ 8 = omega arith in
    let sixteen : 0 + length (a ++ b) ≡ 16 = omega (arith, length-append a b) in
    let second : put (put l 0 a) 8 b ≡ put l 0 (a ++ b) = rw eight at (put-put l a b 0 (omega arith)) in
    let third : put (put l 0 (a ++ b)) 16 c ≡ put l 0 ((a ++ b) ++ c) = rw sixteen at (put-put l (a ++ b) c 0 (omega arith)) in
    rw (second, third, append_assoc a b c) (put_all l (a ++ (b ++ c)) (simp length-append (omega arith)))

pub unpacked-length : (n word : ℕ) → length (unpacked n word) ≡ n
unfolding unpacked
unpacked-length zero word = refl
unpacked-length (suc n) word = ap suc (unpacked-length n (word / 256))

-- a copy over the beginning, and one over a part of n bytes from a on
copied_first : (l vs : List ℕ) → length vs ≤ length l → overwritten l vs ≡ put l 0 vs
unfolding put
copied_first l vs h = rw zero-add (over-fits l vs h)

copied_at : (l vs last : List ℕ) (a n : ℕ) → a + n ≡ length l → length vs ≤ n → last ≡ overwritten (mid_of a n l) vs → put_mid a n l last ≡ put l a vs
copied_at l vs last a n h f e =
    let q : length l - a ≡ n = omega arith in
    rw q at (copied l vs last a (omega arith) (rw q e))

-- as three copies leave the bytes
pub words_copied : (zeros all second third : List ℕ) (a b c : ℕ) → length zeros ≡ 24 → all ≡ overwritten zeros (to_le_bytes w64 a)
    → second ≡ overwritten (mid_of 8 16 all) (to_le_bytes w64 b) → third ≡ overwritten (mid_of 16 8 (put_mid 8 16 all second)) (to_le_bytes w64 c)
    → put_mid 16 8 (put_mid 8 16 all second) third ≡ unpacked 8 a ++ (unpacked 8 b ++ unpacked 8 c)
unfolding unpacked
words_copied zeros all second third a b c h p q r =
    let i = unpacked-length 8 a in
    let j = unpacked-length 8 b in
    let k = unpacked-length 8 c in
    let one : all ≡ put zeros 0 (unpacked 8 a) = rw bytes_of_word at p ∙ copied_first zeros (unpacked 8 a) (omega arith) in
    let n : length all ≡ 24 = ap length one ∙ length-put zeros (unpacked 8 a) 0 (omega arith) ∙ h in
    let two : put_mid 8 16 all second ≡ put all 8 (unpacked 8 b) = copied_at all (unpacked 8 b) second 8 16 (omega arith) (omega arith) (rw bytes_of_word at q) in
    let m : length (put_mid 8 16 all second) ≡ 24 = ap length two ∙ length-put all (unpacked 8 b) 8 (omega arith) ∙ n in
    copied_at (put_mid 8 16 all second) (unpacked 8 c) third 16 8 (omega arith) (omega arith) (rw bytes_of_word at r)
    ∙ ap (λ (z : List ℕ). put z 16 (unpacked 8 c)) (two ∙ ap (λ (z : List ℕ). put z 8 (unpacked 8 b)) one)
    ∙ put_words zeros (unpacked 8 a) (unpacked 8 b) (unpacked 8 c) h i j k
