-- Laws by which the functions on numbers go: what one digit more does to each definition, and what a decimal is.
use Rattle.std.specs.Prelude.{Ok, Err}
use mathlib.Core.Path.{◌≡◌, refl, ap, sym, ◌∙◌}
use mathlib.Core.List.{List, [], ◌∷◌, ◌++◌, append_assoc}
use mathlib.Core.Bool.{Bool, true, false, cond, ◌&&◌}
use Prim.Native.Nat.{ℕ, zero, suc, ◌+◌, ◌*◌, ◌/◌, ◌^◌, ◌≤◌, ◌<◌}
use Prim.Native.Char.{code}
use native.Mathlib.Nat.{zero-add, pow-suc, pow-le-pow_right}
use native.Mathlib.Decide.{dec_le}
use native.Mathlib.Omega.{arith}
use lib.ListN.{length, take, drop, get_or, set, length-append, length-set}
use lib.Seq.{take-set-le, drop-set-lt, get_or-set_same}
use lib.Dec.{leb, ltb}
use borrow.Author.Tests.{leb-true, lt-ltb, le-ltb, ltb-false, le-leb, lt-leb}
use Rattle.lists.specs.Bytes.{bytes, all, same, put, over}
use Rattle.lists.proofs.Tests.{and_left, and_right}
use Rattle.lists.proofs.All.{list_all-is}
use Rattle.lists.proofs.Parts.{drop_more}
use Rattle.settings.specs.DataBytes.{digit}
use Rattle.numbers.specs.Numbers.{is_digit, value, number_field, decimal_of, decimal}
use Rattle.numbers.specs.declared.SequenceNumber.TheVariants.{MinusOne, Number}
use Rattle.numbers.specs.declared.NumberError.TheVariants.{Missing, NotNumber}

-- one digit more is read
module _ (s : List ℕ) (i : ℕ) (h : i < length s) where
  both : all is_digit (drop i s) ≡ true → (is_digit (get_or s i 0) && all is_digit (drop (i + 1) s)) ≡ true
  both e = rw (drop_more s i h) at e

  here : all is_digit (drop i s) ≡ true → is_digit (get_or s i 0) ≡ true
  here e = and_left (is_digit (get_or s i 0)) (all is_digit (drop (i + 1) s)) (both e)

  pub digit_most : all is_digit (drop i s) ≡ true → get_or s i 0 ≤ code "9"
  digit_most e = leb-true (get_or s i 0) (code "9") (and_right (leb (code "0") (get_or s i 0)) (leb (get_or s i 0) (code "9")) (here e))

-- the power of ten below which fewer than fifteen digits stand
pub power_most : (i : ℕ) → i < 15 → 10 ^ i ≤ 100000000000000
power_most i l = pow-le-pow_right {n = 10} (omega arith) {i = i} {j = 14} (omega arith)

-- what a field is, by its tests in order
module _ (most : ℕ) (s : List ℕ) where
  pub field_missing : length s ≡ 0 → (Err Missing) ≡ number_field most s
  unfolding number_field
  field_missing h = rw (lt-leb 1 (length s) (omega arith))

  module _ (some : length s ≡ 0 → ⊥) where
    pub field_minus : same s (bytes "-1") ≡ true → Ok MinusOne ≡ number_field most s
    unfolding number_field
    field_minus e = rw (le-leb 1 (length s) (omega arith), e)

    module _ (other : same s (bytes "-1") ≡ false) where
      pub field_plain : number_field most s ≡ cond (leb (length s) 15 && (all is_digit s && leb (value s) most)) (Ok (Number (value s))) (Err NotNumber)
      unfolding number_field
      field_plain = rw (le-leb 1 (length s) (omega arith), other)

      pub field_long : 15 < length s → (Err NotNumber) ≡ number_field most s
      field_long h = rw (field_plain, lt-leb (length s) 15 h)

      module _ (short : length s ≤ 15) where
        pub field_other : all is_digit s ≡ false → (Err NotNumber) ≡ number_field most s
        field_other e = rw (field_plain, le-leb (length s) 15 short, e)

        pub field-over : all is_digit s ≡ true → most < value s → (Err NotNumber) ≡ number_field most s
        field-over e h = rw (field_plain, le-leb (length s) 15 short, e, lt-leb (value s) most h)

        pub field_number : all is_digit s ≡ true → value s ≤ most → Ok (Number (value s)) ≡ number_field most s
        field_number e h = rw (field_plain, le-leb (length s) 15 short, e, le-leb (value s) most h)

-- a decimal does not depend on how many digits are allowed for, if they are enough
fuel : (f g n : ℕ) → n < f → n < g → decimal_of f n ≡ decimal_of g n
fuel zero g n h l = absurd (omega arith)
fuel (suc f) zero n h l = absurd (omega arith)
fuel (suc f) (suc g) n h l = go (λ k. fuel f g (n / 10) (omega arith) (omega arith)) (ltb n 10) refl
  where
    go : (10 ≤ n → decimal_of f (n / 10) ≡ decimal_of g (n / 10)) → (b : Bool) → ltb n 10 ≡ b
        → cond b (digit n ∷ []) (decimal_of f (n / 10) ++ digit n ∷ []) ≡ cond b (digit n ∷ []) (decimal_of g (n / 10) ++ digit n ∷ [])
    go k true e = refl
    go k false e = rw (k (ltb-false n 10 e))

pub decimal_one : (n : ℕ) → n < 10 → decimal n ≡ digit n ∷ []
unfolding decimal
decimal_one n h = rw (lt-ltb n 10 h)

pub decimal_more : (n : ℕ) → 10 ≤ n → decimal n ≡ decimal (n / 10) ++ digit n ∷ []
unfolding decimal
decimal_more n h = rw (le-ltb n 10 h, fuel n (suc (n / 10)) (n / 10) (omega arith) (omega arith))

-- what holds of each digit, and of a number if it holds of its tenth part, holds of every number
pub by_digits : (P : ℕ → Type 0) → ((n : ℕ) → n < 10 → P n) → ((n : ℕ) → 10 ≤ n → P (n / 10) → P n) → (n : ℕ) → P n
by_digits P one more n = go (suc n) n (omega arith)
  where
    go : (f m : ℕ) → m < f → P m
    go zero m h = absurd (omega arith)
    go (suc f) m h = by (dec_le 10 m) (λ k. go f (m / 10) (omega arith))
      where
        by : Dec (10 ≤ m) → (10 ≤ m → P (m / 10)) → P m
        by (yes k) r = more m k (r k)
        by (no k) r = one m (omega arith)

pub length_one : (n : ℕ) → n < 10 → length (decimal n) ≡ 1
length_one n h = rw (decimal_one n h)

pub length_more : (n : ℕ) → 10 ≤ n → length (decimal n) ≡ length (decimal (n / 10)) + 1
length_more n h = rw (decimal_more n h, length-append)

pub length_least : (n : ℕ) → 1 ≤ length (decimal n)
length_least n = by (dec_le 10 n)
  where
    by : Dec (10 ≤ n) → 1 ≤ length (decimal n)
    by (yes h) = omega (arith, length_more n h)
    by (no h) = omega (arith, length_one n (omega arith))

pub decimal-length : (k n : ℕ) → n < 10 ^ suc k → length (decimal n) ≤ suc k
decimal-length zero n h = omega (arith, length_one n h)
decimal-length (suc k) n h = by (dec_le 10 n) (λ l. decimal-length k (n / 10) l)
  where
    by : Dec (10 ≤ n) → (n / 10 < 10 ^ suc k → length (decimal (n / 10)) ≤ suc k) → length (decimal n) ≤ suc (suc k)
    by (yes l) r =
        let p : n < 10 ^ suc k * 10 = rw (pow-suc 10 (suc k)) at h in
        omega (arith, length_more n l, r (omega arith))
    by (no l) r = omega (arith, length_one n (omega arith))

-- a number of 64 bits has at most twenty digits
pub length_most : (n : ℕ) → n < 18446744073709551616 → length (decimal n) ≤ 20
length_most n h = decimal-length 19 n (omega arith)

regroup : (p vs r : List ℕ) (x : ℕ) → p ++ vs ++ x ∷ r ≡ p ++ (vs ++ x ∷ []) ++ r
regroup p vs r x = simp append_assoc

-- one digit more is written, behind the others
pub put_behind : (l vs : List ℕ) (a x : ℕ) → a + length vs < length l → put (set l (a + length vs) x) a vs ≡ put l a (vs ++ x ∷ [])
unfolding put
put_behind l vs a x h =
    let t : take a (set l (a + length vs) x) ≡ take a l = take-set-le a l (a + length vs) x (omega arith) in
    let d : drop (a + length vs) (set l (a + length vs) x) ≡ x ∷ drop (a + length vs + 1) l =
    drop_more (set l (a + length vs) x) (a + length vs) (simp length-set h)
    ∙ ap (λ (z : ℕ). z ∷ drop (a + length vs + 1) (set l (a + length vs) x)) (get_or-set_same l (a + length vs) x 0 h)
    ∙ ap (λ (z : List ℕ). x ∷ z) (drop-set-lt (a + length vs + 1) l (a + length vs) x (omega arith)) in
    let n : a + length vs + 1 ≡ a + length (vs ++ x ∷ []) = omega (arith, length-append vs (x ∷ [])) in
    rw (t, d, n) (regroup (take a l) vs (drop (a + length (vs ++ x ∷ [])) l) x)

-- the digits that are still to come: none, or those of what is left of a number
abbrev pub coming : ℕ → ℕ → List ℕ
coming zero n = []
coming (suc k) n = decimal n

-- the last digit of what is left of a number is written, and its others are still to come
pub put_digit : (l : List ℕ) (a i k m n x : ℕ) → i ≡ a + k → m ≡ suc k → length (coming m n) ≡ m → i < length l → x ≡ digit n
    → (length (coming k (n / 10)) ≡ k) × (put (set l i x) a (coming k (n / 10)) ≡ put l a (coming m n))
put_digit l a i k m n x p q h fit e = rw (p, q, e) (go k (rw q at h) (omega (arith, p)))
  where
    go : (k : ℕ) → length (decimal n) ≡ suc k → a + k < length l → (length (coming k (n / 10)) ≡ k) × (put (set l (a + k) (digit n)) a (coming k (n / 10)) ≡ put l a (decimal n))
    go zero h fit = by (dec_le 10 n)
      where
        by : Dec (10 ≤ n) → (length (coming 0 (n / 10)) ≡ 0) × (put (set l (a + 0) (digit n)) a [] ≡ put l a (decimal n))
        by (yes m) = absurd (omega (arith, h, length_more n m, length_least (n / 10)))
        by (no m) = (refl, rw (decimal_one n (omega arith)) (put_behind l [] a (digit n) fit))
    go (suc k) h fit = by (dec_le 10 n)
      where
        by : Dec (10 ≤ n) → (length (decimal (n / 10)) ≡ suc k) × (put (set l (a + suc k) (digit n)) a (decimal (n / 10)) ≡ put l a (decimal n))
        by (yes m) =
            let g : length (decimal (n / 10)) ≡ suc k = omega (arith, h, length_more n m) in
            (g, rw (sym g, decimal_more n m) (put_behind l (decimal (n / 10)) a (digit n) (omega (arith, g))))
        by (no m) = absurd (omega (arith, h, length_one n (omega arith)))

-- what fits is written
pub fits : (b vs : List ℕ) → length vs ≤ length b → put b 0 vs ≡ over b vs
unfolding put over
fits b vs h = rw (le-leb (length vs) (length b) h, zero-add (length vs))

-- what a number reads as, and `all` of an iterator
pub ruleset field_cases = (list_all-is, field_missing, field_minus, field_long, field_other, field-over, field_number)
