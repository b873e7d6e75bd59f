-- Numbers as they are written read back as they were, two numbers are never written alike, and no byte of a number ends a field.
use Rattle.std.specs.Prelude.{Result, Ok, Err}
use mathlib.Core.Path.{◌≡◌, refl, sym, ap, ◌∙◌}
use mathlib.Core.List.{List, [], ◌∷◌, ◌++◌}
use mathlib.Core.Bool.{Bool, true, false, ◌&&◌, true≢false}
use Prim.Native.Nat.{ℕ, suc, ◌+◌, ◌-◌, ◌*◌, ◌/◌, ◌^◌, ◌≤◌, ◌<◌}
use Prim.Native.Char.{code}
use native.Mathlib.Omega.{arith}
use lib.ListN.{length}
use lib.Dec.{leb, eqb}
use borrow.Author.Tests.{leb-true, le-leb, ne_eqb}
use Rattle.lists.specs.Bytes.{bytes, has_any, all, same}
use Rattle.lists.proofs.Tests.{and_left, and_right, cond_ind}
use Rattle.lists.proofs.All.{all_append}
use Rattle.lists.proofs.Same.{same-is}
use Rattle.settings.specs.Settings.{allowed}
use Rattle.settings.specs.DataBytes.{digit, all_allowed}
use Rattle.numbers.specs.Numbers.{is_digit, value_from, value, number_field, greatest_expected, decimal, text_of}
use Rattle.numbers.specs.declared.SequenceNumber.{SequenceNumber}
use Rattle.numbers.specs.declared.SequenceNumber.TheVariants.{MinusOne, Number}
use Rattle.numbers.specs.declared.NumberError.{NumberError}
use Rattle.numbers.specs.declared.NumberError.TheVariants.{Missing, NotNumber}
use Rattle.numbers.proofs.Laws.{decimal_one, decimal_more, by_digits, length_least, decimal-length, field_plain, field_number}

-- ---- digits

digit-is : (n : ℕ) → is_digit (digit n) ≡ true
digit-is n = rw (le-leb (code "0") (digit n) (omega arith), le-leb (digit n) (code "9") (omega arith))

-- a decimal is digits and nothing else
pub decimal_digits : (n : ℕ) → all is_digit (decimal n) ≡ true
decimal_digits =
    by_digits (λ (n : ℕ). all is_digit (decimal n) ≡ true)
    (λ n h. rw (decimal_one n h, digit-is n))
    (λ n h r. rw (decimal_more n h) (all_append is_digit (decimal (n / 10)) (digit n ∷ []) r (rw (digit-is n))))

-- ---- what a decimal stands for

value_behind : (s : List ℕ) (a x : ℕ) → value_from a (s ++ x ∷ []) ≡ value_from a s * 10 + (x - code "0")
value_behind [] a x = refl
value_behind (y ∷ ys) a x = value_behind ys (a * 10 + (y - code "0")) x

-- the decimal of a number stands for that number
pub value_back : (n : ℕ) → value (decimal n) ≡ n
value_back =
    by_digits (λ (n : ℕ). value (decimal n) ≡ n)
    (λ n h. rw (decimal_one n h) (omega arith))
    (λ n h r. rw (decimal_more n h, value_behind (decimal (n / 10)) 0 (digit n), r) (omega arith))

-- two numbers are never written alike
pub decimal_one_to_one : (n m : ℕ) → decimal n ≡ decimal m → n ≡ m
decimal_one_to_one n m e = sym (value_back n) ∙ ap value e ∙ value_back m

-- ---- reading back

digits_not_minus : (s : List ℕ) → all is_digit s ≡ true → same s (bytes "-1") ≡ false
unfolding same
digits_not_minus [] e = refl
digits_not_minus (x ∷ xs) e =
    let h : code "0" ≤ x = leb-true (code "0") x (and_left (leb (code "0") x) (leb x (code "9")) (and_left (is_digit x) (all is_digit xs) e)) in
    rw (ne_eqb x (code "-") (λ (z : x ≡ code "-"). omega arith))

-- digits, few enough and for no more than the bound, are the number that they stand for
digits_read : (most : ℕ) (s : List ℕ) → all is_digit s ≡ true → 1 ≤ length s → length s ≤ 15 → value s ≤ most
    → number_field most s ≡ Ok (Number (value s))
digits_read most s e l m h = sym (field_number most s (λ z. omega arith) (digits_not_minus s e) m e h)

-- a number up to the bound, written in plain decimal, reads back as that number
pub reads_back : (most n : ℕ) → n ≤ most → n < 10 ^ 15 → number_field most (decimal n) ≡ Ok (Number n)
reads_back most n h l =
    digits_read most (decimal n) (decimal_digits n) (length_least n) (decimal-length 14 n l) (omega (arith, value_back n))
    ∙ ap (λ (m : ℕ). Ok (Number m)) (value_back n)

-- -1 reads back as -1
pub minus_one_back : (most : ℕ) → number_field most (text_of MinusOne) ≡ Ok MinusOne
unfolding number_field same
minus_one_back most = refl

-- whether a number is -1 or within the bound
abbrev pub is_within : ℕ → SequenceNumber → Bool
is_within most MinusOne = true
is_within most (Number n) = leb n most

-- every number within a bound of at most 15 digits reads back as it was
pub text_back : (most : ℕ) → most < 10 ^ 15 → (v : SequenceNumber) → is_within most v ≡ true → number_field most (text_of v) ≡ Ok v
text_back most l MinusOne h = minus_one_back most
text_back most l (Number n) h = let m : n ≤ most = leb-true n most h in reads_back most n m (omega arith)

-- decimals that read as the same number are the same bytes
pub reading_one_to_one : (most n m : ℕ) → n ≤ most → m ≤ most → n < 10 ^ 15 → m < 10 ^ 15
    → number_field most (decimal n) ≡ number_field most (decimal m) → decimal n ≡ decimal m
reading_one_to_one most n m h k l r e =
    let p : Ok (Number n) ≡ Ok (Number m) = sym (reads_back most n h l) ∙ e ∙ reads_back most m k r in
    let q : n ≡ m = cc in
    ap decimal q

-- "leading zeros allowed": one in front changes nothing, where there is a place for it
pub leading_zero : (most : ℕ) (s : List ℕ) → all is_digit s ≡ true → 1 ≤ length s → length s < 15
    → number_field most (code "0" ∷ s) ≡ number_field most s
leading_zero most s e l m =
    field_plain most (code "0" ∷ s) (λ z. omega arith) (digits_not_minus (code "0" ∷ s) e)
    ∙ (rw (le-leb (suc (length s)) 15 (omega arith), le-leb (length s) 15 (omega arith)))
    ∙ sym (field_plain most s (λ z. omega arith) (digits_not_minus s e))

-- ---- what was read

-- the bytes s are n in 1 to 15 digits, and n is within the bound
pub record Digits (most : ℕ) (s : List ℕ) (n : ℕ) : Type 0 where
  pub some : 1 ≤ length s
  pub few : length s ≤ 15
  pub digits : all is_digit s ≡ true
  pub worth : value s ≡ n
  pub bound : n ≤ most

missing_not : (v : SequenceNumber) → ◌≡◌ {A = Result SequenceNumber NumberError} (Err Missing) (Ok v) → ⊥
missing_not v e = let z : ◌≡◌ {A = ℕ} 0 1 = cc in omega arith

other_not : (v : SequenceNumber) → ◌≡◌ {A = Result SequenceNumber NumberError} (Err NotNumber) (Ok v) → ⊥
other_not v e = let z : ◌≡◌ {A = ℕ} 0 1 = cc in omega arith

minus_not_number : (n : ℕ) → ◌≡◌ {A = Result SequenceNumber NumberError} (Ok MinusOne) (Ok (Number n)) → ⊥
minus_not_number n e = let z : ◌≡◌ {A = ℕ} 0 1 = cc in omega arith

-- whether a field is plain digits, few enough and for no more than the bound
abbrev plain : ℕ → List ℕ → Bool
plain most s = leb (length s) 15 && (all is_digit s && leb (value s) most)

digits_only : (most n : ℕ) (s : List ℕ) → 1 ≤ length s → plain most s ≡ true → value s ≡ n → Digits most s n
digits_only most n s l p q =
    let r : (all is_digit s && leb (value s) most) ≡ true = and_right (leb (length s) 15) (all is_digit s && leb (value s) most) p in
    record {
      some = l;
      few = leb-true (length s) 15 (and_left (leb (length s) 15) (all is_digit s && leb (value s) most) p);
      digits = and_left (all is_digit s) (leb (value s) most) r;
      worth = q;
      bound = rw q at (leb-true (value s) most (and_right (all is_digit s) (leb (value s) most) r));
    }

-- a field that reads as a number is its digits and nothing else
pub field_digits : (most n : ℕ) (s : List ℕ) → number_field most s ≡ Ok (Number n) → Digits most s n
unfolding number_field
field_digits most n s =
    cond_ind (λ (r : Result SequenceNumber NumberError). r ≡ Ok (Number n) → Digits most s n) (leb 1 (length s)) _ (Err Missing)
    (λ l. cond_ind (λ (r : Result SequenceNumber NumberError). r ≡ Ok (Number n) → Digits most s n) (same s (bytes "-1")) (Ok MinusOne) _
    (λ m e. absurd (minus_not_number n e))
    (λ m. cond_ind (λ (r : Result SequenceNumber NumberError). r ≡ Ok (Number n) → Digits most s n) (plain most s) (Ok (Number (value s))) (Err NotNumber)
    (λ p e. let q : value s ≡ n = cc in digits_only most n s (leb-true 1 (length s) l) p q)
    (λ p e. absurd (other_not (Number n) e))))
    (λ l e. absurd (missing_not (Number n) e))

-- no number over the bound is read
pub field_number_bound : (most n : ℕ) (s : List ℕ) → number_field most s ≡ Ok (Number n) → n ≤ most
field_number_bound most n s e = (field_digits most n s e).bound

-- no bytes but -1 read as -1
pub field_minus_one : (most : ℕ) (s : List ℕ) → number_field most s ≡ Ok MinusOne → s ≡ text_of MinusOne
unfolding number_field
field_minus_one most s =
    cond_ind (λ (r : Result SequenceNumber NumberError). r ≡ Ok MinusOne → s ≡ text_of MinusOne) (leb 1 (length s)) _ (Err Missing)
    (λ l. cond_ind (λ (r : Result SequenceNumber NumberError). r ≡ Ok MinusOne → s ≡ text_of MinusOne) (same s (bytes "-1")) (Ok MinusOne) _
    (λ m e. same-is s (bytes "-1") m)
    (λ m. cond_ind (λ (r : Result SequenceNumber NumberError). r ≡ Ok MinusOne → s ≡ text_of MinusOne) (plain most s) (Ok (Number (value s))) (Err NotNumber)
    (λ p e. absurd (minus_not_number (value s) (sym e)))
    (λ p e. absurd (other_not MinusOne e))))
    (λ l e. absurd (missing_not MinusOne e))

-- ---- the bytes of a number

-- a digit is an allowed data byte
digit-allowed : (x : ℕ) → is_digit x ≡ true → allowed x ≡ true
digit-allowed x e =
    let l : code "0" ≤ x = leb-true (code "0") x (and_left (leb (code "0") x) (leb x (code "9")) e) in
    let m : x ≤ code "9" = leb-true x (code "9") (and_right (leb (code "0") x) (leb x (code "9")) e) in
    rw (le-leb 0x20 x (omega arith), le-leb x 0x7E (omega arith))

digits_allowed : (s : List ℕ) → all is_digit s ≡ true → all_allowed s ≡ true
digits_allowed [] e = refl
digits_allowed (x ∷ xs) e =
    rw (digit-allowed x (and_left (is_digit x) (all is_digit xs) e), digits_allowed xs (and_right (is_digit x) (all is_digit xs) e))

-- every byte of a number is an allowed data byte
pub text_allowed : (v : SequenceNumber) → all_allowed (text_of v) ≡ true
text_allowed MinusOne = refl
text_allowed (Number n) = digits_allowed (decimal n) (decimal_digits n)

-- bytes a and b that are neither a digit nor the minus sign
module _ (a b : ℕ) (p : is_digit a ≡ false) (q : is_digit b ≡ false) where
  digit_other : (x c : ℕ) → is_digit x ≡ true → is_digit c ≡ false → eqb x c ≡ false
  digit_other x c e d = ne_eqb x c (λ (z : x ≡ c). true≢false (sym e ∙ ap is_digit z ∙ d))

  digits_without : (s : List ℕ) → all is_digit s ≡ true → has_any a b s ≡ false
  digits_without [] e = refl
  digits_without (x ∷ xs) e =
      let d : is_digit x ≡ true = and_left (is_digit x) (all is_digit xs) e in
      rw (digit_other x a d p, digit_other x b d q, digits_without xs (and_right (is_digit x) (all is_digit xs) e))

  pub text_without : (code "-" ≡ a → ⊥) → (code "-" ≡ b → ⊥) → (v : SequenceNumber) → has_any a b (text_of v) ≡ false
  text_without k l MinusOne = rw (ne_eqb (code "-") a k, ne_eqb (code "-") b l, digit_other (code "1") a refl p, digit_other (code "1") b refl q)
  text_without k l (Number n) = digits_without (decimal n) (decimal_digits n)

-- neither a bar nor CR is in a number, so it ends no field and no segment
pub text_no_end : (v : SequenceNumber) → has_any (code "|") 0x0D (text_of v) ≡ false
text_no_end v = text_without (code "|") 0x0D refl refl (λ z. omega arith) (λ z. omega arith) v

-- ---- how long a number is

pub text_least : (v : SequenceNumber) → 1 ≤ length (text_of v)
text_least MinusOne = omega arith
text_least (Number n) = length_least n

pub number_most : (n : ℕ) → n < 10 ^ 15 → length (text_of (Number n)) ≤ 15
number_most n h = decimal-length 14 n h

-- -1, or a number that may be expected, takes 1 to 15 bytes
pub text_length_lem : (v : SequenceNumber) → is_within greatest_expected v ≡ true → (1 ≤ length (text_of v)) × (length (text_of v) ≤ 15)
text_length_lem MinusOne h = (omega arith, omega arith)
text_length_lem (Number n) h = let m : n ≤ greatest_expected = leb-true n greatest_expected h in (length_least n, number_most n (omega arith))
