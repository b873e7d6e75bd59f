-- Numbers are never written alike.
use mathlib.Core.Path.{◌≡◌, refl, sym, ap, ◌∙◌}
use Prim.Native.Nat.{ℕ}
use Rattle.lists.specs.Bytes.{all}
use Rattle.numbers.specs.Numbers.{is_digit, text_of, decimal}
use Rattle.numbers.specs.declared.SequenceNumber.{SequenceNumber}
use Rattle.numbers.specs.declared.SequenceNumber.TheVariants.{MinusOne, Number}
use Rattle.numbers.proofs.Reading.{decimal_digits, decimal_one_to_one}
use Rattle.link.proofs.Facts.{not_both}

minus_is_no_decimal : {P : Type 0} (n : ℕ) → text_of MinusOne ≡ decimal n → P
minus_is_no_decimal n e = not_both (sym (ap (all is_digit) e ∙ decimal_digits n))

pub text_is : (v w : SequenceNumber) → text_of v ≡ text_of w → v ≡ w
text_is MinusOne MinusOne e = refl
text_is MinusOne (Number n) e = minus_is_no_decimal n e
text_is (Number n) MinusOne e = minus_is_no_decimal n (sym e)
text_is (Number n) (Number m) e = ap Number (decimal_one_to_one n m e)
