-- Texts compared by std, held against the definitions.
use Rattle.std.specs.Prelude.{Some, None}
use mathlib.Core.Path.{◌≡◌, refl, sym, ◌∙◌}
use mathlib.Core.List.{List, [], ◌∷◌}
use mathlib.Core.Bool.{Bool, true, false, ◌&&◌, cond}
use Prim.Native.Nat.{ℕ, ◌-◌, ◌≤◌, ◌<◌}
use native.Mathlib.Omega.{arith}
use lib.ListN.{length, take, drop, get_or, length-drop}
use lib.Seq.{take_all}
use lib.Dec.{eqb}
use Rattle.std.specs.List.{starts_with}
use Rattle.std.specs.Cmp.Lexicographic.{pointwise}
use Rattle.std.proofs.lemmas.Cmp.{nat_list_eq_equiv}
use Rattle.lists.specs.Bytes.{bytes, same}
use Rattle.header.specs.Header.{begins, code_field}
use Rattle.header.specs.declared.Code.TheVariants.{AA, AE, AR}

pub same_pointwise : (a b : List ℕ) → same a b ≡ pointwise eqb a b
unfolding same
same_pointwise [] [] = refl
same_pointwise [] (y ∷ b) = refl
same_pointwise (x ∷ a) [] = refl
same_pointwise (x ∷ a) (y ∷ b) = rw (same_pointwise a b)

begins_is : (text s : List ℕ) → starts_with eqb s text ≡ begins text s
unfolding begins
begins_is text s = nat_list_eq_equiv.symm text (take (length text) s) ∙ sym (same_pointwise (take (length text) s) text)

-- whether the header begins, and the MSA segment
pub header_begun : (m : List ℕ) {r b : Bool} → r ≡ starts_with eqb m (bytes "MSH|") → r ≡ b → begins (bytes "MSH|") m ≡ b
header_begun m e h = sym (begins_is (bytes "MSH|") m) ∙ sym e ∙ h

pub answer_begun : (m : List ℕ) (from : ℕ) {r b : Bool} → r ≡ starts_with eqb (take (length m - from) (drop from m)) (bytes "MSA|") → r ≡ b
    → begins (bytes "MSA|") (drop from m) ≡ b
answer_begun m from e h =
    let all : take (length m - from) (drop from m) ≡ drop from m = take_all (length m - from) (drop from m) (simp length-drop (omega arith)) in
    sym (begins_is (bytes "MSA|") (drop from m)) ∙ sym (rw all at e) ∙ h

-- MSA-1 of two bytes, and of any other length
pair_cases : (a b c d : Bool)
    → cond (a && (b && true)) (Some AA) (cond (a && (c && true)) (Some AE) (cond (a && (d && true)) (Some AR) None))
    ≡ cond a (cond b (Some AA) (cond c (Some AE) (cond d (Some AR) None))) None
pair_cases false b c d = refl
pair_cases true true c d = refl
pair_cases true false true d = refl
pair_cases true false false true = refl
pair_cases true false false false = refl

pub code_pair : (s : List ℕ) → 2 ≤ length s → length s < 3
    → code_field s ≡ cond (eqb (get_or s 0 0) 65) (cond (eqb (get_or s 1 0) 65) (Some AA) (cond (eqb (get_or s 1 0) 69) (Some AE) (cond (eqb (get_or s 1 0) 82) (Some AR) None))) None
unfolding code_field same
code_pair [] l h = absurd (omega (arith, l))
code_pair (x ∷ []) l h = absurd (omega (arith, l))
code_pair (x ∷ y ∷ []) l h = pair_cases (eqb x 65) (eqb y 65) (eqb y 69) (eqb y 82)
code_pair (x ∷ y ∷ z ∷ s) l h = absurd (omega (arith, h))

and_no : (b : Bool) → b && false ≡ false
and_no false = refl
and_no true = refl

pub code_short : (s : List ℕ) → length s < 2 → code_field s ≡ None
unfolding code_field same
code_short [] h = refl
code_short (x ∷ []) h = simp and_no refl
code_short (x ∷ y ∷ s) h = absurd (omega (arith, h))

pub code_long : (s : List ℕ) → 3 ≤ length s → code_field s ≡ None
unfolding code_field same
code_long [] h = absurd (omega (arith, h))
code_long (x ∷ []) h = absurd (omega (arith, h))
code_long (x ∷ y ∷ []) h = absurd (omega (arith, h))
code_long (x ∷ y ∷ z ∷ s) h = simp and_no refl
