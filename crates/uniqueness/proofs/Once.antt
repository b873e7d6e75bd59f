-- What every theorem of this crate rests on: two things that are the same third are the same, and so is what is seen of them.
use mathlib.Core.Path.{◌≡◌, sym, ap, ◌∙◌}
use mathlib.Core.List.{List, [], ◌∷◌}
use Prim.Native.Nat.{ℕ}
use lib.ListN.{length}
use denote.Ref.{Bor}
use denote.Slice.{slice_val, shr_slice_vals}
use Rattle.std.specs.Prelude.{Result}
use Rattle.lists.specs.Outcome.{Called}
use Rattle.refusal.specs.Refusal.{number_of, answer_by}
use Rattle.refusal.specs.declared.Refusal.{Refusal}
use Rattle.uniqueness.specs.Unique.{SamePart}

pub once : {Y Z W : Type 0} {x y d : Y} → x ≡ d → y ≡ d → (result : Y → Z) (memory : Y → W) → (result x ≡ result y) × (memory x ≡ memory y)
once h k result memory = (ap result (h ∙ sym k), ap memory (h ∙ sym k))

-- the answers of a call say no more than its number, so that they are the same where the numbers are
pub once_answered : {W : Type 0} {r r' : Result (Unit {0}) Refusal} {x y d : Called} → x ≡ d → y ≡ d → x.number ≡ number_of r → y.number ≡ number_of r' → r ≡ answer_by (number_of r) → r' ≡ answer_by (number_of r') → (memory : Called → W) → (r ≡ r') × (memory x ≡ memory y)
once_answered h k n n' a b memory = (a ∙ ap answer_by (sym n ∙ ap (λ z. z.number) (h ∙ sym k) ∙ n') ∙ sym b, ap memory (h ∙ sym k))

-- two references to the same part are equal: a shared reference's value is its pointer and its bytes alone
pub same-part-is-equal : (r r' : Bor (List ℕ)) → SamePart r r' → r ≡ r'
same-part-is-equal r r' h i = record { ref_ptr = h.0 i; now = h.1 i }

-- two references to the same part have the same machine value, so that no machine tells them apart
pub same-machine-value : (r r' : Bor (List ℕ)) → SamePart r r' → shr_slice_vals r ≡ shr_slice_vals r'
same-machine-value r r' h i = slice_val (h.0 i) (length (h.1 i)) ∷ []
