-- The four words stand for the reader: what a call leaves is read back by the next one.
use Rattle.std.specs.Prelude.{Option, Some, None}
use Rattle.std.proofs.Common.{rules}
use mathlib.Core.Path.{◌≡◌, sym, ap, ◌∙◌}
use mathlib.Core.List.{List, [], ◌∷◌}
use mathlib.Core.Bool.{true}
use Prim.Native.Nat.{ℕ, ◌≤◌}
use native.Mathlib.Omega.{arith}
use lib.ListN.{length, drop}
use lib.Dec.{ltb, eqb}
use borrow.Author.Tests.{eqb-true}
use Rattle.lists.specs.Bytes.{over}
use Rattle.lists.proofs.Tests.{cond_ind}
use Rattle.lists.proofs.Calls.{over-is}
use Rattle.stream.specs.declared.Phase.{Phase}
use Rattle.stream.specs.declared.Phase.TheVariants.{Between, Inside, Ended}
use Rattle.stream.specs.declared.Reader.{Reader}
use Rattle.block_calls.specs.ReaderWords.{phase_number, reader_words, decoded}

-- whatever stands behind the four words
words_read : (p : Phase) (n s k : ℕ) (rest : List ℕ)
    → decoded (phase_number p ∷ n ∷ s ∷ k ∷ rest) ≡ Some (record { phase = p; body_length = n; block_offset = s; position = k })
unfolding decoded
words_read Between n s k rest = search rules
words_read Inside n s k rest = search rules
words_read Ended n s k rest = search rules

-- the words of what was read
abbrev words_of : Option Reader → List ℕ
words_of None = []
words_of (Some r) = reader_words r

read_written : (a n s k : ℕ) (rest : List ℕ) (r : Reader) → decoded (a ∷ n ∷ s ∷ k ∷ rest) ≡ Some r → reader_words r ≡ a ∷ n ∷ s ∷ k ∷ []
unfolding decoded reader_words
read_written a n s k rest r =
    let ws = a ∷ n ∷ s ∷ k ∷ rest in
    let P : Option Reader → Type 0 = λ d. d ≡ Some r → reader_words r ≡ a ∷ n ∷ s ∷ k ∷ [] in
    let none : P None = λ e. let z : ◌≡◌ {A = ℕ} 0 1 = cc in absurd (omega arith) in
    let first : (i : ℕ) → eqb a i ≡ true → i ∷ n ∷ s ∷ k ∷ [] ≡ a ∷ n ∷ s ∷ k ∷ [] = λ i f. ap (λ (x : ℕ). x ∷ n ∷ s ∷ k ∷ []) (sym (eqb-true a i f)) in
    cond_ind P (ltb (length ws) 4) _ _ (λ q. none)
    (λ q. cond_ind P (eqb a 0) _ _ (λ f e. sym (ap words_of e) ∙ first 0 f)
    (λ q. cond_ind P (eqb a 1) _ _ (λ f e. sym (ap words_of e) ∙ first 1 f)
    (λ q. cond_ind P (eqb a 2) _ _ (λ f e. sym (ap words_of e) ∙ first 2 f) (λ q. none))))

module _ (st : List ℕ) (h : 4 ≤ length st) where
  pub words_back : (r : Reader) → decoded (over st (reader_words r)) ≡ Some r
  unfolding reader_words
  words_back r = ap decoded (over-is st (reader_words r) h) ∙ words_read r.phase r.body_length r.block_offset r.position (drop 4 st)

-- words that encode a reader are its words
pub words_same : (st : List ℕ) (r : Reader) → 4 ≤ length st → decoded st ≡ Some r → over st (reader_words r) ≡ st
words_same [] r h e = absurd (omega arith)
words_same (a ∷ []) r h e = absurd (omega arith)
words_same (a ∷ n ∷ []) r h e = absurd (omega arith)
words_same (a ∷ n ∷ s ∷ []) r h e = absurd (omega arith)
words_same (a ∷ n ∷ s ∷ k ∷ rest) r h e =
    ap (over (a ∷ n ∷ s ∷ k ∷ rest)) (read_written a n s k rest r e) ∙ over-is (a ∷ n ∷ s ∷ k ∷ rest) (a ∷ n ∷ s ∷ k ∷ []) h
