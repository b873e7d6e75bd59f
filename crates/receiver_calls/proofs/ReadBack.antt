-- The words stand for the receiver: what is written is read back, and the stored word is what a crash keeps.
use Rattle.std.specs.Prelude.{Option, Some, None}
use mathlib.Core.Path.{◌≡◌, refl, ap, ◌∙◌}
use mathlib.Core.List.{List, [], ◌∷◌, ◌++◌}
use mathlib.Core.Bool.{true, false}
use Prim.Native.Nat.{ℕ, ◌≤◌}
use native.Mathlib.Omega.{arith}
use lib.ListN.{length}
use lib.Dec.{eqb, leb}
use borrow.Author.Tests.{leb-true, ne_eqb}
use Rattle.lists.specs.Bytes.{over}
use Rattle.lists.proofs.Tests.{and_left}
use Rattle.lists.proofs.Calls.{over-is}
use Rattle.numbers.specs.declared.SequenceNumber.{SequenceNumber}
use Rattle.numbers.specs.declared.SequenceNumber.TheVariants.{MinusOne, Number}
use Rattle.header.specs.declared.Code.{Code}
use Rattle.header.specs.declared.Code.TheVariants.{AA, AE, AR}
use Rattle.control_id.specs.declared.ControlId.{ControlId}
use Rattle.messages.specs.Messages.{answerable}
use Rattle.receiver.specs.Receiver.{valid_expected, closed, valid_receiver, is_row}
use Rattle.receiver.specs.declared.Row.{Row}
use Rattle.receiver.specs.declared.Decision.{Decision}
use Rattle.receiver.specs.declared.Receiver.{Receiver}
use Rattle.receiver.proofs.Rows.{opened, open_answerable, open_expected, open_transaction}
use Rattle.receiver.proofs.Acts.{expected_valid, closed_state}
use Rattle.receiver_calls.specs.ReceiverCalls.{expected_word, expected_from, code_word, code_from, number_word, number_from, transaction_word, transaction_from, receiver_words, receiver_in}

pub expected_back : (e : Option ℕ) → valid_expected e ≡ true → expected_from (expected_word e) ≡ e
unfolding valid_expected
expected_back None v = refl
expected_back (Some n) v = let l = leb-true 1 n (and_left (leb 1 n) _ v) in rw (ne_eqb n 0 (λ (e : n ≡ 0). omega arith))

number_back : (n : SequenceNumber) → answerable n ≡ true → number_from (number_word n) ≡ n
unfolding answerable
number_back MinusOne v = refl
number_back (Number n) v = let l = leb-true 1 n (and_left (leb 1 n) _ v) in rw (ne_eqb n 0 (λ (e : n ≡ 0). omega arith))

transaction_back : (t : Option ℕ) → ((n : ℕ) → t ≡ Some n → 1 ≤ n) → transaction_from (transaction_word t) ≡ t
transaction_back None f = refl
transaction_back (Some n) f = let l = f n refl in rw (ne_eqb n 0 (λ (e : n ≡ 0). omega arith))

code_back : (c : Code) → code_from (code_word c) ≡ c
code_back AA = refl
code_back AE = refl
code_back AR = refl

code_some : (c : Code) → eqb (code_word c) 0 ≡ false
code_some AA = refl
code_some AE = refl
code_some AR = refl

code_most : (c : Code) → leb (code_word c) 3 ≡ true
code_most AA = refl
code_most AE = refl
code_most AR = refl

-- whatever stands behind the nine words
module _ (e : Option ℕ) (v : valid_expected e ≡ true) (rest : List ℕ) where
  closed_read : receiver_in (receiver_words (closed e) ++ rest) ≡ Some (closed e)
  unfolding receiver_in
  closed_read = rw (expected_back e v)

  open_read : (id : ControlId) (r : Row) → is_row e r ≡ true
      → receiver_in (receiver_words (record { expected = e; decision = Some (record { control_id = id; row = r }) }) ++ rest) ≡ Some (record { expected = e; decision = Some (record { control_id = id; row = r }) })
  unfolding receiver_in
  open_read id r h =
      rw (
        code_most r.code,
        code_some r.code,
        code_back r.code,
        expected_back e v,
        number_back r.number (open_answerable e v r h),
        transaction_back r.persisted.transaction (open_transaction e v r h),
        expected_back r.persisted.expected (open_expected e v r h),
      )

pub words_read : (s : Receiver) (rest : List ℕ) → valid_receiver s ≡ true → receiver_in (receiver_words s ++ rest) ≡ Some s
words_read s rest v = go s.decision refl
  where
    go : (o : Option Decision) → s.decision ≡ o → receiver_in (receiver_words s ++ rest) ≡ Some s
    go None e = rw e (closed_read s.expected (expected_valid s v) rest)
    go (Some decision) e = let o = opened s decision.control_id decision.row v e in rw e (open_read s.expected o.expected rest decision.control_id decision.row o.in_table)

module _ (st : List ℕ) (h : 9 ≤ length st) where
  pub words_back : (s : Receiver) → valid_receiver s ≡ true → receiver_in (over st (receiver_words s)) ≡ Some s
  words_back s v = go s.decision refl
    where
      go : (o : Option Decision) → s.decision ≡ o → receiver_in (over st (receiver_words s)) ≡ Some s
      go None e = rw e (ap receiver_in (over-is st _ h) ∙ closed_read s.expected (expected_valid s v) _)
      go (Some decision) e =
          let o = opened s decision.control_id decision.row v e in
          rw e (ap receiver_in (over-is st _ h) ∙ open_read s.expected o.expected _ decision.control_id decision.row o.in_table)

  -- after a crash the driver restores the stored word, and sets the others to 0
  pub crash_back : (e : Option ℕ) → valid_expected e ≡ true
      → receiver_in (over st (expected_word e ∷ 0 ∷ 0 ∷ 0 ∷ 0 ∷ 0 ∷ 0 ∷ 0 ∷ 0 ∷ [])) ≡ Some (closed e)
  crash_back e v = words_back (closed e) (closed_state e v)
