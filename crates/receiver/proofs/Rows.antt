-- The rows of the table for what is expected are just those that an open decision may have; and the control IDs that an answer can carry.
use Rattle.std.specs.Prelude.{Option, Some, None, Result, Ok, Err}
use mathlib.Core.Path.{◌≡◌, refl, sym, ap, ◌∙◌}
use mathlib.Core.List.{List, [], ◌∷◌}
use mathlib.Core.Bool.{true, false, ◌&&◌, true≢false}
use Prim.Native.Nat.{ℕ, ◌+◌, ◌≤◌}
use native.Mathlib.Omega.{arith}
use lib.ListN.{length}
use lib.Dec.{leb, eqb}
use borrow.Author.Tests.{le-leb, leb-true, lt-ltb, eq-eqb, ne_eqb, eqb-true, eqb-false}
use Rattle.lists.proofs.Tests.{and_left, and_right, or_cases, cond_ind}
use Rattle.settings.specs.Settings.{allowed}
use Rattle.settings.specs.DataBytes.{all_allowed}
use Rattle.control_id.specs.ControlId.{is_byte, all_bytes, in_words, bytes_in}
use Rattle.control_id.specs.declared.ControlId.{ControlId}
use Rattle.control_id.proofs.ControlIds.{bytes_back}
use Rattle.numbers.specs.Numbers.{greatest_sent, greatest_expected}
use Rattle.numbers.specs.declared.SequenceNumber.{SequenceNumber}
use Rattle.numbers.specs.declared.SequenceNumber.TheVariants.{MinusOne, Number}
use Rattle.numbers.specs.declared.NumberError.{NumberError}
use Rattle.numbers.specs.declared.NumberError.TheVariants.{Missing}
use Rattle.header.specs.declared.Code.{Code}
use Rattle.header.specs.declared.Code.TheVariants.{AA, AE, AR}
use Rattle.messages.specs.Messages.{valid_control_id, answerable}
use Rattle.receiver.specs.Receiver.{valid_expected, application_code, expected_number, row, stores, row_of, same_expected, same_number, code_of_stored, is_due, code_of_kept, stored_row, is_row_for, is_row, carried, valid_open, valid_receiver}
use Rattle.receiver.specs.Internal.{field_fits}
use Rattle.receiver.specs.declared.Application.{Application}
use Rattle.receiver.specs.declared.Application.TheVariants.{Accepts, Errs}
use Rattle.receiver.specs.declared.Row.{Row}
use Rattle.receiver.specs.declared.Receiver.{Receiver}

-- the tests of sameness
same_expected_lem : (e : Option ℕ) → same_expected e e ≡ true
same_expected_lem None = refl
same_expected_lem (Some n) = eq-eqb n n refl

same_number_lem : (n : SequenceNumber) → same_number n n ≡ true
same_number_lem MinusOne = refl
same_number_lem (Number n) = eq-eqb n n refl

pub expected_is : (e f : Option ℕ) → same_expected e f ≡ true → e ≡ f
expected_is None None h = refl
expected_is None (Some n) h = absurd (true≢false (sym h))
expected_is (Some m) None h = absurd (true≢false (sym h))
expected_is (Some m) (Some n) h = ap Some (eqb-true m n h)

number_is : (m n : SequenceNumber) → same_number m n ≡ true → m ≡ n
number_is MinusOne MinusOne h = refl
number_is MinusOne (Number n) h = absurd (true≢false (sym h))
number_is (Number m) MinusOne h = absurd (true≢false (sym h))
number_is (Number m) (Number n) h = ap Number (eqb-true m n h)

-- ---- what is due
due_most : (e : Option ℕ) (n : ℕ) → is_due e n ≡ true → n ≤ greatest_sent
due_most None n h = leb-true n greatest_sent (and_right (leb 1 n) (leb n greatest_sent) h)
due_most (Some e) n h = leb-true n greatest_sent (and_right (eqb n e) (leb n greatest_sent) h)

due_least : (e : Option ℕ) (n : ℕ) → valid_expected e ≡ true → is_due e n ≡ true → 1 ≤ n
unfolding valid_expected
due_least None n v h = leb-true 1 n (and_left (leb 1 n) (leb n greatest_sent) h)
due_least (Some e) n v h =
    let l = leb-true 1 e (and_left (leb 1 e) (leb e greatest_expected) v) in
    let same = eqb-true n e (and_left (eqb n e) (leb n greatest_sent) h) in
    omega arith

-- ---- every row of the table is one
application_stores : (a : Application) → code_of_stored (application_code a) ≡ true
application_stores Accepts = refl
application_stores Errs = refl

stores-is : (a : Application) (e : Option ℕ) (n : ℕ) → is_due e n ≡ true → is_row e (stores a n) ≡ true
unfolding is_row
stores-is a e n h = rw (application_stores a, h, eq-eqb n n refl, eq-eqb (n + 1) (n + 1) refl)

pub row_is : (a : Application) (e : Option ℕ) (f : Result SequenceNumber NumberError) → valid_expected e ≡ true → field_fits f ≡ true → is_row e (row_of a e f) ≡ true
unfolding row_of is_row
row_is a e (Err why) v h = rw (same_number_lem (expected_number e), same_expected_lem e)
row_is a e (Ok MinusOne) v h = refl
row_is a None (Ok (Number n)) v h =
    cond_ind (λ (r : Row). is_row None r ≡ true) (eqb n 0) _ _ (λ z. refl)
    (λ z. let some = eqb-false n 0 z in stores-is a None n (rw (le-leb 1 n (omega arith), h)))
row_is a (Some e) (Ok (Number n)) v h =
    cond_ind (λ (r : Row). is_row (Some e) r ≡ true) (eqb n 0) _ _ (λ z. rw (eq-eqb e e refl))
    (λ z. cond_ind (λ (r : Row). is_row (Some e) r ≡ true) (eqb n e) _ _
    (λ y. stores-is a (Some e) n (rw (y, h)))
    (λ y. rw (eq-eqb e e refl)))

-- ---- and there are no others
pub record InTable (e : Option ℕ) (r : Row) : Type 0 where
  pub application : Application
  pub field : Result SequenceNumber NumberError
  pub fits : field_fits field ≡ true
  pub is : r ≡ row_of application e field

stores_row : (a : Application) (e : Option ℕ) (n : ℕ) → valid_expected e ≡ true → is_due e n ≡ true → stores a n ≡ row_of a e (Ok (Number n))
unfolding row_of
stores_row a None n v h = let l = due_least None n v h in rw (ne_eqb n 0 (λ (z : n ≡ 0). omega arith))
stores_row a (Some e) n v h =
    let l = due_least (Some e) n v h in
    rw (ne_eqb n 0 (λ (z : n ≡ 0). omega arith), and_left (eqb n e) (leb n greatest_sent) h)

module _ (e : Option ℕ) (v : valid_expected e ≡ true) where
  stored_in_lem : (a : Application) (n : ℕ) (m : SequenceNumber) (f : Option ℕ) → is_due e n ≡ true → m ≡ Number n → f ≡ Some (n + 1)
      → InTable e (row (application_code a) m (Some n) f)
  stored_in_lem a n m f h i j = record {
    application = a;
    field = Ok (Number n);
    fits = le-leb n greatest_sent (due_most e n h);
    is = rw (i, j) (stores_row a e n v h);
  }

  stored_row_lem : (c : Code) (n : ℕ) (m : SequenceNumber) (f : Option ℕ) → code_of_stored c ≡ true → is_due e n ≡ true → m ≡ Number n → f ≡ Some (n + 1)
      → InTable e (row c m (Some n) f)
  stored_row_lem AA n m f c h i j = stored_in_lem Accepts n m f h i j
  stored_row_lem AE n m f c h i j = stored_in_lem Errs n m f h i j
  stored_row_lem AR n m f c h i j = absurd (true≢false (sym c))

  none_row : (m : SequenceNumber) (f : Option ℕ) → m ≡ expected_number f → f ≡ None → InTable e (row AA m None f)
  unfolding row_of
  none_row m f i j = record { application = Accepts; field = Ok MinusOne; fits = refl; is = rw (i, j) }

  again_row : (g : Option ℕ) → e ≡ g → (m : SequenceNumber) (f : Option ℕ) → m ≡ expected_number f → f ≡ e → InTable e (row AA m None f)
  unfolding row_of
  again_row None u m f i j = none_row m f i (j ∙ u)
  again_row (Some n) u m f i j = record { application = Accepts; field = Ok (Number 0); fits = refl; is = rw (i, j, u) }

  kept_row_lem : (c : Code) (m : SequenceNumber) (f : Option ℕ) → m ≡ expected_number f → code_of_kept c e f ≡ true → InTable e (row c m None f)
  unfolding row_of
  kept_row_lem AA m f i h =
      or_cases (same_expected f None) (same_expected f e) h (InTable e (row AA m None f))
      (λ j. none_row m f i (expected_is f None j)) (λ j. again_row e refl m f i (expected_is f e j))
  kept_row_lem AE m f i h = absurd (true≢false (sym h))
  kept_row_lem AR m f i h = record { application = Accepts; field = (Err Missing); fits = refl; is = let j = expected_is f e h in rw (i, j) }

  row_in : (c : Code) (m : SequenceNumber) (t : Option ℕ) (f : Option ℕ) → is_row e (row c m t f) ≡ true → InTable e (row c m t f)
  unfolding is_row
  row_in c m None f h =
      kept_row_lem c m f (number_is m (expected_number f) (and_left (same_number m (expected_number f)) (code_of_kept c e f) h))
      (and_right (same_number m (expected_number f)) (code_of_kept c e f) h)
  row_in c m (Some n) f h =
      let first = and_left (code_of_stored c && is_due e n) (same_number m (Number n) && same_expected f (Some (n + 1))) h in
      let second = and_right (code_of_stored c && is_due e n) (same_number m (Number n) && same_expected f (Some (n + 1))) h in
      stored_row_lem c n m f (and_left (code_of_stored c) (is_due e n) first) (and_right (code_of_stored c) (is_due e n) first)
      (number_is m (Number n) (and_left (same_number m (Number n)) (same_expected f (Some (n + 1))) second))
      (expected_is f (Some (n + 1)) (and_right (same_number m (Number n)) (same_expected f (Some (n + 1))) second))

  pub is-row : (r : Row) → is_row e r ≡ true → InTable e r
  is-row r h = row_in r.code r.number r.persisted.transaction r.persisted.expected h

-- ---- what MSA-4 has in the rows
pub expected_answerable : (s : Option ℕ) → valid_expected s ≡ true → answerable (expected_number s) ≡ true
unfolding valid_expected answerable
expected_answerable None h = refl
expected_answerable (Some e) h = h

sent_answerable : (n : ℕ) → eqb n 0 ≡ false → leb n greatest_sent ≡ true → answerable (Number n) ≡ true
unfolding answerable
sent_answerable n z h =
    let l = leb-true n greatest_sent h in
    let some = eqb-false n 0 z in
    rw (le-leb 1 n (omega arith), le-leb n greatest_expected (omega (arith, l)))

pub row-answerable : (a : Application) (s : Option ℕ) (f : Result SequenceNumber NumberError) → valid_expected s ≡ true → field_fits f ≡ true
    → answerable (row_of a s f).number ≡ true
unfolding row_of answerable
row-answerable a s (Err why) v h = expected_answerable s v
row-answerable a s (Ok MinusOne) v h = refl
row-answerable a None (Ok (Number n)) v h =
    cond_ind (λ (r : Row). answerable r.number ≡ true) (eqb n 0) _ _ (λ e. refl) (λ e. sent_answerable n e h)
row-answerable a (Some e) (Ok (Number n)) v h =
    let expected = expected_answerable (Some e) v in
    cond_ind (λ (r : Row). answerable r.number ≡ true) (eqb n 0) _ _ (λ z. expected)
    (λ z. cond_ind (λ (r : Row). answerable r.number ≡ true) (eqb n e) _ _ (λ y. sent_answerable n z h) (λ y. expected))

-- and what is expected after them
pub row_expected : (a : Application) (s : Option ℕ) (f : Result SequenceNumber NumberError) → valid_expected s ≡ true → field_fits f ≡ true
    → valid_expected (row_of a s f).persisted.expected ≡ true
unfolding row_of valid_expected
row_expected a s (Err why) v h = v
row_expected a s (Ok MinusOne) v h = refl
row_expected a None (Ok (Number n)) v h =
    cond_ind (λ (r : Row). valid_expected r.persisted.expected ≡ true) (eqb n 0) _ _ (λ e. refl)
    (λ e. let l = leb-true n greatest_sent h in rw (le-leb 1 (n + 1) (omega arith), le-leb (n + 1) greatest_expected (omega arith)))
row_expected a (Some e) (Ok (Number n)) v h =
    cond_ind (λ (r : Row). valid_expected r.persisted.expected ≡ true) (eqb n 0) _ _ (λ z. v)
    (λ z. cond_ind (λ (r : Row). valid_expected r.persisted.expected ≡ true) (eqb n e) _ _
    (λ y. let l = leb-true n greatest_sent h in rw (le-leb 1 (n + 1) (omega arith), le-leb (n + 1) greatest_expected (omega arith))) (λ y. v))

module _ (e : Option ℕ) (v : valid_expected e ≡ true) (r : Row) (h : is_row e r ≡ true) where
  pub open_answerable : answerable r.number ≡ true
  open_answerable = let i = is-row e v r h in rw i.is (row-answerable i.application e i.field v i.fits)

  pub open_expected : valid_expected r.persisted.expected ≡ true
  open_expected = let i = is-row e v r h in rw i.is (row_expected i.application e i.field v i.fits)

  -- a transaction that is stored has a number
  pub open_transaction : (n : ℕ) → r.persisted.transaction ≡ Some n → 1 ≤ n
  unfolding is_row
  open_transaction n q =
      let is : stored_row n e r ≡ true = sym (ap (λ (t : Option ℕ). is_row_for t e r) q) ∙ h in
      let first = and_left (code_of_stored r.code && is_due e n) (same_number r.number (Number n) && same_expected r.persisted.expected (Some (n + 1))) is in
      due_least e n v (and_right (code_of_stored r.code) (is_due e n) first)

-- ---- control IDs
allowed_byte : (x : ℕ) → allowed x ≡ true → is_byte x ≡ true
allowed_byte x h =
    or_cases (leb 0x20 x && leb x 0x7E) (eqb x 0x0D) h (is_byte x ≡ true)
    (λ i. let l = leb-true x 0x7E (and_right (leb 0x20 x) (leb x 0x7E) i) in lt-ltb x 256 (omega arith))
    (λ i. let l = eqb-true x 0x0D i in lt-ltb x 256 (omega arith))

allowed-bytes : (s : List ℕ) → all_allowed s ≡ true → all_bytes s ≡ true
allowed-bytes [] h = refl
allowed-bytes (x ∷ xs) h =
    rw (allowed_byte x (and_left (allowed x) (all_allowed xs) h), allowed-bytes xs (and_right (allowed x) (all_allowed xs) h))

control_length : (s : List ℕ) → valid_control_id s ≡ true → length s ≤ 20
unfolding valid_control_id
control_length s h =
    leb-true (length s) 20
    (and_right (leb 1 (length s)) (leb (length s) 20) (and_left (leb 1 (length s) && leb (length s) 20) _ h))

-- a control ID that a block's data has comes back from the words, and an answer can carry it
module _ (s : List ℕ) (a : all_allowed s ≡ true) (v : valid_control_id s ≡ true) where
  pub id_back : bytes_in (in_words s) ≡ s
  id_back = let l = control_length s v in bytes_back s (omega arith) (allowed-bytes s a)

  pub id_carried : carried (in_words s) ≡ true
  unfolding carried in_words
  id_carried = let back = id_back in rw (back, a, v, le-leb (length s) 20 (control_length s v))

-- what a state says of its open decision
pub record Opened (s : Receiver) (id : ControlId) (r : Row) : Type 0 where
  pub expected : valid_expected s.expected ≡ true
  pub carries : carried id ≡ true
  pub in_table : is_row s.expected r ≡ true

pub opened : (s : Receiver) (id : ControlId) (r : Row) → valid_receiver s ≡ true → s.decision ≡ Some (record { control_id = id; row = r }) → Opened s id r
unfolding valid_receiver
opened s id r v e =
    let both : (carried id && is_row s.expected r) ≡ true =
    rw e at (and_right (valid_expected s.expected) (valid_open s.expected s.decision) v) in
    record {
      expected = and_left (valid_expected s.expected) (valid_open s.expected s.decision) v;
      carries = and_left (carried id) (is_row s.expected r) both;
      in_table = and_right (carried id) (is_row s.expected r) both;
    }
