-- Pieces written one after the other, and which control IDs and letters are taken.
use Rattle.refusal.specs.Refusal.{refused_by}
use Rattle.std.specs.Prelude.{Some, None}
use mathlib.Core.Path.{◌≡◌, refl, sym, ap, ◌∙◌}
use mathlib.Core.List.{List, [], ◌∷◌, ◌++◌, append_assoc}
use mathlib.Core.Bool.{Bool, true, false, not, ◌&&◌, ◌||◌, true≢false}
use Prim.Native.Nat.compare
use Prim.Native.Nat.{ℕ, suc, ◌+◌, ◌≤◌, ◌<◌}
use native.Mathlib.Omega.{arith}
use native.Mathlib.Nat.{add_assoc}
use lib.ListN.{length, get_or, length-append}
use lib.Dec.{leb, ltb, eqb}
use borrow.Author.Tests.{lt-leb, lt-ltb, le-ltb, eq-eqb, ne_eqb, eqb-true, not-true, not-false}
use Rattle.lists.specs.Bytes.{put, has_any, all}
use Rattle.lists.proofs.Put.{put-put, length-put}
use Rattle.settings.specs.Settings.{allowed}
use Rattle.settings.specs.DataBytes.{all_allowed, first_forbidden}
use Rattle.fields.specs.Fields.{bar}
use Rattle.messages.specs.Messages.{is_capital, valid_control_id, valid_type, message_type}
use Rattle.messages.specs.Internal.{Puts, id_byte, id_refusal}
use Rattle.messages.specs.declared.MessageType.{MessageType}

-- one piece more: vs stands from a on, and ws was written after it
pub then : {l m n : List ℕ} {a at r : ℕ} (vs ws : List ℕ) → Puts l a vs at m → a + length vs ≤ length l → Puts m at ws r n → Puts l a (vs ++ ws) r n
then {l} {m} {n} {a} {at} {r} vs ws p h q =
    record {
      next = q.next ∙ rw (p.next, length-append vs ws) (add_assoc a (length vs) (length ws));
      content =
          q.content ∙ ap (λ (z : List ℕ). put z at ws) p.content ∙ ap (λ (z : ℕ). put (put l a vs) z ws) p.next
          ∙ put-put l vs ws a h;
    }

-- what was written is as long as before
pub same_long : {l m : List ℕ} {a r : ℕ} (vs : List ℕ) → Puts l a vs r m → a + length vs ≤ length l → length m ≡ length l
same_long {l} {m} {a} {r} vs p h = ap length p.content ∙ length-put l vs a h

-- what is left of the fits_after after a piece
pub fits_after : {l m : List ℕ} {a at : ℕ} (vs : List ℕ) (n : ℕ) → Puts l a vs at m → a + (length vs + n) ≤ length l → at + n ≤ length m
fits_after vs n p h = omega (arith, p.next, same_long vs p (omega (arith, h)), h)

-- which bytes a control ID may have
byte_is : (s b c u v : Bool) → (c ≡ true → s ≡ false) → ((s && not b) && (u && not v)) ≡ (((s || c) && u) && not ((b || c) || v))
byte_is true b true u v h = absurd (true≢false (h refl))
byte_is false b true false v h = refl
byte_is false true true true v h = refl
byte_is false false true true v h = refl
byte_is false b false u v h = refl
byte_is true true false true v h = refl
byte_is true true false false v h = refl
byte_is true false false u v h = refl

bytes_are : (s : List ℕ) → all id_byte s ≡ (all_allowed s && not (has_any bar 0x0D s))
bytes_are [] = refl
bytes_are (x ∷ xs) =
    rw (bytes_are xs)
    (byte_is (leb 0x20 x && leb x 0x7E) (eqb x bar) (eqb x 0x0D) (all_allowed xs) (has_any bar 0x0D xs)
    (λ (z : eqb x 0x0D ≡ true). ap (λ (t : Bool). t && leb x 0x7E) (lt-leb 0x20 x (omega (arith, eqb-true x 0x0D z)))))

none_after : (p : Bool) → false ≡ (p && false)
none_after true = refl
none_after false = refl

-- which control IDs can stand in a field
pub id_size : (id : List ℕ) → (leb 1 (length id) && leb (length id) 20) ≡ false → false ≡ (all_allowed id && valid_control_id id)
unfolding valid_control_id
id_size id h = rw h (none_after (all_allowed id))

pub id_free : (id : List ℕ) → (leb 1 (length id) && leb (length id) 20) ≡ true → all id_byte id ≡ (all_allowed id && valid_control_id id)
unfolding valid_control_id
id_free id h = rw h (bytes_are id)

-- why others are refused
forbidden_some : (s : List ℕ) → ltb (first_forbidden s) (length s) ≡ not (all_allowed s)
forbidden_some [] = refl
forbidden_some (x ∷ xs) = go (allowed x) refl (forbidden_some xs)
  where
    go : (t : Bool) → allowed x ≡ t → ltb (first_forbidden xs) (length xs) ≡ not (all_allowed xs)
        → ltb (first_forbidden (x ∷ xs)) (length (x ∷ xs)) ≡ not (all_allowed (x ∷ xs))
    go true e h = rw (e, compare.suc-suc) h
    go false e h = rw e (lt-ltb 0 (suc (length xs)) (omega arith))

module _ (id : List ℕ) (f : ℕ) (q : f ≡ first_forbidden id) where
  pub refused_byte : f < length id → refused_by 3 f ≡ id_refusal id
  refused_byte h =
      let e : all_allowed id ≡ false = not-true (all_allowed id) (sym (forbidden_some id) ∙ lt-ltb (first_forbidden id) (length id) (omega (arith, q))) in
      rw (e, q)

  pub refused_header : length id ≤ f → refused_by 9 0 ≡ id_refusal id
  refused_header h =
      let e : all_allowed id ≡ true = not-false (all_allowed id) (sym (forbidden_some id) ∙ le-ltb (first_forbidden id) (length id) (omega (arith, q))) in
      rw e

-- three letters from outside
pub letters_other : (s : List ℕ) → (length s ≡ 3 → ⊥) → None ≡ message_type s
unfolding message_type
letters_other s h = rw (ne_eqb (length s) 3 h)

module _ (s : List ℕ) (h : length s ≡ 3) where
  abbrev made : MessageType
  made = record { first = get_or s 0 0; second = get_or s 1 0; third = get_or s 2 0 }

  all_three : all is_capital s ≡ valid_type made
  unfolding valid_type
  all_three = go s h
    where
      go : (s : List ℕ) → length s ≡ 3 → all is_capital s ≡ all is_capital (get_or s 0 0 ∷ get_or s 1 0 ∷ get_or s 2 0 ∷ [])
      go [] h = absurd (omega arith)
      go (x ∷ []) h = absurd (omega arith)
      go (x ∷ y ∷ []) h = absurd (omega arith)
      go (x ∷ y ∷ z ∷ []) h = refl
      go (x ∷ y ∷ z ∷ w ∷ r) h = absurd (omega arith)

  pub letters_known : valid_type made ≡ true → Some made ≡ message_type s
  unfolding message_type
  letters_known v = rw (eq-eqb (length s) 3 h, all_three, v)

  pub letters_unknown : valid_type made ≡ false → None ≡ message_type s
  unfolding message_type
  letters_unknown v = rw (eq-eqb (length s) 3 h, all_three, v)

pub ruleset letters = (letters_other, letters_known, letters_unknown)

-- pieces written one after the other
pub ruleset piece_cases = (put-put, length-put, length-append, append_assoc, fits_after)
