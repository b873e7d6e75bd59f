-- Allowed bytes: neither SB nor EB is among them, and the fields of a block are of them.
use mathlib.Core.Path.{◌≡◌, refl, sym, ap, ◌∙◌}
use mathlib.Core.List.{List, [], ◌∷◌, ◌++◌}
use mathlib.Core.Bool.{Bool, true, false, cond, not, ◌&&◌, true≢false, false≢true}
use Prim.Native.Nat.{ℕ, ◌+◌, ◌/◌, ◌%◌}
use native.Mathlib.Omega.{arith}
use lib.ListN.{length}
use lib.Dec.{eqb}
use borrow.Author.Tests.{eqb-true, le-leb, ne_eqb, eqb-false, not-true}
use Rattle.lists.proofs.Tests.{and_left, and_right}
use Rattle.lists.proofs.All.{all_append}
use Rattle.lists.specs.Bytes.{has_any}
use Rattle.settings.specs.DataBytes.{all_allowed, digit}
use Rattle.block.specs.Format.{version, five_digits, three_digits, count_field, hybrid_body}
use Rattle.settings.specs.Settings.{by_kind, allowed, valid, hybrid_valid, minimal_valid, limit_valid}
use Rattle.block.specs.Judge.{is_reason, type_matches}
use Rattle.settings.specs.declared.Kind.{Kind}
use Rattle.settings.specs.declared.Kind.TheVariants.{Hybrid, Minimal}
use Rattle.settings.specs.declared.Settings.{Settings}

other : (x y : ℕ) → allowed x ≡ true → allowed y ≡ false → eqb x y ≡ false
other x y a f = ne_eqb x y (λ (e : x ≡ y). true≢false (sym a ∙ ap (λ (z : ℕ). allowed z) e ∙ f))

pub allowed_free : (sb eb : ℕ) → allowed sb ≡ false → allowed eb ≡ false → (d : List ℕ) → all_allowed d ≡ true → has_any sb eb d ≡ false
allowed_free sb eb p q [] e = refl
allowed_free sb eb p q (x ∷ xs) e =
    let a : allowed x ≡ true = and_left (allowed x) (all_allowed xs) e in
    let ih = allowed_free sb eb p q xs (and_right (allowed x) (all_allowed xs) e) in
    rw (other x sb a p, other x eb a q, ih)

digit-allowed : (n : ℕ) → allowed (digit n) ≡ true
digit-allowed n = rw (le-leb 32 (n % 10 + 48) (omega arith), le-leb (n % 10 + 48) 126 (omega arith))

pub three_allowed : (n : ℕ) → all_allowed (three_digits n) ≡ true
unfolding three_digits
three_allowed n = rw (digit-allowed (n / 100), digit-allowed (n / 10), digit-allowed n)

five_allowed : (n : ℕ) → all_allowed (five_digits n) ≡ true
unfolding five_digits
five_allowed n = rw (digit-allowed (n / 10000), digit-allowed (n / 1000), digit-allowed (n / 100), digit-allowed (n / 10), digit-allowed n)

pub type_allowed : (t : ℕ) (d : List ℕ) → type_matches t d ≡ true → allowed t ≡ true
unfolding type_matches
type_allowed t d = go (eqb t 68) (eqb t 78) refl refl
  where
    go : (p q : Bool) → eqb t 68 ≡ p → eqb t 78 ≡ q → cond p true (cond q (is_reason d) false) ≡ true → allowed t ≡ true
    go true q e f h = rw (eqb-true t 68 e)
    go false true e f h = rw (eqb-true t 78 f)
    go false false e f h = absurd (false≢true h)

-- every byte between SB and EB of a block is allowed
pub body_allowed : (t : ℕ) (d xxx : List ℕ) → type_matches t d ≡ true → all_allowed d ≡ true → all_allowed xxx ≡ true → all_allowed (hybrid_body t d xxx) ≡ true
unfolding hybrid_body count_field
body_allowed t d xxx m a x =
    all_append allowed ((t ∷ version) ++ d ++ five_digits (5 + length d)) xxx
    (all_append allowed ((t ∷ version) ++ d) (five_digits (5 + length d))
    (all_append allowed (t ∷ version) d (rw (type_allowed t d m)) a) (five_allowed (5 + length d))) x

-- "A setting is refused if the two are equal, or if either is CR (0D) or lies in 20 to 7E"
pub record Apart (g : Settings) : Type 0 where
  pub start : allowed g.start_block ≡ false
  pub end : allowed g.end_block ≡ false
  pub differ : eqb g.end_block g.start_block ≡ false

pub valid_apart : (g : Settings) → valid g ≡ true → Apart g
unfolding valid
valid_apart g = go g.kind
  where
    go : (k : Kind)
        → by_kind k (hybrid_valid g.start_block g.end_block g.data_limit) (minimal_valid g.start_block g.end_block g.data_limit) ≡ true
        → Apart g
    go Hybrid h =
        let sb = g.start_block in
        let eb = g.end_block in
        let u : (not (allowed sb) && not (allowed eb) && not (eqb sb eb)) ≡ true = and_left (not (allowed sb) && not (allowed eb) && not (eqb sb eb)) (limit_valid g.data_limit) h in
        let v : (not (allowed sb) && not (allowed eb)) ≡ true = and_left (not (allowed sb) && not (allowed eb)) (not (eqb sb eb)) u in
        let w : not (eqb sb eb) ≡ true = and_right (not (allowed sb) && not (allowed eb)) (not (eqb sb eb)) u in
        record {
          start = not-true (allowed sb) (and_left (not (allowed sb)) (not (allowed eb)) v);
          end = not-true (allowed eb) (and_right (not (allowed sb)) (not (allowed eb)) v);
          differ = ne_eqb eb sb (λ (e : eb ≡ sb). eqb-false sb eb (not-true (eqb sb eb) w) (sym e));
        }
    go Minimal h =
        let sb = g.start_block in
        let eb = g.end_block in
        let u : (eqb sb 11 && eqb eb 28) ≡ true = and_left (eqb sb 11 && eqb eb 28) (limit_valid g.data_limit) h in
        let v : sb ≡ 11 = eqb-true sb 11 (and_left (eqb sb 11) (eqb eb 28) u) in
        let w : eb ≡ 28 = eqb-true eb 28 (and_right (eqb sb 11) (eqb eb 28) u) in
        record { start = rw v; end = rw w; differ = rw (v, w) }
