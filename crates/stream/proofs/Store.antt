-- What storing a stretch leaves in the buffer, by the two tests of the code.
use Rattle.refusal.specs.Refusal.{refused_by}
use Rattle.std.specs.Prelude.{Some, None, Ok}
use mathlib.Core.Path.{◌≡◌, refl, sym, ap, ◌∙◌}
use mathlib.Core.List.{List}
use mathlib.Core.Bool.{true, ◌||◌, or_self}
use Prim.Native.Nat.{ℕ, ◌+◌, ◌-◌, ◌≤◌, ◌<◌}
use native.Mathlib.Omega.{arith}
use native.Mathlib.Nat.{add-sub_cancel_left}
use lib.ListN.{length, take, drop, get_or, length-drop}
use lib.Dec.{eqb}
use lib.Seq.{take_all, length-take-le, get_or-drop}
use borrow.Author.Tests.{lt-ltb, le-ltb, le-leb, lt-leb, ne_eqb, eqb-true}
use borrow.Rule.Slice.PartMut.{mid_of, put_mid}
use Rattle.lists.proofs.Put.{back, over-fits}
use Rattle.lists.specs.Bytes.{overwritten, put, clear}
use Rattle.lists.proofs.Search.{clear_most, clear_hit}
use Rattle.settings.specs.Settings.{capacity_of, by_kind}
use Rattle.settings.specs.declared.Kind.{Kind}
use Rattle.settings.specs.declared.Kind.TheVariants.{Hybrid, Minimal}
use Rattle.settings.specs.declared.Settings.{Settings}
use Rattle.stream.proofs.Steps.{stored-over, from_stretch, from_end, from_skip, from-opens, from_interrupted, from_ends}
use Rattle.stream.specs.Internal.{advanced, stored, from}
use Rattle.stream.specs.declared.Phase.TheVariants.{Inside, Ended}
use Rattle.stream.specs.Scan.{scan}

-- the count, and the bytes, by the two tests
module _ (cap n : ℕ) where
  pub count_none : (m : ℕ) → cap < n → advanced cap n m ≡ n
  unfolding advanced
  count_none m h = rw (lt-ltb cap n h)

  pub count_whole : (m : ℕ) → n ≤ cap → m ≤ cap - n → advanced cap n m ≡ n + m
  unfolding advanced
  count_whole m h l = rw (le-ltb cap n h, le-leb m (cap - n) l)

  pub count_part : (m : ℕ) → n ≤ cap → cap - n < m → advanced cap n m ≡ cap + 1
  unfolding advanced
  count_part m h l = rw (le-ltb cap n h, lt-leb m (cap - n) l)

  module _ (xs b : List ℕ) where
    pub stored_none_left : cap < n → stored cap n xs b ≡ b
    stored_none_left h = stored-over cap n xs b (omega arith)

    pub stored_whole : n ≤ cap → length xs ≤ cap - n → cap ≤ length b → stored cap n xs b ≡ put_mid n (length b - n) b (overwritten (mid_of n (length b - n) b) xs)
    unfolding stored
    stored_whole h l r =
        let m : length (mid_of n (length b - n) b) ≡ length b - n = length-take-le (length b - n) (drop n b) (simp length-drop (omega arith)) in
        sym (back b xs _ n (omega arith) (over-fits (mid_of n (length b - n) b) xs (omega arith)) ∙ ap (λ (z : List ℕ). put b n z) (sym (take_all (cap - n) xs l)))

    pub stored_part : n ≤ cap → cap - n < length xs → cap ≤ length b → stored cap n xs b ≡ put_mid n (length b - n) b (overwritten (mid_of n (length b - n) b) (take (cap - n) xs))
    unfolding stored
    stored_part h l r =
        let m : length (mid_of n (length b - n) b) ≡ length b - n = length-take-le (length b - n) (drop n b) (simp length-drop (omega arith)) in
        let t : length (take (cap - n) xs) ≡ cap - n = length-take-le (cap - n) xs (omega arith) in
        sym (back b (take (cap - n) xs) _ n (omega arith) (over-fits (mid_of n (length b - n) b) (take (cap - n) xs) (omega arith)))

-- m is how far the search went from place i of the part on
pub record Stopped (sb eb : ℕ) (xs : List ℕ) (i m : ℕ) : Type 0 where
  pub is : m ≡ clear sb eb (drop i xs)
  pub most : i + m ≤ length xs

pub stopped : (sb eb : ℕ) (xs : List ℕ) (i m : ℕ) → i ≤ length xs → m ≡ clear sb eb (take (length xs - i) (drop i xs)) → Stopped sb eb xs i m
stopped sb eb xs i m h e =
    let t : take (length xs - i) (drop i xs) ≡ drop i xs = take_all (length xs - i) (drop i xs) (simp length-drop (omega arith)) in
    let q : m ≡ clear sb eb (drop i xs) = e ∙ ap (clear sb eb) t in
    let l : clear sb eb (drop i xs) ≤ length xs - i = rw length-drop at (clear_most sb eb (drop i xs)) in
    record { is = q; most = omega arith }

-- where the search stopped before the end, at another byte than SB, there is EB
pub stop_byte : (sb eb : ℕ) (xs : List ℕ) (i m : ℕ) → Stopped sb eb xs i m → i + m < length xs → (get_or xs (i + m) 0 ≡ sb → ⊥) → get_or xs (i + m) 0 ≡ eb
stop_byte sb eb xs i m d h e =
    let l : clear sb eb (drop i xs) < length (drop i xs) = rw (← d.is, length-drop) (omega arith) in
    let z : (eqb (get_or xs (i + m) 0) sb || eqb (get_or xs (i + m) 0) eb) ≡ true =
    rw (← get_or-drop i xs m 0) (rw (← d.is) at (clear_hit sb eb (drop i xs) l)) in
    eqb-true _ _ (rw (ne_eqb _ _ e) at z)

-- the stretch is stored
pub after_store : (g : Settings) (xs b c : List ℕ) (n s k i m cap o : ℕ) → Stopped g.start_block g.end_block xs i m → cap ≡ capacity_of g
    → capacity_of g ≤ length b → o ≡ advanced cap n (length (take (i + m - i) (drop i xs))) → c ≡ stored cap n (take (i + m - i) (drop i xs)) b
    → from g Inside n s k b i xs ≡ from g Inside o s k c (i + m) xs
after_store g xs b c n s k i m cap o d f h e q =
    let t : i + m - i ≡ m = add-sub_cancel_left i m in
    let l : length (take m (drop i xs)) ≡ m = length-take-le m (drop i xs) (rw length-drop (omega (arith, d.most))) in
    let e' : o ≡ advanced (capacity_of g) n m = e ∙ rw (t, l, f) in
    let q' : c ≡ stored (capacity_of g) n (take m (drop i xs)) b = q ∙ rw (t, f) in
    from_stretch g xs b n s k i h ∙ rw (e', q', ← d.is)

pub capacity_most : (g : Settings) → g.data_limit ≤ 99994 → capacity_of g ≤ 100006
capacity_most g h = go g.kind
  where
    go : (k : Kind) → by_kind k (g.data_limit + 12) g.data_limit ≤ 100006
    go Hybrid = omega arith
    go Minimal = omega arith

-- where a search for SB stopped before the end, there is SB
pub first_byte_lem : (sb : ℕ) (xs : List ℕ) (m : ℕ) → m ≡ clear sb sb xs → m < length xs → get_or xs m 0 ≡ sb
first_byte_lem sb xs m e h =
    let l : clear sb sb xs < length xs = rw (← e) h in
    eqb-true _ _ (rw (← e, or_self) at (clear_hit sb sb xs l))

-- inside a block: the search for SB or EB goes m bytes on from place i, the stretch is stored, and then the byte there is looked at
module _ (g : Settings) (xs b : List ℕ) (n s k i : ℕ) (w : i ≤ length xs) (f : capacity_of g ≤ length b) where
  abbrev far : ℕ
  far = clear g.start_block g.end_block (take (length xs - i) (drop i xs))

  abbrev counted : ℕ
  counted = advanced (capacity_of g) n (length (take (i + far - i) (drop i xs)))

  abbrev kept : List ℕ
  kept = stored (capacity_of g) n (take (i + far - i) (drop i xs)) b

  went : Stopped g.start_block g.end_block xs i far
  went = stopped _ _ xs i far w refl

  stretched : from g Inside n s k b i xs ≡ from g Inside counted s k kept (i + far) xs
  stretched = after_store g xs b kept n s k i far (capacity_of g) counted went refl f refl refl

  pub inside_open : length xs ≤ i + far → from g Inside n s k b i xs ≡ scan (Ok None) Inside counted s (k + (i + far)) kept
  inside_open h = stretched ∙ from_end g xs kept counted s k Inside (i + far) h

  pub inside_cut : i + far < length xs → get_or xs (i + far) 0 ≡ g.start_block
      → from g Inside n s k b i xs ≡ scan (Ok (Some (record { block_offset = s; verdict = refused_by 8 0 }))) Inside 0 (k + (i + far)) (k + (i + far) + 1) kept
  inside_cut h e = stretched ∙ from_interrupted g xs kept counted s k (i + far) h e

  pub inside_ends : i + far < length xs → (get_or xs (i + far) 0 ≡ g.start_block → ⊥)
      → from g Inside n s k b i xs ≡ from g Ended counted s k kept (i + far + 1) xs
  inside_ends h e = stretched ∙ from_ends g xs kept counted s k (i + far) h e (stop_byte _ _ xs i far went h e)

  pub far_most : i + clear g.start_block g.end_block (take (length xs - i) (drop i xs)) ≤ length xs
  far_most = went.most

pub ruleset store_cases = (count_none, count_whole, count_part, stored_none_left, stored_whole, stored_part)

pub ruleset between_cases = (from_end, from_skip, from-opens, first_byte_lem, clear_most)

pub ruleset inside_cases = (inside_open, inside_cut, inside_ends, far_most, capacity_most)
