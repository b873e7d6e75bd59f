-- Laws of writing bytes over a list from a place on, and of a part that was lent for it.
use mathlib.Core.Path.{◌≡◌, sym, ap, ◌∙◌}
use mathlib.Core.List.{List, [], ◌∷◌, ◌++◌, append_assoc, append-nil}
use Prim.Native.Nat.{ℕ, ◌+◌, ◌-◌, ◌≤◌, ◌<◌}
use native.Mathlib.Numerals.{add-one}
use native.Mathlib.Nat.{add-zero, add_assoc}
use native.Mathlib.Omega.{arith}
use lib.ListN.{length, take, drop, set, length-append, length-drop, take-append-drop}
use lib.Seq.{drop-drop, take_all, take_at, take-append_seam, drop_at, drop-append-add, append_snoc, set_split, length-take-le}
use borrow.Rule.Slice.PartMut.{mid_of, put_mid}
use Rattle.lists.proofs.Parts.{drop_none}
use Rattle.lists.specs.Bytes.{put, overwritten}

-- what fits is written whole
pub over-fits : (t s : List ℕ) → length s ≤ length t → overwritten t s ≡ s ++ drop (length s) t
over-fits t s h = rw (take_all (length t) s h)

-- the part from a on, lent and come back with vs at its beginning
pub back : (l vs last : List ℕ) (a : ℕ) → a ≤ length l → last ≡ vs ++ drop (length vs) (mid_of a (length l - a) l)
    → put_mid a (length l - a) l last ≡ put l a vs
unfolding put
back l vs last a h e =
    let m : take (length l - a) (drop a l) ≡ drop a l = take_all (length l - a) (drop a l) (simp length-drop (omega arith)) in
    let p : drop (length l - a) (drop a l) ≡ [] = drop-drop (length l - a) a l ∙ drop_none l (a + (length l - a)) (omega arith) in
    rw (e, p, m, append-nil, drop-drop (length vs) a l) (sym (append_assoc (take a l) vs (drop (a + length vs) l)))

-- vs copied into the part from a on
pub copied : (l vs last : List ℕ) (a : ℕ) → a + length vs ≤ length l → last ≡ overwritten (mid_of a (length l - a) l) vs
    → put_mid a (length l - a) l last ≡ put l a vs
copied l vs last a h e =
    let m : length (mid_of a (length l - a) l) ≡ length l - a = length-take-le (length l - a) (drop a l) (simp length-drop (omega arith)) in
    back l vs last a (omega arith) (e ∙ over-fits (mid_of a (length l - a) l) vs (omega arith))

-- and over a part of just their length
pub copied_whole : (l vs last : List ℕ) (a n : ℕ) → n ≡ length vs → a + n ≤ length l → last ≡ overwritten (mid_of a n l) vs → put_mid a n l last ≡ put l a vs
unfolding put
copied_whole l vs last a n e h q =
    let m : length (mid_of a n l) ≡ n = length-take-le n (drop a l) (simp length-drop (omega arith)) in
    let w : last ≡ vs = q ∙ over-fits (mid_of a n l) vs (omega arith) ∙ rw (drop_none (mid_of a n l) (length vs) (omega arith)) (append-nil vs) in
    rw (w, e, drop-drop (length vs) a l) (sym (append_assoc (take a l) vs (drop (a + length vs) l)))

pub put_none : (l : List ℕ) (a : ℕ) → put l a [] ≡ l
unfolding put
put_none l a = rw (append-nil, add-zero, take-append-drop)

pub put-put : (l vs ws : List ℕ) (a : ℕ) → a + length vs ≤ length l → put (put l a vs) (a + length vs) ws ≡ put l a (vs ++ ws)
unfolding put
put-put l vs ws a h =
    let n : length (take a l ++ vs) ≡ a + length vs = length-append (take a l) vs ∙ ap (λ (i : ℕ). i + length vs) (length-take-le a l (omega arith)) in
    let t : take (a + length vs) (take a l ++ vs ++ drop (a + length vs) l) ≡ take a l ++ vs = take_at (take a l ++ vs) (drop (a + length vs) l) (a + length vs) n in
    let d : drop (a + length vs + length ws) (take a l ++ vs ++ drop (a + length vs) l) ≡ drop (a + length (vs ++ ws)) l =
    ap (λ (i : ℕ). drop (i + length ws) (take a l ++ vs ++ drop (a + length vs) l)) (sym n)
    ∙ drop-append-add (take a l ++ vs) (drop (a + length vs) l) (length ws)
    ∙ drop-drop (length ws) (a + length vs) l
    ∙ ap (λ (i : ℕ). drop i l) (add_assoc a (length vs) (length ws) ∙ ap (λ (i : ℕ). a + i) (sym (length-append vs ws))) in
    rw (t, d, append_assoc (take a l) vs ws)

pub set-put : (l : List ℕ) (n x : ℕ) → n < length l → set l n x ≡ put l n (x ∷ [])
unfolding put
set-put l n x h = set_split l n x h ∙ sym (rw (append_snoc, add-one))

pub put-set : (l vs : List ℕ) (n x : ℕ) → n < length l → put (set l n x) (n + 1) vs ≡ put l n (x ∷ vs)
put-set l vs n x h = ap (λ (z : List ℕ). put z (n + 1) vs) (set-put l n x h) ∙ put-put l (x ∷ []) vs n (omega arith)

pub length-put : (l vs : List ℕ) (a : ℕ) → a + length vs ≤ length l → length (put l a vs) ≡ length l
unfolding put
length-put l vs a h =
    simp (length-append, length-drop, length-take-le a l (omega arith)) (omega arith)

-- the bytes that were written, at their place
pub part_put : (l vs : List ℕ) (a : ℕ) → a ≤ length l → take (length vs) (drop a (put l a vs)) ≡ vs
unfolding put
part_put l vs a h =
    rw (append_assoc (take a l) vs (drop (a + length vs) l), drop_at (take a l) (vs ++ drop (a + length vs) l) a (length-take-le a l h))
    (take-append_seam vs (drop (a + length vs) l))

-- what was written at the beginning of a longer list is its first bytes
module _ (l vs m : List ℕ) (h : length vs ≤ length l) (e : m ≡ put l 0 vs) (n : ℕ) (q : n ≡ length vs) where
  pub first_fits : n ≤ length m
  first_fits = let z : length m ≡ length l = ap length e ∙ length-put l vs 0 (omega arith) in omega (arith, q, z)

  pub first_size : n ≡ length (take n m)
  first_size = sym (length-take-le n m first_fits)

  pub first_part : take n m ≡ vs
  first_part = rw (q, e) (part_put l vs 0 (omega arith))
