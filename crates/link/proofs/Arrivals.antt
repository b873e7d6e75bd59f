-- Verdicts that were read and not yet acted on, and bytes on the line: what is accepted of both.
use Rattle.std.specs.Prelude.{Result, Ok, Err}
use mathlib.Core.Path.{◌≡◌, refl, sym, ap, ◌∙◌, subst}
use mathlib.Core.List.{List, [], ◌∷◌, ◌++◌, append_assoc}
use mathlib.Core.Bool.{Bool, true, false, cond}
use Prim.Native.Nat.{ℕ, zero, suc}
use lib.Dec.{eqb}
use borrow.Author.Tests.{eqb-true}
use Rattle.lists.specs.Bytes.{same}
use Rattle.lists.proofs.Tests.{and_left, and_right}
use Rattle.lists.proofs.Same.{same-is}
use Rattle.settings.specs.declared.Settings.{Settings}
use Rattle.refusal.specs.declared.Accepted.{Accepted}
use Rattle.refusal.specs.declared.Refusal.{Refusal}
use Rattle.stream.specs.Stream.{Judged}
use Rattle.link.specs.Duties.{one_at, others_at}
use Rattle.link.specs.Line.{Reader, line, reads_byte, reader_after, Arrival, arrival, accepts, accepted_of, arriving, same_arrival, some_of, one_of, each_of}
use Rattle.link.proofs.Facts.{not_both}
use Rattle.link.proofs.Queues.{Sub, skip, keep, sub-all, sub_none, In, here, there, Among, nobody, one, among_more}
use Rattle.link.proofs.Bytes.{accepted-append, arriving_byte}

-- ---- one of the verdicts, and those without it
pub others_sub : (n : ℕ) (ws : List Judged) (rs : List Arrival) → Sub (accepted_of (others_at n ws) ++ rs) (accepted_of ws ++ rs)
unfolding accepted_of others_at
others_sub n [] rs = sub-all rs
others_sub zero (w ∷ ws) rs = go w.verdict
  where
    go : (v : Result Accepted Refusal) → Sub (accepted_of ws ++ rs) ((accepts v w.content ++ accepted_of ws) ++ rs)
    go (Ok v) = skip (sub-all (accepted_of ws ++ rs))
    go (Err v) = sub-all (accepted_of ws ++ rs)
others_sub (suc n) (w ∷ ws) rs = go w.verdict (others_sub n ws rs)
  where
    go : (v : Result Accepted Refusal) → Sub (accepted_of (others_at n ws) ++ rs) (accepted_of ws ++ rs)
        → Sub ((accepts v w.content ++ accepted_of (others_at n ws)) ++ rs) ((accepts v w.content ++ accepted_of ws) ++ rs)
    go (Ok v) s = keep s
    go (Err v) s = s

in_front : (xs ys : List Arrival) (a : Arrival) → In a ys → In a (xs ++ ys)
in_front [] ys a i = i
in_front (x ∷ xs) ys a i = there (in_front xs ys a i)

pub one_in : (n : ℕ) (ws : List Judged) (w : Judged) (vs : List Judged) (rs : List Arrival) (a : Arrival) → one_at n ws ≡ w ∷ vs → accepts w.verdict w.content ≡ a ∷ []
    → In a (accepted_of ws ++ rs)
unfolding accepted_of one_at
one_in n [] w vs rs a e z = not_both cc
one_in zero (x ∷ ws) w vs rs a e z =
    let is : x ≡ w = cc in
    let head = ap (λ (k : Judged). accepts k.verdict k.content) is ∙ z in
    subst (λ (l : List Arrival). In a ((l ++ accepted_of ws) ++ rs)) (sym head) here
one_in (suc n) (x ∷ ws) w vs rs a e z =
    subst (In a) (sym (append_assoc (accepts x.verdict x.content) (accepted_of ws) rs))
    (in_front (accepts x.verdict x.content) (accepted_of ws ++ rs) a (one_in n ws w vs rs a e z))

-- ---- a byte is read: what it brings is among the verdicts, and no longer on the line
pub read_same : (g : Settings) (ws : List Judged) (r : Reader) (x : ℕ) (xs : List ℕ)
    → accepted_of (ws ++ (reads_byte g r x).says) ++ arriving g (line (reader_after g r x) xs) ≡ accepted_of ws ++ arriving g (line r (x ∷ xs))
read_same g ws r x xs =
    let says = (reads_byte g r x).says in
    let left = arriving g (line (reader_after g r x) xs) in
    ap (λ (l : List Arrival). l ++ left) (accepted-append ws says)
    ∙ append_assoc (accepted_of ws) (accepted_of says) left
    ∙ ap (λ (l : List Arrival). accepted_of ws ++ l) (sym (arriving_byte g r x xs))

-- ---- loss, damage and disorder, by their tests
arrival-is : (a b : Arrival) → same_arrival a b ≡ true → a ≡ b
arrival-is a b e =
    ap (λ (t : ℕ). arrival t a.content) (eqb-true a.type b.type (and_left (eqb a.type b.type) (same a.content b.content) e))
    ∙ ap (λ (d : List ℕ). arrival b.type d) (same-is a.content b.content (and_right (eqb a.type b.type) (same a.content b.content) e))

-- the line is empty
pub lost_line : (xs rs : List Arrival) → Sub (xs ++ []) (xs ++ rs)
lost_line [] rs = sub_none rs
lost_line (x ∷ xs) rs = keep (lost_line xs rs)

-- the line has other bytes
pub among_line : (xs : List Arrival) {rs us : List Arrival} → Among us rs → Among (xs ++ us) (xs ++ rs)
among_line [] a = a
among_line (x ∷ xs) a = one here (among_more (among_line xs a))

pub some_sub : (xs ys : List Arrival) → some_of xs ys ≡ true → Sub xs ys
unfolding some_of
some_sub [] ys e = sub_none ys
some_sub (x ∷ xs) [] e = not_both (sym e)
some_sub (x ∷ xs) (y ∷ ys) e = go (same_arrival x y) refl (λ z. some_sub xs ys z) (λ z. some_sub (x ∷ xs) ys z)
  where
    go : (b : Bool) → same_arrival x y ≡ b → (some_of xs ys ≡ true → Sub xs ys) → (some_of (x ∷ xs) ys ≡ true → Sub (x ∷ xs) ys) → Sub (x ∷ xs) (y ∷ ys)
    go true z g h =
        subst (λ (k : Arrival). Sub (x ∷ xs) (k ∷ ys)) (arrival-is x y z) (keep (g (ap (λ (b : Bool). cond b (some_of xs ys) (some_of (x ∷ xs) ys)) (sym z) ∙ e)))
    go false z g h = skip (h (ap (λ (b : Bool). cond b (some_of xs ys) (some_of (x ∷ xs) ys)) (sym z) ∙ e))

one_of_lem : (x : Arrival) (ys : List Arrival) → one_of x ys ≡ true → In x ys
unfolding one_of
one_of_lem x [] e = not_both (sym e)
one_of_lem x (y ∷ ys) e = go (same_arrival x y) refl (λ z. one_of_lem x ys z)
  where
    go : (b : Bool) → same_arrival x y ≡ b → (one_of x ys ≡ true → In x ys) → In x (y ∷ ys)
    go true z g = subst (λ (k : Arrival). In x (k ∷ ys)) (arrival-is x y z) here
    go false z g = there (g (ap (λ (b : Bool). cond b true (one_of x ys)) (sym z) ∙ e))

pub each_of_lem : (xs ys : List Arrival) → each_of xs ys ≡ true → Among xs ys
unfolding each_of
each_of_lem [] ys e = nobody
each_of_lem (x ∷ xs) ys e = one (one_of_lem x ys (and_left (one_of x ys) (each_of xs ys) e)) (each_of_lem xs ys (and_right (one_of x ys) (each_of xs ys) e))
