-- The adverse acts do what their names say: any of the blocks on a line may be lost, answers may come in any order and repeatedly, and a crash leaves what is persisted.
use mathlib.Core.Path.{◌≡◌, refl, sym, ap, ◌∙◌}
use mathlib.Core.List.{List, [], ◌∷◌, ◌++◌, append_assoc, append-nil}
use mathlib.Core.Bool.{Bool, true, false, cond}
use Prim.Native.Nat.{ℕ}
use borrow.Author.Tests.{eq-eqb}
use Rattle.lists.proofs.Same.{same_self}
use Rattle.settings.specs.declared.Settings.{Settings}
use Rattle.block.specs.Format.{block_of}
use Rattle.block_theorems.specs.Shapes.{type_read, Writable}
use Rattle.link.specs.Duties.{every}
use Rattle.link.specs.SenderActs.{after_crash}
use Rattle.link.specs.SenderHistory.{crashed}
use Rattle.link.specs.Line.{Reader, line, empty_line, Arrival, arrival, arriving, same_arrival, some_of, one_of, each_of, damages, disorders}
use Rattle.receiver.specs.Receiver.{closed}
use Rattle.link.specs.System.{Link, System, sending, receiving, link, sender_crashes, receiver_crashes, damages_forward, damages_back, after_act}
use Rattle.link.proofs.Queues.{All, none, more, all-sub, all_among, Sub, empty, skip, keep, In, here, there, Among, nobody, one}
use Rattle.link.proofs.Bytes.{arriving_block}

-- ---- the tests find what is there
arrival_self : (a : Arrival) → same_arrival a a ≡ true
arrival_self a = rw (eq-eqb a.type a.type refl, same_self a.content)

sub-tail : {x : Arrival} {xs ys : List Arrival} → Sub (x ∷ xs) ys → Sub xs ys
sub-tail (skip s) = skip (sub-tail s)
sub-tail (keep s) = skip s

sub_some : (xs ys : List Arrival) → Sub xs ys → some_of xs ys ≡ true
unfolding some_of
sub_some [] ys s = refl
sub_some (x ∷ xs) [] s = elim s [ ]
sub_some (x ∷ xs) (_ ∷ ys) (keep s) = ap (λ (b : Bool). cond b (some_of xs ys) (some_of (x ∷ xs) ys)) (arrival_self x) ∙ sub_some xs ys s
sub_some (x ∷ xs) (y ∷ ys) (skip s) = go (same_arrival x y) (sub_some xs ys (sub-tail s)) (sub_some (x ∷ xs) ys s)
  where
    go : (b : Bool) → some_of xs ys ≡ true → some_of (x ∷ xs) ys ≡ true → cond b (some_of xs ys) (some_of (x ∷ xs) ys) ≡ true
    go true p q = p
    go false p q = q

in_one : (x : Arrival) (ys : List Arrival) → In x ys → one_of x ys ≡ true
unfolding one_of
in_one x [] i = elim i [ ]
in_one x (_ ∷ ys) here = ap (λ (b : Bool). cond b true (one_of x ys)) (arrival_self x)
in_one x (y ∷ ys) (there i) = go (same_arrival x y) (in_one x ys i)
  where
    go : (b : Bool) → one_of x ys ≡ true → cond b true (one_of x ys) ≡ true
    go true p = refl
    go false p = p

among_each : (xs ys : List Arrival) → Among xs ys → each_of xs ys ≡ true
unfolding each_of
among_each [] ys nobody = refl
among_each (x ∷ xs) ys (one i a) = rw (in_one x ys i, among_each xs ys a)

-- ---- blocks on a line, behind any bytes
-- a block as it was written
abbrev Fits : Settings → Arrival → Type 0
Fits g a = Writable g a.type a.content

unfoldable pub blocks_of : Settings → List Arrival → List ℕ
blocks_of g [] = []
blocks_of g (a ∷ rest) = block_of g a.type a.content ++ blocks_of g rest

unfoldable read : Settings → List Arrival → List Arrival
read g [] = []
read g (a ∷ rest) = arrival (type_read g a.type) a.content ∷ read g rest

read_sub : (g : Settings) {xs ys : List Arrival} → Sub xs ys → Sub (read g xs) (read g ys)
unfolding read
read_sub g empty = empty
read_sub g (skip s) = skip (read_sub g s)
read_sub g (keep s) = keep (read_sub g s)

read_in : (g : Settings) {x : Arrival} {ys : List Arrival} → In x ys → In (arrival (type_read g x.type) x.content) (read g ys)
unfolding read
read_in g here = here
read_in g (there i) = there (read_in g i)

read_among : (g : Settings) {xs ys : List Arrival} → Among xs ys → Among (read g xs) (read g ys)
unfolding read
read_among g nobody = nobody
read_among g (one i a) = one (read_in g i) (read_among g a)

module _ (g : Settings) (r : Reader) where
  arriving_blocks : (bs : List Arrival) → All (Fits g) bs → (xs : List ℕ) → arriving g (line r (xs ++ blocks_of g bs)) ≡ arriving g (line r xs) ++ read g bs
  unfolding blocks_of read
  arriving_blocks [] none xs = ap (λ (b : List ℕ). arriving g (line r b)) (append-nil xs) ∙ sym (append-nil (arriving g (line r xs)))
  arriving_blocks (a ∷ bs) (more w ws) xs =
      let first = block_of g a.type a.content in
      let here = arrival (type_read g a.type) a.content in
      ap (λ (b : List ℕ). arriving g (line r b)) (sym (append_assoc xs first (blocks_of g bs)))
      ∙ arriving_blocks bs ws (xs ++ first)
      ∙ ap (λ (l : List Arrival). l ++ read g bs) (arriving_block g a.type a.content w r xs)
      ∙ append_assoc (arriving g (line r xs)) (here ∷ []) (read g bs)

sub_behind : (xs : List Arrival) {us ys : List Arrival} → Sub us ys → Sub (xs ++ us) (xs ++ ys)
sub_behind [] s = s
sub_behind (x ∷ xs) s = keep (sub_behind xs s)

in_behind : (xs : List Arrival) {u : Arrival} {ys : List Arrival} → In u ys → In u (xs ++ ys)
in_behind [] i = i
in_behind (x ∷ xs) i = there (in_behind xs i)

among_behind : (xs : List Arrival) {us ys : List Arrival} → Among us ys → Among us (xs ++ ys)
among_behind xs nobody = nobody
among_behind xs (one i a) = one (in_behind xs i) (among_behind xs a)

in_before : {x : Arrival} {xs : List Arrival} (ys : List Arrival) → In x xs → In x (xs ++ ys)
in_before ys here = here
in_before ys (there i) = there (in_before ys i)

among_both : (xs zs : List Arrival) {us ys : List Arrival} → Among xs zs → Among us ys → Among (xs ++ us) (zs ++ ys)
among_both [] zs nobody b = among_behind zs b
among_both (x ∷ xs) zs {ys = ys} (one i a) b = one (in_before ys i) (among_both xs zs a b)

among_self : (xs : List Arrival) → Among xs xs
among_self [] = nobody
among_self (x ∷ xs) = one here (wider (among_self xs))
  where
    wider : {us ys : List Arrival} {y : Arrival} → Among us ys → Among us (y ∷ ys)
    wider nobody = nobody
    wider (one i a) = one (there i) (wider a)

module _ (l : Link) (y : System) (xs : List ℕ) (bs cs : List Arrival) (fit : All (Fits l.settings) bs) where
  abbrev earlier : List Arrival
  earlier = arriving l.settings (line y.forward.reader xs)

  abbrev sooner : List Arrival
  sooner = arriving l.settings (line y.back.reader xs)

  -- of the requests on the line, behind any bytes, any may be lost: one, or several
  pub loses_requests : y.forward.bytes ≡ xs ++ blocks_of l.settings bs → Sub cs bs
      → after_act every l (damages_forward (xs ++ blocks_of l.settings cs)) y
      ≡ link y.sending y.receiving (line y.forward.reader (xs ++ blocks_of l.settings cs)) y.back
  loses_requests e s = ap (λ (b : Bool). cond b (link y.sending y.receiving (line y.forward.reader (xs ++ blocks_of l.settings cs)) y.back) y) lost
    where
      lost : damages l.settings y.forward (xs ++ blocks_of l.settings cs) ≡ true
      lost =
          let r = y.forward.reader in
          let now = arriving_blocks l.settings r bs fit xs in
          let then = arriving_blocks l.settings r cs (all-sub s fit) xs in
          ap (λ (b : List ℕ). some_of (arriving l.settings (line r (xs ++ blocks_of l.settings cs))) (arriving l.settings (line r b))) e
          ∙ ap (λ (k : List Arrival). some_of k (arriving l.settings (line r (xs ++ blocks_of l.settings bs)))) then
          ∙ ap (λ (k : List Arrival). some_of (earlier ++ read l.settings cs) k) now
          ∙ sub_some (earlier ++ read l.settings cs) (earlier ++ read l.settings bs) (sub_behind earlier (read_sub l.settings s))

  -- and of the answers any may be lost, come in another order, and come again
  pub disorders_answers : y.back.bytes ≡ xs ++ blocks_of l.settings bs → Among cs bs
      → after_act every l (damages_back (xs ++ blocks_of l.settings cs)) y
      ≡ link y.sending y.receiving y.forward (line y.back.reader (xs ++ blocks_of l.settings cs))
  disorders_answers e s = ap (λ (b : Bool). cond b (link y.sending y.receiving y.forward (line y.back.reader (xs ++ blocks_of l.settings cs))) y) other
    where
      other : disorders l.settings y.back (xs ++ blocks_of l.settings cs) ≡ true
      other =
          let r = y.back.reader in
          let now = arriving_blocks l.settings r bs fit xs in
          let then = arriving_blocks l.settings r cs (all_among s fit) xs in
          ap (λ (b : List ℕ). each_of (arriving l.settings (line r (xs ++ blocks_of l.settings cs))) (arriving l.settings (line r b))) e
          ∙ ap (λ (k : List Arrival). each_of k (arriving l.settings (line r (xs ++ blocks_of l.settings bs)))) then
          ∙ ap (λ (k : List Arrival). each_of (sooner ++ read l.settings cs) k) now
          ∙ among_each (sooner ++ read l.settings cs) (sooner ++ read l.settings bs) (among_both sooner sooner (among_self sooner) (read_among l.settings s))

-- ---- a crash leaves what is persisted, and nothing else
module _ (l : Link) (y : System) where
  pub receiver_crash_leaves : after_act every l receiver_crashes y
      ≡ link y.sending (receiving (closed y.receiving.persisted.expected) y.receiving.persisted [] false [] []) empty_line (line y.back.reader [])
  receiver_crash_leaves = refl

  pub sender_crash_leaves : after_act every l sender_crashes y
      ≡ link (sending (after_crash y.sending.persisted) y.sending.persisted [] [] (crashed ∷ y.sending.history)) y.receiving (line y.forward.reader []) empty_line
  sender_crash_leaves = refl
