-- Laws of the writer: parts that were lent one after the other, the parts of a block, and the tests in their order.
use mathlib.Core.Path.{◌≡◌, refl, sym, ap, ◌∙◌}
use mathlib.Core.List.{List, [], ◌∷◌, ◌++◌, append_assoc}
use mathlib.Core.Bool.{true, false}
use Prim.Native.Nat.{ℕ, ◌+◌, ◌≤◌, ◌-◌}
use native.Mathlib.Omega.{arith}
use lib.ListN.{length, drop, length-append}
use lib.Dec.{leb}
use borrow.Author.Tests.{le-leb}
use borrow.Rule.Slice.PartMut.{mid_of, put_mid}
use Rattle.lists.proofs.Put.{back, put-put, length-put, over-fits}
use Rattle.lists.specs.Bytes.{put}
use Rattle.settings.specs.DataBytes.{all_allowed}
use Rattle.block.specs.Format.{version, five_digits, three_digits, count_field, checksum_of, hybrid_body, hybrid_block, minimal_block, block_of}
use Rattle.settings.specs.Settings.{by_kind, valid}
use Rattle.settings.specs.declared.Kind.{Kind}
use Rattle.settings.specs.declared.Kind.TheVariants.{Hybrid, Minimal}
use Rattle.settings.specs.declared.Settings.{Settings}
use Rattle.writer.specs.Write.{frame_length, need_of, type_valid, refused, wrote, frame_of, write_of}
use Rattle.writer.specs.Internal.{hybrid_header, hybrid_trailer}

-- the part from b on, lent after the bytes vs were written from a on, and come back with ws at its beginning
pub next_part : (l m vs ws last : List ℕ) (a b n : ℕ) → m ≡ put l a vs → b ≡ a + length vs → length ws ≡ n → a + length vs ≤ length l
    → last ≡ ws ++ drop n (mid_of b (length m - b) m) → put_mid b (length m - b) m last ≡ put l a (vs ++ ws)
next_part l m vs ws last a b n e f g h q =
    let s : length m ≡ length l = ap length e ∙ length-put l vs a h in
    let z : put_mid b (length m - b) m last ≡ put m b ws = back m ws last b (omega arith) (q ∙ rw g) in
    z ∙ rw (e, f) (put-put l vs ws a h)

-- the header h, the data d and the trailer t, each written into the part that was lent after those before it
pub three_parts : (l h d t x y z m n : List ℕ) (a i j : ℕ) → length h ≡ i → length t ≡ j → a + (length d + (i + j)) ≤ length l
    → x ≡ h ++ drop i (mid_of a (length l - a) l) → m ≡ put_mid a (length l - a) l x
    → y ≡ d ++ drop (length d) (mid_of (a + i) (length m - (a + i)) m) → n ≡ put_mid (a + i) (length m - (a + i)) m y
    → z ≡ t ++ drop j (mid_of (a + i + length d) (length n - (a + i + length d)) n)
    → put_mid (a + i + length d) (length n - (a + i + length d)) n z ≡ put l a (h ++ d ++ t)
three_parts l h d t x y z m n a i j u v r e e' f f' g =
    let p : m ≡ put l a h = e' ∙ back l h x a (omega arith) (e ∙ rw u) in
    let q : n ≡ put l a (h ++ d) = f' ∙ next_part l m h d y a (a + i) (length d) p (omega arith) refl (omega arith) f in
    let w : length (h ++ d) ≡ length h + length d = length-append h d in
    next_part l n (h ++ d) t z a (a + i + length d) j q (omega arith) v (omega arith) g

regroup : (v d c x e : List ℕ) → v ++ d ++ (c ++ x ++ e) ≡ v ++ d ++ c ++ x ++ e
regroup v d c x e = simp append_assoc

pub hybrid_is : (s : Settings) (t : ℕ) (d : List ℕ)
    → hybrid_header s.start_block t ++ d ++ hybrid_trailer (5 + length d) (checksum_of s.start_block t d) s.end_block ≡ hybrid_block s t d
unfolding hybrid_header hybrid_trailer hybrid_block hybrid_body count_field
hybrid_is s t d =
    ap (λ (l : List ℕ). s.start_block ∷ l)
    (regroup (t ∷ version) d (five_digits (5 + length d)) (three_digits (checksum_of s.start_block t d)) (s.end_block ∷ 0x0D ∷ []))

pub minimal_is : (s : Settings) (d : List ℕ) → (s.start_block ∷ []) ++ d ++ (s.end_block ∷ 0x0D ∷ []) ≡ minimal_block s d
unfolding minimal_block
minimal_is s d = refl

pub length_header : (sb t : ℕ) → length (hybrid_header sb t) ≡ 5
unfolding hybrid_header
length_header sb t = refl

pub length_trailer : (count sum eb : ℕ) → length (hybrid_trailer count sum eb) ≡ 10
unfolding hybrid_trailer five_digits three_digits
length_trailer count sum eb = refl

length_three : (h d t : List ℕ) (i j : ℕ) → length h ≡ i → length t ≡ j → length (h ++ d ++ t) ≡ length d + (i + j)
length_three h d t i j u v = simp length-append (omega arith)

pub length_hybrid : (s : Settings) (t : ℕ) (d : List ℕ) → length d + 15 ≡ length (hybrid_block s t d)
length_hybrid s t d =
    sym (length_three (hybrid_header s.start_block t) d (hybrid_trailer (5 + length d) (checksum_of s.start_block t d) s.end_block) 5 10
    (length_header s.start_block t) (length_trailer (5 + length d) (checksum_of s.start_block t d) s.end_block))
    ∙ ap length (hybrid_is s t d)

pub length_minimal : (s : Settings) (d : List ℕ) → length d + 3 ≡ length (minimal_block s d)
length_minimal s d = sym (length_three (s.start_block ∷ []) d (s.end_block ∷ 0x0D ∷ []) 1 2 refl refl) ∙ ap length (minimal_is s d)

-- "Room needed from the named place: the writer's block"
pub need-is : (s : Settings) (t : ℕ) (d : List ℕ) → need_of s d ≡ length (block_of s t d)
unfolding block_of
need-is s t d = go s.kind
  where
    go : (k : Kind) → length d + frame_length k ≡ length (by_kind k (hybrid_block s t d) (minimal_block s d))
    go Hybrid = length_hybrid s t d
    go Minimal = length_minimal s d

-- what the writer says, by the first test that fails
module _ (s : Settings) (t : ℕ) (d : List ℕ) (start : ℕ) (b : List ℕ) where
  pub write_framed : valid s ≡ true → frame_of s t d start b ≡ write_of s t d start b
  unfolding write_of
  write_framed e = rw e

  pub frame_too_short : leb (start + need_of s d) (length b) ≡ false → refused 2 0 b ≡ frame_of s t d start b
  unfolding frame_of
  frame_too_short f = rw (f)

  pub frame_all : leb (start + need_of s d) (length b) ≡ true → length d ≤ s.data_limit → type_valid s.kind t d ≡ true
      → all_allowed d ≡ true → wrote b start (block_of s t d) ≡ frame_of s t d start b
  unfolding frame_of
  frame_all f g h i = rw (f, le-leb _ _ g, h, i)

  pub write_all_lem : valid s ≡ true → leb (start + need_of s d) (length b) ≡ true → length d ≤ s.data_limit → type_valid s.kind t d ≡ true
      → all_allowed d ≡ true → wrote b start (block_of s t d) ≡ write_of s t d start b
  write_all_lem e f g h i = frame_all f g h i ∙ write_framed e

pub ruleset content_cases = (over-fits)
