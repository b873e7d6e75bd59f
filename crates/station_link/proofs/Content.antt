-- What the master sent, as blocks of the messages started.
use mathlib.Core.Path.{◌≡◌, refl, sym, ap, ◌∙◌}
use mathlib.Core.List.{List, [], ◌∷◌, ◌++◌, map}
use mathlib.Core.Bool.{Bool, true, false, cond}
use Prim.Native.Nat.{ℕ, suc, ◌+◌, ◌≤◌}
use native.Mathlib.Omega.{arith}
use lib.ListN.{length, take, drop, length-append, take-append-drop}
use lib.Seq.{take-append_seam, drop-drop, take-add}
use lib.Dec.{leb}
use Rattle.lists.proofs.Append.{append_assoc, append_none}
use Rattle.fragments.specs.Fragments.{fragment, fragments_of, extent_at}
use Rattle.fragments.proofs.Fragments.{divided, last_at, text_at_last, length_at_whole}
use Rattle.station.specs.declared.Ending.TheVariants.{Etb, Etx}
use Rattle.station.specs.History.{Block, block, text_held, messages_of}
use Rattle.master.specs.Master.{outstanding, ending_of_part, is_last, block_out, next_out}
use Rattle.master.specs.declared.Outstanding.{Outstanding}
use Rattle.station_link.specs.System.{Started, text_of}
use Rattle.station_link.specs.Promise.{oldest_first, block_of, message_blocks, started_blocks, messages_started, FirstOf}

-- ---- lists
module _ {A : Type 0} where
  pub first_of : (xs ys zs : List A) → xs ++ ys ≡ zs → FirstOf xs zs
  first_of xs ys zs e = sym (take-append_seam xs ys) ∙ ap (take (length xs)) e

  pub oldest_append : (xs ys : List A) → oldest_first (xs ++ ys) ≡ oldest_first ys ++ oldest_first xs
  unfolding oldest_first
  oldest_append [] ys = sym (append_none (oldest_first ys))
  oldest_append (x ∷ xs) ys = ap (λ (l : List A). l ++ x ∷ []) (oldest_append xs ys) ∙ append_assoc (oldest_first ys) (oldest_first xs) (x ∷ [])

  pub oldest_length : (xs : List A) → length (oldest_first xs) ≡ length xs
  unfolding oldest_first
  oldest_length [] = refl
  oldest_length (x ∷ xs) = let l = length-append (oldest_first xs) (x ∷ []) in let i = oldest_length xs in omega (arith, l, i)

-- ---- the block out
abbrev pub out_of : List ℕ → Outstanding → Block
out_of m o = block (ending_of_part (is_last o)) (text_of m (block_out o))

-- the blocks after the one that is out
abbrev pub after_out : List ℕ → Outstanding → List Block
after_out m o = cond (is_last o) [] (map block_of (fragments_of o.block_size (drop (o.offset + o.block_size) m)))

module _ (m : List ℕ) (o : Outstanding) (whole : length m ≡ o.message_length) where
  abbrev left : List ℕ
  left = drop o.offset m

  is_last_lem : is_last o ≡ leb (length left) o.block_size
  is_last_lem = ap (λ (n : ℕ). (extent_at n o.block_size o.offset).last) (sym whole) ∙ last_at m o.block_size o.offset

  pub last_text : is_last o ≡ true → text_of m (block_out o) ≡ left
  last_text h =
      ap (λ (n : ℕ). take (extent_at n o.block_size o.offset).length left) (sym whole)
      ∙ text_at_last m o.block_size o.offset (sym is_last_lem ∙ h)

  pub whole_text : is_last o ≡ false → text_of m (block_out o) ≡ take o.block_size left
  whole_text h =
      ap (λ (n : ℕ). take (extent_at n o.block_size o.offset).length left) (sym whole)
      ∙ ap (λ (n : ℕ). take n left) (length_at_whole m o.block_size o.offset (sym is_last_lem ∙ h))

  pub out_first : 1 ≤ o.block_size → map block_of (fragments_of o.block_size left) ≡ out_of m o ∷ after_out m o
  out_first positive =
      ap (map block_of) (divided o.block_size positive left)
      ∙ ap (λ (v : Bool). map block_of (cond v (fragment true left ∷ []) (fragment false (take o.block_size left) ∷ fragments_of o.block_size (drop o.block_size left)))) (sym is_last_lem)
      ∙ go (is_last o) refl
    where
      go : (v : Bool) → is_last o ≡ v
          → map block_of (cond v (fragment true left ∷ []) (fragment false (take o.block_size left) ∷ fragments_of o.block_size (drop o.block_size left)))
          ≡ block (ending_of_part v) (text_of m (block_out o)) ∷ cond v [] (map block_of (fragments_of o.block_size (drop (o.offset + o.block_size) m)))
      go true h = ap (λ (t : List ℕ). block Etx t ∷ []) (sym (last_text h))
      go false h =
          rw (whole_text h)
          (ap (λ (t : List ℕ). block Etb (take o.block_size left) ∷ map block_of (fragments_of o.block_size t)) (drop-drop o.block_size o.offset m))

-- ---- all is sent
pub record AllSent (ms : List Started) (bs : List Block) : Type 0 where
  pub blocks : oldest_first bs ≡ started_blocks ms
  pub held : text_held bs ≡ []
  pub messages : messages_of bs ≡ messages_started ms

-- a block is out: those acknowledged before it, and what is still to be sent
pub record Partly (ms : List Started) (bs : List Block) (o : Outstanding) : Type 0 where
  pub now : Started
  pub earlier : List Started
  pub acknowledged : List Block
  pub begun : ms ≡ now ∷ earlier
  pub out : bs ≡ out_of now.message o ∷ acknowledged
  pub whole : length now.message ≡ o.message_length
  pub size : now.size ≡ o.block_size
  pub positive : 1 ≤ o.block_size
  pub blocks : oldest_first acknowledged ++ map block_of (fragments_of o.block_size (drop o.offset now.message)) ≡ started_blocks ms
  pub held : text_held acknowledged ≡ take o.offset now.message
  pub messages : messages_of acknowledged ≡ messages_started earlier

-- the blocks are the first of the messages started, and the messages in them too: d, or one more
pub record Good (ms : List Started) (d : ℕ) (bs : List Block) : Type 0 where
  pub blocks : FirstOf (oldest_first bs) (started_blocks ms)
  pub later : List (List ℕ)
  pub messages : later ++ messages_of bs ≡ messages_started ms
  pub least : d ≤ length (messages_of bs)
  pub most : length (messages_of bs) ≤ d + 1
  pub begun : length ms ≤ d + 1

pub started_length : (ms : List Started) → length (messages_started ms) ≡ length ms
unfolding messages_started
started_length [] = refl
started_length (s ∷ ss) = ap suc (started_length ss)

pub complete_good : (ms : List Started) (bs : List Block) → AllSent ms bs → Good ms (length ms) bs
complete_good ms bs c =
    let l = ap length c.messages in
    let k = started_length ms in
    record {
      blocks = first_of (oldest_first bs) [] (started_blocks ms) (append_none (oldest_first bs) ∙ c.blocks);
      later = [];
      messages = c.messages;
      least = omega (arith, l, k);
      most = omega (arith, l, k);
      begun = omega arith;
    }

module _ (ms : List Started) (bs : List Block) (o : Outstanding) (p : Partly ms bs o) where
  abbrev m : List ℕ
  m = p.now.message

  abbrev k : Block
  k = out_of m o

  earlier_count : length (messages_of p.acknowledged) ≡ length p.earlier
  earlier_count = ap length p.messages ∙ started_length p.earlier

  pub acknowledged_good : Good ms (length p.earlier) p.acknowledged
  unfolding messages_started
  acknowledged_good =
      let l = earlier_count in
      record {
        blocks = first_of (oldest_first p.acknowledged) _ (started_blocks ms) p.blocks;
        later = m ∷ [];
        messages = ap (λ (l : List (List ℕ)). m ∷ l) p.messages ∙ ap messages_started (sym p.begun);
        least = omega (arith, l);
        most = omega (arith, l);
        begun = let n = ap length p.begun in omega (arith, n);
      }

  -- with the block out, the rest is what comes after it
  pub out_blocks : oldest_first bs ++ after_out m o ≡ started_blocks ms
  unfolding oldest_first
  out_blocks =
      ap (λ (l : List Block). oldest_first l ++ after_out m o) p.out
      ∙ append_assoc (oldest_first p.acknowledged) (k ∷ []) (after_out m o)
      ∙ ap (λ (l : List Block). oldest_first p.acknowledged ++ l) (sym (out_first m o p.whole p.positive))
      ∙ p.blocks

  module _ (h : is_last o ≡ true) where
    last_out : out_of m o ≡ block Etx (drop o.offset m)
    last_out = rw h (ap (block Etx) (last_text m o p.whole h))

    last_messages : messages_of bs ≡ messages_started ms
    unfolding messages_of messages_started
    last_messages =
        ap messages_of (p.out ∙ ap (λ (z : Block). z ∷ p.acknowledged) last_out)
        ∙ ap (λ (t : List ℕ). (t ++ drop o.offset m) ∷ messages_of p.acknowledged) p.held
        ∙ ap (λ (t : List ℕ). t ∷ messages_of p.acknowledged) (take-append-drop o.offset m)
        ∙ ap (λ (l : List (List ℕ)). m ∷ l) p.messages
        ∙ ap messages_started (sym p.begun)

    pub last_complete : AllSent ms bs
    unfolding text_held
    last_complete =
        record {
          blocks = sym (append_none (oldest_first bs)) ∙ ap (λ (v : Bool). oldest_first bs ++ cond v [] (map block_of (fragments_of o.block_size (drop (o.offset + o.block_size) m)))) (sym h) ∙ out_blocks;
          held = ap text_held (p.out ∙ ap (λ (z : Block). z ∷ p.acknowledged) last_out);
          messages = last_messages;
        }

  module _ (h : is_last o ≡ false) where
    pub whole_out : out_of m o ≡ block Etb (take o.block_size (drop o.offset m))
    whole_out = rw h (ap (block Etb) (whole_text m o p.whole h))

    pub whole_messages : messages_of bs ≡ messages_of p.acknowledged
    unfolding messages_of
    whole_messages = ap messages_of (p.out ∙ ap (λ (z : Block). z ∷ p.acknowledged) whole_out)

    -- the next block goes out
    unfoldable pub goes_on_lem : Partly ms (out_of m (next_out o) ∷ bs) (next_out o)
    unfolding text_held
    goes_on_lem =
        record {
          now = p.now;
          earlier = p.earlier;
          acknowledged = bs;
          begun = p.begun;
          out = refl;
          whole = p.whole;
          size = p.size;
          positive = p.positive;
          blocks = ap (λ (v : Bool). oldest_first bs ++ cond v [] (map block_of (fragments_of o.block_size (drop (o.offset + o.block_size) m)))) (sym h) ∙ out_blocks;
          held =
              ap text_held (p.out ∙ ap (λ (z : Block). z ∷ p.acknowledged) whole_out)
              ∙ ap (λ (t : List ℕ). t ++ take o.block_size (drop o.offset m)) p.held
              ∙ sym (take-add o.offset o.block_size m);
          messages = whole_messages ∙ p.messages;
        }

  pub out_good : Good ms (length p.earlier) bs
  out_good = go (is_last o) refl
    where
      first : FirstOf (oldest_first bs) (started_blocks ms)
      first = first_of (oldest_first bs) (after_out m o) (started_blocks ms) out_blocks

      go : (v : Bool) → is_last o ≡ v → Good ms (length p.earlier) bs
      go true h =
          let l = ap length (last_messages h) in
          let j = started_length ms in
          let i = ap length p.begun in
          record { blocks = first; later = []; messages = last_messages h; least = omega (arith, l, j, i); most = omega (arith, l, j, i); begun = omega (arith, i) }
      go false h =
          let l = ap length (whole_messages h) in
          let j = earlier_count in
          record {
            blocks = first;
            later = acknowledged_good.later;
            messages = ap (λ (z : List (List ℕ)). acknowledged_good.later ++ z) (whole_messages h) ∙ acknowledged_good.messages;
            least = omega (arith, l, j);
            most = omega (arith, l, j);
            begun = acknowledged_good.begun;
          }

-- a message is started
unfoldable pub begins : (ms : List Started) (bs : List Block) (s : Started) (count : ℕ) → 1 ≤ s.size → AllSent ms bs
    → Partly (s ∷ ms) (out_of s.message (outstanding (length s.message) s.size 0 0 count) ∷ bs) (outstanding (length s.message) s.size 0 0 count)
unfolding started_blocks
begins ms bs s count positive c =
    record {
      now = s;
      earlier = ms;
      acknowledged = bs;
      begun = refl;
      out = refl;
      whole = refl;
      size = refl;
      positive = positive;
      blocks = ap (λ (l : List Block). l ++ message_blocks s) c.blocks;
      held = c.held;
      messages = c.messages;
    }
