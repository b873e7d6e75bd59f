-- The blocks of the control messages, and how the writer of one returns.
use mathlib.Core.Path.{◌≡◌, sym, ◌∙◌}
use mathlib.Core.List.{List, [], ◌∷◌, ◌++◌}
use Prim.Native.Nat.{ℕ, ◌+◌, ◌/◌}
use Prim.Native.Char.{code}
use lib.ListN.{length}
use Rattle.settings.specs.DataBytes.{digit}
use Rattle.settings.specs.declared.Kind.{Kind}
use Rattle.settings.specs.declared.Kind.TheVariants.{Hybrid, Minimal}
use Rattle.settings.specs.declared.Settings.{Settings}
use Rattle.block.specs.Format.{version, count_field, three_digits, checksum_of, hybrid_body, hybrid_block, minimal_block}
use Rattle.writer.specs.Write.{frame_length, need_of}
use Rattle.writer.proofs.Laws.{need-is}
use Rattle.messages.specs.Messages.{control_message}
use Rattle.messages.specs.declared.Control.{Control}
use Rattle.messages.specs.declared.Control.TheVariants.{Resynchronize, Query}
use Rattle.messages.specs.declared.MessageType.{MessageType}
use Rattle.messages.proofs.Shapes.{length_resynchronize, length_query}
use Rattle.control_block.specs.Internal.{block_length, control_block}

-- a block whose data is written out
module _ (g : Settings) (d e : List ℕ) (q : e ≡ d) where
  pub minimal_is : g.start_block ∷ (e ++ g.end_block ∷ 0x0D ∷ []) ≡ minimal_block g d
  unfolding minimal_block
  minimal_is = rw q

  pub hybrid_is : (s x y z : ℕ) → s ≡ checksum_of g.start_block (code "D") e → x ≡ digit (s / 100) → y ≡ digit (s / 10) → z ≡ digit s
      → g.start_block ∷ (code "D" ∷ version ++ e ++ count_field e ++ x ∷ y ∷ z ∷ [] ++ g.end_block ∷ 0x0D ∷ []) ≡ hybrid_block g (code "D") d
  unfolding hybrid_block hybrid_body three_digits
  hybrid_is s x y z i j k l = rw (j, k, l, i, q)

-- how long they are
pub size_is : (g : Settings) (t : MessageType) (c : Control) → need_of g (control_message t c) ≡ block_length g.kind c
size_is g t c = go g.kind c
  where
    go : (k : Kind) (c : Control) → length (control_message t c) + frame_length k ≡ block_length k c
    go Hybrid Resynchronize = rw (length_resynchronize t)
    go Hybrid Query = rw (length_query t)
    go Minimal Resynchronize = rw (length_resynchronize t)
    go Minimal Query = rw (length_query t)

pub length_is : (g : Settings) (t : MessageType) (c : Control) → length (control_block g t c) ≡ block_length g.kind c
length_is g t c = sym (need-is g (code "D") (control_message t c)) ∙ size_is g t c
