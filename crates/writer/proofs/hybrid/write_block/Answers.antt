-- hybrid.write_block
use Rattle.lists.specs.Bytes.{put}
use Prim.Native.Nat.{ℕ, ◌+◌}
use mathlib.Core.Path.{refl, ap, ◌∙◌}
use mathlib.Core.List.{List}
use lib.ListN.{length}
use Rattle.block.specs.Format.{checksum_of}
use Rattle.writer.specs.Internal.{hybrid_header, hybrid_trailer}
use Rattle.writer.proofs.Laws.{three_parts, hybrid_is, length_header, length_trailer, length_hybrid}
use Rattle.writer.proofs.hybrid.write_block.Goals as goal

pub returns : goal.returns
returns c =
    let a = c.args in
    let d = a.content.now in
    let s = a.settings in
    let header = c.write_header in
    let content = c.write_content in
    let trailer = c.write_trailer in
    let sum = checksum_of s.start_block a.t d in
    record {
      value = length_hybrid s a.t d;
      buffer_after = three_parts a.buffer.now (hybrid_header s.start_block a.t) d (hybrid_trailer (5 + length d) sum s.end_block)
          header.new.out content.new.out trailer.new.out _ _ a.start 5 10 (length_header s.start_block a.t)
          (length_trailer (5 + length d) sum s.end_block) c.requires header.ensures refl content.ensures refl
          (rw (c.from.ensures, c.block_checksum-sum.ensures) at trailer.ensures)
          ∙ ap (λ (z : List ℕ). put a.buffer.now a.start z) (hybrid_is s a.t d);
    }
