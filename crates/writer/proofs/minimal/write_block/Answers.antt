-- minimal.write_block
use Prim.Native.Nat.{ℕ}
use Rattle.lists.specs.Bytes.{put}
use mathlib.Core.Path.{refl, ap, ◌∙◌}
use mathlib.Core.List.{List, [], ◌∷◌}
use Rattle.writer.proofs.Laws.{three_parts, minimal_is, length_minimal}
use Rattle.writer.proofs.minimal.write_block.Goals as goal

pub returns : goal.returns
returns c =
    let a = c.args in
    let d = a.content.now in
    let s = a.settings in
    let header = c.write_header in
    let content = c.write_content in
    let trailer = c.write_trailer in
    record {
      value = length_minimal s d;
      buffer_after = three_parts a.buffer.now (s.start_block ∷ []) d (s.end_block ∷ 13 ∷ []) header.new.out content.new.out trailer.new.out
          _ _ a.start 1 2 refl refl c.requires header.ensures refl content.ensures refl trailer.ensures
          ∙ ap (λ (z : List ℕ). put a.buffer.now a.start z) (minimal_is s d);
    }
