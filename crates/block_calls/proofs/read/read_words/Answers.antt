-- `block_calls::read::read_words` meets its contract.
use Rattle.std.specs.Prelude.{Some}
use Rattle.std.proofs.Common.{rules}
use mathlib.Core.Path.{◌≡◌}
use mathlib.Core.Bool.{true, ◌&&◌}
use lib.ListN.{length}
use lib.Dec.{leb}
use borrow.Author.Tests.{le-leb}
use Rattle.block_calls.specs.ReaderWords.{decoded}
use Rattle.block_calls.proofs.ReadLaws.{read_known_lem, read_enough}
use Rattle.block_calls.proofs.read.read_words.Goals as goal

pub returns : goal.returns
returns c =
    let a = c.args in
    let made : a.made ≡ Some c.in_ok-settings.settings = search rules in
    let known : decoded a.state.now ≡ Some c.in_ok-reader.reader = search rules in
    let enough : (leb 4 (length a.state.now) && leb 8 (length a.verdict.now)) ≡ true =
    rw (le-leb 4 (length a.state.now) c.if-state-lt4.false, le-leb 8 (length a.verdict.now) c.if-verdict-lt8.false)
    in (
      rw (made, ← read_enough c.in_ok-settings.settings a.state.now a.part.now a.buffer.now a.verdict.now enough, known)
          (read_known_lem c.in_ok-settings.settings a.state.now a.verdict.now c.read-reading.new.buffer c.read-reading.result _ _ _ _ c.finish.ensures.0 c.read-reading.ensures),
      c.finish.ensures.1,
    )
