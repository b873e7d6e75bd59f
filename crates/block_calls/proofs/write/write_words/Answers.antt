-- `block_calls::write::write_words` meets its contract.
use Rattle.std.specs.Prelude.{Some}
use mathlib.Core.Path.{◌≡◌}
use Rattle.std.proofs.Common.{rules}
use Rattle.block_calls.proofs.WriteLaws.{write_done}
use Rattle.block_calls.proofs.write.write_words.Goals as goal

pub returns : goal.returns
returns c =
    let a = c.args in
    let made : a.made ≡ Some c.in_ok-settings.settings = search rules in (
      rw made
          (write_done c.in_ok-settings.settings a.t a.content.now a.buffer.now a.start a.report.now c.write-written.new.buffer c.report_written.new.report c.write-written.result _
          c.if-report-lt2.false c.report_written.ensures.0 (rw c.type_byte.ensures at c.write-written.ensures)),
      c.report_written.ensures.1,
    )
