-- `giamuvich::control::gmv_hybrid_control_block` meets its contract.
use Rattle.std.specs.Prelude.{Option}
use mathlib.Core.Path.{◌∙◌}
use Rattle.settings.specs.declared.Settings.{Settings}
use Rattle.message_calls.specs.ControlCalls.{control_block_call}
use Rattle.message_calls.proofs.ControlLaws.{call_refuses}
use Rattle.giamuvich.proofs.Laws.{hybrid_passed}
use Rattle.giamuvich.proofs.control.gmv_hybrid_control_block.Goals as goal

pub returns : goal.returns
returns c =
    let a = c.args in
    rw (c.number_in.ensures, c.err.ensures.value)
    ((rw c.unchecked_hybrid.ensures at c.control_block_words.ensures.0)
    ∙ hybrid_passed (λ (m : Option Settings). control_block_call m a.letters.now a.number a.buffer.now a.start a.report.now)
    (call_refuses a.letters.now a.number a.buffer.now a.start a.report.now) a.start_block a.end_block a.data_limit)
