-- `giamuvich::receiver_acts::gmv_hybrid_nak` meets its contract.
use Rattle.std.specs.Prelude.{Option}
use mathlib.Core.Path.{◌∙◌}
use Rattle.settings.specs.declared.Settings.{Settings}
use Rattle.receiver_calls.specs.ReceiverCalls.{nak_call}
use Rattle.receiver_calls.proofs.Laws.{nak_refuses}
use Rattle.giamuvich.proofs.Laws.{hybrid_passed}
use Rattle.giamuvich.proofs.receiver_acts.gmv_hybrid_nak.Goals as goal

pub returns : goal.returns
returns c =
    let a = c.args in
    rw (c.number_in.ensures, c.err.ensures.value)
    ((rw c.unchecked_hybrid.ensures at c.nak_words.ensures.0)
    ∙ hybrid_passed (λ (m : Option Settings). nak_call m a.block_number a.state.now a.buffer.now a.start a.report.now) (nak_refuses a.state.now a.buffer.now a.start a.report.now a.block_number) a.start_block a.end_block a.data_limit)
