-- `giamuvich::receiver_acts::gmv_hybrid_answer` meets its contract.
use Rattle.std.specs.Prelude.{Option}
use mathlib.Core.Path.{◌∙◌}
use Rattle.settings.specs.declared.Settings.{Settings}
use Rattle.receiver_calls.specs.ReceiverCalls.{answer_call}
use Rattle.receiver_calls.proofs.Laws.{answer_refuses}
use Rattle.giamuvich.proofs.Laws.{hybrid_passed}
use Rattle.giamuvich.proofs.receiver_acts.gmv_hybrid_answer.Goals as goal

pub returns : goal.returns
returns c =
    let a = c.args in
    rw (c.number_in.ensures, c.err.ensures.value)
    ((rw c.unchecked_hybrid.ensures at c.answer_words.ensures.0)
    ∙ hybrid_passed (λ (m : Option Settings). answer_call m a.stored a.state.now a.buffer.now a.start a.report.now) (answer_refuses a.state.now a.buffer.now a.start a.report.now a.stored) a.start_block a.end_block a.data_limit)
