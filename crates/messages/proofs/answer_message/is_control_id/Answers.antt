-- `messages::answer_message::is_control_id` meets its contract.
use mathlib.Core.Path.{◌≡◌, sym, ◌∙◌}
use mathlib.Core.Bool.{◌&&◌, false, true}
use lib.ListN.{length}
use lib.Dec.{leb}
use Rattle.std.proofs.Common.{rules}
use Rattle.lists.proofs.All.{all_none}
use Rattle.messages.specs.Internal.{id_byte}
use Rattle.messages.proofs.Laws.{id_size, id_free}
use Rattle.messages.proofs.answer_message.is_control_id.Goals as goal

pub returns-then-not-contains : goal.returns-then-not-contains
returns-then-not-contains c =
    let size : (leb 1 (length c.args.control_id.now) && leb (length c.args.control_id.now) 20) ≡ false = search rules in
    id_size c.args.control_id.now size

pub returns : goal.returns
returns c =
    let l = c.loop-x in
    let size : (leb 1 (length c.args.control_id.now) && leb (length c.args.control_id.now) 20) ≡ true = search rules in
    sym (all_none id_byte _ l.x-index l.good c.loop-x-test.false) ∙ l.invariant ∙ id_free c.args.control_id.now size
