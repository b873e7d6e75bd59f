-- `messages::answer_message::put_header` meets its contract.
use mathlib.Core.List.{◌++◌}
use Prim.Native.Nat.{◌+◌, ◌≤◌}
use native.Mathlib.Omega.{arith}
use lib.ListN.{length, length-append}
use Rattle.lists.specs.Bytes.{bytes}
use Rattle.messages.proofs.Laws.{then}
use Rattle.messages.proofs.answer_message.put_header.Goals as goal

pub returns : goal.returns
returns c =
    let a = c.args in
    let start = bytes "MSH|^~\\&|||||||ACK|" in
    let id = a.control_id.now in
    let h1 : a.at + length start ≤ length a.out.now = omega (arith, c.requires) in
    let h2 : a.at + length (start ++ id) ≤ length a.out.now = simp length-append (omega (arith, c.requires)) in
    let two = then start id c.put_piece-id_at.ensures h1 c.put_piece-code_at.ensures in
    then (start ++ id) _ two h2 c.put_code.ensures
