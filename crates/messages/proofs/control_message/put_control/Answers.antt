-- `messages::control_message::put_control` meets its contract.
use mathlib.Core.List.{◌++◌}
use Prim.Native.Nat.{◌+◌, ◌≤◌}
use native.Mathlib.Omega.{arith}
use lib.ListN.{length}
use Rattle.lists.specs.Bytes.{bytes}
use Rattle.messages.specs.Messages.{type_text}
use Rattle.messages.proofs.Laws.{then}
use Rattle.messages.proofs.Shapes.{length_control, query_is, resynchronize_is}
use Rattle.messages.proofs.control_message.put_control.Goals as goal

pub returns-in-Resynchronize : goal.returns-in-Resynchronize
returns-in-Resynchronize c =
    let head = bytes "MSH|^~\\&|||||||" in
    let letters = type_text c.args.name in
    let h = length_control c.args.name c.args.control in
    let h1 : c.args.at + length head ≤ length c.args.out.now = omega (arith, c.requires, h) in
    let h2 : c.args.at + length (head ++ letters) ≤ length c.args.out.now = omega (arith, c.requires, h) in
    rw (c.in-Resynchronize.is, ← resynchronize_is c.args.name)
    (then (head ++ letters) _ (then head letters c.put_piece-type_at.ensures h1 c.put_piece-number_at.ensures) h2 c.put_piece.ensures)

pub returns-in-Query : goal.returns-in-Query
returns-in-Query c =
    let head = bytes "MSH|^~\\&|||||||" in
    let letters = type_text c.args.name in
    let h = length_control c.args.name c.args.control in
    let h1 : c.args.at + length head ≤ length c.args.out.now = omega (arith, c.requires, h) in
    let h2 : c.args.at + length (head ++ letters) ≤ length c.args.out.now = omega (arith, c.requires, h) in
    rw (c.in-Query.is, ← query_is c.args.name)
    (then (head ++ letters) _ (then head letters c.put_piece-type_at.ensures h1 c.put_piece-number_at.ensures) h2 c.put_piece-in-Query.ensures)
