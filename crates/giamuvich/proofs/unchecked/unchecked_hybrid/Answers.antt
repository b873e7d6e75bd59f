-- `giamuvich::unchecked::unchecked_hybrid` meets its contract.
use borrow.Author.Tests.{lt-ltb, le-ltb}
use Rattle.giamuvich.proofs.unchecked.unchecked_hybrid.Goals as goal

pub returns-then-start_block-gt255 : goal.returns-then-start_block-gt255
returns-then-start_block-gt255 c = simp (lt-ltb _ _ c.if-start_block-gt255.true)

pub returns-then-end_block-gt255 : goal.returns-then-end_block-gt255
returns-then-end_block-gt255 c = simp (le-ltb _ _ c.if-start_block-gt255.false, lt-ltb _ _ c.if-end_block-gt255.true)

pub returns : goal.returns
returns c = simp (le-ltb _ _ c.if-start_block-gt255.false, le-ltb _ _ c.if-end_block-gt255.false)
