-- `messages::pieces::put_code` meets its contract.
use Rattle.messages.proofs.pieces.put_code.Goals as goal

pub returns-in-AA : goal.returns-in-AA
returns-in-AA c =
    rw c.in-AA.is c.put_piece.ensures

pub returns-in-AE : goal.returns-in-AE
returns-in-AE c =
    rw c.in-AE.is c.put_piece-in-AE.ensures

pub returns-in-AR : goal.returns-in-AR
returns-in-AR c =
    rw c.in-AR.is c.put_piece-in-AR.ensures
