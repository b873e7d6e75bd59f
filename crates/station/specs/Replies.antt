-- 02, §14, over a history: what a bare ENQ is answered with, and that no two blocks get RINT without an ACK between (000, C.3.4.4). The newest reply first.
use Rattle.std.specs.Prelude.{List, [], ◌∷◌, Bool, true, false}
use Rattle.station.specs.declared.Reply.{Reply}
use Rattle.station.specs.declared.Reply.TheVariants.{NoReply, Ack, Nak, Eot, Rint}

-- "its last reply, or NAK if it gave none"
unfoldable pub newest_reply : List Reply → Reply
newest_reply [] = Nak
newest_reply (NoReply ∷ ws) = newest_reply ws
newest_reply (Ack n ∷ ws) = Ack n
newest_reply (Nak ∷ ws) = Nak
newest_reply (Eot ∷ ws) = Eot
newest_reply (Rint ∷ ws) = Rint

-- "no ACK since the last": of the ACKs and RINTs the newest is a RINT
unfoldable pub rint_since_ack : List Reply → Bool
rint_since_ack [] = false
rint_since_ack (NoReply ∷ ws) = rint_since_ack ws
rint_since_ack (Ack n ∷ ws) = false
rint_since_ack (Nak ∷ ws) = rint_since_ack ws
rint_since_ack (Eot ∷ ws) = rint_since_ack ws
rint_since_ack (Rint ∷ ws) = true
