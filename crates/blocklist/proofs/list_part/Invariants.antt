use Rattle.std.proofs.Common.{length}
use Rattle.blocklist.proofs.list_part.Given as goal

abbrev pub decreases-loop-rest : goal.decreases-loop-rest
decreases-loop-rest g l = length l.rest
