-- The loop keeps its invariant, and the contract follows from it at its end.
use Rattle.room.proofs.Written.{each_turn}
use Rattle.line.proofs.put_lets.Goals as goal

pub loop-site-preserved : goal.loop-site-preserved
loop-site-preserved c = each_turn c.loop-site.invariant c.loop-site-test.true c.put_let.ensures
