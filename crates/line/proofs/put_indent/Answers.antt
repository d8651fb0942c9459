-- The loop keeps its invariant.
use Rattle.room.proofs.Written.{each_turn}
use Rattle.line.proofs.put_indent.Goals as goal

pub loop-preserved : goal.loop-preserved
loop-preserved c = each_turn c.loop.invariant c.loop-test.true c.put_text.ensures
