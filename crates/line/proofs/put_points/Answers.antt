-- The loop keeps its invariant.
use Rattle.room.proofs.Written.{each_turn, writes_then}
use Rattle.line.proofs.put_points.Goals as goal

pub loop-n-preserved : goal.loop-n-preserved
loop-n-preserved c = each_turn c.loop-n.invariant c.loop-n-test.true (writes_then c.put_decimal.ensures c.put_byte.ensures)
