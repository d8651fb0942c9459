-- The loop keeps its invariant, and the contract follows from it at its end.
use Rattle.room.proofs.Written.{each_turn, items_end}
use Rattle.line.proofs.put_text.Goals as goal

pub loop-byte-preserved : goal.loop-byte-preserved
loop-byte-preserved c = each_turn c.loop-byte.invariant c.loop-byte-test.true c.put_byte.ensures

pub returns : goal.returns
returns c = items_end c.loop-byte.invariant c.loop-byte-test.false
