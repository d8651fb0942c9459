-- The loop keeps its invariant, and the contract follows from it at the return.
use Rattle.std.proofs.Common.{rules, ◌<◌, length}
use Rattle.laws.specs.Loops.{map_turn}
use Rattle.sets.proofs.Store.relabelled.Goals as goal

pub loop-z-preserved : goal.loop-z-preserved
loop-z-preserved c =
    let h : c.loop-z.z < length c.args.self.now.root = search rules in
    rw c.renamed.ensures (map_turn 0 c.loop-z.invariant h)
