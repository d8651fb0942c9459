-- A path that goes deeper keeps what a path keeps.
use Rattle.line.specs.Paths.{longer}
use Rattle.line.proofs.Path.deeper.Goals as goal
use Rattle.line.proofs.Path.deeper.Goals.{then-depth-lt-LONGEST, else-depth-lt-LONGEST}

pub invariant_of-result : goal.invariant_of-result
invariant_of-result c = elim c.if-depth-lt-LONGEST.branch [
  | then-depth-lt-LONGEST w ↦
      rw (w.numbers-is, w.depth-is) (longer c.self.inside.depth c.args.i c.self.inside.numbers c.self.invariant w.if-depth-lt-LONGEST.true)
  | else-depth-lt-LONGEST w ↦ rw (w.numbers-is, w.depth-is) c.self.invariant
]
