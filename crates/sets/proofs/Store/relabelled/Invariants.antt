-- `sets::Store::relabelled` meets its contract: the first z entries are renamed, the others are as they were.
use Rattle.laws.specs.Loops.{Mapped, relabel}
use Rattle.sets.proofs.Store.relabelled.Given as goal

abbrev pub invariant-loop-z : goal.invariant-loop-z
invariant-loop-z l = Mapped (relabel l.from l.to) l.self.root l.z l.root
