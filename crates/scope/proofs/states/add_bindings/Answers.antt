-- The loop keeps its invariant, and the contract follows from it at the return.
use Rattle.definition.specs.Scope.{worked_out}
use Rattle.scope.proofs.Sweeps.{sweep_ends}
use Rattle.scope.proofs.states.add_bindings.Goals as goal

pub returns : goal.returns
unfolding worked_out
returns c = λ b d. rw d.size (sweep_ends (c.loop-x.invariant b d) c.loop-x.auto.x-end c.loop-x-test.false)
