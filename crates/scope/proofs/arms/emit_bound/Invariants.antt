-- The loop's invariant: the sites below x are passed as the definition's pass does it.
use Rattle.definition.specs.Book.{Book}
use Rattle.definition.specs.Scope.{emitted, bound_by}
use Rattle.tables.specs.Held.{shown}
use Rattle.scope.specs.Drawn.{Drawn}
use Rattle.scope.proofs.Sweeps.{Swept}
use Rattle.scope.proofs.arms.emit_bound.Given as goal

abbrev pub invariant-loop-x : goal.invariant-loop-x
invariant-loop-x l = (b : Book) → Drawn l.sites b → Swept (bound_by b l.s (shown l.p)) emitted l.x l.fn.scope l.scope
