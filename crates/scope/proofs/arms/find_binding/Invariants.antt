-- The loop's invariant: the first site that stands at the position is the first one from x on.
use Rattle.definition.specs.Book.{Book}
use Rattle.tables.specs.Held.{shown}
use Rattle.scope.specs.Drawn.{Drawn}
use Rattle.scope.proofs.Binds.{Seeking}
use Rattle.scope.proofs.arms.find_binding.Given as goal

abbrev pub invariant-loop-x : goal.invariant-loop-x
invariant-loop-x l = (b : Book) → Drawn l.sites b → Seeking b l.s (shown l.p) l.k l.sites.count l.x
