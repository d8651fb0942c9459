-- The loop's invariant: the impure sites below k are used, and no more was listed than was marked; the result is used after them.
use Prim.Native.Nat.{◌+◌, ◌≤◌}
use Rattle.definition.specs.Book.{Book, most, slots}
use Rattle.definition.specs.Scope.{use_site}
use Rattle.definition.specs.Tables.{rule_at}
use Rattle.theorems.specs.LetLists.{low}
use Rattle.scope.specs.Drawn.{Drawn}
use Rattle.scope.proofs.Uses.{Turning}
use Rattle.scope.proofs.lets.use_rule.Given as goal

abbrev pub invariant-loop-k : goal.invariant-loop-k
invariant-loop-k l =
    (l.lets + low l.scope.states ≤ most)
    × ((b : Book) → Drawn l.sites b
    → Turning (use_site b) (rule_at slots l.rule.words.now l.rule.id).impure l.k l.fn.scope l.fn.out l.lets l.scope l.out)
