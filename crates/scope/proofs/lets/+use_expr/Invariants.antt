-- The measure of `scope::lets::use_expr` is the site's id. Its loop's invariant: the sources below k are used, and no more
-- was listed than was marked.
use Prim.Native.Nat.{ℕ, ◌+◌, ◌≤◌}
use Rattle.definition.specs.Book.{Book, most}
use Rattle.definition.specs.Scope.{use_below}
use Rattle.definition.specs.Tables.{site_at}
use Rattle.theorems.specs.LetLists.{low}
use Rattle.scope.specs.Drawn.{Drawn}
use Rattle.scope.proofs.Uses.{Turning, marked}
use Rattle.scope.proofs.lets.+use_expr.Given as goal

abbrev pub decreases-use_expr : goal.decreases-use_expr
decreases-use_expr l = l.x

abbrev pub invariant-loop-k : goal.invariant-loop-k
invariant-loop-k l =
    let sources = (site_at l.sites.words.now l.x).sources in
    (l.lets + low l.scope.states ≤ most)
    × ((b : Book) → Drawn l.sites b → (f : ℕ) → l.x ≤ f
    → Turning (use_below f b) sources l.k (marked l.fn.scope l.x) l.fn.out l.lets l.scope l.out)
