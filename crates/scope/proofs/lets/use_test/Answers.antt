-- `scope::lets::use_test` meets its contract: one use, or one after another.
use mathlib.Core.Path.{◌≡◌}
use native.Mathlib.Omega.{arith}
use lib.ListN.{length}
use Rattle.definition.specs.Book.{most}
use Rattle.scope.proofs.Uses.{used_few, used_site, placed_then, low_few}
use borrow.Author.Rules.{rules}
use Rattle.scope.proofs.lets.use_test.Goals as goal

pub overflow_add-result : goal.overflow_add-result
overflow_add-result c =
    let long : length c.args.scope.now.states ≡ most = search rules in
    omega (arith, used_few c.use_expr-lets.ensures, used_few c.use_expr-in-Same.ensures, low_few c.args.scope.now long)

pub returns-in-On : goal.returns-in-On
returns-in-On c = λ b d. rw c.in-On.is (used_site c.use_expr.ensures d)

pub returns-in-Same : goal.returns-in-Same
returns-in-Same c = λ b d. rw c.in-Same.is (placed_then (used_site c.use_expr-lets.ensures d) (used_site c.use_expr-in-Same.ensures d))
