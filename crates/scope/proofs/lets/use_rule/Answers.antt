-- The loop keeps its invariant, and the contract follows from it at the return.
use mathlib.Core.Path.{◌≡◌}
use native.Mathlib.Omega.{arith}
use lib.ListN.{length}
use Rattle.definition.specs.Book.{most}
use Rattle.scope.proofs.Uses.{used_few, used_site, placed_then, placed_uses, turning_starts, turning_turn, turning_ends, low_few}
use borrow.Author.Rules.{rules}
use Rattle.scope.proofs.lets.use_rule.Goals as goal

pub loop-k-init : goal.loop-k-init
loop-k-init c =
    let long : length c.args.scope.now.states ≡ most = search rules in
    (omega (arith, low_few c.args.scope.now long), λ b d. turning_starts _ _ _ _)

pub overflow_add-lets : goal.overflow_add-lets
overflow_add-lets c = omega (arith, used_few c.use_expr-lets.ensures, c.loop-k.invariant.0)

pub loop-k-preserved : goal.loop-k-preserved
loop-k-preserved c = (
  omega (arith, used_few c.use_expr-lets.ensures, c.loop-k.invariant.0),
  λ b d.
      turning_turn (c.loop-k.invariant.1 b d) (omega (arith, c.impure_count-k-end.ensures.0, c.loop-k-test.true))
      c.impure.ensures (used_site c.use_expr-lets.ensures d),
)

pub overflow_add-result : goal.overflow_add-result
overflow_add-result c = omega (arith, used_few c.use_expr.ensures, c.loop-k.invariant.0)

pub returns : goal.returns
returns c = λ b d.
    let impure = turning_ends (c.loop-k.invariant.1 b d) (omega (arith, c.impure_count-k-end.ensures.0, c.loop-k-test.false)) in
    placed_uses b _ c.result-result.ensures (placed_then impure (used_site c.use_expr.ensures d))
