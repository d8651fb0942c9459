-- Each constraint is asked for its site among those behind it.
use Rattle.std.proofs.Common.{◌∙◌, ℕ, ◌+◌, ◌-◌, map, not, rules, tests}
use Rattle.definition.specs.Book.{slots, is_on}
use Rattle.definition.specs.Lists.{any, from}
use Rattle.definition.specs.Tables.{constraint_at}
use Rattle.laws.specs.Chains.{all_below}
use Rattle.checks.proofs.RuleTests.{once_is}
use Rattle.checks.proofs.rules.constrained_once.Goals as goal

pub returns : goal.returns
unfolding constraint_at
returns c =
    let at = constraint_at slots c.args.rule.now 0 in
    let count = c.args.count in
    let alone = λ (k : ℕ). not (any (is_on (at k).site) (map at (from (k + 1) (count - (k + 1))))) in
    all_below alone count c.all.ensures.ran (λ x b q k. search (rules, tests))
    ∙ once_is at count
