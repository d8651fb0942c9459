-- Each constraint is asked in turn.
use Rattle.std.proofs.Common.{rules, tests}
use Rattle.definition.specs.Book.{slots, is_on}
use Rattle.definition.specs.Tables.{constraint_at}
use Rattle.laws.specs.Chains.{any_mapped_between}
use Rattle.checks.proofs.rules.constrained_from.Goals as goal

pub returns : goal.returns
unfolding is_on constraint_at
returns c =
    let asked = is_on c.args.site in
    let at = constraint_at slots c.args.rule.now 0 in
    any_mapped_between asked at c.args.first c.args.count c.any.ensures.ran (λ x b q k. search (rules, tests))
