-- Each constraint is asked in turn.
use Rattle.std.proofs.Common.{rules, tests}
use Rattle.definition.specs.Accept.{grants, granted}
use Rattle.definition.specs.Book.{slots}
use Rattle.definition.specs.Tables.{site_at, rule_word, constraint_at, rule_at}
use Rattle.laws.specs.Chains.{any_mapped}
use Rattle.checks.proofs.reach.granted.Goals as goal

pub returns : goal.returns
unfolding granted rule_at
returns c =
    let rule = c.args.rule.now.words.now in
    let asked = grants (site_at c.args.site.now 0) in
    let at = constraint_at slots rule 0 in
    any_mapped asked at (rule_word slots rule 0 3) c.any.ensures.ran (λ x b q k. search (rules, tests))
