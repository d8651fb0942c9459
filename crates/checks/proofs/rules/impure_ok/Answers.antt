-- Each id is asked in turn.
use Rattle.std.proofs.Common.{rules, tests}
use Rattle.definition.specs.Accept.{smaller_than}
use Rattle.definition.specs.Book.{slots}
use Rattle.definition.specs.Tables.{impure_at}
use Rattle.laws.specs.Chains.{all_mapped}
use Rattle.checks.proofs.rules.impure_ok.Goals as goal

pub returns : goal.returns
unfolding smaller_than impure_at
returns c =
    let asked = smaller_than c.args.sites in
    let at = impure_at slots c.args.rule.now 0 in
    all_mapped asked at c.args.count c.all.ensures.ran (λ x b q k. search (rules, tests))
