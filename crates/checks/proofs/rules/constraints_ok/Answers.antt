use Rattle.std.proofs.Common.{rules, tests}
use Rattle.definition.specs.Book.{slots}
use Rattle.definition.specs.Tables.{constraint_at}
use Rattle.definition.specs.Accept.{constraint_ok}
use Rattle.laws.specs.Chains.{all_mapped}
use Rattle.checks.proofs.rules.constraints_ok.Goals as goal

pub returns : goal.returns
returns c =
    let asked = constraint_ok c.args.sites in
    let at = constraint_at slots c.args.rule.now 0 in
    all_mapped asked at c.args.count c.all.ensures.ran (λ x b q k. search (rules, tests))
