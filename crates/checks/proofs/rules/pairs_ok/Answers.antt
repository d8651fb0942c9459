-- Each pair is asked in turn.
use Rattle.std.proofs.Common.{rules, tests}
use Rattle.definition.specs.Accept.{pair_ok}
use Rattle.definition.specs.Book.{slots}
use Rattle.definition.specs.Tables.{pair_at}
use Rattle.laws.specs.Chains.{all_mapped}
use Rattle.checks.proofs.rules.pairs_ok.Goals as goal

pub returns : goal.returns
returns c =
    let asked = pair_ok c.args.sites in
    let at = pair_at slots c.args.rule.now 0 in
    all_mapped asked at c.args.count c.all.ensures.ran (λ x b q k. search (rules, tests))
