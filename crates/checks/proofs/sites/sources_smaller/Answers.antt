-- Each source is asked in turn.
use Rattle.std.proofs.Common.{rules, tests}
use Rattle.definition.specs.Accept.{smaller_than}
use Rattle.definition.specs.Tables.{source_at}
use Rattle.laws.specs.Chains.{all_mapped}
use Rattle.checks.proofs.sites.sources_smaller.Goals as goal

pub returns : goal.returns
unfolding smaller_than source_at
returns c =
    let asked = smaller_than c.args.s in
    let at = source_at c.args.site.now 0 in
    all_mapped asked at c.args.count c.all.ensures.ran (λ x b q k. search (rules, tests))
