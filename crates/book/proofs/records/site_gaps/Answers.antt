-- Each record is asked in turn.
use Rattle.std.proofs.Common.{rules, tests}
use Rattle.definition.specs.Bytes.{site_gap, site_gaps}
use Rattle.laws.specs.Chains.{all_below}
use Rattle.book.proofs.records.site_gaps.Goals as goal

pub returns : goal.returns
unfolding site_gaps site_gap
returns c = all_below (site_gap c.args.book.now) c.args.count c.all.ensures.ran (λ x b q k. search (rules, tests))
