-- Each record is asked in turn.
use Rattle.std.proofs.Common.{rules, tests}
use Rattle.definition.specs.Book.{slots}
use Rattle.definition.specs.Bytes.{rule_gap, rule_gaps}
use Rattle.laws.specs.Chains.{all_below}
use Rattle.book.proofs.records.rule_gaps.Goals as goal

pub returns : goal.returns
unfolding rule_gaps rule_gap
returns c = all_below (rule_gap slots c.args.sites c.args.book.now) c.args.count c.all.ensures.ran (λ x b q k. search (rules, tests))
