-- Each block is asked in turn.
use Rattle.std.proofs.Common.{◌/◌, length, rules, tests}
use Rattle.definition.specs.Bytes.{block_count, edition_1, sum_ok, sums_ok}
use Rattle.laws.specs.Chains.{all_below}
use Rattle.frames.proofs.sums_ok.Goals as goal

pub returns : goal.returns
unfolding sums_ok sum_ok block_count
returns c = all_below (sum_ok edition_1.weight c.args.book.now) (length c.args.book.now / 512) c.all.ensures.ran (λ x b q k. search (rules, tests))
