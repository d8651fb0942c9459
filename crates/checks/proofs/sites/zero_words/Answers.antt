use Rattle.std.proofs.Common.{◌+◌, ◌-◌, arith, rules, tests}
use Rattle.laws.specs.Chains.{zero_window}
use Rattle.checks.proofs.sites.zero_words.Goals as goal

pub returns : goal.returns
returns c = zero_window c.args.words.now c.args.at c.args.n (c.args.at + c.args.n - c.args.at) c.all.ensures.ran c.iter.ensures.rest (omega arith) c.requires (λ x b q k. search (rules, tests))
