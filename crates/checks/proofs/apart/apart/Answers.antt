-- Each pair is asked in turn.
use Rattle.std.proofs.Common.{rules, tests}
use Rattle.definition.specs.Accept.{pair_apart, apart}
use Rattle.definition.specs.Book.{slots}
use Rattle.definition.specs.Tables.{rule_word, pair_at, rule_at}
use Rattle.laws.specs.Chains.{all_mapped}
use Rattle.checks.proofs.apart.apart.Goals as goal

pub returns : goal.returns
unfolding apart rule_at
returns c =
    let rule = c.args.rule.now.words.now in
    let asked = pair_apart (rule_at slots rule 0) in
    all_mapped asked (pair_at slots rule 0) (rule_word slots rule 0 4) c.all.ensures.ran (λ x b q k. search (rules, tests))
