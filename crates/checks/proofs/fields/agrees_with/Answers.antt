-- Each constraint of the other rule is asked in turn.
use Rattle.std.proofs.Common.{rules, tests}
use Rattle.definition.specs.Accept.{fields_agree, agrees_with}
use Rattle.definition.specs.Book.{slots}
use Rattle.definition.specs.Tables.{rule_word, constraint_at, rule_at}
use Rattle.laws.specs.Chains.{all_mapped}
use Rattle.checks.proofs.fields.agrees_with.Goals as goal

pub returns : goal.returns
unfolding agrees_with rule_at
returns c =
    let agree = fields_agree (constraint_at slots c.args.rule.now.words.now 0 c.args.k) in
    let other = c.args.other.now.words.now in
    let at = constraint_at slots other 0 in
    all_mapped agree at (rule_word slots other 0 3) c.all.ensures.ran (λ x b q k. search (rules, tests))
