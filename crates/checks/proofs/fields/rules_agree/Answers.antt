-- Each constraint of the rule is asked in turn.
use Rattle.std.proofs.Common.{rules, tests}
use Rattle.definition.specs.Accept.{agrees_with}
use Rattle.definition.specs.Book.{slots}
use Rattle.definition.specs.Tables.{rule_word, constraint_at, rule_at}
use Rattle.laws.specs.Chains.{all_mapped}
use Rattle.checks.specs.Words.{rules_agree}
use Rattle.checks.proofs.fields.rules_agree.Goals as goal

pub returns : goal.returns
unfolding rules_agree rule_at
returns c =
    let agree = agrees_with (rule_at slots c.args.other.now.words.now 0).constraints in
    let rule = c.args.rule.now.words.now in
    let at = constraint_at slots rule 0 in
    all_mapped agree at (rule_word slots rule 0 3) c.all.ensures.ran (λ x b q k. search (rules, tests))
