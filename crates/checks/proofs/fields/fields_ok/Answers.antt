-- Each rule is asked in turn.
use Rattle.std.proofs.Common.{◌∙◌, rules, tests}
use Rattle.definition.specs.Book.{slots}
use Rattle.laws.specs.Chains.{all_below}
use Rattle.checks.proofs.RulePairs.{fields_ok_is}
use Rattle.checks.specs.Words.{agrees_so_far}
use Rattle.checks.proofs.fields.fields_ok.Goals as goal

pub returns : goal.returns
returns c =
    let rules_now = c.args.rules.now in
    λ S t. all_below (agrees_so_far slots rules_now) c.args.count c.all.ensures.ran (λ x b q k. search (rules, tests)) ∙ fields_ok_is slots c.args.count rules_now S t
