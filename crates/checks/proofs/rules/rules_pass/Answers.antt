-- Each rule is asked in turn.
use Rattle.std.proofs.Common.{ℕ, ◌∙◌, rules, tests}
use Rattle.definition.specs.Book.{slots}
use Rattle.laws.specs.Chains.{all_below}
use Rattle.laws.specs.Turns.{upto_same}
use Rattle.checks.proofs.Records.{rule_record, fine_same}
use Rattle.checks.proofs.RuleTests.{rules_pass_is}
use Rattle.checks.specs.Words.{rule_fine}
use Rattle.checks.proofs.rules.rules_pass.Goals as goal

pub returns : goal.returns
returns c =
    let u = c.args.rules.now in
    let sites = c.args.sites in
    let count = c.args.count in
    let asked = λ (i : ℕ). rule_fine slots sites (rule_record u i) 0 in
    λ t. all_below asked count c.all.ensures.ran (λ x b q k. search (rules, tests))
    ∙ upto_same asked (rule_fine slots sites u) count (λ i h. fine_same u i sites)
    ∙ rules_pass_is slots sites count t u
