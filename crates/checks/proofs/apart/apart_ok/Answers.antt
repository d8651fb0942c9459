-- Each rule is asked in turn.
use Rattle.std.proofs.Common.{ℕ, ◌∙◌, rules, tests}
use Rattle.definition.specs.Accept.{apart}
use Rattle.definition.specs.Book.{slots}
use Rattle.definition.specs.Tables.{rule_at}
use Rattle.laws.specs.Chains.{all_below}
use Rattle.checks.proofs.RulePairs.{apart_ok_is}
use Rattle.checks.proofs.apart.apart_ok.Goals as goal

pub returns : goal.returns
returns c =
    let u = c.args.rules.now in
    let asked = λ (i : ℕ). apart (rule_at slots u i) in
    λ S t. all_below asked c.args.count c.all.ensures.ran (λ x b q k. search (rules, tests)) ∙ apart_ok_is slots S c.args.count t u
