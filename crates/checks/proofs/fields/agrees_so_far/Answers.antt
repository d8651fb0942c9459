-- Each rule up to it is asked in turn.
use Rattle.std.proofs.Common.{ℕ, ◌+◌, rules, tests}
use Rattle.definition.specs.Book.{slots}
use Rattle.definition.specs.Tables.{rule_at}
use Rattle.laws.specs.Chains.{all_below}
use Rattle.checks.specs.Words.{rules_agree, agrees_so_far}
use Rattle.checks.proofs.fields.agrees_so_far.Goals as goal

pub returns : goal.returns
unfolding agrees_so_far
returns c =
    let u = c.args.rules.now in
    let i = c.args.i in
    let asked = λ (j : ℕ). rules_agree (rule_at slots u i) (rule_at slots u j) in
    all_below asked (i + 1) c.all.ensures.ran (λ x b q k. search (rules, tests))
