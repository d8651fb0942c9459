-- A rule of lower priority adds nothing.
use Rattle.choice.proofs.Answers.{rule_top, rule_low}
use Rattle.choice.proofs.of_rule.Goals as goal

pub returns-then-priority-top : goal.returns-then-priority-top
returns-then-priority-top c =
    rule_top _ _ _ _ _ c.priority.ensures c.if-priority-top.true c.of_constraints-most.ensures c.of_near.ensures

pub returns : goal.returns
returns c = rule_low _ _ _ _ _ c.priority.ensures c.if-priority-top.false
