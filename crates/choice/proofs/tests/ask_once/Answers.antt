-- The loop keeps its invariant, and the contract follows from it at its end.
use mathlib.Core.Path.{refl, ◌∙◌}
use native.Mathlib.Omega.{arith}
use lib.ListN.{get_or, length-set}
use Rattle.definition.specs.Book.{slots}
use Rattle.definition.specs.Choice.{has}
use Rattle.definition.specs.Tables.{rule_at}
use Rattle.tables.specs.Held.{rank_of, test_of}
use Rattle.order.specs.Parts.{rule_tests}
use Rattle.order.proofs.Asks.{at_rule, lack_starts, lack_turn}
use Rattle.choice.proofs.Answers.{mark_more}
use Rattle.choice.proofs.tests.ask_once.Goals as goal
use Rattle.choice.proofs.tests.ask_once.Goals.{then-not-has, else-not-has}

pub loop-k-init : goal.loop-k-init
loop-k-init c = (refl, λ j h. absurd (omega arith), lack_starts _ _ _)

pub loop-k-preserved : goal.loop-k-preserved
unfolding rule_tests
loop-k-preserved c =
    let g = c.loop-k.invariant in
    let h = c.loop-k-test.true in
    let rules = c.args.asked.now.rules.now in
    let is = c.rule_at-rule.ensures in
    let mark = c.has-has.ensures ∙ at_rule (λ t i. has (rule_at slots t i) (test_of c.args.test)) is in (
      length-set _ _ _ ∙ g.0,
      mark_more c.loop-k.had (omega (arith, g.0, h, c.args.asked.now.parts.short)) g.1 mark,
      elim c.if-not-has.branch [
        | then-not-has w ↦ lack_turn g.2 h refl mark (w.priority.ensures ∙ at_rule rank_of is)
            (w.top-is ∙ w.max-top.ensures ∙ rw w.if-not-has.true)
        | else-not-has w ↦ lack_turn g.2 h {p = rank_of rules (get_or c.args.asked.now.part.now c.loop-k.k 0)} refl mark refl
            (w.top-is ∙ rw w.if-not-has.false)
      ],
    )
