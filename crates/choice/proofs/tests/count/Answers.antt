-- The loop keeps its invariant, and the contract follows from it at its end.
use mathlib.Core.Path.{◌∙◌}
use native.Mathlib.Omega.{arith}
use Rattle.laws.specs.Runs.{tally_turn, tally_ends}
use Rattle.tables.specs.Held.{rank_of, test_of}
use Rattle.order.proofs.Asks.{at_rule}
use Rattle.choice.proofs.Answers.{told_yes, told_low, told_no, counted_all}
use Rattle.choice.proofs.tests.count.Goals as goal
use Rattle.choice.proofs.tests.count.Goals.{then-told-k+then-top-priority, else-told-k, else-told-k-via-then-told-k+else-top-priority, else-told-k-via-else-told-k}

pub loop-k-preserved : goal.loop-k-preserved
loop-k-preserved c =
    let v = c.loop-k.invariant in
    let h = c.loop-k-test.true in
    let told = c.ask_once-told.ensures in
    elim c.if-told-k.branch [
      | then-told-k+then-top-priority w ↦
          tally_turn v h
          (told_yes _ _ _ _ told _ h w.if-told-k.true (w.priority.ensures ∙ at_rule rank_of w.rule_at.ensures) w.if-top-priority.true) w.n-is
      | else-told-k w ↦
          elim w.else-told-k.branch [
            | else-told-k-via-then-told-k+else-top-priority z ↦
                tally_turn v h
                (told_low _ _ _ _ told _ h z.if-told-k.true (z.priority.ensures ∙ at_rule rank_of z.rule_at.ensures) z.if-top-priority.false)
                (omega (arith, w.n-is))
            | else-told-k-via-else-told-k z ↦ tally_turn v h (told_no _ _ _ _ told _ h z.if-told-k.false) (omega (arith, w.n-is))
          ]
    ]

pub returns : goal.returns
returns c =
    let d = c.args in (
      counted_all d.asked.now.rules.now
          (test_of d.test) d.asked.now.part.now d.asked.now.bar _ _ c.ask_once-told.ensures.raises c.max-top.ensures
          (tally_ends c.loop-k.invariant c.loop-k-test.false),
      omega (arith, c.loop-k.invariant.few, c.loop-k.invariant.within, d.asked.now.parts.short),
    )
