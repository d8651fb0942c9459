-- The loop keeps its invariant, and the contract follows from it at its end.
use mathlib.Core.Path.{sym, ◌∙◌}
use Rattle.laws.specs.Greatest.{climb_slots}
use Rattle.laws.specs.Passing.{pass_asked, pass_over}
use Rattle.choice.specs.Worth.{end_worth}
use Rattle.choice.proofs.of_end.Goals as goal
use Rattle.choice.proofs.of_end.Goals.{then-not-stands_before, else-not-stands_before}

pub loop-k-preserved : goal.loop-k-preserved
loop-k-preserved c =
    let l = c.loop-k in
    let h = c.loop-k-test.true in
    elim c.if-not-stands_before.branch [
      | then-not-stands_before w ↦ pass_asked l.invariant h c.end_site-y.ensures (w.most-is ∙ w.of_two-most.ensures)
      | else-not-stands_before w ↦ rw w.most-is
          (pass_over l.invariant h c.end_site-y.ensures (sym c.stands_before.ensures ∙ w.if-not-stands_before.false))
    ]

pub returns : goal.returns
unfolding end_worth
returns c = climb_slots _ _ c.end_count-n.ensures.0 c.loop-k.invariant.climbed c.loop-k-test.false
