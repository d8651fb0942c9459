-- The loop keeps its invariant, and the contract follows from it at its end.
use mathlib.Core.Path.{ap, ◌∙◌}
use Prim.Native.Nat.{max}
use Rattle.definition.specs.Choice.{on}
use Rattle.laws.specs.Greatest.{climb_turn, climb_slots}
use Rattle.laws.specs.Runs.{in_slots}
use Rattle.tables.specs.Held.{site_slot}
use Rattle.choice.specs.Worth.{worth_in, match_worth, constraints_worth}
use Rattle.choice.proofs.of_constraints.Goals as goal

pub loop-k-preserved : goal.loop-k-preserved
unfolding match_worth
loop-k-preserved c = let d = c.args in
    climb_turn _ (in_slots (site_slot d.rule.now.words.now d.rule.now.id) _) c.loop-k.invariant c.loop-k-test.true
    (c.of_test-most.ensures ∙ ap (λ s. max c.loop-k.most (worth_in d.asked.now (on s))) c.constraint_site-s.ensures)

pub returns : goal.returns
unfolding constraints_worth
returns c = climb_slots _ _ c.constraint_count-n.ensures.0 c.loop-k.invariant c.loop-k-test.false
