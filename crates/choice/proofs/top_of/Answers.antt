-- The loop keeps its invariant, and the contract follows from it at its end.
use mathlib.Core.Path.{ap, ◌∙◌}
use Prim.Native.Nat.{◌+◌, max}
use native.Mathlib.Omega.{arith}
use Rattle.laws.specs.Greatest.{climb_turn, climb_ends}
use Rattle.laws.specs.Runs.{in_slice}
use Rattle.tables.specs.Held.{rank_of}
use Rattle.order.proofs.Asks.{at_rule}
use Rattle.choice.specs.Worth.{rank_above, top_of}
use Rattle.choice.proofs.top_of.Goals as goal

pub loop-x-preserved : goal.loop-x-preserved
unfolding rank_above
loop-x-preserved c = let d = c.args in
    climb_turn _ (in_slice d.asked.now.part.now) c.loop-x.invariant c.loop-x-test.true
    (c.max-most.ensures ∙ ap (λ x. max c.loop-x.most (x + 1))
    (c.priority.ensures ∙ at_rule rank_of c.rule_at.ensures))

pub returns : goal.returns
unfolding top_of
returns c = let z = climb_ends _ (in_slice _) c.loop-x.invariant c.loop-x-test.false in omega arith
