-- The contract follows from the invariant at the loop's end.
use Rattle.laws.specs.Greatest.{climb_ends}
use Rattle.laws.specs.Runs.{in_slice}
use Rattle.choice.proofs.Answers.{part_top}
use Rattle.choice.proofs.best_worth.Goals as goal

pub returns : goal.returns
returns c = part_top _ _ _ (climb_ends _ (in_slice _) c.loop-x.invariant c.loop-x-test.false) c.top_of-top.ensures
