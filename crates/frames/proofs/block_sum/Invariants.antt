-- The words passed are added.
use Rattle.std.proofs.Common.{◌≡◌, ◌-◌, ◌≤◌}
use Rattle.definition.specs.Bytes.{edition_1, sum_of}
use Rattle.frames.proofs.block_sum.Given as goal

abbrev pub invariant-loop-k : goal.invariant-loop-k
invariant-loop-k l = (l.k ≤ 128) × (l.sum ≡ sum_of edition_1.weight l.book l.at l.k)

abbrev pub decreases-loop-k : goal.decreases-loop-k
decreases-loop-k l = 128 - l.k
