-- What falls at each call of the cycle `reading`, and what its loops keep.
use Rattle.std.proofs.Common.{◌+◌, ◌*◌}
use Rattle.definition.specs.Read.{read_arms, read_flow, read_steps, read_counted, read_block}
use Rattle.reading.specs.Acts.{steps_after, arms_after, flow_after, block_after}
use Rattle.reading.proofs.Loops.{Loop}
use Rattle.reading.proofs.+reading.Given as goal

abbrev pub decreases-arm : goal.decreases-arm
decreases-arm g l = 6 * l.left + 1

abbrev pub decreases-arms : goal.decreases-arms
decreases-arms g l = 6 * l.left + 2

abbrev pub decreases-block : goal.decreases-block
decreases-block g l = 6 * l.left

abbrev pub decreases-flow : goal.decreases-flow
decreases-flow g l = 6 * l.left + 3

abbrev pub decreases-pair : goal.decreases-pair
decreases-pair g l = 6 * l.left + 1

abbrev pub decreases-step : goal.decreases-step
decreases-step g l = 6 * l.left + 4

abbrev pub decreases-steps : goal.decreases-steps
decreases-steps g l = 6 * l.left + 5

abbrev pub invariant-steps-loop-i : goal.invariant-steps-loop-i
invariant-steps-loop-i g l =
    Loop (read_steps (read_block l.left)) (read_counted (read_block l.left) l.fn.w) (block_after g.R.Reader.acts l.fn.reader)
    (steps_after g.R.Reader.acts (l.i + 1) l.reader) l.count l.i l.rest

abbrev pub invariant-arms-loop-i : goal.invariant-arms-loop-i
invariant-arms-loop-i g l =
    Loop (read_arms (read_block l.left)) (read_flow (read_block l.left) 0 l.fn.w) (flow_after g.R.Reader.acts l.fn.reader)
    (λ k. g.R.Reader.acts.leaves (arms_after g.R.Reader.acts l.site (l.i + 1) l.reader k) l.mark) l.count l.i l.rest
