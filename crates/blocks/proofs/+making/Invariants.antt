-- What falls at each call of the cycle `making` of `blocks`, and what its loops keep.
use Prim.Native.Nat.{◌-◌, ◌+◌, ◌*◌}
use lib.ListN.{length}
use Rattle.blocks.proofs.ArmsLoop.{ArmsGoing}
use Rattle.blocks.proofs.StepsLoop.{StepsGoing}
use Rattle.blocks.proofs.+making.Given as goal

abbrev pub decreases-make_arm : goal.decreases-make_arm
decreases-make_arm l = 5 * l.left + 0

abbrev pub decreases-make_control_flow : goal.decreases-make_control_flow
decreases-make_control_flow l = 5 * l.left + 2

abbrev pub decreases-make_equal : goal.decreases-make_equal
decreases-make_equal l = 5 * l.left + 1

abbrev pub invariant-make_match-loop-taken : goal.invariant-make_match-loop-taken
invariant-make_match-loop-taken l = ArmsGoing l.book l.left l.s l.scope l.initial.order l.initial.out l.order l.taken l.arms l.out

abbrev pub decreases-make_match-loop-taken : goal.decreases-make_match-loop-taken
decreases-make_match-loop-taken l = length l.order - l.taken

abbrev pub decreases-make_match : goal.decreases-make_match
decreases-make_match l = 5 * l.left + 1

abbrev pub invariant-make_steps-loop-next : goal.invariant-make_steps-loop-next
invariant-make_steps-loop-next l =
    StepsGoing l.book l.left l.initial.scope l.initial.order l.initial.out l.scope l.order l.taken l.count l.out

abbrev pub decreases-make_steps-loop-next : goal.decreases-make_steps-loop-next
decreases-make_steps-loop-next l = length l.order - l.taken

abbrev pub decreases-make_steps : goal.decreases-make_steps
decreases-make_steps l = 5 * l.left + 3

abbrev pub decreases-sort : goal.decreases-sort
decreases-sort l = 5 * l.left + 4
