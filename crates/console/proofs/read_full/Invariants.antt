-- The loop's invariant: no more has come than the buffer holds.
use Rattle.std.proofs.Common.{length, ◌-◌, ◌≤◌}
use Rattle.console.proofs.read_full.Given as goal

abbrev pub invariant-loop-n : goal.invariant-loop-n
invariant-loop-n g l = l.n ≤ length l.initial.buffer

abbrev pub decreases-loop-n : goal.decreases-loop-n
decreases-loop-n g l = length l.initial.buffer - l.n
