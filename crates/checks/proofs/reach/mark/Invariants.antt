-- The sites passed are marked.
use Prim.Native.Nat.{◌-◌, ◌≤◌}
use mathlib.Core.Path.{◌≡◌}
use mathlib.Core.List.{map}
use lib.ListN.{length}
use Rattle.checks.specs.Marks.{stepped, Marked}
use Rattle.definition.specs.Lists.{upto}
use Rattle.checks.proofs.reach.mark.Given as goal

abbrev pub invariant-loop-k : goal.invariant-loop-k
invariant-loop-k l = (l.k ≤ l.n) × (length l.marks ≡ 252) × Marked l.limit (map (stepped l.words l.at l.step) (upto l.k)) l.initial.marks l.marks

abbrev pub decreases-loop-k : goal.decreases-loop-k
decreases-loop-k l = l.n - l.k
