-- `put_points` meets its contract: each number before `n-index`, with a point.
use mathlib.Core.List.{◌++◌}
use Rattle.definition.specs.Listing.{text as quoted, decimal}
use Rattle.room.proofs.Written.{Each}
use Rattle.line.proofs.put_points.Given as goal

abbrev pub invariant-loop-n : goal.invariant-loop-n
invariant-loop-n l = Each (λ n. decimal n ++ quoted ".") l.n-items l.n-index l.initial.out l.out
