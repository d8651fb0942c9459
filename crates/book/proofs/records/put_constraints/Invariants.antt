-- The constraints passed stand where they belong.
use Prim.Native.Nat.{◌-◌, ◌≤◌}
use mathlib.Core.Path.{◌≡◌}
use lib.Seq.{sets}
use Rattle.definition.specs.Bytes.{constraint_fields}
use Rattle.definition.specs.Lists.{upto, flat}
use Rattle.book.proofs.records.put_constraints.Given as goal

abbrev pub invariant-loop-k : goal.invariant-loop-k
invariant-loop-k l = (l.k ≤ 4) × (l.rules ≡ sets l.initial.rules l.at (flat (constraint_fields l.book l.o) (upto l.k)))

abbrev pub decreases-loop-k : goal.decreases-loop-k
decreases-loop-k l = 4 - l.k
