-- The ids passed stand where they belong.
use Prim.Native.Nat.{◌-◌, ◌≤◌}
use mathlib.Core.Path.{◌≡◌}
use mathlib.Core.List.{map}
use lib.Seq.{sets}
use Rattle.definition.specs.Book.{slots}
use Rattle.definition.specs.Bytes.{id_field}
use Rattle.definition.specs.Lists.{upto}
use Rattle.book.proofs.records.put_ids.Given as goal

abbrev pub invariant-loop-k : goal.invariant-loop-k
invariant-loop-k l = (l.k ≤ 12) × (l.rules ≡ sets l.initial.rules l.at (map (id_field slots l.book l.o) (upto l.k)))

abbrev pub decreases-loop-k : goal.decreases-loop-k
decreases-loop-k l = 12 - l.k
