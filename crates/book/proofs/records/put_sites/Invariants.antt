-- The records passed stand at the front of the table.
use Prim.Native.Nat.{◌-◌, ◌≤◌}
use mathlib.Core.Path.{◌≡◌}
use lib.Seq.{sets}
use Rattle.definition.specs.Bytes.{site_record}
use Rattle.definition.specs.Lists.{upto, flat}
use Rattle.book.proofs.records.put_sites.Given as goal

abbrev pub invariant-loop-s : goal.invariant-loop-s
invariant-loop-s l = (l.s ≤ l.count) × (l.sites ≡ sets l.initial.sites 0 (flat (site_record l.book) (upto l.s)))

abbrev pub decreases-loop-s : goal.decreases-loop-s
decreases-loop-s l = l.count - l.s
