-- The records passed stand at the front of the table.
use Prim.Native.Nat.{◌-◌, ◌≤◌}
use mathlib.Core.Path.{◌≡◌}
use lib.Seq.{sets}
use Rattle.definition.specs.Book.{slots}
use Rattle.definition.specs.Bytes.{rule_record}
use Rattle.definition.specs.Lists.{upto, flat}
use Rattle.book.proofs.records.put_rules.Given as goal

abbrev pub invariant-loop-i : goal.invariant-loop-i
invariant-loop-i l = (l.i ≤ l.count) × (l.rules ≡ sets l.initial.rules 0 (flat (rule_record slots l.sites l.book) (upto l.i)))

abbrev pub decreases-loop-i : goal.decreases-loop-i
decreases-loop-i l = l.count - l.i
