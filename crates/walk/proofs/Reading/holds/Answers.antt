-- `holds` meets its contract: kind and number agree.
use Rattle.definition.specs.Walk.{holds}
use borrow.Author.Tests.{eq-eqb, ne_eqb}
use Rattle.walk.proofs.Tests.{same_is}
use Rattle.walk.proofs.Reading.holds.Goals as goal

pub returns-then-kind_at-kind : goal.returns-then-kind_at-kind
unfolding holds
returns-then-kind_at-kind c =
    rw (← c.kind_at.ensures, eq-eqb c.kind_at.result c.args.kind c.if-kind_at-kind.true, ← c.number_at.ensures)
    (same_is c.number_at.result c.args.number (record { sfits = c.number_at.type_inv }) c.ranges.number)

pub returns-else-kind_at-kind : goal.returns-else-kind_at-kind
unfolding holds
returns-else-kind_at-kind c = rw (← c.kind_at.ensures, ne_eqb c.kind_at.result c.args.kind c.if-kind_at-kind.false)
