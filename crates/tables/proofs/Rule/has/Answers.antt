-- The two kinds of test.
use Rattle.definition.specs.Choice.{has}
use Rattle.tables.proofs.Rule.has.Goals as goal

pub returns-in-On : goal.returns-in-On
unfolding has
returns-in-On c = rw c.in-On.is c.constrains.ensures

pub returns-in-Same : goal.returns-in-Same
unfolding has
returns-in-Same c = rw c.in-Same.is c.links.ensures
