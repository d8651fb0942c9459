-- `put_degrees` meets its contract: text behind text.
use Rattle.definition.specs.Listing.{degrees}
use Rattle.room.proofs.Written.{writes_then}
use borrow.Author.Rules.{rules}
use Rattle.line.proofs.put_degrees.Goals as goal

pub returns : goal.returns
unfolding degrees
returns c = rw (← c.magnitude-size.ensures) (search (rules, writes_then))
