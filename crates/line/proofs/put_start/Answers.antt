-- `put_start` meets its contract: text behind text.
use Rattle.definition.specs.Listing.{start}
use Rattle.room.proofs.Written.{writes_then}
use borrow.Author.Rules.{rules}
use Rattle.line.proofs.put_start.Goals as goal

pub returns : goal.returns
unfolding start
returns c = search (rules, writes_then)
