-- `put_equal` meets its contract: text behind text.
use Rattle.definition.specs.Listing.{equal_line, field}
use Rattle.room.proofs.Written.{writes_then}
use borrow.Author.Rules.{rules}
use Rattle.line.proofs.put_equal.Goals as goal

pub returns : goal.returns
unfolding equal_line field
returns c = search (rules, writes_then)
