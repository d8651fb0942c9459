-- `put_return` meets its contract: text behind text.
use Rattle.definition.specs.Listing.{return_line, field}
use Rattle.room.proofs.Written.{writes_then}
use borrow.Author.Rules.{rules}
use Rattle.line.proofs.put_return.Goals as goal

pub returns : goal.returns
unfolding return_line field
returns c = search (rules, writes_then)
