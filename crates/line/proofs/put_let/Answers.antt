-- `put_let` meets its contract: text behind text.
use Rattle.definition.specs.Listing.{let_line, field}
use Rattle.room.proofs.Written.{writes_then}
use borrow.Author.Rules.{rules}
use Rattle.line.proofs.put_let.Goals as goal

pub returns : goal.returns
unfolding let_line field
returns c = search (rules, writes_then)
