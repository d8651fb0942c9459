-- `put_match` meets its contract: text behind text.
use Rattle.definition.specs.Listing.{match_line, field}
use Rattle.room.proofs.Written.{writes_then}
use borrow.Author.Rules.{rules}
use Rattle.line.proofs.put_match.Goals as goal

pub returns : goal.returns
unfolding match_line field
returns c = search (rules, writes_then)
