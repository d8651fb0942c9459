-- `put_limit` meets its contract: text behind text.
use Rattle.definition.specs.Listing.{kind_text}
use Rattle.room.proofs.Written.{writes_then}
use borrow.Author.Rules.{rules}
use Rattle.line.proofs.put_limit.Goals as goal

pub returns : goal.returns
unfolding kind_text
returns c = search (rules, writes_then)
