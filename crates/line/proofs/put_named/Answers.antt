-- `put_named` meets its contract: text behind text.
use Rattle.room.proofs.Written.{writes_then}
use borrow.Author.Rules.{rules}
use Rattle.line.proofs.put_named.Goals as goal

pub returns : goal.returns
returns c = search (rules, writes_then)
