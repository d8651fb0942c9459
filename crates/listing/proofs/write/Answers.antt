-- `write` meets its contract: what the lister was told is written.
use borrow.Author.Rules.{rules}
use Rattle.listing.proofs.Folds.{told}
use Rattle.listing.proofs.write.Goals as goal

pub returns : goal.returns
returns c = told c.args.words.now _ c.read.new.reader c.root.ensures _ (λ same. search rules) c.read.result c.read.ensures
