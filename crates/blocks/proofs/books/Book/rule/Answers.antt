-- `Book::rule` hands out a rule that may be read, since refusal 5 let the table pass.
use Rattle.blocks.proofs.Ready.{rule_held}
use Rattle.blocks.proofs.books.Book.rule.Goals as goal

pub invariant_of-result : goal.invariant_of-result
invariant_of-result c = record { held = rule_held c.args.self.now _ c.requires }
