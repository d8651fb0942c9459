-- Each call of the closure renames one label.
use Rattle.std.proofs.Common.{rules}
use borrow.Author.Tests.{tests}
use Rattle.laws.specs.Loops.{relabel}
use Rattle.laws.specs.Maps.{map_of}
use Rattle.tables.proofs.relabelled.Goals as goal

pub returns : goal.returns
returns c = map_of (relabel c.args.from c.args.to) (λ x y q k. search (rules, tests)) c.map.ensures.items (search rules)
