-- `has_all` meets its contract: the reading has each site.
use Rattle.std.proofs.Common.{rules, tests, length}
use Rattle.definition.specs.Lists.{◌below◌}
use Rattle.reading.proofs.Tests.{all_items}
use Rattle.walk.proofs.Reading.has_all.Goals as goal

pub returns : goal.returns
returns c = all_items (λ s. s below (length c.args.self.now.kinds)) c.args.sites.now c.all.ensures.ran c.iter.ensures.rest (λ x b q k. search (rules, tests))
