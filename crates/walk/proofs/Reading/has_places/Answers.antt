-- `has_places` meets its contract: the reading has each site that is placed.
use Rattle.std.proofs.Common.{rules, tests, length, ◌∙◌, map, [], ◌∷◌}
use Rattle.definition.specs.Lists.{◌below◌, all}
use Rattle.definition.specs.Read.{place_of}
use Rattle.definition.specs.Walk.{placed_in}
use Rattle.reading.proofs.Tests.{all_items}
use Rattle.walk.proofs.Tests.{placed_each}
use Rattle.walk.proofs.Reading.has_places.Goals as goal

pub returns : goal.returns
returns c =
    all_items (λ w. all (λ s. s below (length c.args.self.now.kinds)) (placed_in (map place_of (w ∷ [])))) c.args.places.now c.all.ensures.ran c.iter.ensures.rest (λ x b q k. search (rules, tests))
    ∙ placed_each (λ s. s below (length c.args.self.now.kinds)) c.args.places.now
