use Rattle.std.proofs.Common.{rules, tests, sym, ◌∙◌}
use Rattle.definition.specs.Read.{place_ok, place_of}
use Rattle.laws.specs.Turns.{all_map}
use Rattle.reading.proofs.Tests.{all_items}
use Rattle.reading.proofs.are_places.Goals as goal

pub returns : goal.returns
returns c = all_items (λ w. place_ok (place_of w)) c.args.places.now c.all.ensures.ran c.iter.ensures.rest (λ x b q k. search (rules, tests)) ∙ sym (all_map place_ok place_of c.args.places.now)
