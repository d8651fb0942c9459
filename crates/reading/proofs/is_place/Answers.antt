use Rattle.reading.proofs.Tests.{place_is}
use Rattle.reading.proofs.is_place.Goals as goal

pub returns-else-w-eq-EMPTY : goal.returns-else-w-eq-EMPTY
returns-else-w-eq-EMPTY c = place_is c.args.w c.if-w-eq-EMPTY.false
