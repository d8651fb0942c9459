-- `bound_of` meets its contract: the sites before `s-index` are ids, and asked how high they reach.
use Rattle.std.proofs.Common.{◌≡◌, drop}
use Rattle.definition.specs.Lists.{all}
use Rattle.definition.specs.Read.{id_ok}
use Rattle.reading.proofs.Reach.{Reached}
use Rattle.reading.proofs.bound_of.Given as goal

abbrev pub invariant-loop-s : goal.invariant-loop-s
invariant-loop-s l = Reached l.sites l.s-index l.bound × (all id_ok (drop l.s-index l.sites) ≡ all id_ok l.sites)
