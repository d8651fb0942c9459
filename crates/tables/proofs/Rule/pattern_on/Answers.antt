-- The first constraint on s has the pattern.
use Rattle.std.proofs.Common.{◌∙◌}
use Rattle.tables.proofs.Slots.{pattern_found, pattern_missing}
use Rattle.tables.proofs.Rule.pattern_on.Goals as goal

pub returns-in-Some : goal.returns-in-Some
returns-in-Some c = c.constraint_pattern.ensures ∙ pattern_found _ _ _ c.in-Some.ensures

pub returns-in-None : goal.returns-in-None
returns-in-None c = pattern_missing _ _ _ c.in-None.ensures
