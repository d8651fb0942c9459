use mir.Facts.{to_z-of_z}
use mir.Syntax.{w32}
use Rattle.definition.specs.Read.{read_pattern, read_places}
use Rattle.reading.proofs.pattern.Goals as goal

pub returns : goal.returns
unfolding read_pattern read_places
returns c = rw (c.in_ok-kind.ensures, c.in_ok-fields.ensures, c.in_ok-word.ensures, ← c.if-not-pattern_ok.ensures, c.in_ok-places.ensures.read, ← c.if-not-are_places.ensures, c.in_ok-places.ensures.counted, to_z-of_z {w = w32} {z = c.signed_of.result} (record { sfits = c.signed_of.type_inv }), c.signed_of.ensures)
