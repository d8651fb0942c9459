-- The three words of the pattern.
use Rattle.std.proofs.Common.{◌∙◌, ap, w32, to_z-of_z}
use Rattle.tables.proofs.Signs.{signed_is}
use Rattle.tables.proofs.Slots.{slot_shown}
use Rattle.definition.specs.Tables.{signed}
use Rattle.tables.proofs.Rule.constraint_pattern.Goals as goal

pub returns : goal.returns
returns c = slot_shown _ _ c.args.k _ c.word.ensures c.word-3.ensures
    (to_z-of_z {w = w32} (record { sfits = c.cast_signed.type_inv }) ∙ c.cast_signed.ensures
    ∙ signed_is _ c.word-2.type_inv ∙ ap signed c.word-2.ensures)
