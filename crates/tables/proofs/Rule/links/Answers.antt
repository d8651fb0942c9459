-- A site that is in no pair is alone in its class; of two that are, the labels decide.
use Rattle.std.proofs.Common.{sym}
use Rattle.tables.proofs.Ends.{linked_self, no_first_end, no_second_end}
use Rattle.tables.proofs.Slots.{labels_tell}
use Rattle.tables.proofs.Rule.links.Goals as goal

pub returns-then-x-y : goal.returns-then-x-y
returns-then-x-y c = sym (linked_self _ _ _ c.if-x-y.true)

pub returns-in_default : goal.returns-in_default
returns-in_default c = sym (no_first_end _ _ _ c.if-x-y.false c.in_default.ensures)

pub returns-in_default-end_of : goal.returns-in_default-end_of
returns-in_default-end_of c = sym (no_second_end _ _ _ c.if-x-y.false c.in_default-end_of.ensures)

pub returns : goal.returns
returns c = labels_tell _ _ c.labels-l.ensures c.in-Some.ensures c.in-Some-end_of.ensures
