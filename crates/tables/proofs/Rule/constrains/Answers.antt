-- The closure asks whether a constraint is on s.
use Rattle.std.proofs.Common.{rules, ◌∙◌}
use borrow.Author.Tests.{tests}
use Rattle.definition.specs.Book.{slots, is_on}
use Rattle.definition.specs.Tables.{constraint_at}
use Rattle.laws.specs.Chains.{any_mapped}
use Rattle.tables.proofs.Slots.{constrains_all}
use Rattle.tables.proofs.Rule.constrains.Goals as goal

pub returns : goal.returns
unfolding is_on constraint_at
returns c = let d = c.args in
    any_mapped (is_on d.s) (constraint_at slots d.self.now.words.now d.self.now.id) c.constraint_count-n.result c.any.ensures.ran
    (λ x b q k. search (rules, tests))
    ∙ constrains_all _ _ _ c.constraint_count-n.ensures.0
