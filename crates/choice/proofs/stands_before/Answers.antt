-- The closure asks whether an end is x.
use Rattle.std.proofs.Common.{rules}
use borrow.Author.Tests.{tests}
use lib.Dec.{eqb}
use Rattle.laws.specs.Ascending.{stands_in}
use Rattle.laws.specs.Chains.{any_mapped}
use Rattle.tables.specs.Held.{end_slot}
use Rattle.choice.proofs.stands_before.Goals as goal

pub returns : goal.returns
unfolding stands_in
returns c = any_mapped (eqb c.args.x) (end_slot c.args.rule.now.words.now c.args.rule.now.id) c.args.k c.any.ensures.ran
    (λ x b q k. search (rules, tests))
