-- The greatest worth, read back, is the test that beats every other.
use mathlib.Core.Path.{ap, ◌∙◌}
use Rattle.choice.specs.Worth.{decoded}
use Rattle.choice.proofs.Answers.{part_alone}
use Rattle.choice.proofs.Whole.{found}
use Rattle.choice.proofs.best_control_flow.Goals as goal

pub returns : goal.returns
returns c = let d = c.args in
    found d.rules.now d.states.now d.root.now d.part.now (λ j. (c.type_inv.rules j).fits) _
    (c.decode.ensures ∙ ap decoded (c.best_worth.ensures ∙ part_alone d.rules.now d.states.now d.root.now d.part.now))
