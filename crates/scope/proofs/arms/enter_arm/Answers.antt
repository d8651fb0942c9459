-- `scope::arms::enter_arm` meets its contract: the two passes, one behind the other.
use mathlib.Core.Path.{◌∙◌, ap}
use Rattle.definition.specs.Scope.{worked_out}
use Rattle.scope.specs.States.{arm_bindings}
use Rattle.scope.proofs.arms.enter_arm.Goals as goal

pub returns : goal.returns
unfolding arm_bindings
returns c = λ b d.
    let e = c.emit_bound.ensures b d in
    let w = c.add_bindings.ensures b d in
    record { states = w.states ∙ ap (worked_out b) e.states; root = w.root ∙ e.root; rank = w.rank ∙ e.rank }
