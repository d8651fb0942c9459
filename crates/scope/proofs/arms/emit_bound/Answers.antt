-- The loop keeps its invariant, and the contract follows from it at the return.
use mathlib.Core.Path.{refl, sym, ◌∙◌}
use Rattle.definition.specs.Scope.{emit_bound}
use Rattle.scope.proofs.Sweeps.{sweep_hit, sweep_skip, sweep_ends}
use Rattle.scope.proofs.Binds.{bound_is}
use Rattle.scope.proofs.arms.emit_bound.Goals as goal
use Rattle.scope.proofs.arms.emit_bound.Goals.{then-is_bound, else-is_bound}

pub loop-x-preserved : goal.loop-x-preserved
loop-x-preserved c = λ b d.
    let here = bound_is b _ _ _ _ (d.at _ c.loop-x-test.true) (sym c.is_bound.ensures) in
    let so_far = c.loop-x.invariant b d in
    elim c.if-is_bound.branch [
      | then-is_bound w ↦ rw w.scope-is (sweep_hit so_far (here ∙ w.if-is_bound.true) refl)
      | else-is_bound w ↦ rw w.scope-is (sweep_skip so_far (here ∙ w.if-is_bound.false))
    ]

pub returns : goal.returns
unfolding emit_bound
returns c = λ b d. rw d.size (sweep_ends (c.loop-x.invariant b d) c.loop-x.auto.x-end c.loop-x-test.false)
