-- The loop keeps its invariant, and the contract follows from it at a site that stands there.
use mathlib.Core.Path.{sym, ◌∙◌}
use native.Mathlib.Omega.{arith}
use Rattle.scope.proofs.Drawings.{site_same}
use Rattle.scope.proofs.Binds.{bound_kind, stands_here, stands_elsewhere, not_bound, seeking_starts, seeking_skip, seeking_hit}
use Rattle.scope.proofs.arms.find_binding.Goals as goal
use Rattle.scope.proofs.arms.find_binding.Goals.{else-is_bound-via-then-is_bound+else-bound_position-k}
use Rattle.scope.proofs.arms.find_binding.Goals.{else-is_bound-via-else-is_bound}

pub loop-x-init : goal.loop-x-init
loop-x-init c = λ b d. seeking_starts d.size

pub bound_position-requires : goal.bound_position-requires
bound_position-requires c =
    let bound = sym c.is_bound.ensures ∙ c.if-is_bound.true in
    rw (site_same c.site.ensures) (bound_kind _ _ _ bound)

pub returns-then-bound_position-k : goal.returns-then-bound_position-k
returns-then-bound_position-k c = λ b d.
    let bound = sym c.is_bound.ensures ∙ c.if-is_bound.true in
    let here = sym (rw (site_same c.site.ensures) at c.bound_position.ensures) ∙ c.if-bound_position-k.true in
    seeking_hit (c.loop-x.invariant b d) c.loop-x-test.true (stands_here b _ _ _ _ (d.at _ c.loop-x-test.true) bound here)

pub loop-x-preserved : goal.loop-x-preserved
loop-x-preserved c = λ b d.
    let at = d.at _ c.loop-x-test.true in
    let skip = seeking_skip (c.loop-x.invariant b d) c.loop-x-test.true in
    elim c.else-is_bound.branch [
      | else-is_bound-via-then-is_bound+else-bound_position-k w ↦
          let position = rw (site_same w.site.ensures) at w.bound_position.ensures in
          skip (stands_elsewhere b _ _ _ _ at (λ q. omega (arith, position, w.if-bound_position-k)))
      | else-is_bound-via-else-is_bound w ↦ skip (not_bound b _ _ _ _ at (sym c.is_bound.ensures ∙ w.if-is_bound.false))
    ]
