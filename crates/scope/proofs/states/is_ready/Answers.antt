-- `scope::states::is_ready` meets its contract: a site that is not Unavailable is not ready; the check finds the rest.
use mathlib.Core.Path.{sym}
use native.Mathlib.Omega.{arith}
use Rattle.scope.proofs.Sweeps.{ready_there}
use Rattle.scope.proofs.states.is_ready.Goals as goal

pub returns-then-states-x-ne-UNAVAILABLE : goal.returns-then-states-x-ne-UNAVAILABLE
returns-then-states-x-ne-UNAVAILABLE c =
    λ b d. sym (ready_there d _ _ c.requires (λ q. omega (arith, c.if-states-x-ne-UNAVAILABLE.true)))
