-- `all_rules` meets its contract: the order is counted up.
use mathlib.Core.Path.{◌≡◌}
use lib.ListN.{length}
use Rattle.laws.specs.Loops.{Filled}
use Rattle.plan.proofs.all_rules.Given as goal

abbrev pub invariant-loop-i : goal.invariant-loop-i
invariant-loop-i l = Filled (λ k. k) l.i l.initial.order l.order × (length l.initial.order ≡ 252)
