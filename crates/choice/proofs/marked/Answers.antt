-- The loop keeps its invariant, and the contract follows from it at its end.
use mathlib.Core.Path.{refl, ap, ◌∙◌}
use Prim.Native.Nat.{◌+◌}
use Rattle.choice.proofs.Nearby.{byte_one, told_turn, told_ends}
use Rattle.choice.proofs.marked.Goals as goal

pub loop-k-preserved : goal.loop-k-preserved
loop-k-preserved c = let g = c.loop-k.invariant in
    (g.0, told_turn g.1 c.loop-k-test.true c.end_site.ensures refl (ap (λ z. c.loop-k.m + z) (c.from-m.ensures ∙ byte_one _)))

pub returns : goal.returns
returns c = told_ends _ _ _ c.loop-k.invariant.1 c.loop-k-test.false c.end_count-n.ensures.0
