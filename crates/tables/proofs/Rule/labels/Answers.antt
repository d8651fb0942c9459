-- One pair more is joined in each turn, that in slot k - 1.
use Rattle.std.proofs.Common.{◌-◌, arith}
use Rattle.tables.proofs.Slots.{label_turn, labels_now}
use Rattle.tables.proofs.Rule.labels.Goals as goal

pub loop-k-preserved : goal.loop-k-preserved
loop-k-preserved c =
    let v = c.loop-k in
    let g = v.invariant in
    let e = rw (← c.relabelled-l.ensures) at
    (label_turn _ _ {k = v.k - 1} g.1.1.1 (omega (arith, g.1.0, g.0, c.loop-k-test.true))
    (omega (arith, g.0, g.1.1.0, c.loop-k-test.true))) in
    (omega (arith, g.0), (g.1.0, (g.1.1.0, labels_now _ _ e (omega (arith, g.0, c.loop-k-test.true)))))
