-- The rules that are not near lack every pair of the rule, so those near decide.
use mathlib.Core.Path.{ap, ◌∙◌}
use Prim.Native.Nat.{max}
use Rattle.choice.proofs.Nearby.{near_worth, near_parts, no_pairs}
use Rattle.choice.proofs.of_near.Goals as goal

pub returns-then-end_count-eq0 : goal.returns-then-end_count-eq0
returns-then-end_count-eq0 c = no_pairs _ _ _ _ c.end_count.ensures.0 c.if-end_count-eq0.true

pub invariant_of-of_pairs : goal.invariant_of-of_pairs
invariant_of-of_pairs c = record { parts = near_parts _ c.args.asked.now.parts c.sharing-near.ensures.front }

pub returns : goal.returns
returns c =
    let a = c.args.asked.now in
    let n = c.sharing-near.ensures in
    let same = c.requires.1.0 in
    c.of_pairs.ensures ∙ ap (max c.args.best)
    (rw same
    (near_worth (rw same at c.marks_of-marks.ensures) a.states.now a.root.now a.part.now a.bar n.front
    (c.max.ensures ∙ ap (max a.bar) n.raises)))
