-- The loop keeps its invariant, and the contract follows from it where it stops and at its end.
use Rattle.std.proofs.Common.{sym, ◌∙◌, get_or}
use Rattle.definition.specs.Read.{id_ok}
use Rattle.laws.specs.Asks.{all_pass, all_fail, all_end}
use Rattle.laws.specs.Runs.{in_slice}
use Rattle.reading.proofs.Reach.{reach_starts, reach_turn, reach_ends}
use Rattle.reading.proofs.Readers.{id_yes, id_no}
use Rattle.reading.proofs.bound_of.Goals as goal
use mathlib.Core.Path.{refl}

pub loop-s-init : goal.loop-s-init
loop-s-init c = (reach_starts, refl)

pub returns-then-s-gt-LAST : goal.returns-then-s-gt-LAST
returns-then-s-gt-LAST c =
    let v = c.loop-s in
    let t = c.args.sites.now in
    sym v.invariant.1 ∙ all_fail (in_slice t) id_ok v.s-index c.loop-s-test.true (id_no (get_or t v.s-index 0) c.if-s-gt-LAST.true)

pub loop-s-preserved : goal.loop-s-preserved
loop-s-preserved c =
    let v = c.loop-s in
    let t = c.args.sites.now in (
      reach_turn v.invariant.0 c.loop-s-test.true c.max-bound.ensures,
      all_pass (in_slice t) id_ok v.s-index c.loop-s-test.true (id_yes (get_or t v.s-index 0) c.if-s-gt-LAST.false) ∙ v.invariant.1,
    )

pub returns : goal.returns
returns c =
    let v = c.loop-s in (
      sym v.invariant.1 ∙ all_end (in_slice c.args.sites.now) id_ok v.s-index c.loop-s-test.false,
      reach_ends v.invariant.0 c.loop-s-test.false,
    )
