-- The loop keeps its invariant, and the contract follows from it at its end.
use mathlib.Core.Path.{sym}
use lib.ListN.{length}
use borrow.Author.Tests.{eqb-false}
use Rattle.room.proofs.Written.{each_turn, each_whole, writes_then, writes_as}
use Rattle.line.proofs.Writing.{all_said}
use Rattle.line.proofs.put_places.Goals as goal

pub loop-place-preserved : goal.loop-place-preserved
loop-place-preserved c = each_turn c.loop-place.invariant c.loop-place-test.true c.put_place.ensures

pub returns : goal.returns
returns c =
    let some = eqb-false (length c.args.places.now) 0 (sym c.if-is_empty.ensures) in
    let all = each_whole c.loop-place.invariant c.loop-place-test.false in
    writes_as (writes_then c.put_text.ensures all) (all_said c.args.places.now some)
