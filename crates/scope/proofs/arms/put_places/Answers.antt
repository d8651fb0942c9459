-- The loop keeps its invariant, and the contract follows from it at the return.
use mathlib.Core.Path.{ap}
use Rattle.definition.specs.Tree.{place_word}
use Rattle.room.proofs.Written.{writing_turn, writing_ends}
use Rattle.scope.proofs.Binds.{places_are_words}
use Rattle.scope.proofs.arms.put_places.Goals as goal

pub loop-k-preserved : goal.loop-k-preserved
loop-k-preserved c = λ b d.
    let place = ap place_word (c.find_binding.ensures b d) in
    writing_turn (c.loop-k.invariant b d) c.loop-k-test.true place c.put_place.ensures

pub returns : goal.returns
returns c = λ b d. rw places_are_words (writing_ends (c.loop-k.invariant b d) c.loop-k-test.false)
