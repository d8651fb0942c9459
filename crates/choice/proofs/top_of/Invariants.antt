-- The loop's invariant: the greatest of `most` and what is left is the greatest.
use lib.ListN.{drop}
use Rattle.laws.specs.Greatest.{Climbed}
use Rattle.choice.specs.Worth.{rank_above}
use Rattle.choice.proofs.top_of.Given as goal

abbrev pub invariant-loop-x : goal.invariant-loop-x
invariant-loop-x l = Climbed (rank_above l.asked.rules.now) (λ k. drop k l.asked.part.now) 0 l.x-index l.most
