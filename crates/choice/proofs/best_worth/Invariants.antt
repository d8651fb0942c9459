-- The loop's invariant: the greatest of `most` and the worth of the rules that are left is the greatest.
use lib.ListN.{drop}
use Rattle.laws.specs.Greatest.{Climbed}
use Rattle.choice.specs.Worth.{worth_in, rule_worth}
use Rattle.choice.proofs.best_worth.Given as goal

abbrev pub invariant-loop-x : goal.invariant-loop-x
invariant-loop-x l = Climbed (rule_worth (worth_in l.asked) l.asked.rules.now l.top)
    (λ k. drop k l.asked.part.now) 0 l.x-index l.most
