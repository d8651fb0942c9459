-- The loop's invariant: the greatest of `most` and the worth of the ends from k on is the greatest, and that of an end before
-- k is at most `most`.
use Rattle.tables.specs.Held.{end_slot}
use Rattle.choice.specs.Worth.{worth_in, end_worth}
use Rattle.laws.specs.Passing.{Passed}
use Rattle.choice.proofs.of_pairs.Given as goal

abbrev pub invariant-loop-k : goal.invariant-loop-k
invariant-loop-k l = Passed (end_worth (worth_in l.asked) l.rule.words.now l.rule.id)
    (end_slot l.rule.words.now l.rule.id) l.n l.best l.k l.most
