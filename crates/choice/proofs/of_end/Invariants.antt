-- The loop's invariant: the greatest of `most` and the worth of x with the ends from k on is the greatest, and with an end
-- before k it is at most `most`.
use Rattle.definition.specs.Book.{slots}
use Rattle.definition.specs.Tables.{rule_at}
use Rattle.tables.specs.Held.{end_slot}
use Rattle.choice.specs.Worth.{worth_in, pair_worth}
use Rattle.laws.specs.Passing.{Passed}
use Rattle.choice.proofs.of_end.Given as goal

abbrev pub invariant-loop-k : goal.invariant-loop-k
invariant-loop-k l = Passed (pair_worth (worth_in l.asked) (rule_at slots l.rule.words.now l.rule.id) l.x)
    (end_slot l.rule.words.now l.rule.id) l.n l.best l.k l.most
