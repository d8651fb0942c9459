-- The loop's invariant: the first k ends are marked.
use Rattle.choice.proofs.Nearby.{Marking}
use Rattle.choice.proofs.marks_of.Given as goal

abbrev pub invariant-loop-k : goal.invariant-loop-k
invariant-loop-k l = Marking l.rule.words.now l.rule.id l.k l.marks
