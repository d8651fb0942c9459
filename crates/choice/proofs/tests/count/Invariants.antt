-- The loop's invariant: n and those from k on that pass are all that pass.
use Rattle.laws.specs.Runs.{Tallied}
use Rattle.tables.specs.Held.{test_of}
use Rattle.order.specs.Parts.{passes_top}
use Rattle.choice.proofs.tests.count.Given as goal

abbrev pub invariant-loop-k : goal.invariant-loop-k
invariant-loop-k l = Tallied (passes_top l.asked.rules.now (test_of l.fn.test) l.top) l.asked.part.now l.k l.n
