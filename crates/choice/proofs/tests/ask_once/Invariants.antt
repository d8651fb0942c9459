-- The loop's invariant: the marks of the first k places are told, and the rules of theirs that lack the test have raised `top`.
use mathlib.Core.Path.{◌≡◌}
use mathlib.Core.Bool.{false}
use Prim.Native.Nat.{ℕ, ◌<◌}
use lib.ListN.{length, get_or}
use Rattle.tables.specs.Held.{rank_of, test_of}
use Rattle.order.specs.Parts.{rule_tests}
use Rattle.order.proofs.Asks.{Lacked}
use Rattle.choice.proofs.tests.ask_once.Given as goal

abbrev pub invariant-loop-k : goal.invariant-loop-k
invariant-loop-k l =
    (length l.had ≡ 252)
    × ((j : ℕ) → j < l.k → get_or l.had j false ≡ rule_tests l.asked.rules.now (test_of l.test) (get_or l.asked.part.now j 0))
    × Lacked (rule_tests l.asked.rules.now (test_of l.test)) (rank_of l.asked.rules.now) l.asked.part.now l.k l.top
