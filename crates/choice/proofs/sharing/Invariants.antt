-- The loop's invariant: the near ones of the rules so far stand in front, and the others of them have raised the bar.
use Rattle.tables.specs.Held.{rank_of}
use Rattle.order.proofs.Asks.{Lacked}
use Rattle.choice.specs.Worth.{is_near}
use Rattle.choice.proofs.Nearby.{Sharing}
use Rattle.choice.proofs.sharing.Given as goal

abbrev pub invariant-loop-x : goal.invariant-loop-x
invariant-loop-x l = Sharing (is_near l.asked.rules.now l.marks) l.asked.part.now l.x-index l.n l.ids
    × Lacked (is_near l.asked.rules.now l.marks) (rank_of l.asked.rules.now) l.asked.part.now l.x-index l.bar
