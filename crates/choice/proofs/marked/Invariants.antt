-- The loop's invariant: m of the first k ends are marked.
use Prim.Native.Nat.{◌≤◌}
use Rattle.tables.specs.Held.{end_slot}
use Rattle.choice.proofs.Nearby.{MarkTold}
use Rattle.choice.proofs.marked.Given as goal

abbrev pub invariant-loop-k : goal.invariant-loop-k
invariant-loop-k l = (l.n ≤ 8) × MarkTold l.marks (end_slot l.rule.words.now l.rule.id) l.n l.k l.m
