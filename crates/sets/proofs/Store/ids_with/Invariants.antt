-- `sets::Store::ids_with` meets its contract: before turn i the ids below i whose entry is `entry` stand at the front.
use Prim.Native.Nat.{ℕ, ◌≤◌}
use Rattle.laws.specs.Loops.{Collected}
use Rattle.sets.specs.Entries.{ids_with}
use Rattle.sets.proofs.Store.ids_with.Given as goal

abbrev pub invariant-loop-id : goal.invariant-loop-id
invariant-loop-id l = (l.count ≤ l.id) × Collected {A = ℕ} 252 0 (ids_with l.entry l.self.root l.id) l.count l.ids
