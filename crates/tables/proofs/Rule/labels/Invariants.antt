-- The loop's invariant: the pairs from slot k on are joined.
use Rattle.std.proofs.Common.{◌≡◌, ◌-◌, ◌≤◌}
use Rattle.definition.specs.Book.{slots}
use Rattle.definition.specs.Tables.{rule_word}
use Rattle.tables.specs.Held.{Labels}
use Rattle.tables.proofs.Rule.labels.Given as goal

abbrev pub invariant-loop-k : goal.invariant-loop-k
invariant-loop-k l = (l.k ≤ l.n) × ((l.n ≡ rule_word slots l.self.words.now l.self.id 4) × ((l.n ≤ 4) × Labels l.self.words.now l.self.id (l.n - l.k) l.l))
