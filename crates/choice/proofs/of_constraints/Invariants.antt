-- The loop's invariant: the greatest of `most` and the worth of the constraints from slot k on is the greatest.
use mathlib.Core.List.{map}
use Prim.Native.Nat.{◌-◌}
use Rattle.definition.specs.Lists.{from}
use Rattle.laws.specs.Greatest.{Climbed}
use Rattle.tables.specs.Held.{site_slot}
use Rattle.choice.specs.Worth.{worth_in, match_worth}
use Rattle.choice.proofs.of_constraints.Given as goal

abbrev pub invariant-loop-k : goal.invariant-loop-k
invariant-loop-k l = Climbed (match_worth (worth_in l.asked))
    (λ k. map (site_slot l.rule.words.now l.rule.id) (from k (l.n - k))) l.best l.k l.most
