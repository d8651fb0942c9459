-- The classes joined on the path, as the scope's store of sets has them; and which scope of the code is which of the definition.
use Rattle.std.specs.Prelude.{◌≡◌, List, ◌∷◌, ℕ, set}
use Rattle.definition.specs.Lists.{◌is◌}
use Rattle.definition.specs.Book.{Pair, linked}
use Rattle.definition.specs.Sets.{Class, unmerged, in_set}
use Rattle.definition.specs.Scope as plan
use Rattle.definition.specs.Scope.{matched}
use Rattle.sets.specs.View.{read, Made}
use Rattle.scope.specs.declared.Scope.{Scope}

-- an id's label: the representative of its set, or itself where it is in none
abbrev pub label_in : Class → ℕ → ℕ
label_in unmerged z = z
label_in (in_set r k) z = r

-- a store of these roots and ranks has the classes of the pairs
pub record Joined (ps : List Pair) (root rank : List ℕ) : Type 0 where
  pub made : Made root rank
  pub agree : (u v : ℕ) → label_in (read root rank u) u is label_in (read root rank v) v ≡ linked ps u v

-- r is s with one pair more
pub record Joins (x y : ℕ) (s r : Scope) : Type 0 where
  pub states : r.states ≡ s.states
  pub classes : (ps : List Pair) → Joined ps s.root s.rank → Joined (record { a = x; b = y } ∷ ps) r.root r.rank

-- σ with x Matched, as the arms of a Match on x share it
abbrev pub matching : plan.Scope → ℕ → plan.Scope
matching σ x = record { states = set σ.states x matched; joined = σ.joined }

-- the scope s is the definition's scope σ
pub record Stands (σ : plan.Scope) (s : Scope) : Type 0 where
  pub states : s.states ≡ σ.states
  pub classes : Joined σ.joined s.root s.rank
