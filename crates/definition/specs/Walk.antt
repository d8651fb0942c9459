-- Readings, what matches, and the walk (document 01, "Walking").
use Rattle.std.specs.Prelude.{Bool, ◌&&◌, List, [], ◌∷◌, ◌++◌, ℕ, ℤ, pos, get_or, if◌then◌else◌}
use Rattle.std.proofs.Math.Option.{Option, none, some}
use Rattle.definition.specs.Lists.{◌is◌, same_number, all}
use Rattle.definition.specs.Book.{Pattern, Pair, Constraint, Book, rule}
use Rattle.definition.specs.Tree.{Block, Flow, Arms, end, step, match, equal, return, no_arms, arm}

-- A READING: for each site a pattern kind, a signed number and an identity
pub record Reading : Type 0 where
  pub kinds : List ℕ
  pub numbers : List ℤ
  pub identities : List ℕ

-- MATCHING. A constraint holds if kind and number agree
unfoldable pub holds : Reading → ℕ → Pattern → Bool
holds d s p = get_or d.kinds s 0 is p.kind && same_number (get_or d.numbers s (pos 0)) p.number

-- a pair holds if identities agree
unfoldable pub agree : Reading → ℕ → ℕ → Bool
agree d a b = get_or d.identities a 0 is get_or d.identities b 0

unfoldable pub constraint_holds : Reading → Constraint → Bool
constraint_holds d c = holds d c.site c.pattern

unfoldable pub pair_holds : Reading → Pair → Bool
pair_holds d p = agree d p.a p.b

-- a rule matches if all its constraints and pairs hold
unfoldable pub matches : Book → Reading → ℕ → Bool
matches b d i = all (constraint_holds d) (rule b i).constraints && all (pair_holds d) (rule b i).pairs

-- THE WALK. What a Return gives: rule and result
pub record Hit : Type 0 where
  pub rule : ℕ
  pub result : ℕ

-- all Returns met if none of them stopped the walk: steps in order, the first arm that holds, an Equal that holds
unfoldable mutual
  pub hits : Reading → Block → List Hit
  hits d end = []
  hits d (step l f k) = flow_hits d f ++ hits d k

  pub flow_hits : Reading → Flow → List Hit
  flow_hits d (match s as') = arm_hits d s as'
  flow_hits d (equal a b k) = if agree d a b then hits d k else []
  flow_hits d (return i p r) = record { rule = i; result = r } ∷ []

  pub arm_hits : Reading → ℕ → Arms → List Hit
  arm_hits d s no_arms = []
  arm_hits d s (arm p ps k as') = if holds d s p then hits d k else arm_hits d s as'

abbrev pub first_hit : List Hit → Option Hit
first_hit [] = none
first_hit (h ∷ hs) = some h

-- the walk stops at the first
unfoldable pub walk : Reading → Block → Option Hit
walk d k = first_hit (hits d k)

-- SITES NAMED by a tree: in lets, as sources, as a or b, at places, as results
abbrev pub placed_in : List (Option ℕ) → List ℕ
placed_in [] = []
placed_in (none ∷ ps) = placed_in ps
placed_in (some s ∷ ps) = s ∷ placed_in ps

unfoldable mutual
  pub sites_in : Block → List ℕ
  sites_in end = []
  sites_in (step l f k) = l ++ flow_sites f ++ sites_in k

  pub flow_sites : Flow → List ℕ
  flow_sites (match s as') = s ∷ arm_sites as'
  flow_sites (equal a b k) = a ∷ b ∷ sites_in k
  flow_sites (return i p r) = r ∷ []

  pub arm_sites : Arms → List ℕ
  arm_sites no_arms = []
  arm_sites (arm p ps k as') = placed_in ps ++ sites_in k ++ arm_sites as'
