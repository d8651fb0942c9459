-- What is bound where (document 01, "Walking"): up to each block's first Return no site may be used before it is bound.
use Rattle.std.specs.Prelude.{Bool, true, false, ◌&&◌, ◌||◌, List, [], ◌∷◌, ℕ, zero, suc, eqb, if◌then◌else◌}
use Rattle.std.proofs.Math.Option.{Option, none, some}
use Rattle.definition.specs.Lists.{◌is◌, all, any}
use Rattle.definition.specs.Book.{Book, site, rule}
use Rattle.definition.specs.Scope.{never_listed}
use Rattle.definition.specs.Tree.{Block, Flow, Arms, end, step, match, equal, return, no_arms, arm}

-- γ lists what lets and arms have bound. Site s is bound if it is one of those, or, if never listed, once its sources are.
-- The first number is above s: ids fall from site to source
unfoldable pub bound_below : ℕ → Book → List ℕ → ℕ → Bool
bound_below zero b γ s = false
bound_below (suc n) b γ s = any (eqb s) γ || (never_listed (site b s) && all (bound_below n b γ) (site b s).sources)

unfoldable pub is_bound : Book → List ℕ → ℕ → Bool
is_bound b γ s = bound_below (suc s) b γ s

-- a let binds its site, kind 7 never
unfoldable pub let_binds : Book → ℕ → List ℕ → List ℕ
let_binds b s γ = if (site b s).kind is 7 then γ else s ∷ γ

-- what is bound after a let list
abbrev pub grown : Book → List ℕ → List ℕ → List ℕ
grown b γ [] = γ
grown b γ (s ∷ l) = grown b (let_binds b s γ) l

-- a let uses its sources; lets come in listed order
abbrev pub lets_bound : Book → List ℕ → List ℕ → Bool
lets_bound b γ [] = true
lets_bound b γ (s ∷ l) = all (is_bound b γ) (site b s).sources && lets_bound b (let_binds b s γ) l

-- an arm binds the sites at its places
abbrev pub arm_binds : List (Option ℕ) → List ℕ → List ℕ
arm_binds [] γ = γ
arm_binds (none ∷ ps) γ = arm_binds ps γ
arm_binds (some s ∷ ps) γ = s ∷ arm_binds ps γ

abbrev pub is_return : Flow → Bool
is_return (match s as') = false
is_return (equal x y k) = false
is_return (return i p r) = true

-- a step's lets come first; a Match uses its source, an Equal both ids, a Return its rule's impure sites and result.
-- What is bound stays so to the end of its block; steps behind the first Return are not looked at
unfoldable mutual
  pub block_bound : Book → List ℕ → Block → Bool
  block_bound b γ end = true
  block_bound b γ (step l f k) =
      lets_bound b γ l && (flow_bound b (grown b γ l) f && (is_return f || block_bound b (grown b γ l) k))

  pub flow_bound : Book → List ℕ → Flow → Bool
  flow_bound b γ (match s as') = is_bound b γ s && arms_bound b γ as'
  flow_bound b γ (equal x y k) = is_bound b γ x && (is_bound b γ y && block_bound b γ k)
  flow_bound b γ (return i p r) = all (is_bound b γ) (rule b i).impure && is_bound b γ r

  pub arms_bound : Book → List ℕ → Arms → Bool
  arms_bound b γ no_arms = true
  arms_bound b γ (arm p ps k as') = block_bound b (arm_binds ps γ) k && arms_bound b γ as'
