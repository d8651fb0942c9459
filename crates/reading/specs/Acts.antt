-- What a reader of trees is after it was told of a tree's parts, in their order.
use Rattle.std.specs.Prelude.{List, ℕ, ◌+◌}
use Rattle.std.proofs.Math.Option.{Option}
use Rattle.definition.specs.Book.{Pattern}
use Rattle.definition.specs.Tree.{Block, Flow, Arms, end, step, match, equal, return, no_arms, arm}

-- A reader S answers with a mark M where something is entered, and is given it back where that is left.
-- Steps and arms come with their number; an arm also with the source of its Match
pub record Acts (S M : Type 0) : Type 0 where
  pub lets : S → ℕ → List ℕ → S
  pub matches : S → ℕ → S × M
  pub arm_of : S → ℕ → ℕ → Pattern × List (Option ℕ) → S × M
  pub equals : S → ℕ → ℕ → S × M
  pub returns : S → ℕ → ℕ → ℕ → S
  pub leaves : S → M → S

module _ {S M : Type 0} (a : Acts S M) where
  unfoldable mutual
    -- of the steps of a block, the first with number i
    pub steps_after : ℕ → S → Block → S
    steps_after i s end = s
    steps_after i s (step l f k) = steps_after (i + 1) (flow_after (a.lets s i l) f) k

    pub flow_after : S → Flow → S
    flow_after s (match x as') = a.leaves (arms_after x 1 (a.matches s x).0 as') (a.matches s x).1
    flow_after s (equal x y k) = a.leaves (steps_after 1 (a.equals s x y).0 k) (a.equals s x y).1
    flow_after s (return i p r) = a.returns s i p r

    -- of the arms of a Match with source x, the first with number i
    pub arms_after : ℕ → ℕ → S → Arms → S
    arms_after x i s no_arms = s
    arms_after x i s (arm p ps k as') = arms_after x (i + 1) (a.leaves (steps_after 1 (a.arm_of s i x (p, ps)).0 k) (a.arm_of s i x (p, ps)).1) as'

  abbrev pub block_after : S → Block → S
  block_after s k = steps_after 1 s k

  -- of step i, and of arm i
  abbrev pub step_after : ℕ → S → List ℕ × Flow → S
  step_after i s x = flow_after (a.lets s i x.0) x.1

  abbrev pub arm_after : ℕ → ℕ → S → (Pattern × List (Option ℕ)) × Block → S
  arm_after x i s b = a.leaves (block_after (a.arm_of s i x b.0).0 b.1) (a.arm_of s i x b.0).1
