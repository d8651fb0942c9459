-- A tree of blocks and its words (document 01, "Tree words").
use Rattle.std.specs.Prelude.{List, [], ◌∷◌, ◌++◌, map, ℕ, suc, ◌-◌, ℤ, pos, negsuc, length}
use Rattle.std.proofs.Math.Option.{Option, none, some}
use Rattle.definition.specs.Book.{Pattern}

mutual
  -- a block is its steps: each with its let list and what it does, and the steps after it
  pub data Block : Type 0 where
    end : Block
    step : List ℕ → Flow → Block → Block

  -- a Match with its source and arms; an Equal with a, b and block; a Return with rule, pos and result
  pub data Flow : Type 0 where
    match : ℕ → Arms → Flow
    equal : ℕ → ℕ → Block → Flow
    return : ℕ → ℕ → ℕ → Flow

  -- an arm has a pattern, a place for each position of it, and a block. A place names a site or is empty
  pub data Arms : Type 0 where
    no_arms : Arms
    arm : Pattern → List (Option ℕ) → Block → Arms → Arms

-- blocks one inside another below the root: a rule has at most 4 constraints and 4 pairs
abbrev pub nesting : ℕ
nesting = 8

-- WORDS
-- a number is its two's complement in 32 bits
abbrev pub word : ℤ → ℕ
word (pos n) = n
word (negsuc n) = 0xFFFF_FFFF - n

abbrev pub empty_place : ℕ
empty_place = 65535

abbrev pub place_word : Option ℕ → ℕ
place_word none = empty_place
place_word (some s) = s

abbrev pub step_count : Block → ℕ
step_count end = 0
step_count (step l f k) = suc (step_count k)

abbrev pub arm_count : Arms → ℕ
arm_count no_arms = 0
arm_count (arm p ps k as') = suc (arm_count as')

-- let count, lets
unfoldable pub let_words : List ℕ → List ℕ
let_words l = length l ∷ l

-- pattern kind, field count, number, one word a position
unfoldable pub pattern_words : Pattern → List (Option ℕ) → List ℕ
pattern_words p ps = p.kind ∷ p.fields ∷ word p.number ∷ map place_word ps

-- words after this one, step count, steps
unfoldable pub block_words : ℕ → List ℕ → List ℕ
block_words n ws = suc (length ws) ∷ n ∷ ws

-- a step: lets, tag (0 Match, 1 Equal, 3 Return) and what belongs to it
unfoldable mutual
  pub step_words : Block → List ℕ
  step_words end = []
  step_words (step l f k) = let_words l ++ flow_words f ++ step_words k

  pub flow_words : Flow → List ℕ
  flow_words (match s as') = 0 ∷ s ∷ arm_count as' ∷ arm_words as'
  flow_words (equal a b k) = 1 ∷ a ∷ b ∷ block_words (step_count k) (step_words k)
  flow_words (return i p r) = 3 ∷ i ∷ p ∷ r ∷ []

  pub arm_words : Arms → List ℕ
  arm_words no_arms = []
  arm_words (arm p ps k as') = pattern_words p ps ++ block_words (step_count k) (step_words k) ++ arm_words as'

unfoldable pub words : Block → List ℕ
words k = block_words (step_count k) (step_words k)

-- RULES RETURNED: the rules of a block's Returns, in order
unfoldable mutual
  pub returned : Block → List ℕ
  returned end = []
  returned (step l f k) = flow_returned f ++ returned k

  pub flow_returned : Flow → List ℕ
  flow_returned (match s as') = arms_returned as'
  flow_returned (equal a b k) = returned k
  flow_returned (return i p r) = i ∷ []

  pub arms_returned : Arms → List ℕ
  arms_returned no_arms = []
  arms_returned (arm p ps k as') = returned k ++ arms_returned as'
