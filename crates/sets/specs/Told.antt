-- What `told_of` tells of a `root` alone: the definition's answer, whatever the ranks.
use Rattle.std.specs.Prelude.{◌≡◌, Bool, List, ℕ, Result}
use Rattle.definition.specs.Answers.{same_answer}
use Rattle.refusal.specs.declared.Refusal.{Refusal}
use Rattle.refusal.specs.Numbers.{told}
use Rattle.sets.specs.View.{read}

pub record Tells (root : List ℕ) (x y : ℕ) (r : Result Bool Refusal) : Type 0 where
  pub answer : (rank : List ℕ) → told (λ b. b) r ≡ same_answer x y (read root rank)
