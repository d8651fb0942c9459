-- What `plan` answers, and the room that it leaves.
use Rattle.std.specs.Prelude.{◌≡◌, List, ℕ, Result}
use Rattle.definition.specs.Answers.{Outcome}
use Rattle.refusal.specs.declared.Refusal.{Refusal}
use Rattle.refusal.specs.Numbers.{told}

-- r and m are the outcome's answer and room
pub record Leaves (o : Outcome) (r : Result ℕ Refusal) (m : List ℕ) : Type 0 where
  pub answer : told (λ n. n) r ≡ o.answer
  pub room : m ≡ o.room
