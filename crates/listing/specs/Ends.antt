-- What `list` leaves for each of the definition's answers.
use Rattle.std.specs.Prelude.{◌≡◌, Bool, true, false, List, ℕ, Result}
use Rattle.std.proofs.Math.Option.{Option, none, some}
use Rattle.definition.specs.Answers.{Outcome}
use Rattle.refusal.specs.declared.Refusal.{Refusal}
use Rattle.refusal.specs.Numbers.{told}

-- r tells the outcome's answer, and m is its text
pub record Leaves (o : Outcome) (r : Result ℕ Refusal) (m : List ℕ) : Type 0 where
  pub answer : told (λ n. n) r ≡ o.answer
  pub text : m ≡ o.room

abbrev pub is_some : {A : Type 0} → Option A → Bool
is_some none = false
is_some (some a) = true
