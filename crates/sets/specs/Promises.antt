-- What each public call promises: the definition's answer, the sets that are left, and the store as it came on a refusal.
-- `find` and `in_same_set` only read the store.
use Rattle.std.specs.Prelude.{◌≡◌, Bool, List, ◌++◌, ℕ, ◌-◌, length, replicate, Option, Some, None, Result}
use Rattle.std.proofs.Math.Option as math
use Rattle.std.proofs.Math.Option.{none, some}
use Rattle.definition.specs.Book.{most}
use Rattle.definition.specs.Sets.{Sets}
use Rattle.definition.specs.Answers.{Answer, refused, answered, done, find_answer, same_answer}
use Rattle.definition.specs.Answers.{merge_answer, merged_sets, remove_answer, sets_left}
use Rattle.refusal.specs.declared.Refusal.{Refusal}
use Rattle.refusal.specs.Numbers.{told}
use Rattle.sets.specs.declared.Store.{Store}
use Rattle.sets.specs.declared.Members.{Members}
use Rattle.sets.specs.View.{read}

abbrev pub view : Store → Sets
view s = read s.root s.rank

abbrev pub optional : Option ℕ → math.Option ℕ
optional None = none
optional (Some r) = some r

pub record Finds (s : Store) (x : ℕ) (r : Result (Option ℕ) Refusal) : Type 0 where
  pub answer : told optional r ≡ find_answer x (view s)

-- t is the store then
pub record Merges (s : Store) (x y : ℕ) (t : Store) (r : Result (Unit {0}) Refusal) : Type 0 where
  pub answer : told (λ _. done) r ≡ merge_answer x y
  pub sets : view t ≡ merged_sets x y (view s)
  pub kept : (n : ℕ) → merge_answer x y ≡ refused n → t ≡ s

pub record Sames (s : Store) (x y : ℕ) (r : Result Bool Refusal) : Type 0 where
  pub answer : told (λ b. b) r ≡ same_answer x y (view s)

-- the members stand ascending in front of zeros
abbrev pub padded : List ℕ → List ℕ
padded l = l ++ replicate (most - length l) 0

abbrev pub listed : List ℕ → Members
listed l = record { ids = padded l; count = length l }

abbrev pub listed_as : Answer (List ℕ) → Answer Members
listed_as (refused n) = refused n
listed_as (answered l) = answered (listed l)

pub record Removes (s : Store) (x : ℕ) (t : Store) (r : Result Members Refusal) : Type 0 where
  pub answer : told (λ m. m) r ≡ listed_as (remove_answer x (view s))
  pub sets : view t ≡ sets_left x (view s)
  pub kept : (n : ℕ) → remove_answer x (view s) ≡ refused n → t ≡ s
