-- Tests, comparisons, lists and ranges: the few words that every other file uses. Nothing here is about planning.
use Rattle.std.specs.Prelude.{Bool, true, false, ◌&&◌, ◌||◌, List, [], ◌∷◌, ◌++◌, ℤ, pos, negsuc, eqb, ltb, leb, if◌then◌else◌}
use Rattle.std.proofs.Math.Option.{Option, none, some}
use Prim.Native.Nat.{ℕ, zero, suc, compare, Ordering}
use Rattle.std.proofs.Math.Dec.{compare_is_eq}

-- TESTS. A test answers true or false
infix 68 ◌is◌
abbrev pub ◌is◌ : ℕ → ℕ → Bool
m is n = eqb m n

infix 68 ◌below◌
abbrev pub ◌below◌ : ℕ → ℕ → Bool
m below n = ltb m n

infix 68 ◌at_most◌
abbrev pub ◌at_most◌ : ℕ → ℕ → Bool
m at_most n = leb m n

-- if the first holds, so does the second
infixr 25 ◌implies◌
abbrev pub ◌implies◌ : Bool → Bool → Bool
true implies y = y
false implies y = true

-- all of them hold
unfoldable pub every : List Bool → Bool
every [] = true
every (x ∷ xs) = x && every xs

-- COMPARISONS. A comparison answers less, equal or greater; where the first says equal, the second decides
infixr 20 ◌and_then◌
abbrev pub ◌and_then◌ : Ordering → Ordering → Ordering
Ordering.lt and_then o = Ordering.lt
Ordering.eq and_then o = o
Ordering.gt and_then o = Ordering.gt

-- the first is less
abbrev pub is_less : Ordering → Bool
is_less Ordering.lt = true
is_less Ordering.eq = false
is_less Ordering.gt = false

-- signed numbers: `pos n` is n, `negsuc n` is - (n + 1)
abbrev pub compare_signed : ℤ → ℤ → Ordering
compare_signed (pos m) (pos n) = compare m n
compare_signed (pos m) (negsuc n) = Ordering.gt
compare_signed (negsuc m) (pos n) = Ordering.lt
compare_signed (negsuc m) (negsuc n) = compare n m

abbrev pub same_number : ℤ → ℤ → Bool
same_number m n = compare_is_eq (compare_signed m n)

-- RANGES: n numbers from k on, and the n numbers from 0 on
abbrev pub from : ℕ → ℕ → List ℕ
from k zero = []
from k (suc n) = k ∷ from (suc k) n

abbrev pub upto : ℕ → List ℕ
upto n = from 0 n

-- LISTS
abbrev pub empty : List ℕ → Bool
empty [] = true
empty (x ∷ xs) = false

-- the list begins with x
abbrev pub heads : ℕ → List ℕ → Bool
heads x [] = false
heads x (y ∷ ys) = y is x

module _ {A : Type 0} where
  -- x in front of xs, if the test says so
  abbrev pub keep : Bool → A → List A → List A
  keep true x xs = x ∷ xs
  keep false x xs = xs

  -- those that pass the test, in their order
  abbrev pub filter : (A → Bool) → List A → List A
  filter test [] = []
  filter test (x ∷ xs) = keep (test x) x (filter test xs)

  abbrev pub all : (A → Bool) → List A → Bool
  all test [] = true
  all test (x ∷ xs) = test x && all test xs

  abbrev pub any : (A → Bool) → List A → Bool
  any test [] = false
  any test (x ∷ xs) = test x || any test xs

  abbrev pub keep_first : Bool → A → Option A → Option A
  keep_first true x o = some x
  keep_first false x o = o

  -- the first that passes the test
  abbrev pub first : (A → Bool) → List A → Option A
  first test [] = none
  first test (x ∷ xs) = keep_first (test x) x (first test xs)

  -- x meets each of the list in turn, and of the two the better stays
  abbrev pub champion : (A → A → Bool) → A → List A → A
  champion better x [] = x
  champion better x (y ∷ ys) = champion better (if better y x then y else x) ys

module _ {A B : Type 0} where
  -- f x₁, then f x₂, .. in one list
  abbrev pub flat : (A → List B) → List A → List B
  flat f [] = []
  flat f (x ∷ xs) = f x ++ flat f xs

  -- f x₁ is done to b, then f x₂ to what came of it, ..
  abbrev pub each : (A → B → B) → List A → B → B
  each f [] b = b
  each f (x ∷ xs) b = each f xs (f x b)
