-- Laws of a first answer: what a walk finds in one part, or where it finds none in the next.
use Rattle.std.specs.Prelude.{◌≡◌, refl, List, [], ◌∷◌, ◌++◌}
use Rattle.std.proofs.Math.Option.{Option, none, some}
use Rattle.definition.specs.Walk.{Hit, first_hit}

-- the first answer, or where it is none the second
abbrev pub or_else : {A : Type 0} → Option A → Option A → Option A
or_else (some h) o = some h
or_else none o = o

pub else_none : {A : Type 0} (o : Option A) → or_else o none ≡ o
else_none none = refl
else_none (some h) = refl

pub else_assoc : {A : Type 0} (a b c : Option A) → or_else a (or_else b c) ≡ or_else (or_else a b) c
else_assoc none b c = refl
else_assoc (some h) b c = refl

pub first_hit_append : (xs ys : List Hit) → first_hit (xs ++ ys) ≡ or_else (first_hit xs) (first_hit ys)
first_hit_append [] ys = refl
first_hit_append (x ∷ xs) ys = refl
