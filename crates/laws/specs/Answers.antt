-- Laws of a list of tests as code meets it: one that fails decides, the last is the answer.
use Rattle.std.specs.Prelude.{◌≡◌, refl, Bool, true, false, ◌&&◌, List, [], ◌∷◌, ℕ, zero, suc, get_or}
use Rattle.std.proofs.Common.{sym, true≢false}
use Rattle.definition.specs.Lists.{every}

pub and-true : (x : Bool) → x && true ≡ x
and-true true = refl
and-true false = refl

pub and-false : (x : Bool) → x && false ≡ false
and-false true = refl
and-false false = refl

pub and_assoc : (x y z : Bool) → x && (y && z) ≡ (x && y) && z
and_assoc true y z = refl
and_assoc false y z = refl

pub and_swap : (x y z w : Bool) → (x && y) && (z && w) ≡ (x && z) && (y && w)
and_swap true true z w = refl
and_swap true false z w = sym (and-false z)
and_swap false y z w = refl

-- the first of two tests decides, or leaves it to the second
pub and_first : {x : Bool} (y : Bool) → x ≡ false → x && y ≡ false
and_first y e = rw e

pub and_second : (x : Bool) {y : Bool} → y ≡ false → x && y ≡ false
and_second x e = rw e (and-false x)

pub and_rest : {x y r : Bool} → x ≡ true → y ≡ r → x && y ≡ r
and_rest e q = rw e q

-- the same for a list of tests: use these with `every` shut
pub every_stop : (xs : List Bool) (k : ℕ) → get_or xs k true ≡ false → every xs ≡ false
unfolding every
every_stop [] k e = absurd (true≢false e)
every_stop (x ∷ xs) zero e = rw e
every_stop (x ∷ xs) (suc k) e = and_second x (every_stop xs k e)

pub every_rest : {x r : Bool} (xs : List Bool) → x ≡ true → every xs ≡ r → every (x ∷ xs) ≡ r
unfolding every
every_rest xs e q = rw e q

pub every_one : (x : Bool) → every (x ∷ []) ≡ x
unfolding every
every_one x = and-true x
