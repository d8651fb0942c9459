-- Laws of tests: what two or more of them together say.
use Rattle.std.specs.Prelude.{◌≡◌, refl, ◌⊎◌, Bool, true, false, ◌&&◌, ◌||◌, List, [], ◌∷◌, ℕ, zero, suc, ◌≤◌, ◌<◌, leb, get_or}
use Rattle.std.proofs.Common.{sym, ◌∙◌, inl, inr, true≢false, arith, eqb-true, eq-eqb, ne_eqb, leb-true, le-leb}
use Rattle.std.proofs.lemmas.Bool.{false≢true, eqb-false}
use Rattle.definition.specs.Lists.{◌is◌, ◌implies◌, every}

pub split : (x : Bool) → (x ≡ true) ⊎ (x ≡ false)
split true = inl refl
split false = inr refl

pub clash {ℓ} : {X : Type ℓ} {x : Bool} → x ≡ true → x ≡ false → X
clash p q = absurd (true≢false (sym p ∙ q))

-- two tests that imply each other are one
pub same_test : (x y : Bool) → (x ≡ true → y ≡ true) → (y ≡ true → x ≡ true) → x ≡ y
same_test true y f g = sym (f refl)
same_test false true f g = g refl
same_test false false f g = refl

-- EQUAL NUMBERS, either way round
pub is_sym : (m n : ℕ) → m is n ≡ n is m
is_sym m n = go (split (n is m))
  where
    go : (n is m ≡ true) ⊎ (n is m ≡ false) → m is n ≡ n is m
    go (inl e) = eq-eqb m n (sym (eqb-true n m e)) ∙ sym e
    go (inr e) = ne_eqb m n (λ q. eqb-false n m e (sym q)) ∙ sym e

-- two orders that agree
pub same_order : (x y u v : ℕ) → (x ≤ y → u ≤ v) → (u ≤ v → x ≤ y) → leb x y ≡ leb u v
same_order x y u v f g = go (split (leb x y)) (split (leb u v))
  where
    go : (leb x y ≡ true) ⊎ (leb x y ≡ false) → (leb u v ≡ true) ⊎ (leb u v ≡ false) → leb x y ≡ leb u v
    go (inl p) q = p ∙ sym (le-leb u v (f (leb-true x y p)))
    go (inr p) (inl q) = le-leb x y (g (leb-true u v q)) ∙ sym q
    go (inr p) (inr q) = p ∙ sym q

pub positive : (n : ℕ) → (n ≡ 0 → ⊥) → 0 < n
positive zero m = absurd (m refl)
positive (suc n) m = omega arith

-- AND
pub both : (x y : Bool) → x && y ≡ true → (x ≡ true) × (y ≡ true)
both true y e = (refl, e)
both false y e = absurd (false≢true e)

pub and : {x y : Bool} → x ≡ true → y ≡ true → x && y ≡ true
and p q = rw (p, q)

pub not_both : (x y : Bool) → x && y ≡ false → (x ≡ false) ⊎ ((x ≡ true) × (y ≡ false))
not_both true y e = inr (refl, e)
not_both false y e = inl refl

-- OR
pub one_of : (x y : Bool) → x || y ≡ true → (x ≡ true) ⊎ (y ≡ true)
one_of true y e = inl refl
one_of false y e = inr e

pub or_left : {x : Bool} (y : Bool) → x ≡ true → x || y ≡ true
or_left y p = rw p

pub or_right : (x : Bool) {y : Bool} → y ≡ true → x || y ≡ true
or_right true q = refl
or_right false q = q

pub neither : (x y : Bool) → x || y ≡ false → (x ≡ false) × (y ≡ false)
neither true y e = absurd (true≢false e)
neither false y e = (refl, e)

-- IMPLIES
pub implied : (x y : Bool) → x ≡ true → x implies y ≡ true → y ≡ true
implied true y p e = e
implied false y p e = absurd (false≢true p)

pub implies_true : (x : Bool) → (x implies true) ≡ true
implies_true true = refl
implies_true false = refl

-- EVERY, with `every` shut
pub every_at : (xs : List Bool) (k : ℕ) → every xs ≡ true → get_or xs k true ≡ true
unfolding every
every_at [] k e = refl
every_at (x ∷ xs) zero e = (both x (every xs) e).0
every_at (x ∷ xs) (suc k) e = every_at xs k (both x (every xs) e).1
