-- Laws of the ranges `from` and `upto`: their length and entries, and, as a loop over 0, 1, .. meets them, one more turn.
use Rattle.std.specs.Prelude.{◌≡◌, refl, Bool, true, false, List, [], ◌∷◌, ◌++◌, map, ℕ, zero, suc, ◌+◌, ◌<◌, length, get_or}
use Rattle.std.proofs.Common.{sym, ◌∙◌, ap, arith, add-zero, add-one}
use Rattle.definition.specs.Lists.{from, upto, keep, filter}

from_next : (a n : ℕ) → from a (suc n) ≡ from a n ++ ((a + n) ∷ [])
from_next a zero = ap (λ (k : ℕ). k ∷ []) (sym (add-zero a))
from_next a (suc n) = ap (λ (l : List ℕ). a ∷ l) (from_next (suc a) n ∙ ap (λ (k : ℕ). from (suc a) n ++ (k ∷ [])) (omega arith))

pub from_more : (a n : ℕ) → from a (n + 1) ≡ from a n ++ ((a + n) ∷ [])
from_more a n = rw add-one (from_next a n)

pub upto_more : (n : ℕ) → upto (n + 1) ≡ upto n ++ (n ∷ [])
upto_more n = let e : 0 + n ≡ n = omega arith in rw add-one (rw e at (from_next 0 n))

pub from_length : (k n : ℕ) → length (from k n) ≡ n
from_length k zero = refl
from_length k (suc n) = ap suc (from_length (suc k) n)

pub from_at : (k n i : ℕ) → i < n → get_or (from k n) i 0 ≡ k + i
from_at k zero i h = absurd (omega arith)
from_at k (suc n) zero h = omega arith
from_at k (suc n) (suc i) h = from_at (suc k) n i (omega arith) ∙ omega arith

-- entry i of what f makes of a range
pub map_at : {A : Type 0} (f : ℕ → A) (k n i : ℕ) (d : A) → i < n → get_or (map f (from k n)) i d ≡ f (k + i)
map_at f k zero i d h = absurd (omega arith)
map_at f k (suc n) zero d h = ap f (omega arith)
map_at f k (suc n) (suc i) d h = map_at f (suc k) n i d (omega arith) ∙ ap f (omega arith)

module _ {A : Type 0} (p : A → Bool) where
  keep_append : (t : Bool) (x : A) (xs ys : List A) → keep t x (xs ++ ys) ≡ keep t x xs ++ ys
  keep_append true x xs ys = refl
  keep_append false x xs ys = refl

  pub filter_append : (xs ys : List A) → filter p (xs ++ ys) ≡ filter p xs ++ filter p ys
  filter_append [] ys = refl
  filter_append (x ∷ xs) ys = ap (keep (p x) x) (filter_append xs ys) ∙ keep_append (p x) x (filter p xs) (filter p ys)

  -- where nothing passes, nothing is left
  pub filter_none : ((x : A) → p x ≡ false) → (xs : List A) → filter p xs ≡ []
  filter_none h [] = refl
  filter_none h (x ∷ xs) = rw (h x) (filter_none h xs)

pub filter_more : (p : ℕ → Bool) (n : ℕ) → filter p (upto (n + 1)) ≡ filter p (upto n) ++ keep (p n) n []
filter_more p n = ap (filter p) (upto_more n) ∙ filter_append p (upto n) (n ∷ [])
