-- How high a list of sites reaches, asked of all of them at once, and found by a loop.
use Rattle.std.proofs.Common.{◌≡◌, ℕ, suc, ◌+◌, ◌<◌, ◌≤◌, max, true, false, List, [], ◌∷◌, refl, sym, ap, ◌∙◌, arith, length, get_or, drop, drop_of_length-le}
use mathlib.Core.Bool.{Bool, ◌&&◌}
use lib.Dec.{ltb, leb}
use borrow.Author.Tests.{lt-leb, le-leb, leb-true, leb-false, ltb-true, ltb-false}
use Rattle.definition.specs.Lists.{all}
use Rattle.laws.specs.Runs.{in_slice}
use Rattle.reading.specs.Bounds.{above}

pub above_all : (xs : List ℕ) (n : ℕ) → all (λ s. ltb s n) xs ≡ leb (above xs) n
unfolding above
above_all [] n = sym (le-leb 0 n (omega arith))
above_all (x ∷ xs) n = ap (λ (b : Bool). ltb x n && b) (above_all xs n) ∙ go (ltb x n) refl (leb (above xs) n) refl
  where
    go : (a : Bool) → ltb x n ≡ a → (b : Bool) → leb (above xs) n ≡ b → a && b ≡ leb (max (suc x) (above xs)) n
    go true e true f = sym (le-leb (max (suc x) (above xs)) n (omega (arith, ltb-true x n e, leb-true (above xs) n f)))
    go true e false f = sym (lt-leb (max (suc x) (above xs)) n (omega (arith, leb-false (above xs) n f)))
    go false e b f = sym (lt-leb (max (suc x) (above xs)) n (omega (arith, ltb-false x n e)))

-- what was found so far, b, and what the sites from k on reach are the whole
pub record Reached (t : List ℕ) (k b : ℕ) : Type 0 where
  pub is : max b (above (drop k t)) ≡ above t

next : (t : List ℕ) (k : ℕ) → k < length t → above (drop k t) ≡ max (suc (get_or t k 0)) (above (drop (k + 1) t))
unfolding above
next t k h = ap above ((in_slice t).more k h)

last : (t : List ℕ) (k : ℕ) → length t ≤ k → above (drop k t) ≡ 0
unfolding above
last t k h = ap above (drop_of_length-le t {i = k} h)

module _ {t : List ℕ} where
  pub reach_starts : Reached t 0 0
  reach_starts = record { is = omega arith }

  pub reach_turn : {k b c : ℕ} → Reached t k b → k < length t → c ≡ max b (get_or t k 0 + 1) → Reached t (k + 1) c
  reach_turn {k} r h e = record { is = omega (arith, e, next t k h, r.is) }

  pub reach_ends : {k b : ℕ} → Reached t k b → length t ≤ k → b ≡ above t
  reach_ends {k} r h = omega (arith, last t k h, r.is)
