-- A site's shape in words, kind by kind.
use Prim.Native.Nat.{ℕ, ◌≤◌, ◌<◌}
use mathlib.Core.Path.{◌≡◌}
use mathlib.Core.Logic.{◌⊎◌, inl, inr}
use mathlib.Core.Bool.{true, false, ◌&&◌}
use native.Mathlib.Omega.{arith}
use lib.Dec.{eqb, leb}
use borrow.Author.Tests.{eqb-true, eq-eqb, ne_eqb, lt-ltb, le-ltb, le-leb, lt-leb, leb-true}
use Rattle.definition.specs.Lists.{every}
use Rattle.laws.specs.Tests.{split, every_at}
use Rattle.laws.specs.Answers.{every_stop, and-true}
use Rattle.checks.specs.Words.{shape_words}

-- a count that is m, at most 4, is at most 4
few : (n m : ℕ) → m ≤ 4 → eqb n m && (leb n 4 && true) ≡ eqb n m
few n m h = go (split (eqb n m))
  where
    go : (eqb n m ≡ true) ⊎ (eqb n m ≡ false) → eqb n m && (leb n 4 && true) ≡ eqb n m
    go (inl e) = let q : leb n 4 ≡ true = le-leb n 4 (omega (arith, eqb-true n m e)) in rw (e, q)
    go (inr e) = rw e

module _ (k n p q z : ℕ) where
  pub shape_count : shape_words k n p q z ≡ true → n ≤ 4
  unfolding shape_words
  shape_count e = leb-true n 4 (every_at _ 3 e)

  pub shape_high : 7 < k → shape_words k n p q z ≡ false
  unfolding shape_words
  shape_high h = every_stop _ 0 (lt-leb k 7 h)

  pub shape_none : k < 3 → shape_words k n p q z ≡ eqb n 0
  unfolding shape_words every
  shape_none h = rw (le-leb k 7 (omega arith), lt-ltb k 3 h, ne_eqb k 3 (omega arith), ne_eqb k 7 (omega arith)) (few n 0 (omega arith))

  pub shape_one : k ≡ 3 → shape_words k n p q z ≡ eqb n 1
  unfolding shape_words every
  shape_one h = rw (le-leb k 7 (omega arith), le-ltb k 3 (omega arith), eq-eqb k 3 h, ne_eqb k 7 (omega arith)) (few n 1 (omega arith))

  pub shape_many : 3 < k → k < 7 → shape_words k n p q z ≡ leb n 4
  unfolding shape_words every
  shape_many h g = rw (le-leb k 7 (omega arith), le-ltb k 3 (omega arith), ne_eqb k 3 (omega arith), ne_eqb k 7 (omega arith)) (and-true (leb n 4))

  module _ (h : k ≡ 7) where
    pub bound_count : (n ≡ 1 → ⊥) → shape_words k n p q z ≡ false
    unfolding shape_words
    bound_count g = every_stop _ 4 (rw (eq-eqb k 7 h, ne_eqb n 1 g))

    pub bound_variant : n ≡ 1 → p ≡ 2 → shape_words k n p q z ≡ true
    unfolding shape_words every
    bound_variant g e = rw (h, g, e)

    pub bound_pattern : (p ≡ 2 → ⊥) → (p ≡ 3 → ⊥) → shape_words k n p q z ≡ false
    unfolding shape_words
    bound_pattern g f = every_stop _ 5 (rw (eq-eqb k 7 h, ne_eqb p 2 g, ne_eqb p 3 f))

    pub bound_position : p ≡ 3 → (q ≡ 0 → ⊥) → shape_words k n p q z ≡ false
    unfolding shape_words
    bound_position g f = every_stop _ 6 (rw (eq-eqb k 7 h, eq-eqb p 3 g, ne_eqb q 0 f))

    pub bound_number : n ≡ 1 → p ≡ 3 → q ≡ 0 → shape_words k n p q z ≡ eqb z 0
    unfolding shape_words every
    bound_number g e f = rw (h, g, e, f) (and-true (eqb z 0))

pub ruleset shapes = (shape_high, shape_none, shape_one, shape_many, bound_count, bound_variant, bound_pattern, bound_position, bound_number)
