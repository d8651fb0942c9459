-- Which patterns a rule record may hold, kind by kind.
use mathlib.Core.Bool.{false}
use mathlib.Core.Path.{◌∙◌, ◌≡◌, sym}
use Prim.Native.Nat.{◌<◌, ◌≤◌, ℕ}
use native.Mathlib.Decide.{dec_lt}
use native.Mathlib.Omega.{arith}
use lib.Dec.{eqb, leb}
use lib.IntN.{pos}
use borrow.Author.Tests.{le-leb, le-ltb, lt-leb, lt-ltb, ne_eqb}
use Rattle.definition.specs.Accept.{pattern_ok}
use Rattle.definition.specs.Lists.{every, same_number}
use Rattle.definition.specs.Tables.{signed}
use Rattle.laws.specs.Answers.{and-true}
use Rattle.tree.specs.Patterns.{pattern_at}

zero_is : (w : ℕ) → eqb w 0 ≡ same_number (signed w) (pos 0)
zero_is w = elim (dec_lt w 2147483648) [
  | yes p ↦ sym (rw (lt-ltb w 2147483648 p))
  | no p ↦ ne_eqb w 0 (λ e. omega arith) ∙ sym (rw (le-ltb w 2147483648 (omega arith)))
]

module _ (k f w : ℕ) where
  pub kind_low : k < 2 → eqb f 0 ≡ pattern_ok (pattern_at k (signed w) f)
  unfolding pattern_ok every
  kind_low h = sym (rw (le-leb k 3 (omega arith), lt-ltb k 2 h, ne_eqb k 2 (λ e. omega arith), ne_eqb k 3 (λ e. omega arith)) (and-true (eqb f 0)))

  pub kind_two : k ≡ 2 → leb f 4 ≡ pattern_ok (pattern_at k (signed w) f)
  unfolding pattern_ok every
  kind_two h = sym (rw h (and-true (leb f 4)))

  pub kind_three : k ≡ 3 → f ≡ 1 → eqb w 0 ≡ pattern_ok (pattern_at k (signed w) f)
  unfolding pattern_ok every
  kind_three h e = zero_is w ∙ sym (rw (h, e) (and-true (same_number (signed w) (pos 0))))

  pub kind_fields : k ≡ 3 → (f ≡ 1 → ⊥) → false ≡ pattern_ok (pattern_at k (signed w) f)
  unfolding pattern_ok every
  kind_fields h e = sym (rw (h, ne_eqb f 1 e))

  pub kind_high : 2 ≤ k → (k ≡ 2 → ⊥) → (k ≡ 3 → ⊥) → false ≡ pattern_ok (pattern_at k (signed w) f)
  unfolding pattern_ok every
  kind_high h e g = sym (rw (lt-leb k 3 (omega arith)))
