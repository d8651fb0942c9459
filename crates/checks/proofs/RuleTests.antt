-- Refusal 5 in words is refusal 5.
use Prim.Native.Nat.{ℕ, zero, suc, ◌+◌, ◌-◌, ◌<◌}
use mathlib.Core.Path.{◌≡◌, refl, sym, ap, ap₂, ◌∙◌}
use mathlib.Core.Bool.{Bool, true, ◌&&◌, not}
use mathlib.Core.List.{List, [], ◌∷◌, map}
use native.Mathlib.Omega.{arith}
use Rattle.std.proofs.Common.{add-one}
use borrow.Author.Tests.{leb-true}
use Rattle.definition.specs.Lists.{◌below◌, ◌at_most◌, every, all, any, from, upto}
use Rattle.definition.specs.Book.{Constraint, pair_slots, impure_slots, is_on}
use Rattle.definition.specs.Tables.{rule_word, constraint_at, pair_at, impure_at, rule_at, rule_tidy, book_of}
use Rattle.definition.specs.Accept.{constraint_ok, pair_ok, smaller_than, once, rule_ok, rules_ok}
use Rattle.definition.specs.Bytes.{rules_pass}
use Rattle.laws.specs.Tests.{both, every_at}
use Rattle.laws.specs.Turns.{length_map_upto, all_map, all_and, upto_at}
use Rattle.checks.specs.Words.{CountsFit, Counted, rule_fine}
use Rattle.theorems.specs.Refusals.{sites_length}

-- A RULE, its counts in words
module _ (n S : ℕ) (u : List ℕ) (i : ℕ) where
  pub rule_is : rule_ok n S (rule_at n u i) ≡ every (
      rule_word n u i 3 at_most n
      ∷ rule_word n u i 4 at_most pair_slots
      ∷ rule_word n u i 5 at_most impure_slots
      ∷ rule_word n u i 2 below S
      ∷ all (constraint_ok S) (map (constraint_at n u i) (upto (rule_word n u i 3)))
      ∷ once (map (constraint_at n u i) (upto (rule_word n u i 3)))
      ∷ all (pair_ok S) (map (pair_at n u i) (upto (rule_word n u i 4)))
      ∷ all (smaller_than S) (map (impure_at n u i) (upto (rule_word n u i 5)))
      ∷ [])
  unfolding rule_ok rule_at
  rule_is = rw (length_map_upto (constraint_at n u i) (rule_word n u i 3), length_map_upto (pair_at n u i) (rule_word n u i 4), length_map_upto (impure_at n u i) (rule_word n u i 5))

  pub counts_fit : rule_ok n S (rule_at n u i) ≡ true → CountsFit n u i
  counts_fit e =
      let f = sym rule_is ∙ e in
      record { constraints = leb-true _ n (every_at _ 0 f); pairs = leb-true _ pair_slots (every_at _ 1 f); impure = leb-true _ impure_slots (every_at _ 2 f) }

-- THE WHOLE
pub rules_pass_is : (n S R : ℕ) (t u : List ℕ) → all (rule_fine n S u) (upto R) ≡ rules_pass n S R t u
unfolding rules_pass rules_ok book_of rule_fine
rules_pass_is n S R t u =
    all_and (rule_tidy n u) (λ i. rule_ok n S (rule_at n u i)) (upto R)
    ∙ ap (λ (x : Bool). all (rule_tidy n u) (upto R) && x)
    (sym (all_map (rule_ok n S) (rule_at n u) (upto R)) ∙ ap (λ (m : ℕ). all (rule_ok n m) (map (rule_at n u) (upto R))) (sym (sites_length n S R t u)))

-- each rule of a table that passes is right, and has counts that fit
pub rule_passes : (n S R : ℕ) (t u : List ℕ) → rules_pass n S R t u ≡ true → (i : ℕ) → i < R → rule_ok n S (rule_at n u i) ≡ true
unfolding rule_fine
rule_passes n S R t u e i h = (both (rule_tidy n u i) (rule_ok n S (rule_at n u i)) (upto_at (rule_fine n S u) R i (rules_pass_is n S R t u ∙ e) h)).1

pub counted : (n S R : ℕ) (t u : List ℕ) → rules_pass n S R t u ≡ true → Counted n R u
counted n S R t u e = record { each = λ i h. counts_fit n S u i (rule_passes n S R t u e i h) }

-- each constraint is on a site of none behind it
pub once_is : (g : ℕ → Constraint) (n : ℕ) → all (λ k. not (any (is_on (g k).site) (map g (from (k + 1) (n - (k + 1)))))) (upto n) ≡ once (map g (upto n))
once_is g n = go n 0 n (omega arith)
  where
    go : (m a n : ℕ) → a + m ≡ n → all (λ k. not (any (is_on (g k).site) (map g (from (k + 1) (n - (k + 1)))))) (from a m) ≡ once (map g (from a m))
    go zero a n e = refl
    go (suc m) a n e =
        let l : n - (a + 1) ≡ m = omega arith in
        ap₂ (λ x y. x && y) (rw (l, add-one a)) (go m (suc a) n (omega arith))
