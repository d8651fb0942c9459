-- Refusals 6 and 7 of a rule table, rule by rule.
use Prim.Native.Nat.{ℕ, ◌+◌, ◌^◌, ◌<◌}
use mathlib.Core.Path.{◌≡◌, sym, ap, ◌∙◌}
use mathlib.Core.Logic.{◌⊎◌, inl, inr}
use mathlib.Core.Bool.{Bool, true, false, ◌&&◌}
use mathlib.Core.List.{List, map}
use lib.IntN.{ℤ}
use Rattle.definition.specs.Lists.{◌is◌, ◌implies◌, same_number, all, flat, upto}
use Rattle.definition.specs.Book.{Constraint, Rule}
use Rattle.definition.specs.Tables.{rule_word, constraint_start, constraint_at, rule_at, book_of}
use Rattle.definition.specs.Accept.{fields_agree, constraints_of, agrees_with, fields_ok, apart, apart_ok}
use Rattle.laws.specs.Turns.{all_map, all_flat, all_swap, half_enough}
use Rattle.laws.specs.Orders.{same_number_equal, same_number_self}
use Rattle.laws.specs.Tests.{split, both, and, implied, is_sym}
use Rattle.laws.specs.Members.{all_at, all_from, all_same}
use Rattle.checks.specs.Words.{rules_agree, agrees_so_far}
use Rattle.tables.proofs.Signs.{same_word}

-- REFUSAL 7
pub apart_ok_is : (n S R : ℕ) (t u : List ℕ) → all (λ i. apart (rule_at n u i)) (upto R) ≡ apart_ok (book_of n S R t u)
unfolding apart_ok book_of
apart_ok_is n S R t u = sym (all_map apart (rule_at n u) (upto R))

-- REFUSAL 6: two constraints in words
abbrev pub agree_words : ℕ → List ℕ → ℕ → ℕ → List ℕ → ℕ → ℕ → Bool
agree_words n u i k v j m =
    (rule_word n u i (constraint_start k) is rule_word n v j (constraint_start m))
    && (rule_word n u i (constraint_start k + 1) is rule_word n v j (constraint_start m + 1))
    && (rule_word n u i (constraint_start k + 3) is rule_word n v j (constraint_start m + 3))
    implies rule_word n u i (constraint_start k + 2) is rule_word n v j (constraint_start m + 2)

pub agree_is : (n : ℕ) (u : List ℕ) (i k : ℕ) (v : List ℕ) (j m : ℕ) → rule_word n u i (constraint_start k + 3) < 2 ^ 32
    → rule_word n v j (constraint_start m + 3) < 2 ^ 32 → fields_agree (constraint_at n u i k) (constraint_at n v j m) ≡ agree_words n u i k v j m
unfolding fields_agree constraint_at
agree_is n u i k v j m h g =
    rw (← same_word (rule_word n u i (constraint_start k + 3)) (rule_word n v j (constraint_start m + 3)) h g)

-- to agree is mutual
agree_back : (c d : Constraint) → fields_agree c d ≡ true → fields_agree d c ≡ true
unfolding fields_agree
agree_back c d e = go (split (same d c))
  where
    same : Constraint → Constraint → Bool
    same c d = (c.site is d.site) && (c.pattern.kind is d.pattern.kind) && same_number c.pattern.number d.pattern.number

    go : (same d c ≡ true) ⊎ (same d c ≡ false) → (same d c implies d.pattern.fields is c.pattern.fields) ≡ true
    go (inr p) = rw p
    go (inl p) =
        let f = both ((d.site is c.site) && (d.pattern.kind is c.pattern.kind)) (same_number d.pattern.number c.pattern.number) p in
        let g = both (d.site is c.site) (d.pattern.kind is c.pattern.kind) f.0 in
        let q : same_number c.pattern.number d.pattern.number ≡ true = ap (λ (z : ℤ). same_number c.pattern.number z) (same_number_equal d.pattern.number c.pattern.number f.1) ∙ same_number_self c.pattern.number in
        let h : (c.pattern.fields is d.pattern.fields) ≡ true = implied (same c d) (c.pattern.fields is d.pattern.fields) (and (and (is_sym c.site d.site ∙ g.0) (is_sym c.pattern.kind d.pattern.kind ∙ g.1)) q) e in
        rw p (is_sym d.pattern.fields c.pattern.fields ∙ h)

rules_back : (r s : Rule) → rules_agree r s ≡ true → rules_agree s r ≡ true
unfolding rules_agree agrees_with
rules_back r s e =
    all_from (agrees_with r.constraints) s.constraints (λ d m.
    all_from (fields_agree d) r.constraints (λ c k.
    agree_back c d (all_at (fields_agree c) (all_at (agrees_with s.constraints) e k) m)))

module _ (n R : ℕ) (u : List ℕ) where
  constraint_all : (p : Constraint → Bool) → all p (flat constraints_of (map (rule_at n u) (upto R))) ≡ all (λ i. all p (rule_at n u i).constraints) (upto R)
  unfolding constraints_of
  constraint_all p = all_flat p constraints_of (map (rule_at n u) (upto R)) ∙ all_map (λ r. all p r.constraints) (rule_at n u) (upto R)

  pub fields_ok_is : (S : ℕ) (t : List ℕ) → all (agrees_so_far n u) (upto R) ≡ fields_ok (book_of n S R t u)
  unfolding fields_ok book_of agrees_so_far rules_agree agrees_with
  fields_ok_is S t =
      half_enough (λ i j. rules_agree (rule_at n u i) (rule_at n u j)) (λ i j. rules_back (rule_at n u i) (rule_at n u j)) R
      ∙ sym (constraint_all (agrees_with (flat constraints_of (map (rule_at n u) (upto R))))
      ∙ all_same _ _ (upto R) (λ i _. all_same _ _ (rule_at n u i).constraints (λ c _. constraint_all (fields_agree c))
      ∙ all_swap (λ c j. all (fields_agree c) (rule_at n u j).constraints) (rule_at n u i).constraints (upto R)))
