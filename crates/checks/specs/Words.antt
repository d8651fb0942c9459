-- What the tests of one site and of one rule come to, said of the tables: what the private contracts of `checks` cite.
use Rattle.std.specs.Prelude.{Bool, ◌&&◌, ◌||◌, not, List, [], ◌∷◌, ℕ, ◌+◌, ◌≤◌, ◌<◌}
use Rattle.definition.specs.Lists.{◌is◌, ◌below◌, ◌at_most◌, ◌implies◌, every, all, upto}
use Rattle.definition.specs.Book.{Site, Rule, pair_slots, impure_slots}
use Rattle.definition.specs.Tables.{site_at, site_tidy, rule_word, rule_at, rule_tidy}
use Rattle.definition.specs.Accept.{shape_ok, twins, smaller_than, rule_ok, agrees_with}

-- REFUSAL 4: kind, source count, pattern kind, position and number of a site
unfoldable pub shape_words : ℕ → ℕ → ℕ → ℕ → ℕ → Bool
shape_words kind count pattern position number = every (
    kind at_most 7
    ∷ (kind below 3 implies count is 0)
    ∷ (kind is 3 implies count is 1)
    ∷ count at_most 4
    ∷ (kind is 7 implies count is 1)
    ∷ (kind is 7 implies (pattern is 2 || pattern is 3))
    ∷ (kind is 7 && pattern is 3 implies position is 0 && number is 0)
    ∷ [])

-- site r of the table is no twin of x
unfoldable pub twinless : List ℕ → Site → ℕ → Bool
twinless t x r = not (twins (site_at t r) x)

-- site i of the table w, as site s of the table t: with the sites before it
unfoldable pub site_fine : List ℕ → List ℕ → ℕ → ℕ → Bool
site_fine t w i s = every (
    shape_ok (site_at w i)
    ∷ all (smaller_than s) (site_at w i).sources
    ∷ all (twinless t (site_at w i)) (upto s)
    ∷ site_tidy w i
    ∷ [])

-- the counts of rule i fit its n constraint slots, its pair slots and its impure slots
pub record CountsFit (n : ℕ) (u : List ℕ) (i : ℕ) : Type 0 where
  pub constraints : rule_word n u i 3 ≤ n
  pub pairs : rule_word n u i 4 ≤ pair_slots
  pub impure : rule_word n u i 5 ≤ impure_slots

-- so they do for each of R rules: what refusal 5 leaves to know
pub record Counted (n R : ℕ) (u : List ℕ) : Type 0 where
  pub each : (i : ℕ) → i < R → CountsFit n u i

-- rule i of the table, in a book of S sites
unfoldable pub rule_fine : ℕ → ℕ → List ℕ → ℕ → Bool
rule_fine n S u i = rule_tidy n u i && rule_ok n S (rule_at n u i)

-- REFUSAL 6: every constraint of rule r agrees with every constraint of rule s
unfoldable pub rules_agree : Rule → Rule → Bool
rules_agree r s = all (agrees_with s.constraints) r.constraints

-- those of rule i agree with those of the rules up to it
unfoldable pub agrees_so_far : ℕ → List ℕ → ℕ → Bool
agrees_so_far n u i = all (λ j. rules_agree (rule_at n u i) (rule_at n u j)) (upto (i + 1))
