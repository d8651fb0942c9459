-- The fields of the tables' records, word by word.
use Rattle.std.proofs.Common.{◌≡◌, ℕ, zero, suc, ◌+◌, ◌<◌, ◌≤◌, true, false, List, map, length, get_or, sym, refl, ap, ◌∙◌, arith, le-ltb, lt-ltb, eq-eqb, ne_eqb}
use Rattle.definition.specs.Book.{slots}
use Rattle.definition.specs.Lists.{◌is◌, upto, empty}
use Rattle.std.specs.Prelude.{if◌then◌else◌}
use Rattle.definition.specs.Scope.{never_listed}
use Rattle.definition.specs.Tables.{signed, site_word, source_at, site_at, rule_word, constraint_at, pair_at, impure_at, rule_at}
use Rattle.laws.specs.Turns.{length_map_upto, get_map_upto}

-- SITES
module _ (t : List ℕ) (s : ℕ) where
  pub site_kind : (site_at t s).kind ≡ site_word t s 0
  unfolding site_at
  site_kind = refl

  pub source_count : length (site_at t s).sources ≡ site_word t s 1
  unfolding site_at
  source_count = length_map_upto (source_at t s) (site_word t s 1)

  pub source_is : (k : ℕ) → k < length (site_at t s).sources → get_or (site_at t s).sources k 0 ≡ site_word t s (2 + k)
  unfolding site_at source_at
  source_is k h = get_map_upto (source_at t s) (site_word t s 1) k 0 (let z = source_count in omega arith)

  -- the first source, or 0 where there is none
  pub first_source : get_or (site_at t s).sources 0 0 ≡ (if site_word t s 1 is 0 then 0 else site_word t s 2)
  unfolding site_at source_at
  first_source = go (site_word t s 1) (source_at t s)
    where
      go : (n : ℕ) (f : ℕ → ℕ) → get_or (map f (upto n)) 0 0 ≡ (if n is 0 then 0 else f 0)
      go zero f = refl
      go (suc n) f = rw (ne_eqb (suc n) 0 (omega arith))

  -- a kind 7 site's pattern kind, position and number
  module _ (e : (site_at t s).kind ≡ 7) where
    pub bound_kind : (site_at t s).pattern ≡ site_word t s 3
    unfolding site_at
    bound_kind = rw (eq-eqb (site_word t s 0) 7 (sym site_kind ∙ e))

    pub bound_position : (site_at t s).position ≡ site_word t s 4
    unfolding site_at
    bound_position = rw (eq-eqb (site_word t s 0) 7 (sym site_kind ∙ e))

    pub bound_number : (site_at t s).number ≡ signed (site_word t s 5)
    unfolding site_at
    bound_number = rw (eq-eqb (site_word t s 0) 7 (sym site_kind ∙ e))

  -- sites that are never listed
  no_source : (n : ℕ) → n ≡ site_word t s 1 → n is 0 ≡ empty (site_at t s).sources
  unfolding site_at
  no_source n e = ap (λ m. m is 0) e ∙ go (site_word t s 1)
    where
      go : (n : ℕ) → n is 0 ≡ empty (map (source_at t s) (upto n))
      go zero = refl
      go (suc n) = ne_eqb (suc n) 0 (λ z. omega arith)

  module _ {k : ℕ} (e : k ≡ site_word t s 0) where
    pub low_kind : k < 4 → true ≡ never_listed (site_at t s)
    unfolding never_listed
    low_kind h = rw (site_kind, ← e, lt-ltb k 4 h)

    pub made_kind : 4 ≤ k → k < 6 → {n : ℕ} → n ≡ site_word t s 1 → n is 0 ≡ never_listed (site_at t s)
    unfolding never_listed
    made_kind h l {n} f = rw (site_kind, ← e, le-ltb k 4 h, lt-ltb k 6 l) (no_source n f)

    pub high_kind : 6 ≤ k → false ≡ never_listed (site_at t s)
    unfolding never_listed
    high_kind h = rw (site_kind, ← e, le-ltb k 4 (omega arith), le-ltb k 6 h)

-- RULES
module _ (t : List ℕ) (i : ℕ) where
  pub constraint_count : length (rule_at slots t i).constraints ≡ rule_word slots t i 3
  unfolding rule_at
  constraint_count = length_map_upto (constraint_at slots t i) (rule_word slots t i 3)

  pub pair_count : length (rule_at slots t i).pairs ≡ rule_word slots t i 4
  unfolding rule_at
  pair_count = length_map_upto (pair_at slots t i) (rule_word slots t i 4)

  pub impure_count : length (rule_at slots t i).impure ≡ rule_word slots t i 5
  unfolding rule_at
  impure_count = length_map_upto (impure_at slots t i) (rule_word slots t i 5)

  pub impure_is : (k : ℕ) → k < length (rule_at slots t i).impure → get_or (rule_at slots t i).impure k 0 ≡ rule_word slots t i (30 + k)
  unfolding rule_at impure_at
  impure_is k h = get_map_upto (impure_at slots t i) (rule_word slots t i 5) k 0 (let z = impure_count in omega arith)
