-- A book that is not refused has passed every test from 1 to 8.
use Rattle.std.specs.Prelude.{◌≡◌, refl, Bool, true, false, ℕ, zero, suc, ◌+◌, ◌≤◌, ◌<◌, length, get_or}
use Rattle.std.proofs.Common.{◌∙◌, arith, leb-true}
use Rattle.std.proofs.Math.Path.{ap, subst}
use mathlib.Core.List.{List, [], ◌∷◌, Memᴰ}
use Rattle.std.proofs.Math.ListN.{length-map}
use Rattle.definition.specs.Lists.{upto, all}
use Rattle.definition.specs.Book.{most, Book, Constraint, rule, no_rule}
use Rattle.definition.specs.Tables.{constraint_start, constraint_at, rule_at, book_of, rule_word, site_tidy, rule_tidy}
use Rattle.definition.specs.Accept.{lowest, book_tests}
use Rattle.definition.specs.Bytes.{sites_named, rules_named, site_table, rule_table, site_gaps, rule_gaps, book_in, length_ok, sums_ok, frames_ok, sites_pass, rules_pass, site_records_ok, rule_records_ok, refusal_of}
use Rattle.laws.specs.Tests.{both, every_at}
use Rattle.laws.specs.Members.{mem_map_of}
use Rattle.laws.specs.Ranges.{from_length, map_at}
use Rattle.theorems.specs.Accepted.{Passed}
use Rattle.theorems.specs.ReadBack.{number_ok, signed_ok}

-- where the lowest number is 0, each test holds
lowest_at : (k : ℕ) (ts : List Bool) (j : ℕ) → lowest (suc k) ts ≡ 0 → get_or ts j true ≡ true
lowest_at k [] j e = refl
lowest_at k (true ∷ ts) zero e = refl
lowest_at k (true ∷ ts) (suc j) e = lowest_at (suc k) ts j e
lowest_at k (false ∷ ts) j e = absurd (omega arith)

pub record Taken (n : ℕ) (b : Book) : Type 0 where
  pub passed : Passed n b
  pub few_sites : length b.sites ≤ most
  pub few_rules : length b.rules ≤ most
  pub numbers : (i : ℕ) (c : Constraint) → i < length b.rules → Memᴰ c (rule b i).constraints → number_ok c.pattern.number ≡ true

-- THE PARTS of a book that stands in tables
module _ (n S R : ℕ) (t u : List ℕ) where
  pub sites_length : length (book_of n S R t u).sites ≡ S
  unfolding book_of
  sites_length = length-map (upto S) _ ∙ from_length 0 S

  pub rules_length : length (book_of n S R t u).rules ≡ R
  unfolding book_of
  rules_length = length-map (upto R) _ ∙ from_length 0 R

  pub rule_is : (i : ℕ) → i < R → rule (book_of n S R t u) i ≡ rule_at n u i
  unfolding book_of rule
  rule_is i h = map_at (rule_at n u) 0 R i no_rule h ∙ ap (rule_at n u) (omega arith)

  table_numbers : (i : ℕ) (c : Constraint) → i < R → Memᴰ c (rule (book_of n S R t u) i).constraints → number_ok c.pattern.number ≡ true
  unfolding rule_at constraint_at
  table_numbers i c h m =
      let m' : Memᴰ c (rule_at n u i).constraints = subst (λ r. Memᴰ c r.constraints) (rule_is i h) m in
      let k = mem_map_of (constraint_at n u i) c (upto (rule_word n u i 3)) m' in
      rw k.2 (signed_ok (rule_word n u i (constraint_start k.0 + 3)))

pub taken : (n : ℕ) (bytes : List ℕ) → refusal_of n bytes ≡ 0 → Taken n (book_in n bytes)
unfolding refusal_of book_in site_records_ok rule_records_ok sites_pass rules_pass frames_ok
taken n b e = record {
  passed = record {
    four = (both (all (site_tidy t) (upto S)) _ (both (site_gaps b S) _ (at 3)).1).1;
    five = (both (all (rule_tidy n u) (upto R)) _ (both (rule_gaps n b S R) _ (at 4)).1).1;
    six = at 5;
    seven = at 6;
    eight = at 7;
  };
  few_sites = rw (sites_length n S R t u) (leb-true S most (every_at _ 0 (at 2)));
  few_rules = rw (rules_length n S R t u) (leb-true R most (every_at _ 1 (at 2)));
  numbers = λ i c h. table_numbers n S R t u i c (rw (rules_length n S R t u) at h);
}
  where
    S : ℕ
    S = sites_named b

    R : ℕ
    R = rules_named b

    t : List ℕ
    t = site_table b S

    u : List ℕ
    u = rule_table n b S R

    at : (j : ℕ) → get_or (length_ok b ∷ sums_ok b ∷ frames_ok n b ∷ site_records_ok n b ∷ rule_records_ok n b ∷ book_tests (book_in n b)) j true ≡ true
    at j = lowest_at 0 (length_ok b ∷ sums_ok b ∷ frames_ok n b ∷ site_records_ok n b ∷ rule_records_ok n b ∷ book_tests (book_in n b)) j e
