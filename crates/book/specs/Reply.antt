-- What `read` answers, and what it leaves in the lent tables.
use Rattle.std.specs.Prelude.{◌≡◌, List, ℕ, ◌*◌, length, take, Result, Ok}
use Rattle.definition.specs.Book.{most, slots}
use Rattle.definition.specs.Tables.{site_words, rule_words}
use Rattle.definition.specs.Bytes.{sites_named, rules_named, site_table, rule_table, book_refusal}
use Rattle.definition.specs.Accept.{lowest}
use Rattle.refusal.specs.declared.Refusal.{Refusal}
use Rattle.refusal.specs.Numbers.{refusal_of}
use Rattle.book.specs.Shapes.{record_tests}
use Rattle.book.specs.declared.Size.{Size}

-- room for the words of as many sites and rules as there may be
pub record Roomy (t u : List ℕ) : Type 0 where
  pub sites : length t ≡ site_words * most
  pub rules : length u ≡ rule_words slots * most

-- the tables stand at the front of what was lent, and k is the first of the tests 4 to 8 that they fail
pub record Judged (b : List ℕ) (S R k : ℕ) (t u : List ℕ) : Type 0 where
  pub sites : take (site_words * S) t ≡ site_table b S
  pub rules : take (rule_words slots * R) u ≡ rule_table slots b S R
  pub roomy : Roomy t u
  pub answer : k ≡ lowest 4 (record_tests b S R (site_table b S) (rule_table slots b S R))

-- the refusal is the definition's, and so is the size of a book that is not refused, whose tables stand at the front of what was lent
pub record Decoded (b : List ℕ) (r : Result Size Refusal) (t u : List ℕ) : Type 0 where
  pub refusal : refusal_of r ≡ book_refusal b
  pub size : (s : Size) → r ≡ Ok s → (s.sites ≡ sites_named b) × (s.rules ≡ rules_named b)
  pub roomy : ◌≡◌ {A = ℕ} (book_refusal b) 0 → Roomy t u
  pub sites : ◌≡◌ {A = ℕ} (book_refusal b) 0 → take (site_words * sites_named b) t ≡ site_table b (sites_named b)
  pub rules : ◌≡◌ {A = ℕ} (book_refusal b) 0 → take (rule_words slots * rules_named b) u ≡ rule_table slots b (sites_named b) (rules_named b)
