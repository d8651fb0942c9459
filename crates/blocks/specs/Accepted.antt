-- The rules of a book's tables, as refusal 5 leaves them.
use Rattle.std.specs.Prelude.{◌≡◌, true, List, ℕ, ◌*◌, ◌≤◌, length}
use Rattle.definition.specs.Book.{most, slots}
use Rattle.definition.specs.Tables.{rule_words, book_of}
use Rattle.definition.specs.Accept.{rules_ok}

-- R rules, whose tests and ids are right beside S sites
pub record Accepted (S R : ℕ) (sites rules : List ℕ) : Type 0 where
  pub few : R ≤ most
  pub long : rule_words slots * R ≤ length rules
  pub rules_right : rules_ok slots (book_of slots S R sites rules) ≡ true
