-- What the private contracts of `book` cite.
use Rattle.std.specs.Prelude.{Bool, ◌&&◌, List, ◌∷◌, ℕ, ◌+◌}
use Rattle.definition.specs.Book.{slots}
use Rattle.definition.specs.Tables.{zero_from, book_of}
use Rattle.definition.specs.Accept.{book_tests}
use Rattle.definition.specs.Bytes.{site_gaps, rule_gaps, sites_pass, rules_pass}

-- the bytes of the rule record at byte o that no word holds are zero
abbrev pub record_gap : List ℕ → ℕ → Bool
record_gap b o = zero_from b (o + 13) 1 && zero_from b (o + 38 + 32) 2

-- the tests 4 to 8 of a book with these tables
abbrev pub record_tests : List ℕ → ℕ → ℕ → List ℕ → List ℕ → List Bool
record_tests b S R t u = (site_gaps b S && sites_pass slots S R t u) ∷ (rule_gaps slots b S R && rules_pass slots S R t u) ∷ book_tests (book_of slots S R t u)
