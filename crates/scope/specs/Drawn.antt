-- The books whose sites a table holds, and the rules that name its sites.
use Rattle.std.specs.Prelude.{◌≡◌, List, ℕ, ◌<◌, length, get_or}
use Rattle.definition.specs.Book.{Book, slots, site}
use Rattle.definition.specs.Tables.{site_at, rule_at}
use Rattle.tables.specs.declared.Test.{Test}
use Rattle.tables.specs.declared.Test.TheVariants.{On, Same}
use Rattle.scope.specs.declared.Sites.{Sites}

-- the book's sites are the table's
pub record Drawn (t : Sites) (b : Book) : Type 0 where
  pub size : length b.sites ≡ t.count
  pub at : (s : ℕ) → s < t.count → site b s ≡ site_at t.words.now s

-- each is the id of a site
pub record Ids (S : ℕ) (ids : List ℕ) : Type 0 where
  pub below : (k : ℕ) → k < length ids → get_or ids k 0 < S

-- the sites of a test are below S
abbrev pub Among : ℕ → Test → Type 0
Among S (On s) = s < S
Among S (Same x y) = (x < S) × (y < S)

-- rule i names sites as impure and as its result
pub record Usable (S : ℕ) (t : List ℕ) (i : ℕ) : Type 0 where
  pub impure : Ids S (rule_at slots t i).impure
  pub result : (rule_at slots t i).result < S
