-- What planning stands on: a part of a book's rules, a scope, and room for words.
use Rattle.std.specs.Prelude.{◌≡◌, List, ℕ, ◌^◌, ◌≤◌, length, get_or}
use Rattle.definition.specs.Book.{Book, slots, Pair}
use Rattle.definition.specs.Tables.{book_of}
use Rattle.definition.specs.Scope.{matched}
use Rattle.laws.specs.Ascending.{Within, Distinct}
use Rattle.room.specs.declared.Writer.{Writer}
use Rattle.room.specs.Wrote.{Inside, Wrote}
use Rattle.scope.specs.Classes.{Joined}
use Rattle.scope.specs.declared.Scope.{Scope}
use Rattle.blocks.specs.declared.books.Book as code

-- the definition's book of these tables
abbrev pub book_in : code.Book → Book
book_in k = book_of slots k.sites.count k.rule_count k.sites.words.now k.rules.now

-- distinct rules of a book of R
pub record Part (R : ℕ) (part : List ℕ) : Type 0 where
  pub within : Within R part
  pub distinct : Distinct part

-- a scope as planning makes them: its store has the classes of some pairs, and its states are states
pub record Scoped (s : Scope) : Type 0 where
  pub joined : List Pair
  pub classes : Joined joined s.root s.rank
  pub states_ok : (k : ℕ) → get_or s.states k 0 ≤ matched

-- a room whose words are counted in 32 bits, and a position in it or one behind it
pub record Roomy (o : Writer ℕ) : Type 0 where
  pub short : length o.room.now ≤ 2 ^ 20
  pub inside : Inside o

-- p is the writer o after it wrote the words w, where they fit: the length in front of a block that does not fit is another
pub record Lays (o : Writer ℕ) (w : List ℕ) (p : Writer ℕ) : Type 0 where
  pub is : Inside o → Wrote o.room.now o.at w p.at p.room.now
  pub same : p.room.ghost_name ≡ o.room.ghost_name

-- what every builder is given beside the book: a scope, a part of the rules, and room
pub record Planning (R : ℕ) (s : Scope) (part : List ℕ) (o : Writer ℕ) : Type 0 where
  pub scope : Scoped s
  pub rules_of : Part R part
  pub room : Roomy o
