-- What the tree of every accepted book obeys: demand 3 of the mission and four facts that the planner stands on; then the same from bytes to answer.
use Rattle.std.specs.Prelude.{◌≡◌, ◌↔◌, true, false, ℕ, suc, ◌+◌, ◌^◌, ◌≤◌, ◌<◌, eqb, length}
use mathlib.Core.List.{List, [], ◌++◌, Memᴰ}
use Rattle.std.proofs.Math.Option.{none, some}
use Rattle.definition.specs.Lists.{upto, filter}
use Rattle.definition.specs.Book.{Book, rule}
use Rattle.definition.specs.Bytes.{book_from, book_refusal}
use Rattle.definition.specs.Scope.{root}
use Rattle.definition.specs.Plan.{outranks, block, tree}
use Rattle.definition.specs.Tree.{nesting, words, returned}
use Rattle.definition.specs.Read.{read_block}
use Rattle.definition.specs.Walk.{Reading, Hit, matches, walk, sites_in}
use Rattle.definition.specs.Bound.{block_bound}
use Rattle.definition.specs.Answers.{refused, answered, planned, one_length, walked}

-- no rule matches
abbrev pub NoMatch : Book → Reading → Type 0
NoMatch b d = (i : ℕ) → i < length b.rules → matches b d i ≡ false

-- a matching rule that no matching rule outranks, with its result
pub record Highest (b : Book) (d : Reading) (h : Hit) : Type 0 where
  pub known : h.rule < length b.rules
  pub matching : matches b d h.rule ≡ true
  pub unsurpassed : (j : ℕ) → j < length b.rules → matches b d j ≡ true → outranks b j h.rule ≡ false
  pub result : h.result ≡ (rule b h.rule).result

-- how often i stands in a list
abbrev pub times : ℕ → List ℕ → ℕ
times i l = length (filter (eqb i) l)

pub record Demand3 (b : Book) : Type 0 where
  -- walking the tree finds nothing exactly when no rule matches
  pub nothing : (d : Reading) → (walk d (tree b) ≡ none) ↔ NoMatch b d
  -- else it returns a matching rule that no matching rule outranks
  pub found : (d : Reading) (h : Hit) → walk d (tree b) ≡ some h → Highest b d h
  -- every rule has exactly one return, and there is no other
  pub once : (i : ℕ) → i < length b.rules → times i (returned (tree b)) ≡ 1
  pub no_other : (i : ℕ) → length b.rules ≤ i → times i (returned (tree b)) ≡ 0
  -- up to each block's first return no site is used before it is bound
  pub bound : block_bound b [] (tree b) ≡ true

pub record SoundTree (b : Book) : Type 0 where
  pub demand_3 : Demand3 b
  -- the nesting never runs out: where more is allowed the tree is the same
  pub nesting_enough : (more : ℕ) → block b (more + nesting) (root b) (upto (length b.rules)) ≡ tree b
  -- its words, whatever stands behind them, are read back as the tree
  pub reads_back : (rest : List ℕ) → read_block (suc nesting) (words (tree b) ++ rest) ≡ some (tree b, rest)
  -- there are fewer than 2 ^ 20 of them
  pub words_few : length (words (tree b)) < 2 ^ 20
  -- every site that they name is the book's
  pub sites_known : (s : ℕ) → Memᴰ s (sites_in (tree b)) → s < length b.sites

-- a book is accepted if none of the refusals 1 to 8 is given
abbrev pub Demands : Type 0
Demands = (bytes : List ℕ) → book_refusal bytes ≡ 0 → SoundTree (book_from bytes)

-- FROM BYTES TO ANSWER. A reading of a book: its three lists are of one length and have an entry for each of the book's sites
pub record Reads (b : Book) (d : Reading) : Type 0 where
  pub level : one_length d ≡ true
  pub every_site : length b.sites ≤ length d.kinds

-- walking the words ws, which a book was planned into, under every reading of the book
pub record AnswersFor (b : Book) (ws : List ℕ) : Type 0 where
  -- is never refused
  pub answers : (d : Reading) → Reads b d → (n : ℕ) → walked ws d ≡ refused n → ⊥
  -- answers nothing exactly when no rule matches
  pub nothing : (d : Reading) → Reads b d → (walked ws d ≡ answered none) ↔ NoMatch b d
  -- and otherwise a matching rule that no matching rule outranks, with its result
  pub found : (d : Reading) → Reads b d → (h : Hit) → walked ws d ≡ answered (some h) → Highest b d h

-- whatever bytes are planned into whatever room: where planning answers with a word count, the walk of the room answers for the book
abbrev pub EndToEnd : Type 0
EndToEnd = (bytes room : List ℕ) (n : ℕ) → (planned bytes room).answer ≡ answered n → AnswersFor (book_from bytes) (planned bytes room).room
