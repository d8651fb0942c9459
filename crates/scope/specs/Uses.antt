-- What a use of sites leaves: the scope after it, and the lets that it wrote.
use Rattle.std.specs.Prelude.{◌≡◌, List, ◌++◌, ℕ, ◌+◌, ◌≤◌, length}
use Rattle.definition.specs.Book.{Book}
use Rattle.definition.specs.Scope.{Use, use_all}
use Rattle.definition.specs.Tree.{let_words}
use Rattle.theorems.specs.LetLists.{low}
use Rattle.room.specs.Wrote.{Writes}
use Rattle.room.specs.declared.Writer.{Writer}
use Rattle.scope.specs.declared.Scope.{Scope}
use Rattle.scope.specs.States.{With}

-- r is what the use g makes of the scope s, whatever was listed before; the n lets that it adds were written, and each of
-- them took a state that was below Emitted
pub record Placed (g : Use → Use) (s : Scope) (o : Writer ℕ) (n : ℕ) (r : Scope) (p : Writer ℕ) : Type 0 where
  pub added : List ℕ
  pub uses : (before : List ℕ)
      → g (record { states = s.states; lets = before }) ≡ record { states = r.states; lets = before ++ added }
  pub lets : n ≡ length added
  pub wrote : Writes o added p
  pub root : r.root ≡ s.root
  pub rank : r.rank ≡ s.rank
  pub spent : length added + low r.states ≤ low s.states

-- r is what using the sites ss makes of s, from nothing listed; their let list was written, its count n in front
pub record Listed (b : Book) (ss : List ℕ) (s : Scope) (o : Writer ℕ) (n : ℕ) (r : Scope) (p : Writer ℕ) : Type 0 where
  pub scope : With (use_all b ss s.states).states s r
  pub lets : n ≡ length (use_all b ss s.states).lets
  pub wrote : Writes o (let_words (use_all b ss s.states).lets) p
