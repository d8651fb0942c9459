-- How a store's two arrays are read as the definition's sets, and which arrays a store has.
use Rattle.std.specs.Prelude.{◌≡◌, Bool, ◌&&◌, not, List, ℕ, zero, suc, ◌<◌, get_or, length}
use Rattle.definition.specs.Lists.{◌is◌, filter}
use Rattle.definition.specs.Sets.{Class, unmerged, in_set, Sets}

-- an entry of `root` is 0 for an unmerged id, and else 1 more than its representative, whose entry of `rank` is the set's rank
abbrev pub class_of : List ℕ → ℕ → Class
class_of rank zero = unmerged
class_of rank (suc r) = in_set r (get_or rank r 0)

abbrev pub read : List ℕ → List ℕ → Sets
read root rank z = class_of rank (get_or root z 0)

-- by the roots alone, two different ids are in one set: their entries are the same and not 0
unfoldable pub same_root : List ℕ → ℕ → ℕ → Bool
same_root root x y = not (get_or root x 0 is 0) && get_or root x 0 is get_or root y 0

-- how often v stands in a list
abbrev pub tally : ℕ → List ℕ → ℕ
tally v l = length (filter (◌is◌ v) l)

-- the arrays of a store: a representative represents itself, and its rank is below the number of its set's members
pub record Made (root rank : List ℕ) : Type 0 where
  pub roots : (z r : ℕ) → get_or root z 0 ≡ suc r → get_or root r 0 ≡ suc r
  pub ranks : (r : ℕ) → get_or root r 0 ≡ suc r → get_or rank r 0 < tally (suc r) root
