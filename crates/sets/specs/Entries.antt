-- What the private steps speak of.
use Rattle.std.specs.Prelude.{◌≡◌, Bool, List, ℕ, ◌<◌, get_or}
use Rattle.definition.specs.Book.{most}
use Rattle.definition.specs.Lists.{◌is◌, upto, filter}
use Rattle.definition.specs.Sets.{unmerged}
use Rattle.sets.specs.declared.Store.{Store}
use Rattle.sets.specs.Promises.{view}

-- two ids, each of them in a set
pub record Joinable (s : Store) (x y : ℕ) : Type 0 where
  pub x_id : x < most
  pub y_id : y < most
  pub x_merged : view s x ≡ unmerged → ⊥
  pub y_merged : view s y ≡ unmerged → ⊥

-- the ids below n whose entry in l is a, ascending
unfoldable pub has_entry : ℕ → List ℕ → ℕ → Bool
has_entry a l z = get_or l z 0 is a

unfoldable pub ids_with : ℕ → List ℕ → ℕ → List ℕ
ids_with a l n = filter (has_entry a l) (upto n)
