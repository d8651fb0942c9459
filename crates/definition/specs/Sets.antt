-- Disjoint sets of ids (document 01, "Sets"): members, representatives and root ranks, and nothing of links.
use Rattle.std.specs.Prelude.{Bool, false, List, ℕ, ◌+◌, if◌then◌else◌}
use Rattle.std.proofs.Math.Option.{Option, none, some}
use Rattle.definition.specs.Lists.{◌is◌, ◌below◌, upto, filter}
use Rattle.definition.specs.Book.{most}

-- an id is unmerged, or in the set of this representative, its root, and this rank
pub data Class : Type 0 where
  unmerged : Class
  in_set : ℕ → ℕ → Class

-- a store of sets: the class of each id
abbrev pub Sets : Type 0
Sets = ℕ → Class

abbrev pub no_sets : Sets
no_sets z = unmerged

-- An unmerged id has no representative
abbrev pub representative : Class → Option ℕ
representative unmerged = none
representative (in_set r k) = some r

-- and is not in one set with itself
abbrev pub same_class : Class → Class → Bool
same_class unmerged d = false
same_class (in_set a j) unmerged = false
same_class (in_set a j) (in_set b k) = a is b

abbrev pub in_same_set : ℕ → ℕ → Sets → Bool
in_same_set x y s = same_class (s x) (s y)

-- MERGING
-- an unmerged id becomes a set of its own, of rank 0
abbrev pub entered : ℕ → Class → Class
entered x unmerged = in_set x 0
entered x (in_set r k) = in_set r k

abbrev pub enter : Sets → ℕ → Sets
enter s x z = if z is x then entered x (s z) else s z

-- who is in the set of root a or of root b is then in that of root b, whose rank is k
abbrev pub moved : ℕ → ℕ → ℕ → Class → Class
moved a b k unmerged = unmerged
moved a b k (in_set r j) = if r is a then in_set b k else (if r is b then in_set b k else in_set r j)

abbrev pub move : ℕ → ℕ → ℕ → Sets → Sets
move a b k s z = moved a b k (s z)

-- the root of greater rank is kept, on a tie the first one's, whose rank grows; within one set nothing changes
abbrev pub join_classes : Class → Class → Sets → Sets
join_classes unmerged d s = s
join_classes (in_set a j) unmerged s = s
join_classes (in_set a j) (in_set b k) s =
    if a is b then s
    else if j below k then move a b k s
    else if k below j then move b a j s
    else move b a (j + 1) s

abbrev pub join : ℕ → ℕ → Sets → Sets
join x y s = join_classes (s x) (s y) s

abbrev pub merge : ℕ → ℕ → Sets → Sets
merge x y s = join x y (enter (enter s x) y)

-- REMOVING. The members of x's set, ascending
unfoldable pub is_member : ℕ → Sets → ℕ → Bool
is_member x s z = in_same_set z x s

unfoldable pub members : ℕ → Sets → List ℕ
members x s = filter (is_member x s) (upto most)

-- they are then unmerged
abbrev pub remove : ℕ → Sets → Sets
remove x s z = if is_member x s z then unmerged else s z
