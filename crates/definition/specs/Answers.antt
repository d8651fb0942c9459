-- What each public call answers and leaves in lent memory (document 01, "Refusal numbers").
use Rattle.std.specs.Prelude.{Bool, ◌&&◌, not, List, [], ◌∷◌, ◌++◌, ℕ, suc, length, drop, replicate, if◌then◌else◌}
use Rattle.std.proofs.Math.Option.{Option, none, some}
use Rattle.definition.specs.Lists.{◌is◌, ◌below◌, ◌at_most◌, every, all}
use Rattle.definition.specs.Book.{most}
use Rattle.definition.specs.Accept.{smaller_than}
use Rattle.definition.specs.Bytes.{book_from, book_refusal}
use Rattle.definition.specs.Plan.{tree}
use Rattle.definition.specs.Tree.{Block, nesting, words}
use Rattle.definition.specs.Read.{read_block}
use Rattle.definition.specs.Walk.{Reading, Hit, walk, sites_in}
use Rattle.definition.specs.Listing.{listing}
use Rattle.definition.specs.Sets.{Sets, representative, in_same_set, merge, members, remove}

-- a refusal by its number, or what was asked for
pub data Answer (A : Type 0) : Type 0 where
  refused : ℕ → Answer A
  answered : A → Answer A

-- the answer, and what is then in the lent room
pub record Outcome : Type 0 where
  pub answer : Answer ℕ
  pub room : List ℕ

-- PLAN. The words go to the front of the room, what is behind them stays, and the answer is their number;
-- 9: the tree has more words than the room, which is then all zero
unfoldable pub written : List ℕ → List ℕ → Outcome
written ws room =
    if length ws at_most length room
    then record { answer = answered (length ws); room = ws ++ drop (length ws) room }
    else record { answer = refused 9; room = replicate (length room) 0 }

-- 1 to 8 leave the room unchanged
unfoldable pub planned : List ℕ → List ℕ → Outcome
planned book room =
    if book_refusal book is 0
    then written (words (tree (book_from book))) room
    else record { answer = refused (book_refusal book); room = room }

-- WALK. 10: the lists of the reading differ in length
unfoldable pub one_length : Reading → Bool
one_length d = length d.kinds is length d.numbers && length d.kinds is length d.identities

-- 12: the tree names a site that the reading lacks
unfoldable pub covers : Reading → Block → Bool
covers d k = all (smaller_than (length d.kinds)) (sites_in k)

-- 11: the words are no tree: a root block, and at most `nesting` blocks one inside another below it. Words after the root block are ignored
abbrev pub walk_read : Reading → Option (Block × List ℕ) → Answer (Option Hit)
walk_read d none = refused 11
walk_read d (some r) = if covers d r.0 then answered (walk d r.0) else refused 12

unfoldable pub walked : List ℕ → Reading → Answer (Option Hit)
walked ws d = if one_length d then walk_read d (read_block (suc nesting) ws) else refused 10

-- LIST. The text of the tree goes to the front of the lent text as words go to a room: 9 where it does not fit.
-- 11: the words are no tree, and the lent text is unchanged
abbrev pub list_read : List ℕ → Option (Block × List ℕ) → Outcome
list_read lent none = record { answer = refused 11; room = lent }
list_read lent (some r) = written (listing r.0) lent

unfoldable pub listed : List ℕ → List ℕ → Outcome
listed ws lent = list_read lent (read_block (suc nesting) ws)

-- SETS. 16: an id above 251, or `merge` with one id twice; the store is then as it came
unfoldable pub known : ℕ → Bool
known x = x below most

unfoldable pub mergeable : ℕ → ℕ → Bool
mergeable x y = every (known x ∷ known y ∷ not (x is y) ∷ [])

unfoldable pub find_answer : ℕ → Sets → Answer (Option ℕ)
find_answer x s = if known x then answered (representative (s x)) else refused 16

unfoldable pub same_answer : ℕ → ℕ → Sets → Answer Bool
same_answer x y s = if known x && known y then answered (in_same_set x y s) else refused 16

-- `merge` has nothing to tell but that it was done
pub data Done : Type 0 where
  done : Done

unfoldable pub merge_answer : ℕ → ℕ → Answer Done
merge_answer x y = if mergeable x y then answered done else refused 16

unfoldable pub merged_sets : ℕ → ℕ → Sets → Sets
merged_sets x y s = if mergeable x y then merge x y s else s

-- `remove_set_of` tells the members
unfoldable pub remove_answer : ℕ → Sets → Answer (List ℕ)
remove_answer x s = if known x then answered (members x s) else refused 16

unfoldable pub sets_left : ℕ → Sets → Sets
sets_left x s = if known x then remove x s else s
