-- Tests, their counts, and the best of them (document 01, "How a block is made"). W is a set of rules: the ascending list of their numbers.
use Rattle.std.specs.Prelude.{Bool, ◌&&◌, ◌||◌, not, List, [], ◌∷◌, ◌++◌, map, length}
use Rattle.std.proofs.Math.Option.{Option, none, some}
use Prim.Native.Nat.{ℕ, zero, suc, ◌-◌, min, compare, Ordering}
use Rattle.std.specs.Int.Signed.{le_z}
use Rattle.definition.specs.Lists.{◌is◌, ◌and_then◌, is_less, from, upto, filter, all, any, champion, flat}
use Rattle.definition.specs.Book.{Rule, Book, rule, constrains, linked}
use Rattle.definition.specs.Scope.{state, unavailable, matched, Scope}

-- TESTS: a constraint on s; a pair a < b in one class
pub data Test : Type 0 where
  on : ℕ → Test
  same : ℕ → ℕ → Test

-- every test of n sites
unfoldable pub pairs_with : ℕ → ℕ → List Test
pairs_with n x = map (same x) (from (suc x) (n - suc x))

unfoldable pub tests : Book → List Test
tests b = map on (upto (length b.sites)) ++ flat (pairs_with (length b.sites)) (upto (length b.sites))

-- the rule constrains s; a and b are in one class of the rule
unfoldable pub has : Rule → Test → Bool
has r (on s) = constrains r s
has r (same x y) = linked r.pairs x y

-- not Unavailable, not Matched
abbrev pub testable : List ℕ → ℕ → Bool
testable st s = not (state st s is unavailable) && not (state st s is matched)

-- s is so; both sites are so, and not yet in one class on this path
unfoldable pub is_open : Scope → Test → Bool
is_open σ (on s) = testable σ.states s
is_open σ (same x y) = testable σ.states x && testable σ.states y && not (linked σ.joined x y)

-- COUNTS. Rule i's priority is at least rule j's
unfoldable pub at_least : Book → ℕ → ℕ → Bool
at_least b i j = le_z (rule b j).priority (rule b i).priority

-- rule j has the test, or does not rank above rule i
unfoldable pub no_bar : Book → Test → ℕ → ℕ → Bool
no_bar b t i j = has (rule b j) t || at_least b i j

-- rule i has the test, and its priority is at least the highest among W's rules that lack it; if none lacks it, that is no bar
unfoldable pub counts : Book → Test → List ℕ → ℕ → Bool
counts b t w i = has (rule b i) t && all (no_bar b t i) w

-- the counted rules, and those that stay in W
unfoldable pub counted : Book → Test → List ℕ → List ℕ
counted b t w = filter (counts b t w) w

unfoldable pub stays : Book → Test → List ℕ → ℕ → Bool
stays b t w i = not (counts b t w i)

unfoldable pub deferred : Book → Test → List ℕ → List ℕ
deferred b t w = filter (stays b t w) w

abbrev pub count : Book → List ℕ → Test → ℕ
count b w t = length (counted b t w)

-- CANDIDATES. A test no rule has is no candidate
unfoldable pub rule_has : Book → Test → ℕ → Bool
rule_has b t i = has (rule b i) t

unfoldable pub is_candidate : Book → Scope → List ℕ → Test → Bool
is_candidate b σ w t = is_open σ t && any (rule_has b t) w

unfoldable pub candidates : Book → Scope → List ℕ → List Test
candidates b σ w = filter (is_candidate b σ w) (tests b)

-- BEST: greatest count; then Emitted over Available, where a pair has the lesser state; then Match before Equal; then smaller ids
abbrev pub state_of : Scope → Test → ℕ
state_of σ (on s) = state σ.states s
state_of σ (same x y) = min (state σ.states x) (state σ.states y)

abbrev pub compare_tests : Test → Test → Ordering
compare_tests (on s) (on r) = compare s r
compare_tests (on s) (same x y) = Ordering.lt
compare_tests (same x y) (on s) = Ordering.gt
compare_tests (same x y) (same v w) = compare x v and_then compare y w

-- test t is better than test u
unfoldable pub better : Book → Scope → List ℕ → Test → Test → Bool
better b σ w t u =
    is_less (compare (count b w u) (count b w t) and_then compare (state_of σ u) (state_of σ t) and_then compare_tests t u)

abbrev pub best_of : (Test → Test → Bool) → List Test → Option Test
best_of better [] = none
best_of better (t ∷ ts) = some (champion better t ts)

unfoldable pub best : Book → Scope → List ℕ → Option Test
best b σ w = best_of (better b σ w) (candidates b σ w)

-- THE CHOICE of a block's next step: the best test; none where the best count is 0 or nothing is left
abbrev pub unless_zero : ℕ → Test → Option Test
unless_zero zero t = none
unless_zero (suc n) t = some t

abbrev pub chosen : (Test → ℕ) → Option Test → Option Test
chosen count none = none
chosen count (some t) = unless_zero (count t) t

unfoldable pub choice : Book → Scope → List ℕ → Option Test
choice b σ w = chosen (count b w) (best b σ w)
