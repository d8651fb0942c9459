-- What a test is worth: one number that orders tests as document 01 does, greatest count, then greater state, then Match
-- before Equal, then smaller ids.
-- A test that is not open or counts no rule is worth 0.
use Rattle.std.specs.Prelude.{◌≡◌, Bool, true, false, ◌&&◌, ◌||◌, not, List, map, ℕ, ◌+◌, ◌-◌, ◌*◌, ◌/◌, ◌%◌, ◌≤◌, ◌<◌, max, min, length, get_or, take, if◌then◌else◌}
use Rattle.std.specs.Prelude.{None, Some}
use Rattle.std.specs.declared.option.Option as option_code
use Rattle.std.proofs.Math.Option.{Option, none, some}
use Rattle.definition.specs.Book.{most, slots, Pair, Rule, linked}
use Rattle.definition.specs.Choice.{Test, testable, choice, on, same}
use Rattle.definition.specs.Lists.{◌is◌, ◌below◌, ◌at_most◌, upto, filter}
use Rattle.definition.specs.Scope.{matched, state}
use Rattle.definition.specs.Tables.{rule_word, rule_at, book_of}
use Rattle.laws.specs.Ascending.{asc, Within, Distinct}
use Rattle.laws.specs.Greatest.{greatest}
use Rattle.sets.specs.View.{same_root}
use Rattle.tables.specs.Held.{rank_of, test_of, site_slot, end_slot}
use Rattle.order.specs.Parts.{Names, rule_tests, lack_top, passes_top}
use Rattle.tables.specs.declared.Test as code_test
use Rattle.tables.specs.declared.Test.TheVariants.{On, Same}
use Rattle.choice.specs.declared.asked.Asked.{Asked}
use Rattle.choice.specs.declared.Near.{Near}
use Rattle.choice.specs.declared.tests.Told.{Told}

unfoldable pub open_at : List ℕ → List ℕ → Test → Bool
open_at st root (on s) = testable st s
open_at st root (same x y) = testable st x && testable st y && not (same_root root x y)

unfoldable pub state_at : List ℕ → Test → ℕ
state_at st (on s) = state st s
state_at st (same x y) = min (state st x) (state st y)

-- the count of a test over a part
unfoldable pub count_of : List ℕ → Test → List ℕ → ℕ
count_of rules t part = length (filter (passes_top rules t (lack_top (rule_tests rules t) (rank_of rules) part)) part)

-- the same of a part beside which other rules raise the bar
unfoldable pub count_from : List ℕ → Test → List ℕ → ℕ → ℕ
count_from rules t part bar = length
    (filter (passes_top rules t (max bar (lack_top (rule_tests rules t) (rank_of rules) part))) part)

-- the ids of a test's sites are below n
abbrev pub SitesBelow : ℕ → Test → Type 0
SitesBelow n (on s) = s < n
SitesBelow n (same x y) = (x < n) × (y < n)

-- which rules of the part have the test, and how high the others are
pub record Tells (rules : List ℕ) (t : Test) (part : List ℕ) (r : Told) : Type 0 where
  pub marks : (k : ℕ) → k < length part → get_or r.had k false ≡ rule_tests rules t (get_or part k 0)
  pub raises : r.top ≡ lack_top (rule_tests rules t) (rank_of rules) part

-- tests in the order of the last tie; no code is above the last
abbrev pub last_code : ℕ
last_code = 65791

abbrev pub code_room : ℕ
code_room = 131072

-- room for the states, 0 to 3, above the codes
abbrev pub state_room : ℕ
state_room = 524288

unfoldable pub code : Test → ℕ
code (on s) = s
code (same x y) = 256 * x + y + 256

unfoldable pub key_of : ℕ → ℕ → ℕ → ℕ
key_of n s c = (n * 4 + s) * code_room + (last_code - c)

unfoldable pub worth : Bool → ℕ → ℕ → Test → ℕ
worth o n s t = if o && 0 below n then key_of n s (code t) else 0

unfoldable pub worth_of : List ℕ → List ℕ → List ℕ → List ℕ → Test → ℕ
worth_of rules st root part t = worth (open_at st root t) (count_of rules t part) (state_at st t) t

unfoldable pub worth_from : List ℕ → List ℕ → List ℕ → List ℕ → ℕ → Test → ℕ
worth_from rules st root part bar t = worth (open_at st root t) (count_from rules t part bar) (state_at st t) t

-- what a test is worth in what is asked
abbrev pub worth_in : Asked → Test → ℕ
worth_in a t = worth_from a.rules.now a.states.now a.root.now a.part.now a.bar t

-- the test of a worth
unfoldable pub of_code : ℕ → code_test.Test
of_code c = if c below 256 then On c else Same ((c - 256) / 256) ((c - 256) % 256)

unfoldable pub decoded : ℕ → option_code.Option code_test.Test
decoded k = if k is 0 || last_code below (k % code_room) then None else Some (of_code (last_code - k % code_room))

-- an answer of the code, as the definition's
abbrev pub shown_best : option_code.Option code_test.Test → Option Test
shown_best None = none
shown_best (Some t) = some (test_of t)

-- THE SEARCH: the greatest worth of the tests of the rules of highest priority
unfoldable pub match_worth : (Test → ℕ) → ℕ → ℕ
match_worth w s = w (on s)

unfoldable pub pair_worth : (Test → ℕ) → Rule → ℕ → ℕ → ℕ
pair_worth w r x y = if x below y && linked r.pairs x y then w (same x y) else 0

unfoldable pub constraints_worth : (Test → ℕ) → List ℕ → ℕ → ℕ
constraints_worth w rules i = greatest (match_worth w) (map (site_slot rules i) (upto (rule_word slots rules i 3)))

unfoldable pub end_worth : (Test → ℕ) → List ℕ → ℕ → ℕ → ℕ
end_worth w rules i x = greatest (pair_worth w (rule_at slots rules i) x)
    (map (end_slot rules i) (upto (2 * rule_word slots rules i 4)))

unfoldable pub pairs_worth : (Test → ℕ) → List ℕ → ℕ → ℕ
pairs_worth w rules i = greatest (end_worth w rules i) (map (end_slot rules i) (upto (2 * rule_word slots rules i 4)))

unfoldable pub rank_above : List ℕ → ℕ → ℕ
rank_above rules i = rank_of rules i + 1

unfoldable pub top_of : List ℕ → List ℕ → ℕ
top_of rules part = greatest (rank_above rules) part

unfoldable pub rule_worth : (Test → ℕ) → List ℕ → ℕ → ℕ → ℕ
rule_worth w rules top i = if rank_above rules i is top then max (constraints_worth w rules i) (pairs_worth w rules i) else 0

unfoldable pub part_worth : (Test → ℕ) → List ℕ → List ℕ → ℕ
part_worth w rules part = greatest (rule_worth w rules (top_of rules part)) part

-- NEAR RULES: those that may have a pair of rule i, whose ends are marked
pub record Marks (rules : List ℕ) (i : ℕ) (marks : List Bool) : Type 0 where
  pub each : (k : ℕ) → k < 2 * rule_word slots rules i 4 → get_or marks (end_slot rules i k) false ≡ true

unfoldable pub is_marked : List Bool → ℕ → Bool
is_marked marks s = get_or marks s false

unfoldable pub marked_ends : List ℕ → List Bool → ℕ → ℕ
marked_ends rules marks j = length (filter (is_marked marks) (map (end_slot rules j) (upto (2 * rule_word slots rules j 4))))

-- a rule with a pair of rule i has two marked ends
unfoldable pub is_near : List ℕ → List Bool → ℕ → Bool
is_near rules marks j = 2 at_most marked_ends rules marks j

-- the near rules of a part stand in front, and the others raise the bar
pub record Nears (rules : List ℕ) (marks : List Bool) (part : List ℕ) (r : Near) : Type 0 where
  pub fits : r.count ≤ length r.ids
  pub front : take r.count r.ids ≡ filter (is_near rules marks) part
  pub raises : r.bar ≡ lack_top (is_near rules marks) (rank_of rules) part

-- WHAT A CALLER KNOWS. The roots say of two different ids what the pairs joined on the path say
pub record Joined (root : List ℕ) (joined : List Pair) : Type 0 where
  pub agrees : (x y : ℕ) → x < most → y < most → (x ≡ y → ⊥) → same_root root x y ≡ linked joined x y

-- a part of distinct rules of a book of S sites and R rules, in a scope
pub record Stands (S R : ℕ) (rules states root part : List ℕ) (joined : List Pair) : Type 0 where
  pub few : S ≤ most
  pub names : Names S rules part
  pub states_ok : (k : ℕ) → get_or states k 0 ≤ matched
  pub within : Within R part
  pub distinct : Distinct part
  pub classes : Joined root joined

-- THE ANSWER: the definition's choice, whatever the sites' table and the pairs joined
pub record Chosen (rules states root part : List ℕ) (r : option_code.Option code_test.Test) : Type 0 where
  pub answer : (S R : ℕ) (sites : List ℕ) (joined : List Pair) → Stands S R rules states root part joined
      → shown_best r ≡ choice (book_of slots S R sites rules) (record { states = states; joined = joined }) (asc R part)
