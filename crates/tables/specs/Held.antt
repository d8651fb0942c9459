-- Which records of the tables may be read, and how words are read as priorities, patterns and tests.
use Rattle.std.specs.Prelude.{◌≡◌, ℕ, ◌+◌, ◌-◌, ◌*◌, ◌%◌, ◌^◌, ◌<◌, ◌≤◌, Bool, false, ◌||◌, List, Option, None, Some, map, length, slice_index}
use Rattle.definition.specs.Book.{slots, pair_slots, impure_slots, Pattern, Pair, label}
use Rattle.definition.specs.Choice.{Test, on, same}
use Rattle.definition.specs.Lists.{◌is◌, from, any}
use Rattle.definition.specs.Tables.{site_words, site_word, rule_words, rule_word, constraint_start, pair_start, pair_at, rule_at}
use Rattle.tables.specs.declared.Pattern as pattern_code
use Rattle.tables.specs.declared.Test as test_code
use Rattle.tables.specs.declared.Test.TheVariants.{On, Same}

-- site s stands in the table, and its count is that of a site record
pub record Sited (t : List ℕ) (s : ℕ) : Type 0 where
  pub inside : site_words * s + site_words ≤ length t
  pub sources : site_word t s 1 ≤ 4

-- rule i stands in the table, and its counts are those of a rule record
pub record Held (t : List ℕ) (i : ℕ) : Type 0 where
  pub inside : rule_words slots * i + rule_words slots ≤ length t
  pub constraints : rule_word slots t i 3 ≤ slots
  pub pairs : rule_word slots t i 4 ≤ pair_slots
  pub impure : rule_word slots t i 5 ≤ impure_slots

-- words of 32 bits
abbrev pub Words : List ℕ → Type 0
Words t = (k : ℕ) → slice_index t k < 2 ^ 32

-- a word with its sign's bit turned: the order of these is the order of the signed numbers
abbrev pub biased : ℕ → ℕ
biased w = (w + 2 ^ 31) % 2 ^ 32

-- rule i's priority, so turned
abbrev pub rank_of : List ℕ → ℕ → ℕ
rank_of t i = biased (rule_word slots t i 0)

-- a pattern of the code, as the definition's
abbrev pub shown : pattern_code.Pattern → Pattern
shown p = record { kind = p.kind; number = p.number; fields = p.fields }

-- a test of the code, as the definition's
abbrev pub test_of : test_code.Test → Test
test_of (On s) = on s
test_of (Same x y) = same x y

-- the last n pairs of rule i
unfoldable pub last_pairs : List ℕ → ℕ → ℕ → List Pair
last_pairs t i n = map (pair_at slots t i) (from (rule_word slots t i 4 - n) n)

-- x is an end of the pair
unfoldable pub is_end : ℕ → Pair → Bool
is_end x p = p.a is x || p.b is x

-- the site of constraint k of rule i; end k of its pairs, their first and second ids in a row
abbrev pub site_slot : List ℕ → ℕ → ℕ → ℕ
site_slot t i k = rule_word slots t i (constraint_start k)

abbrev pub end_slot : List ℕ → ℕ → ℕ → ℕ
end_slot t i k = rule_word slots t i (pair_start slots 0 + k)

-- r is the place of the first constraint on s, and None where there is none
abbrev pub FirstOn : List ℕ → ℕ → ℕ → Option ℕ → Type 0
FirstOn t i s None = (j : ℕ) → j < rule_word slots t i 3 → site_slot t i j ≡ s → ⊥
FirstOn t i s (Some k) = (k < rule_word slots t i 3) × (site_slot t i k ≡ s) × ((j : ℕ) → j < k → site_slot t i j ≡ s → ⊥)

-- l has the labels of the ends of rule i's pairs after its last n pairs are joined
pub record Labels (t : List ℕ) (i n : ℕ) (l : List ℕ) : Type 0 where
  pub long : length l ≡ 8
  pub each : (k : ℕ) → k < 8 → slice_index l k ≡ label (last_pairs t i n) (end_slot t i k)

-- r is the place of x among those ends, and None where it is none of them
abbrev pub Ended : List ℕ → ℕ → ℕ → Option ℕ → Type 0
Ended t i x None = any (is_end x) (rule_at slots t i).pairs ≡ false
Ended t i x (Some r) = (r < 8) × (end_slot t i r ≡ x)

-- the ids that rule i's tests name are below n
pub record Named (n : ℕ) (t : List ℕ) (i : ℕ) : Type 0 where
  pub sites : (k : ℕ) → k < rule_word slots t i 3 → site_slot t i k < n
  pub ends : (k : ℕ) → k < 2 * rule_word slots t i 4 → end_slot t i k < n
