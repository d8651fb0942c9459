-- A book as two tables of 32-bit words (document 01, "The book"): a word a field, in record order, zero bytes left out.
use Rattle.std.specs.Prelude.{Bool, true, List, [], ◌∷◌, map, ℕ, ◌+◌, ◌-◌, ◌*◌, ℤ, pos, negsuc, get_or, if◌then◌else◌}
use Rattle.definition.specs.Lists.{◌is◌, ◌below◌, every, all, from, upto}
use Rattle.definition.specs.Book.{Pair, Site, Constraint, Rule, Book, pair_slots, impure_slots}

-- word k of a list, 0 behind its end
abbrev pub word_at : List ℕ → ℕ → ℕ
word_at t k = get_or t k 0

-- a word as a signed number: two's complement in 32 bits
abbrev pub signed : ℕ → ℤ
signed w = if w below 0x8000_0000 then pos w else negsuc (0xFFFF_FFFF - w)

-- SITES, 6 words each: kind, source count, four sources; of kind 7: kind, 1, source, pattern kind, position, number
abbrev pub site_words : ℕ
site_words = 6

-- word k of site s
abbrev pub site_word : List ℕ → ℕ → ℕ → ℕ
site_word t s k = word_at t (site_words * s + k)

unfoldable pub source_at : List ℕ → ℕ → ℕ → ℕ
source_at t s k = site_word t s (2 + k)

unfoldable pub site_at : List ℕ → ℕ → Site
site_at t s = record {
  kind = site_word t s 0;
  sources = map (source_at t s) (upto (site_word t s 1));
  pattern = if site_word t s 0 is 7 then site_word t s 3 else 0;
  position = if site_word t s 0 is 7 then site_word t s 4 else 0;
  number = if site_word t s 0 is 7 then signed (site_word t s 5) else pos 0;
}

-- RULES of n constraint slots, 18 + 4n words each: priority, pos, result, three counts; n constraints of site, pattern kind, field count
-- and number; four pairs; four impure sites
abbrev pub rule_words : ℕ → ℕ
rule_words n = 18 + 4 * n

-- word k of rule i
abbrev pub rule_word : ℕ → List ℕ → ℕ → ℕ → ℕ
rule_word n t i k = word_at t (rule_words n * i + k)

-- the first word of constraint k, of pair k, of impure site k
abbrev pub constraint_start : ℕ → ℕ
constraint_start k = 6 + 4 * k

abbrev pub pair_start : ℕ → ℕ → ℕ
pair_start n k = 6 + 4 * n + 2 * k

abbrev pub impure_start : ℕ → ℕ → ℕ
impure_start n k = 14 + 4 * n + k

unfoldable pub constraint_at : ℕ → List ℕ → ℕ → ℕ → Constraint
constraint_at n t i k = record {
  site = rule_word n t i (constraint_start k);
  pattern = record {
    kind = rule_word n t i (constraint_start k + 1);
    number = signed (rule_word n t i (constraint_start k + 3));
    fields = rule_word n t i (constraint_start k + 2);
  };
}

unfoldable pub pair_at : ℕ → List ℕ → ℕ → ℕ → Pair
pair_at n t i k = record { a = rule_word n t i (pair_start n k); b = rule_word n t i (pair_start n k + 1) }

unfoldable pub impure_at : ℕ → List ℕ → ℕ → ℕ → ℕ
impure_at n t i k = rule_word n t i (impure_start n k)

unfoldable pub rule_at : ℕ → List ℕ → ℕ → Rule
rule_at n t i = record {
  priority = signed (rule_word n t i 0);
  pos = rule_word n t i 1;
  result = rule_word n t i 2;
  constraints = map (constraint_at n t i) (upto (rule_word n t i 3));
  pairs = map (pair_at n t i) (upto (rule_word n t i 4));
  impure = map (impure_at n t i) (upto (rule_word n t i 5));
}

-- THE BOOK that the tables of S sites and R rules are
unfoldable pub book_of : ℕ → ℕ → ℕ → List ℕ → List ℕ → Book
book_of n S R sites rules = record { sites = map (site_at sites) (upto S); rules = map (rule_at n rules) (upto R) }

-- UNUSED FIELDS ARE ZERO
unfoldable pub is_zero : List ℕ → ℕ → Bool
is_zero t i = word_at t i is 0

-- k of them, from o on
abbrev pub zero_from : List ℕ → ℕ → ℕ → Bool
zero_from t o k = all (is_zero t) (from o k)

-- a site other than kind 7: the sources behind its count
unfoldable pub site_tidy : List ℕ → ℕ → Bool
site_tidy t s = if site_word t s 0 is 7 then true else zero_from t (site_words * s + (2 + site_word t s 1)) (4 - site_word t s 1)

-- a rule: the constraints, pairs and impure sites behind their counts
unfoldable pub rule_tidy : ℕ → List ℕ → ℕ → Bool
rule_tidy n t i = every (
    zero_from t (rule_words n * i + constraint_start (rule_word n t i 3)) (4 * (n - rule_word n t i 3))
    ∷ zero_from t (rule_words n * i + pair_start n (rule_word n t i 4)) (2 * (pair_slots - rule_word n t i 4))
    ∷ zero_from t (rule_words n * i + impure_start n (rule_word n t i 5)) (impure_slots - rule_word n t i 5)
    ∷ [])
