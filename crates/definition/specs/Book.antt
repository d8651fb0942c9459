-- A book as data (document 01, "The book"): its sites, its rules, and what a rule asks.
use Rattle.std.specs.Prelude.{Bool, List, [], ◌∷◌, ℕ, ℤ, pos, get_or, if◌then◌else◌}
use Rattle.definition.specs.Lists.{◌is◌, any}

-- S and R are each 0 to 252, so an id is at most 251
abbrev pub most : ℕ
most = 252

-- Slots of a rule record: constraints, pairs and impure sites
abbrev pub slots : ℕ
slots = 4

abbrev pub pair_slots : ℕ
pair_slots = 4

abbrev pub impure_slots : ℕ
impure_slots = 4

-- UNITS. On an oil site the number of a pattern is an oil limit: a signed number of tenths of a degree, so that 85 is 8.5 degrees.
-- Nothing else in a book has a unit.

-- Pattern kinds: 0 ConstInt, 1 ConstPrim, 2 Variant, 3 Some
pub record Pattern : Type 0 where
  pub kind : ℕ
  pub number : ℤ
  pub fields : ℕ

-- Site kinds: 0 Argument, 1 ConstInt, 2 ConstPrim, 3 MatchTuple, 4 MakeVariant, 5 MakeStruct, 6 any other expression, 7 bound by a pattern.
-- Pattern kind, position and number are those of a kind 7 site; of any other site nothing reads them
pub record Site : Type 0 where
  pub kind : ℕ
  pub sources : List ℕ
  pub pattern : ℕ
  pub position : ℕ
  pub number : ℤ

pub record Constraint : Type 0 where
  pub site : ℕ
  pub pattern : Pattern

pub record Pair : Type 0 where
  pub a : ℕ
  pub b : ℕ

pub record Rule : Type 0 where
  pub priority : ℤ
  pub pos : ℕ
  pub result : ℕ
  pub constraints : List Constraint
  pub pairs : List Pair
  pub impure : List ℕ

pub record Book : Type 0 where
  pub sites : List Site
  pub rules : List Rule

-- SITE s AND RULE i. What stands behind the ends of the lists is never read of an accepted book
unfoldable pub no_site : Site
no_site = record { kind = 0; sources = []; pattern = 0; position = 0; number = pos 0 }

unfoldable pub no_rule : Rule
no_rule = record { priority = pos 0; pos = 0; result = 0; constraints = []; pairs = []; impure = [] }

unfoldable pub site : Book → ℕ → Site
site b s = get_or b.sites s no_site

unfoldable pub rule : Book → ℕ → Rule
rule b i = get_or b.rules i no_rule

-- WHAT A RULE ASKS
unfoldable pub is_on : ℕ → Constraint → Bool
is_on s c = c.site is s

unfoldable pub constrains : Rule → ℕ → Bool
constrains r s = any (is_on s) r.constraints

-- the pattern that the first constraint on s asks
abbrev pub pattern_in : List Constraint → ℕ → Pattern
pattern_in [] s = record { kind = 0; number = pos 0; fields = 0 }
pattern_in (c ∷ cs) s = if c.site is s then c.pattern else pattern_in cs s

-- the pattern that a rule asks of a site that it constrains
unfoldable pub pattern_on : Rule → ℕ → Pattern
pattern_on r s = pattern_in r.constraints s

-- CLASSES. Pairs join sites into classes. Each site has a label, at first its own id; to join a and b is to give a's label to all that have b's.
-- The pairs are joined from the last of the list to the first
abbrev pub label : List Pair → ℕ → ℕ
label [] x = x
label (p ∷ ps) x = if label ps x is label ps p.b then label ps p.a else label ps x

-- x and y are in one class
unfoldable pub linked : List Pair → ℕ → ℕ → Bool
linked ps x y = label ps x is label ps y
