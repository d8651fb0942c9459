-- The tests behind refusals 4 to 8 (document 01, "The book" and "Refusal numbers"), on a book as data. A test that fails gives its number.
use Rattle.std.specs.Prelude.{Bool, true, ◌&&◌, ◌||◌, not, List, [], ◌∷◌, ◌++◌, map, ℕ, zero, suc, pos, get_or, length, if◌then◌else◌}
use Rattle.definition.specs.Lists.{◌is◌, ◌below◌, ◌at_most◌, ◌implies◌, every, same_number, upto, heads, all, any, flat}
use Rattle.definition.specs.Book.{Pattern, Pair, Site, Constraint, Rule, Book, pair_slots, impure_slots, site, is_on, constrains}

-- 4: A SITE RECORD BREAKS ITS RULES
-- kinds 0 to 2 have no source, kind 3 one, kinds 4 to 6 at most four; kind 7 has one, pattern kind 2 or 3, and for Some position and number 0
unfoldable pub shape_ok : Site → Bool
shape_ok x = every (
    x.kind at_most 7
    ∷ (x.kind below 3 implies length x.sources is 0)
    ∷ (x.kind is 3 implies length x.sources is 1)
    ∷ length x.sources at_most 4
    ∷ (x.kind is 7 implies length x.sources is 1)
    ∷ (x.kind is 7 implies (x.pattern is 2 || x.pattern is 3))
    ∷ (x.kind is 7 && x.pattern is 3 implies x.position is 0 && same_number x.number (pos 0))
    ∷ [])

-- two kind 7 sites share source, pattern kind, number and position
unfoldable pub twins : Site → Site → Bool
twins x y = every (
    x.kind is 7
    ∷ y.kind is 7
    ∷ get_or x.sources 0 0 is get_or y.sources 0 0
    ∷ x.pattern is y.pattern
    ∷ same_number x.number y.number
    ∷ x.position is y.position
    ∷ [])

unfoldable pub smaller_than : ℕ → ℕ → Bool
smaller_than s r = r below s

unfoldable pub no_twin : Book → ℕ → ℕ → Bool
no_twin b s r = not (twins (site b r) (site b s))

-- a source has a smaller id than its site; no earlier site is a twin
unfoldable pub site_ok : Book → ℕ → Bool
site_ok b s = every (
    shape_ok (site b s)
    ∷ all (smaller_than s) (site b s).sources
    ∷ all (no_twin b s) (upto s)
    ∷ [])

unfoldable pub sites_ok : Book → Bool
sites_ok b = all (site_ok b) (upto (length b.sites))

-- 5: A RULE RECORD BREAKS ITS RULES, OR NAMES AN ID OF S OR MORE
-- ConstInt and ConstPrim have no fields, Variant at most four, Some one and number 0
unfoldable pub pattern_ok : Pattern → Bool
pattern_ok p = every (
    p.kind at_most 3
    ∷ (p.kind below 2 implies p.fields is 0)
    ∷ (p.kind is 2 implies p.fields at_most 4)
    ∷ (p.kind is 3 implies p.fields is 1 && same_number p.number (pos 0))
    ∷ [])

unfoldable pub constraint_ok : ℕ → Constraint → Bool
constraint_ok S c = c.site below S && pattern_ok c.pattern

-- a pair names two different sites
unfoldable pub pair_ok : ℕ → Pair → Bool
pair_ok S p = p.a below S && p.b below S && not (p.a is p.b)

-- a rule constrains a site at most once
abbrev pub once : List Constraint → Bool
once [] = true
once (c ∷ cs) = not (any (is_on c.site) cs) && once cs

-- a rule of a book of S sites, at most n constraints in it
unfoldable pub rule_ok : ℕ → ℕ → Rule → Bool
rule_ok n S r = every (
    length r.constraints at_most n
    ∷ length r.pairs at_most pair_slots
    ∷ length r.impure at_most impure_slots
    ∷ r.result below S
    ∷ all (constraint_ok S) r.constraints
    ∷ once r.constraints
    ∷ all (pair_ok S) r.pairs
    ∷ all (smaller_than S) r.impure
    ∷ [])

unfoldable pub rules_ok : ℕ → Book → Bool
rules_ok n b = all (rule_ok n (length b.sites)) b.rules

-- 6: SAME SITE, PATTERN KIND AND NUMBER WITH TWO FIELD COUNTS, IN ANY RULES
unfoldable pub fields_agree : Constraint → Constraint → Bool
fields_agree c d =
    c.site is d.site && c.pattern.kind is d.pattern.kind && same_number c.pattern.number d.pattern.number
    implies c.pattern.fields is d.pattern.fields

unfoldable pub constraints_of : Rule → List Constraint
constraints_of r = r.constraints

unfoldable pub agrees_with : List Constraint → Constraint → Bool
agrees_with cs c = all (fields_agree c) cs

unfoldable pub fields_ok : Book → Bool
fields_ok b = all (agrees_with (flat constraints_of b.rules)) (flat constraints_of b.rules)

-- 7: ONE RULE BOTH CONSTRAINS A SITE AND NAMES IT IN A PAIR
unfoldable pub pair_apart : Rule → Pair → Bool
pair_apart r p = not (constrains r p.a) && not (constrains r p.b)

unfoldable pub apart : Rule → Bool
apart r = all (pair_apart r) r.pairs

unfoldable pub apart_ok : Book → Bool
apart_ok b = all apart b.rules

-- 8: A RULE REACHES A KIND 7 SITE THAT IT DOES NOT GRANT
-- c constrains the source of x with x's pattern kind and number, and x's position is below the field count
unfoldable pub grants : Site → Constraint → Bool
grants x c = every (
    heads c.site x.sources
    ∷ c.pattern.kind is x.pattern
    ∷ same_number c.pattern.number x.number
    ∷ x.position below c.pattern.fields
    ∷ [])

unfoldable pub granted : Rule → Site → Bool
granted r x = any (grants x) r.constraints

-- s is granted if it is of kind 7, and so is every site that it reaches through sources. The first number is above s: ids fall from site to source
unfoldable pub sound_below : ℕ → Book → Rule → ℕ → Bool
sound_below zero b r s = true
sound_below (suc n) b r s = ((site b s).kind is 7 implies granted r (site b s)) && all (sound_below n b r) (site b s).sources

unfoldable pub sound_from : Book → Rule → ℕ → Bool
sound_from b r s = sound_below (suc s) b r s

-- the sites that a rule names: of its constraints, its pairs, its impure sites, its result
unfoldable pub site_of : Constraint → ℕ
site_of c = c.site

unfoldable pub ends : Pair → List ℕ
ends p = p.a ∷ p.b ∷ []

unfoldable pub named : Rule → List ℕ
named r = map site_of r.constraints ++ flat ends r.pairs ++ r.impure ++ (r.result ∷ [])

unfoldable pub sound : Book → Rule → Bool
sound b r = all (sound_from b r) (named r)

unfoldable pub sound_ok : Book → Bool
sound_ok b = all (sound b) b.rules

-- THE LOWEST NUMBER WINS: the number of the first test that fails, the first of them having number k; 0 if all hold
abbrev pub lowest : ℕ → List Bool → ℕ
lowest k [] = 0
lowest k (t ∷ ts) = if t then lowest (suc k) ts else k

-- the tests 6, 7 and 8
abbrev pub book_tests : Book → List Bool
book_tests b = fields_ok b ∷ apart_ok b ∷ sound_ok b ∷ []
