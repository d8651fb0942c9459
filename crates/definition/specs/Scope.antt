-- States of sites, let lists and scopes (document 01, "Sites and let lists").
use Rattle.std.specs.Prelude.{Bool, true, false, ◌&&◌, ◌||◌, not, List, [], ◌∷◌, ◌++◌, ℕ, zero, suc, get_or, length, set, replicate, if◌then◌else◌}
use Rattle.definition.specs.Lists.{◌is◌, ◌below◌, every, same_number, empty, heads, all, each}
use Rattle.definition.specs.Book.{Pattern, Pair, Site, Book, most, site}

-- STATES, each greater than the one before
abbrev pub unavailable : ℕ
unavailable = 0

abbrev pub available : ℕ
available = 1

abbrev pub emitted : ℕ
emitted = 2

abbrev pub matched : ℕ
matched = 3

-- a list of states has one for each site
abbrev pub state : List ℕ → ℕ → ℕ
state st s = get_or st s unavailable

unfoldable pub is_there : List ℕ → ℕ → Bool
is_there st s = unavailable below state st s

-- An Unavailable site not of kind 7 becomes Available if no source of it is Unavailable
unfoldable pub ready : Book → List ℕ → ℕ → Bool
ready b st s = every (
    state st s is unavailable
    ∷ not ((site b s).kind is 7)
    ∷ all (is_there st) (site b s).sources
    ∷ [])

-- of the first n sites, in id order, each that passes the test takes state v
abbrev pub sweep : (List ℕ → ℕ → Bool) → ℕ → ℕ → List ℕ → List ℕ
sweep test v zero st = st
sweep test v (suc n) st = let st' = sweep test v n st in if test st' n then set st' n v else st'

-- availability worked out
unfoldable pub worked_out : Book → List ℕ → List ℕ
worked_out b st = sweep (ready b) available (length b.sites) st

-- LET LISTS. The states, and the sites listed so far
pub record Use : Type 0 where
  pub states : List ℕ
  pub lets : List ℕ

-- Kinds 0 to 3, and 4 or 5 without sources, are never listed
unfoldable pub never_listed : Site → Bool
never_listed x = x.kind below 4 || (x.kind below 6 && empty x.sources)

unfoldable pub mark : ℕ → Use → Use
mark s u = record { states = set u.states s emitted; lets = u.lets }

unfoldable pub add_let : Book → ℕ → Use → Use
add_let b s u = record { states = u.states; lets = if never_listed (site b s) then u.lets else u.lets ++ (s ∷ []) }

-- Using a site below Emitted marks it Emitted, uses its sources in listed order, then adds it to the let list.
-- The first number is above s: the id falls at every call, since a source has a smaller id than its site
unfoldable pub use_below : ℕ → Book → ℕ → Use → Use
use_below zero b s u = u
use_below (suc n) b s u =
    elim (state u.states s below emitted) [
      | true ↦ add_let b s (each (use_below n b) (site b s).sources (mark s u))
      | false ↦ u
    ]

unfoldable pub use_site : Book → ℕ → Use → Use
use_site b s u = use_below (suc s) b s u

-- sites used one after another, from states with nothing listed yet
unfoldable pub use_all : Book → List ℕ → List ℕ → Use
use_all b ss st = each (use_site b) ss (record { states = st; lets = [] })

-- SCOPES. The state of every site, and the pairs joined on the path
pub record Scope : Type 0 where
  pub states : List ℕ
  pub joined : List Pair

-- 252 of them, all Unavailable at first
unfoldable pub nowhere : List ℕ
nowhere = replicate most unavailable

-- the scope of the root block
unfoldable pub root : Book → Scope
root b = record { states = worked_out b nowhere; joined = [] }

-- x is a kind 7 site of that source and pattern, its position below the field count
unfoldable pub binds : ℕ → Pattern → Site → Bool
binds s p x = every (
    x.kind is 7
    ∷ heads s x.sources
    ∷ x.pattern is p.kind
    ∷ same_number x.number p.number
    ∷ x.position below p.fields
    ∷ [])

unfoldable pub bound_by : Book → ℕ → Pattern → List ℕ → ℕ → Bool
bound_by b s p st x = binds s p (site b x)

unfoldable pub emit_bound : Book → ℕ → Pattern → List ℕ → List ℕ
emit_bound b s p st = sweep (bound_by b s p) emitted (length b.sites) st

-- In an arm the source becomes Matched, the kind 7 sites of that source and pattern become Emitted, and availability is worked out again
unfoldable pub arm_states : Book → List ℕ → ℕ → Pattern → List ℕ
arm_states b st s p = worked_out b (emit_bound b s p (set st s matched))

unfoldable pub inside : Book → Scope → ℕ → Pattern → Scope
inside b σ s p = record { states = arm_states b σ.states s p; joined = σ.joined }

-- Equal joins its classes inside only
abbrev pub joining : Scope → ℕ → ℕ → Scope
joining σ x y = record { states = σ.states; joined = record { a = x; b = y } ∷ σ.joined }
