-- Blocks, steps and the tree of a book (document 01, "How a block is made").
use Rattle.std.specs.Prelude.{Bool, ◌&&◌, not, List, [], ◌∷◌, ◌++◌, map, length, if◌then◌else◌}
use Rattle.std.proofs.Math.Option.{Option, none, some}
use Prim.Native.Nat.{ℕ, zero, suc, compare, Ordering}
use Rattle.std.proofs.Math.Dec.{compare_is_eq}
use Rattle.definition.specs.Lists.{◌is◌, ◌and_then◌, compare_signed, upto, filter, first}
use Rattle.definition.specs.Book.{Pattern, Rule, Book, site, rule, pattern_on}
use Rattle.definition.specs.Scope.{use_all, Scope, root, binds, inside, joining}
use Rattle.definition.specs.Choice.{Test, on, same, at_least, counted, deferred, choice}
use Rattle.definition.specs.Tree.{Block, Flow, Arms, end, step, match, equal, return, no_arms, arm, nesting}

-- RETURNS: priority descending, then index
unfoldable pub outranks : Book → ℕ → ℕ → Bool
outranks b j i = not (at_least b i j)

-- i goes behind those that outrank it; W ascends, so that it goes in front of those of its own priority
abbrev pub rank : (ℕ → ℕ → Bool) → ℕ → List ℕ → List ℕ
rank above i [] = i ∷ []
rank above i (j ∷ js) = if above j i then j ∷ rank above i js else i ∷ j ∷ js

abbrev pub ranked : (ℕ → ℕ → Bool) → List ℕ → List ℕ
ranked above [] = []
ranked above (i ∷ js) = rank above i (ranked above js)

-- each first uses its impure sites in order, then its result
unfoldable pub uses_of : Rule → List ℕ
uses_of r = r.impure ++ (r.result ∷ [])

unfoldable pub return_steps : Book → List ℕ → List ℕ → Block
return_steps b st [] = end
return_steps b st (i ∷ js) =
    let r = rule b i in
    let u = use_all b (uses_of r) st in
    step u.lets (return i r.pos r.result) (return_steps b u.states js)

unfoldable pub returns : Book → Scope → List ℕ → Block
returns b σ w = return_steps b σ.states (ranked (outranks b) w)

-- ARMS: ordered by kind, signed number, field count
unfoldable pub compare_patterns : Pattern → Pattern → Ordering
compare_patterns p q = compare p.kind q.kind and_then compare_signed p.number q.number and_then compare p.fields q.fields

unfoldable pub same_pattern : Pattern → Pattern → Bool
same_pattern p q = compare_is_eq (compare_patterns p q)

-- a pattern into ascending ones, unless it stands there
abbrev pub put_at : Ordering → Pattern → Pattern → List Pattern → List Pattern → List Pattern
put_at Ordering.lt p q qs later = p ∷ q ∷ qs
put_at Ordering.eq p q qs later = q ∷ qs
put_at Ordering.gt p q qs later = q ∷ later

abbrev pub insert : Pattern → List Pattern → List Pattern
insert p [] = p ∷ []
insert p (q ∷ qs) = put_at (compare_patterns p q) p q qs (insert p qs)

-- the patterns that the rules of W ask of site s, ascending
abbrev pub patterns : Book → ℕ → List ℕ → List Pattern
patterns b s [] = []
patterns b s (i ∷ js) = insert (pattern_on (rule b i) s) (patterns b s js)

-- A Match groups its rules by pattern
unfoldable pub asks_for : Book → ℕ → Pattern → ℕ → Bool
asks_for b s p i = same_pattern (pattern_on (rule b i) s) p

unfoldable pub asking : Book → ℕ → Pattern → List ℕ → List ℕ
asking b s p w = filter (asks_for b s p) w

-- each place names the site bound at its position, or is empty
unfoldable pub stands_at : Book → ℕ → Pattern → ℕ → ℕ → Bool
stands_at b s p k x = binds s p (site b x) && (site b x).position is k

unfoldable pub place_at : Book → ℕ → Pattern → ℕ → Option ℕ
place_at b s p k = first (stands_at b s p k) (upto (length b.sites))

unfoldable pub places : Book → ℕ → Pattern → List (Option ℕ)
places b s p = map (place_at b s p) (upto p.fields)

-- STEPS. `sub` makes a nested block from its scope and its rules
unfoldable pub arms : Book → (Scope → List ℕ → Block) → Scope → ℕ → List ℕ → List Pattern → Arms
arms b sub σ s w [] = no_arms
arms b sub σ s w (p ∷ ps) = arm p (places b s p) (sub (inside b σ s p) (asking b s p w)) (arms b sub σ s w ps)

unfoldable pub flow : Book → (Scope → List ℕ → Block) → Scope → Test → List ℕ → Flow
flow b sub σ (on s) w = match s (arms b sub σ s w (patterns b s w))
flow b sub σ (same x y) w = equal x y (sub (joining σ x y) w)

-- the tested sites, a before b
abbrev pub tested : Test → List ℕ
tested (on s) = s ∷ []
tested (same x y) = x ∷ y ∷ []

-- what using them lists, and the scope after it
abbrev pub lets_of : Book → Scope → Test → List ℕ
lets_of b σ t = (use_all b (tested t) σ.states).lets

abbrev pub after : Book → Scope → Test → Scope
after b σ t = record { states = (use_all b (tested t) σ.states).states; joined = σ.joined }

-- If the best count is 0 or nothing is left, W's rules become Return steps. Otherwise the counted rules leave W, the tested sites are used,
-- and the step is made. Each step takes a rule of W at least, so that k, at first the size of W, bounds their number
unfoldable pub steps : Book → (Scope → List ℕ → Block) → ℕ → Scope → List ℕ → Block
steps b sub zero σ w = returns b σ w
steps b sub (suc k) σ w =
    elim (choice b σ w) [
      | none ↦ returns b σ w
      | some t ↦ step (lets_of b σ t) (flow b sub (after b σ t) t (counted b t w)) (steps b sub k (after b σ t) (deferred b t w))
    ]

-- BLOCKS. A block with at most n blocks one inside another below it; that `nesting` is never too few is a theorem
unfoldable pub block : Book → ℕ → Scope → List ℕ → Block
block b zero σ w = returns b σ w
block b (suc n) σ w = steps b (block b n) (length w) σ w

unfoldable pub tree : Book → Block
tree b = block b nesting (root b) (upto (length b.rules))
