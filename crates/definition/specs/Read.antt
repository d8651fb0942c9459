-- Words back to a tree; what is no tree is refused with 11 (document 01, "Tree words").
-- A reader takes words and gives what stands first in them, with the words behind it, or none. `x ← r` goes on with what r read; where r reads none, so does the whole.
use Rattle.std.specs.Prelude.{Bool, true, false, ◌&&◌, List, [], ◌∷◌, map, ℕ, zero, suc, length, take, drop, if◌then◌else◌}
use Rattle.std.proofs.Math.Option.{Option, none, some}
use Rattle.definition.specs.Lists.{◌is◌, ◌below◌, ◌at_most◌, all}
use Rattle.definition.specs.Book.{Pattern, most}
use Rattle.definition.specs.Tables.{signed}
use Rattle.definition.specs.Accept.{pattern_ok}
use Rattle.definition.specs.Tree.{Block, Flow, Arms, end, step, match, equal, return, no_arms, arm, empty_place}

infixl 20 ◌>>=◌
abbrev pub ◌>>=◌ : {A B : Type 0} → Option A → (A → Option B) → Option B
◌>>=◌ (some a) f = f a
◌>>=◌ none f = none

-- go on if the test holds
abbrev pub guarded : {A : Type 0} → Bool → Option A → Option A
guarded true o = o
guarded false o = none

abbrev pub Reader : Type 0 → Type 0
Reader A = List ℕ → Option (A × List ℕ)

-- one word
abbrev pub number : Reader ℕ
number [] = none
number (x ∷ ws) = some (x, ws)

-- n words
abbrev pub numbers : ℕ → Reader (List ℕ)
numbers zero ws = some ([], ws)
numbers (suc n) [] = none
numbers (suc n) (x ∷ ws) = do
  r ← numbers n ws
  some (x ∷ r.0, r.1)

-- ids and rules are at most 251
unfoldable pub id_ok : ℕ → Bool
id_ok s = s below most

-- a place names a site or is empty
abbrev pub place_of : ℕ → Option ℕ
place_of w = if w is empty_place then none else some w

abbrev pub place_ok : Option ℕ → Bool
place_ok none = true
place_ok (some s) = id_ok s

-- let count, lets
unfoldable pub read_lets : Reader (List ℕ)
read_lets ws = do
  m ← number ws
  l ← numbers m.0 m.1
  guarded (all id_ok l.0) (some l)

-- one word a position
unfoldable pub read_places : ℕ → Reader (List (Option ℕ))
read_places n ws = do
  s ← numbers n ws
  let ps : List (Option ℕ) = map place_of s.0
  guarded (all place_ok ps) (some (ps, s.1))

-- pattern kind, field count, number; a pattern that a rule record may hold
unfoldable pub read_pattern : Reader (Pattern × List (Option ℕ))
read_pattern ws = do
  k ← number ws
  f ← number k.1
  z ← number f.1
  let p : Pattern = record { kind = k.0; number = signed z.0; fields = f.0 }
  s ← guarded (pattern_ok p) (read_places f.0 z.1)
  some ((p, s.0), s.1)

-- `sub` reads a nested block
unfoldable pub read_arm : Reader Block → Reader ((Pattern × List (Option ℕ)) × Block)
read_arm sub ws = do
  h ← read_pattern ws
  k ← sub h.1
  some ((h.0, k.0), k.1)

-- n arms
abbrev pub read_arms : Reader Block → ℕ → Reader Arms
read_arms sub zero ws = some (no_arms, ws)
read_arms sub (suc n) ws = do
  a ← read_arm sub ws
  r ← read_arms sub n a.1
  some (arm a.0.0.0 a.0.0.1 a.0.1 r.0, r.1)

-- what belongs to a tag. Tag 0: source, arm count, arms. Tag 1: a below b, block. Tag 3: rule, pos, result. No other tag
unfoldable pub read_flow : Reader Block → ℕ → Reader Flow
read_flow sub zero ws = do
  s ← number ws
  n ← number s.1
  r ← guarded (id_ok s.0) (read_arms sub n.0 n.1)
  some (match s.0 r.0, r.1)
read_flow sub (suc zero) ws = do
  x ← number ws
  y ← number x.1
  r ← guarded (x.0 below y.0 && id_ok y.0) (sub y.1)
  some (equal x.0 y.0 r.0, r.1)
read_flow sub (suc (suc zero)) ws = none
read_flow sub (suc (suc (suc zero))) ws = do
  i ← number ws
  p ← number i.1
  r ← number p.1
  guarded (id_ok i.0 && id_ok r.0) (some (return i.0 p.0 r.0, r.1))
read_flow sub (suc (suc (suc (suc n)))) ws = none

unfoldable pub read_tagged : Reader Block → Reader Flow
read_tagged sub ws = do
  t ← number ws
  read_flow sub t.0 t.1

-- lets, tag
unfoldable pub read_step : Reader Block → Reader (List ℕ × Flow)
read_step sub ws = do
  l ← read_lets ws
  f ← read_tagged sub l.1
  some ((l.0, f.0), f.1)

-- n steps
abbrev pub read_steps : Reader Block → ℕ → Reader Block
read_steps sub zero ws = some (end, ws)
read_steps sub (suc n) ws = do
  s ← read_step sub ws
  k ← read_steps sub n s.1
  some (step s.0.0 s.0.1 k.0, k.1)

-- step count, steps
unfoldable pub read_counted : Reader Block → Reader Block
read_counted sub ws = do
  c ← number ws
  read_steps sub c.0 c.1

-- words after this one, and a step count and steps that fill them
unfoldable pub read_framed : Reader Block → Reader Block
read_framed sub ws = do
  n ← number ws
  r ← guarded (n.0 at_most length n.1) (read_counted sub (take n.0 n.1))
  guarded (length r.1 is 0) (some (r.0, drop n.0 n.1))

-- a block in which at most n blocks stand one inside another, itself among them
unfoldable pub read_block : ℕ → Reader Block
read_block zero ws = none
read_block (suc n) ws = read_framed (read_block n) ws
