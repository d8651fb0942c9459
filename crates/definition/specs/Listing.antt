-- The listing of a tree: plain text that fitters and the inspector read, one line a step or arm. A text is a list of bytes.
use Rattle.std.specs.Prelude.{List, [], ◌∷◌, ◌++◌, ℕ, zero, suc, ◌+◌, ◌/◌, ◌%◌, ℤ, pos, negsuc, if◌then◌else◌}
use Rattle.std.proofs.Math.Option.{Option, none, some}
use Prim.Native.Char.{code}
use Prim.Native.String.{String}
use Prim.Native.String as string
use Rattle.definition.specs.Lists.{◌below◌, flat}
use Rattle.definition.specs.Tree.{Block, Flow, Arms, end, step, match, equal, return, no_arms, arm}
use Rattle.definition.specs.Book.{Pattern}

-- the bytes of a quoted text; `\n` ends a line
abbrev pub text : String → List ℕ
text string.[] = []
text (string.◌∷◌ c s) = code c ∷ text s

-- NUMBERS
-- the byte of a digit
abbrev pub digit : ℕ → ℕ
digit d = 48 + d

-- n in at most k decimal digits, with no zeros in front
unfoldable pub digits : ℕ → ℕ → List ℕ
digits zero n = []
digits (suc k) n = (if n below 10 then [] else digits k (n / 10)) ++ (digit (n % 10) ∷ [])

-- a number of 32 bits has at most ten digits
unfoldable pub decimal : ℕ → List ℕ
decimal n = digits 10 n

-- a signed number is its sign and its magnitude: `pos n` is n, `negsuc n` is - (n + 1)
abbrev pub sign : ℤ → List ℕ
sign (pos n) = []
sign (negsuc n) = text "-"

abbrev pub magnitude : ℤ → ℕ
magnitude (pos n) = n
magnitude (negsuc n) = n + 1

unfoldable pub signed_decimal : ℤ → List ℕ
signed_decimal z = sign z ++ decimal (magnitude z)

-- tenths of a degree as degrees with one decimal: -400 tenths are -40.0 degrees
unfoldable pub degrees : ℤ → List ℕ
degrees z = sign z ++ decimal (magnitude z / 10) ++ text "." ++ decimal (magnitude z % 10)

-- a name and a number
unfoldable pub field : String → ℕ → List ℕ
field name n = text name ++ decimal n

-- LINES. A path is the numbers of the steps and arms that a step or arm stands in, the outermost first; i is its own number.
-- Two spaces for each number of the path
abbrev pub indent : List ℕ → List ℕ
indent p = flat (λ n. text "  ") p

-- each number of the path with a point behind it
abbrev pub points : List ℕ → List ℕ
points p = flat (λ n. decimal n ++ text ".") p

-- the beginning of a line: `    1.2.3 ` with path 1, 2 and number 3
unfoldable pub start : List ℕ → ℕ → List ℕ
start p i = indent p ++ points p ++ decimal i ++ text " "

unfoldable pub let_line : List ℕ → ℕ → List ℕ
let_line p s = indent p ++ field "let site " s ++ text "\n"

unfoldable pub match_line : List ℕ → ℕ → ℕ → List ℕ
match_line p i s = start p i ++ field "match site " s ++ text "\n"

unfoldable pub equal_line : List ℕ → ℕ → ℕ → ℕ → List ℕ
equal_line p i a b = start p i ++ field "equal sites " a ++ field " and " b ++ text "\n"

unfoldable pub return_line : List ℕ → ℕ → ℕ → ℕ → ℕ → List ℕ
return_line p i rule q result = start p i ++ field "return rule " rule ++ field " pos " q ++ field " result " result ++ text "\n"

-- PATTERNS. The kind in words, and its number; a ConstInt's number is an oil limit in tenths of a degree. A Some has number 0
unfoldable pub kind_text : ℕ → ℤ → List ℕ
kind_text zero z = text "ConstInt " ++ signed_decimal z ++ text " tenths = " ++ degrees z ++ text " degrees"
kind_text (suc zero) z = text "ConstPrim " ++ signed_decimal z
kind_text (suc (suc zero)) z = text "Variant " ++ signed_decimal z
kind_text (suc (suc (suc n))) z = text "Some"

-- a place names a site or is empty
unfoldable pub place_text : Option ℕ → List ℕ
place_text none = text " empty"
place_text (some s) = field " " s

-- where there is no place, nothing is said of places
abbrev pub places_text : List (Option ℕ) → List ℕ
places_text [] = []
places_text (q ∷ qs) = text " places" ++ flat place_text (q ∷ qs)

unfoldable pub arm_line : List ℕ → ℕ → Pattern → List (Option ℕ) → List ℕ
arm_line p i a ps = start p i ++ text "is " ++ kind_text a.kind a.number ++ places_text ps ++ text "\n"

-- TREES. Steps are numbered from 1 in each block, arms from 1 in each Match; a step's lets stand before it
unfoldable mutual
  -- the steps of a block, the first with number i
  pub steps_text : List ℕ → ℕ → Block → List ℕ
  steps_text p i end = []
  steps_text p i (step l f k) = flat (let_line p) l ++ flow_text p i f ++ steps_text p (i + 1) k

  pub flow_text : List ℕ → ℕ → Flow → List ℕ
  flow_text p i (match s as') = match_line p i s ++ arms_text (p ++ (i ∷ [])) 1 as'
  flow_text p i (equal a b k) = equal_line p i a b ++ steps_text (p ++ (i ∷ [])) 1 k
  flow_text p i (return rule q result) = return_line p i rule q result

  -- the arms of a Match, the first with number i
  pub arms_text : List ℕ → ℕ → Arms → List ℕ
  arms_text p i no_arms = []
  arms_text p i (arm a ps k as') = arm_line p i a ps ++ steps_text (p ++ (i ∷ [])) 1 k ++ arms_text p (i + 1) as'

unfoldable pub listing : Block → List ℕ
listing k = steps_text [] 1 k
