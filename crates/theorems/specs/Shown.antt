-- Nothing is hidden in a listing: two different trees have two different listings.
use Rattle.std.specs.Prelude.{◌≡◌, refl, ◌⊎◌, ℕ, suc, ◌+◌, ◌<◌, ◌≤◌, length}
use Rattle.std.proofs.Common.{sym, ap, ap₂, subst, ◌∙◌, inl, inr, arith, length-append}
use mathlib.Core.List.{List, [], ◌∷◌, ◌++◌, append_assoc, append_cancel_left, append-nil, head-eq_of_cons-eq, tail-eq_of_cons-eq, nil≢cons}
use Rattle.std.proofs.Math.Option.{Option}
use Rattle.definition.specs.Lists.{flat}
use Rattle.definition.specs.Book.{Pattern}
use Rattle.definition.specs.Tree.{Block, Flow, Arms, end, step, match, equal, return, no_arms, arm}
use Rattle.definition.specs.Listing.{text, decimal, field, indent, points, start, let_line, match_line, equal_line, return_line, kind_text, places_text, arm_line, steps_text, flow_text, arms_text, listing}
use Rattle.theorems.specs.Letters.{Small, Digit, digit_first, field_apart, Kind, kind_apart, PlacesFit, places_low, places_apart}

-- TREES AS WORDS HAVE THEM: numbers fit 32 bits, a pattern is one that a rule record may hold, and there is a place for each of its fields
abbrev pub AllSmall : List ℕ → Type 0
AllSmall [] = Unit {0}
AllSmall (n ∷ l) = Small n × AllSmall l

pub record ArmFits (a : Pattern) (ps : List (Option ℕ)) : Type 0 where
  pub kind : Kind a.kind a.number
  pub places : PlacesFit ps
  pub count : a.fields ≡ length ps

unfoldable mutual
  pub Fits : Block → Type 0
  Fits end = Unit {0}
  Fits (step l f k) = AllSmall l × (FlowFits f × Fits k)

  pub FlowFits : Flow → Type 0
  FlowFits (match s as') = Small s × ArmsFit as'
  FlowFits (equal a b k) = Small a × (Small b × Fits k)
  FlowFits (return i p r) = Small i × (Small p × Small r)

  pub ArmsFit : Arms → Type 0
  ArmsFit no_arms = Unit {0}
  ArmsFit (arm a ps k as') = ArmFits a ps × (Fits k × ArmsFit as')

-- WHERE A BLOCK ENDS. A line of path p begins with p's indentation and no space behind it; what follows a block stands less deep
record Begins (p x : List ℕ) : Type 0 where
  first : ℕ
  rest : List ℕ
  begins : x ≡ indent p ++ (first ∷ rest)
  low : 48 ≤ first

-- a line with a number, other than a let
record Numbered (p x : List ℕ) : Type 0 where
  line : Begins p x
  high : line.first < 58

record Above (d : ℕ) (x : List ℕ) : Type 0 where
  path : List ℕ
  less : length path < d
  line : Begins path x

abbrev Shallow : ℕ → List ℕ → Type 0
Shallow d x = (x ≡ []) ⊎ Above d x

deep : (p q : List ℕ) (a c : ℕ) (x t : List ℕ) → length q < length p → 48 ≤ c → indent p ++ (a ∷ x) ≡ indent q ++ (c ∷ t) → ⊥
deep [] q a c x t h l e = omega arith
deep (y ∷ p) [] a c x t h l e = omega (arith, l, head-eq_of_cons-eq e)
deep (y ∷ p) (z ∷ q) a c x t h l e = deep p q a c x t (omega arith) l (tail-eq_of_cons-eq (tail-eq_of_cons-eq e))

nothing : (p : List ℕ) (a : ℕ) (x : List ℕ) → [] ≡ indent p ++ (a ∷ x) → ⊥
nothing [] a x e = nil≢cons e
nothing (y ∷ p) a x e = nil≢cons e

ended : (p x : List ℕ) → Shallow (length p) x → Begins p x → ⊥
ended p x (inl e) b = nothing p b.first b.rest (sym e ∙ b.begins)
ended p x (inr a) b = deep p a.path b.first a.line.first b.rest a.line.rest a.less a.line.low (sym b.begins ∙ a.line.begins)

weaker : (d : ℕ) (x : List ℕ) → Shallow d x → Shallow (suc d) x
weaker d x (inl e) = inl e
weaker d x (inr a) = inr (record { path = a.path; less = omega (arith, a.less); line = a.line })

-- THE BEGINNING OF A LINE
points_digit : (p : List ℕ) (i : ℕ) (x : List ℕ) → Digit (points p ++ (decimal i ++ x))
points_digit [] i x = digit_first i x
points_digit (n ∷ p) i x =
    let d = digit_first n (text "." ++ (points p ++ (decimal i ++ x))) in
    record {
      first = d.first;
      rest = d.rest;
      begins = append_assoc (decimal n ++ text ".") (points p) (decimal i ++ x) ∙ append_assoc (decimal n) (text ".") (points p ++ (decimal i ++ x)) ∙ d.begins;
      low = d.low;
      high = d.high;
    }

start_numbered : (p : List ℕ) (i : ℕ) (x y : List ℕ) → x ≡ start p i ++ y → Numbered p x
unfolding start
start_numbered p i x y e =
    let d = points_digit p i (32 ∷ y) in
    record {
      line = record {
        first = d.first;
        rest = d.rest;
        begins = e
            ∙ append_assoc (indent p ++ points p ++ decimal i) (text " ") y
            ∙ append_assoc (indent p ++ points p) (decimal i) (32 ∷ y)
            ∙ append_assoc (indent p) (points p) (decimal i ++ (32 ∷ y))
            ∙ ap (λ t. indent p ++ t) d.begins;
        low = d.low;
      };
      high = d.high;
    }

-- LETS
let_right : (p : List ℕ) (n : ℕ) (x : List ℕ) → let_line p n ++ x ≡ indent p ++ (field "let site " n ++ (10 ∷ x))
unfolding let_line
let_right p n x = append_assoc (indent p ++ field "let site " n) (text "\n") x ∙ append_assoc (indent p) (field "let site " n) (10 ∷ x)

let_begins : (p : List ℕ) (n : ℕ) (x : List ℕ) → Begins p (let_line p n ++ x)
unfolding field
let_begins p n x = record { first = 108; rest = _; begins = let_right p n x; low = omega arith }

lets_apart : (l m p x y : List ℕ) → AllSmall l → AllSmall m → Numbered p x → Numbered p y → flat (let_line p) l ++ x ≡ flat (let_line p) m ++ y → (l ≡ m) × (x ≡ y)
unfolding field
lets_apart [] [] p x y f g a b e = (refl, e)
lets_apart [] (n ∷ m) p x y f g a b e =
    let q = append_cancel_left (indent p) _ _ (sym a.line.begins ∙ e ∙ append_assoc (let_line p n) (flat (let_line p) m) y ∙ let_right p n (flat (let_line p) m ++ y)) in
    absurd (omega (arith, a.high, head-eq_of_cons-eq q))
lets_apart (n ∷ l) [] p x y f g a b e =
    let q = append_cancel_left (indent p) _ _ (sym b.line.begins ∙ sym e ∙ append_assoc (let_line p n) (flat (let_line p) l) x ∙ let_right p n (flat (let_line p) l ++ x)) in
    absurd (omega (arith, b.high, head-eq_of_cons-eq q))
lets_apart (n ∷ l) (k ∷ m) p x y f g a b e =
    let q = append_cancel_left (indent p) _ _ (sym (let_right p n (flat (let_line p) l ++ x)) ∙ sym (append_assoc (let_line p n) (flat (let_line p) l) x) ∙ e ∙ append_assoc (let_line p k) (flat (let_line p) m) y ∙ let_right p k (flat (let_line p) m ++ y)) in
    let c = field_apart "let site " n k 10 10 _ _ f.0 g.0 (omega arith) (omega arith) q in
    let z = lets_apart l m p x y f.1 g.1 a b (tail-eq_of_cons-eq c.1) in
    (ap₂ (λ u v. u ∷ v) c.0 z.0, z.1)

-- FLOWS, from the beginning of their line on
abbrev inner : List ℕ → ℕ → List ℕ
inner p i = p ++ (i ∷ [])

abbrev after : List ℕ → ℕ → Flow → List ℕ → List ℕ
after p i (match s as') x = field "match site " s ++ (10 ∷ (arms_text (inner p i) 1 as' ++ x))
after p i (equal a b k) x = field "equal sites " a ++ (field " and " b ++ (10 ∷ (steps_text (inner p i) 1 k ++ x)))
after p i (return rule q result) x = field "return rule " rule ++ (field " pos " q ++ (field " result " result ++ (10 ∷ x)))

flow_right : (p : List ℕ) (i : ℕ) (f : Flow) (x : List ℕ) → flow_text p i f ++ x ≡ start p i ++ after p i f x
unfolding flow_text match_line equal_line return_line
flow_right p i (match s as') x =
    let t = arms_text (inner p i) 1 as' in
    append_assoc (match_line p i s) t x ∙ append_assoc (start p i ++ field "match site " s) (text "\n") (t ++ x) ∙ append_assoc (start p i) (field "match site " s) (10 ∷ (t ++ x))
flow_right p i (equal a b k) x =
    let t = steps_text (inner p i) 1 k in
    append_assoc (equal_line p i a b) t x
    ∙ append_assoc (start p i ++ field "equal sites " a ++ field " and " b) (text "\n") (t ++ x)
    ∙ append_assoc (start p i ++ field "equal sites " a) (field " and " b) (10 ∷ (t ++ x))
    ∙ append_assoc (start p i) (field "equal sites " a) (field " and " b ++ (10 ∷ (t ++ x)))
flow_right p i (return rule q result) x =
    append_assoc (start p i ++ field "return rule " rule ++ field " pos " q ++ field " result " result) (text "\n") x
    ∙ append_assoc (start p i ++ field "return rule " rule ++ field " pos " q) (field " result " result) (10 ∷ x)
    ∙ append_assoc (start p i ++ field "return rule " rule) (field " pos " q) (field " result " result ++ (10 ∷ x))
    ∙ append_assoc (start p i) (field "return rule " rule) (field " pos " q ++ (field " result " result ++ (10 ∷ x)))

flow_numbered : (p : List ℕ) (i : ℕ) (f : Flow) (x : List ℕ) → Numbered p (flow_text p i f ++ x)
flow_numbered p i f x = start_numbered p i (flow_text p i f ++ x) (after p i f x) (flow_right p i f x)

-- STEPS
step_right : (p : List ℕ) (i : ℕ) (l : List ℕ) (f : Flow) (k : Block) (x : List ℕ) → steps_text p i (step l f k) ++ x ≡ flat (let_line p) l ++ (flow_text p i f ++ (steps_text p (i + 1) k ++ x))
unfolding steps_text
step_right p i l f k x =
    append_assoc (flat (let_line p) l ++ flow_text p i f) (steps_text p (i + 1) k) x ∙ append_assoc (flat (let_line p) l) (flow_text p i f) (steps_text p (i + 1) k ++ x)

step_begins : (p : List ℕ) (i : ℕ) (l : List ℕ) (f : Flow) (k : Block) (x : List ℕ) → Begins p (steps_text p i (step l f k) ++ x)
step_begins p i [] f k x = subst (Begins p) (sym (step_right p i [] f k x)) (flow_numbered p i f (steps_text p (i + 1) k ++ x)).line
step_begins p i (n ∷ l) f k x =
    subst (Begins p) (sym (step_right p i (n ∷ l) f k x ∙ append_assoc (let_line p n) (flat (let_line p) l) (flow_text p i f ++ (steps_text p (i + 1) k ++ x)))) (let_begins p n _)

steps_shallow : (p : List ℕ) (i : ℕ) (k : Block) (x : List ℕ) → Shallow (length p) x → Shallow (suc (length p)) (steps_text p i k ++ x)
unfolding steps_text
steps_shallow p i end x h = weaker (length p) x h
steps_shallow p i (step l f k) x h = inr (record { path = p; less = omega arith; line = step_begins p i l f k x })

-- ARMS
arm_right : (p : List ℕ) (i : ℕ) (a : Pattern) (ps : List (Option ℕ)) (x : List ℕ) → arm_line p i a ps ++ x ≡ start p i ++ (text "is " ++ (kind_text a.kind a.number ++ (places_text ps ++ (10 ∷ x))))
unfolding arm_line
arm_right p i a ps x =
    let t = kind_text a.kind a.number in
    append_assoc (start p i ++ text "is " ++ t ++ places_text ps) (text "\n") x
    ∙ append_assoc (start p i ++ text "is " ++ t) (places_text ps) (10 ∷ x)
    ∙ append_assoc (start p i ++ text "is ") t (places_text ps ++ (10 ∷ x))
    ∙ append_assoc (start p i) (text "is ") (t ++ (places_text ps ++ (10 ∷ x)))

arms_right : (p : List ℕ) (i : ℕ) (a : Pattern) (ps : List (Option ℕ)) (k : Block) (as' : Arms) (x : List ℕ)
    → arms_text p i (arm a ps k as') ++ x ≡ arm_line p i a ps ++ (steps_text (inner p i) 1 k ++ (arms_text p (i + 1) as' ++ x))
unfolding arms_text
arms_right p i a ps k as' x =
    append_assoc (arm_line p i a ps ++ steps_text (inner p i) 1 k) (arms_text p (i + 1) as') x ∙ append_assoc (arm_line p i a ps) (steps_text (inner p i) 1 k) (arms_text p (i + 1) as' ++ x)

arm_begins : (p : List ℕ) (i : ℕ) (a : Pattern) (ps : List (Option ℕ)) (k : Block) (as' : Arms) (x : List ℕ) → Begins p (arms_text p i (arm a ps k as') ++ x)
arm_begins p i a ps k as' x = (start_numbered p i _ _ (arms_right p i a ps k as' x ∙ arm_right p i a ps _)).line

arms_shallow : (p : List ℕ) (i : ℕ) (as' : Arms) (x : List ℕ) → Shallow (length p) x → Shallow (suc (length p)) (arms_text p i as' ++ x)
unfolding arms_text
arms_shallow p i no_arms x h = weaker (length p) x h
arms_shallow p i (arm a ps k as') x h = inr (record { path = p; less = omega arith; line = arm_begins p i a ps k as' x })

-- the line of an arm
arm_apart : (p : List ℕ) (i : ℕ) (a b : Pattern) (ps qs : List (Option ℕ)) (x y : List ℕ) → ArmFits a ps → ArmFits b qs → arm_line p i a ps ++ x ≡ arm_line p i b qs ++ y → ((a ≡ b) × (ps ≡ qs)) × (x ≡ y)
arm_apart p i a b ps qs x y f g e =
    let c = append_cancel_left (text "is ") _ _ (append_cancel_left (start p i) _ _ (sym (arm_right p i a ps x) ∙ e ∙ arm_right p i b qs y)) in
    let u = places_low ps x in
    let v = places_low qs y in
    let w = kind_apart a.kind b.kind a.number b.number u.first v.first u.rest v.rest f.kind g.kind u.low v.low
    (ap (λ t. kind_text a.kind a.number ++ t) (sym u.begins) ∙ c ∙ ap (λ t. kind_text b.kind b.number ++ t) v.begins) in
    let z = places_apart ps qs x y f.places g.places (u.begins ∙ w.1.1 ∙ sym v.begins) in
    let n : a.fields ≡ b.fields = f.count ∙ ap length z.0 ∙ sym g.count in
    (((λ i. record { kind = w.0 i; number = w.1.0 i; fields = n i }), z.0), z.1)

inner_length : (p : List ℕ) (i : ℕ) → suc (length p) ≡ length (inner p i)
inner_length p i = omega (arith, length-append p (i ∷ []))

-- TWO LISTINGS
mutual
  unfolding steps_text arms_text Fits FlowFits ArmsFit field

  steps_apart : (k j : Block) (p : List ℕ) (i : ℕ) (x y : List ℕ) → Fits k → Fits j → Shallow (length p) x → Shallow (length p) y → steps_text p i k ++ x ≡ steps_text p i j ++ y → (k ≡ j) × (x ≡ y)
  steps_apart end end p i x y f g a b e = (refl, e)
  steps_apart end (step m v j) p i x y f g a b e = absurd (ended p x a (subst (Begins p) (sym e) (step_begins p i m v j y)))
  steps_apart (step l u k) end p i x y f g a b e = absurd (ended p y b (subst (Begins p) e (step_begins p i l u k x)))
  steps_apart (step l u k) (step m v j) p i x y f g a b e =
      let c = lets_apart l m p (flow_text p i u ++ (steps_text p (i + 1) k ++ x)) (flow_text p i v ++ (steps_text p (i + 1) j ++ y)) f.0 g.0 (flow_numbered p i u _) (flow_numbered p i v _) (sym (step_right p i l u k x) ∙ e ∙ step_right p i m v j y) in
      let d = flow_apart u v p i (steps_text p (i + 1) k ++ x) (steps_text p (i + 1) j ++ y) f.1.0 g.1.0 (steps_shallow p (i + 1) k x a) (steps_shallow p (i + 1) j y b) c.1 in
      let z = steps_apart k j p (i + 1) x y f.1.1 g.1.1 a b d.1 in
      ((λ t. step (c.0 t) (d.0 t) (z.0 t)), z.1)

  flow_apart : (u v : Flow) (p : List ℕ) (i : ℕ) (x y : List ℕ) → FlowFits u → FlowFits v → Shallow (suc (length p)) x → Shallow (suc (length p)) y → flow_text p i u ++ x ≡ flow_text p i v ++ y → (u ≡ v) × (x ≡ y)
  flow_apart (match s as') (match t bs) p i x y f g a b e =
      let q = append_cancel_left (start p i) _ _ (sym (flow_right p i (match s as') x) ∙ e ∙ flow_right p i (match t bs) y) in
      let c = field_apart "match site " s t 10 10 _ _ f.0 g.0 (omega arith) (omega arith) q in
      let z = arms_apart as' bs (inner p i) 1 x y f.1 g.1 (subst (λ n. Shallow n x) (inner_length p i) a) (subst (λ n. Shallow n y) (inner_length p i) b) (tail-eq_of_cons-eq c.1) in
      (ap₂ match c.0 z.0, z.1)
  flow_apart (match s as') (equal m n j) p i x y f g a b e = absurd (omega (arith, head-eq_of_cons-eq (append_cancel_left (start p i) _ _ (sym (flow_right p i (match s as') x) ∙ e ∙ flow_right p i (equal m n j) y))))
  flow_apart (match s as') (return m n o) p i x y f g a b e = absurd (omega (arith, head-eq_of_cons-eq (append_cancel_left (start p i) _ _ (sym (flow_right p i (match s as') x) ∙ e ∙ flow_right p i (return m n o) y))))
  flow_apart (equal s t k) (match m bs) p i x y f g a b e = absurd (omega (arith, head-eq_of_cons-eq (append_cancel_left (start p i) _ _ (sym (flow_right p i (equal s t k) x) ∙ e ∙ flow_right p i (match m bs) y))))
  flow_apart (equal s t k) (equal m n j) p i x y f g a b e =
      let q = append_cancel_left (start p i) _ _ (sym (flow_right p i (equal s t k) x) ∙ e ∙ flow_right p i (equal m n j) y) in
      let c = field_apart "equal sites " s m 32 32 _ _ f.0 g.0 (omega arith) (omega arith) q in
      let d = field_apart " and " t n 10 10 _ _ f.1.0 g.1.0 (omega arith) (omega arith) c.1 in
      let z = steps_apart k j (inner p i) 1 x y f.1.1 g.1.1 (subst (λ n. Shallow n x) (inner_length p i) a) (subst (λ n. Shallow n y) (inner_length p i) b) (tail-eq_of_cons-eq d.1) in
      ((λ r. equal (c.0 r) (d.0 r) (z.0 r)), z.1)
  flow_apart (equal s t k) (return m n o) p i x y f g a b e = absurd (omega (arith, head-eq_of_cons-eq (append_cancel_left (start p i) _ _ (sym (flow_right p i (equal s t k) x) ∙ e ∙ flow_right p i (return m n o) y))))
  flow_apart (return r s t) (match m bs) p i x y f g a b e = absurd (omega (arith, head-eq_of_cons-eq (append_cancel_left (start p i) _ _ (sym (flow_right p i (return r s t) x) ∙ e ∙ flow_right p i (match m bs) y))))
  flow_apart (return r s t) (equal m n j) p i x y f g a b e = absurd (omega (arith, head-eq_of_cons-eq (append_cancel_left (start p i) _ _ (sym (flow_right p i (return r s t) x) ∙ e ∙ flow_right p i (equal m n j) y))))
  flow_apart (return r s t) (return m n o) p i x y f g a b e =
      let q = append_cancel_left (start p i) _ _ (sym (flow_right p i (return r s t) x) ∙ e ∙ flow_right p i (return m n o) y) in
      let c = field_apart "return rule " r m 32 32 _ _ f.0 g.0 (omega arith) (omega arith) q in
      let d = field_apart " pos " s n 32 32 _ _ f.1.0 g.1.0 (omega arith) (omega arith) c.1 in
      let h = field_apart " result " t o 10 10 _ _ f.1.1 g.1.1 (omega arith) (omega arith) d.1 in
      ((λ w. return (c.0 w) (d.0 w) (h.0 w)), tail-eq_of_cons-eq h.1)

  arms_apart : (as' bs : Arms) (p : List ℕ) (i : ℕ) (x y : List ℕ) → ArmsFit as' → ArmsFit bs → Shallow (length p) x → Shallow (length p) y → arms_text p i as' ++ x ≡ arms_text p i bs ++ y → (as' ≡ bs) × (x ≡ y)
  arms_apart no_arms no_arms p i x y f g a b e = (refl, e)
  arms_apart no_arms (arm c qs j bs) p i x y f g a b e = absurd (ended p x a (subst (Begins p) (sym e) (arm_begins p i c qs j bs y)))
  arms_apart (arm c ps k as') no_arms p i x y f g a b e = absurd (ended p y b (subst (Begins p) e (arm_begins p i c ps k as' x)))
  arms_apart (arm c ps k as') (arm d qs j bs) p i x y f g a b e =
      let u = arms_text p (i + 1) as' ++ x in
      let v = arms_text p (i + 1) bs ++ y in
      let h = arm_apart p i c d ps qs (steps_text (inner p i) 1 k ++ u) (steps_text (inner p i) 1 j ++ v) f.0 g.0 (sym (arms_right p i c ps k as' x) ∙ e ∙ arms_right p i d qs j bs y) in
      let o = steps_apart k j (inner p i) 1 u v f.1.0 g.1.0 (subst (λ n. Shallow n u) (inner_length p i) (arms_shallow p (i + 1) as' x a)) (subst (λ n. Shallow n v) (inner_length p i) (arms_shallow p (i + 1) bs y b)) h.1 in
      let z = arms_apart as' bs p (i + 1) x y f.1.1 g.1.1 a b o.1 in
      ((λ t. arm (h.0.0 t) (h.0.1 t) (o.0 t) (z.0 t)), z.1)

-- WHAT IS PROVED: two trees with one listing are one tree
pub nothing_hidden : (k j : Block) → Fits k → Fits j → listing k ≡ listing j → k ≡ j
unfolding listing
nothing_hidden k j f g e = (steps_apart k j [] 1 [] [] f g (inl refl) (inl refl) (append-nil (steps_text [] 1 k) ∙ e ∙ sym (append-nil (steps_text [] 1 j)))).0
