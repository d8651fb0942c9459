-- Parts of lines, read one after the other: where two texts begin with a number, a name or places and are equal, so are the numbers, and so is what follows.
use Rattle.std.specs.Prelude.{◌≡◌, refl, Bool, true, false, ℕ, zero, suc, ◌+◌, ◌/◌, ◌%◌, ◌^◌, ◌<◌, ◌≤◌, ℤ, pos, negsuc, ltb, if◌then◌else◌}
use Rattle.std.proofs.Common.{sym, ap, ap₂, ◌∙◌, arith}
use mathlib.Core.List.{List, [], ◌∷◌, ◌++◌, append_assoc, append_cancel_left, head-eq_of_cons-eq, tail-eq_of_cons-eq}
use Rattle.std.proofs.Math.Option.{Option, none, some}
use Prim.Native.String.{String}
use Rattle.definition.specs.Lists.{flat}
use Rattle.definition.specs.Listing.{text, digit, digits, decimal, field, magnitude, signed_decimal, degrees, kind_text, place_text, places_text}
use Rattle.theorems.specs.Decimal.{value, decimal_back}

-- DIGITS have bytes from 48 to 57; what follows a number begins lower
abbrev Digits : List ℕ → Type 0
Digits [] = Unit {0}
Digits (x ∷ xs) = (48 ≤ x) × ((x < 58) × Digits xs)

digits_append : (xs ys : List ℕ) → Digits xs → Digits ys → Digits (xs ++ ys)
digits_append [] ys d e = e
digits_append (x ∷ xs) ys d e = (d.0, (d.1.0, digits_append xs ys d.1.1 e))

digits_are : (k n : ℕ) → Digits (digits k n)
unfolding digits
digits_are zero n = tt
digits_are (suc k) n = digits_append (if◌then◌else◌ (ltb n 10) [] (digits k (n / 10))) (digit (n % 10) ∷ []) (go (ltb n 10) (digits_are k (n / 10))) (omega arith, (omega arith, tt))
  where
    go : (t : Bool) → Digits (digits k (n / 10)) → Digits (if◌then◌else◌ t [] (digits k (n / 10)))
    go true d = tt
    go false d = d

decimal_are : (n : ℕ) → Digits (decimal n)
unfolding decimal
decimal_are n = digits_are 10 n

digits_apart : (xs ys : List ℕ) (a b : ℕ) (r s : List ℕ) → Digits xs → Digits ys → a < 48 → b < 48 → xs ++ (a ∷ r) ≡ ys ++ (b ∷ s) → (xs ≡ ys) × ((a ∷ r) ≡ (b ∷ s))
digits_apart [] [] a b r s d e h k q = (refl, q)
digits_apart [] (y ∷ ys) a b r s d e h k q = absurd (omega (arith, h, e.0, head-eq_of_cons-eq q))
digits_apart (x ∷ xs) [] a b r s d e h k q = absurd (omega (arith, k, d.0, head-eq_of_cons-eq q))
digits_apart (x ∷ xs) (y ∷ ys) a b r s d e h k q =
    let z = digits_apart xs ys a b r s d.1.1 e.1.1 h k (tail-eq_of_cons-eq q) in
    (ap₂ (λ u v. u ∷ v) (head-eq_of_cons-eq q) z.0, z.1)

abbrev pub Small : ℕ → Type 0
Small n = n < 2 ^ 32

pub decimal_apart : (n m a b : ℕ) (r s : List ℕ) → Small n → Small m → a < 48 → b < 48 → decimal n ++ (a ∷ r) ≡ decimal m ++ (b ∷ s) → (n ≡ m) × ((a ∷ r) ≡ (b ∷ s))
decimal_apart n m a b r s hn hm h k q =
    let z = digits_apart (decimal n) (decimal m) a b r s (decimal_are n) (decimal_are m) h k q in
    (sym (decimal_back n hn) ∙ ap (λ t. value 0 t) z.0 ∙ decimal_back m hm, z.1)

-- a decimal begins with a digit
pub record Digit (x : List ℕ) : Type 0 where
  pub first : ℕ
  pub rest : List ℕ
  pub begins : x ≡ first ∷ rest
  pub low : 48 ≤ first
  pub high : first < 58

pub digit_first : (n : ℕ) (r : List ℕ) → Digit (decimal n ++ r)
unfolding decimal digits
digit_first n r = go (if◌then◌else◌ (ltb n 10) [] (digits 9 (n / 10))) (decimal_are n)
  where
    go : (xs : List ℕ) → Digits (xs ++ (digit (n % 10) ∷ [])) → Digit (xs ++ (digit (n % 10) ∷ []) ++ r)
    go [] d = record { first = digit (n % 10); rest = r; begins = refl; low = d.0; high = d.1.0 }
    go (x ∷ xs) d = record { first = x; rest = xs ++ (digit (n % 10) ∷ []) ++ r; begins = refl; low = d.0; high = d.1.0 }

-- FIELDS AND SIGNED NUMBERS
pub field_apart : (name : String) (n m a b : ℕ) (r s : List ℕ) → Small n → Small m → a < 48 → b < 48 → field name n ++ (a ∷ r) ≡ field name m ++ (b ∷ s) → (n ≡ m) × ((a ∷ r) ≡ (b ∷ s))
unfolding field
field_apart name n m a b r s hn hm h k q =
    decimal_apart n m a b r s hn hm h k (append_cancel_left (text name) (decimal n ++ (a ∷ r)) (decimal m ++ (b ∷ s)) (sym (append_assoc (text name) (decimal n) (a ∷ r)) ∙ q ∙ append_assoc (text name) (decimal m) (b ∷ s)))

pub signed_apart : (z y : ℤ) (a b : ℕ) (r s : List ℕ) → magnitude z ≤ 2 ^ 31 → magnitude y ≤ 2 ^ 31 → a < 48 → b < 48 → signed_decimal z ++ (a ∷ r) ≡ signed_decimal y ++ (b ∷ s) → (z ≡ y) × ((a ∷ r) ≡ (b ∷ s))
unfolding signed_decimal
signed_apart (pos n) (pos m) a b r s hz hy h k q = let z = decimal_apart n m a b r s (omega arith) (omega arith) h k q in (ap pos z.0, z.1)
signed_apart (pos n) (negsuc m) a b r s hz hy h k q = let d = digit_first n (a ∷ r) in absurd (omega (arith, d.low, head-eq_of_cons-eq (sym d.begins ∙ q)))
signed_apart (negsuc n) (pos m) a b r s hz hy h k q = let d = digit_first m (b ∷ s) in absurd (omega (arith, d.low, head-eq_of_cons-eq (sym d.begins ∙ sym q)))
signed_apart (negsuc n) (negsuc m) a b r s hz hy h k q =
    let z = decimal_apart (n + 1) (m + 1) a b r s (omega arith) (omega arith) h k (tail-eq_of_cons-eq q) in
    let e : n ≡ m = omega (arith, z.0) in
    (ap negsuc e, z.1)

-- PATTERNS. Kind 3, Some, has number 0
pub record Kind (k : ℕ) (z : ℤ) : Type 0 where
  pub known : k ≤ 3
  pub nought : k ≡ 3 → z ≡ pos 0
  pub fits : magnitude z ≤ 2 ^ 31

-- a name in front of a signed number
named_apart : (name : List ℕ) (z y : ℤ) (a b : ℕ) (r s : List ℕ) → magnitude z ≤ 2 ^ 31 → magnitude y ≤ 2 ^ 31 → a < 48 → b < 48
    → name ++ signed_decimal z ++ (a ∷ r) ≡ name ++ signed_decimal y ++ (b ∷ s) → (z ≡ y) × ((a ∷ r) ≡ (b ∷ s))
named_apart name z y a b r s hz hy h k q =
    signed_apart z y a b r s hz hy h k (append_cancel_left name (signed_decimal z ++ (a ∷ r)) (signed_decimal y ++ (b ∷ s)) (sym (append_assoc name (signed_decimal z) (a ∷ r)) ∙ q ∙ append_assoc name (signed_decimal y) (b ∷ s)))

-- a limit: the tenths settle the degrees
limit_right : (z : ℤ) (x : List ℕ) → text "ConstInt " ++ signed_decimal z ++ text " tenths = " ++ degrees z ++ text " degrees" ++ x ≡ text "ConstInt " ++ signed_decimal z ++ (text " tenths = " ++ (degrees z ++ (text " degrees" ++ x)))
limit_right z x =
    append_assoc (text "ConstInt " ++ signed_decimal z ++ text " tenths = " ++ degrees z) (text " degrees") x
    ∙ append_assoc (text "ConstInt " ++ signed_decimal z ++ text " tenths = ") (degrees z) (text " degrees" ++ x)
    ∙ append_assoc (text "ConstInt " ++ signed_decimal z) (text " tenths = ") (degrees z ++ (text " degrees" ++ x))

limit_apart : (z y : ℤ) (a b : ℕ) (r s : List ℕ) → magnitude z ≤ 2 ^ 31 → magnitude y ≤ 2 ^ 31
    → text "ConstInt " ++ signed_decimal z ++ text " tenths = " ++ degrees z ++ text " degrees" ++ (a ∷ r) ≡ text "ConstInt " ++ signed_decimal y ++ text " tenths = " ++ degrees y ++ text " degrees" ++ (b ∷ s) → (z ≡ y) × ((a ∷ r) ≡ (b ∷ s))
limit_apart z y a b r s hz hy q =
    let c = named_apart (text "ConstInt ") z y 32 32 _ _ hz hy (omega arith) (omega arith) (sym (limit_right z (a ∷ r)) ∙ q ∙ limit_right y (b ∷ s)) in
    let e : degrees z ++ (text " degrees" ++ (a ∷ r)) ≡ degrees y ++ (text " degrees" ++ (b ∷ s)) = append_cancel_left (text " tenths = ") _ _ c.1 in
    let f : degrees z ++ (text " degrees" ++ (a ∷ r)) ≡ degrees z ++ (text " degrees" ++ (b ∷ s)) = e ∙ ap (λ w. degrees w ++ (text " degrees" ++ (b ∷ s))) (sym c.0) in
    (c.0, append_cancel_left (text " degrees") _ _ (append_cancel_left (degrees z) _ _ f))

fifth : {u v : ℕ} {x y : List ℕ} → 67 ∷ 111 ∷ 110 ∷ 115 ∷ 116 ∷ u ∷ x ≡ 67 ∷ 111 ∷ 110 ∷ 115 ∷ 116 ∷ v ∷ y → u ≡ v
fifth q = head-eq_of_cons-eq (append_cancel_left (67 ∷ 111 ∷ 110 ∷ 115 ∷ 116 ∷ []) _ _ q)

pub kind_apart : (k j : ℕ) (z y : ℤ) (a b : ℕ) (r s : List ℕ) → Kind k z → Kind j y → a < 48 → b < 48 → kind_text k z ++ (a ∷ r) ≡ kind_text j y ++ (b ∷ s) → (k ≡ j) × ((z ≡ y) × ((a ∷ r) ≡ (b ∷ s)))
unfolding kind_text
kind_apart zero zero z y a b r s kz ky h k q = (refl, limit_apart z y a b r s kz.fits ky.fits q)
kind_apart zero (suc zero) z y a b r s kz ky h k q = absurd (omega (arith, fifth q))
kind_apart zero (suc (suc zero)) z y a b r s kz ky h k q = absurd (omega (arith, head-eq_of_cons-eq q))
kind_apart zero (suc (suc (suc j))) z y a b r s kz ky h k q = absurd (omega (arith, head-eq_of_cons-eq q))
kind_apart (suc zero) zero z y a b r s kz ky h k q = absurd (omega (arith, fifth q))
kind_apart (suc zero) (suc zero) z y a b r s kz ky h k q = (refl, named_apart (text "ConstPrim ") z y a b r s kz.fits ky.fits h k q)
kind_apart (suc zero) (suc (suc zero)) z y a b r s kz ky h k q = absurd (omega (arith, head-eq_of_cons-eq q))
kind_apart (suc zero) (suc (suc (suc j))) z y a b r s kz ky h k q = absurd (omega (arith, head-eq_of_cons-eq q))
kind_apart (suc (suc zero)) zero z y a b r s kz ky h k q = absurd (omega (arith, head-eq_of_cons-eq q))
kind_apart (suc (suc zero)) (suc zero) z y a b r s kz ky h k q = absurd (omega (arith, head-eq_of_cons-eq q))
kind_apart (suc (suc zero)) (suc (suc zero)) z y a b r s kz ky h k q = (refl, named_apart (text "Variant ") z y a b r s kz.fits ky.fits h k q)
kind_apart (suc (suc zero)) (suc (suc (suc j))) z y a b r s kz ky h k q = absurd (omega (arith, head-eq_of_cons-eq q))
kind_apart (suc (suc (suc i))) zero z y a b r s kz ky h k q = absurd (omega (arith, head-eq_of_cons-eq q))
kind_apart (suc (suc (suc i))) (suc zero) z y a b r s kz ky h k q = absurd (omega (arith, head-eq_of_cons-eq q))
kind_apart (suc (suc (suc i))) (suc (suc zero)) z y a b r s kz ky h k q = absurd (omega (arith, head-eq_of_cons-eq q))
kind_apart (suc (suc (suc i))) (suc (suc (suc j))) z y a b r s kz ky h k q =
    let e : suc (suc (suc i)) ≡ suc (suc (suc j)) = omega (arith, kz.known, ky.known) in
    (e, (kz.nought (omega (arith, kz.known)) ∙ sym (ky.nought (omega (arith, ky.known))), append_cancel_left (text "Some") _ _ q))

-- PLACES, up to the end of the line
abbrev pub PlacesFit : List (Option ℕ) → Type 0
PlacesFit [] = Unit {0}
PlacesFit (none ∷ ps) = PlacesFit ps
PlacesFit (some n ∷ ps) = Small n × PlacesFit ps

-- what follows a place begins below the digits
pub record Low (x : List ℕ) : Type 0 where
  pub first : ℕ
  pub rest : List ℕ
  pub begins : x ≡ first ∷ rest
  pub low : first < 48

place_low : (ps : List (Option ℕ)) (r : List ℕ) → Low (flat place_text ps ++ (10 ∷ r))
unfolding place_text field
place_low [] r = record { first = 10; rest = r; begins = refl; low = omega arith }
place_low (none ∷ ps) r = record { first = 32; rest = _; begins = refl; low = omega arith }
place_low (some n ∷ ps) r = record { first = 32; rest = _; begins = refl; low = omega arith }

each_apart : (ps qs : List (Option ℕ)) (r s : List ℕ) → PlacesFit ps → PlacesFit qs → flat place_text ps ++ (10 ∷ r) ≡ flat place_text qs ++ (10 ∷ s) → (ps ≡ qs) × (r ≡ s)
unfolding place_text field
each_apart [] [] r s f g q = (refl, tail-eq_of_cons-eq q)
each_apart [] (none ∷ qs) r s f g q = absurd (omega (arith, head-eq_of_cons-eq q))
each_apart [] (some m ∷ qs) r s f g q = absurd (omega (arith, head-eq_of_cons-eq q))
each_apart (none ∷ ps) [] r s f g q = absurd (omega (arith, head-eq_of_cons-eq q))
each_apart (none ∷ ps) (none ∷ qs) r s f g q =
    let z = each_apart ps qs r s f g (append_cancel_left (text " empty") _ _ q) in (ap (λ t. none ∷ t) z.0, z.1)
each_apart (none ∷ ps) (some m ∷ qs) r s f g q =
    let d = digit_first m (flat place_text qs ++ (10 ∷ s)) in
    absurd (omega (arith, d.high, head-eq_of_cons-eq (tail-eq_of_cons-eq q ∙ append_assoc (decimal m) (flat place_text qs) (10 ∷ s) ∙ d.begins)))
each_apart (some n ∷ ps) [] r s f g q = absurd (omega (arith, head-eq_of_cons-eq q))
each_apart (some n ∷ ps) (none ∷ qs) r s f g q =
    let d = digit_first n (flat place_text ps ++ (10 ∷ r)) in
    absurd (omega (arith, d.high, head-eq_of_cons-eq (sym (tail-eq_of_cons-eq q) ∙ append_assoc (decimal n) (flat place_text ps) (10 ∷ r) ∙ d.begins)))
each_apart (some n ∷ ps) (some m ∷ qs) r s f g q =
    let a = place_low ps r in
    let b = place_low qs s in
    let e = sym (append_assoc (decimal n) (flat place_text ps) (10 ∷ r)) ∙ tail-eq_of_cons-eq q ∙ append_assoc (decimal m) (flat place_text qs) (10 ∷ s) in
    let c = decimal_apart n m a.first b.first a.rest b.rest f.0 g.0 a.low b.low (ap (λ t. decimal n ++ t) (sym a.begins) ∙ e ∙ ap (λ t. decimal m ++ t) b.begins) in
    let z = each_apart ps qs r s f.1 g.1 (a.begins ∙ c.1 ∙ sym b.begins) in
    (ap₂ (λ u v. some u ∷ v) c.0 z.0, z.1)

pub places_apart : (ps qs : List (Option ℕ)) (r s : List ℕ) → PlacesFit ps → PlacesFit qs → places_text ps ++ (10 ∷ r) ≡ places_text qs ++ (10 ∷ s) → (ps ≡ qs) × (r ≡ s)
places_apart [] [] r s f g q = (refl, tail-eq_of_cons-eq q)
places_apart [] (o ∷ qs) r s f g q = absurd (omega (arith, head-eq_of_cons-eq q))
places_apart (o ∷ ps) [] r s f g q = absurd (omega (arith, head-eq_of_cons-eq q))
places_apart (o ∷ ps) (u ∷ qs) r s f g q =
    each_apart (o ∷ ps) (u ∷ qs) r s f g (append_cancel_left (text " places") _ _ (sym (append_assoc (text " places") (flat place_text (o ∷ ps)) (10 ∷ r)) ∙ q ∙ append_assoc (text " places") (flat place_text (u ∷ qs)) (10 ∷ s)))

pub places_low : (ps : List (Option ℕ)) (r : List ℕ) → Low (places_text ps ++ (10 ∷ r))
places_low [] r = record { first = 10; rest = r; begins = refl; low = omega arith }
places_low (o ∷ ps) r = record { first = 32; rest = _; begins = refl; low = omega arith }
