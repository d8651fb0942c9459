-- Numbers in a listing: the digits read back give the number, -2147483648 included; no zero stands in front, and there is no `-0`.
use Rattle.std.specs.Prelude.{◌≡◌, refl, ◌⊎◌, true, false, ℕ, zero, suc, ◌+◌, ◌-◌, ◌*◌, ◌/◌, ◌%◌, ◌^◌, ◌<◌, ◌≤◌, ℤ, pos, negsuc, ltb, if◌then◌else◌}
use Rattle.std.proofs.Common.{sym, ap, ◌∙◌, inl, inr, arith, lt-ltb, ne_eqb, ltb-true, ltb-false}
use mathlib.Core.List.{List, [], ◌∷◌, ◌++◌, tail-eq_of_cons-eq, head-eq_of_cons-eq}
use Rattle.definition.specs.Lists.{◌is◌}
use Rattle.definition.specs.Listing.{text, digit, digits, decimal, magnitude, signed_decimal}
use Rattle.laws.specs.Tests.{split}

-- READING. The number of digits that follow those of n, the most significant first
abbrev pub value : ℕ → List ℕ → ℕ
value n [] = n
value n (d ∷ ds) = value (10 * n + (d - 48)) ds

abbrev pub minus : ℕ → ℤ
minus zero = pos 0
minus (suc n) = negsuc n

-- a minus sign has the byte 45
abbrev pub signed_value : List ℕ → ℤ
signed_value [] = pos 0
signed_value (d ∷ ds) = if d is 45 then minus (value 0 ds) else pos (value 0 (d ∷ ds))

-- DIGITS
value_last : (n : ℕ) (ds : List ℕ) (d : ℕ) → value n (ds ++ (d ∷ [])) ≡ 10 * value n ds + (d - 48)
value_last n [] d = refl
value_last n (x ∷ ds) d = value_last (10 * n + (x - 48)) ds d

digits_back : (k n : ℕ) → n < 10 ^ suc k → value 0 (digits (suc k) n) ≡ n
unfolding digits
digits_back zero n h = rw (lt-ltb n 10 (omega arith)) (omega arith)
digits_back (suc k) n h = go (split (ltb n 10)) (digits_back k (n / 10) (omega arith))
  where
    go : (ltb n 10 ≡ true) ⊎ (ltb n 10 ≡ false) → value 0 (digits (suc k) (n / 10)) ≡ n / 10 → value 0 (digits (suc (suc k)) n) ≡ n
    go (inl e) r = let z = ltb-true n 10 e in rw e (omega arith)
    go (inr e) r = rw e (value_last 0 (digits (suc k) (n / 10)) (digit (n % 10)) ∙ omega (arith, r))

-- the first digit of n, which is 0 only for n = 0
record First (n : ℕ) (ds : List ℕ) : Type 0 where
  first : ℕ
  rest : List ℕ
  begins : ds ≡ first ∷ rest
  low : 48 ≤ first
  nought : first ≡ 48 → n ≡ 0

first_digit : (k n : ℕ) → n < 10 ^ suc k → First n (digits (suc k) n)
unfolding digits
first_digit zero n h = let e : ltb n 10 ≡ true = lt-ltb n 10 (omega arith) in record { first = digit (n % 10); rest = []; begins = rw e; low = omega arith; nought = λ q. omega arith }
first_digit (suc k) n h = go (split (ltb n 10)) (first_digit k (n / 10) (omega arith))
  where
    go : (ltb n 10 ≡ true) ⊎ (ltb n 10 ≡ false) → First (n / 10) (digits (suc k) (n / 10)) → First n (digits (suc (suc k)) n)
    go (inl e) r = let z = ltb-true n 10 e in record { first = digit (n % 10); rest = []; begins = rw e; low = omega arith; nought = λ q. omega arith }
    go (inr e) r = let z = ltb-false n 10 e in record { first = r.first; rest = r.rest ++ (digit (n % 10) ∷ []); begins = rw (e, r.begins); low = r.low; nought = λ q. absurd (omega (arith, r.nought q)) }

-- WHAT IS PROVED
-- the digits of a number of 32 bits give the number
pub decimal_back : (n : ℕ) → n < 2 ^ 32 → value 0 (decimal n) ≡ n
unfolding decimal
decimal_back n h = digits_back 9 n (omega arith)

decimal_first : (n : ℕ) → n < 2 ^ 32 → First n (decimal n)
unfolding decimal
decimal_first n h = first_digit 9 n (omega arith)

-- no zero stands in front, except for 0 itself
pub no_zero_in_front : (n : ℕ) → n < 2 ^ 32 → (ds : List ℕ) → decimal n ≡ text "0" ++ ds → n ≡ 0
no_zero_in_front n h ds e = let f = decimal_first n h in f.nought (head-eq_of_cons-eq (sym f.begins ∙ e))

-- a signed number of 32 bits is read back
pub signed_back : (z : ℤ) → magnitude z ≤ 2 ^ 31 → signed_value (signed_decimal z) ≡ z
unfolding signed_decimal
signed_back (pos n) h =
    let f = decimal_first n (omega arith) in
    ap signed_value f.begins ∙ rw (ne_eqb f.first 45 (λ q. omega (arith, f.low))) (ap pos (sym (ap (value 0) f.begins) ∙ decimal_back n (omega arith)))
signed_back (negsuc n) h = let e : value 0 (decimal (n + 1)) ≡ suc n = decimal_back (n + 1) (omega arith) ∙ omega arith in ap minus e

-- no number is written with a minus and a zero behind it
pub no_minus_zero : (z : ℤ) → magnitude z ≤ 2 ^ 31 → (ds : List ℕ) → signed_decimal z ≡ text "-0" ++ ds → ⊥
unfolding signed_decimal
no_minus_zero (pos n) h ds e = let f = decimal_first n (omega arith) in let q = head-eq_of_cons-eq (sym f.begins ∙ e) in omega (arith, f.low, q)
no_minus_zero (negsuc n) h ds e = let q = no_zero_in_front (n + 1) (omega arith) ds (tail-eq_of_cons-eq e) in omega (arith, q)
