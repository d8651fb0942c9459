-- The derived comparisons of patterns are the definition's.
use mathlib.Core.Path.{◌≡◌, refl, sym, ap, ◌∙◌}
use mathlib.Core.Logic.{◌⊎◌, inl, inr}
use mathlib.Core.Bool.{Bool, true, false, ◌&&◌}
use Prim.Native.Nat.{ℕ, ◌<◌, compare, Ordering}
use native.Mathlib.Omega.{arith}
use lib.Dec.{eqb, ltb, compare_is_eq}
use lib.IntN.{ℤ, pos, negsuc}
use borrow.Author.Tests.{eqb-true, eqb-false, eq-eqb, ne_eqb, ltb-true, ltb-false, lt-ltb, le-ltb}
use Rattle.std.specs.Ordering.{nat_cmp, int_cmp, int_eq, is_lt, is_eq, ord_min, ordering_then}
use Rattle.std.specs.Prelude.{if◌then◌else◌, cond}
use Rattle.std.specs.declared.cmp.Ordering as code_order
use Rattle.std.specs.declared.cmp.Ordering.TheVariants.{Less, Equal, Greater}
use Rattle.definition.specs.Lists.{is_less, compare_signed, ◌and_then◌}
use Rattle.definition.specs.Plan.{compare_patterns, same_pattern}
use Rattle.laws.specs.Orders.{lt_is, eq_is}
use Rattle.laws.specs.Tests.{split}
use Rattle.laws.specs.Winners.{gt_is}
use Rattle.tables.specs.Held.{shown}
use Rattle.tables.specs.declared.Pattern as code
use Rattle.tables.specs.contracts.PatternOrd as derived

-- an ordering of the code, as the definition's
abbrev pub order_of : code_order.Ordering → Ordering
order_of Less = Ordering.lt
order_of Equal = Ordering.eq
order_of Greater = Ordering.gt

-- a comparison of two numbers by tests
three_ways : (m n : ℕ) {o : code_order.Ordering} → (m < n → o ≡ Less) → (m ≡ n → o ≡ Equal) → (n < m → o ≡ Greater)
    → order_of o ≡ compare m n
three_ways m n {o} a b c = go (split (ltb m n)) (split (eqb m n))
  where
    go : (ltb m n ≡ true) ⊎ (ltb m n ≡ false) → (eqb m n ≡ true) ⊎ (eqb m n ≡ false) → order_of o ≡ compare m n
    go (inl e) f = let l = ltb-true m n e in ap order_of (a l) ∙ sym (lt_is m n l)
    go (inr e) (inl f) = let l = eqb-true m n f in ap order_of (b l) ∙ sym (eq_is m n l)
    go (inr e) (inr f) = let x = ltb-false m n e in let y = eqb-false m n f in let l : n < m = omega arith in
        ap order_of (c l) ∙ sym (gt_is m n l)

numbers : (m n : ℕ) → order_of (nat_cmp m n) ≡ compare m n
numbers m n = three_ways m n (λ l. rw (lt-ltb m n l)) (λ e. rw (le-ltb m n (omega arith), eq-eqb m n e))
    (λ l. rw (le-ltb m n (omega arith), ne_eqb m n (omega arith)))

signed_numbers : (x y : ℤ) → order_of (int_cmp x y) ≡ compare_signed x y
signed_numbers (pos m) (pos n) = three_ways m n (λ l. rw (lt-ltb m n l))
    (λ e. rw (le-ltb m n (omega arith), le-ltb n m (omega arith))) (λ l. rw (le-ltb m n (omega arith), lt-ltb n m l))
signed_numbers (pos m) (negsuc n) = refl
signed_numbers (negsuc m) (pos n) = refl
signed_numbers (negsuc m) (negsuc n) = three_ways n m (λ l. rw (lt-ltb n m l))
    (λ e. rw (le-ltb n m (omega arith), le-ltb m n (omega arith))) (λ l. rw (le-ltb n m (omega arith), lt-ltb m n l))

in_turn : (o u : code_order.Ordering) → order_of (ordering_then o u) ≡ order_of o and_then order_of u
in_turn Less u = refl
in_turn Equal u = refl
in_turn Greater u = refl

pub bridge : (p q : code.Pattern) → order_of (derived.TheImpl.cmp-value.it p q) ≡ compare_patterns (shown p) (shown q)
unfolding compare_patterns
bridge p q =
    in_turn (nat_cmp p.kind q.kind) (ordering_then (int_cmp p.number q.number) (nat_cmp p.fields q.fields))
    ∙ rw (
      numbers p.kind q.kind,
      in_turn (int_cmp p.number q.number)
          (nat_cmp p.fields q.fields),
      signed_numbers p.number q.number,
      numbers p.fields q.fields,
    )

less_is : (o : code_order.Ordering) → is_lt o ≡ is_less (order_of o)
less_is Less = refl
less_is Equal = refl
less_is Greater = refl

-- the lesser of two
pub least_of : (p q n : code.Pattern) → n ≡ ord_min derived.TheImpl.cmp-value.it p q
    → shown n ≡ (if is_less (compare_patterns (shown q) (shown p)) then shown q else shown p)
least_of p q n e = ap shown e ∙ go (is_lt (derived.TheImpl.cmp-value.it q p))
    (less_is (derived.TheImpl.cmp-value.it q p) ∙ ap is_less (bridge q p))
  where
    go : (t : Bool) → t ≡ is_less (compare_patterns (shown q) (shown p))
        → shown (cond t q p) ≡ (if is_less (compare_patterns (shown q) (shown p)) then shown q else shown p)
    go true f = rw (← f)
    go false f = rw (← f)

-- whether they are the same
same_order : (o : code_order.Ordering) → is_eq o ≡ compare_is_eq (order_of o)
same_order Less = refl
same_order Equal = refl
same_order Greater = refl

both_same : (o u : Ordering) → compare_is_eq o && compare_is_eq u ≡ compare_is_eq (o and_then u)
both_same Ordering.lt u = refl
both_same Ordering.eq u = refl
both_same Ordering.gt u = refl

pub same_is : (p q : code.Pattern) → eqb p.kind q.kind && (int_eq p.number q.number && eqb p.fields q.fields) ≡ same_pattern
    (shown p) (shown q)
unfolding same_pattern compare_patterns
same_is p q =
    let k = compare p.kind q.kind in
    let n = compare_signed p.number q.number in
    let f = compare p.fields q.fields in
    ap (λ z. compare_is_eq k && (z && compare_is_eq f))
    (same_order (int_cmp p.number q.number) ∙ ap compare_is_eq (signed_numbers p.number q.number))
    ∙ ap (λ z. compare_is_eq k && z) (both_same n f) ∙ both_same k (n and_then f)
