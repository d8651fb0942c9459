-- Orders that answer less, equal or greater: by a key, and one key after another.
use Rattle.std.specs.Prelude.{◌≡◌, refl, ◌⊎◌, true, false, ℤ, pos, negsuc}
use Rattle.std.proofs.Common.{sym, ap, subst, inl, inr, true≢false, arith, eqb-true, leb-true, leb-false, le-leb, ne_eqb, eq-eqb}
use Rattle.std.proofs.lemmas.Bool.{false≢true, eqb-false}
use Prim.Native.Nat.{ℕ, ◌<◌, compare, Ordering}
use Rattle.std.proofs.Math.Dec.{compare_is_eq, is_le}
use Rattle.definition.specs.Lists.{◌and_then◌, compare_signed, same_number}

pub record Weak {A : Type 0} (c : A → A → Ordering) : Type 0 where
  pub self : (x : A) → c x x ≡ Ordering.eq
  pub flip : (x y : A) → c x y ≡ Ordering.gt → c y x ≡ Ordering.lt
  pub back : (x y : A) → c x y ≡ Ordering.eq → c y x ≡ Ordering.eq
  pub less : (x y z : A) → c x y ≡ Ordering.lt → c y z ≡ Ordering.lt → c x z ≡ Ordering.lt
  pub less_same : (x y z : A) → c x y ≡ Ordering.lt → c y z ≡ Ordering.eq → c x z ≡ Ordering.lt
  pub same_less : (x y z : A) → c x y ≡ Ordering.eq → c y z ≡ Ordering.lt → c x z ≡ Ordering.lt
  pub same_same : (x y z : A) → c x y ≡ Ordering.eq → c y z ≡ Ordering.eq → c x z ≡ Ordering.eq

-- numbers
is_lt : (o : Ordering) → is_le o ≡ true → compare_is_eq o ≡ false → o ≡ Ordering.lt
is_lt Ordering.lt p q = refl
is_lt Ordering.eq p q = absurd (true≢false q)
is_lt Ordering.gt p q = absurd (false≢true p)

pub is_eq : (o : Ordering) → compare_is_eq o ≡ true → o ≡ Ordering.eq
is_eq Ordering.lt e = absurd (false≢true e)
is_eq Ordering.eq e = refl
is_eq Ordering.gt e = absurd (false≢true e)

pub lt_is : (m n : ℕ) → m < n → compare m n ≡ Ordering.lt
lt_is m n h = is_lt (compare m n) (le-leb m n (omega arith)) (ne_eqb m n (λ e. omega arith))

pub lt_of : (m n : ℕ) → compare m n ≡ Ordering.lt → m < n
lt_of m n e =
    let p = leb-true m n (ap is_le e) in
    let q = eqb-false m n (ap compare_is_eq e) in
    omega arith

pub eq_of : (m n : ℕ) → compare m n ≡ Ordering.eq → m ≡ n
eq_of m n e = eqb-true m n (ap compare_is_eq e)

pub eq_is : (m n : ℕ) → m ≡ n → compare m n ≡ Ordering.eq
eq_is m n e = is_eq (compare m n) (eq-eqb m n e)

pub gt_of : (m n : ℕ) → compare m n ≡ Ordering.gt → n < m
gt_of m n e = leb-false m n (ap is_le e)

pub number_weak : Weak compare
number_weak = record {
  self = λ x. eq_is x x refl;
  flip = λ x y e. lt_is y x (gt_of x y e);
  back = λ x y e. eq_is y x (sym (eq_of x y e));
  less = λ x y z e f. lt_is x z (let p = lt_of x y e in let q = lt_of y z f in omega arith);
  less_same = λ x y z e f. lt_is x z (let p = lt_of x y e in let q = eq_of y z f in omega arith);
  same_less = λ x y z e f. lt_is x z (let p = eq_of x y e in let q = lt_of y z f in omega arith);
  same_same = λ x y z e f. eq_is x z (let p = eq_of x y e in let q = eq_of y z f in omega arith);
}

lt≢gt : Ordering.lt ≡ Ordering.gt → ⊥
lt≢gt e = false≢true (ap is_le (sym e))

lt≢eq : Ordering.lt ≡ Ordering.eq → ⊥
lt≢eq e = false≢true (ap compare_is_eq e)

gt≢eq : Ordering.gt ≡ Ordering.eq → ⊥
gt≢eq e = false≢true (ap compare_is_eq e)

pub signed_equal : (x y : ℤ) → compare_signed x y ≡ Ordering.eq → x ≡ y
signed_equal (pos m) (pos n) e = ap pos (eq_of m n e)
signed_equal (pos m) (negsuc n) e = absurd (gt≢eq e)
signed_equal (negsuc m) (pos n) e = absurd (lt≢eq e)
signed_equal (negsuc m) (negsuc n) e = ap negsuc (sym (eq_of n m e))

pub signed_weak : Weak compare_signed
signed_weak = record { self = self; flip = flip; back = back; less = less; less_same = less_same; same_less = same_less; same_same = same_same }
  where
    self : (x : ℤ) → compare_signed x x ≡ Ordering.eq
    self (pos m) = eq_is m m refl
    self (negsuc m) = eq_is m m refl

    flip : (x y : ℤ) → compare_signed x y ≡ Ordering.gt → compare_signed y x ≡ Ordering.lt
    flip (pos m) (pos n) e = number_weak.flip m n e
    flip (pos m) (negsuc n) e = refl
    flip (negsuc m) (pos n) e = absurd (lt≢gt e)
    flip (negsuc m) (negsuc n) e = number_weak.flip n m e

    back : (x y : ℤ) → compare_signed x y ≡ Ordering.eq → compare_signed y x ≡ Ordering.eq
    back (pos m) (pos n) e = number_weak.back m n e
    back (pos m) (negsuc n) e = absurd (gt≢eq e)
    back (negsuc m) (pos n) e = absurd (lt≢eq e)
    back (negsuc m) (negsuc n) e = number_weak.back n m e

    less : (x y z : ℤ) → compare_signed x y ≡ Ordering.lt → compare_signed y z ≡ Ordering.lt → compare_signed x z ≡ Ordering.lt
    less (pos m) (pos n) (pos k) e f = number_weak.less m n k e f
    less (pos m) (pos n) (negsuc k) e f = absurd (lt≢gt (sym f))
    less (pos m) (negsuc n) z e f = absurd (lt≢gt (sym e))
    less (negsuc m) (pos n) (pos k) e f = refl
    less (negsuc m) (pos n) (negsuc k) e f = absurd (lt≢gt (sym f))
    less (negsuc m) (negsuc n) (pos k) e f = refl
    less (negsuc m) (negsuc n) (negsuc k) e f = number_weak.less k n m f e

    less_same : (x y z : ℤ) → compare_signed x y ≡ Ordering.lt → compare_signed y z ≡ Ordering.eq → compare_signed x z ≡ Ordering.lt
    less_same x y z e f = subst (λ k. compare_signed x k ≡ Ordering.lt) (signed_equal y z f) e

    same_less : (x y z : ℤ) → compare_signed x y ≡ Ordering.eq → compare_signed y z ≡ Ordering.lt → compare_signed x z ≡ Ordering.lt
    same_less x y z e f = subst (λ k. compare_signed k z ≡ Ordering.lt) (sym (signed_equal x y e)) f

    same_same : (x y z : ℤ) → compare_signed x y ≡ Ordering.eq → compare_signed y z ≡ Ordering.eq → compare_signed x z ≡ Ordering.eq
    same_same x y z e f = subst (λ k. compare_signed x k ≡ Ordering.eq) (signed_equal y z f) e

pub same_number_equal : (x y : ℤ) → same_number x y ≡ true → x ≡ y
same_number_equal x y e = signed_equal x y (is_eq (compare_signed x y) e)

pub same_number_self : (x : ℤ) → same_number x x ≡ true
same_number_self x = ap compare_is_eq (signed_weak.self x)

-- by a key
pub by_key : {A B : Type 0} (f : A → B) (c : B → B → Ordering) → Weak c → Weak (λ (x y : A). c (f x) (f y))
by_key f c w = record {
  self = λ x. w.self (f x);
  flip = λ x y. w.flip (f x) (f y);
  back = λ x y. w.back (f x) (f y);
  less = λ x y z. w.less (f x) (f y) (f z);
  less_same = λ x y z. w.less_same (f x) (f y) (f z);
  same_less = λ x y z. w.same_less (f x) (f y) (f z);
  same_same = λ x y z. w.same_same (f x) (f y) (f z);
}

then_lt : (o p : Ordering) → ◌and_then◌ o p ≡ Ordering.lt → (o ≡ Ordering.lt) ⊎ ((o ≡ Ordering.eq) × (p ≡ Ordering.lt))
then_lt Ordering.lt p e = inl refl
then_lt Ordering.eq p e = inr (refl, e)
then_lt Ordering.gt p e = absurd (lt≢gt (sym e))

then_gt : (o p : Ordering) → ◌and_then◌ o p ≡ Ordering.gt → (o ≡ Ordering.gt) ⊎ ((o ≡ Ordering.eq) × (p ≡ Ordering.gt))
then_gt Ordering.lt p e = absurd (lt≢gt e)
then_gt Ordering.eq p e = inr (refl, e)
then_gt Ordering.gt p e = inl refl

pub then_eq : (o p : Ordering) → ◌and_then◌ o p ≡ Ordering.eq → (o ≡ Ordering.eq) × (p ≡ Ordering.eq)
then_eq Ordering.lt p e = absurd (lt≢eq e)
then_eq Ordering.eq p e = (refl, e)
then_eq Ordering.gt p e = absurd (gt≢eq e)

-- one after another
pub in_turn : {A : Type 0} (c d : A → A → Ordering) → Weak c → Weak d → Weak (λ x y. ◌and_then◌ (c x y) (d x y))
in_turn {A} c d v w = record {
  self = λ x. rw (v.self x) (w.self x);
  flip = λ x y e. flips x y (then_gt (c x y) (d x y) e);
  back = λ x y e. let p = then_eq (c x y) (d x y) e in rw (v.back x y p.0) (w.back x y p.1);
  less = λ x y z e f. lesses x y z (then_lt (c x y) (d x y) e) (then_lt (c y z) (d y z) f);
  less_same = λ x y z e f. less_sames x y z (then_lt (c x y) (d x y) e) (then_eq (c y z) (d y z) f);
  same_less = λ x y z e f. same_lesses x y z (then_eq (c x y) (d x y) e) (then_lt (c y z) (d y z) f);
  same_same = λ x y z e f. let p = then_eq (c x y) (d x y) e in let q = then_eq (c y z) (d y z) f in rw (v.same_same x y z p.0 q.0) (w.same_same x y z p.1 q.1);
}
  where
    flips : (x y : A) → (c x y ≡ Ordering.gt) ⊎ ((c x y ≡ Ordering.eq) × (d x y ≡ Ordering.gt)) → ◌and_then◌ (c y x) (d y x) ≡ Ordering.lt
    flips x y (inl p) = rw (v.flip x y p)
    flips x y (inr p) = rw (v.back x y p.0) (w.flip x y p.1)

    lesses : (x y z : A) → (c x y ≡ Ordering.lt) ⊎ ((c x y ≡ Ordering.eq) × (d x y ≡ Ordering.lt)) → (c y z ≡ Ordering.lt) ⊎ ((c y z ≡ Ordering.eq) × (d y z ≡ Ordering.lt)) → ◌and_then◌ (c x z) (d x z) ≡ Ordering.lt
    lesses x y z (inl p) (inl q) = rw (v.less x y z p q)
    lesses x y z (inl p) (inr q) = rw (v.less_same x y z p q.0)
    lesses x y z (inr p) (inl q) = rw (v.same_less x y z p.0 q)
    lesses x y z (inr p) (inr q) = rw (v.same_same x y z p.0 q.0) (w.less x y z p.1 q.1)

    less_sames : (x y z : A) → (c x y ≡ Ordering.lt) ⊎ ((c x y ≡ Ordering.eq) × (d x y ≡ Ordering.lt)) → (c y z ≡ Ordering.eq) × (d y z ≡ Ordering.eq) → ◌and_then◌ (c x z) (d x z) ≡ Ordering.lt
    less_sames x y z (inl p) q = rw (v.less_same x y z p q.0)
    less_sames x y z (inr p) q = rw (v.same_same x y z p.0 q.0) (w.less_same x y z p.1 q.1)

    same_lesses : (x y z : A) → (c x y ≡ Ordering.eq) × (d x y ≡ Ordering.eq) → (c y z ≡ Ordering.lt) ⊎ ((c y z ≡ Ordering.eq) × (d y z ≡ Ordering.lt)) → ◌and_then◌ (c x z) (d x z) ≡ Ordering.lt
    same_lesses x y z p (inl q) = rw (v.same_less x y z p.0 q)
    same_lesses x y z p (inr q) = rw (v.same_same x y z p.0 q.0) (w.same_less x y z p.1 q.1)
