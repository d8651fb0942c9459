-- Three-way comparisons of numbers, and the champion that beats every other of a list.
use Rattle.std.specs.Prelude.{◌≡◌, refl, ◌⊎◌, Bool, true, false, ltb, if◌then◌else◌}
use Rattle.std.proofs.Common.{sym, ap, ◌∙◌, inl, inr, arith, lt-ltb, le-ltb}
use mathlib.Core.List.Memᴰ
use mathlib.Core.List.{List, [], ◌∷◌, Memᴰ}
use Prim.Native.Nat.{ℕ, ◌<◌, compare, Ordering}
use Rattle.definition.specs.Lists.{◌and_then◌, is_less, champion}
use Rattle.laws.specs.Orders.{lt_is, lt_of, eq_of, eq_is, gt_of}
use Rattle.laws.specs.Tests.{split}

pub gt_is : (m n : ℕ) → n < m → compare m n ≡ Ordering.gt
gt_is m n h = go (compare m n) refl
  where
    go : (o : Ordering) → compare m n ≡ o → o ≡ Ordering.gt
    go Ordering.lt e = absurd (let z = lt_of m n e in omega arith)
    go Ordering.eq e = absurd (let z = eq_of m n e in omega arith)
    go Ordering.gt e = refl

pub same_compare : (x y u v : ℕ) → (x < y → u < v) → (x ≡ y → u ≡ v) → (y < x → v < u) → compare x y ≡ compare u v
same_compare x y u v f g h = go (compare x y) refl
  where
    go : (o : Ordering) → compare x y ≡ o → o ≡ compare u v
    go Ordering.lt e = sym (lt_is u v (f (lt_of x y e)))
    go Ordering.eq e = sym (eq_is u v (g (eq_of x y e)))
    go Ordering.gt e = sym (gt_is u v (h (gt_of x y e)))

-- the first key that differs decides
pub first_key : (m n : ℕ) (o : Ordering) → (m ≡ n → ⊥) → ltb m n ≡ is_less (compare m n and_then o)
first_key m n o h = go (compare m n) refl
  where
    go : (c : Ordering) → compare m n ≡ c → ltb m n ≡ is_less (c and_then o)
    go Ordering.lt e = lt-ltb m n (lt_of m n e)
    go Ordering.eq e = absurd (h (eq_of m n e))
    go Ordering.gt e = le-ltb m n (let z = gt_of m n e in omega arith)

pub last_key : (m n : ℕ) → ltb m n ≡ is_less (compare m n)
last_key m n = go (compare m n) refl
  where
    go : (c : Ordering) → compare m n ≡ c → ltb m n ≡ is_less c
    go Ordering.lt e = lt-ltb m n (lt_of m n e)
    go Ordering.eq e = le-ltb m n (let z = eq_of m n e in omega arith)
    go Ordering.gt e = le-ltb m n (let z = gt_of m n e in omega arith)

-- what is in the list, beats every other there and is beaten by none, is the champion
module _ {A : Type 0} (better : A → A → Bool) (t : A) where
  pub champion_is : (x : A) (xs : List A) → Memᴰ t (x ∷ xs) → ((z : A) → Memᴰ z (x ∷ xs) → ((z ≡ t) ⊎ (better t z ≡ true)) × (better z t ≡ false)) → champion better x xs ≡ t
  champion_is x [] m h = go (Memᴰ.cases_cons m)
    where
      go : (t ≡ x) ⊎ Memᴰ t [] → x ≡ t
      go (inl e) = sym e
      go (inr n) = absurd (Memᴰ.not-nil n)
  champion_is x (y ∷ ys) m h = go (Memᴰ.cases_cons m) (champion_is x ys) (champion_is y ys)
    where
      without_y : (z : A) → Memᴰ z (x ∷ ys) → Memᴰ z (x ∷ y ∷ ys)
      without_y z n = two (Memᴰ.cases_cons n)
        where
          two : (z ≡ x) ⊎ Memᴰ z ys → Memᴰ z (x ∷ y ∷ ys)
          two (inl e) = Memᴰ.head e
          two (inr k) = Memᴰ.tail (Memᴰ.tail k)

      Rec : A → Type 0
      Rec z = Memᴰ t (z ∷ ys) → ((u : A) → Memᴰ u (z ∷ ys) → ((u ≡ t) ⊎ (better t u ≡ true)) × (better u t ≡ false)) → champion better z ys ≡ t

      keep_x : Rec x → better y x ≡ false → Memᴰ t (x ∷ ys) → champion better (if better y x then y else x) ys ≡ t
      keep_x rx e n = rw e (rx n (λ z k. h z (without_y z k)))

      take_y : Rec y → better y x ≡ true → Memᴰ t (y ∷ ys) → champion better (if better y x then y else x) ys ≡ t
      take_y ry e n = rw e (ry n (λ z k. h z (Memᴰ.tail k)))

      is_x : Rec x → t ≡ x → champion better (if better y x then y else x) ys ≡ t
      is_x rx e = keep_x rx (ap (better y) (sym e) ∙ (h y (Memᴰ.tail (Memᴰ.head refl))).1) (Memᴰ.head e)

      is_y : Rec x → Rec y → t ≡ y → (x ≡ t) ⊎ (better t x ≡ true) → champion better (if better y x then y else x) ys ≡ t
      is_y rx ry e (inl q) = is_x rx (sym q)
      is_y rx ry e (inr q) = take_y ry (ap (λ z. better z x) (sym e) ∙ q) (Memᴰ.head e)

      later : Rec x → Rec y → (t ≡ y) ⊎ Memᴰ t ys → (better y x ≡ true) ⊎ (better y x ≡ false) → champion better (if better y x then y else x) ys ≡ t
      later rx ry (inl e) o = is_y rx ry e (h x (Memᴰ.head refl)).0
      later rx ry (inr n) (inl o) = take_y ry o (Memᴰ.tail n)
      later rx ry (inr n) (inr o) = keep_x rx o (Memᴰ.tail n)

      go : (t ≡ x) ⊎ Memᴰ t (y ∷ ys) → Rec x → Rec y → champion better (if better y x then y else x) ys ≡ t
      go (inl e) rx ry = is_x rx e
      go (inr n) rx ry = later rx ry (Memᴰ.cases_cons n) (split (better y x))
