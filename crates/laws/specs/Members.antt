-- Laws of members: what `all`, `any`, `filter`, `map`, `flat` and ranges say of the members of a list.
use Rattle.std.specs.Prelude.{◌≡◌, refl, ◌⊎◌, Bool, true, false, ℕ, zero, suc, ◌+◌, ◌≤◌, ◌<◌, eqb, leb, length, get_or}
use Rattle.std.proofs.Common.{sym, ◌∙◌, ap, subst, inl, inr, true≢false, arith, eqb-true, leb-true, leb-false}
use Rattle.std.proofs.lemmas.Bool.{false≢true, eqb-false}
use Rattle.std.proofs.Math.Option.{some}
use mathlib.Core.List.Memᴰ
use mathlib.Core.List.{List, [], ◌∷◌, ◌++◌, map, Memᴰ}
use Rattle.definition.specs.Lists.{◌is◌, from, keep, filter, all, any, first, flat, heads}
use Rattle.laws.specs.Tests.{split, clash, both, and, not_both, one_of, or_left, or_right}

-- ALL, ANY, FILTER
module _ {A : Type 0} where
  pub all_at : (p : A → Bool) {x : A} {xs : List A} → all p xs ≡ true → Memᴰ x xs → p x ≡ true
  all_at p e (Memᴰ.head {x = y} q) = ap p q ∙ (both (p y) _ e).0
  all_at p e (Memᴰ.tail {x = y} m) = all_at p (both (p y) _ e).1 m

  pub all_from : (p : A → Bool) (xs : List A) → ((x : A) → Memᴰ x xs → p x ≡ true) → all p xs ≡ true
  all_from p [] h = refl
  all_from p (x ∷ xs) h = and (h x (Memᴰ.head refl)) (all_from p xs (λ y m. h y (Memᴰ.tail m)))

  pub all_fails : (p : A → Bool) (xs : List A) → all p xs ≡ false → (x : A) × Memᴰ x xs × (p x ≡ false)
  all_fails p [] e = absurd (true≢false e)
  all_fails p (x ∷ xs) e = go (not_both (p x) _ e) (all_fails p xs)
    where
      go : (p x ≡ false) ⊎ ((p x ≡ true) × (all p xs ≡ false)) → (all p xs ≡ false → (y : A) × Memᴰ y xs × (p y ≡ false)) → (y : A) × Memᴰ y (x ∷ xs) × (p y ≡ false)
      go (inl q) rec = (x, Memᴰ.head refl, q)
      go (inr q) rec = let r = rec q.1 in (r.0, Memᴰ.tail r.1, r.2)

  pub any_at : (p : A → Bool) (xs : List A) → any p xs ≡ true → (x : A) × Memᴰ x xs × (p x ≡ true)
  any_at p [] e = absurd (false≢true e)
  any_at p (x ∷ xs) e = go (one_of (p x) _ e) (any_at p xs)
    where
      go : (p x ≡ true) ⊎ (any p xs ≡ true) → (any p xs ≡ true → (y : A) × Memᴰ y xs × (p y ≡ true)) → (y : A) × Memᴰ y (x ∷ xs) × (p y ≡ true)
      go (inl q) rec = (x, Memᴰ.head refl, q)
      go (inr q) rec = let r = rec q in (r.0, Memᴰ.tail r.1, r.2)

  pub any_from : (p : A → Bool) {x : A} {xs : List A} → Memᴰ x xs → p x ≡ true → any p xs ≡ true
  any_from p (Memᴰ.head q) e = or_left _ (sym (ap p q) ∙ e)
  any_from p (Memᴰ.tail {x = y} m) e = or_right (p y) (any_from p m e)

  keep_in : (t : Bool) (y x : A) (xs : List A) → Memᴰ y (keep t x xs) → ((y ≡ x) × (t ≡ true)) ⊎ Memᴰ y xs
  keep_in true y x xs m = go (Memᴰ.cases_cons m)
    where
      go : (y ≡ x) ⊎ Memᴰ y xs → ((y ≡ x) × (true ≡ true)) ⊎ Memᴰ y xs
      go (inl q) = inl (q, refl)
      go (inr n) = inr n
  keep_in false y x xs m = inr m

  pub filter_in : (p : A → Bool) (y : A) (xs : List A) → Memᴰ y (filter p xs) → Memᴰ y xs × (p y ≡ true)
  filter_in p y [] m = absurd (Memᴰ.not-nil m)
  filter_in p y (x ∷ xs) m = go (keep_in (p x) y x (filter p xs) m) (filter_in p y xs)
    where
      go : ((y ≡ x) × (p x ≡ true)) ⊎ Memᴰ y (filter p xs) → (Memᴰ y (filter p xs) → Memᴰ y xs × (p y ≡ true)) → Memᴰ y (x ∷ xs) × (p y ≡ true)
      go (inl q) rec = (Memᴰ.head q.0, ap p q.0 ∙ q.1)
      go (inr n) rec = (Memᴰ.tail (rec n).0, (rec n).1)

  keep_head : (t : Bool) {y x : A} (xs : List A) → t ≡ true → y ≡ x → Memᴰ y (keep t x xs)
  keep_head true xs e q = Memᴰ.head q
  keep_head false xs e q = absurd (false≢true e)

  keep_tail : (t : Bool) {y : A} (x : A) {xs : List A} → Memᴰ y xs → Memᴰ y (keep t x xs)
  keep_tail true x m = Memᴰ.tail m
  keep_tail false x m = m

  pub filter_from : (p : A → Bool) {y : A} {xs : List A} → Memᴰ y xs → p y ≡ true → Memᴰ y (filter p xs)
  filter_from p (Memᴰ.head {x = x} {xs = xs} q) e = keep_head (p x) (filter p xs) (sym (ap p q) ∙ e) q
  filter_from p (Memᴰ.tail {x = x} m) e = keep_tail (p x) x (filter_from p m e)

  -- a filter that keeps something is not empty
  pub mem_length : {y : A} {xs : List A} → Memᴰ y xs → 0 < length xs
  mem_length (Memᴰ.head q) = omega arith
  mem_length (Memᴰ.tail m) = omega arith

  pub some_member : (xs : List A) → 0 < length xs → (x : A) × Memᴰ x xs
  some_member [] h = absurd (omega arith)
  some_member (x ∷ xs) h = (x, Memᴰ.head refl)

-- the first that passes
pub first_of : {A : Type 0} (q : A → Bool) (x : A) (xs : List A) → Memᴰ x xs → q x ≡ true → (y : A) × (first q xs ≡ some y) × (q y ≡ true)
first_of q x [] m e = absurd (Memᴰ.not-nil m)
first_of {A} q x (z ∷ xs) m e = go (split (q z)) (Memᴰ.cases_cons m) (first_of q x xs)
  where
    go : (q z ≡ true) ⊎ (q z ≡ false) → (x ≡ z) ⊎ Memᴰ x xs → (Memᴰ x xs → q x ≡ true → (y : A) × (first q xs ≡ some y) × (q y ≡ true)) → (y : A) × (first q (z ∷ xs) ≡ some y) × (q y ≡ true)
    go (inl f) k rec = (z, rw f refl, f)
    go (inr f) (inl k) rec = absurd (true≢false (sym e ∙ ap q k ∙ f))
    go (inr f) (inr k) rec = let r = rec k e in (r.0, rw f r.1, r.2)

-- where every member passes, all are kept
pub filter_keeps : {A : Type 0} (p : A → Bool) (xs : List A) → ((x : A) → Memᴰ x xs → p x ≡ true) → filter p xs ≡ xs
filter_keeps p [] h = refl
filter_keeps p (x ∷ xs) h = rw (h x (Memᴰ.head refl)) (ap (λ l. x ∷ l) (filter_keeps p xs (λ y m. h y (Memᴰ.tail m))))

module _ {A : Type 0} (p q : A → Bool) where
  -- two tests that agree on the members
  pub filter_same : (xs : List A) → ((x : A) → Memᴰ x xs → p x ≡ q x) → filter p xs ≡ filter q xs
  filter_same [] h = refl
  filter_same (x ∷ xs) h = rw (h x (Memᴰ.head refl)) (ap (keep (q x) x) (filter_same xs (λ y m. h y (Memᴰ.tail m))))

  pub all_same : (xs : List A) → ((x : A) → Memᴰ x xs → p x ≡ q x) → all p xs ≡ all q xs
  all_same [] h = refl
  all_same (x ∷ xs) h = rw (h x (Memᴰ.head refl), all_same xs (λ y m. h y (Memᴰ.tail m)))

module _ {A : Type 0} (p q : A → Bool) (h : (x : A) → q x ≡ true → p x ≡ true) where
  keep_le : (s t : Bool) (x : A) (ys xs : List A) → (s ≡ true → t ≡ true) → length ys ≤ length xs → length (keep s x ys) ≤ length (keep t x xs)
  keep_le true true x ys xs k l = omega arith
  keep_le true false x ys xs k l = absurd (false≢true (k refl))
  keep_le false true x ys xs k l = omega arith
  keep_le false false x ys xs k l = l

  -- a filter within a wider one
  pub filter_narrow : (xs : List A) → filter q (filter p xs) ≡ filter q xs
  filter_narrow [] = refl
  filter_narrow (x ∷ xs) = go (split (q x)) (split (p x)) (filter_narrow xs)
    where
      go : (q x ≡ true) ⊎ (q x ≡ false) → (p x ≡ true) ⊎ (p x ≡ false) → filter q (filter p xs) ≡ filter q xs → filter q (filter p (x ∷ xs)) ≡ filter q (x ∷ xs)
      go (inl e) (inl f) rec = rw (f, e, rec)
      go (inl e) (inr f) rec = clash (h x e) f
      go (inr e) (inl f) rec = rw (f, e, rec)
      go (inr e) (inr f) rec = rw (f, e, rec)

  pub filter_le : (xs : List A) → length (filter q xs) ≤ length (filter p xs)
  filter_le [] = omega arith
  filter_le (x ∷ xs) = keep_le (q x) (p x) x (filter q xs) (filter p xs) (h x) (filter_le xs)

  keep_lt : (s t : Bool) (x : A) (ys xs : List A) → (s ≡ true → t ≡ true) → length ys < length xs → length (keep s x ys) < length (keep t x xs)
  keep_lt true true x ys xs k l = omega arith
  keep_lt true false x ys xs k l = absurd (false≢true (k refl))
  keep_lt false true x ys xs k l = omega arith
  keep_lt false false x ys xs k l = l

  keep_new : (s t : Bool) (x : A) (ys xs : List A) → s ≡ false → t ≡ true → length ys ≤ length xs → length (keep s x ys) < length (keep t x xs)
  keep_new true t x ys xs k m l = absurd (true≢false k)
  keep_new false true x ys xs k m l = omega arith
  keep_new false false x ys xs k m l = absurd (false≢true m)

  -- one that passes the first test and not the second
  pub filter_lt : (x : A) (xs : List A) → Memᴰ x xs → p x ≡ true → q x ≡ false → length (filter q xs) < length (filter p xs)
  filter_lt x [] m e f = absurd (Memᴰ.not-nil m)
  filter_lt x (y ∷ xs) m e f = go (Memᴰ.cases_cons m) (filter_lt x xs)
    where
      go : (x ≡ y) ⊎ Memᴰ x xs → (Memᴰ x xs → p x ≡ true → q x ≡ false → length (filter q xs) < length (filter p xs)) → length (filter q (y ∷ xs)) < length (filter p (y ∷ xs))
      go (inl k) rec = keep_new (q y) (p y) y (filter q xs) (filter p xs) (sym (ap q k) ∙ f) (sym (ap p k) ∙ e) (filter_le xs)
      go (inr n) rec = keep_lt (q y) (p y) y (filter q xs) (filter p xs) (h y) (rec n e f)

pub filter_all : {A : Type 0} (p : A → Bool) (xs : List A) → length (filter p xs) ≤ length xs
filter_all p [] = omega arith
filter_all p (x ∷ xs) = go (p x) (filter_all p xs)
  where
    go : (t : Bool) → length (filter p xs) ≤ length xs → length (keep t x (filter p xs)) ≤ suc (length xs)
    go true h = omega arith
    go false h = omega arith

-- one that does not pass
pub filter_short : {A : Type 0} (p : A → Bool) (x : A) (xs : List A) → Memᴰ x xs → p x ≡ false → length (filter p xs) < length xs
filter_short p x [] m e = absurd (Memᴰ.not-nil m)
filter_short {A} p x (y ∷ xs) m e = go (Memᴰ.cases_cons m) (filter_short p x xs)
  where
    out : (t : Bool) → t ≡ false → length (keep t y (filter p xs)) ≤ length xs
    out true k = absurd (true≢false k)
    out false k = filter_all p xs

    more : (t : Bool) → length (filter p xs) < length xs → length (keep t y (filter p xs)) < suc (length xs)
    more true h = omega arith
    more false h = omega arith

    go : (x ≡ y) ⊎ Memᴰ x xs → (Memᴰ x xs → p x ≡ false → length (filter p xs) < length xs) → length (filter p (y ∷ xs)) < suc (length xs)
    go (inl k) rec = let h = out (p y) (sym (ap p k) ∙ e) in omega arith
    go (inr n) rec = more (p y) (rec n e)

pub mem_map : {A B : Type 0} (f : A → B) (x : A) (xs : List A) → Memᴰ x xs → Memᴰ (f x) (map f xs)
mem_map f x [] m = absurd (Memᴰ.not-nil m)
mem_map f x (y ∷ xs) m = go (Memᴰ.cases_cons m) (mem_map f x xs)
  where
    go : (x ≡ y) ⊎ Memᴰ x xs → (Memᴰ x xs → Memᴰ (f x) (map f xs)) → Memᴰ (f x) (f y ∷ map f xs)
    go (inl e) rec = Memᴰ.head (ap f e)
    go (inr n) rec = Memᴰ.tail (rec n)

pub mem_flat : {A B : Type 0} (f : A → List B) (y : B) (x : A) (xs : List A) → Memᴰ x xs → Memᴰ y (f x) → Memᴰ y (flat f xs)
mem_flat f y x [] m n = absurd (Memᴰ.not-nil m)
mem_flat f y x (z ∷ xs) m n = go (Memᴰ.cases_cons m) (mem_flat f y x xs)
  where
    go : (x ≡ z) ⊎ Memᴰ x xs → (Memᴰ x xs → Memᴰ y (f x) → Memᴰ y (flat f xs)) → Memᴰ y (f z ++ flat f xs)
    go (inl e) rec = Memᴰ.append_left (flat f xs) (subst (λ k. Memᴰ y (f k)) e n)
    go (inr k) rec = Memᴰ.append_right (f z) (rec k n)

pub mem_from : (k n x : ℕ) → k ≤ x → x < k + n → Memᴰ x (from k n)
mem_from k zero x h l = absurd (omega arith)
mem_from k (suc n) x h l = go (split (eqb x k)) (mem_from (suc k) n x)
  where
    go : (eqb x k ≡ true) ⊎ (eqb x k ≡ false) → (suc k ≤ x → x < suc k + n → Memᴰ x (from (suc k) n)) → Memᴰ x (k ∷ from (suc k) n)
    go (inl e) rec = Memᴰ.head (eqb-true x k e)
    go (inr e) rec = let z = eqb-false x k e in Memᴰ.tail (rec (omega arith) (omega arith))

pub from_bounds : (k n x : ℕ) → Memᴰ x (from k n) → (k ≤ x) × (x < k + n)
from_bounds k zero x m = absurd (Memᴰ.not-nil m)
from_bounds k (suc n) x m = go (Memᴰ.cases_cons m) (from_bounds (suc k) n x)
  where
    go : (x ≡ k) ⊎ Memᴰ x (from (suc k) n) → (Memᴰ x (from (suc k) n) → (suc k ≤ x) × (x < suc k + n)) → (k ≤ x) × (x < k + suc n)
    go (inl e) rec = (omega arith, omega arith)
    go (inr n') rec = let r = rec n' in (omega arith, omega arith)

pub mem_map_of : {A B : Type 0} (f : A → B) (y : B) (xs : List A) → Memᴰ y (map f xs) → (x : A) × Memᴰ x xs × (y ≡ f x)
mem_map_of f y [] m = absurd (Memᴰ.not-nil m)
mem_map_of {A} f y (x ∷ xs) m = go (Memᴰ.cases_cons m) (mem_map_of f y xs)
  where
    go : (y ≡ f x) ⊎ Memᴰ y (map f xs) → (Memᴰ y (map f xs) → (z : A) × Memᴰ z xs × (y ≡ f z)) → (z : A) × Memᴰ z (x ∷ xs) × (y ≡ f z)
    go (inl e) rec = (x, Memᴰ.head refl, e)
    go (inr n) rec = let r = rec n in (r.0, Memᴰ.tail r.1, r.2)

pub mem_flat_of : {A B : Type 0} (f : A → List B) (y : B) (xs : List A) → Memᴰ y (flat f xs) → (x : A) × Memᴰ x xs × Memᴰ y (f x)
mem_flat_of f y [] m = absurd (Memᴰ.not-nil m)
mem_flat_of {A} f y (x ∷ xs) m = go (Memᴰ.append_cases (f x) m) (mem_flat_of f y xs)
  where
    go : Memᴰ y (f x) ⊎ Memᴰ y (flat f xs) → (Memᴰ y (flat f xs) → (z : A) × Memᴰ z xs × Memᴰ y (f z)) → (z : A) × Memᴰ z (x ∷ xs) × Memᴰ y (f z)
    go (inl e) rec = (x, Memᴰ.head refl, e)
    go (inr n) rec = let r = rec n in (r.0, Memᴰ.tail r.1, r.2)

pub getD_mem : {A : Type 0} (l : List A) (i : ℕ) (d : A) → i < length l → Memᴰ (get_or l i d) l
getD_mem [] i d h = absurd (omega arith)
getD_mem (x ∷ l) zero d h = Memᴰ.head refl
getD_mem (x ∷ l) (suc i) d h = Memᴰ.tail (getD_mem l i d (omega arith))

-- THE HEAD
pub heads_one : (s : ℕ) (l : List ℕ) → length l ≡ 1 → heads s l ≡ get_or l 0 0 is s
heads_one s [] h = absurd (omega arith)
heads_one s (r ∷ l) h = refl

pub heads_in : (s : ℕ) (rs : List ℕ) → heads s rs ≡ true → Memᴰ s rs
heads_in s [] e = absurd (false≢true e)
heads_in s (r ∷ rs) e = Memᴰ.head (sym (eqb-true r s e))

-- a list of one
pub lone_list : (xs : List ℕ) → length xs ≡ 1 → (y z : ℕ) → Memᴰ y xs → Memᴰ z xs → y ≡ z
lone_list [] e y z m n = absurd (omega arith)
lone_list (x ∷ []) e y z m n = Memᴰ.eq_of_singleton m ∙ sym (Memᴰ.eq_of_singleton n)
lone_list (x ∷ w ∷ xs) e y z m n = absurd (omega arith)

pub two_members : (xs : List ℕ) (x y : ℕ) → Memᴰ x xs → Memᴰ y xs → (x ≡ y → ⊥) → 2 ≤ length xs
two_members xs x y m k n = go (split (leb 2 (length xs)))
  where
    go : (leb 2 (length xs) ≡ true) ⊎ (leb 2 (length xs) ≡ false) → 2 ≤ length xs
    go (inl e) = leb-true 2 (length xs) e
    go (inr e) = absurd (n (lone_list xs (let a = leb-false 2 (length xs) e in let b = mem_length m in omega arith) x y m k))
