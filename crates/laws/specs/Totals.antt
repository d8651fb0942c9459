-- Laws of totals: each member of a list counts its weight. With the weight 1 the total is the length; with the weight that is 1 at i alone it says how often i stands in the list.
use Rattle.std.specs.Prelude.{◌≡◌, refl, ◌⊎◌, Bool, true, false, ◌||◌, ℕ, zero, suc, ◌+◌, ◌≤◌, ◌<◌, eqb, length, if◌then◌else◌}
use Rattle.std.proofs.Common.{sym, ◌∙◌, ap, inl, inr, arith, eqb-true, ne_eqb}
use mathlib.Core.List.{List, [], ◌∷◌, ◌++◌, Memᴰ}
use Rattle.std.proofs.lemmas.Bool.{eqb-false}
use Rattle.definition.specs.Lists.{from, keep, filter}
use Rattle.laws.specs.Tests.{split}

abbrev pub total : (ℕ → ℕ) → List ℕ → ℕ
total v [] = 0
total v (x ∷ xs) = v x + total v xs

module _ (v : ℕ → ℕ) where
  pub total_append : (xs ys : List ℕ) → total v (xs ++ ys) ≡ total v xs + total v ys
  total_append [] ys = omega arith
  total_append (x ∷ xs) ys = let h = total_append xs ys in omega arith

  -- two tests that no member passes both of
  pub filter_or : (p q : ℕ → Bool) (w : List ℕ) → ((j : ℕ) → Memᴰ j w → p j ≡ true → q j ≡ true → ⊥) → total v (filter p w) + total v (filter q w) ≡ total v (filter (λ j. p j || q j) w)
  filter_or p q [] h = omega arith
  filter_or p q (x ∷ xs) h = go (split (p x)) (split (q x)) (filter_or p q xs (λ j m. h j (Memᴰ.tail m)))
    where
      go : (p x ≡ true) ⊎ (p x ≡ false) → (q x ≡ true) ⊎ (q x ≡ false) → total v (filter p xs) + total v (filter q xs) ≡ total v (filter (λ j. p j || q j) xs)
          → total v (filter p (x ∷ xs)) + total v (filter q (x ∷ xs)) ≡ total v (filter (λ j. p j || q j) (x ∷ xs))
      go (inl e) (inl f) r = absurd (h x (Memᴰ.head refl) e f)
      go (inl e) (inr f) r = rw (e, f) (omega arith)
      go (inr e) (inl f) r = rw (e, f) (omega arith)
      go (inr e) (inr f) r = rw (e, f) r

  -- a test that every member passes
  pub filter_every : (p : ℕ → Bool) (w : List ℕ) → ((j : ℕ) → Memᴰ j w → p j ≡ true) → total v (filter p w) ≡ total v w
  filter_every p [] h = refl
  filter_every p (x ∷ xs) h = rw (h x (Memᴰ.head refl)) (ap (λ n. v x + n) (filter_every p xs (λ j m. h j (Memᴰ.tail m))))

  -- a test that no member passes
  pub filter_nothing : (p : ℕ → Bool) (w : List ℕ) → ((j : ℕ) → Memᴰ j w → p j ≡ false) → total v (filter p w) ≡ 0
  filter_nothing p [] h = refl
  filter_nothing p (x ∷ xs) h = rw (h x (Memᴰ.head refl)) (filter_nothing p xs (λ j m. h j (Memᴰ.tail m)))

-- LENGTH
pub total_length : (w : List ℕ) → total (λ j. 1) w ≡ length w
total_length [] = refl
total_length (x ∷ xs) = let h = total_length xs in omega arith

-- as long where every total is the same
pub total_same : (l w : List ℕ) → ((v : ℕ → ℕ) → total v l ≡ total v w) → length l ≡ length w
total_same l w h = sym (total_length l) ∙ h (λ j. 1) ∙ total_length w

-- HOW OFTEN i STANDS IN A LIST
unfoldable pub only : ℕ → ℕ → ℕ
only i j = if eqb i j then 1 else 0

pub total_times : (i : ℕ) (w : List ℕ) → total (only i) w ≡ length (filter (eqb i) w)
unfolding only
total_times i [] = refl
total_times i (x ∷ xs) = go (eqb i x) (total_times i xs)
  where
    go : (t : Bool) → total (only i) xs ≡ length (filter (eqb i) xs) → (if t then 1 else 0) + total (only i) xs ≡ length (keep t x (filter (eqb i) xs))
    go true h = omega arith
    go false h = omega arith

later : (i k n : ℕ) → i < k → total (only i) (from k n) ≡ 0
unfolding only
later i k zero h = refl
later i k (suc n) h = rw (ne_eqb i k (λ e. omega arith)) (let r = later i (suc k) n (omega arith) in omega arith)

pub times_from : (k n i : ℕ) → k ≤ i → i < k + n → total (only i) (from k n) ≡ 1
unfolding only
times_from k zero i h l = absurd (omega arith)
times_from k (suc n) i h l = go (split (eqb i k)) (times_from (suc k) n i)
  where
    go : (eqb i k ≡ true) ⊎ (eqb i k ≡ false) → (suc k ≤ i → i < suc k + n → total (only i) (from (suc k) n) ≡ 1) → total (only i) (k ∷ from (suc k) n) ≡ 1
    go (inl e) rec = let q = eqb-true i k e in rw e (let r = later i (suc k) n (omega arith) in omega arith)
    go (inr e) rec = let q = eqb-false i k e in rw e (let r = rec (omega arith) (omega arith) in omega arith)

pub times_past : (i k n : ℕ) → k + n ≤ i → total (only i) (from k n) ≡ 0
unfolding only
times_past i k zero h = refl
times_past i k (suc n) h = rw (ne_eqb i k (λ e. omega arith)) (let r = times_past i (suc k) n (omega arith) in omega arith)
