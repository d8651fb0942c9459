-- The greatest of a weight over a list, or 0; and a loop that finds it.
use Rattle.std.specs.Prelude.{◌≡◌, refl, ◌⊎◌, ℕ, ◌+◌, ◌-◌, ◌≤◌, ◌<◌, max}
use Rattle.std.proofs.Common.{ap, ◌∙◌, inl, inr, arith}
use mathlib.Core.List.Memᴰ
use mathlib.Core.List.{List, [], ◌∷◌, map, Memᴰ}
use Rattle.std.proofs.Math.Decide.{dec_lt}
use Rattle.definition.specs.Lists.{from, upto}
use Rattle.laws.specs.Runs.{Runs, in_slots}

module _ {A : Type 0} where
  abbrev pub greatest : (A → ℕ) → List A → ℕ
  greatest w [] = 0
  greatest w (x ∷ xs) = max (w x) (greatest w xs)

  pub greatest_over : (w : A → ℕ) (x : A) (xs : List A) → Memᴰ x xs → w x ≤ greatest w xs
  greatest_over w x [] m = absurd (Memᴰ.not-nil m)
  greatest_over w x (y ∷ ys) m = go (Memᴰ.cases_cons m) (greatest_over w x ys)
    where
      go : (x ≡ y) ⊎ Memᴰ x ys → (Memᴰ x ys → w x ≤ greatest w ys) → w x ≤ max (w y) (greatest w ys)
      go (inl e) rec = let z = ap w e in omega arith
      go (inr n) rec = let z = rec n in omega arith

  pub greatest_under : (w : A → ℕ) (b : ℕ) (xs : List A) → ((x : A) → Memᴰ x xs → w x ≤ b) → greatest w xs ≤ b
  greatest_under w b [] h = omega arith
  greatest_under w b (x ∷ xs) h = let z = h x (Memᴰ.head refl) in let y = greatest_under w b xs (λ u m. h u (Memᴰ.tail m)) in omega arith

  -- the greatest of two weights that agree on the members
  pub greatest_same : (f g : A → ℕ) (xs : List A) → ((x : A) → Memᴰ x xs → f x ≡ g x) → greatest f xs ≡ greatest g xs
  greatest_same f g [] h = refl
  greatest_same f g (x ∷ xs) h = rw (h x (Memᴰ.head refl), greatest_same f g xs (λ y m. h y (Memᴰ.tail m)))

  -- where it is not 0, a member has it
  pub greatest_of : (w : A → ℕ) (xs : List A) → 0 < greatest w xs → (x : A) × Memᴰ x xs × (w x ≡ greatest w xs)
  greatest_of w [] h = absurd (omega arith)
  greatest_of w (x ∷ xs) h = go (dec_lt (w x) (greatest w xs)) (greatest_of w xs)
    where
      go : Dec (w x < greatest w xs) → (0 < greatest w xs → (y : A) × Memᴰ y xs × (w y ≡ greatest w xs)) → (y : A) × Memᴰ y (x ∷ xs) × (w y ≡ max (w x) (greatest w xs))
      go (yes q) rec = let r = rec (omega arith) in (r.0, Memᴰ.tail r.1, (let z = r.2 in omega arith))
      go (no q) rec = (x, Memᴰ.head refl, omega (arith, q))

  -- A LOOP: `most` over the elements before k, at first `best`
  pub record Climbed (w : A → ℕ) (xs : ℕ → List A) (best k most : ℕ) : Type 0 where
    pub is : max most (greatest w (xs k)) ≡ max best (greatest w (xs 0))

  module _ (w : A → ℕ) {xs : ℕ → List A} {g : ℕ → A} {n : ℕ} (r : Runs xs g n) where
    pub climb_starts : (best : ℕ) → Climbed w xs best 0 best
    climb_starts best = record { is = refl }

    pub climb_turn : {best k most : ℕ} → Climbed w xs best k most → k < n → {m : ℕ} → m ≡ max most (w (g k)) → Climbed w xs best (k + 1) m
    climb_turn {best} {k} {most} v h {m} e =
        let z : greatest w (xs k) ≡ max (w (g k)) (greatest w (xs (k + 1))) = ap (greatest w) (r.more k h) in
        record { is = omega (arith, v.is) }

    pub climb_ends : {best k most : ℕ} → Climbed w xs best k most → n ≤ k → most ≡ max best (greatest w (xs 0))
    climb_ends {best} {k} {most} v h = let z : greatest w (xs k) ≡ 0 = ap (greatest w) (r.none k h) in omega (arith, v.is)

-- the loop's end over the slots 0 to n - 1
pub climb_slots : {A : Type 0} (w : A → ℕ) (g : ℕ → A) {n m : ℕ} → n ≡ m → {best k most : ℕ} → Climbed w (λ k. map g (from k (n - k))) best k most → n ≤ k → most ≡ max best (greatest w (map g (upto m)))
climb_slots w g {n} {m} e {best} v h = let z : n - 0 ≡ m = omega arith in climb_ends w (in_slots g n) v h ∙ ap (λ j. max best (greatest w (map g (from 0 j)))) z
