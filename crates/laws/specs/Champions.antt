-- Laws of the champion of a list: it is one of the list, and none is greater in what the comparison looks at first.
use Rattle.std.specs.Prelude.{◌≡◌, refl, ◌⊎◌, Bool, true, false, ℕ, ◌≤◌, if◌then◌else◌}
use Rattle.std.proofs.Common.{inl, inr, le_trans, le_refl}
use mathlib.Core.List.Memᴰ
use mathlib.Core.List.{List, [], ◌∷◌, Memᴰ}
use Rattle.definition.specs.Lists.{champion}

module _ {A : Type 0} (better : A → A → Bool) where
  pub champion_in : (x : A) (xs : List A) → Memᴰ (champion better x xs) (x ∷ xs)
  champion_in x [] = Memᴰ.head refl
  champion_in x (y ∷ ys) = go (better y x) (champion_in (if better y x then y else x) ys)
    where
      go : (t : Bool) → Memᴰ (champion better (if t then y else x) ys) ((if t then y else x) ∷ ys) → Memᴰ (champion better (if t then y else x) ys) (x ∷ y ∷ ys)
      go true m = Memᴰ.tail m
      go false m = two (Memᴰ.cases_cons m)
        where
          two : (champion better x ys ≡ x) ⊎ Memᴰ (champion better x ys) ys → Memᴰ (champion better x ys) (x ∷ y ∷ ys)
          two (inl e) = Memᴰ.head e
          two (inr n) = Memᴰ.tail (Memᴰ.tail n)

  module _ (key : A → ℕ) (won : (x y : A) → better x y ≡ true → key y ≤ key x) (lost : (x y : A) → better x y ≡ false → key x ≤ key y) where
    -- whatever comes, what the champion's key has reached it keeps
    pub champion_keeps : (x : A) (xs : List A) → key x ≤ key (champion better x xs)
    champion_keeps x [] = le_refl (key x)
    champion_keeps x (y ∷ ys) = le_trans (step (better y x) refl) (champion_keeps (if better y x then y else x) ys)
      where
        step : (t : Bool) → better y x ≡ t → key x ≤ key (if better y x then y else x)
        step true e = rw e (won y x e)
        step false e = rw e (le_refl (key x))

    pub champion_most : (x : A) (xs : List A) (z : A) → Memᴰ z xs → key z ≤ key (champion better x xs)
    champion_most x [] z m = absurd (Memᴰ.not-nil m)
    champion_most x (y ∷ ys) z m = go (Memᴰ.cases_cons m) (better y x) refl (champion_most (if better y x then y else x) ys z)
      where
        go : (z ≡ y) ⊎ Memᴰ z ys → (t : Bool) → better y x ≡ t → (Memᴰ z ys → key z ≤ key (champion better (if better y x then y else x) ys)) → key z ≤ key (champion better (if better y x then y else x) ys)
        go (inr n) t e rec = rec n
        go (inl q) true e rec = rw (q, e) (champion_keeps y ys)
        go (inl q) false e rec = rw (q, e) (le_trans (lost y x e) (champion_keeps x ys))
