-- Laws of loops over an array: one that replaces each element by a function of it, one that fills it from the front, and one that collects there.
use Rattle.std.specs.Prelude.{◌≡◌, refl, ◌⊎◌, true, false, List, [], ◌∷◌, ◌++◌, map, ℕ, zero, suc, ◌+◌, ◌-◌, ◌≤◌, ◌<◌, eqb, get_or, length, set, take, drop, replicate, if◌then◌else◌}
use Rattle.std.proofs.Common.{sym, ◌∙◌, ap, inl, inr, arith, add-one, length-append, length-set, ext_get_or, get_or-take, get_or-set_same, get_or-set_other, length-take-le, eqb-true}
use Rattle.std.proofs.lemmas.List.{length-replicate, get_or-replicate, set_at}
use Rattle.std.proofs.Math.Seq.{append_snoc}
use Rattle.std.proofs.lemmas.Bool.{eqb-false}
use Rattle.definition.specs.Lists.{◌is◌, upto}
use Rattle.laws.specs.Ranges.{from_length, from_at}
use Rattle.laws.specs.Tests.{split}

-- v, or b where v is a
abbrev pub relabel : ℕ → ℕ → ℕ → ℕ
relabel a b v = if v is a then b else v

-- an element of what f makes of a list
pub map_inside : {A B : Type 0} (f : A → B) (l : List A) (k : ℕ) (d : A) (e : B) → k < length l → get_or (map f l) k e ≡ f (get_or l k d)
map_inside f [] k d e h = absurd (omega arith)
map_inside f (x ∷ xs) zero d e h = refl
map_inside f (x ∷ xs) (suc k) d e h = map_inside f xs k d e (omega arith)

-- the first i elements are replaced, the others are as they were
abbrev pub mapped : {A : Type 0} → (A → A) → List A → ℕ → List A
mapped f l i = map f (take i l) ++ drop i l

module _ {A : Type 0} (f : A → A) where
  next : (l : List A) (i : ℕ) (d : A) → i < length l → set (mapped f l i) i (f (get_or (mapped f l i) i d)) ≡ mapped f l (suc i)
  next [] i d h = absurd (omega arith)
  next (x ∷ xs) zero d h = refl
  next (x ∷ xs) (suc i) d h = ap (λ (r : List A). f x ∷ r) (next xs i d (omega arith))

  whole : (l : List A) (i : ℕ) → length l ≤ i → mapped f l i ≡ map f l
  whole [] zero h = refl
  whole [] (suc i) h = refl
  whole (x ∷ xs) zero h = absurd (omega arith)
  whole (x ∷ xs) (suc i) h = ap (λ (r : List A). f x ∷ r) (whole xs i (omega arith))

-- a loop that replaces each element, one a turn
pub record Mapped {A : Type 0} (f : A → A) (old : List A) (i : ℕ) (new : List A) : Type 0 where
  pub so_far : new ≡ mapped f old i

module _ {A : Type 0} {f : A → A} {old : List A} where
  pub map_starts : Mapped f old 0 old
  map_starts = record { so_far = refl }

  pub map_turn : {i : ℕ} {new : List A} (d : A) → Mapped f old i new → i < length old → Mapped f old (i + 1) (set new i (f (get_or new i d)))
  map_turn {i} d m h = record { so_far = rw (m.so_far, add-one) (next f old i d h) }

  pub map_ends : {i : ℕ} {new : List A} → Mapped f old i new → length old ≤ i → new ≡ map f old
  map_ends {i} m h = m.so_far ∙ whole f old i h

-- a loop that fills: the entries of l below i are f's
pub record Filled (f : ℕ → ℕ) (i : ℕ) (l₀ l : List ℕ) : Type 0 where
  pub inside : i ≤ length l
  pub long : length l ≡ length l₀
  pub so_far : (k : ℕ) → k < i → get_or l k 0 ≡ f k

module _ (f : ℕ → ℕ) where
  pub fill_starts : (l : List ℕ) → Filled f 0 l l
  fill_starts l = record { inside = omega arith; long = refl; so_far = λ k h. absurd (omega arith) }

  pub fill_turn : {i : ℕ} {l₀ l : List ℕ} → Filled f i l₀ l → i < length l → {v : ℕ} → v ≡ f i → Filled f (i + 1) l₀ (set l i v)
  fill_turn {i} {l₀} {l} g h {v} e = record {
    inside = let z = length-set l i v in omega arith;
    long = length-set l i v ∙ g.long;
    so_far = λ k q. go k q (split (eqb k i));
  }
    where
      go : (k : ℕ) → k < i + 1 → (eqb k i ≡ true) ⊎ (eqb k i ≡ false) → get_or (set l i v) k 0 ≡ f k
      go k q (inl t) = let s = eqb-true k i t in rw s (get_or-set_same l i v 0 h ∙ e)
      go k q (inr t) = let s = eqb-false k i t in get_or-set_other l i k v 0 s ∙ g.so_far k (omega arith)

pub all_zero : {l₀ l : List ℕ} {k : ℕ} → Filled (λ _. 0) k l₀ l → length l ≤ k → l ≡ replicate (length l₀) 0
all_zero {l₀} {l} g h = ext_get_or 0 l (replicate (length l₀) 0) (g.long ∙ sym (length-replicate (length l₀) 0)) (λ j q. g.so_far j (omega arith) ∙ sym (get_or-replicate (length l₀) j 0 0 (omega (arith, g.long))))

-- the front of a list in which each number stands at its own place
pub front_range : (R n : ℕ) (l : List ℕ) → R ≤ n → length l ≡ n → ((k : ℕ) → k < n → get_or l k 0 ≡ k) → take R l ≡ upto R
front_range R n l h m e =
    let z : length (take R l) ≡ R = length-take-le R l (omega arith) in
    ext_get_or 0 (take R l) (upto R) (z ∙ sym (from_length 0 R)) (λ k q. get_or-take R l k 0 (omega arith) ∙ e k (omega arith) ∙ sym (from_at 0 R k (omega arith) ∙ omega arith))

-- a loop that collects: the n elements of xs stand at the front of an array of `size` elements, and the others are d
pub record Collected {A : Type 0} (size : ℕ) (d : A) (xs : List A) (n : ℕ) (array : List A) : Type 0 where
  pub count : n ≡ length xs
  pub front : array ≡ xs ++ replicate (size - length xs) d

module _ {A : Type 0} {size : ℕ} {d : A} where
  pub collect_starts : Collected size d [] 0 (replicate size d)
  collect_starts = let e : size - 0 ≡ size = omega arith in record { count = refl; front = rw e }

  pub collect_one : {xs array : List A} {n : ℕ} (v : A) → Collected size d xs n array → n < size → Collected size d (xs ++ (v ∷ [])) (n + 1) (set array n v)
  collect_one {xs} {n = n} v c h =
      let m = size - (length xs + 1) in
      let e : size - length xs ≡ suc m = omega arith in
      let l : length (xs ++ (v ∷ [])) ≡ length xs + 1 = length-append xs (v ∷ []) in
      record {
        count = omega arith;
        front = rw (c.front, l, e) (set_at xs d (replicate m d) v n (sym c.count) ∙ sym (append_snoc xs v (replicate m d)));
      }
