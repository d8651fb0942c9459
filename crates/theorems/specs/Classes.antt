-- Classes of sites: what joining pairs comes to, and how many of a rule's pairs are still to be joined.
use Rattle.std.specs.Prelude.{◌≡◌, refl, ◌⊎◌, Bool, true, false, ℕ, suc, ◌≤◌, ◌<◌, eqb, length, if◌then◌else◌}
use Rattle.std.proofs.Common.{sym, ◌∙◌, ap, inl, inr, arith, eqb-true, eq-eqb}
use mathlib.Core.List.Memᴰ
use mathlib.Core.List.{List, [], ◌∷◌, Memᴰ}
use Rattle.std.proofs.lemmas.Bool.{eqb-false}
use Rattle.laws.specs.Tests.{split}
use Rattle.definition.specs.Book.{Pair, label, linked}

-- a function that agrees on each pair agrees on each class
pub respects : (f : ℕ → ℕ) (ps : List Pair) → ((p : Pair) → Memᴰ p ps → f p.a ≡ f p.b) → (x : ℕ) → f (label ps x) ≡ f x
respects f [] h x = refl
respects f (p ∷ ps) h x = go (split (eqb (label ps x) (label ps p.b))) (respects f ps (λ q m. h q (Memᴰ.tail m)))
  where
    go : (eqb (label ps x) (label ps p.b) ≡ true) ⊎ (eqb (label ps x) (label ps p.b) ≡ false) → ((y : ℕ) → f (label ps y) ≡ f y) → f (label (p ∷ ps) x) ≡ f x
    go (inl e) rec =
        let q = eqb-true (label ps x) (label ps p.b) e in
        let r = h p (Memᴰ.head refl) in
        rw e (rec p.a ∙ r ∙ sym (rec p.b) ∙ ap f (sym q) ∙ rec x)
    go (inr e) rec = rw e (rec x)

pub respected : (f : ℕ → ℕ) (ps : List Pair) → ((p : Pair) → Memᴰ p ps → f p.a ≡ f p.b) → (x y : ℕ) → label ps x ≡ label ps y → f x ≡ f y
respected f ps h x y e = sym (respects f ps h x) ∙ ap f e ∙ respects f ps h y

-- one more pair: no class falls apart, and its two sites are in one
pub wider : (p : Pair) (ps : List Pair) (x y : ℕ) → label ps x ≡ label ps y → label (p ∷ ps) x ≡ label (p ∷ ps) y
wider p ps x y e = ap (λ v. if◌then◌else◌ (eqb v (label ps p.b)) (label ps p.a) v) e

pub joins : (p : Pair) (ps : List Pair) → label (p ∷ ps) p.a ≡ label (p ∷ ps) p.b
joins p ps = go (eqb (label ps p.a) (label ps p.b)) ∙ rw (eq-eqb (label ps p.b) (label ps p.b) refl)
  where
    go : (t : Bool) → if◌then◌else◌ t (label ps p.a) (label ps p.a) ≡ label ps p.a
    go true = refl
    go false = refl

pub own : (p : Pair) (ps : List Pair) → Memᴰ p ps → label ps p.a ≡ label ps p.b
own p [] m = absurd (Memᴰ.not-nil m)
own p (q ∷ ps) m = go (Memᴰ.cases_cons m) (own p ps)
  where
    go : (p ≡ q) ⊎ Memᴰ p ps → (Memᴰ p ps → label ps p.a ≡ label ps p.b) → label (q ∷ ps) p.a ≡ label (q ∷ ps) p.b
    go (inl e) rec = rw e (joins q ps)
    go (inr n) rec = wider q ps p.a p.b (rec n)

-- sites that one more pair brings together
together : (p : Pair) (ps : List Pair) (x y : ℕ) → label (p ∷ ps) x ≡ label (p ∷ ps) y
    → (label ps x ≡ label ps y) ⊎ (((label ps x ≡ label ps p.a) × (label ps y ≡ label ps p.b)) ⊎ ((label ps x ≡ label ps p.b) × (label ps y ≡ label ps p.a)))
together p ps x y e = go (split (eqb (label ps x) (label ps p.b))) (split (eqb (label ps y) (label ps p.b)))
  where
    go : (eqb (label ps x) (label ps p.b) ≡ true) ⊎ (eqb (label ps x) (label ps p.b) ≡ false)
        → (eqb (label ps y) (label ps p.b) ≡ true) ⊎ (eqb (label ps y) (label ps p.b) ≡ false)
        → (label ps x ≡ label ps y) ⊎ (((label ps x ≡ label ps p.a) × (label ps y ≡ label ps p.b)) ⊎ ((label ps x ≡ label ps p.b) × (label ps y ≡ label ps p.a)))
    go (inl q) (inl r) = inl (eqb-true (label ps x) (label ps p.b) q ∙ sym (eqb-true (label ps y) (label ps p.b) r))
    go (inl q) (inr r) = inr (inr (eqb-true (label ps x) (label ps p.b) q, sym (rw (q, r) at e)))
    go (inr q) (inl r) = inr (inl (rw (q, r) at e, eqb-true (label ps y) (label ps p.b) r))
    go (inr q) (inr r) = inl (rw (q, r) at e)

abbrev pub pair : ℕ → ℕ → Pair
pair x y = record { a = x; b = y }

-- what joining (a, b) brings together would bring a and b together
exchange : (ps : List Pair) (p q : Pair) → (label ps q.a ≡ label ps q.b → ⊥) → label (p ∷ ps) q.a ≡ label (p ∷ ps) q.b → label (q ∷ ps) p.a ≡ label (q ∷ ps) p.b
exchange ps p q sep e = go (together p ps q.a q.b e)
  where
    go : (label ps q.a ≡ label ps q.b) ⊎ (((label ps q.a ≡ label ps p.a) × (label ps q.b ≡ label ps p.b)) ⊎ ((label ps q.a ≡ label ps p.b) × (label ps q.b ≡ label ps p.a)))
        → label (q ∷ ps) p.a ≡ label (q ∷ ps) p.b
    go (inl f) = absurd (sep f)
    go (inr (inl f)) = sym (wider q ps q.a p.a f.0) ∙ joins q ps ∙ wider q ps q.b p.b f.1
    go (inr (inr f)) = sym (wider q ps q.b p.a f.1) ∙ sym (joins q ps) ∙ wider q ps q.a p.b f.0

-- PAIRS STILL TO JOIN, after those of j
abbrev pub spare : List Pair → List Pair → ℕ
spare j [] = 0
spare j (p ∷ ps) = if◌then◌else◌ (linked j p.a p.b) (spare j ps) (suc (spare (p ∷ j) ps))

pub spare_le : (j ps : List Pair) → spare j ps ≤ length ps
spare_le j [] = omega arith
spare_le j (p ∷ ps) = go (linked j p.a p.b) (spare_le j ps) (spare_le (p ∷ j) ps)
  where
    go : (t : Bool) → spare j ps ≤ length ps → spare (p ∷ j) ps ≤ length ps → if◌then◌else◌ t (spare j ps) (suc (spare (p ∷ j) ps)) ≤ suc (length ps)
    go true h k = omega arith
    go false h k = omega arith

-- every class of j lies in one of k
abbrev pub Finer : List Pair → List Pair → Type 0
Finer j k = (p : Pair) → Memᴰ p j → label k p.a ≡ label k p.b

finer_cons : (p : Pair) (j k : List Pair) → label k p.a ≡ label k p.b → Finer j k → Finer (p ∷ j) k
finer_cons p j k e h q m = go (Memᴰ.cases_cons m)
  where
    go : (q ≡ p) ⊎ Memᴰ q j → label k q.a ≡ label k q.b
    go (inl f) = rw f e
    go (inr n) = h q n

finer_wider : (p : Pair) (j k : List Pair) → Finer j k → Finer j (p ∷ k)
finer_wider p j k h q m = wider p k q.a q.b (h q m)

finer_refl : (j : List Pair) → Finer j j
finer_refl j = λ q m. own q j m

finer_both : (p : Pair) (j k : List Pair) → Finer j k → Finer (p ∷ j) (p ∷ k)
finer_both p j k h = finer_cons p j (p ∷ k) (joins p k) (finer_wider p j k h)

linked_no : (j : List Pair) (p : Pair) → linked j p.a p.b ≡ false → label j p.a ≡ label j p.b → ⊥
unfolding linked
linked_no j p e = eqb-false (label j p.a) (label j p.b) e

pub linked_yes : (j : List Pair) (x y : ℕ) → linked j x y ≡ true → label j x ≡ label j y
unfolding linked
linked_yes j x y e = eqb-true (label j x) (label j y) e

pub yes_linked : (j : List Pair) (x y : ℕ) → label j x ≡ label j y → linked j x y ≡ true
unfolding linked
yes_linked j x y e = eq-eqb (label j x) (label j y) e

spare_finer : (ps j k : List Pair) → Finer j k → spare k ps ≤ spare j ps
spare_finer [] j k h = omega arith
spare_finer (p ∷ ps) j k h = go (split (linked j p.a p.b)) (split (linked k p.a p.b)) (spare_finer ps)
  where
    go : (linked j p.a p.b ≡ true) ⊎ (linked j p.a p.b ≡ false) → (linked k p.a p.b ≡ true) ⊎ (linked k p.a p.b ≡ false)
        → ((j' k' : List Pair) → Finer j' k' → spare k' ps ≤ spare j' ps) → spare k (p ∷ ps) ≤ spare j (p ∷ ps)
    go (inl e) (inl f) rec = rw (e, f) (rec j k h)
    go (inl e) (inr f) rec = absurd (linked_no k p f (respected (label k) j h p.a p.b (linked_yes j p.a p.b e)))
    go (inr e) (inl f) rec = rw (e, f) (let q = rec (p ∷ j) k (finer_cons p j k (linked_yes k p.a p.b f) h) in omega arith)
    go (inr e) (inr f) rec = rw (e, f) (let q = rec (p ∷ j) (p ∷ k) (finer_both p j k h) in omega arith)

-- joining two sites that are apart, and that the pairs bring together, leaves one pair less
pub spare_falls : (ps j : List Pair) (q : Pair) → (label j q.a ≡ label j q.b → ⊥)
    → ((k : List Pair) → Finer j k → Finer ps k → label k q.a ≡ label k q.b) → spare (q ∷ j) ps < spare j ps
spare_falls [] j q sep h = absurd (sep (h j (finer_refl j) (λ p m. absurd (Memᴰ.not-nil m))))
spare_falls (p ∷ ps) j q sep h = go (split (linked j p.a p.b)) (split (linked (q ∷ j) p.a p.b)) (spare_falls ps)
  where
    go : (linked j p.a p.b ≡ true) ⊎ (linked j p.a p.b ≡ false) → (linked (q ∷ j) p.a p.b ≡ true) ⊎ (linked (q ∷ j) p.a p.b ≡ false)
        → ((j' : List Pair) (q' : Pair) → (label j' q'.a ≡ label j' q'.b → ⊥)
        → ((k : List Pair) → Finer j' k → Finer ps k → label k q'.a ≡ label k q'.b) → spare (q' ∷ j') ps < spare j' ps)
        → spare (q ∷ j) (p ∷ ps) < spare j (p ∷ ps)
    go (inl e) (inl f) rec = rw (e, f) (rec j q sep (λ k m n. h k m (finer_cons p ps k (respected (label k) j m p.a p.b (linked_yes j p.a p.b e)) n)))
    go (inl e) (inr f) rec = absurd (linked_no (q ∷ j) p f (wider q j p.a p.b (linked_yes j p.a p.b e)))
    go (inr e) (inl f) rec = rw (e, f) (let r = spare_finer ps (p ∷ j) (q ∷ j) (finer_cons p j (q ∷ j) (linked_yes (q ∷ j) p.a p.b f) (finer_wider q j j (finer_refl j))) in omega arith)
    go (inr e) (inr f) rec =
        let apart : label (p ∷ j) q.a ≡ label (p ∷ j) q.b → ⊥ = λ z. linked_no (q ∷ j) p f (exchange j p q sep z) in
        let r = rec (p ∷ j) q apart (λ k m n. h k (λ s l. m s (Memᴰ.tail l)) (finer_cons p ps k (m p (Memᴰ.head refl)) n)) in
        let s = spare_finer ps (q ∷ p ∷ j) (p ∷ q ∷ j) (finer_cons q (p ∷ j) (p ∷ q ∷ j) (wider p (q ∷ j) q.a q.b (joins q j)) (finer_both p j (q ∷ j) (finer_wider q j j (finer_refl j)))) in
        rw (e, f) (omega arith)

-- where none is left, the pairs' classes are joined
pub spare_none : (ps j : List Pair) → spare j ps ≡ 0 → Finer ps j
spare_none [] j e = λ p m. absurd (Memᴰ.not-nil m)
spare_none (q ∷ ps) j e = go (split (linked j q.a q.b)) (spare_none ps j)
  where
    go : (linked j q.a q.b ≡ true) ⊎ (linked j q.a q.b ≡ false) → (spare j ps ≡ 0 → Finer ps j) → Finer (q ∷ ps) j
    go (inl f) rec = finer_cons q ps j (linked_yes j q.a q.b f) (rec (rw f at e))
    go (inr f) rec = absurd (let z : suc (spare (q ∷ j) ps) ≡ 0 = rw f at e in omega arith)
