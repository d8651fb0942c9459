-- Laws of loops over `from a n` and `upto n`: one more turn, a turn that fails, and the whole of them.
use Rattle.std.specs.Prelude.{◌≡◌, refl, ◌⊎◌, Bool, true, false, ◌&&◌, ◌||◌, List, [], ◌∷◌, ◌++◌, map, ℕ, zero, suc, ◌+◌, ◌*◌, ◌<◌, ltb, length, get_or, take}
use Rattle.std.proofs.Common.{sym, ◌∙◌, ap, ap₂, inl, inr, append_assoc, append-nil, arith, add-one, length-append, take-suc, ltb-true, ltb-false}
use Rattle.std.proofs.lemmas.List.{length-map}
use Rattle.definition.specs.Lists.{from, upto, all, any, flat}
use Rattle.laws.specs.Tests.{split, clash, same_test, and}
use Rattle.laws.specs.Answers.{and_assoc, and_swap, and-false, and_second}
use Rattle.laws.specs.Members.{all_from, all_same, from_bounds}
use Rattle.laws.specs.Ranges.{from_more, upto_more, from_length, map_at}

module _ {A : Type 0} where
  pub all_append : (p : A → Bool) (l m : List A) → all p (l ++ m) ≡ all p l && all p m
  all_append p [] m = refl
  all_append p (x ∷ l) m = ap (λ (t : Bool). p x && t) (all_append p l m) ∙ and_assoc (p x) (all p l) (all p m)

  pub all_and : (p q : A → Bool) (l : List A) → all (λ x. p x && q x) l ≡ all p l && all q l
  all_and p q [] = refl
  all_and p q (x ∷ l) = ap (λ (t : Bool). (p x && q x) && t) (all_and p q l) ∙ and_swap (p x) (q x) (all p l) (all q l)

module _ {A B : Type 0} where
  pub all_map : (p : B → Bool) (f : A → B) (l : List A) → all p (map f l) ≡ all (λ x. p (f x)) l
  all_map p f [] = refl
  all_map p f (x ∷ l) = ap (λ (t : Bool). p (f x) && t) (all_map p f l)

  pub any_map : (p : B → Bool) (f : A → B) (l : List A) → any p (map f l) ≡ any (λ x. p (f x)) l
  any_map p f [] = refl
  any_map p f (x ∷ l) = ap (λ (t : Bool). p (f x) || t) (any_map p f l)

  pub flat_append : (f : A → List B) (l m : List A) → flat f (l ++ m) ≡ flat f l ++ flat f m
  flat_append f [] m = refl
  flat_append f (x ∷ l) m = ap (λ (t : List B). f x ++ t) (flat_append f l m) ∙ sym (append_assoc (f x) (flat f l) (flat f m))

  -- all of what several lists hold
  pub all_flat : (p : B → Bool) (f : A → List B) (l : List A) → all p (flat f l) ≡ all (λ x. all p (f x)) l
  all_flat p f [] = refl
  all_flat p f (x ∷ l) = all_append p (f x) (flat f l) ∙ ap (λ (t : Bool). all p (f x) && t) (all_flat p f l)

-- A LOOP over k < n that stops at the first failure
pub from_one : (p : ℕ → Bool) (a k : ℕ) → all p (from a k) ≡ true → p (a + k) ≡ true → all p (from a (k + 1)) ≡ true
from_one p a k e q = ap (all p) (from_more a k) ∙ all_append p (from a k) ((a + k) ∷ []) ∙ and e (and q refl)

pub upto_next : (p : ℕ → Bool) (k : ℕ) → all p (upto k) ≡ true → p k ≡ true → all p (upto (k + 1)) ≡ true
upto_next p k e q = ap (all p) (upto_more k) ∙ all_append p (upto k) (k ∷ []) ∙ and e (and q refl)

pub from_stop : (p : ℕ → Bool) (a n k : ℕ) → k < n → p (a + k) ≡ false → all p (from a n) ≡ false
from_stop p a zero k h e = absurd (omega arith)
from_stop p a (suc n) zero h e = let z : p a ≡ false = ap p (omega arith) ∙ e in rw z
from_stop p a (suc n) (suc k) h e =
    ap (λ (t : Bool). p a && t) (from_stop p (suc a) n k (omega arith) (ap p (omega arith) ∙ e)) ∙ and-false (p a)

pub upto_stop : (p : ℕ → Bool) (n k : ℕ) → k < n → p k ≡ false → all p (upto n) ≡ false
upto_stop p n k h e = from_stop p 0 n k h (ap p (omega arith) ∙ e)

-- what stands at i among the first n entries fails
pub front_stop : (p : ℕ → Bool) (l : List ℕ) (i n : ℕ) → i < n → i < length l → p (get_or l i 0) ≡ false → all p (take n l) ≡ false
front_stop p [] i n h k e = absurd (omega arith)
front_stop p (x ∷ l) i zero h k e = absurd (omega arith)
front_stop p (x ∷ l) zero (suc n) h k e = rw e
front_stop p (x ∷ l) (suc i) (suc n) h k e = and_second (p x) (front_stop p l i n (omega arith) (omega arith) e)

-- one more of the first entries passes
pub front_more : (p : ℕ → Bool) (l : List ℕ) (i : ℕ) → all p (take i l) ≡ true → i < length l → p (get_or l i 0) ≡ true → all p (take (i + 1) l) ≡ true
front_more p l i h k e =
    let s : take (i + 1) l ≡ take i l ++ (get_or l i 0 ∷ []) = rw add-one (take-suc l i 0 k) in
    rw s (all_append p (take i l) (get_or l i 0 ∷ []) ∙ and h (and e refl))

-- what every number below n says
pub from_at : (p : ℕ → Bool) (a n k : ℕ) → all p (from a n) ≡ true → k < n → p (a + k) ≡ true
from_at p a n k e h = go (split (p (a + k)))
  where
    go : (p (a + k) ≡ true) ⊎ (p (a + k) ≡ false) → p (a + k) ≡ true
    go (inl q) = q
    go (inr q) = clash e (from_stop p a n k h q)

pub upto_at : (p : ℕ → Bool) (n k : ℕ) → all p (upto n) ≡ true → k < n → p k ≡ true
upto_at p n k e h = ap p (omega arith) ∙ from_at p 0 n k e h

-- two tests that agree below n
pub upto_same : (p q : ℕ → Bool) (n : ℕ) → ((k : ℕ) → k < n → p k ≡ q k) → all p (upto n) ≡ all q (upto n)
upto_same p q n h = all_same p q (upto n) (λ k m. h k (omega (arith, from_bounds 0 n k m)))

-- A LOOP over k < n that makes a list
pub flat_more : (f : ℕ → List ℕ) (k : ℕ) → flat f (upto (k + 1)) ≡ flat f (upto k) ++ f k
flat_more f k = ap (flat f) (upto_more k) ∙ flat_append f (upto k) (k ∷ []) ∙ ap (λ (l : List ℕ). flat f (upto k) ++ l) (append-nil (f k))

flat_from : (f : ℕ → List ℕ) (m a k : ℕ) → ((i : ℕ) → length (f i) ≡ m) → length (flat f (from a k)) ≡ m * k
flat_from f m a zero h = omega arith
flat_from f m a (suc k) h = length-append (f a) (flat f (from (suc a) k)) ∙ ap₂ (λ x y. x + y) (h a) (flat_from f m (suc a) k h) ∙ times m k
  where
    times : (m k : ℕ) → m + m * k ≡ m * suc k
    times m k = omega arith

pub flat_length : (f : ℕ → List ℕ) (m k : ℕ) → ((i : ℕ) → length (f i) ≡ m) → length (flat f (upto k)) ≡ m * k
flat_length f m k h = flat_from f m 0 k h

-- A LIST MAPPED over upto
module _ {B : Type 0} where
  pub length_map_upto : (f : ℕ → B) (n : ℕ) → length (map f (upto n)) ≡ n
  length_map_upto f n = length-map (upto n) f ∙ from_length 0 n

  pub get_map_upto : (f : ℕ → B) (n k : ℕ) (d : B) → k < n → get_or (map f (upto n)) k d ≡ f k
  get_map_upto f n k d h = map_at f 0 n k d h ∙ ap f (omega arith)

  map_append : (f : ℕ → B) (l m : List ℕ) → map f (l ++ m) ≡ map f l ++ map f m
  map_append f [] m = refl
  map_append f (x ∷ l) m = ap (λ (r : List B). f x ∷ r) (map_append f l m)

  pub map_more : (f : ℕ → B) (k : ℕ) → map f (upto (k + 1)) ≡ map f (upto k) ++ (f k ∷ [])
  map_more f k = ap (map f) (upto_more k) ∙ map_append f (upto k) (k ∷ [])

  -- a loop over its members that stops at the first failure
  pub mapped_next : (p : B → Bool) (f : ℕ → B) (k : ℕ) → all p (map f (upto k)) ≡ true → p (f k) ≡ true → all p (map f (upto (k + 1))) ≡ true
  mapped_next p f k e q = ap (all p) (map_more f k) ∙ all_append p (map f (upto k)) (f k ∷ []) ∙ and e (and q refl)

  pub mapped_stop : (p : B → Bool) (f : ℕ → B) (n k : ℕ) → k < n → p (f k) ≡ false → all p (map f (upto n)) ≡ false
  mapped_stop p f n k h e = all_map p f (upto n) ∙ upto_stop (λ j. p (f j)) n k h e

  -- a test that all of a mapped list pass, at one of them
  pub mapped_at : (p : B → Bool) (f : ℕ → B) (n k : ℕ) → all p (map f (upto n)) ≡ true → k < n → p (f k) ≡ true
  mapped_at p f n k e h = upto_at (λ j. p (f j)) n k (sym (all_map p f (upto n)) ∙ e) h

-- A LOOP over a mapped list that looks for one that passes
module _ {A : Type 0} where
  pub any_append : (p : A → Bool) (l m : List A) → any p (l ++ m) ≡ any p l || any p m
  any_append p [] m = refl
  any_append p (x ∷ l) m = ap (λ (t : Bool). p x || t) (any_append p l m) ∙ or_assoc (p x) (any p l) (any p m)
    where
      or_assoc : (x y z : Bool) → x || (y || z) ≡ (x || y) || z
      or_assoc true y z = refl
      or_assoc false y z = refl

any_from_hit : (p : ℕ → Bool) (a n k : ℕ) → k < n → p (a + k) ≡ true → any p (from a n) ≡ true
any_from_hit p a zero k h e = absurd (omega arith)
any_from_hit p a (suc n) zero h e = let z : p a ≡ true = ap p (omega arith) ∙ e in rw z
any_from_hit p a (suc n) (suc k) h e =
    ap (λ (t : Bool). p a || t) (any_from_hit p (suc a) n k (omega arith) (ap p (omega arith) ∙ e)) ∙ or_true (p a)
  where
    or_true : (x : Bool) → x || true ≡ true
    or_true true = refl
    or_true false = refl

module _ {B : Type 0} (p : B → Bool) (f : ℕ → B) where
  pub search_next : (k : ℕ) → any p (map f (upto k)) ≡ false → p (f k) ≡ false → any p (map f (upto (k + 1))) ≡ false
  search_next k e q = ap (any p) (map_more f k) ∙ any_append p (map f (upto k)) (f k ∷ []) ∙ rw (e, q)

  pub search_hit : (n k : ℕ) → k < n → p (f k) ≡ true → any p (map f (upto n)) ≡ true
  search_hit n k h q = any_map p f (upto n) ∙ any_from_hit (λ j. p (f j)) 0 n k h (ap (λ (j : ℕ). p (f j)) (omega arith) ∙ q)

-- each number below n passes, so all do
pub upto_all : (p : ℕ → Bool) (n : ℕ) → ((k : ℕ) → k < n → p k ≡ true) → all p (upto n) ≡ true
upto_all p n h = all_from p (upto n) (λ k m. h k (omega (arith, from_bounds 0 n k m)))

-- a test of two numbers that is mutual need be asked of each number and those up to it
pub half_enough : (p : ℕ → ℕ → Bool) → ((i j : ℕ) → p i j ≡ true → p j i ≡ true) → (n : ℕ)
    → all (λ i. all (p i) (upto (i + 1))) (upto n) ≡ all (λ i. all (p i) (upto n)) (upto n)
half_enough p back n =
    same_test _ _
    (λ e. upto_all (λ i. all (p i) (upto n)) n (λ i h. upto_all (p i) n (λ j g. go i j (split (ltb j (i + 1)))
    (λ q. upto_at (p i) (i + 1) j (upto_at (λ i. all (p i) (upto (i + 1))) n i e h) q)
    (λ q. back j i (upto_at (p j) (j + 1) i (upto_at (λ i. all (p i) (upto (i + 1))) n j e g) q)))))
    (λ e. upto_all (λ i. all (p i) (upto (i + 1))) n (λ i h. upto_all (p i) (i + 1) (λ j g. upto_at (p i) n j (upto_at (λ i. all (p i) (upto n)) n i e h) (omega arith))))
  where
    go : (i j : ℕ) → (ltb j (i + 1) ≡ true) ⊎ (ltb j (i + 1) ≡ false) → (j < i + 1 → p i j ≡ true) → (i < j + 1 → p i j ≡ true) → p i j ≡ true
    go i j (inl q) f g = f (ltb-true j (i + 1) q)
    go i j (inr q) f g = g (omega (arith, ltb-false j (i + 1) q))

-- two loops, one inside the other, either way round
pub all_swap : {A B : Type 0} (q : A → B → Bool) (l : List A) (m : List B) → all (λ x. all (q x) m) l ≡ all (λ y. all (λ x. q x y) l) m
all_swap q [] m = sym (none m)
  where
    none : {B : Type 0} (m : List B) → all (λ y. true) m ≡ true
    none [] = refl
    none (y ∷ m) = none m
all_swap q (x ∷ l) m = ap (λ (t : Bool). all (q x) m && t) (all_swap q l m) ∙ sym (all_and (q x) (λ y. all (λ x. q x y) l) m)
