-- The rules of a part in the table, and the highest rank of those that lack a test.
use mathlib.Core.Path.{◌≡◌, refl, sym, ap, subst, ◌∙◌}
use mathlib.Core.Logic.{◌⊎◌, inl, inr}
use mathlib.Core.Bool.{Bool, true, false, ◌&&◌, ◌||◌}
use mathlib.Core.List.{List, [], ◌∷◌}
use Prim.Native.Nat.{ℕ, ◌+◌, ◌≤◌, ◌<◌, max}
use native.Mathlib.Omega.{arith}
use lib.Dec.{eqb, leb}
use Rattle.std.specs.Ordering.{int_eq}
use Rattle.std.specs.List.{SwappedAt}
use lib.ListN.{length, get_or, drop}
use borrow.Author.Tests.{eqb-true, eqb-false, leb-true, leb-false, le-leb, lt-leb}
use Rattle.definition.specs.Book.{slots, pattern_on}
use Rattle.definition.specs.Choice.{Test, has}
use Rattle.definition.specs.Lists.{all, each}
use Rattle.definition.specs.Tables.{rule_at}
use Rattle.laws.specs.Answers.{and-true, and_assoc}
use Rattle.laws.specs.Runs.{in_slice, each_more}
use Rattle.laws.specs.Splits.{Splitting, split_swap}
use Rattle.laws.specs.Tests.{split}
use Rattle.tables.specs.Held.{rank_of, shown}
use Rattle.tables.specs.declared.Pattern as code
use Rattle.order.proofs.Compared.{same_is}
use Rattle.order.specs.Parts.{AllMeet, rule_tests, raised, raise, lack_top, passes_top, asks_pattern}

-- what a rule's record tells, at the table and the index that it was made of
pub at_rule : {A : Type 0} (f : List ℕ → ℕ → A) {words rules : List ℕ} {i x : ℕ} → (words ≡ rules) × (i ≡ x) → f words i ≡ f rules x
at_rule f {words} {rules} {i} w = ap (λ t. f t i) w.0 ∙ ap (f rules) w.1

-- what `counts` answers
module _ (rules : List ℕ) (t : Test) {words : List ℕ} {x i : ℕ} (w : (words ≡ rules) × (i ≡ x)) where
  pub counts_then : (top : ℕ) {p : ℕ} → has (rule_at slots words i) t ≡ true → p ≡ rank_of words i
      → leb top (p + 1) ≡ passes_top rules t top x
  unfolding passes_top rule_tests
  counts_then top h e = rw (← w.0, ← w.1, h, e)

  pub counts_else : (top : ℕ) → has (rule_at slots words i) t ≡ false → false ≡ passes_top rules t top x
  unfolding passes_top rule_tests
  counts_else top h = rw (← w.0, ← w.1, h)

-- what `asks_for` answers
pub asks_is : (rules : List ℕ) (s : ℕ) (p q : code.Pattern) {words : List ℕ} {x i : ℕ} → (words ≡ rules) × (i ≡ x)
    → shown q ≡ pattern_on (rule_at slots words i) s
    → eqb q.kind p.kind && (int_eq q.number p.number && eqb q.fields p.fields) ≡ asks_pattern rules s (shown p) x
unfolding asks_pattern
asks_is rules s p q w e = same_is q p ∙ rw (e, w.0, w.1)

-- THE LOOP: `top` over the rules before k
pub record Lacked (test : ℕ → Bool) (rank : ℕ → ℕ) (part : List ℕ) (k top : ℕ) : Type 0 where
  pub within : k ≤ length part
  pub is : each (raise test rank) (drop k part) top ≡ lack_top test rank part

pub lack_starts : (test : ℕ → Bool) (rank : ℕ → ℕ) (part : List ℕ) → Lacked test rank part 0 0
unfolding lack_top
lack_starts test rank part = record { within = omega arith; is = refl }

module _ {test : ℕ → Bool} {rank : ℕ → ℕ} {part : List ℕ} {k top : ℕ} (v : Lacked test rank part k top) where
  pub lack_turn : k < length part → {i : ℕ} {u : Bool} {p r : ℕ} → i ≡ get_or part k 0 → u ≡ test i → p ≡ rank i
      → r ≡ raised u p top → Lacked test rank part (k + 1) r
  unfolding raise
  lack_turn l {i} {u} {p} {r} ei eu ep er =
      let z : r ≡ raised (test (get_or part k 0)) (rank (get_or part k 0)) top = er ∙ rw (eu, ep, ei) in
      record {
        within = omega arith;
        is = ap (each (raise test rank) (drop (k + 1) part)) z ∙ sym (each_more (in_slice part) (raise test rank) k l top) ∙ v.is;
      }

-- NO RULE THAT LACKS THE TEST RANKS ABOVE K
leb_max : (a r K : ℕ) → leb (max a (r + 1)) (K + 1) ≡ leb a (K + 1) && leb r K
leb_max a r K = go (split (leb a (K + 1))) (split (leb r K))
  where
    go : (leb a (K + 1) ≡ true) ⊎ (leb a (K + 1) ≡ false) → (leb r K ≡ true) ⊎ (leb r K ≡ false)
        → leb (max a (r + 1)) (K + 1) ≡ leb a (K + 1) && leb r K
    go (inl e) (inl f) = let x = leb-true a (K + 1) e in let y = leb-true r K f in
        rw (e, f) (le-leb (max a (r + 1)) (K + 1) (omega arith))
    go (inl e) (inr f) = let y = leb-false r K f in rw (e, f) (lt-leb (max a (r + 1)) (K + 1) (omega arith))
    go (inr e) f = let x = leb-false a (K + 1) e in rw e (lt-leb (max a (r + 1)) (K + 1) (omega arith))

-- a rule j has the test, or its rank is at most K
abbrev pub bars_not : (ℕ → Bool) → (ℕ → ℕ) → ℕ → ℕ → Bool
bars_not test rank K j = test j || leb (rank j) K

module _ (test : ℕ → Bool) (rank : ℕ → ℕ) (K : ℕ) where
  lack_from : (w : List ℕ) (acc : ℕ) → leb (each (raise test rank) w acc) (K + 1) ≡ leb acc (K + 1) && all
      (bars_not test rank K) w
  unfolding raise
  lack_from [] acc = sym (and-true (leb acc (K + 1)))
  lack_from (j ∷ js) acc = lack_from js (raised (test j) (rank j) acc) ∙ go (test j)
    where
      go : (t : Bool) → leb (raised t (rank j) acc) (K + 1) && all (bars_not test rank K) js ≡ leb acc (K + 1) &&
          ((t || leb (rank j) K) && all (bars_not test rank K) js)
      go true = refl
      go false = ap (λ x. x && all (bars_not test rank K) js) (leb_max acc (rank j) K)
          ∙ sym (and_assoc (leb acc (K + 1)) (leb (rank j) K) (all (bars_not test rank K) js))

  pub lack_all : (w : List ℕ) → leb (lack_top test rank w) (K + 1) ≡ all (bars_not test rank K) w
  unfolding lack_top
  lack_all w = lack_from w 0 ∙ rw (le-leb 0 (K + 1) (omega arith))

-- what holds of every rule of a part holds of them when two have changed places
pub swapped_meet : {P : ℕ → Type 0} {l m : List ℕ} {i j : ℕ} → AllMeet P l → SwappedAt l m i j → length m ≡ length l
    → i < length l → j < length l → AllMeet P m
swapped_meet {P} {l} {m} {i} {j} a s e hi hj = record { each = λ k h. go k h (split (eqb k i)) (split (eqb k j)) }
  where
    go : (k : ℕ) → k < length m → (eqb k i ≡ true) ⊎ (eqb k i ≡ false) → (eqb k j ≡ true) ⊎ (eqb k j ≡ false) → P (get_or m k 0)
    go k h (inl f) g = subst P (sym (s.0 0) ∙ ap (λ z. get_or m z 0) (sym (eqb-true k i f))) (a.each j hj)
    go k h (inr f) (inl g) = subst P (sym (s.1 0) ∙ ap (λ z. get_or m z 0) (sym (eqb-true k j g))) (a.each i hi)
    go k h (inr f) (inr g) = subst P (sym (s.2 k 0 (eqb-false k i f) (eqb-false k j g))) (a.each k (omega arith))

-- the first that is left changes places with the last that passes
pub swapped_split : {Q : ℕ → Type 0} {p : ℕ → Bool} {l₀ l m : List ℕ} {lo hi : ℕ} → Splitting Q p l₀ l lo hi → (j : ℕ)
    → lo < j → j < hi
    → p (get_or l lo 0) ≡ false → p (get_or l j 0) ≡ true → ((k : ℕ) → j < k → k < hi → p (get_or l k 0) ≡ false)
    → SwappedAt l m lo j → Splitting Q p l₀ m (lo + 1) j
swapped_split {Q} {p} {l₀} {l} {m} {lo} {hi} i j h g e f a s = subst (λ n. Splitting Q p l₀ n (lo + 1) j) (sym (s.3 0))
    (split_swap i j h g e f a)
