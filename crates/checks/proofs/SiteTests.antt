-- Refusal 4 in words is refusal 4.
use Prim.Native.Nat.{ℕ, ◌^◌, ◌<◌}
use mathlib.Core.Path.{◌≡◌, refl, sym, ap, ap₂, ◌∙◌}
use mathlib.Core.Logic.{◌⊎◌, inl, inr}
use mathlib.Core.Bool.{Bool, true, false, ◌&&◌, ◌||◌, not}
use mathlib.Core.List.{List, [], ◌∷◌, map}
use native.Mathlib.Decide.{ℕ_discrete}
use native.Mathlib.Omega.{arith}
use lib.IntN.{ℤ, pos}
use lib.Dec.{eqb}
use lib.ListN.{length, get_or}
use borrow.Author.Tests.{eqb-true, ne_eqb}
use Rattle.definition.specs.Lists.{◌is◌, ◌below◌, ◌at_most◌, ◌implies◌, every, same_number, upto, all}
use Rattle.definition.specs.Book.{Site, site}
use Rattle.definition.specs.Tables.{site_word, source_at, site_at, site_tidy, book_of}
use Rattle.definition.specs.Accept.{shape_ok, twins, smaller_than, no_twin, site_ok, sites_ok}
use Rattle.definition.specs.Bytes.{sites_pass}
use Rattle.laws.specs.Tests.{split}
use Rattle.laws.specs.Answers.{and-false, every_stop}
use Rattle.laws.specs.Turns.{all_and, upto_same}
use Rattle.checks.specs.Words.{shape_words, twinless, site_fine}
use Rattle.theorems.specs.Refusals.{sites_length}
use Rattle.tables.proofs.Signs.{same_word, zero_word}
use Rattle.tables.proofs.Fields.{site_kind, source_count, bound_kind, bound_position, bound_number}
use Rattle.tables.proofs.Kept.{site_is}

-- kind, count, pattern kind, position, and whether the number is 0
unfoldable shape_of : ℕ → ℕ → ℕ → ℕ → Bool → Bool
shape_of k n p q z = every (
    k at_most 7
    ∷ (k below 3 implies n is 0)
    ∷ (k is 3 implies n is 1)
    ∷ n at_most 4
    ∷ (k is 7 implies n is 1)
    ∷ (k is 7 implies (p is 2 || p is 3))
    ∷ (k is 7 && p is 3 implies q is 0 && z)
    ∷ [])

shape_ok_is : (x : Site) → shape_ok x ≡ shape_of x.kind (length x.sources) x.pattern x.position (same_number x.number (pos 0))
unfolding shape_ok shape_of
shape_ok_is x = refl

shape_words_is : (k n p q z : ℕ) → shape_words k n p q z ≡ shape_of k n p q (eqb z 0)
unfolding shape_words shape_of
shape_words_is k n p q z = refl

-- of a site that is not of kind 7 nothing else is asked
shape_plain : (k n p q : ℕ) (z : Bool) (p' q' : ℕ) (z' : Bool) → eqb k 7 ≡ false → shape_of k n p q z ≡ shape_of k n p' q' z'
unfolding shape_of
shape_plain k n p q z p' q' z' e = rw e

shape_same : {k n p q k' n' p' q' : ℕ} {z z' : Bool} → k ≡ k' → n ≡ n' → p ≡ p' → q ≡ q' → z ≡ z' → shape_of k n p q z ≡ shape_of k' n' p' q' z'
shape_same a b c d e = cc

pub shape_is : (t : List ℕ) (s : ℕ) → site_word t s 5 < 2 ^ 32 → shape_ok (site_at t s) ≡ shape_words (site_word t s 0) (site_word t s 1) (site_word t s 3) (site_word t s 4) (site_word t s 5)
shape_is t s h = go (split (eqb (site_word t s 0) 7))
  where
    go : (eqb (site_word t s 0) 7 ≡ true) ⊎ (eqb (site_word t s 0) 7 ≡ false)
        → shape_ok (site_at t s) ≡ shape_words (site_word t s 0) (site_word t s 1) (site_word t s 3) (site_word t s 4) (site_word t s 5)
    go (inl e) =
        let k : (site_at t s).kind ≡ 7 = site_kind t s ∙ eqb-true _ 7 e in
        shape_ok_is (site_at t s)
        ∙ shape_same (site_kind t s) (source_count t s) (bound_kind t s k) (bound_position t s k)
        (ap (λ (z : ℤ). same_number z (pos 0)) (bound_number t s k) ∙ sym (zero_word (site_word t s 5) h))
        ∙ sym (shape_words_is _ _ _ _ _)
    go (inr e) =
        shape_ok_is (site_at t s)
        ∙ shape_same (site_kind t s) (source_count t s) refl refl refl
        ∙ shape_plain (site_word t s 0) (site_word t s 1) _ _ _ (site_word t s 3) (site_word t s 4) (eqb (site_word t s 5) 0) e
        ∙ sym (shape_words_is _ _ _ _ _)

-- TWINS
module _ (t : List ℕ) (r : ℕ) (u : List ℕ) (s : ℕ) where
  pub first_plain : (site_word t r 0 ≡ 7 → ⊥) → twins (site_at t r) (site_at u s) ≡ false
  unfolding twins site_at
  first_plain h = every_stop _ 0 (ne_eqb _ _ h)

  pub second_plain : (site_word u s 0 ≡ 7 → ⊥) → twins (site_at t r) (site_at u s) ≡ false
  unfolding twins site_at
  second_plain h = every_stop _ 1 (ne_eqb _ _ h)

  -- of two sites of kind 7 the fields are compared one by one
  pub twins_is : site_word t r 5 < 2 ^ 32 → site_word u s 5 < 2 ^ 32 → twins (site_at t r) (site_at u s) ≡ every (
      site_word t r 0 is 7
      ∷ site_word u s 0 is 7
      ∷ get_or (site_at t r).sources 0 0 is get_or (site_at u s).sources 0 0
      ∷ site_word t r 3 is site_word u s 3
      ∷ site_word t r 5 is site_word u s 5
      ∷ site_word t r 4 is site_word u s 4
      ∷ [])
  unfolding twins
  twins_is hr hs = elim (ℕ_discrete (site_word t r 0) 7) [
    | no p ↦ first_plain p ∙ sym (every_stop _ 0 (ne_eqb _ _ p))
    | yes p ↦ elim (ℕ_discrete (site_word u s 0) 7) [
      | no q ↦ second_plain q ∙ sym (every_stop _ 1 (ne_eqb _ _ q))
      | yes q ↦
          let e : (site_at t r).kind ≡ 7 = site_kind t r ∙ p in
          let f : (site_at u s).kind ≡ 7 = site_kind u s ∙ q in
          rw (site_kind t r, site_kind u s, bound_kind t r e, bound_kind u s f, bound_number t r e, bound_number u s f, bound_position t r e, bound_position u s f, ← same_word (site_word t r 5) (site_word u s 5) hr hs)
    ]
  ]

-- THE WHOLE
three_tests : {a b c a' b' c' : Bool} → a ≡ a' → b ≡ b' → c ≡ c' → every (a ∷ b ∷ c ∷ []) ≡ every (a' ∷ b' ∷ c' ∷ [])
three_tests p q r = cc

-- the last test put first
last_first : (a b c d : Bool) → every (a ∷ b ∷ c ∷ d ∷ []) ≡ d && every (a ∷ b ∷ c ∷ [])
unfolding every
last_first true true true true = refl
last_first true true true false = refl
last_first true true false d = sym (and-false d)
last_first true false c d = sym (and-false d)
last_first false b c d = sym (and-false d)

sources_is : (t : List ℕ) (s : ℕ) → (site_at t s).sources ≡ map (source_at t s) (upto (site_word t s 1))
unfolding site_at
sources_is t s = refl

-- a site's tests, of its words
pub fine_words : (t w : List ℕ) (i s : ℕ) → site_word w i 5 < 2 ^ 32 → site_fine t w i s ≡ every (
    shape_words (site_word w i 0) (site_word w i 1) (site_word w i 3) (site_word w i 4) (site_word w i 5)
    ∷ all (smaller_than s) (map (source_at w i) (upto (site_word w i 1)))
    ∷ all (twinless t (site_at w i)) (upto s)
    ∷ site_tidy w i
    ∷ [])
unfolding site_fine
fine_words t w i s h = rw (shape_is w i h, sources_is w i)

module _ (n S R : ℕ) (t u : List ℕ) where
  site_ok_is : (s : ℕ) → s < S → every (shape_ok (site_at t s) ∷ all (smaller_than s) (site_at t s).sources ∷ all (twinless t (site_at t s)) (upto s) ∷ []) ≡ site_ok (book_of n S R t u) s
  unfolding site_ok no_twin twinless
  site_ok_is s l =
      let e : site_at t s ≡ site (book_of n S R t u) s = sym (site_is n S R t u s l) in
      three_tests
      (ap shape_ok e)
      (ap (λ (x : Site). all (smaller_than s) x.sources) e)
      (upto_same _ (no_twin (book_of n S R t u) s) s (λ r k. ap not (ap₂ twins (sym (site_is n S R t u r (omega arith))) e)))

  fine_is : (s : ℕ) → s < S → site_fine t t s s ≡ site_tidy t s && site_ok (book_of n S R t u) s
  unfolding site_fine
  fine_is s l =
      last_first (shape_ok (site_at t s)) (all (smaller_than s) (site_at t s).sources) (all (twinless t (site_at t s)) (upto s)) (site_tidy t s)
      ∙ ap (λ (x : Bool). site_tidy t s && x) (site_ok_is s l)

  pub sites_pass_is : all (λ s. site_fine t t s s) (upto S) ≡ sites_pass n S R t u
  unfolding sites_pass sites_ok
  sites_pass_is =
      upto_same (λ s. site_fine t t s s) (λ s. site_tidy t s && site_ok (book_of n S R t u) s) S fine_is
      ∙ all_and (site_tidy t) (site_ok (book_of n S R t u)) (upto S)
      ∙ ap (λ (m : ℕ). all (site_tidy t) (upto S) && all (site_ok (book_of n S R t u)) (upto m)) (sym (sites_length n S R t u))
