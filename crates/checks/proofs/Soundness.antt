-- Refusal 8's recursion without its fuel, and what tables that pass 4 and 5 leave to know.
use Prim.Native.Nat.{ℕ, zero, suc, ◌+◌, ◌*◌, ◌^◌, ◌<◌}
use mathlib.Core.Path.{◌≡◌, refl, sym, ap, ap₂, ◌∙◌}
use mathlib.Core.Bool.{Bool, true, ◌&&◌}
use mathlib.Core.List.{List, [], ◌∷◌, map}
use native.Mathlib.Omega.{arith}
use lib.Dec.{ltb}
use borrow.Author.Tests.{eq-eqb, eqb-true, ltb-true, lt-ltb}
use Rattle.definition.specs.Lists.{◌is◌, ◌below◌, ◌implies◌, every, all, upto}
use Rattle.definition.specs.Book.{Book, Rule, Site, site}
use Rattle.definition.specs.Tables.{site_words, site_word, source_at, site_at, rule_word, constraint_start, constraint_at, rule_at, book_of}
use Rattle.definition.specs.Accept.{smaller_than, grants, granted, sound_below, sound_from, sound, sound_ok}
use Rattle.definition.specs.Bytes.{sites_pass}
use Rattle.laws.specs.Tests.{both, implied, every_at}
use Rattle.laws.specs.Turns.{upto_at, all_map, upto_all}
use Rattle.checks.specs.Words.{shape_words, site_fine}
use Rattle.checks.specs.Marks.{SourcesFit, Sourced}
use Rattle.checks.proofs.Shape.{shape_count}
use Rattle.tables.specs.Held.{Words}
use Rattle.tables.proofs.Signs.{same_word}
use Rattle.tables.proofs.Kept.{site_is}
use Rattle.checks.proofs.SiteTests.{shape_is, sites_pass_is}

-- two tests that agree below s agree on ids below s
all_below : (p q : ℕ → Bool) (s : ℕ) (l : List ℕ) → all (smaller_than s) l ≡ true → ((x : ℕ) → x < s → p x ≡ q x) → all p l ≡ all q l
unfolding smaller_than
all_below p q s [] e h = refl
all_below p q s (x ∷ l) e h =
    let f = both (ltb x s) (all (smaller_than s) l) e in
    ap₂ (λ a b. a && b) (h x (ltb-true x s f.0)) (all_below p q s l f.1 h)

module _ (b : Book) (r : Rule) (S : ℕ) (lower : (s : ℕ) → s < S → all (smaller_than s) (site b s).sources ≡ true) where
  any_fuel : (f g s : ℕ) → s < f → s < g → s < S → sound_below f b r s ≡ sound_below g b r s
  unfolding sound_below
  any_fuel zero g s h i j = absurd (omega arith)
  any_fuel (suc f) zero s h i j = absurd (omega arith)
  any_fuel (suc f) (suc g) s h i j =
      ap (λ (t : Bool). ((site b s).kind is 7 implies granted r (site b s)) && t)
      (all_below (sound_below f b r) (sound_below g b r) s (site b s).sources (lower s j) (λ x k. any_fuel f g x (omega arith) (omega arith) (omega arith)))

  -- a site is sound if it is granted and its sources are sound
  sound_step : (s : ℕ) → s < S → sound_from b r s ≡ ((site b s).kind is 7 implies granted r (site b s)) && all (sound_from b r) (site b s).sources
  unfolding sound_from sound_below
  sound_step s j =
      ap (λ (t : Bool). ((site b s).kind is 7 implies granted r (site b s)) && t)
      (all_below (sound_below s b r) (sound_from b r) s (site b s).sources (lower s j) (λ x k. any_fuel s (suc x) x k (omega arith) (omega arith)))

-- the same of the tables
module _ (n S R : ℕ) (t u : List ℕ) (r : Rule) (h : Sourced S t) where
  sources_below : (s : ℕ) → s < S → all (smaller_than s) (site_at t s).sources ≡ true
  unfolding site_at smaller_than
  sources_below s l =
      all_map (smaller_than s) (source_at t s) (upto (site_word t s 1))
      ∙ upto_all (λ k. smaller_than s (source_at t s k)) (site_word t s 1) (λ k j. lt-ltb _ _ ((h.each s l).below k j))

  pub sound_at : (s : ℕ) → s < S
      → sound_from (book_of n S R t u) r s ≡ ((site_at t s).kind is 7 implies granted r (site_at t s)) && all (sound_from (book_of n S R t u) r) (site_at t s).sources
  sound_at s l =
      sound_step (book_of n S R t u) r S (λ x k. ap (λ (y : Site). all (smaller_than x) y.sources) (site_is n S R t u x k) ∙ sources_below x k) s l
      ∙ ap (λ (y : Site). (y.kind is 7 implies granted r y) && all (sound_from (book_of n S R t u) r) y.sources) (site_is n S R t u s l)

-- WHAT REFUSAL 4 LEAVES TO KNOW
fits_at : (t : List ℕ) → Words t → (s : ℕ) → site_fine t t s s ≡ true → SourcesFit t s s
unfolding site_fine site_at smaller_than shape_words
fits_at t h s e =
    let shape : shape_words (site_word t s 0) (site_word t s 1) (site_word t s 3) (site_word t s 4) (site_word t s 5) ≡ true = sym (shape_is t s (h (site_words * s + 5))) ∙ every_at _ 0 e in
    let lower : all (smaller_than s) (map (source_at t s) (upto (site_word t s 1))) ≡ true = every_at _ 1 e in
    record {
      few = shape_count (site_word t s 0) (site_word t s 1) (site_word t s 3) (site_word t s 4) (site_word t s 5) shape;
      one = λ k. eqb-true (site_word t s 1) 1 (implied (site_word t s 0 is 7) (site_word t s 1 is 1) (eq-eqb (site_word t s 0) 7 k) (every_at _ 4 shape));
      below = λ k l. ltb-true (source_at t s k) s (upto_at (λ k. smaller_than s (source_at t s k)) (site_word t s 1) k (sym (all_map (smaller_than s) (source_at t s) (upto (site_word t s 1))) ∙ lower) l);
    }

pub sourced : (n S R : ℕ) (t u : List ℕ) → Words t → sites_pass n S R t u ≡ true → Sourced S t
sourced n S R t u h e = record { each = λ s l. fits_at t h s (upto_at (λ s. site_fine t t s s) S s (sites_pass_is n S R t u ∙ e) l) }

-- A CONSTRAINT GRANTS A KIND 7 SITE, in words
pub grants_is : (n : ℕ) (t : List ℕ) (s : ℕ) (u : List ℕ) (i k : ℕ) → rule_word n u i (constraint_start k + 3) < 2 ^ 32 → site_word t s 5 < 2 ^ 32
    → site_word t s 0 ≡ 7 → site_word t s 1 ≡ 1 → grants (site_at t s) (constraint_at n u i k) ≡ every (
    site_word t s 2 is rule_word n u i (constraint_start k)
    ∷ rule_word n u i (constraint_start k + 1) is site_word t s 3
    ∷ rule_word n u i (constraint_start k + 3) is site_word t s 5
    ∷ site_word t s 4 below rule_word n u i (constraint_start k + 2)
    ∷ [])
unfolding grants site_at source_at constraint_at
grants_is n t s u i k hu ht e f =
    rw (eq-eqb (site_word t s 0) 7 e, f, ← same_word (rule_word n u i (constraint_start k + 3)) (site_word t s 5) hu ht)

-- THE WHOLE
pub sound_ok_is : (n S R : ℕ) (t u : List ℕ) → all (λ i. sound (book_of n S R t u) (rule_at n u i)) (upto R) ≡ sound_ok (book_of n S R t u)
unfolding sound_ok book_of
sound_ok_is n S R t u = sym (all_map (sound (book_of n S R t u)) (rule_at n u) (upto R))
