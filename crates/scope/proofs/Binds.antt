-- `binds`, by the tests that the code makes one after another, and the places of a pattern.
use mathlib.Core.Path.{◌≡◌, refl, sym, ◌∙◌}
use mathlib.Core.Bool.{Bool, true, false, and-true, and-false}
use mathlib.Core.List.{List, map, map-map}
use mathlib.Core.Option.{some}
use Prim.Native.Nat.{ℕ, ◌+◌, ◌-◌, ◌<◌}
use native.Mathlib.Omega.{arith}
use lib.ListN.{length, get_or}
use borrow.Author.Tests.{eq-eqb, ne_eqb, eqb-true}
use Rattle.definition.specs.Lists.{◌below◌, every, same_number, from, upto, first}
use Rattle.definition.specs.Book.{Book, Pattern, Site, site}
use Rattle.definition.specs.Plan.{stands_at, place_at, places}
use Rattle.definition.specs.Scope.{binds, bound_by}
use Rattle.std.proofs.Common.{ℤ, pos, negsuc, w32}
use Rattle.std.specs.Int.{cast_unsigned}
use Rattle.definition.specs.Tree.{word, place_word}
use Rattle.laws.specs.Tests.{every_at}
use Rattle.laws.specs.Asks.{in_range, first_skip, first_hit}
use Rattle.laws.specs.Members.{heads_one}

module _ (s : ℕ) (p : Pattern) (x : Site) where
  pub bound_kind : binds s p x ≡ true → x.kind ≡ 7
  unfolding binds
  bound_kind e = eqb-true x.kind 7 (every_at _ 0 e)

  pub other_kind : (x.kind ≡ 7 → ⊥) → binds s p x ≡ false
  unfolding binds every
  other_kind n = rw (ne_eqb x.kind 7 n)

  module _ (k : x.kind ≡ 7) (l : length x.sources ≡ 1) where
    pub other_source : (get_or x.sources 0 0 ≡ s → ⊥) → binds s p x ≡ false
    unfolding binds every
    other_source n = rw (eq-eqb x.kind 7 k, heads_one s x.sources l, ne_eqb (get_or x.sources 0 0) s n)

    module _ (h : get_or x.sources 0 0 ≡ s) where
      pub other_pattern : (x.pattern ≡ p.kind → ⊥) → binds s p x ≡ false
      unfolding binds every
      other_pattern n = rw (eq-eqb x.kind 7 k, heads_one s x.sources l, eq-eqb (get_or x.sources 0 0) s h, ne_eqb x.pattern p.kind n)

      module _ (g : x.pattern ≡ p.kind) where
        pub other_number : same_number x.number p.number ≡ false → binds s p x ≡ false
        unfolding binds every
        other_number e = rw (eq-eqb x.kind 7 k, heads_one s x.sources l, eq-eqb (get_or x.sources 0 0) s h, eq-eqb x.pattern p.kind g, e)

        pub bound_below : same_number x.number p.number ≡ true → binds s p x ≡ x.position below p.fields
        unfolding binds every
        bound_below e =
            rw (eq-eqb x.kind 7 k, heads_one s x.sources l, eq-eqb (get_or x.sources 0 0) s h, eq-eqb x.pattern p.kind g, e) (and-true _)

-- each of the tests that `is_bound` makes
pub ruleset bound_tests = (other_kind, other_source, other_pattern, other_number, bound_below)

-- A PLACE: site x of the book is z of the table
module _ (b : Book) (s : ℕ) (p : Pattern) (k x : ℕ) {z : Site} (e : site b x ≡ z) where
  pub stands_here : binds s p z ≡ true → z.position ≡ k → stands_at b s p k x ≡ true
  unfolding stands_at
  stands_here h g = rw (e, h) (eq-eqb z.position k g)

  pub stands_elsewhere : (z.position ≡ k → ⊥) → stands_at b s p k x ≡ false
  unfolding stands_at
  stands_elsewhere n = rw (e, ne_eqb z.position k n) (and-false (binds s p z))

  pub not_bound : binds s p z ≡ false → stands_at b s p k x ≡ false
  unfolding stands_at
  not_bound h = rw (e, h)

-- the word of each place
abbrev pub place_word_at : Book → ℕ → Pattern → ℕ → ℕ
place_word_at b s p k = place_word (place_at b s p k)

pub places_are_words : (b : Book) (s : ℕ) (p : Pattern) → map place_word (places b s p) ≡ map (place_word_at b s p) (upto p.fields)
unfolding places
places_are_words b s p = map-map place_word (place_at b s p) (upto p.fields)

-- a pass that emits the sites that the pattern binds
pub bound_is : (b : Book) (s : ℕ) (p : Pattern) (st : List ℕ) (x : ℕ) {z : Site} {t : Bool} → site b x ≡ z → binds s p z ≡ t
    → bound_by b s p st x ≡ t
unfolding bound_by
bound_is b s p st x e h = rw e h

-- THE SEARCH for a place has still to ask x, x + 1, ..
pub record Seeking (b : Book) (s : ℕ) (p : Pattern) (k n x : ℕ) : Type 0 where
  pub left : place_at b s p k ≡ first (stands_at b s p k) (from x (n - x))

module _ {b : Book} {s : ℕ} {p : Pattern} {k n : ℕ} where
  pub seeking_starts : length b.sites ≡ n → Seeking b s p k n 0
  unfolding place_at
  seeking_starts e = let z : n - 0 ≡ n = omega arith in record { left = rw (e, z) }

  pub seeking_skip : {x : ℕ} → Seeking b s p k n x → x < n → stands_at b s p k x ≡ false → Seeking b s p k n (x + 1)
  seeking_skip {x} i h e = record { left = i.left ∙ sym (first_skip (in_range n) (stands_at b s p k) x h e) }

  pub seeking_hit : {x : ℕ} → Seeking b s p k n x → x < n → stands_at b s p k x ≡ true → some x ≡ place_at b s p k
  seeking_hit {x} i h e = sym (i.left ∙ first_hit (in_range n) (stands_at b s p k) x h e)

-- a number's word is its 32 bits
pub number_word : (z : ℤ) → word z ≡ cast_unsigned w32 z
number_word (pos n) = refl
number_word (negsuc n) = omega arith
