-- Lists of words that pass a test, and n words.
use Rattle.std.proofs.Common.{◌≡◌, ℕ, ◌<◌, refl, sym, ap, ◌∙◌, length, Bor, Iter}
use mathlib.Core.Bool.{Bool, ◌&&◌}
use mathlib.Core.List.{List, [], ◌∷◌}
use denote.Param.Members.{Mut}
use Rattle.std.proofs.lemmas.Iterator.{YieldsList-from_slice}
use Rattle.std.proofs.lemmas.Iterator.Search.{all_from_yields_List}
use Rattle.std.specs.List.{list_all}
use Rattle.std.specs.Slice.Iter.{iter_rest}
use Rattle.std.specs.Prelude.{Option, None, Some, MatchOption}
use Rattle.std.specs.List.{IsSplitAt}
use lib.Dec.{leb, leb-suc-suc}
use borrow.Author.Tests.{ne_eqb}
use Rattle.definition.specs.Read.{numbers, id_ok, place_ok, place_of}
use Rattle.reading.specs.Ends.{some_words}
use Rattle.reading.proofs.Readers.{numbers_some, numbers_none}
use Rattle.definition.specs.Lists.{all}
use Rattle.laws.specs.Chains.{AskedItems, AsksItem}

listed : (p : ℕ → Bool) (t : List ℕ) → list_all p t ≡ all p t
listed p [] = refl
listed p (x ∷ t) = ap (λ (b : Bool). p x && b) (listed p t)

module _ {F : Type 0} {g : Mut F (Bor ℕ × Unit {0}) Bool} {s u : Iter ℕ} {f : F} {r : Bool} where
  pub all_items : (p : ℕ → Bool) (t : List ℕ) → AskedItems g s u f r → iter_rest s ≡ t → AsksItem g f p → r ≡ all p t
  all_items p t ran e k = all_from_yields_List p u f r ran (YieldsList-from_slice t e) k ∙ listed p t

pub numbers_split : (n : ℕ) (w : List ℕ) (r : Option (Bor (List ℕ) × Bor (List ℕ))) → MatchOption r (length w < n) (λ p. IsSplitAt w n p.0.now p.1.now) → numbers n w ≡ some_words r
numbers_split n w None h = numbers_none n w h
numbers_split n w (Some p) h = numbers_some n w h.0 ∙ rw (← h.1, ← h.2)

pub place_is : (x : ℕ) → (x ≡ 65535 → ⊥) → leb x 251 ≡ place_ok (place_of x)
unfolding id_ok
place_is x e = sym (rw (ne_eqb x 65535 e) (leb-suc-suc x 251))
