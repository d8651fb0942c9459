-- A store in which an unmerged id x has become a set of its own.
use mathlib.Core.Path.{◌≡◌, refl, sym, ◌∙◌, ap}
use mathlib.Core.Bool.{Bool, true, false}
use mathlib.Core.List.{List}
use Prim.Native.Nat.{ℕ, zero, suc, ◌+◌, ◌<◌}
use native.Mathlib.Omega.{arith}
use native.Mathlib.Numerals.{add-one}
use native.Mathlib.Decide.{ℕ_discrete}
use lib.ListN.{get_or, length, set}
use lib.Seq.{get_or-set_same, get_or-set_other}
use borrow.Author.Tests.{eq-eqb, ne_eqb}
use Rattle.definition.specs.Sets.{Class, unmerged, in_set, Sets, entered, enter}
use Rattle.definition.specs.Lists.{◌is◌}
use Rattle.std.specs.Prelude.{if◌then◌else◌}
use Rattle.sets.specs.declared.Store.{Store}
use Rattle.sets.specs.View.{class_of, read, tally, Made}
use Rattle.sets.specs.Promises.{view}
use Rattle.sets.proofs.Tallies.{tally_pos, tally_set}

-- a store at another root's rank leaves a class as it was
class_other : (k : List ℕ) (x a v : ℕ) → (v ≡ suc x → ⊥) → class_of (set k x a) v ≡ class_of k v
class_other k x a zero n = refl
class_other k x a (suc r) n = ap (in_set r) (get_or-set_other k x r a 0 (λ e. n (ap suc e)))

module _ (s : Store) (x : ℕ) (hl : x < length s.root) (hk : x < length s.rank) (free : ◌≡◌ {A = ℕ} (get_or s.root x 0) 0) where
  at_x : get_or (set s.root x (x + 1)) x 0 ≡ suc x
  at_x = get_or-set_same s.root x (x + 1) 0 hl ∙ add-one x

  at_else : (z : ℕ) → (z ≡ x → ⊥) → get_or (set s.root x (x + 1)) z 0 ≡ get_or s.root z 0
  at_else z n = get_or-set_other s.root x z (x + 1) 0 n

  -- x represented nobody
  no_root : (z : ℕ) → get_or s.root z 0 ≡ suc x → ⊥
  no_root z e = omega (arith, s.made.roots z x e, free)

  entered_view : (z : ℕ) → read (set s.root x (x + 1)) (set s.rank x 0) z ≡ enter (view s) x z
  entered_view z = go (ℕ_discrete z x)
    where
      go : Dec (z ≡ x) → read (set s.root x (x + 1)) (set s.rank x 0) z ≡ enter (view s) x z
      go (yes e) = rw (e, eq-eqb x x refl, free, at_x) (ap (in_set x) (get_or-set_same s.rank x 0 0 hk))
      go (no n) = rw (ne_eqb z x n, at_else z n) (class_other s.rank x 0 (get_or s.root z 0) (no_root z))

  entered_roots : (z r : ℕ) → get_or (set s.root x (x + 1)) z 0 ≡ suc r → get_or (set s.root x (x + 1)) r 0 ≡ suc r
  entered_roots z r h = go (ℕ_discrete z x)
    where
      go : Dec (z ≡ x) → get_or (set s.root x (x + 1)) r 0 ≡ suc r
      go (yes e) = let q : r ≡ x = omega (arith, at_x, rw e at h) in rw q at_x
      go (no n) = let e = s.made.roots z r (sym (at_else z n) ∙ h) in at_else r (λ q. omega (arith, free, rw q at e)) ∙ e

  entered_ranks : (r : ℕ) → get_or (set s.root x (x + 1)) r 0 ≡ suc r
      → get_or (set s.rank x 0) r 0 < tally (suc r) (set s.root x (x + 1))
  entered_ranks r h = go (ℕ_discrete r x)
    where
      go : Dec (r ≡ x) → get_or (set s.rank x 0) r 0 < tally (suc r) (set s.root x (x + 1))
      go (yes e) = rw (e, get_or-set_same s.rank x 0 0 hk) (tally_pos (set s.root x (x + 1)) x x at_x)
      go (no n) =
          rw (get_or-set_other s.rank x r 0 0 n, tally_set s.root x r (x + 1) free (λ e. n (omega arith)))
          (s.made.ranks r (sym (at_else r n) ∙ h))

  pub entered_made : Made (set s.root x (x + 1)) (set s.rank x 0)
  entered_made = record { roots = entered_roots; ranks = entered_ranks }

entered_in : (k : List ℕ) (x v : ℕ) → (◌≡◌ {A = ℕ} v 0 → ⊥) → class_of k v ≡ entered x (class_of k v)
entered_in k x zero n = absurd (n refl)
entered_in k x (suc r) n = refl

-- who has entered is in a set, and stays in one
entered_some : (y : ℕ) (c : Class) → entered y c ≡ unmerged → ⊥
entered_some y unmerged e = let z : ◌≡◌ {A = ℕ} 0 1 = cc in omega arith
entered_some y (in_set r k) e = let z : ◌≡◌ {A = ℕ} 0 1 = cc in omega arith

chosen_some : (t : Bool) (y : ℕ) (c : Class) → (c ≡ unmerged → ⊥) → (if t then entered y c else c) ≡ unmerged → ⊥
chosen_some true y c n = entered_some y c
chosen_some false y c n = n

pub enter_some : (s : Sets) (x : ℕ) → enter s x x ≡ unmerged → ⊥
enter_some s x e = entered_some x (s x) (rw (eq-eqb x x refl) at e)

pub enter_keeps : (s : Sets) (x y : ℕ) → (s x ≡ unmerged → ⊥) → enter s y x ≡ unmerged → ⊥
enter_keeps s x y n = chosen_some (x is y) y (s x) n
