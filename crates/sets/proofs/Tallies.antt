-- How often an entry stands in a list: after a store over a 0, and after a renaming.
use mathlib.Core.Path.{◌≡◌, refl, sym}
use mathlib.Core.List.{List, [], ◌∷◌, map}
use Prim.Native.Nat.{ℕ, zero, suc, ◌+◌, ◌≤◌, ◌<◌}
use native.Mathlib.Omega.{arith}
use native.Mathlib.Decide.{ℕ_discrete}
use lib.ListN.{get_or, length, set, length-map}
use borrow.Author.Tests.{eq-eqb, ne_eqb}
use Rattle.definition.specs.Lists.{◌is◌, filter}
use Rattle.laws.specs.Members.{filter_all}
use Rattle.laws.specs.Loops.{relabel}
use Rattle.laws.specs.Runs.{one_kept}
use Rattle.sets.specs.View.{tally}

pub tally_pos : (l : List ℕ) (i v : ℕ) → get_or l i 0 ≡ suc v → 0 < tally (suc v) l
tally_pos [] i v e = absurd (omega arith)
tally_pos (x ∷ xs) zero v e = rw (eq-eqb (suc v) x (sym e)) (omega arith)
tally_pos (x ∷ xs) (suc i) v e = omega (arith, one_kept (suc v is x) x (filter (◌is◌ (suc v)) xs), tally_pos xs i v e)

pub tally_set : (l : List ℕ) (i v a : ℕ) → ◌≡◌ {A = ℕ} (get_or l i 0) 0 → (suc v ≡ a → ⊥)
    → tally (suc v) (set l i a) ≡ tally (suc v) l
tally_set [] i v a e n = refl
tally_set (x ∷ xs) zero v a e n = rw (ne_eqb (suc v) a n, ne_eqb (suc v) x (λ h. omega arith))
tally_set (x ∷ xs) (suc i) v a e n =
    let kept = one_kept (suc v is x) x in
    omega (arith, kept (filter (◌is◌ (suc v)) (set xs i a)), kept (filter (◌is◌ (suc v)) xs), tally_set xs i v a e n)

-- u is renamed to w
module _ (u w : ℕ) (n : u ≡ w → ⊥) where
  pub tally_into : (l : List ℕ) → tally w (map (relabel u w) l) ≡ tally u l + tally w l
  tally_into [] = omega arith
  tally_into (x ∷ xs) = go (ℕ_discrete x u) (tally_into xs)
    where
      go : Dec (x ≡ u) → tally w (map (relabel u w) xs) ≡ tally u xs + tally w xs
          → tally w (map (relabel u w) (x ∷ xs)) ≡ tally u (x ∷ xs) + tally w (x ∷ xs)
      go (yes e) ih = rw (e, eq-eqb u u refl, eq-eqb w w refl, ne_eqb w u (λ h. n (sym h))) (omega arith)
      go (no m) ih =
          rw (ne_eqb x u m, ne_eqb u x (λ h. m (sym h)))
          (omega (arith, one_kept (w is x) x (filter (◌is◌ w) (map (relabel u w) xs)), one_kept (w is x) x (filter (◌is◌ w) xs)))

  pub tally_else : (v : ℕ) → (v ≡ u → ⊥) → (v ≡ w → ⊥) → (l : List ℕ) → tally v (map (relabel u w) l) ≡ tally v l
  tally_else v hu hw [] = refl
  tally_else v hu hw (x ∷ xs) = go (ℕ_discrete x u) (tally_else v hu hw xs)
    where
      go : Dec (x ≡ u) → tally v (map (relabel u w) xs) ≡ tally v xs → tally v (map (relabel u w) (x ∷ xs)) ≡ tally v (x ∷ xs)
      go (yes e) ih = rw (e, eq-eqb u u refl, ne_eqb v w hw, ne_eqb v u hu, ih)
      go (no m) ih =
          let kept = one_kept (v is x) x in
          rw (ne_eqb x u m) (omega (arith, kept (filter (◌is◌ v) (map (relabel u w) xs)), kept (filter (◌is◌ v) xs)))

  -- the two together stand no more often than the list is long
  pub tally_two : (l : List ℕ) → tally u l + tally w l ≤ length l
  tally_two l = omega (arith, tally_into l, filter_all (◌is◌ w) (map (relabel u w) l), length-map l (relabel u w))
