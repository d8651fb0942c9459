-- What an array's `map` gives where its closure is a function and keeps nothing.
use Rattle.std.proofs.Common.{◌≡◌, ℕ, zero, suc, ◌+◌, ◌<◌, ◌≤◌, true, false, eqb, ◌⊎◌, inl, inr, List, map, length, get_or, sym, ◌∙◌, ap, subst, arith, eqb-true, ext_get_or}
use denote.Param.Members.{Mut, Called}
use borrow.Author.Tests.{eqb-false}
use lib.ListN.{length-map}
use Rattle.std.specs.Array.{MapsFrom, IsMapOf}
use Rattle.laws.specs.Loops.{map_inside}
use Rattle.laws.specs.Tests.{split}

module _ {F : Type 0} {g : Mut F (ℕ × Unit {0}) ℕ} (h : ℕ → ℕ) {f : F}
    (calls : (x y : ℕ) (q : F) → Called g f (x, tt) y q → (q ≡ f) × (y ≡ h x)) where
  maps_at : (xs ys : List ℕ) (i n : ℕ) → MapsFrom g f xs ys i n → (k : ℕ) → i ≤ k → k < i + n → get_or ys k 0 ≡ h (get_or xs k 0)
  maps_at xs ys i zero m k l u = absurd (omega arith)
  maps_at xs ys i (suc n) (q, x, y, a, b, c, m) k l u = go (split (eqb i k)) (calls x y q c)
      (λ w v. maps_at xs ys (i + 1) n w k v (omega arith))
    where
      go : (eqb i k ≡ true) ⊎ (eqb i k ≡ false) → (q ≡ f) × (y ≡ h x)
          → (MapsFrom g f xs ys (i + 1) n → i + 1 ≤ k → get_or ys k 0 ≡ h (get_or xs k 0)) → get_or ys k 0 ≡ h (get_or xs k 0)
      go (inl e) z rec = subst (λ j. get_or ys j 0 ≡ h (get_or xs j 0)) (eqb-true i k e) (b.1 0 ∙ z.1 ∙ ap h (sym (a.1 0)))
      go (inr e) z rec = let d = eqb-false i k e in rec (subst (λ p. MapsFrom g p xs ys (i + 1) n) z.0 m) (omega arith)

  pub map_of : {xs ys : List ℕ} {n : ℕ} → IsMapOf g f xs ys n → length xs ≡ n → ys ≡ map h xs
  map_of {xs} {ys} {n} m e = ext_get_or 0 ys (map h xs) (m.long ∙ sym e ∙ sym (length-map xs h))
      (λ i l. maps_at xs ys 0 n m.each i (omega arith) (omega (arith, m.long))
      ∙ sym (map_inside h xs i 0 0 (omega (arith, m.long))))
