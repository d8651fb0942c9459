-- Signed numbers as code compares them, and places.
use mathlib.Core.Path.{◌≡◌, refl, sym, ap, subst, ◌∙◌}
use mathlib.Core.Bool.{Bool, true, ◌&&◌}
use mathlib.Core.List.{List, [], ◌∷◌, ◌++◌, map}
use mathlib.Core.Option.{Option, none, some}
use Prim.Native.Nat.{ℕ}
use lib.IntN.{ℤ}
use lib.Dec.{eqb}
use mir.Syntax.{w32}
use mir.Val.{SFits, to_z, of_z}
use mir.Facts.{to_z-of_z}
use borrow.Author.Tests.{eq-eqb, eqb-true}
use Rattle.definition.specs.Lists.{same_number, all}
use Rattle.definition.specs.Read.{place_of}
use Rattle.definition.specs.Walk.{placed_in}
use Rattle.laws.specs.Tests.{same_test}
use Rattle.laws.specs.Turns.{all_append}
use Rattle.laws.specs.Orders.{same_number_equal, same_number_self}

pub same_is : (a b : ℤ) → SFits w32 a → SFits w32 b → eqb (of_z w32 a) (of_z w32 b) ≡ same_number a b
same_is a b f g =
    same_test _ _
    (λ e. let q : a ≡ b = sym (to_z-of_z f) ∙ ap (to_z w32) (eqb-true (of_z w32 a) (of_z w32 b) e) ∙ to_z-of_z g in subst (λ x. same_number a x ≡ true) q (same_number_self a))
    (λ e. eq-eqb (of_z w32 a) (of_z w32 b) (ap (of_z w32) (same_number_equal a b e)))

placed_cons : (o : Option ℕ) (xs : List (Option ℕ)) → placed_in (o ∷ xs) ≡ placed_in (o ∷ []) ++ placed_in xs
placed_cons none xs = refl
placed_cons (some s) xs = refl

placed_more : (w : ℕ) (ws : List ℕ) → placed_in (map place_of (w ∷ ws)) ≡ placed_in (map place_of (w ∷ [])) ++ placed_in (map place_of ws)
placed_more w ws = placed_cons (place_of w) (map place_of ws)

-- a test of all that is placed is one of each place
pub placed_each : (p : ℕ → Bool) (ws : List ℕ) → all (λ w. all p (placed_in (map place_of (w ∷ [])))) ws ≡ all p (placed_in (map place_of ws))
placed_each p [] = refl
placed_each p (w ∷ ws) =
    ap (λ (t : Bool). all p (placed_in (map place_of (w ∷ []))) && t) (placed_each p ws) ∙ sym (ap (all p) (placed_more w ws) ∙ all_append p (placed_in (map place_of (w ∷ []))) (placed_in (map place_of ws)))
