-- `sets::Store::empty` meets its contract: every entry is 0.
use Prim.Native.Nat.{ℕ, zero, suc}
use mathlib.Core.Path.{◌≡◌, refl, fun_ext}
use native.Mathlib.Omega.{arith}
use lib.ListN.{get_or, replicate}
use Rattle.sets.proofs.Store.empty.Goals as goal

zeros : (n z : ℕ) → ◌≡◌ {A = ℕ} (get_or (replicate n 0) z 0) 0
zeros zero z = refl
zeros (suc n) zero = refl
zeros (suc n) (suc z) = zeros n z

pub invariant_of-result : goal.invariant_of-result
invariant_of-result c = record {
  made = record {
    roots = λ z r h. absurd (omega (arith, zeros 252 z));
    ranks = λ r h. absurd (omega (arith, zeros 252 r));
  };
}

pub returns : goal.returns
returns c = fun_ext (λ z. rw (zeros 252 z))
