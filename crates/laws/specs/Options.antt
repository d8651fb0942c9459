-- Laws of what may be none: where readers one after another give something, each of them did.
use Rattle.std.specs.Prelude.{◌≡◌, refl, ℕ}
use Rattle.std.proofs.Math.Option.{Option, none, some}
use Rattle.std.proofs.Common.{arith}
use Rattle.definition.specs.Read.{◌>>=◌}

pub some_inj : {A : Type 0} (x y : A) → some x ≡ some y → x ≡ y
some_inj x y e = cc

pub bound : {A B : Type 0} (o : Option A) (f : A → Option B) (b : B) → (o >>= f) ≡ some b → (a : A) × (o ≡ some a) × (f a ≡ some b)
bound (some a) f b e = (a, refl, e)
bound none f b e = let z : ◌≡◌ {A = ℕ} 0 1 = cc in absurd (omega arith)
