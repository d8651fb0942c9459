-- What the writers of text promise.
use Rattle.std.specs.Prelude.{List, [], ◌∷◌, ◌++◌, ℕ, suc, ◌^◌, ◌<◌, length, if◌then◌else◌}
use Rattle.definition.specs.Lists.{◌below◌}
use Rattle.definition.specs.Listing.{digits}
use Rattle.room.specs.Wrote.{Writes}
use Rattle.room.specs.declared.Writer.{Writer}
use Rattle.line.specs.declared.TheConstants.{LONGEST}

-- n is written with as many digits as it has
pub record Spelled (n : ℕ) (o p : Writer ℕ) : Type 0 where
  pub is : (k : ℕ) → n < 10 ^ suc k → Writes o (digits (suc k) n) p

-- one number more, where a path has room for it
abbrev pub deeper : List ℕ → ℕ → List ℕ
deeper p i = if length p below LONGEST then p ++ (i ∷ []) else p
