-- What a scope holds after its states have changed.
use Rattle.std.specs.Prelude.{◌≡◌, List, ℕ}
use Rattle.definition.specs.Book.{Book, Pattern}
use Rattle.definition.specs.Scope.{nowhere, worked_out, emit_bound}
use Rattle.scope.specs.declared.Scope.{Scope}

-- what an arm of pattern p adds to the states that the arms on s share
unfoldable pub arm_bindings : Book → ℕ → Pattern → List ℕ → List ℕ
arm_bindings b s p st = worked_out b (emit_bound b s p st)

-- r has the states st, and the classes of s
pub record With (st : List ℕ) (s r : Scope) : Type 0 where
  pub states : r.states ≡ st
  pub root : r.root ≡ s.root
  pub rank : r.rank ≡ s.rank

-- r has the states st, and no classes
pub record Fresh (st : List ℕ) (r : Scope) : Type 0 where
  pub states : r.states ≡ st
  pub root : r.root ≡ nowhere
  pub rank : r.rank ≡ nowhere
