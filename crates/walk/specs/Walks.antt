-- What a walker is after each part of a tree, and what its answer means.
use Rattle.std.specs.Prelude.{Bool, ◌&&◌, not, List, [], ◌∷◌, ◌++◌, ℕ, ℤ, length, if◌then◌else◌}
use Rattle.std.specs.Prelude as rust
use Rattle.std.proofs.Math.Option.{Option, none, some}
use Rattle.definition.specs.Lists.{all, ◌below◌}
use Rattle.definition.specs.Walk.{Reading, Hit, holds, agree, placed_in}
use Rattle.reading.specs.Acts.{Acts}
use Rattle.walk.specs.declared.Found.{Found}
use Rattle.walk.specs.declared.Walker.{Walker}

abbrev pub reading : List ℕ → List ℤ → List ℕ → Reading
reading k n i = record { kinds = k; numbers = n; identities = i }

-- where a walk stops: at a Return, or nowhere
abbrev pub Stop : Type 0
Stop = rust.Option Found

-- the same, as the definition says it
abbrev pub stop_of : Stop → Option Hit
stop_of rust.None = none
stop_of (rust.Some f) = some (record { rule = f.rule; result = f.result })

abbrev pub known : Walker → List ℕ → Bool
known s l = s.known && all (λ x. x below (length s.reading.kinds)) l

-- the first that is found stays
abbrev pub first_found : rust.Option Found → Found → rust.Option Found
first_found rust.None f = rust.Some f
first_found (rust.Some g) f = rust.Some g

abbrev pub acts : Acts Walker Bool
acts = record {
  lets = λ s i l. record s { known = known s l };
  matches = λ s x. (record s { known = known s (x ∷ []) }, s.here);
  arm_of = λ s i x a. (record s { known = known s (placed_in a.1); here = s.here && holds s.reading x a.0 }, s.here && not (holds s.reading x a.0));
  equals = λ s a b. (record s { known = known s (a ∷ b ∷ []); here = s.here && agree s.reading a b }, s.here);
  returns = λ s i p r. record s { known = known s (r ∷ []); stop = if s.here then first_found s.stop (record { rule = i; result = r }) else s.stop };
  leaves = λ s m. record s { here = m };
}
