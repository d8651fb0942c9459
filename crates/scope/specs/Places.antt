-- A place of a pattern, as the definition has it.
use Rattle.std.proofs.Math.Option.{none, some}
use Rattle.std.proofs.Math.Option as math
use Rattle.std.specs.Prelude.{ℕ, Option, Some, None}

abbrev pub site_in : Option ℕ → math.Option ℕ
site_in (Some x) = some x
site_in None = none
