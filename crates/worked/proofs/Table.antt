-- The table of the worked books holds: what the definitions reply to each call is what is due.
use Rattle.std.specs.Prelude.{◌≡◌, refl, map}
use Rattle.std.proofs.Common.{◌∙◌}
use Rattle.worked.specs.Calls.{reply, Row}
use Rattle.worked.specs.Compute.{computed, computed_is}
use Rattle.worked.specs.Table.{table}

-- computed, every row comes to what is due
pub table_computed : map (λ (r : Row). computed r.call) table ≡ map (λ (r : Row). r.due) table
unfolding computed
table_computed = refl

-- THE TABLE HOLDS: what the definitions reply to each call is what is due
pub table_holds : map (λ (r : Row). reply r.call) table ≡ map (λ (r : Row). r.due) table
table_holds = (λ i. map (λ (r : Row). computed_is r.call i) table) ∙ table_computed
