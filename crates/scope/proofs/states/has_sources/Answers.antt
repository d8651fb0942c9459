-- `scope::states::has_sources` meets its contract: the call asks of each source what the definition asks.
use mathlib.Core.Path.{◌∙◌}
use Prim.Native.Nat.{ℕ}
use lib.ListN.{get_or}
use Rattle.std.proofs.Common.{rules, tests}
use Rattle.definition.specs.Scope.{is_there}
use Rattle.definition.specs.Tables.{site_at}
use Rattle.laws.specs.Chains.{all_below}
use Rattle.scope.proofs.Drawings.{site_same}
use Rattle.scope.proofs.Sweeps.{all_items}
use Rattle.scope.proofs.states.has_sources.Goals as goal

pub returns : goal.returns
unfolding is_there
returns c =
    let states = c.args.states.now in
    let sources = (site_at c.args.sites.now.words.now c.args.x).sources in
    let there = λ (k : ℕ). is_there states (get_or sources k 0) in
    all_below there c.source_count.result c.all.ensures.ran (λ k b q h. search (rules, tests))
    ∙ all_items (is_there states) sources c.source_count.result (rw (site_same c.site-site.ensures) at c.source_count.ensures.0)
