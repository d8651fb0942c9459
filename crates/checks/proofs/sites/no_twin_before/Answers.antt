-- Each site before it is asked in turn.
use Rattle.std.proofs.Common.{ℕ, not, refl, ap, ◌∙◌, rules, tests}
use Rattle.definition.specs.Accept.{twins}
use Rattle.definition.specs.Tables.{site_at}
use Rattle.laws.specs.Chains.{all_below}
use Rattle.laws.specs.Turns.{upto_same}
use Rattle.checks.specs.Words.{twinless}
use Rattle.checks.proofs.Records.{site_record, twins_same}
use Rattle.checks.proofs.sites.no_twin_before.Goals as goal

pub returns : goal.returns
unfolding twinless
returns c =
    let t = c.args.sites.now in
    let s = c.args.s in
    let x = site_at c.args.site.now 0 in
    let asked = λ (r : ℕ). not (twins (site_at (site_record t r) 0) x) in
    all_below asked s c.all.ensures.ran (λ y b q k. search (rules, tests))
    ∙ upto_same asked (twinless t x) s (λ r h. ap not (twins_same t r refl x))
