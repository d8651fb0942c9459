-- Each site is asked in turn.
use Rattle.std.proofs.Common.{ℕ, refl, ◌∙◌, rules, tests}
use Rattle.laws.specs.Chains.{all_below}
use Rattle.laws.specs.Turns.{upto_same}
use Rattle.checks.proofs.Records.{site_record, site_fine_same}
use Rattle.checks.proofs.SiteTests.{sites_pass_is}
use Rattle.checks.specs.Words.{site_fine}
use Rattle.tables.specs.Held.{Words}
use Rattle.checks.proofs.sites.sites_pass.Goals as goal

pub returns : goal.returns
returns c =
    let t = c.args.sites.now in
    let count = c.args.count in
    let words : Words t = λ k. (c.type_inv.sites k).fits in
    let asked = λ (s : ℕ). site_fine t (site_record t s) 0 s in
    λ n R u. all_below asked count c.all.ensures.ran (λ x b q k. search (rules, tests))
    ∙ upto_same asked (λ (s : ℕ). site_fine t t s s) count (λ s h. site_fine_same t s refl (words _))
    ∙ sites_pass_is n count R t u
