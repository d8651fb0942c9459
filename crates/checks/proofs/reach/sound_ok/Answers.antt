-- Each rule is asked in turn.
use Rattle.std.proofs.Common.{ℕ, ◌∙◌, arith, rules, tests}
use Rattle.std.proofs.lemmas.Iterator.{serves_from_Range}
use Rattle.definition.specs.Accept.{sound}
use Rattle.definition.specs.Book.{slots}
use Rattle.definition.specs.Tables.{rule_at, book_of}
use Rattle.laws.specs.Chains.{all_below}
use Rattle.checks.proofs.Soundness.{sound_ok_is, sourced}
use Rattle.checks.proofs.RuleTests.{rule_passes, counts_fit}
use Rattle.tables.specs.Held.{Words}
use Rattle.checks.proofs.reach.sound_ok.Goals as goal

pub all-requires-clause-callable : goal.all-requires-clause-callable
all-requires-clause-callable c =
    let sites = c.args.sites.now in
    let rules_now = c.args.rules.now in
    let S = c.args.site_count in
    let R = c.args.rule_count in
    let pre = c.requires in
    let words : Words sites = λ k. (c.type_inv.sites k).fits in
    let sites_fit = sourced slots S R sites rules_now words pre.4 in
    serves_from_Range (λ x q r. search rules)
    (λ i l h.
    let passes = rule_passes slots S R sites rules_now pre.5 i h in
    let fit = counts_fit slots S rules_now i passes in
    (λ _ _ _ _ _ _ _ _ _ _. (omega arith, fit), λ _ _ _ _ _ _ _ _ _ rule _ _. (pre.0, pre.1, sites_fit, rw rule.ensures passes)))

pub returns : goal.returns
returns c =
    let args = c.args in
    let u = args.rules.now in
    let book = book_of slots args.site_count args.rule_count args.sites.now u in
    let asked = λ (i : ℕ). sound book (rule_at slots u i) in
    all_below asked args.rule_count c.all.ensures.ran (λ x b q k. search (rules, tests))
    ∙ sound_ok_is slots args.site_count args.rule_count args.sites.now u
