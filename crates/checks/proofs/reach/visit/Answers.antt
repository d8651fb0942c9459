-- Its three exits are the three sorts of visit.
use mathlib.Core.Path.{sym, ◌∙◌}
use native.Mathlib.Omega.{arith}
use Rattle.checks.proofs.Marking.{marked_as}
use Rattle.checks.proofs.Visits.{visit_unmarked, visit_refused, visit_marked, source_word, sources_judged}
use Rattle.definition.specs.Book.{slots}
use Rattle.definition.specs.Tables.{site_at, rule_at}
use Rattle.checks.proofs.reach.visit.Goals as goal

pub returns-then-not-marks-s : goal.returns-then-not-marks-s
returns-then-not-marks-s c =
    let args = c.args in
    visit_unmarked slots (site_at args.site.now 0) (rule_at slots args.rule.now.words.now 0) args.s args.marks.now c.if-not-marks-s.true

pub returns-then-not-granted_if_bound : goal.returns-then-not-granted_if_bound
returns-then-not-granted_if_bound c =
    let args = c.args in
    let rule = rule_at slots args.rule.now.words.now 0 in
    let refused = sym c.granted_if_bound.ensures ∙ c.if-not-granted_if_bound.true in
    visit_refused slots (site_at args.site.now 0) rule args.s args.marks.now c.if-not-marks-s.false refused

pub mark-requires : goal.mark-requires
mark-requires c =
    let fit = c.requires.2 in
    let few = fit.few in
    (omega arith, c.requires.1, λ k h. (omega arith, rw (source_word c.args.site.now 0 k) (fit.below k h)))

pub returns : goal.returns
returns c =
    let args = c.args in
    let site = args.site.now in
    let granted = sym c.granted_if_bound.ensures ∙ c.if-not-granted_if_bound.false in
    let run = marked_as c.mark.ensures (sources_judged site 0) in
    visit_marked slots (site_at site 0) (rule_at slots args.rule.now.words.now 0) args.s args.marks.now _ c.if-not-marks-s.false granted run
