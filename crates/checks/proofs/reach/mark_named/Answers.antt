-- Five runs of words are what the rule names, and each id is below S.
use Prim.Native.Nat.{ℕ, ◌<◌}
use mathlib.Core.Path.{◌≡◌, ◌∙◌, subst}
use native.Mathlib.Omega.{arith}
use Rattle.checks.proofs.Marking.{marked_then, marked_as}
use Rattle.checks.proofs.Naming.{result_run, constraint_below, first_below, second_below, impure_below, result_below, named_judged}
use Rattle.checks.proofs.RuleTests.{counts_fit}
use Rattle.definition.specs.Book.{slots}
use Rattle.checks.proofs.reach.mark_named.Goals as goal

pub mark-requires : goal.mark-requires
mark-requires c =
    let args = c.args in
    let pre = c.requires in
    let fits = counts_fit slots args.limit args.rule.now 0 pre.2 in
    (pre.0, pre.1, λ k h. (omega arith, constraint_below args.rule.now 0 args.limit pre.2 k (omega arith)))

pub mark-requires-2 : goal.mark-requires-2
mark-requires-2 c =
    let args = c.args in
    let pre = c.requires in
    let fits = counts_fit slots args.limit args.rule.now 0 pre.2 in
    (pre.0, c.mark.ensures.size ∙ pre.1, λ k h. (omega arith, first_below args.rule.now 0 args.limit pre.2 k (omega arith)))

pub mark-requires-3 : goal.mark-requires-3
mark-requires-3 c =
    let args = c.args in
    let pre = c.requires in
    let fits = counts_fit slots args.limit args.rule.now 0 pre.2 in
    (pre.0, c.mark-2.ensures.size ∙ c.mark.ensures.size ∙ pre.1, λ k h. (omega arith, second_below args.rule.now 0 args.limit pre.2 k (omega arith)))

pub mark-requires-4 : goal.mark-requires-4
mark-requires-4 c =
    let args = c.args in
    let pre = c.requires in
    let fits = counts_fit slots args.limit args.rule.now 0 pre.2 in
    let size = c.mark-3.ensures.size ∙ c.mark-2.ensures.size ∙ c.mark.ensures.size ∙ pre.1 in
    (pre.0, size, λ k h. (omega arith, impure_below args.rule.now 0 args.limit pre.2 k (omega arith)))

pub mark-requires-5 : goal.mark-requires-5
mark-requires-5 c =
    let args = c.args in
    let pre = c.requires in
    let size = c.mark-4.ensures.size ∙ c.mark-3.ensures.size ∙ c.mark-2.ensures.size ∙ c.mark.ensures.size ∙ pre.1 in
    let below = result_below args.rule.now 0 args.limit pre.2 in
    (pre.0, size, λ k h. let e : 0 ≡ k = omega arith in (omega arith, subst (λ (j : ℕ). result_run args.rule.now 0 j < args.limit) e below))

pub returns : goal.returns
returns c =
    let ids = marked_then c.mark.ensures c.mark-2.ensures in
    let runs = marked_then (marked_then (marked_then ids c.mark-3.ensures) c.mark-4.ensures) c.mark-5.ensures in
    marked_as runs (named_judged c.args.rule.now 0)
