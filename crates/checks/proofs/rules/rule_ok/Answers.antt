-- Where all tests before the last are passed, the last decides.
use Rattle.std.proofs.Common.{sym, ◌∙◌, arith, lt-ltb, le-leb}
use Rattle.definition.specs.Book.{slots}
use Rattle.definition.specs.Tables.{rule_word}
use Rattle.laws.specs.Answers.{every_rest, every_one}
use Rattle.laws.specs.Tests.{clash}
use Rattle.checks.proofs.RuleTests.{rule_is}
use Rattle.checks.proofs.rules.rule_ok.Goals.{then-constrained_once, else-constrained_once, then-constraints_ok, else-constraints_ok}
use Rattle.checks.proofs.rules.rule_ok.Goals as goal

pub returns-then-pairs_ok : goal.returns-then-pairs_ok
returns-then-pairs_ok c = elim c.if-constrained_once.branch [
  | else-constrained_once w ↦ clash c.if-pairs_ok.true (w.value-is ∙ w.if-constrained_once.false)
  | then-constrained_once w ↦ elim c.if-constraints_ok.branch [
    | else-constraints_ok v ↦ clash w.if-constrained_once.true (v.value-is ∙ v.if-constraints_ok.false)
    | then-constraints_ok v ↦
        let sites = c.args.sites in
        let rule = c.args.rule.now in
        let word = rule_word slots rule 0 in
        sym (
        rule_is slots sites rule 0
        ∙ every_rest _ (le-leb (word 3) 4 (omega arith))
        (every_rest _ (le-leb (word 4) 4 (omega arith))
        (every_rest _ (le-leb (word 5) 4 (omega arith))
        (every_rest _ (lt-ltb (word 2) sites (omega arith))
        (every_rest _ (sym c.constraints_ok.ensures ∙ v.if-constraints_ok.true)
        (every_rest _ (sym v.constrained_once.ensures ∙ sym v.value-is ∙ w.if-constrained_once.true)
        (every_rest _ (sym w.pairs_ok.ensures ∙ sym w.value-is ∙ c.if-pairs_ok.true)
        (every_one _ ∙ sym c.impure_ok.ensures))))))))
  ]
]
