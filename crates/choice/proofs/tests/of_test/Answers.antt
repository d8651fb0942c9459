-- A test that is shut, counts nothing or could not be better adds nothing.
use mathlib.Core.Path.{sym, ap, ◌∙◌}
use Prim.Native.Nat.{max}
use Rattle.choice.proofs.Answers.{test_shut, test_none, test_behind, test_some}
use Rattle.choice.proofs.tests.of_test.Goals as goal

pub returns-then-not-is_open : goal.returns-then-not-is_open
returns-then-not-is_open c = test_shut _ _ _ _ _ _ _ (sym c.is_open.ensures ∙ c.if-not-is_open.true)

pub returns-then-asked-tie : goal.returns-then-asked-tie
returns-then-asked-tie c = test_behind _ _ _ _ _ _ _
    (sym c.is_open.ensures ∙ c.if-not-is_open.false) c.state_of.ensures.0 c.code_of.ensures.0 c.if-asked-tie.true

pub returns-then-n-eq0 : goal.returns-then-n-eq0
returns-then-n-eq0 c = test_none _ _ _ _ _ _ _ (sym c.is_open.ensures ∙ c.if-not-is_open.false)
    (sym c.count-n.ensures.0 ∙ c.if-n-eq0.true)

pub returns : goal.returns
returns c = let d = c.args in
    c.max.ensures ∙ ap (max d.best)
    (test_some _ _ _ _ _ _ d.best
    (sym c.is_open.ensures
    ∙ c.if-not-is_open.false) c.state_of.ensures.0 c.code_of.ensures.0 c.count-n.ensures.0 c.if-n-eq0.false)
