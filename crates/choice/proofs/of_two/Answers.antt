-- A pair is tried once, its smaller id first.
use mathlib.Core.Path.{sym, ap, ◌∙◌}
use Prim.Native.Nat.{max}
use Rattle.definition.specs.Book.{slots}
use Rattle.definition.specs.Tables.{rule_at}
use Rattle.choice.specs.Worth.{worth_in}
use Rattle.choice.proofs.Answers.{pair_some, pair_unlinked, pair_late}
use Rattle.choice.proofs.of_two.Goals as goal
use Rattle.choice.proofs.of_two.Goals.{else-x-y-via-then-x-y+else-links, else-x-y-via-else-x-y}

pub returns-then-links : goal.returns-then-links
returns-then-links c = let d = c.args in
    c.of_test.ensures ∙ ap (max d.best)
    (pair_some (worth_in d.asked.now) (rule_at slots d.rule.now.words.now d.rule.now.id) d.x d.y c.if-x-y.true
    (sym c.links.ensures ∙ c.if-links.true))

pub returns : goal.returns
returns c =
    let d = c.args in
    let worth = worth_in d.asked.now in
    let rule = rule_at slots d.rule.now.words.now d.rule.now.id in
    elim c.else-x-y.branch [
      | else-x-y-via-then-x-y+else-links w ↦
          pair_unlinked worth rule d.x d.y _ w.if-x-y.true (sym w.links.ensures ∙ w.if-links.false)
      | else-x-y-via-else-x-y w ↦ pair_late worth rule d.x d.y _ w.if-x-y.false
    ]
