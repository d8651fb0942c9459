-- `list` meets its contract: no tree, a text that fits, or one that is too long.
use mathlib.Core.Path.{refl, sym, ◌∙◌}
use Rattle.listing.proofs.Whole.{told_some, no_tree, lists, too_long}
use borrow.Author.Rules.{rules}
use Rattle.listing.proofs.list.Goals as goal

pub returns-then-not-is_tree : goal.returns-then-not-is_tree
returns-then-not-is_tree c = no_tree c.args.words.now c.args.text.now (sym c.if-not-is_tree.true ∙ c.is_tree.ensures)

pub returns-then-out : goal.returns-then-out
returns-then-out c =
    let t = told_some c.write.ensures c.in_ok-ok_or.ensures.ok_part in
    let same = t.2.same in
    too_long c.args.words.now c.args.text.now refl refl t.1 t.2 c.if-out.true (search rules)

pub returns : goal.returns
returns c =
    let t = told_some c.write.ensures c.in_ok-ok_or.ensures.ok_part in
    let same = t.2.same in
    lists c.args.words.now c.args.text.now refl refl t.1 t.2 c.if-out.false (search rules)
