-- `walk` meets its contract: the lengths, the tree, its sites, then where the walk stops.
use Rattle.walk.proofs.Whole.{differ, differ_ids, no_tree, lacks, walks}
use Rattle.walk.proofs.walk.Goals as goal
use Rattle.walk.proofs.walk.Goals.{then-kinds-numbers-via-then-kinds-numbers, then-kinds-numbers-via-else-kinds-numbers+then-kinds-identities}

pub returns-then-kinds-numbers : goal.returns-then-kinds-numbers
returns-then-kinds-numbers c =
    let a = c.args in
    elim c.then-kinds-numbers.branch [
      | then-kinds-numbers-via-then-kinds-numbers w ↦ differ a.words.now a.kinds.now a.numbers.now a.identities.now w.if-kinds-numbers.true
      | then-kinds-numbers-via-else-kinds-numbers+then-kinds-identities w ↦ differ_ids a.words.now a.kinds.now a.numbers.now a.identities.now w.if-kinds-numbers.false w.if-kinds-identities.true
    ]

pub returns-in_default : goal.returns-in_default
returns-in_default c =
    let a = c.args in no_tree a.words.now a.kinds.now a.numbers.now a.identities.now c.if-kinds-numbers.false c.if-kinds-identities.false c.in_default.ensures

pub returns-then-not-walker : goal.returns-then-not-walker
returns-then-not-walker c =
    let a = c.args in lacks a.words.now a.kinds.now a.numbers.now a.identities.now c.if-kinds-numbers.false c.if-kinds-identities.false c.in-Some.ensures c.if-not-walker.true

pub returns : goal.returns
returns c =
    let a = c.args in walks a.words.now a.kinds.now a.numbers.now a.identities.now c.if-kinds-numbers.false c.if-kinds-identities.false c.in-Some.ensures c.if-not-walker.false
