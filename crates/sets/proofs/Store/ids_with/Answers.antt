-- The loop keeps its invariant, and the contract follows from it at each return.
use native.Mathlib.Omega.{arith}
use Rattle.laws.specs.Loops.{collect_starts, collect_one}
use Rattle.sets.specs.Entries.{ids_with}
use Rattle.sets.proofs.Listed.{ids_take, ids_skip}
use borrow.Author.Rules.{rules}
use Rattle.sets.proofs.Store.ids_with.Goals as goal
use Rattle.sets.proofs.Store.ids_with.Goals.{then-v-entry, else-v-entry}

pub loop-id-init : goal.loop-id-init
unfolding ids_with
loop-id-init c = (search rules, collect_starts)

pub loop-id-preserved : goal.loop-id-preserved
loop-id-preserved c =
    let l = c.args.self.now.root in
    let i = c.loop-id in
    elim c.if-v-entry.branch [
      | then-v-entry w ↦
          let take = ids_take c.args.entry l i.id w.if-v-entry.true in
          (omega arith, rw (w.ids-is, w.count-is, take) (collect_one i.id i.invariant.1 (omega arith)))
      | else-v-entry w ↦
          let skip = ids_skip c.args.entry l i.id w.if-v-entry.false in
          (omega arith, rw (w.ids-is, w.count-is, skip) i.invariant.1)
    ]
