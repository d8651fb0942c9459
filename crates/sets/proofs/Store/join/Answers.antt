-- `sets::Store::join` meets its contract: at each way out by the law of that way (`proofs/Joining.antt`).
use mathlib.Core.Path.{◌≡◌, sym}
use native.Mathlib.Omega.{arith}
use lib.ListN.{length}
use Rattle.std.proofs.Common.{Less, Equal, Greater}
use Rattle.std.proofs.lemmas.Cmp.{ranked}
use Rattle.definition.specs.Sets.{join}
use Rattle.sets.specs.Promises.{view}
use Rattle.sets.proofs.Joining.{rank_of, Moves, at_x, at_y, grown, join_second, join_first, join_tie}
use borrow.Author.Rules.{rules}
use Rattle.sets.proofs.Store.join.Goals as goal
use Rattle.sets.proofs.Store.join.Goals.{After-from-3, in-Less, in-Greater, in-Equal}

pub bounds-self-from : goal.bounds-self-from
bounds-self-from c =
    let long : length c.args.self.now.root ≡ 252 = search rules in
    omega (arith, c.from.ensures, at_x c.requires, long)

pub bounds-self-from-2 : goal.bounds-self-from-2
bounds-self-from-2 c =
    let long : length c.args.self.now.root ≡ 252 = search rules in
    omega (arith, c.from-2.ensures, at_y c.requires, long)

pub overflow_add-from : goal.overflow_add-from
overflow_add-from c =
    let long : length c.args.self.now.root ≡ 252 = search rules in
    let s = c.args.self.now in
    let told = rw (c.from.ensures, c.from-2.ensures) at c.in-Equal.ensures in
    let tie = ranked (rank_of s c.args.x) (rank_of s c.args.y) Equal told in
    let small = grown c.requires c.if-a-b.false (sym tie) in
    rw c.from.ensures (omega (arith, long, small))

-- the choice of the root that stays is the definition's
chosen : (c : After-from-3) → let s = c.args.self.now in
    let t = c.match-cmp.from in
    Moves s t.0 t.1 t.2 (join c.args.x c.args.y (view s))
chosen c =
    let s = c.args.self.now in
    let long : length s.rank ≡ length s.root = search rules in
    let told = ranked (rank_of s c.args.x) (rank_of s c.args.y) in
    elim c.match-cmp.branch [
      | in-Less w ↦
          let lower = told Less (rw (c.from.ensures, c.from-2.ensures) at w.in-Less.ensures) in
          rw (w.from-is, c.from-2.ensures) (join_second c.requires c.if-a-b.false long lower)
      | in-Greater w ↦
          let lower = told Greater (rw (c.from.ensures, c.from-2.ensures) at w.in-Greater.ensures) in
          rw (w.from-is, c.from.ensures) (join_first c.requires c.if-a-b.false long lower)
      | in-Equal w ↦
          let tie = told Equal (rw (c.from.ensures, c.from-2.ensures) at w.in-Equal.ensures) in
          rw (w.from-is, c.from.ensures) (join_tie c.requires c.if-a-b.false long (sym tie))
    ]

pub bounds-self-from-3 : goal.bounds-self-from-3
bounds-self-from-3 c =
    let long : length c.args.self.now.root ≡ 252 = search rules in
    elim c.match-cmp.branch [
      | in-Less w ↦ rw (c.from-3.ensures, w.from-is) (omega (arith, at_y c.requires, long))
      | in-Greater w ↦ rw (c.from-3.ensures, w.from-is) (omega (arith, at_x c.requires, long))
      | in-Equal w ↦ rw (c.from-3.ensures, w.from-is) (omega (arith, at_x c.requires, long))
    ]

pub invariant_of-self : goal.invariant_of-self
invariant_of-self c = record { made = rw (c.relabelled-self.ensures, c.from-3.ensures) (chosen c).made }

pub returns : goal.returns
returns c = rw (c.relabelled-self.ensures, c.from-3.ensures) (chosen (goal.at.returns c).After-from-3).sets
