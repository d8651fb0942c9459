-- `put_tree` meets its contract: the words fit the front of the room, or it is cleared.
use mathlib.Core.Path.{sym}
use native.Mathlib.Omega.{arith}
use lib.Seq.{length-take-le}
use Rattle.plan.proofs.Rooting.{tree_fits, tree_short}
use borrow.Author.Rules.{rules}
use Rattle.plan.proofs.put_tree.Goals as goal

pub slice_bounds-put_root-end-2 : goal.slice_bounds-put_root-end-2
slice_bounds-put_root-end-2 c = sym (length-take-le _ _ (omega (arith, c.min-n.ensures)))

pub put_root-end-requires : goal.put_root-end-requires
put_root-end-requires c = let z = length-take-le c.min-n.result c.args.room.now (omega (arith, c.min-n.ensures)) in omega (arith, c.min-n.ensures, z)

pub returns-then-n-end : goal.returns-then-n-end
returns-then-n-end c = tree_short _ _ _ _ c.requires c.min-n.ensures c.put_root-end.ensures c.if-n-end.true (search rules)

pub returns : goal.returns
returns c = tree_fits _ _ _ _ c.requires c.min-n.ensures c.put_root-end.ensures c.if-n-end.false
