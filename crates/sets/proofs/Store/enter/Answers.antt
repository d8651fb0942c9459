-- `sets::Store::enter` meets its contract: by the laws of entering, where x is in a set and where it is not.
use Prim.Native.Nat.{◌<◌}
use lib.ListN.{length}
use borrow.Author.Rules.{rules}
use Rattle.sets.proofs.Entering.{entered_made}
use Rattle.sets.proofs.Store.enter.Goals as goal

pub invariant_of-self : goal.invariant_of-self
invariant_of-self c =
    let root : c.args.x < length c.args.self.now.root = search rules in
    let rank : c.args.x < length c.args.self.now.rank = search rules in
    record { made = entered_made c.args.self.now c.args.x root rank c.if-self-x-ne0.false }
