-- `put_root` meets its contract: the block of all rules in the root scope.
use mathlib.Core.Path.{◌≡◌}
use native.Mathlib.Omega.{arith}
use lib.ListN.{length}
use Rattle.definition.specs.Book.{most}
use Rattle.blocks.proofs.Ready.{drawn}
use Rattle.plan.proofs.Rooting.{root_planning, root_made}
use borrow.Author.Rules.{rules}
use Rattle.plan.proofs.put_root.Goals as goal

pub sort-requires : goal.sort-requires
sort-requires c =
    let n : length c.all_rules-order.result ≡ most = search rules in
    root_planning c.args.book.now _ n c.all_rules-order.ensures (c.root_scope-scope.ensures _ (drawn c.args.book.now)) c.requires (omega arith)

pub returns : goal.returns
returns c =
    let n : length c.all_rules-order.result ≡ most = search rules in
    let k = c.args.book.now in
    let w = root_made k _ n c.all_rules-order.ensures (c.root_scope-scope.ensures _ (drawn k)) c.sort.ensures in
    let is = w.is (omega arith) in
    let same = w.same in
    search rules
