-- `put_arm` meets its contract: text behind text.
use Rattle.definition.specs.Listing.{arm_line}
use Rattle.room.proofs.Written.{writes_then, writes_as}
use Rattle.line.proofs.Writing.{kind_said}
use borrow.Author.Rules.{rules}
use Rattle.line.proofs.put_arm.Goals as goal

pub returns : goal.returns
unfolding arm_line
returns c =
    let kind = writes_as c.put_kind.ensures (kind_said c.args.kind c.ranges.number c.cast_unsigned.ensures) in
    search (rules, writes_then)
