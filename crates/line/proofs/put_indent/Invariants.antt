-- `put_indent` meets its contract: two spaces for each number before the turn's.
use Rattle.definition.specs.Listing.{text as quoted}
use Rattle.room.proofs.Written.{Each}
use Rattle.line.proofs.put_indent.Given as goal

abbrev pub invariant-loop : goal.invariant-loop
invariant-loop l = Each (λ n. quoted "  ") l.items l.index l.initial.out l.out
