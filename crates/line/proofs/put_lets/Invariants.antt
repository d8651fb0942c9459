-- `put_lets` meets its contract: the lines of the lets before `site-index` are written.
use Rattle.definition.specs.Listing.{let_line}
use Rattle.room.proofs.Written.{Each}
use Rattle.line.proofs.put_lets.Given as goal

abbrev pub invariant-loop-site : goal.invariant-loop-site
invariant-loop-site l = Each (let_line l.path) l.sites l.site-index l.initial.out l.out
