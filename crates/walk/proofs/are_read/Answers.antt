-- `are_read` meets its contract: the greatest site tells of all.
use Rattle.std.proofs.Common.{sym, ◌∙◌, ap}
use lib.Dec.{leb}
use Rattle.reading.proofs.Reach.{above_all}
use Rattle.walk.proofs.are_read.Goals as goal

pub returns : goal.returns
returns c = ap (λ b. leb b c.args.n) c.requires ∙ sym (above_all c.args.sites.now c.args.n)
