-- Each block is asked in turn.
use Rattle.std.proofs.Common.{rules, tests}
use Rattle.definition.specs.Book.{slots}
use Rattle.definition.specs.Bytes.{frame_ok}
use Rattle.laws.specs.Chains.{all_below}
use Rattle.frames.proofs.all_framed.Goals as goal

pub returns : goal.returns
returns c = all_below (frame_ok slots c.args.sites c.args.rules c.args.book.now) c.args.count c.all.ensures.ran (λ x b q k. search (rules, tests))
