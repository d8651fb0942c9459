use Rattle.reading.proofs.Tests.{numbers_split}
use Rattle.reading.proofs.numbers.Goals as goal

pub returns-clause-read : goal.returns-clause-read
returns-clause-read c = numbers_split c.args.n c.args.w.now c.split_at_checked.result c.split_at_checked.ensures.cases
