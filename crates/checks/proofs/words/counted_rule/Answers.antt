-- It reads as it does in its table.
use Rattle.checks.proofs.Records.{rule_same}
use Rattle.checks.proofs.words.counted_rule.Goals as goal

pub returns : goal.returns
returns c = rw c.rule_record.ensures (rule_same c.args.rules.now c.args.i c.requires.1)
