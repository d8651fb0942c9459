-- A rule has too many words for the search: the record is the first chunk of what is behind the rules before it.
use Rattle.std.proofs.Common.{◌-◌, ◌*◌, ◌∙◌, arith, drop, length}
use Rattle.std.proofs.lemmas.List.{take-take}
use Rattle.tables.proofs.rule_record.Goals as goal

pub returns : goal.returns
returns c =
    let rules = c.args.rules.now in
    let at = 34 * c.args.i in
    (rw c.unwrap.ensures at c.first_chunk.ensures.cases).same ∙ take-take 34 (length rules - at) (drop at rules) (omega arith)
