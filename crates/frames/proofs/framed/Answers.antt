-- Number, kind, count, and the bytes behind those in use.
use Rattle.std.proofs.Common.{◌≡◌, ◌+◌, ◌-◌, ◌*◌, arith, rules, tests}
use Rattle.definition.specs.Lists.{every}
use Rattle.definition.specs.Tables.{zero_from}
use Rattle.definition.specs.Bytes.{framed}
use Rattle.laws.specs.Chains.{zero_window}
use Rattle.frames.proofs.framed.Goals as goal

pub returns-then-book-o-2 : goal.returns-then-book-o-2
unfolding framed every
returns-then-book-o-2 c =
    let book = c.args.book.now in
    let used = c.args.used in
    let start = 512 * c.args.i + 4 + used in
    let long = 512 * c.args.i + 4 + 504 - start in
    let filler : c.all.result ≡ zero_from book start (504 - used) = zero_window book start (504 - used) long c.all.ensures.ran c.iter.ensures.rest (omega arith) (omega arith) (λ x b q k. search (rules, tests)) in
    grind (arith, filler)
