-- `scope::arms::put_pattern` meets its contract: three words, then the places.
use mathlib.Core.Path.{◌≡◌}
use Rattle.std.proofs.Common.{rules, w32}
use Rattle.std.specs.Int.{cast_unsigned}
use Rattle.definition.specs.Tree.{pattern_words}
use Rattle.room.proofs.Written.{writes_one, writes_then}
use Rattle.scope.proofs.Binds.{number_word}
use Rattle.scope.proofs.arms.put_pattern.Goals as goal

pub returns : goal.returns
unfolding pattern_words
returns c =
    let e : cast_unsigned w32 c.args.p.number ≡ c.cast_unsigned.result = search rules in
    λ b d.
    let head = writes_then (writes_one c.put.ensures) (writes_then (writes_one c.put-2.ensures) (writes_one c.put-3.ensures)) in
    rw (number_word c.args.p.number, e) (writes_then head (c.put_places.ensures b d))
