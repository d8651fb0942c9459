-- The three ranges of kinds: below 4, 4 and 5, above.
use Rattle.std.proofs.Common.{◌∙◌, lt-ltb, le-ltb}
use Rattle.tables.proofs.Fields.{low_kind, made_kind, high_kind}
use Rattle.tables.proofs.Site.never_listed.Goals as goal

pub returns-then-kind-lt4 : goal.returns-then-kind-lt4
returns-then-kind-lt4 c = lt-ltb _ _ c.if-kind-lt4.true ∙ low_kind _ _ c.word-kind.ensures c.if-kind-lt4.true

pub returns-then-kind-lt6 : goal.returns-then-kind-lt6
returns-then-kind-lt6 c = made_kind _ _ c.word-kind.ensures c.if-kind-lt4.false c.if-kind-lt6.true c.word.ensures

pub returns-else-kind-lt6 : goal.returns-else-kind-lt6
returns-else-kind-lt6 c = le-ltb _ _ c.if-kind-lt6.false ∙ high_kind _ _ c.word-kind.ensures c.if-kind-lt6.false
