-- With nothing marked nothing is to be judged; then the sites that the rule names are.
use mathlib.Core.Path.{refl, ◌∙◌}
use Rattle.checks.proofs.Marking.{pending_none}
use Rattle.definition.specs.Accept.{sound_from, sound}
use Rattle.definition.specs.Book.{slots}
use Rattle.definition.specs.Tables.{rule_at, book_of}
use Rattle.laws.specs.Answers.{and_rest}
use borrow.Author.Rules.{rules}
use Rattle.checks.proofs.reach.sound.Goals as goal

pub marked_sound-requires : goal.marked_sound-requires
marked_sound-requires c =
    let args = c.args in
    (search rules, search rules, search rules, search rules)

pub returns : goal.returns
unfolding sound
returns c =
    let args = c.args in
    λ R u.
    let judge = sound_from (book_of slots args.count R args.sites.now u) (rule_at slots args.rule.now.words.now 0) in
    let unmarked = pending_none judge 252 args.count in
    c.marked_sound.ensures R u ∙ c.mark_named.ensures.judged judge ∙ and_rest unmarked refl
