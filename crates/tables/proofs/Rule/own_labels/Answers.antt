-- The labels are the words of the ends.
use Rattle.std.proofs.Common.{rules, ◌≡◌, ◌+◌, ◌*◌, get_or, ap, ◌∙◌, get_or-take, get_or-drop, arith}
use Rattle.tables.proofs.Slots.{own_label_each}
use Rattle.tables.proofs.Rule.own_labels.Goals as goal

pub returns : goal.returns
returns c = own_label_each _ _ (search rules) (λ k h.
    let at : 34 * c.args.self.now.id + 22 + k ≡ 34 * c.args.self.now.id + (22 + k) = omega arith in
    ap (λ l. get_or l k 0) c.copy_from_slice.ensures.after ∙ get_or-take _ _ k 0 (omega arith) ∙ get_or-drop _ _ k 0
    ∙ ap (λ j. get_or c.args.self.now.words.now j 0) at)
