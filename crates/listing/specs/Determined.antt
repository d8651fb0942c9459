-- `list` is determined: two results that its contract allows for one list of words and one lent text are equal,
-- and so are the texts that they leave.
use Rattle.std.specs.Prelude.{◌≡◌, List, ℕ, Result}
use Rattle.std.proofs.Common.{sym, ◌∙◌}
use Rattle.definition.specs.Answers.{listed}
use Rattle.refusal.specs.declared.Refusal.{Refusal}
use Rattle.refusal.specs.Numbers.{told_same}
use Rattle.listing.specs.Ends.{Leaves}

pub list_determined : (words text : List ℕ) {p q : Result ℕ Refusal} {l m : List ℕ}
    → Leaves (listed words text) p l → Leaves (listed words text) q m → (p ≡ q) × (l ≡ m)
list_determined words text {p} {q} g h = (told_same g.answer h.answer, g.text ∙ sym h.text)
