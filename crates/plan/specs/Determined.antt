-- `plan` is determined: two results that its contract allows for one book and one room are equal, and so are the rooms that they leave.
use Rattle.std.specs.Prelude.{◌≡◌, List, ℕ, Result}
use Rattle.std.proofs.Common.{sym, ◌∙◌}
use Rattle.definition.specs.Answers.{planned}
use Rattle.refusal.specs.declared.Refusal.{Refusal}
use Rattle.refusal.specs.Numbers.{told_same}
use Rattle.plan.specs.Leaves.{Leaves}

pub plan_determined : (book room : List ℕ) {p q : Result ℕ Refusal} {l m : List ℕ} → Leaves (planned book room) p l → Leaves (planned book room) q m → (p ≡ q) × (l ≡ m)
plan_determined book room {p} {q} g h = (told_same g.answer h.answer, g.room ∙ sym h.room)
