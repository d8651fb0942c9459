-- Two answers that the contract of `walk` allows for one input are the same.
use Rattle.std.specs.Prelude.{◌≡◌, List, ℕ, Result, Some, None}
use Rattle.std.proofs.Common.{refl, sym, ◌∙◌, ap}
use Rattle.std.proofs.Math.Option.{Option, none, some}
use Rattle.definition.specs.Walk.{Reading, Hit}
use Rattle.definition.specs.Answers.{walked}
use Rattle.refusal.specs.declared.Refusal.{Refusal}
use Rattle.refusal.specs.Numbers.{told, told_once}
use Rattle.walk.specs.Walks.{Stop, stop_of}

-- the answer that the definition's stands for
found : Option Hit → Stop
found none = None
found (some h) = Some (record { rule = h.rule; result = h.result })

found_stop : (a : Stop) → found (stop_of a) ≡ a
unfolding found
found_stop None = refl
found_stop (Some f) = refl

stop_same : (a b : Stop) → stop_of a ≡ stop_of b → a ≡ b
stop_same a b e = sym (found_stop a) ∙ ap found e ∙ found_stop b

pub walk_determined : (ws : List ℕ) (d : Reading) {a b : Result Stop Refusal} → told stop_of a ≡ walked ws d → told stop_of b ≡ walked ws d → a ≡ b
walk_determined ws d {a} {b} p q = told_once stop_same a b (p ∙ sym q)
