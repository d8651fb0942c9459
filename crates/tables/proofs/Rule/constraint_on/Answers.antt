-- The closure asks whether a constraint is on s.
use Rattle.std.proofs.Common.{◌≡◌, rules}
use borrow.Author.Tests.{tests}
use Rattle.std.proofs.lemmas.Iterator.{first_from_Range}
use Rattle.tables.specs.Held.{site_slot}
use Rattle.tables.proofs.Slots.{first_on}
use Rattle.tables.proofs.Rule.constraint_on.Goals as goal

pub returns : goal.returns
returns c = let d = c.args in
    first_on d.self.now.words.now d.self.now.id d.s c.constraint_count-n.ensures.0 c.find.result
    (first_from_Range _ _ _ _ (λ k. site_slot d.self.now.words.now d.self.now.id k ≡ d.s)
    (λ k. site_slot d.self.now.words.now d.self.now.id k ≡ d.s → ⊥) c.find.ensures.ran
    (λ k q e. search (rules, tests)) (λ k q e. search (rules, tests)))
