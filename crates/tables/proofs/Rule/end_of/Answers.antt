-- The closure asks whether an end is x.
use Rattle.std.proofs.Common.{◌≡◌, rules}
use borrow.Author.Tests.{tests}
use Rattle.std.proofs.lemmas.Iterator.{first_from_Range}
use Rattle.tables.specs.Held.{end_slot}
use Rattle.tables.proofs.Ends.{end_found}
use Rattle.tables.proofs.Rule.end_of.Goals as goal

pub returns : goal.returns
returns c = let d = c.args in
    end_found d.self.now.words.now d.self.now.id d.x c.end_count-n.ensures.0 c.end_count-n.ensures.1 c.find.result
    (first_from_Range _ _ _ _ (λ k. end_slot d.self.now.words.now d.self.now.id k ≡ d.x)
    (λ k. end_slot d.self.now.words.now d.self.now.id k ≡ d.x → ⊥) c.find.ensures.ran
    (λ k q e. search (rules, tests)) (λ k q e. search (rules, tests)))
