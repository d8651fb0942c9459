-- A loop that looks for the greatest passes over what stood before: `most` is at least its worth already.
use Rattle.std.specs.Prelude.{◌≡◌, ◌⊎◌, true, false, map, ℕ, ◌+◌, ◌-◌, ◌≤◌, ◌<◌, max, eqb}
use Rattle.std.proofs.Common.{ap, ◌∙◌, inl, inr, arith, eqb-true}
use Rattle.std.proofs.lemmas.Bool.{eqb-false}
use Rattle.definition.specs.Lists.{from, upto}
use Rattle.laws.specs.Ascending.{stands_in, stands_member}
use Rattle.laws.specs.Greatest.{Climbed, climb_starts, climb_turn}
use Rattle.laws.specs.Members.{mem_map_of, from_bounds}
use Rattle.laws.specs.Runs.{in_slots}
use Rattle.laws.specs.Tests.{split}

-- `most` over the slots before k, at first `best`, is at least the worth of each of them
pub record Passed (w g : ℕ → ℕ) (n best k most : ℕ) : Type 0 where
  pub climbed : Climbed w (λ k. map g (from k (n - k))) best k most
  pub over : (j : ℕ) → j < k → w (g j) ≤ most

pub pass_starts : (w g : ℕ → ℕ) (n best : ℕ) → Passed w g n best 0 best
pass_starts w g n best = record { climbed = climb_starts w (in_slots g n) best; over = λ j h. absurd (omega arith) }

module _ {w g : ℕ → ℕ} {n best k most : ℕ} (v : Passed w g n best k most) (h : k < n) {x : ℕ} (e : x ≡ g k) where
  pub pass_asked : {m : ℕ} → m ≡ max most (w x) → Passed w g n best (k + 1) m
  pass_asked {m} q =
      let z : m ≡ max most (w (g k)) = q ∙ ap (λ y. max most (w y)) e in
      record { climbed = climb_turn w (in_slots g n) v.climbed h z; over = λ j l. go j l (split (eqb j k)) z }
    where
      go : (j : ℕ) → j < k + 1 → (eqb j k ≡ true) ⊎ (eqb j k ≡ false) → m ≡ max most (w (g k)) → w (g j) ≤ m
      go j l (inl t) z = let y = ap (λ a. w (g a)) (eqb-true j k t) in omega arith
      go j l (inr t) z = let y = eqb-false j k t in omega (arith, y, v.over j (omega (arith, y)))

  pub pass_over : stands_in (map g (upto k)) x ≡ true → Passed w g n best (k + 1) most
  pass_over t =
      let q = mem_map_of g x (upto k) (stands_member (map g (upto k)) x t) in
      let y = ap w q.2 in
      pass_asked (omega (arith, y, v.over q.0 (omega (arith, from_bounds 0 k q.0 q.1))))
