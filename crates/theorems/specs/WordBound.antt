-- How many words a lean tree has: each Return costs at most 265 words for each block that it stands in.
use Rattle.std.specs.Prelude.{◌≡◌, Bool, true, ◌&&◌, ◌++◌, map, ℕ, zero, suc, ◌+◌, ◌*◌, ◌≤◌, ◌<◌, leb}
use Rattle.std.proofs.Common.{subst}
use native.Mathlib.Omega.{arith}
use Rattle.std.proofs.Math.Dec.{eqb, ltb}
use Rattle.std.proofs.Math.ListN.{length, length-append, length-map}
use borrow.Author.Tests.{ltb-true, leb-true, eqb-true}
use Rattle.definition.specs.Lists.{◌implies◌, all}
use Rattle.definition.specs.Book.{most, Pattern}
use Rattle.definition.specs.Accept.{pattern_ok}
use Rattle.definition.specs.Tree.{Block, Flow, Arms, end, step, match, equal, return, no_arms, arm, place_word, step_count, let_words, pattern_words, block_words, step_words, flow_words, arm_words, words, returned, flow_returned, arms_returned}
use Rattle.definition.specs.Read.{id_ok, place_ok}
use Rattle.laws.specs.Tests.{both, every_at}
use Rattle.theorems.specs.ReadBack.{number_ok, under, under_parts, well_formed, flow_well_formed, arms_well_formed}
use Rattle.theorems.specs.Lean.{lean, lean_flow, lean_arms}

-- a pattern has at most four fields
fields_few : (p : Pattern) → pattern_ok p ≡ true → p.fields ≤ 4
unfolding pattern_ok
fields_few p e = go p.kind _ (leb-true p.kind 3 (every_at _ 0 e)) (every_at _ 1 e) (every_at _ 2 e) (every_at _ 3 e)
  where
    go : (k : ℕ) (y : Bool) → k ≤ 3 → (ltb k 2 implies eqb p.fields 0) ≡ true → (eqb k 2 implies leb p.fields 4) ≡ true → (eqb k 3 implies eqb p.fields 1 && y) ≡ true → p.fields ≤ 4
    go zero y h e₁ e₂ e₃ = omega (arith, eqb-true p.fields 0 e₁)
    go (suc zero) y h e₁ e₂ e₃ = omega (arith, eqb-true p.fields 0 e₁)
    go (suc (suc zero)) y h e₁ e₂ e₃ = leb-true p.fields 4 e₂
    go (suc (suc (suc zero))) y h e₁ e₂ e₃ = omega (arith, eqb-true p.fields 1 (both (eqb p.fields 1) _ e₃).0)
    go (suc (suc (suc (suc k)))) y h e₁ e₂ e₃ = absurd (omega arith)

-- a block n deep, and what it holds
abbrev Small : ℕ → Block → Type 0
Small n k = length (step_words k) ≤ (265 * suc n) * length (returned k)

module _ (n : ℕ) (h : (m : ℕ) → n ≡ suc m → (k : Block) → well_formed k m ≡ true → lean k ≡ true → Small m k) where
  -- a nested block
  nested : (k : Block) → under (λ m. well_formed k m) n ≡ true → lean k ≡ true → length (step_words k) ≤ (265 * n) * length (returned k)
  nested k e l =
      let u = under_parts (λ m. well_formed k m) n e in
      let q = h u.0 u.1 k u.2 l in
      rw u.1 q

  arms_small : (as' : Arms) → arms_well_formed as' n ≡ true → lean_arms as' ≡ true → length (arm_words as') ≤ (9 + 265 * n) * length (arms_returned as')
  unfolding well_formed lean step_words returned pattern_words block_words
  arms_small no_arms e l = omega arith
  arms_small (arm p ps k as') e l =
      let q₁ = both (pattern_ok p && all place_ok ps) _ e in
      let q₂ = both (number_ok p.number && eqb (length ps) p.fields) _ q₁.1 in
      let q₃ = both (under (λ m. well_formed k m) n) _ q₂.1 in
      let f = fields_few p (both (pattern_ok p) _ q₁.0).0 in
      let c : length ps ≡ p.fields = eqb-true (length ps) p.fields (both (number_ok p.number) _ q₂.0).1 in
      let r₁ = both (ltb 0 (length (returned k))) _ l in
      let r₂ = both (lean k) _ r₁.1 in
      let some = ltb-true 0 (length (returned k)) r₁.0 in
      let x = nested k q₃.0 r₂.0 in
      let y = arms_small as' q₃.1 r₂.1 in
      let a : length (arms_returned (arm p ps k as')) ≡ length (returned k) + length (arms_returned as') = length-append (returned k) (arms_returned as') in
      let d = length-map ps place_word in
      let v : length (block_words (step_count k) (step_words k)) ≡ 2 + length (step_words k) = omega arith in
      let z = length-append (map place_word ps ++ block_words (step_count k) (step_words k)) (arm_words as') in
      let w = length-append (map place_word ps) (block_words (step_count k) (step_words k)) in
      rw a (omega (arith, f, c, some, x, y, d, v, z, w))

  flow_small : (f : Flow) → flow_well_formed f n ≡ true → lean_flow f ≡ true → 0 < length (flow_returned f) → length (flow_words f) ≤ 3 + (9 + 265 * n) * length (flow_returned f)
  unfolding well_formed lean step_words returned block_words
  flow_small (match s as') e l r = let x = arms_small as' (both (id_ok s) _ e).1 l in omega (arith, x)
  flow_small (equal a b k) e l r = let x = nested k (both (ltb a b && id_ok b) _ e).1 l in omega (arith, x, r)
  flow_small (return i p q) e l r = omega arith

  steps_small : (k : Block) → well_formed k n ≡ true → lean k ≡ true → Small n k
  unfolding well_formed lean step_words returned let_words
  steps_small end e l = omega arith
  steps_small (step ls f k) e l =
      let q₁ = both (all id_ok ls) _ e in
      let q₂ = both (flow_well_formed f n) _ q₁.1 in
      let r₁ = both (leb (length ls) most && ltb 0 (length (flow_returned f))) _ l in
      let r₂ = both (leb (length ls) most) _ r₁.0 in
      let r₃ = both (lean_flow f) _ r₁.1 in
      let few = leb-true (length ls) most r₂.0 in
      let some = ltb-true 0 (length (flow_returned f)) r₂.1 in
      let x = flow_small f q₂.0 r₃.0 some in
      let y = steps_small k q₂.1 r₃.1 in
      let a : length (returned (step ls f k)) ≡ length (flow_returned f) + length (returned k) = length-append (flow_returned f) (returned k) in
      let z = length-append (ls ++ flow_words f) (step_words k) in
      let w = length-append ls (flow_words f) in
      rw a (omega (arith, few, some, x, y, z, w))

block_small : (n : ℕ) (k : Block) → well_formed k n ≡ true → lean k ≡ true → Small n k
block_small zero k e l = steps_small zero (λ m q. absurd (omega arith)) k e l
block_small (suc n) k e l = steps_small (suc n) (λ m q j f g. let z : n ≡ m = omega arith in subst (λ i. Small i j) z (block_small n j (rw z f) g)) k e l

pub words_small : (n : ℕ) (k : Block) → well_formed k n ≡ true → lean k ≡ true → length (words k) ≤ 2 + (265 * suc n) * length (returned k)
unfolding words block_words
words_small n k e l = let x = block_small n k e l in omega (arith, x)
