-- A planned tree is lean: no let list is longer than there are sites, and every step and every arm leads to a Return.
use Rattle.std.specs.Prelude.{◌≡◌, Bool, true, ◌&&◌, ℕ, suc, ◌≤◌, ◌<◌}
use Rattle.std.proofs.Math.Path.{refl}
use Rattle.std.proofs.Common.{◌∙◌, arith, lt-ltb, le-leb}
use mathlib.Core.List.{List, [], ◌∷◌, Memᴰ}
use Rattle.std.proofs.Math.ListN.{length}
use Rattle.definition.specs.Lists.{◌below◌, ◌at_most◌}
use Rattle.definition.specs.Book.{most, Book, Pattern, rule, constrains, linked}
use Rattle.definition.specs.Tree.{Block, Flow, Arms, end, step, match, equal, return, no_arms, arm, returned, flow_returned}
use Rattle.definition.specs.Scope.{Scope, inside, use_all}
use Rattle.definition.specs.Choice.{Test, on, same, counted, deferred}
use Rattle.definition.specs.Plan.{tested, uses_of, returns, return_steps, ranked, outranks, patterns, asks_for, asking, arms, block, after, lets_of}
use Rattle.laws.specs.Tests.{and}
use Rattle.laws.specs.Members.{filter_from, mem_length}
use Rattle.laws.specs.Totals.{total_same}
use Rattle.theorems.specs.Partition.{no_higher}
use Rattle.theorems.specs.Accepted.{Good}
use Rattle.theorems.specs.Classes.{pair}
use Rattle.theorems.specs.Patterns.{pattern_same, patterns_from}
use Rattle.theorems.specs.Frame.{Frame, Done, named_uses}
use Rattle.theorems.specs.Built.{Ready, built}
use Rattle.theorems.specs.ReturnedOnce.{Counts, FlowCounts, once_returns, once_step, once_match, once_equal}
use Rattle.theorems.specs.LetLists.{all_spent, lets_few}
use Rattle.theorems.specs.WellFormed.{ranked_in}

unfoldable mutual
  pub lean : Block → Bool
  lean end = true
  lean (step l f k) = (length l at_most most && 0 below length (flow_returned f)) && (lean_flow f && lean k)

  pub lean_flow : Flow → Bool
  lean_flow (match s as') = lean_arms as'
  lean_flow (equal x y k) = lean k
  lean_flow (return i p r) = true

  pub lean_arms : Arms → Bool
  lean_arms no_arms = true
  lean_arms (arm p ps k as') = 0 below length (returned k) && (lean k && lean_arms as')

module _ (b : Book) (g : Good b) where
  abbrev LeanP : ℕ → Scope → List ℕ → Block → Type 0
  LeanP n σ w k = Counts b g n σ w k × (lean k ≡ true)

  abbrev LeanQ : ℕ → Scope → Test → List ℕ → Flow → Type 0
  LeanQ n σ t w f = FlowCounts b g n σ t w f × (lean_flow f ≡ true)

  return_lean : (l st : List ℕ) → ((i : ℕ) → Memᴰ i l → i < length b.rules) → length b.sites ≤ length st → length st ≡ most → lean (return_steps b st l) ≡ true
  unfolding return_steps lean returned
  return_lean [] st h s e = refl
  return_lean (i ∷ js) st h s e =
      let known : (x : ℕ) → Memᴰ x (uses_of (rule b i)) → x < length b.sites = λ x m. g.known i x (h i (Memᴰ.head refl)) (named_uses (rule b i) x m) in
      let few = lets_few b g (uses_of (rule b i)) st known s in
      let size = (all_spent b g (uses_of (rule b i)) st known s).size in
      and (and (le-leb (length (use_all b (uses_of (rule b i)) st).lets) most (omega arith)) refl)
      (return_lean js (use_all b (uses_of (rule b i)) st).states (λ j m. h j (Memᴰ.tail m)) (omega arith) (size ∙ e))

  lean_returns : (n : ℕ) (σ : Scope) (w : List ℕ) → Frame b n σ w → ((i : ℕ) → Memᴰ i w → ((j : ℕ) → Memᴰ j w → no_higher b j i) → Done b σ i) → LeanP n σ w (returns b σ w)
  unfolding returns
  lean_returns n σ w v h = (
    once_returns b g n σ w v h,
    return_lean (ranked (outranks b) w) σ.states (λ i m. v.known i (ranked_in (outranks b) i w m)) v.sites.sized v.sites.full,
  )

  lean_step : (n : ℕ) (σ : Scope) (w : List ℕ) (t : Test) → Frame b (suc n) σ w → ((s : ℕ) → Memᴰ s (tested t) → Ready b g σ s) → 0 < length (counted b t w)
      → (f : Flow) (k : Block) → LeanQ n (after b σ t) t (counted b t w) f → LeanP (suc n) (after b σ t) (deferred b t w) k → LeanP (suc n) σ w (step (lets_of b σ t) f k)
  unfolding lean
  lean_step n σ w t v r c f k p q =
      let few = lets_few b g (tested t) σ.states (λ s m. (r s m).inside_sites) v.sites.sized in
      let full = v.sites.full in
      let some = total_same (flow_returned f) (counted b t w) p.0 in
      (once_step b g n σ w t v r c f k p.0 q.0, and (and (le-leb (length (lets_of b σ t)) most (omega arith)) (lt-ltb 0 (length (flow_returned f)) (omega arith))) (and p.1 q.1))

  lean_equal : (n : ℕ) (σ : Scope) (w : List ℕ) (x y : ℕ) → x < y → Frame b (suc n) σ w → Ready b g σ x → Ready b g σ y → ((i : ℕ) → Memᴰ i w → linked (rule b i).pairs x y ≡ true)
      → (k : Block) → LeanP n (record { states = σ.states; joined = pair x y ∷ σ.joined }) w k → LeanQ n σ (same x y) w (equal x y k)
  unfolding lean
  lean_equal n σ w x y l v rx ry c k h = (once_equal b g n σ w x y l v rx ry c k h.0, h.1)

  lean_match : (n : ℕ) (σ : Scope) (w : List ℕ) (s : ℕ) → Frame b (suc n) σ w → Ready b g σ s → ((i : ℕ) → Memᴰ i w → constrains (rule b i) s ≡ true)
      → (sub : Scope → List ℕ → Block) → ((p : Pattern) → Memᴰ p (patterns b s w) → LeanP n (inside b σ s p) (asking b s p w) (sub (inside b σ s p) (asking b s p w)))
      → LeanQ n σ (on s) w (match s (arms b sub σ s w (patterns b s w)))
  unfolding lean arms asking asks_for
  lean_match n σ w s v r c sub h = (once_match b g n σ w s v r c sub (λ p m. (h p m).0), all_arms (patterns b s w) (λ p m. m))
    where
      -- some rule asks each pattern
      asked : (p : Pattern) → Memᴰ p (patterns b s w) → 0 < length (asking b s p w)
      asked p m = let j = patterns_from b s p w m in mem_length (filter_from (asks_for b s p) j.1 (rw (← j.2) (pattern_same p)))

      all_arms : (ps : List Pattern) → ((p : Pattern) → Memᴰ p ps → Memᴰ p (patterns b s w)) → lean_arms (arms b sub σ s w ps) ≡ true
      all_arms [] i = refl
      all_arms (p ∷ ps) i =
          let m = i p (Memᴰ.head refl) in
          let k = sub (inside b σ s p) (asking b s p w) in
          let e = total_same (returned (sub (inside b σ s p) (asking b s p w))) (asking b s p w) (h p m).0 in
          let a = asked p m in
          and (lt-ltb 0 (length (returned (sub (inside b σ s p) (asking b s p w)))) (omega (arith, e, a))) (and (h p m).1 (all_arms ps (λ q n'. i q (Memᴰ.tail n'))))

  pub block_lean : (n : ℕ) (σ : Scope) (w : List ℕ) → Frame b n σ w → (length (returned (block b n σ w)) ≡ length w) × (lean (block b n σ w) ≡ true)
  block_lean n σ w v =
      let q = built b g LeanP LeanQ lean_returns lean_step lean_match lean_equal n σ w v in
      (total_same (returned (block b n σ w)) w q.0, q.1)
