-- Every rule of a block is returned once in it, and no other: whatever rules weigh, the returned ones weigh as much as the block's.
use Rattle.std.specs.Prelude.{◌≡◌, refl, Bool, ◌||◌, ℕ, suc, ◌+◌, ◌<◌, length, if◌then◌else◌}
use Rattle.std.proofs.Math.Path.{sym, ap, subst}
use Rattle.std.proofs.Common.{◌∙◌, arith}
use Rattle.std.proofs.Math.Bool.{true, false, not, false≢true}
use mathlib.Core.List.{List, [], ◌∷◌, Memᴰ}
use Prim.Native.Nat.{Ordering}
use Rattle.std.proofs.Math.Dec.{compare_is_eq}
use Rattle.definition.specs.Lists.{filter, any}
use Rattle.laws.specs.Members.{any_at, any_from}
use Rattle.definition.specs.Book.{Book, Pattern, rule, constrains, pattern_on, linked}
use Rattle.definition.specs.Plan.{same_pattern, compare_patterns, tested, uses_of, returns, return_steps, rank, ranked, outranks, patterns, asking, arms, block, asks_for, after, lets_of}
use Rattle.definition.specs.Tree.{Block, Flow, step, match, equal, returned, flow_returned, arms_returned}
use Rattle.definition.specs.Scope.{Scope, inside, use_all}
use Rattle.definition.specs.Choice.{Test, on, same, counts, counted, deferred, stays}
use Rattle.theorems.specs.Partition.{no_higher}
use Rattle.theorems.specs.Accepted.{Good}
use Rattle.theorems.specs.Classes.{pair}
use Rattle.theorems.specs.Patterns.{pattern_weak, patterns_ascend, Ascending, same_pattern_equal, pattern_same, patterns_cover}
use Rattle.laws.specs.Totals.{total, total_append, filter_or, filter_every, filter_nothing}
use Rattle.theorems.specs.Frame.{Frame, Done}
use Rattle.theorems.specs.Built.{Ready, built}

-- how often a number stands in a list
-- RETURNS
rank_total : (v : ℕ → ℕ) (above : ℕ → ℕ → Bool) (j : ℕ) (l : List ℕ) → total v (rank above j l) ≡ v j + total v l
rank_total v above j [] = refl
rank_total v above j (k ∷ ks) = go (above k j) (rank_total v above j ks)
  where
    go : (t : Bool) → total v (rank above j ks) ≡ v j + total v ks → total v (if◌then◌else◌ t (k ∷ rank above j ks) (j ∷ k ∷ ks)) ≡ v j + (v k + total v ks)
    go true h = omega arith
    go false h = refl

pub ranked_total : (v : ℕ → ℕ) (above : ℕ → ℕ → Bool) (w : List ℕ) → total v (ranked above w) ≡ total v w
ranked_total v above [] = refl
ranked_total v above (j ∷ js) = rank_total v above j (ranked above js) ∙ ap (λ n. v j + n) (ranked_total v above js)

returned_steps : (b : Book) (st l : List ℕ) → returned (return_steps b st l) ≡ l
unfolding return_steps returned
returned_steps b st [] = refl
returned_steps b st (i ∷ js) = ap (λ l. i ∷ l) (returned_steps b (use_all b (uses_of (rule b i)) st).states js)

-- the rules under the arms of some patterns are those that ask one of them
module _ (b : Book) (sub : Scope → List ℕ → Block) (σ : Scope) (s : ℕ) (w : List ℕ) where
  asks : List Pattern → ℕ → Bool
  asks ps j = any (same_pattern (pattern_on (rule b j) s)) ps

  arms_total : (ps : List Pattern) → Ascending ps → ((p : Pattern) → Memᴰ p ps → (v : ℕ → ℕ) → total v (returned (sub (inside b σ s p) (asking b s p w))) ≡ total v (asking b s p w))
      → (v : ℕ → ℕ) → total v (arms_returned (arms b sub σ s w ps)) ≡ total v (filter (asks ps) w)
  unfolding arms returned asks asking asks_for
  arms_total [] a h v = sym (filter_nothing v (asks []) w (λ j m. refl))
  arms_total (p ∷ ps) a h v =
      let r = arms_total ps a.1 (λ q m. h q (Memᴰ.tail m)) v in
      let e = h p (Memᴰ.head refl) v in
      let f = filter_or v (asks_for b s p) (asks ps) w apart in
      let g = total_append v (returned (sub (inside b σ s p) (asking b s p w))) (arms_returned (arms b sub σ s w ps)) in
      g ∙ (omega arith)
    where
      apart : (j : ℕ) → Memᴰ j w → same_pattern (pattern_on (rule b j) s) p ≡ true → any (same_pattern (pattern_on (rule b j) s)) ps ≡ true → ⊥
      apart j m e f =
          let x = any_at (same_pattern (pattern_on (rule b j) s)) ps f in
          let y : p ≡ x.0 = sym (same_pattern_equal (pattern_on (rule b j) s) p e) ∙ same_pattern_equal (pattern_on (rule b j) s) x.0 x.2 in
          let z : compare_patterns p p ≡ Ordering.lt = subst (λ q. compare_patterns p q ≡ Ordering.lt) (sym y) (a.0 x.0 x.1) in
          let u : Ordering.lt ≡ Ordering.eq = sym z ∙ pattern_weak.self p in
          false≢true (ap compare_is_eq u)

module _ (b : Book) (g : Good b) where
  abbrev pub Counts : ℕ → Scope → List ℕ → Block → Type 0
  Counts n σ w k = (v : ℕ → ℕ) → total v (returned k) ≡ total v w

  abbrev pub FlowCounts : ℕ → Scope → Test → List ℕ → Flow → Type 0
  FlowCounts n σ t w f = (v : ℕ → ℕ) → total v (flow_returned f) ≡ total v w

  pub once_returns : (n : ℕ) (σ : Scope) (w : List ℕ) → Frame b n σ w → ((i : ℕ) → Memᴰ i w → ((j : ℕ) → Memᴰ j w → no_higher b j i) → Done b σ i) → Counts n σ w (returns b σ w)
  unfolding returns
  once_returns n σ w f h v = ap (total v) (returned_steps b σ.states (ranked (outranks b) w)) ∙ ranked_total v (outranks b) w

  pub once_step : (n : ℕ) (σ : Scope) (w : List ℕ) (t : Test) → Frame b (suc n) σ w → ((s : ℕ) → Memᴰ s (tested t) → Ready b g σ s) → 0 < length (counted b t w)
      → (f : Flow) (k : Block) → FlowCounts n (after b σ t) t (counted b t w) f → Counts (suc n) (after b σ t) (deferred b t w) k → Counts (suc n) σ w (step (lets_of b σ t) f k)
  unfolding returned counted deferred stays
  once_step n σ w t u r c f k p q v =
      let e = total_append v (flow_returned f) (returned k) in
      let x = filter_or v (counts b t w) (stays b t w) w (λ j m y z. never (counts b t w j) y z) in
      let y = filter_every v (λ j. counts b t w j || not (counts b t w j)) w (λ j m. always (counts b t w j)) in
      let p' = p v in
      let q' = q v in
      e ∙ (omega arith)
    where
      never : (z : Bool) → z ≡ true → not z ≡ true → ⊥
      never true e' f' = false≢true f'
      never false e' f' = false≢true e'

      always : (z : Bool) → z || not z ≡ true
      always true = refl
      always false = refl

  pub once_match : (n : ℕ) (σ : Scope) (w : List ℕ) (s : ℕ) → Frame b (suc n) σ w → Ready b g σ s → ((i : ℕ) → Memᴰ i w → constrains (rule b i) s ≡ true)
      → (sub : Scope → List ℕ → Block) → ((p : Pattern) → Memᴰ p (patterns b s w) → Counts n (inside b σ s p) (asking b s p w) (sub (inside b σ s p) (asking b s p w)))
      → FlowCounts n σ (on s) w (match s (arms b sub σ s w (patterns b s w)))
  unfolding returned asks
  once_match n σ w s f r c sub h v =
      arms_total b sub σ s w (patterns b s w) (patterns_ascend b s w) h v
      ∙ filter_every v (asks b sub σ s w (patterns b s w)) w (λ j m. any_from (same_pattern (pattern_on (rule b j) s)) (patterns_cover b s j w m) (pattern_same (pattern_on (rule b j) s)))

  pub once_equal : (n : ℕ) (σ : Scope) (w : List ℕ) (x y : ℕ) → x < y → Frame b (suc n) σ w → Ready b g σ x → Ready b g σ y → ((i : ℕ) → Memᴰ i w → linked (rule b i).pairs x y ≡ true)
      → (k : Block) → Counts n (record { states = σ.states; joined = pair x y ∷ σ.joined }) w k → FlowCounts n σ (same x y) w (equal x y k)
  unfolding returned
  once_equal n σ w x y xy f rx ry c k h v = h v

  pub block_once : (n : ℕ) (σ : Scope) (w : List ℕ) → Frame b n σ w → (v : ℕ → ℕ) → total v (returned (block b n σ w)) ≡ total v w
  block_once = built b g Counts FlowCounts once_returns once_step once_match once_equal
