-- The steps of a block, and the one induction over the way a tree is built that every theorem about planned trees goes by.
use Rattle.std.specs.Prelude.{◌≡◌, ◌⊎◌, true, ◌&&◌}
use Rattle.std.proofs.Math.Path.{refl}
use Rattle.std.proofs.Common.{ap, inl, inr, arith}
use Rattle.std.proofs.Math.Bool.{not}
use mathlib.Core.List.Memᴰ
use mathlib.Core.List.{List, [], ◌∷◌, Memᴰ}
use Rattle.std.proofs.Math.Option.{Option, none, some}
use Prim.Native.Nat.{ℕ, zero, suc, ◌≤◌, ◌<◌}
use Rattle.std.proofs.Math.ListN.{length}
use Rattle.std.proofs.lemmas.Bool.{not-true}
use Rattle.laws.specs.Tests.{both, and, or_right}
use Rattle.laws.specs.Members.{some_member, all_from, filter_in, filter_from, mem_length, filter_short}
use Rattle.definition.specs.Book.{Book, Pattern, rule, constrains, linked}
use Rattle.definition.specs.Plan.{tested, returns, patterns, asking, arms, flow, steps, block, after, lets_of}
use Rattle.definition.specs.Tree.{Block, Flow, step, match, equal}
use Rattle.definition.specs.Scope.{state, Scope, inside, use_site, use_all}
use Rattle.definition.specs.Choice.{testable, Test, on, same, has, is_open, tests, counts, counted, deferred, choice, at_least, no_bar, stays}
use Rattle.theorems.specs.Partition.{no_higher, counted_in, deferred_in}
use Rattle.theorems.specs.States.{Same, each_same, use_same}
use Rattle.theorems.specs.ArmStates.{Sites}
use Rattle.theorems.specs.Classes.{pair}
use Rattle.theorems.specs.Choices.{Known, tests_known, choice_some, choice_none}
use Rattle.theorems.specs.Accepted.{Good}
use Rattle.theorems.specs.Frame.{Frame, frame_less, frame_same, Done, testable_parts, done_closed, done_none, frame_arm, frame_equal}

module _ (b : Book) (g : Good b) where
  -- THE STEPS OF A BLOCK
  pub uses : (σ : Scope) (t : Test) → Sites b σ.states → ((s : ℕ) → Memᴰ s (tested t) → 0 < state σ.states s)
      → Same σ.states (use_all b (tested t) σ.states).states
  unfolding use_site use_all
  uses σ t h p = each_same b (use_site b) (λ s u k q. use_same b (suc s) s u k q) (tested t) (record { states = σ.states; lets = [] }) h.down p

  -- the top rule is counted by each test that it has
  pub counted_top : (t : Test) (w : List ℕ) (i : ℕ) → Memᴰ i w → ((j : ℕ) → Memᴰ j w → no_higher b j i) → has (rule b i) t ≡ true → Memᴰ i (counted b t w)
  unfolding counted counts no_bar at_least
  counted_top t w i m h e =
      filter_from (counts b t w) m (and e (all_from (no_bar b t i) w (λ j n. or_right (has (rule b j) t) (h j n))))

  pub deferred_less : (t : Test) (w : List ℕ) → 0 < length (counted b t w) → length (deferred b t w) < length w
  unfolding counted deferred stays
  deferred_less t w h =
      let x = some_member (counted b t w) h in
      let y = filter_in (counts b t w) x.0 w x.1 in
      filter_short (stays b t w) x.0 w y.0 (ap not y.1)

  pub test_facts : (σ : Scope) (t : Test) → Memᴰ t (tests b) → is_open σ t ≡ true → (s : ℕ) → Memᴰ s (tested t) → (s < length b.sites) × (0 < state σ.states s) × (state σ.states s ≡ 3 → ⊥)
  unfolding is_open
  test_facts σ (on x) m o = λ s k. go s (Memᴰ.eq_of_singleton k)
    where
      go : (s : ℕ) → s ≡ x → (s < length b.sites) × (0 < state σ.states s) × (state σ.states s ≡ 3 → ⊥)
      go s e = rw e (let q = testable_parts σ.states x o in (tests_known b (on x) m, q.0, q.1))
  test_facts σ (same x y) m o = λ s k. go s (Memᴰ.cases_cons k)
    where
      pq : (testable σ.states x ≡ true) × (testable σ.states y ≡ true)
      pq = both (testable σ.states x) _ (both (testable σ.states x && testable σ.states y) _ o).0

      go : (s : ℕ) → (s ≡ x) ⊎ Memᴰ s (y ∷ []) → (s < length b.sites) × (0 < state σ.states s) × (state σ.states s ≡ 3 → ⊥)
      go s (inl e) = rw e (let q = testable_parts σ.states x pq.0 in (let z = tests_known b (same x y) m in omega arith, q.0, q.1))
      go s (inr k) = rw (Memᴰ.eq_of_singleton k) (let q = testable_parts σ.states y pq.1 in ((tests_known b (same x y) m).1, q.0, q.1))

  -- a site that may be tested
  pub record Ready (σ : Scope) (s : ℕ) : Type 0 where
    pub inside_sites : s < length b.sites
    pub there : 0 < state σ.states s
    pub unmatched : state σ.states s ≡ 3 → ⊥

  -- INDUCTION OVER THE WAY A TREE IS BUILT: P of a block, with the nesting that is left, its scope and its rules; Q of a step's check, in the scope after its uses
  module _
      (P : ℕ → Scope → List ℕ → Block → Type 0) (Q : ℕ → Scope → Test → List ℕ → Flow → Type 0)
      (returns_case : (n : ℕ) (σ : Scope) (w : List ℕ) → Frame b n σ w → ((i : ℕ) → Memᴰ i w → ((j : ℕ) → Memᴰ j w → no_higher b j i) → Done b σ i) → P n σ w (returns b σ w))
      (step_case : (n : ℕ) (σ : Scope) (w : List ℕ) (t : Test) → Frame b (suc n) σ w → ((s : ℕ) → Memᴰ s (tested t) → Ready σ s) → 0 < length (counted b t w)
      → (f : Flow) (k : Block) → Q n (after b σ t) t (counted b t w) f → P (suc n) (after b σ t) (deferred b t w) k → P (suc n) σ w (step (lets_of b σ t) f k))
      (match_case : (n : ℕ) (σ : Scope) (w : List ℕ) (s : ℕ) → Frame b (suc n) σ w → Ready σ s → ((i : ℕ) → Memᴰ i w → constrains (rule b i) s ≡ true)
      → (sub : Scope → List ℕ → Block) → ((p : Pattern) → Memᴰ p (patterns b s w) → P n (inside b σ s p) (asking b s p w) (sub (inside b σ s p) (asking b s p w)))
      → Q n σ (on s) w (match s (arms b sub σ s w (patterns b s w))))
      (equal_case : (n : ℕ) (σ : Scope) (w : List ℕ) (x y : ℕ) → x < y → Frame b (suc n) σ w → Ready σ x → Ready σ y → ((i : ℕ) → Memᴰ i w → linked (rule b i).pairs x y ≡ true)
      → (k : Block) → P n (record { states = σ.states; joined = pair x y ∷ σ.joined }) w k → Q n σ (same x y) w (equal x y k)) where
    flow_built : (n : ℕ) (sub : Scope → List ℕ → Block) → ((σ : Scope) (w : List ℕ) → Frame b n σ w → P n σ w (sub σ w))
        → (σ : Scope) (w : List ℕ) (t : Test) → Frame b (suc n) σ w → ((i : ℕ) → Memᴰ i w → has (rule b i) t ≡ true)
        → Known (length b.sites) t → (st : List ℕ) → is_open (record { states = st; joined = σ.joined }) t ≡ true → ((s : ℕ) → Memᴰ s (tested t) → Ready σ s)
        → Q n σ t w (flow b sub σ t w)
    unfolding flow has is_open
    flow_built n sub right σ w (on s) v c r st o f =
        let q = f s (Memᴰ.head refl) in
        match_case n σ w s v q c sub (λ p m. right (inside b σ s p) (asking b s p w) (frame_arm b g n σ w v s p q.inside_sites q.there q.unmatched c))
    flow_built n sub right σ w (same x y) v c r st o f =
        equal_case n σ w x y r.0 v (f x (Memᴰ.head refl)) (f y (Memᴰ.tail (Memᴰ.head refl))) c (sub (record { states = σ.states; joined = pair x y ∷ σ.joined }) w)
        (right (record { states = σ.states; joined = pair x y ∷ σ.joined }) w (frame_equal b g n σ w v x y (not-true _ (both (testable st x && testable st y) _ o).1) c))

    steps_built : (n : ℕ) (sub : Scope → List ℕ → Block) → ((σ : Scope) (w : List ℕ) → Frame b n σ w → P n σ w (sub σ w))
        → (k : ℕ) (σ : Scope) (w : List ℕ) → length w ≤ k → Frame b (suc n) σ w → P (suc n) σ w (steps b sub k σ w)
    unfolding steps
    steps_built n sub right zero σ w l v = returns_case (suc n) σ w v (λ i m h. let z = mem_length m in absurd (omega arith))
    steps_built n sub right (suc k) σ w l v = go (choice b σ w) refl (steps_built n sub right k)
      where
        go : (o : Option Test) → choice b σ w ≡ o → ((σ' : Scope) (w' : List ℕ) → length w' ≤ k → Frame b (suc n) σ' w' → P (suc n) σ' w' (steps b sub k σ' w'))
            → P (suc n) σ w (steps b sub (suc k) σ w)
        go none e rec = rw (e, steps) (returns_case (suc n) σ w v (λ i m h. done_closed b σ i (λ t mt ot ht. choice_none b σ w e t mt ot i (counted_top t w i m h ht))))
        go (some t) e rec =
            let q = choice_some b σ w t e in
            let f = test_facts σ t q.0 q.1 in
            let u : Same σ.states (after b σ t).states = uses σ t v.sites (λ s m. (f s m).1) in
            let v' : Frame b (suc n) (after b σ t) w = frame_same (after b σ t).states u v in
            let h = q.2 in
            let l' = deferred_less t w h in
            rw (e, steps)
            (step_case n σ w t v (λ s m. record { inside_sites = (f s m).0; there = (f s m).1; unmatched = (f s m).2 }) h
            (flow b sub (after b σ t) t (counted b t w)) (steps b sub k (after b σ t) (deferred b t w))
            (flow_built n sub right (after b σ t) (counted b t w) t (frame_less (counted b t w) (λ i m. (counted_in b t w i m).0) v') (λ i m. (counted_in b t w i m).1) (tests_known b t q.0) σ.states q.1
            (λ s m. record { inside_sites = (f s m).0; there = u.up s (f s m).1; unmatched = λ z. (f s m).2 (u.back s z) }))
            (rec (after b σ t) (deferred b t w) (omega arith) (frame_less (deferred b t w) (λ i m. deferred_in b t w i m) v')))

    pub built : (n : ℕ) (σ : Scope) (w : List ℕ) → Frame b n σ w → P n σ w (block b n σ w)
    unfolding block
    built zero σ w v = returns_case zero σ w v (λ i m h. done_none b σ i (v.room i m))
    built (suc n) σ w v = steps_built n (block b n) (built n) (length w) σ w (omega arith) v
