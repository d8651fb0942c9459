-- More nesting than is needed changes no tree.
use Rattle.std.specs.Prelude.{◌≡◌, true, ◌&&◌}
use Rattle.std.proofs.Math.Path.{refl, ap, ap₂}
use Rattle.std.proofs.Common.{sym, ◌∙◌, subst, zero-add, ne_eqb}
use Rattle.std.proofs.Math.Bool.{not}
use mathlib.Core.List.{List, [], ◌∷◌, Memᴰ}
use Rattle.std.proofs.Math.Option.{Option, none, some}
use Prim.Native.Nat.{ℕ, zero, suc, ◌+◌, ◌≤◌, ◌<◌}
use native.Mathlib.Omega.{arith}
use Rattle.std.proofs.Math.ListN.{length}
use Rattle.std.proofs.lemmas.Bool.{not-true}
use Rattle.laws.specs.Tests.{both, clash}
use Rattle.laws.specs.Members.{some_member, filter_from, mem_length}
use Rattle.definition.specs.Book.{Book, Pattern, rule, label}
use Rattle.definition.specs.Tree.{Block, step, match, equal, arm}
use Rattle.definition.specs.Scope.{state, Scope, inside}
use Rattle.definition.specs.Choice.{testable, Test, on, same, has, is_open, counted, deferred, choice}
use Rattle.definition.specs.Plan.{tested, returns, patterns, asking, places, arms, flow, steps, block, after, lets_of}
use Rattle.theorems.specs.Partition.{counted_in, deferred_in}
use Rattle.theorems.specs.States.{Same}
use Rattle.theorems.specs.Accepted.{Good}
use Rattle.theorems.specs.Classes.{respected, pair, spare_none, linked_yes, yes_linked}
use Rattle.theorems.specs.RightSteps.{constrained}
use Rattle.theorems.specs.Frame.{Frame, frame_less, frame_same, frame_arm, frame_equal, left, untested, untested_at, testable_parts}
use Rattle.theorems.specs.Built.{uses, deferred_less, test_facts}
use Rattle.theorems.specs.Choices.{choice_some}

module _ (b : Book) (g : Good b) where
  -- a rule with an open test has something left
  open_left : (σ : Scope) (t : Test) (i : ℕ) → is_open σ t ≡ true → has (rule b i) t ≡ true → left σ (rule b i) ≡ 0 → ⊥
  unfolding is_open has left untested untested_at
  open_left σ (on s) i o e z =
      let c = constrained (rule b i) s e in
      let k = (testable_parts σ.states s o).1 in
      let m = filter_from (untested_at σ.states) c.1 (ap not (ne_eqb (state σ.states c.0.site) 3 (λ q. k (subst (λ y. state σ.states y ≡ 3) c.2 q)))) in
      let l = mem_length m in
      omega arith
  open_left σ (same x y) i o e z =
      clash (yes_linked σ.joined x y (respected (label σ.joined) (rule b i).pairs (spare_none (rule b i).pairs σ.joined (omega arith)) x y (linked_yes (rule b i).pairs x y e)))
      (not-true _ (both (testable σ.states x && testable σ.states y) _ o).1)

  module _ (n : ℕ) (sub sub' : Scope → List ℕ → Block) (h : (σ : Scope) (w : List ℕ) → Frame b n σ w → sub σ w ≡ sub' σ w) where
    arms_agree : (σ : Scope) (w : List ℕ) (s : ℕ) → ((p : Pattern) → Frame b n (inside b σ s p) (asking b s p w)) → (ps : List Pattern) → arms b sub σ s w ps ≡ arms b sub' σ s w ps
    unfolding arms
    arms_agree σ w s f [] = refl
    arms_agree σ w s f (p ∷ ps) = ap₂ (λ k as'. arm p (places b s p) k as') (h (inside b σ s p) (asking b s p w) (f p)) (arms_agree σ w s f ps)

    flow_agree : (σ : Scope) (w : List ℕ) (t : Test) → Frame b (suc n) σ w → ((i : ℕ) → Memᴰ i w → has (rule b i) t ≡ true)
        → (st : List ℕ) → is_open (record { states = st; joined = σ.joined }) t ≡ true → ((s : ℕ) → Memᴰ s (tested t) → (s < length b.sites) × (0 < state σ.states s) × (state σ.states s ≡ 3 → ⊥))
        → flow b sub σ t w ≡ flow b sub' σ t w
    unfolding flow has is_open
    flow_agree σ w (on s) v c st o f =
        let q = f s (Memᴰ.head refl) in
        ap (match s) (arms_agree σ w s (λ p. frame_arm b g n σ w v s p q.0 q.1 q.2 c) (patterns b s w))
    flow_agree σ w (same x y) v c st o f =
        ap (equal x y) (h (record { states = σ.states; joined = pair x y ∷ σ.joined }) w (frame_equal b g n σ w v x y (not-true _ (both (testable st x && testable st y) _ o).1) c))

    steps_agree : (k : ℕ) (σ : Scope) (w : List ℕ) → length w ≤ k → Frame b (suc n) σ w → steps b sub k σ w ≡ steps b sub' k σ w
    unfolding steps
    steps_agree zero σ w l v = refl
    steps_agree (suc k) σ w l v = go (choice b σ w) refl (steps_agree k)
      where
        go : (o : Option Test) → choice b σ w ≡ o → ((σ' : Scope) (w' : List ℕ) → length w' ≤ k → Frame b (suc n) σ' w' → steps b sub k σ' w' ≡ steps b sub' k σ' w')
            → steps b sub (suc k) σ w ≡ steps b sub' (suc k) σ w
        go none e rec = rw (e, steps) refl
        go (some t) e rec =
            let q = choice_some b σ w t e in
            let f = test_facts b g σ t q.0 q.1 in
            let u : Same σ.states (after b σ t).states = uses b g σ t v.sites (λ s m. (f s m).1) in
            let v' : Frame b (suc n) (after b σ t) w = frame_same (after b σ t).states u v in
            let l' = deferred_less b g t w (q.2) in
            rw (e, steps)
            (ap₂ (step (lets_of b σ t))
            (flow_agree (after b σ t) (counted b t w) t (frame_less (counted b t w) (λ i m. (counted_in b t w i m).0) v') (λ i m. (counted_in b t w i m).1) σ.states q.1
            (λ s m. ((f s m).0, u.up s (f s m).1, λ z. (f s m).2 (u.back s z))))
            (rec (after b σ t) (deferred b t w) (omega arith) (frame_less (deferred b t w) (λ i m. deferred_in b t w i m) v')))

  exact_one : (n : ℕ) (σ : Scope) (w : List ℕ) → Frame b n σ w → block b n σ w ≡ block b (suc n) σ w
  unfolding block steps
  exact_one zero σ w v = go (length w)
    where
      go : (k : ℕ) → returns b σ w ≡ steps b (block b zero) k σ w
      go zero = refl
      go (suc k) = pick (choice b σ w) refl
        where
          pick : (o : Option Test) → choice b σ w ≡ o → returns b σ w ≡ steps b (block b zero) (suc k) σ w
          pick none e = rw (e, steps) refl
          pick (some t) e =
              let q = choice_some b σ w t e in
              let m = some_member (counted b t w) (q.2) in
              let c = counted_in b t w m.0 m.1 in
              absurd (open_left σ t m.0 q.1 c.1 (let z = v.room m.0 c.0 in omega arith))
  exact_one (suc n) σ w v = steps_agree n (block b n) (block b (suc n)) (exact_one n) (length w) σ w (omega arith) v

  more_room : {n : ℕ} {σ : Scope} {w : List ℕ} → Frame b n σ w → Frame b (suc n) σ w
  more_room v = record { sites = v.sites; known = v.known; marked = v.marked; bound = v.bound; room = λ i m. let z = v.room i m in omega arith }

  pub exact : (k n : ℕ) (σ : Scope) (w : List ℕ) → Frame b n σ w → block b n σ w ≡ block b (k + n) σ w
  exact zero n σ w v = ap (λ m. block b m σ w) (sym (zero-add n))
  exact (suc k) n σ w v = exact_one n σ w v ∙ exact k (suc n) σ w (more_room v) ∙ ap (λ m. block b m σ w) (let e : k + suc n ≡ suc k + n = omega arith in e)
