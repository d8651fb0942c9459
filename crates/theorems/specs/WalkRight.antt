-- Demand 3: the walk of a book's tree answers right.
use Rattle.std.specs.Prelude.{◌≡◌, refl, ◌⊎◌, true, false, ℕ, suc, ◌<◌, ltb, length, get_or, set}
use Rattle.std.proofs.Common.{sym, inl, inr, arith, eqb-true, eq-eqb, ltb-true, ltb-false}
use mathlib.Core.List.Memᴰ
use mathlib.Core.List.{List, ◌∷◌, Memᴰ}
use Rattle.laws.specs.Tests.{split, and, clash}
use Rattle.laws.specs.Members.{all_from, any_from, filter_in}
use Rattle.definition.specs.Book.{Book, Constraint, Pattern, Pair, rule, pattern_on, constrains, label, linked, is_on}
use Rattle.definition.specs.Plan.{same_pattern, tested, patterns, asking, arms, block, asks_for, after, lets_of}
use Rattle.definition.specs.Tree.{Block, Flow, step, match, equal}
use Rattle.definition.specs.Walk.{Reading, first_hit, hits, flow_hits, holds, agree, matches, constraint_holds, pair_holds}
use Rattle.definition.specs.Scope.{state, Scope, worked_out, emit_bound, inside, arm_states}
use Rattle.definition.specs.Choice.{testable, Test, on, same, counted, deferred}
use Rattle.definition.specs.Accept.{named}
use Rattle.laws.specs.Firsts.{first_hit_append}
use Rattle.theorems.specs.Partition.{Right, fall, counted_in, deferred_in}
use Rattle.theorems.specs.States.{Same}
use Rattle.theorems.specs.ArmStates.{Entered, entered}
use Rattle.theorems.specs.Classes.{respected, own, pair}
use Rattle.theorems.specs.RightSteps.{arms_right, equal_right, returns_right}
use Rattle.theorems.specs.Patterns.{same_pattern_equal, patterns_cover}
use Rattle.theorems.specs.Frame.{Frame, Done, named_constraint, named_pair, is_testable, reached}
use Rattle.theorems.specs.Built.{uses, Ready, built}
use Rattle.theorems.specs.Accepted.{Good}

-- WHAT A READING THAT COMES TO A BLOCK KNOWS
pub record Facts (b : Book) (d : Reading) (σ : Scope) (w : List ℕ) : Type 0 where
  pub tests_hold : (i : ℕ) → Memᴰ i w → (s : ℕ) → state σ.states s ≡ 3 → holds d s (pattern_on (rule b i) s) ≡ true
  pub pairs_hold : (p : Pair) → Memᴰ p σ.joined → agree d p.a p.b ≡ true

module _ (b : Book) (d : Reading) (g : Good b) where
  pub done_matches : (n : ℕ) (σ : Scope) (w : List ℕ) (v : Frame b n σ w) (a : Facts b d σ w) (i : ℕ) → Memᴰ i w → Done b σ i → matches b d i ≡ true
  unfolding matches agree constraint_holds pair_holds
  done_matches n σ w v a i m o = and (all_from (constraint_holds d) (rule b i).constraints each_constraint) (all_from (pair_holds d) (rule b i).pairs each_pair)
    where
      there : (s : ℕ) → Memᴰ s (named (rule b i)) → 0 < state σ.states s
      there s k = reached b g n σ w v i m o (suc s) s (omega arith) (g.known i s (v.known i m) k) (g.sound i s (v.known i m) k)

      each_constraint : (c : Constraint) → Memᴰ c (rule b i).constraints → holds d c.site c.pattern ≡ true
      each_constraint c k =
          let s = c.site in
          let q : constrains (rule b i) s ≡ true = unfold constrains is_on in any_from (is_on s) k (eq-eqb s s refl) in
          let l = named_constraint (rule b i) c k in
          let h = a.tests_hold i m s (o.ons s (g.known i s (v.known i m) l) (there s l) q) in
          rw (g.unique i c k) at h

      each_pair : (p : Pair) → Memᴰ p (rule b i).pairs → agree d p.a p.b ≡ true
      each_pair p k =
          let one_class = order (split (ltb p.a p.b)) in
          eq-eqb (get_or d.identities p.a 0) (get_or d.identities p.b 0)
          (respected (λ z. get_or d.identities z 0) σ.joined (λ q n. eqb-true (get_or d.identities q.a 0) (get_or d.identities q.b 0) (a.pairs_hold q n)) p.a p.b one_class)
        where
          l : Memᴰ p.a (named (rule b i)) × Memᴰ p.b (named (rule b i))
          l = named_pair (rule b i) p k

          ta : testable σ.states p.a ≡ true
          ta = is_testable σ.states p.a (there p.a l.0) (λ e. clash (v.marked i m p.a e) (g.apart i p k).0)

          tb : testable σ.states p.b ≡ true
          tb = is_testable σ.states p.b (there p.b l.1) (λ e. clash (v.marked i m p.b e) (g.apart i p k).1)

          order : (ltb p.a p.b ≡ true) ⊎ (ltb p.a p.b ≡ false) → label σ.joined p.a ≡ label σ.joined p.b
          order (inl e) = o.sames p.a p.b (ltb-true p.a p.b e) (g.known i p.b (v.known i m) l.1) ta tb (own p (rule b i).pairs k)
          order (inr e) =
              let z = ltb-false p.a p.b e in
              let y = g.differ i p k in
              sym (o.sames p.b p.a (omega arith) (g.known i p.a (v.known i m) l.0) tb ta (sym (own p (rule b i).pairs k)))

  -- P of the induction: a reading that comes to the block is answered right
  abbrev Answers : ℕ → Scope → List ℕ → Block → Type 0
  Answers n σ w k = Facts b d σ w → Right b d w (first_hit (hits d k))

  abbrev Checks : ℕ → Scope → Test → List ℕ → Flow → Type 0
  Checks n σ t w f = Facts b d σ w → Right b d w (first_hit (flow_hits d f))

  pub facts_after : (σ : Scope) (w v : List ℕ) (st : List ℕ) → Same σ.states st → ((i : ℕ) → Memᴰ i v → Memᴰ i w) → Facts b d σ w → Facts b d (record { states = st; joined = σ.joined }) v
  facts_after σ w v st u h a = record { tests_hold = λ i m s e. a.tests_hold i (h i m) s (u.back s e); pairs_hold = a.pairs_hold }

  walk_step : (n : ℕ) (σ : Scope) (w : List ℕ) (t : Test) → Frame b (suc n) σ w → ((s : ℕ) → Memᴰ s (tested t) → Ready b g σ s) → 0 < length (counted b t w)
      → (f : Flow) (k : Block) → Checks n (after b σ t) t (counted b t w) f → Answers (suc n) (after b σ t) (deferred b t w) k → Answers (suc n) σ w (step (lets_of b σ t) f k)
  unfolding hits
  walk_step n σ w t v r c f k p q a =
      let u = uses b g σ t v.sites (λ s m. (r s m).there) in
      rw (first_hit_append (flow_hits d f) (hits d k))
      (fall b d t w (first_hit (flow_hits d f)) (first_hit (hits d k))
      (p (facts_after σ w (counted b t w) (after b σ t).states u (λ i m. (counted_in b t w i m).0) a))
      (q (facts_after σ w (deferred b t w) (after b σ t).states u (λ i m. deferred_in b t w i m) a)))

  pub facts_arm : (n : ℕ) (σ : Scope) (w : List ℕ) (s : ℕ) → Frame b (suc n) σ w → Ready b g σ s → (p : Pattern) → Facts b d σ w → holds d s p ≡ true → Facts b d (inside b σ s p) (asking b s p w)
  unfolding inside arm_states asking asks_for
  facts_arm n σ w s v r p a q = record {
    tests_hold = λ i m x k. holding i m x (e.back x k);
    pairs_hold = a.pairs_hold;
  }
    where
      e : Entered b σ.states s p (worked_out b (emit_bound b s p (set σ.states s 3)))
      e = entered b s p σ.states g v.sites r.inside_sites r.there r.unmatched

      mem : (i : ℕ) → Memᴰ i (asking b s p w) → Memᴰ i w × (same_pattern (pattern_on (rule b i) s) p ≡ true)
      mem i m = filter_in (asks_for b s p) i w m

      holding : (i : ℕ) → Memᴰ i (asking b s p w) → (x : ℕ) → (x ≡ s) ⊎ (state σ.states x ≡ 3) → holds d x (pattern_on (rule b i) x) ≡ true
      holding i m x (inl f) = rw f (rw (same_pattern_equal (pattern_on (rule b i) s) p (mem i m).1) q)
      holding i m x (inr f) = a.tests_hold i (mem i m).0 x f

  pub facts_equal : (σ : Scope) (w : List ℕ) (x y : ℕ) → Facts b d σ w → agree d x y ≡ true → Facts b d (record { states = σ.states; joined = pair x y ∷ σ.joined }) w
  facts_equal σ w x y a e = record { tests_hold = a.tests_hold; pairs_hold = λ p m. go p (Memᴰ.cases_cons m) }
    where
      go : (p : Pair) → (p ≡ pair x y) ⊎ Memᴰ p σ.joined → agree d p.a p.b ≡ true
      go p (inl q) = rw q e
      go p (inr m) = a.pairs_hold p m

  walk_match : (n : ℕ) (σ : Scope) (w : List ℕ) (s : ℕ) → Frame b (suc n) σ w → Ready b g σ s → ((i : ℕ) → Memᴰ i w → constrains (rule b i) s ≡ true)
      → (sub : Scope → List ℕ → Block) → ((p : Pattern) → Memᴰ p (patterns b s w) → Answers n (inside b σ s p) (asking b s p w) (sub (inside b σ s p) (asking b s p w)))
      → Checks n σ (on s) w (match s (arms b sub σ s w (patterns b s w)))
  unfolding hits
  walk_match n σ w s v r c sub h a =
      arms_right b d g sub σ s w c (λ p m q. h p m (facts_arm n σ w s v r p a q)) (patterns b s w) (λ p m. m) (λ j m e. patterns_cover b s j w m)

  walk_equal : (n : ℕ) (σ : Scope) (w : List ℕ) (x y : ℕ) → x < y → Frame b (suc n) σ w → Ready b g σ x → Ready b g σ y → ((i : ℕ) → Memᴰ i w → linked (rule b i).pairs x y ≡ true)
      → (k : Block) → Answers n (record { states = σ.states; joined = pair x y ∷ σ.joined }) w k → Checks n σ (same x y) w (equal x y k)
  unfolding hits
  walk_equal n σ w x y xy v rx ry c k h a = equal_right b d g w x y k c (λ e. h (facts_equal σ w x y a e))

  pub block_right : (n : ℕ) (σ : Scope) (w : List ℕ) → Frame b n σ w → Facts b d σ w → Right b d w (first_hit (hits d (block b n σ w)))
  block_right =
      built b g Answers Checks
      (λ n σ w v h a. returns_right b d σ w (λ i m t. done_matches n σ w v a i m (h i m t)))
      walk_step walk_match walk_equal
