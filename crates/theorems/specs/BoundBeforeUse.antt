-- Demand 3: the tree of an accepted book uses no site, up to each block's first Return, that is not bound.
use Rattle.std.specs.Prelude.{◌≡◌, ◌⊎◌, ℕ, suc, ◌≤◌, ◌<◌, set}
use Rattle.std.proofs.Math.Path.{refl, sym, ap, subst}
use Rattle.std.proofs.Common.{◌∙◌, inl, inr, arith}
use Rattle.std.proofs.Math.Bool.{true}
use mathlib.Core.List.Memᴰ
use mathlib.Core.List.{List, [], ◌∷◌, Memᴰ}
use Rattle.std.proofs.Math.Option.{Option, none, some}
use Rattle.std.proofs.Math.ListN.{length}
use borrow.Author.Tests.{eqb-true, eq-eqb, ltb-true}
use Rattle.definition.specs.Lists.{upto}
use Rattle.laws.specs.Tests.{every_at, both, and, or_right}
use Rattle.laws.specs.Members.{all_from, mem_map, mem_from, first_of, heads_in}
use Rattle.definition.specs.Book.{Book, Pattern, site, rule, constrains, linked}
use Rattle.definition.specs.Tree.{Block, Flow, step, match, equal}
use Rattle.definition.specs.Scope.{state, Scope, binds, inside, Use, use_site, use_all, worked_out, emit_bound, arm_states}
use Rattle.definition.specs.Choice.{Test, on, same, counted, deferred}
use Rattle.definition.specs.Plan.{tested, returns, return_steps, ranked, outranks, patterns, asking, places, arms, block, uses_of, after, lets_of, stands_at, place_at}
use Rattle.definition.specs.Accept.{named}
use Rattle.theorems.specs.Partition.{no_higher}
use Rattle.theorems.specs.ArmStates.{entered}
use Rattle.theorems.specs.Classes.{pair}
use Rattle.theorems.specs.RightSteps.{ranked_first}
use Rattle.theorems.specs.Frame.{Frame, Done, named_uses, reached}
use Rattle.theorems.specs.Built.{Ready, built}
use Rattle.definition.specs.Bound.{is_bound, grown, arm_binds, is_return, block_bound, flow_bound, arms_bound}
use Rattle.theorems.specs.LetsBind.{Sub, bound_more, bound_mem, Going, each_used, site_used}
use Rattle.theorems.specs.Accepted.{Good, inside_book}
use Rattle.laws.specs.Orders.{same_number_equal}

arm_binds_sub : (ps : List (Option ℕ)) (γ : List ℕ) → Sub γ (arm_binds ps γ)
arm_binds_sub [] γ x m = m
arm_binds_sub (none ∷ ps) γ x m = arm_binds_sub ps γ x m
arm_binds_sub (some s ∷ ps) γ x m = Memᴰ.tail (arm_binds_sub ps γ x m)

arm_binds_mem : (ps : List (Option ℕ)) (γ : List ℕ) (x : ℕ) → Memᴰ (some x) ps → Memᴰ x (arm_binds ps γ)
arm_binds_mem [] γ x m = absurd (Memᴰ.not-nil m)
arm_binds_mem (none ∷ ps) γ x m = go (Memᴰ.cases_cons m) (arm_binds_mem ps γ x)
  where
    go : (some x ≡ none) ⊎ Memᴰ (some x) ps → (Memᴰ (some x) ps → Memᴰ x (arm_binds ps γ)) → Memᴰ x (arm_binds ps γ)
    go (inl e) rec = absurd (let z : ◌≡◌ {A = ℕ} 0 1 = cc in omega arith)
    go (inr n) rec = rec n
arm_binds_mem (some s ∷ ps) γ x m = go (Memᴰ.cases_cons m) (arm_binds_mem ps γ x)
  where
    go : (some x ≡ some s) ⊎ Memᴰ (some x) ps → (Memᴰ (some x) ps → Memᴰ x (arm_binds ps γ)) → Memᴰ x (s ∷ arm_binds ps γ)
    go (inl e) rec = let z : x ≡ s = cc in Memᴰ.head z
    go (inr n) rec = Memᴰ.tail (rec n)

module _ (b : Book) (g : Good b) where
  binds_all : (s : ℕ) (p : Pattern) (x : ℕ) → binds s p (site b x) ≡ true
      → ((site b x).kind ≡ 7) × Memᴰ s (site b x).sources × ((site b x).pattern ≡ p.kind) × ((site b x).number ≡ p.number) × ((site b x).position < p.fields)
  unfolding binds
  binds_all s p x e = (
    eqb-true (site b x).kind 7 (every_at _ 0 e),
    heads_in s (site b x).sources (every_at _ 1 e),
    eqb-true (site b x).pattern p.kind (every_at _ 2 e),
    same_number_equal (site b x).number p.number (every_at _ 3 e),
    ltb-true (site b x).position p.fields (every_at _ 4 e),
  )

  -- an arm's places name every site that it binds
  placed : (s : ℕ) (p : Pattern) (x : ℕ) → binds s p (site b x) ≡ true → Memᴰ (some x) (places b s p)
  unfolding places place_at stands_at
  placed s p x e =
      let a = binds_all s p x e in
      let k = (site b x).position in
      let f = first_of (stands_at b s p k) x (upto (length b.sites)) (mem_from 0 (length b.sites) x (omega arith) (let z = inside_book b x a.0 in omega arith)) (and e (eq-eqb k k refl)) in
      let y = f.0 in
      let h = both (binds s p (site b y)) _ f.2 in
      let c = binds_all s p y h.0 in
      let same_site : y ≡ x = g.twin y x c.0 a.0 s c.1 a.1 (c.2 ∙ sym a.2) (c.3 ∙ sym a.3) (eqb-true (site b y).position k h.1) in
      let m = mem_map (place_at b s p) k (upto p.fields) (mem_from 0 p.fields k (omega arith) (let z = a.4 in omega arith)) in
      subst (λ o. Memᴰ o (places b s p)) (f.1 ∙ ap some same_site) m

  -- what is Emitted is bound
  abbrev Cover : List ℕ → List ℕ → Type 0
  Cover γ st = (x : ℕ) → x < length b.sites → 2 ≤ state st x → is_bound b γ x ≡ true

  abbrev Bounds : ℕ → Scope → List ℕ → Block → Type 0
  Bounds n σ w k = (γ : List ℕ) → Cover γ σ.states → block_bound b γ k ≡ true

  abbrev Binds : ℕ → Scope → Test → List ℕ → Flow → Type 0
  Binds n σ t w f = (γ : List ℕ) → Cover γ σ.states → ((s : ℕ) → Memᴰ s (tested t) → 2 ≤ state σ.states s) → flow_bound b γ f ≡ true

  -- uses from a block's scope: nothing is listed yet
  abbrev unlisted : List ℕ → Use
  unlisted st = record { states = st; lets = [] }

  start : (γ : List ℕ) (st : List ℕ) → Cover γ st → Going b γ (length b.sites) (unlisted st)
  start γ st c = record { ok = refl; cover = λ x l y. c x l y }

  bound_step : (n : ℕ) (σ : Scope) (w : List ℕ) (t : Test) → Frame b (suc n) σ w → ((s : ℕ) → Memᴰ s (tested t) → Ready b g σ s) → 0 < length (counted b t w)
      → (f : Flow) (k : Block) → Binds n (after b σ t) t (counted b t w) f → Bounds (suc n) (after b σ t) (deferred b t w) k → Bounds (suc n) σ w (step (lets_of b σ t) f k)
  unfolding block_bound use_all
  bound_step n σ w t v r c f k p q γ h =
      let u = each_used b γ (length b.sites) (length b.sites) (use_site b) (tested t) (λ s m. ((r s m).inside_sites, site_used b g γ s (length b.sites) (r s m).inside_sites (r s m).inside_sites)) (unlisted σ.states) v.sites (λ s m. (r s m).there) (start γ σ.states h) in
      let c' : Cover (grown b γ (lets_of b σ t)) (after b σ t).states = λ x l y. u.0.going.cover x l y in
      and u.0.going.ok (and (p (grown b γ (lets_of b σ t)) c' u.1) (or_right (is_return f) (q (grown b γ (lets_of b σ t)) c')))

  bound_equal : (n : ℕ) (σ : Scope) (w : List ℕ) (x y : ℕ) → x < y → Frame b (suc n) σ w → Ready b g σ x → Ready b g σ y → ((i : ℕ) → Memᴰ i w → linked (rule b i).pairs x y ≡ true)
      → (k : Block) → Bounds n (record { states = σ.states; joined = pair x y ∷ σ.joined }) w k → Binds n σ (same x y) w (equal x y k)
  unfolding block_bound
  bound_equal n σ w x y xy v rx ry c k h γ e f =
      and (e x rx.inside_sites (f x (Memᴰ.head refl))) (and (e y ry.inside_sites (f y (Memᴰ.tail (Memᴰ.head refl)))) (h γ e))

  bound_match : (n : ℕ) (σ : Scope) (w : List ℕ) (s : ℕ) → Frame b (suc n) σ w → Ready b g σ s → ((i : ℕ) → Memᴰ i w → constrains (rule b i) s ≡ true)
      → (sub : Scope → List ℕ → Block) → ((p : Pattern) → Memᴰ p (patterns b s w) → Bounds n (inside b σ s p) (asking b s p w) (sub (inside b σ s p) (asking b s p w)))
      → Binds n σ (on s) w (match s (arms b sub σ s w (patterns b s w)))
  unfolding block_bound inside arm_states arms
  bound_match n σ w s v r c sub h γ e f = and here (all_arms (patterns b s w) (λ p m. m))
    where
      here : is_bound b γ s ≡ true
      here = e s r.inside_sites (f s (Memᴰ.head refl))

      covers : (p : Pattern) → Cover (arm_binds (places b s p) γ) (worked_out b (emit_bound b s p (set σ.states s 3)))
      covers p x l y = go ((entered b s p σ.states g v.sites r.inside_sites r.there r.unmatched).origin x y)
        where
          go : (x ≡ s) ⊎ ((2 ≤ state σ.states x) ⊎ (binds s p (site b x) ≡ true)) → is_bound b (arm_binds (places b s p) γ) x ≡ true
          go (inl q) = bound_more b γ (arm_binds (places b s p) γ) x (arm_binds_sub (places b s p) γ) (rw q here)
          go (inr (inl q)) = bound_more b γ (arm_binds (places b s p) γ) x (arm_binds_sub (places b s p) γ) (e x l q)
          go (inr (inr q)) = bound_mem b (arm_binds (places b s p) γ) x (arm_binds_mem (places b s p) γ x (placed s p x q))

      all_arms : (ps : List Pattern) → ((p : Pattern) → Memᴰ p ps → Memᴰ p (patterns b s w)) → arms_bound b γ (arms b sub σ s w ps) ≡ true
      all_arms [] i = refl
      all_arms (p ∷ ps) i = and (h p (i p (Memᴰ.head refl)) (arm_binds (places b s p) γ) (covers p)) (all_arms ps (λ q m. i q (Memᴰ.tail m)))

  bound_returns : (n : ℕ) (σ : Scope) (w : List ℕ) → Frame b n σ w → ((i : ℕ) → Memᴰ i w → ((j : ℕ) → Memᴰ j w → no_higher b j i) → Done b σ i) → Bounds n σ w (returns b σ w)
  unfolding returns return_steps use_all uses_of block_bound
  bound_returns n σ w v h γ e = go (ranked (outranks b) w) refl
    where
      go : (l : List ℕ) → ranked (outranks b) w ≡ l → block_bound b γ (return_steps b σ.states (ranked (outranks b) w)) ≡ true
      go [] p = rw p refl
      go (i ∷ js) p =
          let top = ranked_first b w i js p in
          let done = h i top.0 top.1 in
          let r = rule b i in
          let S = length b.sites in
          let known : (s : ℕ) → Memᴰ s (named (rule b i)) → s < length b.sites = λ s m. g.known i s (v.known i top.0) m in
          let there : (s : ℕ) → Memᴰ s (named (rule b i)) → 0 < state σ.states s =
          λ s m. reached b g n σ w v i top.0 done (suc s) s (omega arith) (known s m) (g.sound i s (v.known i top.0) m) in
          let q = each_used b γ S S (use_site b) (uses_of r) (λ s m. (known s (named_uses r s m), site_used b g γ s S (known s (named_uses r s m)) (known s (named_uses r s m)))) (unlisted σ.states) v.sites (λ s m. there s (named_uses r s m)) (start γ σ.states e) in
          let bound : (s : ℕ) → Memᴰ s (uses_of r) → is_bound b (grown b γ (use_all b (uses_of (rule b i)) σ.states).lets) s ≡ true = λ s m. q.0.going.cover s (known s (named_uses r s m)) (q.1 s m) in
          rw p (and q.0.going.ok
          (and (and (all_from (is_bound b (grown b γ (use_all b (uses_of (rule b i)) σ.states).lets)) r.impure (λ s m. bound s (Memᴰ.append_left (r.result ∷ []) m))) (bound r.result (Memᴰ.append_right r.impure (Memᴰ.head refl)))) refl))

  pub block_safe : (n : ℕ) (σ : Scope) (w : List ℕ) → Frame b n σ w → (γ : List ℕ) → Cover γ σ.states → block_bound b γ (block b n σ w) ≡ true
  block_safe = built b g Bounds Binds bound_returns bound_step bound_match bound_equal
