-- Every site that a planned tree names is the book's.
use Rattle.std.specs.Prelude.{◌≡◌, refl, Bool, true, false, ℕ, suc, ◌<◌, length}
use mathlib.Core.List.Memᴰ
use mathlib.Core.List.{List, [], ◌∷◌, ◌++◌, map, Memᴰ}
use Rattle.std.proofs.Math.Option.{Option, none, some}
use Rattle.std.proofs.Common.{arith}
use Rattle.definition.specs.Lists.{upto, first, keep_first}
use Rattle.definition.specs.Book.{Book, Pattern, rule, constrains, linked}
use Rattle.definition.specs.Tree.{Block, Flow, step, match, equal}
use Rattle.definition.specs.Scope.{Scope, inside, use_all}
use Rattle.definition.specs.Choice.{Test, on, same, counted, deferred}
use Rattle.definition.specs.Plan.{tested, uses_of, returns, return_steps, ranked, outranks, patterns, asking, places, place_at, stands_at, arms, block, after, lets_of}
use Rattle.definition.specs.Walk.{placed_in, sites_in, flow_sites, arm_sites}
use Rattle.laws.specs.Members.{from_bounds}
use Rattle.laws.specs.Ascending.{Within, within_append, within_cons, within_none}
use Rattle.theorems.specs.Partition.{no_higher}
use Rattle.theorems.specs.Accepted.{Good}
use Rattle.theorems.specs.Classes.{pair}
use Rattle.theorems.specs.Frame.{Frame, Done, named_uses}
use Rattle.theorems.specs.Built.{Ready, built}
use Rattle.theorems.specs.LetLists.{sites_low}
use Rattle.theorems.specs.WellFormed.{ranked_in}

-- the first that passes is one of the list
first_within : {n : ℕ} (q : ℕ → Bool) (l : List ℕ) → Within n l → Within n (placed_in (first q l ∷ []))
first_within q [] h = within_none
first_within {n} q (y ∷ l) h = go (q y) (first_within q l (λ x m. h x (Memᴰ.tail m)))
  where
    go : (t : Bool) → Within n (placed_in (first q l ∷ [])) → Within n (placed_in (keep_first t y (first q l) ∷ []))
    go true r = within_cons (h y (Memᴰ.head refl)) within_none
    go false r = r

placed_cons : {n : ℕ} (o : Option ℕ) (ps : List (Option ℕ)) → Within n (placed_in (o ∷ [])) → Within n (placed_in ps) → Within n (placed_in (o ∷ ps))
placed_cons none ps p q = q
placed_cons (some s) ps p q = within_cons (p s (Memᴰ.head refl)) q

module _ (b : Book) (g : Good b) where
  abbrev S : ℕ
  S = length b.sites

  abbrev Names : ℕ → Scope → List ℕ → Block → Type 0
  Names n σ w k = Within S (sites_in k)

  abbrev FlowNames : ℕ → Scope → Test → List ℕ → Flow → Type 0
  FlowNames n σ t w f = Within S (flow_sites f)

  known : (i : ℕ) → i < length b.rules → Within S (uses_of (rule b i))
  known i h x m = g.known i x h (named_uses (rule b i) x m)

  result_known : (i : ℕ) → i < length b.rules → (rule b i).result < S
  unfolding uses_of
  result_known i h = known i h (rule b i).result (Memᴰ.append_right (rule b i).impure (Memᴰ.head refl))

  return_names : (l st : List ℕ) → ((i : ℕ) → Memᴰ i l → i < length b.rules) → Within S (sites_in (return_steps b st l))
  unfolding return_steps sites_in
  return_names [] st h = within_none
  return_names (i ∷ js) st h =
      let k = h i (Memᴰ.head refl) in
      within_append ((use_all b (uses_of (rule b i)) st).lets ++ ((rule b i).result ∷ [])) (sites_in (return_steps b (use_all b (uses_of (rule b i)) st).states js))
      (within_append (use_all b (uses_of (rule b i)) st).lets ((rule b i).result ∷ []) (sites_low b g (uses_of (rule b i)) (known i k) st) (within_cons (result_known i k) within_none))
      (return_names js (use_all b (uses_of (rule b i)) st).states (λ j m. h j (Memᴰ.tail m)))

  names_returns : (n : ℕ) (σ : Scope) (w : List ℕ) → Frame b n σ w → ((i : ℕ) → Memᴰ i w → ((j : ℕ) → Memᴰ j w → no_higher b j i) → Done b σ i) → Names n σ w (returns b σ w)
  unfolding returns
  names_returns n σ w v h = return_names (ranked (outranks b) w) σ.states (λ i m. v.known i (ranked_in (outranks b) i w m))

  names_step : (n : ℕ) (σ : Scope) (w : List ℕ) (t : Test) → Frame b (suc n) σ w → ((s : ℕ) → Memᴰ s (tested t) → Ready b g σ s) → 0 < length (counted b t w)
      → (f : Flow) (k : Block) → FlowNames n (after b σ t) t (counted b t w) f → Names (suc n) (after b σ t) (deferred b t w) k → Names (suc n) σ w (step (lets_of b σ t) f k)
  unfolding sites_in
  names_step n σ w t v r c f k p q =
      within_append (lets_of b σ t ++ flow_sites f) (sites_in k)
      (within_append (lets_of b σ t) (flow_sites f) (sites_low b g (tested t) (λ s m. (r s m).inside_sites) σ.states) p) q

  names_equal : (n : ℕ) (σ : Scope) (w : List ℕ) (x y : ℕ) → x < y → Frame b (suc n) σ w → Ready b g σ x → Ready b g σ y → ((i : ℕ) → Memᴰ i w → linked (rule b i).pairs x y ≡ true)
      → (k : Block) → Names n (record { states = σ.states; joined = pair x y ∷ σ.joined }) w k → FlowNames n σ (same x y) w (equal x y k)
  unfolding sites_in
  names_equal n σ w x y l v rx ry c k h = within_cons rx.inside_sites (within_cons ry.inside_sites h)

  names_match : (n : ℕ) (σ : Scope) (w : List ℕ) (s : ℕ) → Frame b (suc n) σ w → Ready b g σ s → ((i : ℕ) → Memᴰ i w → constrains (rule b i) s ≡ true)
      → (sub : Scope → List ℕ → Block) → ((p : Pattern) → Memᴰ p (patterns b s w) → Names n (inside b σ s p) (asking b s p w) (sub (inside b σ s p) (asking b s p w)))
      → FlowNames n σ (on s) w (match s (arms b sub σ s w (patterns b s w)))
  unfolding sites_in arms places place_at
  names_match n σ w s v r c sub h = within_cons r.inside_sites (all_arms (patterns b s w) (λ p m. m))
    where
      placed : (p : Pattern) (ks : List ℕ) → Within S (placed_in (map (place_at b s p) ks))
      placed p [] = within_none
      placed p (k ∷ ks) = placed_cons (place_at b s p k) (map (place_at b s p) ks) (first_within (stands_at b s p k) (upto S) (λ x m. let z = from_bounds 0 S x m in omega arith)) (placed p ks)

      all_arms : (ps : List Pattern) → ((p : Pattern) → Memᴰ p ps → Memᴰ p (patterns b s w)) → Within S (arm_sites (arms b sub σ s w ps))
      all_arms [] i = within_none
      all_arms (p ∷ ps) i =
          within_append (placed_in (places b s p) ++ sites_in (sub (inside b σ s p) (asking b s p w))) (arm_sites (arms b sub σ s w ps))
          (within_append (placed_in (places b s p)) (sites_in (sub (inside b σ s p) (asking b s p w))) (placed p (upto p.fields)) (h p (i p (Memᴰ.head refl))))
          (all_arms ps (λ q m. i q (Memᴰ.tail m)))

  pub block_names : (n : ℕ) (σ : Scope) (w : List ℕ) → Frame b n σ w → Within S (sites_in (block b n σ w))
  block_names = built b g Names FlowNames names_returns names_step names_match names_equal
