-- The words of a book's tree are read back as that tree: every id is a site's or a rule's, and nesting is within its bound.
use Rattle.std.specs.Prelude.{◌≡◌, ◌⊎◌, Bool, false, ℕ, suc, ◌≤◌, ◌<◌, if◌then◌else◌}
use Rattle.std.proofs.Math.Path.{refl}
use Rattle.std.proofs.Common.{sym, ◌∙◌, ap, inl, inr, arith, lt-ltb, eq-eqb}
use Rattle.std.proofs.Math.Bool.{true}
use mathlib.Core.List.Memᴰ
use mathlib.Core.List.{List, [], ◌∷◌, map, Memᴰ}
use Rattle.std.proofs.Math.ListN.{length}
use Rattle.std.proofs.lemmas.List.{length-map}
use Rattle.definition.specs.Lists.{upto, all, first, keep_first}
use Rattle.laws.specs.Tests.{and}
use Rattle.laws.specs.Ranges.{from_length}
use Rattle.laws.specs.Members.{all_from, from_bounds}
use Rattle.definition.specs.Book.{Book, Pattern, Constraint, rule, constrains, pattern_on, linked}
use Rattle.definition.specs.Tree.{Block, Flow, step, match, equal}
use Rattle.definition.specs.Scope.{Scope, inside, use_all}
use Rattle.definition.specs.Choice.{Test, on, same, counted, deferred}
use Rattle.definition.specs.Plan.{tested, returns, return_steps, rank, ranked, outranks, patterns, asking, places, arms, block, uses_of, after, lets_of, place_at, stands_at}
use Rattle.definition.specs.Accept.{pattern_ok, named}
use Rattle.theorems.specs.Partition.{no_higher}
use Rattle.theorems.specs.Accepted.{Good}
use Rattle.theorems.specs.Classes.{pair}
use Rattle.theorems.specs.RightSteps.{constrained}
use Rattle.theorems.specs.Patterns.{patterns_from}
use Rattle.theorems.specs.Frame.{Frame, Done, named_uses}
use Rattle.theorems.specs.Built.{Ready, built}
use Rattle.definition.specs.Read.{id_ok, place_ok}
use Rattle.theorems.specs.LetLists.{sites_low}
use Rattle.theorems.specs.ReadBack.{number_ok, well_formed, flow_well_formed, arms_well_formed}

id_fits : (x : ℕ) → x < 252 → id_ok x ≡ true
unfolding id_ok
id_fits x h = lt-ltb x 252 h

pub rank_in : (above : ℕ → ℕ → Bool) (i x : ℕ) (l : List ℕ) → Memᴰ x (rank above i l) → (x ≡ i) ⊎ Memᴰ x l
rank_in above i x [] m = Memᴰ.cases_cons m
rank_in above i x (j ∷ js) m = go (above j i) (rank_in above i x js) m
  where
    deeper : (x ≡ i) ⊎ Memᴰ x js → (x ≡ i) ⊎ Memᴰ x (j ∷ js)
    deeper (inl e) = inl e
    deeper (inr n) = inr (Memᴰ.tail n)

    two : (Memᴰ x (rank above i js) → (x ≡ i) ⊎ Memᴰ x js) → (x ≡ j) ⊎ Memᴰ x (rank above i js) → (x ≡ i) ⊎ Memᴰ x (j ∷ js)
    two rec (inl e) = inr (Memᴰ.head e)
    two rec (inr n) = deeper (rec n)

    go : (t : Bool) → (Memᴰ x (rank above i js) → (x ≡ i) ⊎ Memᴰ x js) → Memᴰ x (if◌then◌else◌ t (j ∷ rank above i js) (i ∷ j ∷ js)) → (x ≡ i) ⊎ Memᴰ x (j ∷ js)
    go true rec n = two rec (Memᴰ.cases_cons n)
    go false rec n = Memᴰ.cases_cons n

pub ranked_in : (above : ℕ → ℕ → Bool) (x : ℕ) (l : List ℕ) → Memᴰ x (ranked above l) → Memᴰ x l
ranked_in above x [] m = m
ranked_in above x (i ∷ js) m = go (rank_in above i x (ranked above js) m) (ranked_in above x js)
  where
    go : (x ≡ i) ⊎ Memᴰ x (ranked above js) → (Memᴰ x (ranked above js) → Memᴰ x js) → Memᴰ x (i ∷ js)
    go (inl e) rec = Memᴰ.head e
    go (inr n) rec = Memᴰ.tail (rec n)

first_in : (q : ℕ → Bool) (l : List ℕ) (n : ℕ) → ((x : ℕ) → Memᴰ x l → x < n) → n ≤ 252 → place_ok (first q l) ≡ true
first_in q [] n h k = refl
first_in q (x ∷ xs) n h k = go (q x) (first_in q xs n (λ y m. h y (Memᴰ.tail m)) k)
  where
    go : (t : Bool) → place_ok (first q xs) ≡ true → place_ok (keep_first t x (first q xs)) ≡ true
    go true r = id_fits x (let z = h x (Memᴰ.head refl) in omega arith)
    go false r = r

module _ (b : Book) (g : Good b) (few_sites : length b.sites ≤ 252) (few_rules : length b.rules ≤ 252)
    (patterns_ok : (i : ℕ) (c : Constraint) → i < length b.rules → Memᴰ c (rule b i).constraints → (pattern_ok c.pattern ≡ true) × (number_ok c.pattern.number ≡ true)) where
  ids_ok : (l : List ℕ) → ((x : ℕ) → Memᴰ x l → x < length b.sites) → all id_ok l ≡ true
  ids_ok l h = all_from id_ok l (λ x m. id_fits x (let z = h x m in omega arith))

  abbrev FineP : ℕ → Scope → List ℕ → Block → Type 0
  FineP n σ w k = well_formed k n ≡ true

  abbrev FineQ : ℕ → Scope → Test → List ℕ → Flow → Type 0
  FineQ n σ t w f = flow_well_formed f (suc n) ≡ true

  fine_steps : (n : ℕ) (l st : List ℕ) → ((i : ℕ) → Memᴰ i l → i < length b.rules) → well_formed (return_steps b st l) n ≡ true
  unfolding return_steps well_formed
  fine_steps n [] st h = refl
  fine_steps n (i ∷ js) st h =
      let k = h i (Memᴰ.head refl) in
      let r = rule b i in
      let known : (s : ℕ) → Memᴰ s (named (rule b i)) → s < length b.sites = λ s m. g.known i s k m in
      let res = known r.result (named_uses r r.result (unfold uses_of in Memᴰ.append_right r.impure (Memᴰ.head refl))) in
      and (ids_ok (use_all b (uses_of (rule b i)) st).lets (sites_low b g (uses_of r) (λ s m. known s (named_uses r s m)) st))
      (and (and (id_fits i (omega arith)) (id_fits r.result (omega arith))) (fine_steps n js _ (λ j m. h j (Memᴰ.tail m))))

  fine_returns : (n : ℕ) (σ : Scope) (w : List ℕ) → Frame b n σ w → ((i : ℕ) → Memᴰ i w → ((j : ℕ) → Memᴰ j w → no_higher b j i) → Done b σ i) → FineP n σ w (returns b σ w)
  unfolding returns
  fine_returns n σ w v h = fine_steps n (ranked (outranks b) w) σ.states (λ i m. v.known i (ranked_in (outranks b) i w m))

  fine_step : (n : ℕ) (σ : Scope) (w : List ℕ) (t : Test) → Frame b (suc n) σ w → ((s : ℕ) → Memᴰ s (tested t) → Ready b g σ s) → 0 < length (counted b t w)
      → (f : Flow) (k : Block) → FineQ n (after b σ t) t (counted b t w) f → FineP (suc n) (after b σ t) (deferred b t w) k → FineP (suc n) σ w (step (lets_of b σ t) f k)
  unfolding well_formed
  fine_step n σ w t v r c f k p q =
      and (ids_ok (lets_of b σ t) (sites_low b g (tested t) (λ s m. (r s m).inside_sites) σ.states)) (and p q)

  fine_equal : (n : ℕ) (σ : Scope) (w : List ℕ) (x y : ℕ) → x < y → Frame b (suc n) σ w → Ready b g σ x → Ready b g σ y → ((i : ℕ) → Memᴰ i w → linked (rule b i).pairs x y ≡ true)
      → (k : Block) → FineP n (record { states = σ.states; joined = pair x y ∷ σ.joined }) w k → FineQ n σ (same x y) w (equal x y k)
  unfolding well_formed
  fine_equal n σ w x y l v rx ry c k h = and (and (lt-ltb x y l) (id_fits y (let z = ry.inside_sites in omega arith))) h

  fine_match : (n : ℕ) (σ : Scope) (w : List ℕ) (s : ℕ) → Frame b (suc n) σ w → Ready b g σ s → ((i : ℕ) → Memᴰ i w → constrains (rule b i) s ≡ true)
      → (sub : Scope → List ℕ → Block) → ((p : Pattern) → Memᴰ p (patterns b s w) → FineP n (inside b σ s p) (asking b s p w) (sub (inside b σ s p) (asking b s p w)))
      → FineQ n σ (on s) w (match s (arms b sub σ s w (patterns b s w)))
  unfolding well_formed arms places place_at
  fine_match n σ w s v r c sub h = and (id_fits s (let z = r.inside_sites in omega arith)) (all_arms (patterns b s w) (λ p m. m))
    where
      places_ok : (p : Pattern) (ks : List ℕ) → all place_ok (map (place_at b s p) ks) ≡ true
      places_ok p [] = refl
      places_ok p (k ∷ ks) = and (first_in (stands_at b s p k) (upto (length b.sites)) (length b.sites) (λ x m. let z = from_bounds 0 (length b.sites) x m in omega arith) few_sites) (places_ok p ks)

      pattern_of : (p : Pattern) → Memᴰ p (patterns b s w) → (pattern_ok p ≡ true) × (number_ok p.number ≡ true)
      pattern_of p m =
          let j = patterns_from b s p w m in
          let q = constrained (rule b j.0) s (c j.0 j.1) in
          let e : p ≡ q.0.pattern = j.2 ∙ ap (pattern_on (rule b j.0)) (sym q.2) ∙ g.unique j.0 q.0 q.1 in
          rw e (patterns_ok j.0 q.0 (v.known j.0 j.1) q.1)

      all_arms : (ps : List Pattern) → ((p : Pattern) → Memᴰ p ps → Memᴰ p (patterns b s w)) → arms_well_formed (arms b sub σ s w ps) (suc n) ≡ true
      all_arms [] i = refl
      all_arms (p ∷ ps) i =
          let m = i p (Memᴰ.head refl) in
          let q = pattern_of p m in
          let l = length-map (upto p.fields) (place_at b s p) ∙ from_length 0 p.fields in
          and (and q.0 (places_ok p (upto p.fields))) (and (and q.1 (eq-eqb _ p.fields l)) (and (h p m) (all_arms ps (λ p' m'. i p' (Memᴰ.tail m')))))

  pub block_fine : (n : ℕ) (σ : Scope) (w : List ℕ) → Frame b n σ w → well_formed (block b n σ w) n ≡ true
  block_fine = built b g FineP FineQ fine_returns fine_step fine_match fine_equal
