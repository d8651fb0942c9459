-- Right answers of a Match's arms, of an Equal and of Returns.
use Rattle.std.specs.Prelude.{◌≡◌, refl, ◌⊎◌, Bool, ℕ, pos, eqb, if◌then◌else◌}
use Rattle.std.proofs.Math.Path.{sym, subst}
use Rattle.std.proofs.Common.{◌∙◌, inl, inr, arith}
use Rattle.std.proofs.Math.Bool.{true, false}
use mathlib.Core.List.Memᴰ
use mathlib.Core.List.{List, [], ◌∷◌, Memᴰ}
use Rattle.std.proofs.Math.Option.{Option, none, some}
use Rattle.std.proofs.Math.ListN.{get_or}
use borrow.Author.Tests.{eqb-true, eq-eqb, not-true, not-false}
use Rattle.definition.specs.Lists.{all}
use Rattle.laws.specs.Tests.{split, both, clash}
use Rattle.laws.specs.Members.{all_at, any_at, filter_in, filter_from}
use Rattle.laws.specs.Signed.{leℤ_refl, leℤ_trans, leℤ_other}
use Rattle.definition.specs.Book.{Book, Rule, Constraint, Pattern, rule, pattern_on, constrains, linked, is_on}
use Rattle.definition.specs.Plan.{patterns, asking, arms, rank, ranked, outranks, return_steps, returns, asks_for}
use Rattle.definition.specs.Tree.{Block}
use Rattle.definition.specs.Walk.{Hit, Reading, first_hit, hits, arm_hits, holds, agree, matches, constraint_holds, pair_holds}
use Rattle.definition.specs.Scope.{Scope, inside}
use Rattle.definition.specs.Choice.{at_least}
use Rattle.theorems.specs.Partition.{no_higher, Right}
use Rattle.theorems.specs.Accepted.{Good}
use Rattle.theorems.specs.Classes.{respected, linked_yes}
use Rattle.theorems.specs.Patterns.{pattern_path, pattern_same, patterns_from}
use Rattle.laws.specs.Orders.{same_number_equal}

-- WHAT A MATCHING RULE ASKS
pub constrained : (r : Rule) (s : ℕ) → constrains r s ≡ true → (c : Constraint) × Memᴰ c r.constraints × (c.site ≡ s)
unfolding constrains is_on
constrained r s e = let q = any_at (is_on s) r.constraints e in (q.0, q.1, eqb-true q.0.site s q.2)

module _ (b : Book) (d : Reading) (g : Good b) where
  pub asked : (i s : ℕ) → constrains (rule b i) s ≡ true → matches b d i ≡ true → holds d s (pattern_on (rule b i) s) ≡ true
  unfolding matches constraint_holds pair_holds
  asked i s e m =
      let q = constrained (rule b i) s e in
      let c = q.0 in
      let h : holds d c.site c.pattern ≡ true = all_at (constraint_holds d) (both (all (constraint_holds d) (rule b i).constraints) _ m).0 q.1 in
      let u : pattern_on (rule b i) c.site ≡ c.pattern = g.unique i c q.1 in
      subst (λ x. holds d x (pattern_on (rule b i) x) ≡ true) q.2 (rw u h)

  -- two patterns of one site that both hold are the same
  pub one_pattern : (i j s : ℕ) → constrains (rule b i) s ≡ true → constrains (rule b j) s ≡ true
      → holds d s (pattern_on (rule b i) s) ≡ true → holds d s (pattern_on (rule b j) s) ≡ true → pattern_on (rule b i) s ≡ pattern_on (rule b j) s
  unfolding holds
  one_pattern i j s ci cj hi hj =
      let x = constrained (rule b i) s ci in
      let y = constrained (rule b j) s cj in
      let c = x.0 in
      let e = y.0 in
      let pc : pattern_on (rule b i) s ≡ c.pattern = subst (λ z. pattern_on (rule b i) z ≡ c.pattern) x.2 (g.unique i c x.1) in
      let pe : pattern_on (rule b j) s ≡ e.pattern = subst (λ z. pattern_on (rule b j) z ≡ e.pattern) y.2 (g.unique j e y.1) in
      let hc = both (eqb (get_or d.kinds s 0) c.pattern.kind) _ (rw pc at hi) in
      let he = both (eqb (get_or d.kinds s 0) e.pattern.kind) _ (rw pe at hj) in
      let k : c.pattern.kind ≡ e.pattern.kind = sym (eqb-true (get_or d.kinds s 0) c.pattern.kind hc.0) ∙ eqb-true (get_or d.kinds s 0) e.pattern.kind he.0 in
      let n : c.pattern.number ≡ e.pattern.number = sym (same_number_equal (get_or d.numbers s (pos 0)) c.pattern.number hc.1) ∙ same_number_equal (get_or d.numbers s (pos 0)) e.pattern.number he.1 in
      pc ∙ pattern_path k n (g.fields i j c e x.1 y.1 (x.2 ∙ sym y.2) k n) ∙ sym pe

  -- A MATCH: if its arms' blocks are right for the rules that ask the arm's pattern, it is right for all
  module _ (sub : Scope → List ℕ → Block) (σ : Scope) (s : ℕ) (w : List ℕ) (c : (i : ℕ) → Memᴰ i w → constrains (rule b i) s ≡ true) where
    widen : (p : Pattern) → holds d s p ≡ true → (k : ℕ) → Memᴰ k w → p ≡ pattern_on (rule b k) s
        → (o : Option Hit) → Right b d (asking b s p w) o → Right b d w o
    unfolding asking asks_for
    widen p h k mk pk none r = λ j m. go j m (split (matches b d j))
      where
        go : (j : ℕ) → Memᴰ j w → (matches b d j ≡ true) ⊎ (matches b d j ≡ false) → matches b d j ≡ false
        go j m (inr e) = e
        go j m (inl e) =
            let q : pattern_on (rule b j) s ≡ p = one_pattern j k s (c j m) (c k mk) (asked j s (c j m) e) (rw (← pk) h) ∙ sym pk in
            r j (filter_from (asks_for b s p) m (rw q (pattern_same p)))
    widen p h k mk pk (some x) r = record {
      member = (filter_in (asks_for b s p) x.rule w r.member).0;
      fires = r.fires;
      highest = λ j m e.
          let q : pattern_on (rule b j) s ≡ p = one_pattern j k s (c j m) (c k mk) (asked j s (c j m) e) (rw (← pk) h) ∙ sym pk in
          r.highest j (filter_from (asks_for b s p) m (rw q (pattern_same p))) e;
      result = r.result;
    }

    pub arms_right : ((p : Pattern) → Memᴰ p (patterns b s w) → holds d s p ≡ true → Right b d (asking b s p w) (first_hit (hits d (sub (inside b σ s p) (asking b s p w)))))
        → (ps : List Pattern) → ((p : Pattern) → Memᴰ p ps → Memᴰ p (patterns b s w)) → ((j : ℕ) → Memᴰ j w → matches b d j ≡ true → Memᴰ (pattern_on (rule b j) s) ps)
        → Right b d w (first_hit (arm_hits d s (arms b sub σ s w ps)))
    unfolding arms arm_hits
    arms_right h [] sub_ps cover = λ j m. go j m (split (matches b d j))
      where
        go : (j : ℕ) → Memᴰ j w → (matches b d j ≡ true) ⊎ (matches b d j ≡ false) → matches b d j ≡ false
        go j m (inl e) = absurd (Memᴰ.not-nil (cover j m e))
        go j m (inr e) = e
    arms_right h (p ∷ ps) sub_ps cover = go (split (holds d s p)) (arms_right h ps)
      where
        go : (holds d s p ≡ true) ⊎ (holds d s p ≡ false)
            → (((q : Pattern) → Memᴰ q ps → Memᴰ q (patterns b s w)) → ((j : ℕ) → Memᴰ j w → matches b d j ≡ true → Memᴰ (pattern_on (rule b j) s) ps) → Right b d w (first_hit (arm_hits d s (arms b sub σ s w ps))))
            → Right b d w (first_hit (arm_hits d s (arms b sub σ s w (p ∷ ps))))
        go (inl e) rec =
            let m = sub_ps p (Memᴰ.head refl) in
            let k = patterns_from b s p w m in
            rw e (widen p e k.0 k.1 k.2 (first_hit (hits d (sub (inside b σ s p) (asking b s p w)))) (h p m e))
        go (inr e) rec = rw e (rec (λ q m. sub_ps q (Memᴰ.tail m)) (λ j m f. later j m f (Memᴰ.cases_cons (cover j m f))))
          where
            later : (j : ℕ) → Memᴰ j w → matches b d j ≡ true → (pattern_on (rule b j) s ≡ p) ⊎ Memᴰ (pattern_on (rule b j) s) ps → Memᴰ (pattern_on (rule b j) s) ps
            later j m f (inl q) = clash (asked j s (c j m) f) (rw q e)
            later j m f (inr n) = n

  -- AN EQUAL
  pub paired : (i x y : ℕ) → linked (rule b i).pairs x y ≡ true → matches b d i ≡ true → agree d x y ≡ true
  unfolding agree matches constraint_holds pair_holds
  paired i x y e m =
      let h = (both (all (constraint_holds d) (rule b i).constraints) _ m).1 in
      eq-eqb (get_or d.identities x 0) (get_or d.identities y 0)
      (respected (λ z. get_or d.identities z 0) (rule b i).pairs (λ p n. eqb-true (get_or d.identities p.a 0) (get_or d.identities p.b 0) (all_at (pair_holds d) h n)) x y (linked_yes (rule b i).pairs x y e))

  pub equal_right : (w : List ℕ) (x y : ℕ) (k : Block) → ((i : ℕ) → Memᴰ i w → linked (rule b i).pairs x y ≡ true)
      → (agree d x y ≡ true → Right b d w (first_hit (hits d k))) → Right b d w (first_hit (if◌then◌else◌ (agree d x y) (hits d k) []))
  equal_right w x y k h r = go (split (agree d x y))
    where
      go : (agree d x y ≡ true) ⊎ (agree d x y ≡ false) → Right b d w (first_hit (if◌then◌else◌ (agree d x y) (hits d k) []))
      go (inl e) = rw e (r e)
      go (inr e) = rw e (λ j m. none_fires j m (split (matches b d j)))
        where
          none_fires : (j : ℕ) → Memᴰ j w → (matches b d j ≡ true) ⊎ (matches b d j ≡ false) → matches b d j ≡ false
          none_fires j m (inl f) = clash (paired j x y (h j m) f) e
          none_fires j m (inr f) = f

-- RETURNS: the first is of the highest priority
module _ (b : Book) where
  rank_some : (t : Bool) (i : ℕ) (j : ℕ) (js r : List ℕ) → if◌then◌else◌ t (j ∷ r) (i ∷ j ∷ js) ≡ [] → ⊥
  rank_some true i j js r e = let z : ◌≡◌ {A = ℕ} 0 1 = cc in omega arith
  rank_some false i j js r e = let z : ◌≡◌ {A = ℕ} 0 1 = cc in omega arith

  rank_cons : (i : ℕ) (l : List ℕ) → rank (outranks b) i l ≡ [] → ⊥
  rank_cons i [] e = let z : ◌≡◌ {A = ℕ} 0 1 = cc in omega arith
  rank_cons i (j ∷ js) e = rank_some (outranks b j i) i j js (rank (outranks b) i js) e

  ranked_empty : (w : List ℕ) (j : ℕ) → ranked (outranks b) w ≡ [] → Memᴰ j w → ⊥
  ranked_empty [] j e m = Memᴰ.not-nil m
  ranked_empty (x ∷ xs) j e m = rank_cons x (ranked (outranks b) xs) e

  pub ranked_first : (w : List ℕ) (i : ℕ) (js : List ℕ) → ranked (outranks b) w ≡ i ∷ js → Memᴰ i w × ((j : ℕ) → Memᴰ j w → no_higher b j i)
  ranked_first [] i js e = let z : ◌≡◌ {A = ℕ} 0 1 = cc in absurd (omega arith)
  ranked_first (k ∷ ks) i js e = go (ranked (outranks b) ks) refl (ranked_first ks)
    where
      go : (l : List ℕ) → ranked (outranks b) ks ≡ l
          → ((x : ℕ) (xs : List ℕ) → ranked (outranks b) ks ≡ x ∷ xs → Memᴰ x ks × ((j : ℕ) → Memᴰ j ks → no_higher b j x))
          → Memᴰ i (k ∷ ks) × ((j : ℕ) → Memᴰ j (k ∷ ks) → no_higher b j i)
      go [] p rec = (Memᴰ.head i_k, λ j m. top j (Memᴰ.cases_cons m))
        where
          i_k : i ≡ k
          i_k = let f : k ∷ [] ≡ i ∷ js = rw p at e in cc

          top : (j : ℕ) → (j ≡ k) ⊎ Memᴰ j ks → no_higher b j i
          top j (inl q) = rw (q, i_k) (leℤ_refl (rule b k).priority)
          top j (inr n) = absurd (ranked_empty ks j p n)
      go (x ∷ xs) p rec = pick (split (outranks b x k))
        where
          r : Memᴰ x ks × ((j : ℕ) → Memᴰ j ks → no_higher b j x)
          r = rec x xs p

          pick : (outranks b x k ≡ true) ⊎ (outranks b x k ≡ false) → Memᴰ i (k ∷ ks) × ((j : ℕ) → Memᴰ j (k ∷ ks) → no_higher b j i)
          pick (inl q) = (Memᴰ.tail (Memᴰ.cast i_x r.0), λ j m. top j (Memᴰ.cases_cons m))
            where
              i_x : i ≡ x
              i_x = let f : x ∷ rank (outranks b) k xs ≡ i ∷ js = rw (p, q) at e in cc

              top : (j : ℕ) → (j ≡ k) ⊎ Memᴰ j ks → no_higher b j i
              top j (inl n) = rw (n, i_x) (leℤ_other (rule b x).priority (rule b k).priority (not-true _ (unfold outranks at_least in q)))
              top j (inr n) = rw i_x (r.1 j n)
          pick (inr q) = (Memᴰ.head i_k, λ j m. top j (Memᴰ.cases_cons m))
            where
              i_k : i ≡ k
              i_k = let f : k ∷ x ∷ xs ≡ i ∷ js = rw (p, q) at e in cc

              top : (j : ℕ) → (j ≡ k) ⊎ Memᴰ j ks → no_higher b j i
              top j (inl n) = rw (n, i_k) (leℤ_refl (rule b k).priority)
              top j (inr n) = rw i_k (leℤ_trans (rule b j).priority (rule b x).priority (rule b k).priority (r.1 j n) (not-false _ (unfold outranks at_least in q)))

-- if the rules of highest priority match, the Returns are right
pub returns_right : (b : Book) (d : Reading) (σ : Scope) (w : List ℕ)
    → ((i : ℕ) → Memᴰ i w → ((j : ℕ) → Memᴰ j w → no_higher b j i) → matches b d i ≡ true) → Right b d w (first_hit (hits d (returns b σ w)))
unfolding returns return_steps hits
returns_right b d σ w h = go (ranked (outranks b) w) refl
  where
    go : (l : List ℕ) → ranked (outranks b) w ≡ l → Right b d w (first_hit (hits d (return_steps b σ.states (ranked (outranks b) w))))
    go [] p = rw p (λ j m. absurd (ranked_empty b w j p m))
    go (i ∷ js) p =
        let r = ranked_first b w i js p in
        rw p (record { member = r.0; fires = h i r.0 r.1; highest = λ j m e. r.1 j m; result = refl })
