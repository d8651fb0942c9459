-- What holds of every block of a tree, whatever is read.
use Rattle.std.specs.Prelude.{◌≡◌, refl, ◌⊎◌, Bool, false, not, eqb, length, set}
use Rattle.std.proofs.Math.Path.{sym, ap}
use Rattle.std.proofs.Common.{◌∙◌, subst, inl, inr, arith, eqb-true, eq-eqb, ne_eqb}
use Rattle.std.proofs.Math.Bool.{true}
use mathlib.Core.List.{append_assoc, List, [], ◌∷◌, ◌++◌, map, Memᴰ}
use Prim.Native.Nat.{ℕ, zero, suc, ◌+◌, ◌≤◌, ◌<◌}
use Rattle.std.proofs.Math.Dec.{ltb}
use Rattle.std.proofs.lemmas.Bool.{eqb-false, not-true}
use Rattle.definition.specs.Lists.{every, filter, all, flat, heads, same_number, ◌implies◌}
use Rattle.laws.specs.Tests.{split, every_at, both, and}
use Rattle.laws.specs.Members.{all_at, any_at, any_from, filter_in, filter_from, mem_length, filter_le, filter_lt, mem_map, mem_flat, heads_in}
use Rattle.definition.specs.Book.{Book, Site, Rule, Constraint, Pattern, Pair, site, rule, pattern_on, constrains, label, linked, is_on}
use Rattle.definition.specs.Plan.{asking, asks_for, uses_of}
use Rattle.definition.specs.Scope.{state, Scope, binds, worked_out, emit_bound, inside, arm_states}
use Rattle.definition.specs.Choice.{testable, Test, on, same, has, is_open, tests}
use Rattle.definition.specs.Accept.{grants, granted, sound_below, named, ends, site_of}
use Rattle.theorems.specs.States.{Same}
use Rattle.theorems.specs.ArmStates.{Sites, sites_same, Entered, entered}
use Rattle.theorems.specs.Classes.{respected, pair, spare, spare_falls, spare_none, linked_yes, yes_linked}
use Rattle.theorems.specs.RightSteps.{constrained}
use Rattle.theorems.specs.Patterns.{same_pattern_equal}
use Rattle.theorems.specs.Choices.{known_listed}
use Rattle.theorems.specs.Accepted.{Good}
use Rattle.laws.specs.Orders.{same_number_equal, same_number_self}

-- WHAT HOLDS OF EVERY BLOCK: n is the nesting that is left
unfoldable pub untested_at : List ℕ → Constraint → Bool
untested_at st c = not (eqb (state st c.site) 3)

unfoldable pub untested : List ℕ → List Constraint → ℕ
untested st cs = length (filter (untested_at st) cs)

unfoldable pub left : Scope → Rule → ℕ
left σ r = untested σ.states r.constraints + spare σ.joined r.pairs

pub record Frame (b : Book) (n : ℕ) (σ : Scope) (w : List ℕ) : Type 0 where
  pub sites : Sites b σ.states
  pub known : (i : ℕ) → Memᴰ i w → i < length b.rules
  -- a Matched site is constrained by every rule
  pub marked : (i : ℕ) → Memᴰ i w → (s : ℕ) → state σ.states s ≡ 3 → constrains (rule b i) s ≡ true
  -- a kind 7 site that a rule may use is there once its source is Matched
  pub bound : (i : ℕ) → Memᴰ i w → (x : ℕ) → (site b x).kind ≡ 7 → granted (rule b i) (site b x) ≡ true → (y : ℕ) → Memᴰ y (site b x).sources → state σ.states y ≡ 3 → 0 < state σ.states x
  pub room : (i : ℕ) → Memᴰ i w → left σ (rule b i) ≤ n

pub frame_less : {b : Book} {n : ℕ} {σ : Scope} {w : List ℕ} (v : List ℕ) → ((i : ℕ) → Memᴰ i v → Memᴰ i w) → Frame b n σ w → Frame b n σ v
frame_less v h k = record {
  sites = k.sites;
  known = λ i m. k.known i (h i m);
  marked = λ i m. k.marked i (h i m);
  bound = λ i m. k.bound i (h i m);
  room = λ i m. k.room i (h i m);
}

untested_le : (st st' : List ℕ) → ((x : ℕ) → state st x ≡ 3 → state st' x ≡ 3) → (cs : List Constraint) → untested st' cs ≤ untested st cs
unfolding untested untested_at
untested_le st st' h cs = filter_le (untested_at st) (untested_at st') back cs
  where
    back : (c : Constraint) → not (eqb (state st' c.site) 3) ≡ true → not (eqb (state st c.site) 3) ≡ true
    back c e = rw (ne_eqb (state st c.site) 3 (λ q. eqb-false (state st' c.site) 3 (not-true _ e) (h c.site q)))

untested_lt : (st st' : List ℕ) → ((x : ℕ) → state st x ≡ 3 → state st' x ≡ 3) → (cs : List Constraint) (c : Constraint) → Memᴰ c cs
    → (state st c.site ≡ 3 → ⊥) → state st' c.site ≡ 3 → untested st' cs < untested st cs
unfolding untested untested_at
untested_lt st st' h cs c m k l =
    filter_lt (untested_at st) (untested_at st') back c cs m (rw (ne_eqb (state st c.site) 3 k)) (rw (eq-eqb (state st' c.site) 3 l))
  where
    back : (e : Constraint) → not (eqb (state st' e.site) 3) ≡ true → not (eqb (state st e.site) 3) ≡ true
    back e f = rw (ne_eqb (state st e.site) 3 (λ q. eqb-false (state st' e.site) 3 (not-true _ f) (h e.site q)))

pub frame_same : {b : Book} {n : ℕ} {σ : Scope} {w : List ℕ} (st : List ℕ) → Same σ.states st → Frame b n σ w → Frame b n (record { states = st; joined = σ.joined }) w
unfolding left
frame_same {b} {σ = σ} st e k = record {
  sites = sites_same b e k.sites;
  known = k.known;
  marked = λ i m s h. k.marked i m s (e.back s h);
  bound = λ i m x f g y l h. e.up x (k.bound i m x f g y l (e.back y h));
  room = λ i m. let h = untested_le σ.states st e.three (rule b i).constraints in let r = k.room i m in omega arith;
}

-- A RULE WITH NO TEST LEFT
pub record Done (b : Book) (σ : Scope) (i : ℕ) : Type 0 where
  pub ons : (s : ℕ) → s < length b.sites → 0 < state σ.states s → constrains (rule b i) s ≡ true → state σ.states s ≡ 3
  pub sames : (x y : ℕ) → x < y → y < length b.sites → testable σ.states x ≡ true → testable σ.states y ≡ true
      → label (rule b i).pairs x ≡ label (rule b i).pairs y → label σ.joined x ≡ label σ.joined y

pub is_testable : (st : List ℕ) (s : ℕ) → 0 < state st s → (state st s ≡ 3 → ⊥) → testable st s ≡ true
is_testable st s h k = and (ap not (ne_eqb (state st s) 0 (λ e. omega arith))) (ap not (ne_eqb (state st s) 3 k))

pub testable_parts : (st : List ℕ) (s : ℕ) → testable st s ≡ true → (0 < state st s) × (state st s ≡ 3 → ⊥)
testable_parts st s e =
    let p = both (not (eqb (state st s) 0)) _ e in
    let q = eqb-false (state st s) 0 (not-true _ p.0) in
    (omega arith, eqb-false (state st s) 3 (not-true _ p.1))

decide_three : (st : List ℕ) (s : ℕ) → (state st s ≡ 3) ⊎ (state st s ≡ 3 → ⊥)
decide_three st s = go (split (eqb (state st s) 3))
  where
    go : (eqb (state st s) 3 ≡ true) ⊎ (eqb (state st s) 3 ≡ false) → (state st s ≡ 3) ⊎ (state st s ≡ 3 → ⊥)
    go (inl e) = inl (eqb-true (state st s) 3 e)
    go (inr e) = inr (eqb-false (state st s) 3 e)

-- no open test of the rule is left
pub done_closed : (b : Book) (σ : Scope) (i : ℕ) → ((t : Test) → Memᴰ t (tests b) → is_open σ t ≡ true → has (rule b i) t ≡ true → ⊥) → Done b σ i
unfolding is_open has
done_closed b σ i h = record {
  ons = λ s l p c. pick s l p c (decide_three σ.states s);
  sames = λ x y l k p q e. join x y l k p q e (split (linked σ.joined x y));
}
  where
    pick : (s : ℕ) → s < length b.sites → 0 < state σ.states s → constrains (rule b i) s ≡ true → (state σ.states s ≡ 3) ⊎ (state σ.states s ≡ 3 → ⊥) → state σ.states s ≡ 3
    pick s l p c (inl e) = e
    pick s l p c (inr e) = absurd (h (on s) (known_listed b (on s) l) (is_testable σ.states s p e) c)

    join : (x y : ℕ) → x < y → y < length b.sites → testable σ.states x ≡ true → testable σ.states y ≡ true → label (rule b i).pairs x ≡ label (rule b i).pairs y
        → (linked σ.joined x y ≡ true) ⊎ (linked σ.joined x y ≡ false) → label σ.joined x ≡ label σ.joined y
    join x y l k p q e (inl f) = linked_yes σ.joined x y f
    join x y l k p q e (inr f) = absurd (h (same x y) (known_listed b (same x y) (l, k)) (and (and p q) (ap not f)) (yes_linked (rule b i).pairs x y e))

-- nothing of the rule is left
pub done_none : (b : Book) (σ : Scope) (i : ℕ) → left σ (rule b i) ≤ 0 → Done b σ i
unfolding left untested untested_at
done_none b σ i h = record {
  ons = λ s l p c. pick s (constrained (rule b i) s c) (decide_three σ.states s);
  sames = λ x y l k p q e. respected (label σ.joined) (rule b i).pairs (spare_none (rule b i).pairs σ.joined (omega arith)) x y e;
}
  where
    pick : (s : ℕ) → (c : Constraint) × Memᴰ c (rule b i).constraints × (c.site ≡ s) → (state σ.states s ≡ 3) ⊎ (state σ.states s ≡ 3 → ⊥) → state σ.states s ≡ 3
    pick s c (inl e) = e
    pick s c (inr e) =
        let m = filter_from (λ k. not (eqb (state σ.states k.site) 3)) c.1 (rw (ne_eqb (state σ.states c.0.site) 3 (λ q. e (subst (λ z. state σ.states z ≡ 3) c.2 q)))) in
        let z = mem_length m in
        absurd (omega arith)

pub named_constraint : (r : Rule) (c : Constraint) → Memᴰ c r.constraints → Memᴰ c.site (named r)
unfolding named site_of ends
named_constraint r c m = mathlib.Core.List.Memᴰ.append_left _ (mathlib.Core.List.Memᴰ.append_left _ (mathlib.Core.List.Memᴰ.append_left _ (mem_map site_of c r.constraints m)))

pub named_pair : (r : Rule) (p : Pair) → Memᴰ p r.pairs → Memᴰ p.a (named r) × Memᴰ p.b (named r)
unfolding named site_of ends
named_pair r p m = (
  mathlib.Core.List.Memᴰ.append_left _ (mathlib.Core.List.Memᴰ.append_left _ (mathlib.Core.List.Memᴰ.append_right (map site_of r.constraints) (mem_flat ends p.a p r.pairs m (mathlib.Core.List.Memᴰ.head refl)))),
  mathlib.Core.List.Memᴰ.append_left _ (mathlib.Core.List.Memᴰ.append_left _ (mathlib.Core.List.Memᴰ.append_right (map site_of r.constraints) (mem_flat ends p.b p r.pairs m (mathlib.Core.List.Memᴰ.tail (mathlib.Core.List.Memᴰ.head refl))))),
)

-- what a Return uses
pub named_uses : (r : Rule) (s : ℕ) → Memᴰ s (uses_of r) → Memᴰ s (named r)
unfolding named uses_of site_of ends
named_uses r s m =
    subst (Memᴰ s) (sym (append_assoc (map site_of r.constraints ++ flat ends r.pairs) r.impure (r.result ∷ [])))
    (mathlib.Core.List.Memᴰ.append_right (map site_of r.constraints ++ flat ends r.pairs) m)

module _ (b : Book) (g : Good b) where
  -- a site that the rule reaches is not Unavailable
  pub reached : (n : ℕ) (σ : Scope) (w : List ℕ) (v : Frame b n σ w) (i : ℕ) → Memᴰ i w → Done b σ i
      → (k s : ℕ) → s < k → s < length b.sites → sound_below k b (rule b i) s ≡ true → 0 < state σ.states s
  unfolding sound_below granted grants
  reached n σ w v i m o zero s h l e = absurd (omega arith)
  reached n σ w v i m o (suc k) s h l e = go (split (eqb (site b s).kind 7)) (reached n σ w v i m o k)
    where
      below_s : all (sound_below k b (rule b i)) (site b s).sources ≡ true
      below_s = (both (◌implies◌ (eqb (site b s).kind 7) (granted (rule b i) (site b s))) _ e).1

      go : (eqb (site b s).kind 7 ≡ true) ⊎ (eqb (site b s).kind 7 ≡ false)
          → ((r : ℕ) → r < k → r < length b.sites → sound_below k b (rule b i) r ≡ true → 0 < state σ.states r) → 0 < state σ.states s
      go (inr q) rec =
          v.sites.closed s l (eqb-false (site b s).kind 7 q)
          (λ r n. let z = g.low s r n in rec r (omega arith) (omega arith) (all_at (sound_below k b (rule b i)) below_s n))
      go (inl q) rec =
          let gr : granted (rule b i) (site b s) ≡ true = rw q at (both (◌implies◌ (eqb (site b s).kind 7) (granted (rule b i) (site b s))) _ e).0 in
          let a = any_at (grants (site b s)) (rule b i).constraints gr in
          let y = a.0.site in
          let my : Memᴰ y (site b s).sources = heads_in y (site b s).sources (every_at _ 0 a.2) in
          let z : y < s = g.low s y my in
          let p : 0 < state σ.states y = rec y (omega arith) (omega arith) (all_at (sound_below k b (rule b i)) below_s my) in
          let c : constrains (rule b i) y ≡ true = unfold constrains is_on in any_from (is_on y) a.1 (eq-eqb y y refl) in
          v.bound i m s (eqb-true (site b s).kind 7 q) gr y my (o.ons y (omega arith) p c)

  -- INTO AN ARM
  grants_parts : (x : Site) (c : Constraint) → grants x c ≡ true → (heads c.site x.sources ≡ true) × (eqb c.pattern.kind x.pattern ≡ true) × (same_number c.pattern.number x.number ≡ true) × (ltb x.position c.pattern.fields ≡ true)
  unfolding grants
  grants_parts x c e = (every_at _ 0 e, every_at _ 1 e, every_at _ 2 e, every_at _ 3 e)

  granted_binds : (i s x : ℕ) (p : Pattern) → (site b x).kind ≡ 7 → granted (rule b i) (site b x) ≡ true → Memᴰ s (site b x).sources → pattern_on (rule b i) s ≡ p → binds s p (site b x) ≡ true
  unfolding granted binds every
  granted_binds i s x p k q ms e =
      let a = any_at (grants (site b x)) (rule b i).constraints q in
      let c = a.0 in
      let f = grants_parts (site b x) c a.2 in
      let cs : c.site ≡ s = g.lone x c.site s k (heads_in c.site (site b x).sources f.0) ms in
      let cp : c.pattern ≡ p = sym (g.unique i c a.1) ∙ ap (pattern_on (rule b i)) cs ∙ e in
      let kind : (site b x).pattern ≡ p.kind = sym (eqb-true c.pattern.kind (site b x).pattern f.1) ∙ ap (λ (r : Pattern). r.kind) cp in
      let number : (site b x).number ≡ p.number = sym (same_number_equal c.pattern.number (site b x).number f.2) ∙ ap (λ (r : Pattern). r.number) cp in
      and (eq-eqb (site b x).kind 7 k)
      (and (subst (λ r. heads r (site b x).sources ≡ true) cs f.0)
      (and (eq-eqb (site b x).pattern p.kind kind)
      (and (subst (λ r. same_number r p.number ≡ true) (sym number) (same_number_self p.number))
      (and (subst (λ (r : Pattern). ltb (site b x).position r.fields ≡ true) cp f.3) refl))))

  pub frame_arm : (n : ℕ) (σ : Scope) (w : List ℕ) (v : Frame b (suc n) σ w) (s : ℕ) (p : Pattern) → s < length b.sites → 0 < state σ.states s → (state σ.states s ≡ 3 → ⊥)
      → ((i : ℕ) → Memᴰ i w → constrains (rule b i) s ≡ true) → Frame b n (inside b σ s p) (asking b s p w)
  unfolding inside arm_states asking left asks_for
  frame_arm n σ w v s p l z z3 c = record {
    sites = e.sites;
    known = λ i m. v.known i (old i m);
    marked = λ i m x k. marking i m x (e.back x k);
    bound = λ i m x k q y my k3. bounding i m x k q y my (e.back y k3);
    room = λ i m. rooms i m (constrained (rule b i) s (c i (old i m)));
  }
    where
      e : Entered b σ.states s p (worked_out b (emit_bound b s p (set σ.states s 3)))
      e = entered b s p σ.states g v.sites l z z3

      old : (i : ℕ) → Memᴰ i (asking b s p w) → Memᴰ i w
      old i m = (filter_in (asks_for b s p) i w m).0

      asks_p : (i : ℕ) → Memᴰ i (asking b s p w) → pattern_on (rule b i) s ≡ p
      asks_p i m = same_pattern_equal (pattern_on (rule b i) s) p (filter_in (asks_for b s p) i w m).1

      marking : (i : ℕ) → Memᴰ i (asking b s p w) → (x : ℕ) → (x ≡ s) ⊎ (state σ.states x ≡ 3) → constrains (rule b i) x ≡ true
      marking i m x (inl q) = rw q (c i (old i m))
      marking i m x (inr q) = v.marked i (old i m) x q

      rooms : (i : ℕ) → Memᴰ i (asking b s p w) → (k : Constraint) × Memᴰ k (rule b i).constraints × (k.site ≡ s) → left (inside b σ s p) (rule b i) ≤ n
      rooms i m k =
          let q = untested_lt σ.states (worked_out b (emit_bound b s p (set σ.states s 3))) e.three (rule b i).constraints k.0 k.1 (λ f. z3 (subst (λ y. state σ.states y ≡ 3) k.2 f)) (rw k.2 e.here) in
          let r = v.room i (old i m) in
          omega arith

      bounding : (i : ℕ) → Memᴰ i (asking b s p w) → (x : ℕ) → (site b x).kind ≡ 7 → granted (rule b i) (site b x) ≡ true → (y : ℕ) → Memᴰ y (site b x).sources → (y ≡ s) ⊎ (state σ.states y ≡ 3)
          → 0 < state (worked_out b (emit_bound b s p (set σ.states s 3))) x
      bounding i m x k q y my (inr f) = e.up x (v.bound i (old i m) x k q y my f)
      bounding i m x k q y my (inl f) = e.bound x (granted_binds i s x p k q (mathlib.Core.List.Memᴰ.cast (sym f) my) (asks_p i m))

  pub frame_equal : (n : ℕ) (σ : Scope) (w : List ℕ) (v : Frame b (suc n) σ w) (x y : ℕ) → linked σ.joined x y ≡ false → ((i : ℕ) → Memᴰ i w → linked (rule b i).pairs x y ≡ true)
      → Frame b n (record { states = σ.states; joined = pair x y ∷ σ.joined }) w
  unfolding left linked
  frame_equal n σ w v x y a c = record {
    sites = v.sites;
    known = v.known;
    marked = v.marked;
    bound = v.bound;
    room = λ i m.
        let q = spare_falls (rule b i).pairs σ.joined (pair x y) (eqb-false (label σ.joined x) (label σ.joined y) a) (λ k f e. respected (label k) (rule b i).pairs e x y (linked_yes (rule b i).pairs x y (c i m))) in
        let r = v.room i m in
        omega arith;
  }
