-- Uses bind what they list, and so no block uses a site that is not bound.
use Rattle.std.specs.Prelude.{◌≡◌, ◌⊎◌, Bool, ◌&&◌, eqb}
use Rattle.std.proofs.Math.Path.{refl}
use Rattle.std.proofs.Common.{sym, ◌∙◌, subst, inl, inr, arith}
use Rattle.std.proofs.Math.Bool.{true, false}
use Rattle.std.proofs.lemmas.Bool.{false≢true}
use mathlib.Core.List.Memᴰ
use mathlib.Core.List.{List, [], ◌∷◌, ◌++◌, Memᴰ}
use Prim.Native.Nat.{ℕ, zero, suc, ◌≤◌, ◌<◌}
use Rattle.std.proofs.Math.Dec.{ltb}
use Rattle.std.proofs.Math.ListN.{length}
use borrow.Author.Tests.{eqb-true, eqb-false, eq-eqb, ne_eqb, ltb-true, ltb-false}
use Rattle.definition.specs.Lists.{all, any, each}
use Rattle.laws.specs.Tests.{split, both, and, one_of, or_left, or_right}
use Rattle.laws.specs.Members.{all_at, all_from, any_at, any_from}
use Rattle.definition.specs.Book.{Book, site}
use Rattle.definition.specs.Scope.{state, Use, never_listed, mark, add_let, use_below, use_site}
use Rattle.theorems.specs.States.{Same, same_refl, same_trans, other, at, mark_same}
use Rattle.theorems.specs.ArmStates.{Sites, sites_same}
use Rattle.definition.specs.Bound.{bound_below, is_bound, let_binds, grown, lets_bound}
use Rattle.theorems.specs.Accepted.{Good}

abbrev pub Sub : List ℕ → List ℕ → Type 0
Sub γ γ' = (x : ℕ) → Memᴰ x γ → Memᴰ x γ'

module _ (b : Book) where
  bound_mono : (n m : ℕ) (γ γ' : List ℕ) (s : ℕ) → n ≤ m → Sub γ γ' → bound_below n b γ s ≡ true → bound_below m b γ' s ≡ true
  unfolding bound_below
  bound_mono zero m γ γ' s l h e = absurd (false≢true e)
  bound_mono (suc n) zero γ γ' s l h e = absurd (omega arith)
  bound_mono (suc n) (suc m) γ γ' s l h e = go (one_of (any (eqb s) γ) _ e) (λ r. bound_mono n m γ γ' r (omega arith) h)
    where
      go : (any (eqb s) γ ≡ true) ⊎ (never_listed (site b s) && all (bound_below n b γ) (site b s).sources ≡ true)
          → ((r : ℕ) → bound_below n b γ r ≡ true → bound_below m b γ' r ≡ true) → bound_below (suc m) b γ' s ≡ true
      go (inl f) rec = let a = any_at (eqb s) γ f in or_left _ (any_from (eqb s) (h a.0 a.1) a.2)
      go (inr f) rec =
          let p = both (never_listed (site b s)) _ f in
          or_right (any (eqb s) γ') (and p.0 (all_from (bound_below m b γ') (site b s).sources (λ r k. rec r (all_at (bound_below n b γ) p.1 k))))

  pub bound_more : (γ γ' : List ℕ) (s : ℕ) → Sub γ γ' → is_bound b γ s ≡ true → is_bound b γ' s ≡ true
  unfolding is_bound
  bound_more γ γ' s h e = bound_mono (suc s) (suc s) γ γ' s (omega arith) h e

  pub bound_mem : (γ : List ℕ) (s : ℕ) → Memᴰ s γ → is_bound b γ s ≡ true
  unfolding is_bound bound_below
  bound_mem γ s m = or_left _ (any_from (eqb s) m (eq-eqb s s refl))

  bound_free : Good b → (γ : List ℕ) (s : ℕ) → never_listed (site b s) ≡ true → ((r : ℕ) → Memᴰ r (site b s).sources → is_bound b γ r ≡ true) → is_bound b γ s ≡ true
  unfolding is_bound bound_below
  bound_free g γ s e h =
      or_right (any (eqb s) γ) (and e (all_from (bound_below s b γ) (site b s).sources (λ r m. bound_mono (suc r) s γ γ r (g.low s r m) (λ x k. k) (h r m))))

  grown_snoc : (γ l : List ℕ) (s : ℕ) → grown b γ (l ++ (s ∷ [])) ≡ let_binds b s (grown b γ l)
  grown_snoc γ [] s = refl
  grown_snoc γ (r ∷ l) s = grown_snoc (let_binds b r γ) l s

  lets_snoc : (γ l : List ℕ) (s : ℕ) → lets_bound b γ l ≡ true → all (is_bound b (grown b γ l)) (site b s).sources ≡ true → lets_bound b γ (l ++ (s ∷ [])) ≡ true
  lets_snoc γ [] s e f = and f refl
  lets_snoc γ (r ∷ l) s e f =
      let p = both (all (is_bound b γ) (site b r).sources) _ e in
      and p.0 (lets_snoc (let_binds b r γ) l s p.1 f)

  -- WHAT HOLDS WHILE SITES ARE USED: the lets so far are in order, and what is Emitted no_higher k is bound
  pub record Going (γ : List ℕ) (k : ℕ) (u : Use) : Type 0 where
    pub ok : lets_bound b γ u.lets ≡ true
    pub cover : (x : ℕ) → x < k → 2 ≤ state u.states x → is_bound b (grown b γ u.lets) x ≡ true

  pub record Used (γ : List ℕ) (k j : ℕ) (u u' : Use) : Type 0 where
    pub going : Going γ k u'
    pub more : Sub (grown b γ u.lets) (grown b γ u'.lets)
    pub above : (x : ℕ) → j ≤ x → state u'.states x ≡ state u.states x
    pub same : Same u.states u'.states

  abbrev pub Uses : List ℕ → ℕ → (ℕ → Use → Use) → ℕ → Type 0
  Uses γ k f s = (u : Use) → Sites b u.states → 0 < state u.states s → Going γ k u → Used γ k (suc s) u (f s u) × (2 ≤ state (f s u).states s)

  pub each_used : (γ : List ℕ) (k j : ℕ) (f : ℕ → Use → Use) (ss : List ℕ) → ((s : ℕ) → Memᴰ s ss → (s < j) × Uses γ k f s)
      → (u : Use) → Sites b u.states → ((s : ℕ) → Memᴰ s ss → 0 < state u.states s) → Going γ k u
      → Used γ k j u (each f ss u) × ((s : ℕ) → Memᴰ s ss → 2 ≤ state (each f ss u).states s)
  each_used γ k j f [] h u v p g =
      (record { going = g; more = λ x m. m; above = λ x l. refl; same = same_refl u.states }, λ s m. absurd (Memᴰ.not-nil m))
  each_used γ k j f (s ∷ ss) h u v p g =
      let a = h s (Memᴰ.head refl) in
      let q = a.1 u v (p s (Memᴰ.head refl)) g in
      let r = each_used γ k j f ss (λ x m. h x (Memᴰ.tail m)) (f s u) (sites_same b q.0.same v) (λ x m. q.0.same.up x (p x (Memᴰ.tail m))) q.0.going in (
        record {
          going = r.0.going;
          more = λ x m. r.0.more x (q.0.more x m);
          above = λ x l. r.0.above x l ∙ q.0.above x (let z = a.0 in omega arith);
          same = same_trans q.0.same r.0.same;
        },
        λ x m. go x (r.0.same.firm s q.1) (r.1 x) (Memᴰ.cases_cons m),
      )
    where
      go : (x : ℕ) → 2 ≤ state (each f ss (f s u)).states s → (Memᴰ x ss → 2 ≤ state (each f ss (f s u)).states x) → (x ≡ s) ⊎ Memᴰ x ss → 2 ≤ state (each f ss (f s u)).states x
      go x q r (inl e) = rw e q
      go x q r (inr m) = r m

  order : (x s : ℕ) → (x < s) ⊎ ((x ≡ s) ⊎ (s < x))
  order x s = go (split (ltb x s)) (split (eqb x s))
    where
      go : (ltb x s ≡ true) ⊎ (ltb x s ≡ false) → (eqb x s ≡ true) ⊎ (eqb x s ≡ false) → (x < s) ⊎ ((x ≡ s) ⊎ (s < x))
      go (inl e) f = inl (ltb-true x s e)
      go (inr e) (inl f) = inr (inl (eqb-true x s f))
      go (inr e) (inr f) = inr (inr (let z = ltb-false x s e in let w = eqb-false x s f in omega arith))

  list_used : Good b → (γ : List ℕ) (s k : ℕ) (u w : Use) → s < length b.sites → Sites b u.states → 0 < state u.states s → state u.states s < 2 → Going γ k u
      → Used γ s s (mark s u) w → ((r : ℕ) → Memᴰ r (site b s).sources → 2 ≤ state w.states r) → Used γ k (suc s) u (add_let b s w) × (2 ≤ state w.states s)
  unfolding add_let mark let_binds
  list_used g γ s k u w z v p p2 h q f = (go (split (never_listed (site b s))), let e = here in omega arith)
    where
      here : state w.states s ≡ 2
      here = q.above s (omega arith) ∙ at u.states s 2 (let y = v.sized in omega arith)

      far : (x : ℕ) → s < x → state w.states x ≡ state u.states x
      far x l = q.above x (omega arith) ∙ other u.states s 2 (λ e. omega arith)

      plain : eqb (site b s).kind 7 ≡ false
      plain = ne_eqb (site b s).kind 7 (λ e. let y = v.firm s e p in omega arith)

      sources_bound : (r : ℕ) → Memᴰ r (site b s).sources → is_bound b (grown b γ w.lets) r ≡ true
      sources_bound r m = q.going.cover r (g.low s r m) (f r m)

      all_same : Same u.states w.states
      all_same = same_trans (mark_same u.states s p p2) q.same

      -- what is bound after the sources, at every site but s
      rest : (x : ℕ) → x < k → 2 ≤ state w.states x → (x < s) ⊎ (s < x) → is_bound b (grown b γ w.lets) x ≡ true
      rest x l y (inl c) = q.going.cover x c y
      rest x l y (inr c) = bound_more (grown b γ u.lets) (grown b γ w.lets) x q.more (h.cover x l (let e = far x c in omega arith))

      go : (never_listed (site b s) ≡ true) ⊎ (never_listed (site b s) ≡ false) → Used γ k (suc s) u (add_let b s w)
      go (inl e) = rw e (record {
        going = record { ok = q.going.ok; cover = λ x l y. cover x l y (order x s) };
        more = q.more;
        above = λ x l. far x l;
        same = all_same;
      })
        where
          cover : (x : ℕ) → x < k → 2 ≤ state w.states x → (x < s) ⊎ ((x ≡ s) ⊎ (s < x)) → is_bound b (grown b γ w.lets) x ≡ true
          cover x l y (inl c) = rest x l y (inl c)
          cover x l y (inr (inl c)) = rw c (bound_free g (grown b γ w.lets) s e sources_bound)
          cover x l y (inr (inr c)) = rest x l y (inr c)
      go (inr e) = rw e (record {
        going = record { ok = lets_snoc γ w.lets s q.going.ok (all_from (is_bound b (grown b γ w.lets)) (site b s).sources sources_bound); cover = λ x l y. cover x l y (order x s) };
        more = λ x m. rw snoc (Memᴰ.tail (q.more x m));
        above = λ x l. far x l;
        same = all_same;
      })
        where
          snoc : grown b γ (w.lets ++ (s ∷ [])) ≡ s ∷ grown b γ w.lets
          snoc = grown_snoc γ w.lets s ∙ rw plain refl

          wider : Sub (grown b γ w.lets) (grown b γ (w.lets ++ (s ∷ [])))
          wider x m = subst (λ γ'. Memᴰ x γ') (sym snoc) (Memᴰ.tail m)

          cover : (x : ℕ) → x < k → 2 ≤ state w.states x → (x < s) ⊎ ((x ≡ s) ⊎ (s < x)) → is_bound b (grown b γ (w.lets ++ (s ∷ []))) x ≡ true
          cover x l y (inl c) = bound_more (grown b γ w.lets) (grown b γ (w.lets ++ (s ∷ []))) x wider (rest x l y (inl c))
          cover x l y (inr (inl c)) = bound_mem (grown b γ (w.lets ++ (s ∷ []))) x (subst (λ γ'. Memᴰ x γ') (sym snoc) (Memᴰ.head c))
          cover x l y (inr (inr c)) = bound_more (grown b γ w.lets) (grown b γ (w.lets ++ (s ∷ []))) x wider (rest x l y (inr c))

  use_used : Good b → (γ : List ℕ) (n s k : ℕ) → s < n → s < k → s < length b.sites → Uses γ k (use_below n b) s
  unfolding use_below mark add_let
  use_used g γ zero s k l m z u v p h = absurd (omega arith)
  use_used g γ (suc n) s k l m z u v p h = go (ltb (state u.states s) 2) refl (λ r c. use_used g γ n r s c)
    where
      go : (t : Bool) → ltb (state u.states s) 2 ≡ t → ((r : ℕ) → r < n → r < s → r < length b.sites → Uses γ s (use_below n b) r)
          → Used γ k (suc s) u (use_below (suc n) b s u) × (2 ≤ state (use_below (suc n) b s u).states s)
      go false e rec = rw (e, use_below) (record { going = h; more = λ x q. q; above = λ x q. refl; same = same_refl u.states }, ltb-false (state u.states s) 2 e)
      go true e rec =
          let p2 = ltb-true (state u.states s) 2 e in
          let s₁ : Same u.states (mark s u).states = mark_same u.states s p p2 in
          let v₁ : Sites b (mark s u).states = sites_same b s₁ v in
          let h₁ : Going γ s (mark s u) = record { ok = h.ok; cover = λ x c y. h.cover x (omega arith) (let f = other u.states s 2 {x = x} (λ q. omega arith) in omega arith) } in
          let q = each_used γ s s (use_below n b) (site b s).sources (λ r k'. (g.low s r k', rec r (let f = g.low s r k' in omega arith) (g.low s r k') (let f = g.low s r k' in omega arith))) (mark s u) v₁ (λ r k'. v₁.down s (s₁.up s p) r k') h₁ in
          rw (e, use_below) (list_used g γ s k u (each (use_below n b) (site b s).sources (mark s u)) z v p p2 h q.0 q.1)

  pub site_used : Good b → (γ : List ℕ) (s k : ℕ) → s < k → s < length b.sites → Uses γ k (use_site b) s
  unfolding use_site
  site_used g γ s k l z u v p h = use_used g γ (suc s) s k (omega arith) l z u v p h
