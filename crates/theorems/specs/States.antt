-- What the passes over the sites and the uses do to states.
use Rattle.std.specs.Prelude.{◌≡◌, refl, ◌⊎◌, Bool, true, false, ℕ, zero, suc, ◌+◌, ◌-◌, ◌≤◌, ◌<◌, eqb, ltb, length, set, if◌then◌else◌}
use Rattle.std.proofs.Common.{sym, ◌∙◌, ap, inl, inr, arith, zero-add, suc-add, length-set, get_or-set_same, get_or-set_other, eqb-true, ltb-true, ltb-false}
use mathlib.Core.List.{List, [], ◌∷◌, Memᴰ}
use Rattle.std.proofs.Math.Seq.{set_out}
use Rattle.std.proofs.lemmas.Bool.{eqb-false}
use Rattle.definition.specs.Lists.{each}
use Rattle.laws.specs.Tests.{split}
use Rattle.definition.specs.Scope.{state, sweep, Use, use_below, mark, add_let}
use Rattle.definition.specs.Book.{Book, site}

pub other : (st : List ℕ) (n v : ℕ) {x : ℕ} → (x ≡ n → ⊥) → state (set st n v) x ≡ state st x
other st n v {x} h = get_or-set_other st n x v 0 h

pub at : (st : List ℕ) (n v : ℕ) → n < length st → state (set st n v) n ≡ v
at st n v h = get_or-set_same st n v 0 h

-- a site's state after one is set: as it was, or the one set
pub set_cases : (st : List ℕ) (n v x : ℕ) → (state (set st n v) x ≡ state st x) ⊎ ((x ≡ n) × (state (set st n v) x ≡ v))
set_cases st n v x = go (split (eqb x n)) (split (ltb n (length st)))
  where
    go : (eqb x n ≡ true) ⊎ (eqb x n ≡ false) → (ltb n (length st) ≡ true) ⊎ (ltb n (length st) ≡ false) → (state (set st n v) x ≡ state st x) ⊎ ((x ≡ n) × (state (set st n v) x ≡ v))
    go (inr e) q = inl (other st n v (eqb-false x n e))
    go (inl e) (inl q) = let p = eqb-true x n e in inr (p, rw p (at st n v (ltb-true n (length st) q)))
    go (inl e) (inr q) = inl (rw (set_out st n v (ltb-false n (length st) q)))

module _ (test : List ℕ → ℕ → Bool) (v : ℕ) (st : List ℕ) where
  one_length : (t : Bool) (l : List ℕ) (n : ℕ) → length (if◌then◌else◌ t (set l n v) l) ≡ length l
  one_length true l n = length-set l n v
  one_length false l n = refl

  pub sweep_length : (n : ℕ) → length (sweep test v n st) ≡ length st
  sweep_length zero = refl
  sweep_length (suc n) = one_length (test (sweep test v n st) n) (sweep test v n st) n ∙ sweep_length n

  one_cases : (t : Bool) (l : List ℕ) (n x : ℕ) → (state (if◌then◌else◌ t (set l n v) l) x ≡ state l x) ⊎ ((x ≡ n) × (t ≡ true) × (state (if◌then◌else◌ t (set l n v) l) x ≡ v))
  one_cases true l n x = go (set_cases l n v x)
    where
      go : (state (set l n v) x ≡ state l x) ⊎ ((x ≡ n) × (state (set l n v) x ≡ v)) → (state (set l n v) x ≡ state l x) ⊎ ((x ≡ n) × (true ≡ true) × (state (set l n v) x ≡ v))
      go (inl e) = inl e
      go (inr e) = inr (e.0, refl, e.1)
  one_cases false l n x = inl refl

  -- after a step at n, another site is as it was
  pub sweep_other : (n x : ℕ) → (x ≡ n → ⊥) → state (sweep test v (suc n) st) x ≡ state (sweep test v n st) x
  sweep_other n x h = go (one_cases (test (sweep test v n st) n) (sweep test v n st) n x)
    where
      go : (state (sweep test v (suc n) st) x ≡ state (sweep test v n st) x) ⊎ ((x ≡ n) × (test (sweep test v n st) n ≡ true) × (state (sweep test v (suc n) st) x ≡ v)) → state (sweep test v (suc n) st) x ≡ state (sweep test v n st) x
      go (inl e) = e
      go (inr e) = absurd (h e.0)

  -- what is passed stays
  pub sweep_past : (k x n : ℕ) → x < n → state (sweep test v (k + n) st) x ≡ state (sweep test v n st) x
  sweep_past zero x n h = rw (zero-add n)
  sweep_past (suc k) x n h = rw (suc-add k n) (sweep_other (k + n) x (λ e. omega arith) ∙ sweep_past k x n h)

  -- what is to come is as it was
  pub sweep_ahead : (n x : ℕ) → n ≤ x → state (sweep test v n st) x ≡ state st x
  sweep_ahead zero x h = refl
  sweep_ahead (suc n) x h = sweep_other n x (λ e. omega arith) ∙ sweep_ahead n x (omega arith)

  pub sweep_cases : (n x : ℕ) → (state (sweep test v n st) x ≡ state st x) ⊎ ((x < n) × (test (sweep test v x st) x ≡ true) × (state (sweep test v n st) x ≡ v))
  sweep_cases zero x = inl refl
  sweep_cases (suc n) x = go (one_cases (test (sweep test v n st) n) (sweep test v n st) n x) (sweep_cases n x)
    where
      go : (state (sweep test v (suc n) st) x ≡ state (sweep test v n st) x) ⊎ ((x ≡ n) × (test (sweep test v n st) n ≡ true) × (state (sweep test v (suc n) st) x ≡ v))
          → (state (sweep test v n st) x ≡ state st x) ⊎ ((x < n) × (test (sweep test v x st) x ≡ true) × (state (sweep test v n st) x ≡ v))
          → (state (sweep test v (suc n) st) x ≡ state st x) ⊎ ((x < suc n) × (test (sweep test v x st) x ≡ true) × (state (sweep test v (suc n) st) x ≡ v))
      go (inl e) (inl f) = inl (e ∙ f)
      go (inl e) (inr f) = inr (omega arith, f.1, e ∙ f.2)
      go (inr e) f = inr (omega arith, rw e.0 e.1, e.2)

  pub sweep_set : (n x : ℕ) → x < n → x < length st → test (sweep test v x st) x ≡ true → state (sweep test v n st) x ≡ v
  sweep_set n x h l e =
      let k : n ≡ (n - suc x) + suc x = omega arith in
      let f : state (sweep test v ((n - suc x) + suc x) st) x ≡ state (sweep test v (suc x) st) x = sweep_past (n - suc x) x (suc x) (omega arith) in
      ap (λ m. state (sweep test v m st) x) k ∙ f ∙ rw e (at (sweep test v x st) x v (rw (sweep_length x) l))

-- USES keep what is Unavailable and what is Matched
pub record Same (st st' : List ℕ) : Type 0 where
  pub size : length st' ≡ length st
  pub up : (x : ℕ) → 0 < state st x → 0 < state st' x
  pub down : (x : ℕ) → 0 < state st' x → 0 < state st x
  pub three : (x : ℕ) → state st x ≡ 3 → state st' x ≡ 3
  pub back : (x : ℕ) → state st' x ≡ 3 → state st x ≡ 3
  pub firm : (x : ℕ) → 2 ≤ state st x → 2 ≤ state st' x

pub same_refl : (st : List ℕ) → Same st st
same_refl st = record { size = refl; up = λ x h. h; down = λ x h. h; three = λ x h. h; back = λ x h. h; firm = λ x h. h }

pub same_trans : {s₁ s₂ s₃ : List ℕ} → Same s₁ s₂ → Same s₂ s₃ → Same s₁ s₃
same_trans p q = record {
  size = q.size ∙ p.size;
  up = λ x h. q.up x (p.up x h);
  down = λ x h. p.down x (q.down x h);
  three = λ x h. q.three x (p.three x h);
  back = λ x h. p.back x (q.back x h);
  firm = λ x h. q.firm x (p.firm x h);
}

pub mark_same : (st : List ℕ) (s : ℕ) → 0 < state st s → state st s < 2 → Same st (set st s 2)
mark_same st s h k = record {
  size = length-set st s 2;
  up = λ x p. up x p (set_cases st s 2 x);
  down = λ x p. down x p (set_cases st s 2 x);
  three = λ x p. three x p (set_cases st s 2 x);
  back = λ x p. back x p (set_cases st s 2 x);
  firm = λ x p. firm x p (set_cases st s 2 x);
}
  where
    firm : (x : ℕ) → 2 ≤ state st x → (state (set st s 2) x ≡ state st x) ⊎ ((x ≡ s) × (state (set st s 2) x ≡ 2)) → 2 ≤ state (set st s 2) x
    firm x p (inl e) = omega arith
    firm x p (inr e) = omega arith

    up : (x : ℕ) → 0 < state st x → (state (set st s 2) x ≡ state st x) ⊎ ((x ≡ s) × (state (set st s 2) x ≡ 2)) → 0 < state (set st s 2) x
    up x p (inl e) = omega arith
    up x p (inr e) = omega arith

    down : (x : ℕ) → 0 < state (set st s 2) x → (state (set st s 2) x ≡ state st x) ⊎ ((x ≡ s) × (state (set st s 2) x ≡ 2)) → 0 < state st x
    down x p (inl e) = omega arith
    down x p (inr e) = rw e.0 h

    three : (x : ℕ) → state st x ≡ 3 → (state (set st s 2) x ≡ state st x) ⊎ ((x ≡ s) × (state (set st s 2) x ≡ 2)) → state (set st s 2) x ≡ 3
    three x p (inl e) = e ∙ p
    three x p (inr e) = let q : state st s ≡ 3 = rw (← e.0) p in absurd (omega arith)

    back : (x : ℕ) → state (set st s 2) x ≡ 3 → (state (set st s 2) x ≡ state st x) ⊎ ((x ≡ s) × (state (set st s 2) x ≡ 2)) → state st x ≡ 3
    back x p (inl e) = sym e ∙ p
    back x p (inr e) = absurd (omega arith)

-- what is not Unavailable has no Unavailable source
abbrev pub Down : Book → List ℕ → Type 0
Down b st = (x : ℕ) → 0 < state st x → (r : ℕ) → Memᴰ r (site b x).sources → 0 < state st r

pub down_same : (b : Book) {st st' : List ℕ} → Same st st' → Down b st → Down b st'
down_same b e h = λ x p r m. e.up r (h x (e.down x p) r m)

-- uses one after another
pub each_same : (b : Book) (f : ℕ → Use → Use) → ((s : ℕ) (u : Use) → Down b u.states → 0 < state u.states s → Same u.states (f s u).states)
    → (ss : List ℕ) (u : Use) → Down b u.states → ((s : ℕ) → Memᴰ s ss → 0 < state u.states s) → Same u.states (each f ss u).states
each_same b f h [] u d p = same_refl u.states
each_same b f h (s ∷ ss) u d p =
    let e = h s u d (p s (Memᴰ.head refl)) in
    same_trans e (each_same b f h ss (f s u) (down_same b e d) (λ r m. e.up r (p r (Memᴰ.tail m))))

pub use_same : (b : Book) (n s : ℕ) (u : Use) → Down b u.states → 0 < state u.states s → Same u.states (use_below n b s u).states
unfolding use_below mark add_let
use_same b zero s u d p = same_refl u.states
use_same b (suc n) s u d p = go (ltb (state u.states s) 2) refl (use_same b n)
  where
    go : (t : Bool) → ltb (state u.states s) 2 ≡ t
        → ((r : ℕ) (v : Use) → Down b v.states → 0 < state v.states r → Same v.states (use_below n b r v).states)
        → Same u.states (use_below (suc n) b s u).states
    go false e rec = rw (e, use_below) (same_refl u.states)
    go true e rec =
        let m : Same u.states (mark s u).states = mark_same u.states s p (ltb-true (state u.states s) 2 e) in
        rw (e, use_below) (same_trans m (each_same b (use_below n b) rec (site b s).sources (mark s u) (down_same b m d) (λ r k. m.up r (d s p r k))))
