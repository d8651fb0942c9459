-- The states of a block: availability, and what an arm does to them.
use Rattle.std.specs.Prelude.{◌≡◌, refl, ◌⊎◌, true, false, not, eqb, set}
use Rattle.std.proofs.Math.Path.{sym}
use Rattle.std.proofs.Common.{◌∙◌, ap, inl, inr}
use mathlib.Core.List.{List, Memᴰ}
use Prim.Native.Nat.{ℕ, ◌+◌, ◌-◌, ◌≤◌, ◌<◌}
use native.Mathlib.Omega.{arith}
use Rattle.std.proofs.Math.ListN.{length, length-set}
use borrow.Author.Tests.{eqb-true, eqb-false, ltb-true, not-true, eq-eqb, ne_eqb, lt-ltb}
use Rattle.definition.specs.Lists.{every}
use Rattle.laws.specs.Tests.{split, every_at, and}
use Rattle.laws.specs.Members.{all_at, all_from, heads_in}
use Rattle.definition.specs.Book.{most, Book, Pattern, site}
use Rattle.definition.specs.Scope.{state, sweep, is_there, ready, worked_out, binds, bound_by, emit_bound}
use Rattle.theorems.specs.States.{Same, Down, at, set_cases, sweep_length, sweep_past, sweep_ahead, sweep_cases, sweep_set}
use Rattle.theorems.specs.Accepted.{Good, inside_book}

-- WHAT HOLDS OF THE STATES IN EVERY BLOCK
pub record Sites (b : Book) (st : List ℕ) : Type 0 where
  pub sized : length b.sites ≤ length st
  pub full : length st ≡ most
  pub down : Down b st
  pub closed : (x : ℕ) → x < length b.sites → ((site b x).kind ≡ 7 → ⊥) → ((r : ℕ) → Memᴰ r (site b x).sources → 0 < state st r) → 0 < state st x
  pub opened : (x : ℕ) → (site b x).kind ≡ 7 → 0 < state st x → (y : ℕ) → Memᴰ y (site b x).sources → state st y ≡ 3
  pub firm : (x : ℕ) → (site b x).kind ≡ 7 → 0 < state st x → 2 ≤ state st x

pub sites_same : (b : Book) {st st' : List ℕ} → Same st st' → Sites b st → Sites b st'
sites_same b e h = record {
  sized = rw e.size h.sized;
  full = e.size ∙ h.full;
  down = λ x p r m. e.up r (h.down x (e.down x p) r m);
  closed = λ x l k p. e.up x (h.closed x l k (λ r m. e.down r (p r m)));
  opened = λ x k p y m. e.three y (h.opened x k (e.down x p) y m);
  firm = λ x k p. e.firm x (h.firm x k (e.down x p));
}

-- AVAILABILITY
module _ (b : Book) (st : List ℕ) where
  ready_parts : (l : List ℕ) (x : ℕ) → ready b l x ≡ true → (state l x ≡ 0) × ((site b x).kind ≡ 7 → ⊥) × ((r : ℕ) → Memᴰ r (site b x).sources → 0 < state l r)
  unfolding ready is_there
  ready_parts l x e = (
    eqb-true (state l x) 0 (every_at _ 0 e),
    eqb-false (site b x).kind 7 (not-true _ (every_at _ 1 e)),
    λ r m. ltb-true 0 (state l r) (all_at (is_there l) (every_at _ 2 e) m),
  )

  pub avail_keeps : (x : ℕ) → 0 < state st x → state (worked_out b st) x ≡ state st x
  unfolding worked_out
  avail_keeps x h = go (sweep_cases (ready b) 1 st (length b.sites) x)
    where
      go : (state (sweep (ready b) 1 (length b.sites) st) x ≡ state st x) ⊎ ((x < length b.sites) × (ready b (sweep (ready b) 1 x st) x ≡ true) × (state (sweep (ready b) 1 (length b.sites) st) x ≡ 1)) → state (sweep (ready b) 1 (length b.sites) st) x ≡ state st x
      go (inl e) = e
      go (inr e) =
          let z = (ready_parts (sweep (ready b) 1 x st) x e.1).0 in
          let y = sweep_ahead (ready b) 1 st x x (omega arith) in
          absurd (omega arith)

  pub avail_back : (x : ℕ) → state (worked_out b st) x ≡ 3 → state st x ≡ 3
  unfolding worked_out
  avail_back x h = go (sweep_cases (ready b) 1 st (length b.sites) x)
    where
      go : (state (sweep (ready b) 1 (length b.sites) st) x ≡ state st x) ⊎ ((x < length b.sites) × (ready b (sweep (ready b) 1 x st) x ≡ true) × (state (sweep (ready b) 1 (length b.sites) st) x ≡ 1)) → state st x ≡ 3
      go (inl e) = sym e ∙ h
      go (inr e) = absurd (omega arith)

  pub avail_firm : (x : ℕ) → 2 ≤ state (worked_out b st) x → 2 ≤ state st x
  unfolding worked_out
  avail_firm x h = go (sweep_cases (ready b) 1 st (length b.sites) x)
    where
      go : (state (sweep (ready b) 1 (length b.sites) st) x ≡ state st x) ⊎ ((x < length b.sites) × (ready b (sweep (ready b) 1 x st) x ≡ true) × (state (sweep (ready b) 1 (length b.sites) st) x ≡ 1)) → 2 ≤ state st x
      go (inl e) = omega arith
      go (inr e) = absurd (omega arith)

  pub avail_sites : Good b → length b.sites ≤ length st → length st ≡ most → Down b st
      → ((x : ℕ) → (site b x).kind ≡ 7 → 0 < state st x → (y : ℕ) → Memᴰ y (site b x).sources → state st y ≡ 3)
      → ((x : ℕ) → (site b x).kind ≡ 7 → 0 < state st x → 2 ≤ state st x)
      → Sites b (worked_out b st)
  unfolding worked_out ready is_there every
  avail_sites g l m d o f = record {
    sized = rw (sweep_length (ready b) 1 st (length b.sites)) l;
    full = sweep_length (ready b) 1 st (length b.sites) ∙ m;
    down = λ x h r m. downs x h r m (sweep_cases (ready b) 1 st (length b.sites) x);
    closed = closes;
    opened = λ x k h y m. opens x k h y m (sweep_cases (ready b) 1 st (length b.sites) x);
    firm = λ x k h. firms x k h (sweep_cases (ready b) 1 st (length b.sites) x);
  }
    where
      end : List ℕ
      end = sweep (ready b) 1 (length b.sites) st

      -- a source's state when its site is looked at is its state at the end
      settled : (x r : ℕ) → x < length b.sites → Memᴰ r (site b x).sources → state end r ≡ state (sweep (ready b) 1 x st) r
      settled x r h m =
          let k : length b.sites ≡ (length b.sites - x) + x = omega arith in
          ap (λ n. state (sweep (ready b) 1 n st) r) k ∙ sweep_past (ready b) 1 st (length b.sites - x) r x (g.low x r m)

      kept : (x : ℕ) → 0 < state st x → 0 < state end x
      kept x h = let e : state end x ≡ state st x = avail_keeps x h in omega arith

      downs : (x : ℕ) → 0 < state end x → (r : ℕ) → Memᴰ r (site b x).sources
          → (state end x ≡ state st x) ⊎ ((x < length b.sites) × (ready b (sweep (ready b) 1 x st) x ≡ true) × (state end x ≡ 1)) → 0 < state end r
      downs x h r m (inl e) = kept r (d x (omega arith) r m)
      downs x h r m (inr e) =
          let p : 0 < state (sweep (ready b) 1 x st) r = (ready_parts (sweep (ready b) 1 x st) x e.1).2 r m in
          let q = settled x r e.0 m in
          omega arith

      firms : (x : ℕ) → (site b x).kind ≡ 7 → 0 < state end x
          → (state end x ≡ state st x) ⊎ ((x < length b.sites) × (ready b (sweep (ready b) 1 x st) x ≡ true) × (state end x ≡ 1)) → 2 ≤ state end x
      firms x k h (inl e) = let q = f x k (omega arith) in omega arith
      firms x k h (inr e) = absurd ((ready_parts (sweep (ready b) 1 x st) x e.1).1 k)

      opens : (x : ℕ) → (site b x).kind ≡ 7 → 0 < state end x → (y : ℕ) → Memᴰ y (site b x).sources
          → (state end x ≡ state st x) ⊎ ((x < length b.sites) × (ready b (sweep (ready b) 1 x st) x ≡ true) × (state end x ≡ 1)) → state end y ≡ 3
      opens x k h y m (inl e) = let q = o x k (omega arith) y m in let f : state end y ≡ state st y = avail_keeps y (omega arith) in f ∙ q
      opens x k h y m (inr e) = absurd ((ready_parts (sweep (ready b) 1 x st) x e.1).1 k)

      closes : (x : ℕ) → x < length b.sites → ((site b x).kind ≡ 7 → ⊥) → ((r : ℕ) → Memᴰ r (site b x).sources → 0 < state end r) → 0 < state end x
      closes x h k p = go (split (eqb (state st x) 0))
        where
          go : (eqb (state st x) 0 ≡ true) ⊎ (eqb (state st x) 0 ≡ false) → 0 < state end x
          go (inr e) = kept x (let z = eqb-false (state st x) 0 e in omega arith)
          go (inl e) =
              let z : state (sweep (ready b) 1 x st) x ≡ 0 = sweep_ahead (ready b) 1 st x x (omega arith) ∙ eqb-true (state st x) 0 e in
              let q : ready b (sweep (ready b) 1 x st) x ≡ true =
              and (eq-eqb (state (sweep (ready b) 1 x st) x) 0 z) (and (ap not (ne_eqb (site b x).kind 7 k))
              (and (all_from (is_there (sweep (ready b) 1 x st)) (site b x).sources (λ r m. lt-ltb 0 (state (sweep (ready b) 1 x st) r) (rw (← settled x r h m) (p r m)))) refl)) in
              let v = sweep_set (ready b) 1 st (length b.sites) x h (omega arith) q in
              omega arith

-- AN ARM
pub record Entered (b : Book) (st : List ℕ) (s : ℕ) (p : Pattern) (st' : List ℕ) : Type 0 where
  pub sites : Sites b st'
  pub up : (x : ℕ) → 0 < state st x → 0 < state st' x
  pub three : (x : ℕ) → state st x ≡ 3 → state st' x ≡ 3
  pub here : state st' s ≡ 3
  pub back : (x : ℕ) → state st' x ≡ 3 → (x ≡ s) ⊎ (state st x ≡ 3)
  pub bound : (x : ℕ) → binds s p (site b x) ≡ true → 0 < state st' x
  pub origin : (x : ℕ) → 2 ≤ state st' x → (x ≡ s) ⊎ ((2 ≤ state st x) ⊎ (binds s p (site b x) ≡ true))

module _ (b : Book) (s : ℕ) (p : Pattern) where
  binds_parts : (x : ℕ) → binds s p (site b x) ≡ true → ((site b x).kind ≡ 7) × Memᴰ s (site b x).sources
  unfolding binds
  binds_parts x e = (eqb-true (site b x).kind 7 (every_at _ 0 e), heads_in s (site b x).sources (every_at _ 1 e))

  lit_cases : (st : List ℕ) (x : ℕ) → ((x ≡ s) × (state (emit_bound b s p (set st s 3)) x ≡ 3)) ⊎ ((state (emit_bound b s p (set st s 3)) x ≡ state st x) ⊎ ((binds s p (site b x) ≡ true) × (state (emit_bound b s p (set st s 3)) x ≡ 2)))
  unfolding emit_bound bound_by
  lit_cases st x = go (sweep_cases (bound_by b s p) 2 (set st s 3) (length b.sites) x) (set_cases st s 3 x)
    where
      lit : List ℕ
      lit = sweep (bound_by b s p) 2 (length b.sites) (set st s 3)

      go : (state lit x ≡ state (set st s 3) x) ⊎ ((x < length b.sites) × (binds s p (site b x) ≡ true) × (state lit x ≡ 2))
          → (state (set st s 3) x ≡ state st x) ⊎ ((x ≡ s) × (state (set st s 3) x ≡ 3))
          → ((x ≡ s) × (state lit x ≡ 3)) ⊎ ((state lit x ≡ state st x) ⊎ ((binds s p (site b x) ≡ true) × (state lit x ≡ 2)))
      go (inl e) (inl f) = inr (inl (e ∙ f))
      go (inl e) (inr f) = inl (f.0, e ∙ f.1)
      go (inr e) f = inr (inr (e.1, e.2))

  lit_here : (st : List ℕ) → Good b → s < length st → state (emit_bound b s p (set st s 3)) s ≡ 3
  unfolding emit_bound bound_by
  lit_here st g l = go (sweep_cases (bound_by b s p) 2 (set st s 3) (length b.sites) s)
    where
      lit : List ℕ
      lit = sweep (bound_by b s p) 2 (length b.sites) (set st s 3)

      go : (state lit s ≡ state (set st s 3) s) ⊎ ((s < length b.sites) × (binds s p (site b s) ≡ true) × (state lit s ≡ 2)) → state lit s ≡ 3
      go (inl e) = e ∙ at st s 3 l
      go (inr e) = let q = g.low s s (binds_parts s e.1).1 in absurd (omega arith)

  lit_bound : (st : List ℕ) → length b.sites ≤ length st → (x : ℕ) → binds s p (site b x) ≡ true → state (emit_bound b s p (set st s 3)) x ≡ 2
  unfolding emit_bound bound_by
  lit_bound st l x e =
      let q = inside_book b x (binds_parts x e).0 in
      sweep_set (bound_by b s p) 2 (set st s 3) (length b.sites) x q (rw (length-set st s 3) (omega arith)) e

  lit_length : (st : List ℕ) → length (emit_bound b s p (set st s 3)) ≡ length st
  unfolding emit_bound bound_by
  lit_length st = sweep_length (bound_by b s p) 2 (set st s 3) (length b.sites) ∙ length-set st s 3

  pub entered : (st : List ℕ) → Good b → Sites b st → s < length b.sites → 0 < state st s → (state st s ≡ 3 → ⊥)
      → Entered b st s p (worked_out b (emit_bound b s p (set st s 3)))
  entered st g h l pos no3 = record {
    sites = avail_sites b lit g (rw (lit_length st) h.sized) (lit_length st ∙ h.full) (λ x k. lit_down x k (lit_cases st x)) (λ x k q. lit_opened x k q (lit_cases st x)) (λ x k q. lit_firm x k q (lit_cases st x));
    up = λ x k. let e = avail_keeps b lit x (lit_up x k) in let f = lit_up x k in omega arith;
    three = λ x k. let e = avail_keeps b lit x (let f = lit_three x k in omega arith) in e ∙ lit_three x k;
    here = avail_keeps b lit s (let f = here3 in omega arith) ∙ here3;
    back = λ x k. lit_back x (avail_back b lit x k) (lit_cases st x);
    bound = λ x e. let f = avail_keeps b lit x (let v = lit_bound st h.sized x e in omega arith) in let v = lit_bound st h.sized x e in omega arith;
    origin = λ x k. origins x (avail_firm b lit x k) (lit_cases st x);
  }
    where
      origins : (x : ℕ) → 2 ≤ state (emit_bound b s p (set st s 3)) x
          → ((x ≡ s) × (state (emit_bound b s p (set st s 3)) x ≡ 3)) ⊎ ((state (emit_bound b s p (set st s 3)) x ≡ state st x) ⊎ ((binds s p (site b x) ≡ true) × (state (emit_bound b s p (set st s 3)) x ≡ 2)))
          → (x ≡ s) ⊎ ((2 ≤ state st x) ⊎ (binds s p (site b x) ≡ true))
      origins x k (inl e) = inl e.0
      origins x k (inr (inl e)) = inr (inl (omega arith))
      origins x k (inr (inr e)) = inr (inr e.0)

      lit : List ℕ
      lit = emit_bound b s p (set st s 3)

      here3 : state lit s ≡ 3
      here3 = lit_here st g (let q = h.sized in omega arith)

      lit_up : (x : ℕ) → 0 < state st x → 0 < state lit x
      lit_up x k = go (lit_cases st x)
        where
          go : ((x ≡ s) × (state lit x ≡ 3)) ⊎ ((state lit x ≡ state st x) ⊎ ((binds s p (site b x) ≡ true) × (state lit x ≡ 2))) → 0 < state lit x
          go (inl e) = omega arith
          go (inr (inl e)) = omega arith
          go (inr (inr e)) = omega arith

      lit_three : (x : ℕ) → state st x ≡ 3 → state lit x ≡ 3
      lit_three x k = go (lit_cases st x)
        where
          go : ((x ≡ s) × (state lit x ≡ 3)) ⊎ ((state lit x ≡ state st x) ⊎ ((binds s p (site b x) ≡ true) × (state lit x ≡ 2))) → state lit x ≡ 3
          go (inl e) = e.1
          go (inr (inl e)) = e ∙ k
          go (inr (inr e)) = let q = binds_parts x e.0 in absurd (no3 (h.opened x q.0 (omega arith) s q.1))

      lit_back : (x : ℕ) → state lit x ≡ 3 → ((x ≡ s) × (state lit x ≡ 3)) ⊎ ((state lit x ≡ state st x) ⊎ ((binds s p (site b x) ≡ true) × (state lit x ≡ 2))) → (x ≡ s) ⊎ (state st x ≡ 3)
      lit_back x k (inl e) = inl e.0
      lit_back x k (inr (inl e)) = inr (sym e ∙ k)
      lit_back x k (inr (inr e)) = absurd (omega arith)

      lit_firm : (x : ℕ) → (site b x).kind ≡ 7 → 0 < state lit x → ((x ≡ s) × (state lit x ≡ 3)) ⊎ ((state lit x ≡ state st x) ⊎ ((binds s p (site b x) ≡ true) × (state lit x ≡ 2))) → 2 ≤ state lit x
      lit_firm x k q (inl e) = omega arith
      lit_firm x k q (inr (inl e)) = let f = h.firm x k (omega arith) in omega arith
      lit_firm x k q (inr (inr e)) = omega arith

      lit_down : (x : ℕ) → 0 < state lit x → ((x ≡ s) × (state lit x ≡ 3)) ⊎ ((state lit x ≡ state st x) ⊎ ((binds s p (site b x) ≡ true) × (state lit x ≡ 2))) → (r : ℕ) → Memᴰ r (site b x).sources → 0 < state lit r
      lit_down x k (inl e) r m = lit_up r (h.down x (rw e.0 pos) r m)
      lit_down x k (inr (inl e)) r m = lit_up r (h.down x (omega arith) r m)
      lit_down x k (inr (inr e)) r m =
          let q = binds_parts x e.0 in
          let same : r ≡ s = g.lone x r s q.0 m q.1 in
          let f : state lit r ≡ 3 = rw same here3 in omega arith

      lit_opened : (x : ℕ) → (site b x).kind ≡ 7 → 0 < state lit x → ((x ≡ s) × (state lit x ≡ 3)) ⊎ ((state lit x ≡ state st x) ⊎ ((binds s p (site b x) ≡ true) × (state lit x ≡ 2))) → (y : ℕ) → Memᴰ y (site b x).sources → state lit y ≡ 3
      lit_opened x k q (inl e) y m = lit_three y (h.opened x k (rw e.0 pos) y m)
      lit_opened x k q (inr (inl e)) y m = lit_three y (h.opened x k (omega arith) y m)
      lit_opened x k q (inr (inr e)) y m =
          let same : y ≡ s = g.lone x y s k m (binds_parts x e.0).1 in
          rw same here3
