-- A pass over the sites in id order, as a loop makes it, and the tests that it asks of a site of the table.
use mathlib.Core.Path.{◌≡◌, refl, ◌∙◌, ap}
use mathlib.Core.Bool.{Bool, true, false, ◌&&◌, and-true}
use mathlib.Core.List.{List, ◌∷◌}
use Prim.Native.Nat.{ℕ, zero, suc, ◌+◌, ◌≤◌, ◌<◌}
use native.Mathlib.Omega.{arith}
use native.Mathlib.Numerals.{add-one}
use lib.ListN.{length, set, get_or, drop}
use borrow.Author.Tests.{eq-eqb, ne_eqb}
use Rattle.definition.specs.Book.{Book}
use Rattle.definition.specs.Lists.{every, all, from, upto}
use Rattle.definition.specs.Scope.{state, is_there, ready, sweep}
use Rattle.definition.specs.Tables.{site_at}
use Rattle.laws.specs.Runs.{in_slice}
use Rattle.scope.specs.declared.Scope.{Scope}
use Rattle.scope.specs.declared.Sites.{Sites}
use Rattle.scope.specs.Drawn.{Drawn}
use Rattle.scope.specs.States.{With}

-- the sites below x are passed
pub record Swept (test : List ℕ → ℕ → Bool) (v x : ℕ) (s r : Scope) : Type 0 where
  pub so_far : With (sweep test v x s.states) s r

module _ {test : List ℕ → ℕ → Bool} {v x : ℕ} {s r : Scope} (h : Swept test v x s r) where
  pub sweep_hit : test r.states x ≡ true → {st : List ℕ} → st ≡ set r.states x v
      → Swept test v (x + 1) s (record { states = st; root = r.root; rank = r.rank })
  sweep_hit e q =
      let f : test (sweep test v x s.states) x ≡ true = rw h.so_far.states at e in
      let states = q ∙ rw (add-one, f, h.so_far.states) refl in
      record { so_far = record { states = states; root = h.so_far.root; rank = h.so_far.rank } }

  pub sweep_skip : test r.states x ≡ false → Swept test v (x + 1) s r
  sweep_skip e =
      let f : test (sweep test v x s.states) x ≡ false = rw h.so_far.states at e in
      record { so_far = record { states = rw (add-one, f) h.so_far.states; root = h.so_far.root; rank = h.so_far.rank } }

  pub sweep_ends : {n : ℕ} → x ≤ n → n ≤ x → With (sweep test v n s.states) s r
  sweep_ends {n} a b = let e : n ≡ x = omega arith in rw e h.so_far

-- READY
module _ {b : Book} {t : Sites} (d : Drawn t b) (st : List ℕ) (x : ℕ) (h : x < t.count) where
  pub ready_there : (◌≡◌ {A = ℕ} (state st x) 0 → ⊥) → ready b st x ≡ false
  unfolding ready every
  ready_there n = rw (ne_eqb (state st x) 0 n)

  pub ready_bound : (site_at t.words.now x).kind ≡ 7 → ◌≡◌ {A = ℕ} (state st x) 0 → ready b st x ≡ false
  unfolding ready every
  ready_bound k e = rw (d.at x h, eq-eqb (state st x) 0 e, eq-eqb (site_at t.words.now x).kind 7 k)

  pub ready_sources : ((site_at t.words.now x).kind ≡ 7 → ⊥) → ◌≡◌ {A = ℕ} (state st x) 0
      → ready b st x ≡ all (is_there st) (site_at t.words.now x).sources
  unfolding ready every
  ready_sources k e = rw (d.at x h, eq-eqb (state st x) 0 e, ne_eqb (site_at t.words.now x).kind 7 k) (and-true _)

pub ruleset ready_tests = (ready_there, ready_bound, ready_sources)

-- a test of the items of a list, by their places
items_from : (q : ℕ → Bool) (l : List ℕ) (a n : ℕ) → a + n ≡ length l → all (λ k. q (get_or l k 0)) (from a n) ≡ all q (drop a l)
items_from q l a zero e = rw ((in_slice l).none a (omega arith))
items_from q l a (suc n) e =
    let more : drop a l ≡ get_or l a 0 ∷ drop (suc a) l = rw (← add-one a) ((in_slice l).more a (omega arith)) in
    rw more (ap (λ (t : Bool). q (get_or l a 0) && t) (items_from q l (suc a) n (omega arith)))

pub all_items : (q : ℕ → Bool) (l : List ℕ) (n : ℕ) → n ≡ length l → all (λ k. q (get_or l k 0)) (upto n) ≡ all q l
all_items q l n e = items_from q l 0 n (omega arith)
