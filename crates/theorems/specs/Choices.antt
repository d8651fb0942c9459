-- The choice of a step: what a chosen test is, and what it means that none is chosen.
use Rattle.std.proofs.Math.Path.{◌≡◌, refl}
use Rattle.std.proofs.Common.{sym, subst, inl, inr, arith}
use Rattle.std.proofs.Math.Bool.{true, false, true≢false}
use mathlib.Core.List.{List, [], ◌∷◌, map, Memᴰ}
use Rattle.std.specs.Prelude.{◌⊎◌, length}
use Rattle.std.proofs.Math.Option.{none, some}
use Prim.Native.Nat.{ℕ, zero, suc, ◌-◌, ◌≤◌, ◌<◌, compare, Ordering}
use Rattle.std.proofs.Math.Decide.{dec_lt}
use Rattle.std.proofs.Math.Dec.{is_le}
use borrow.Author.Tests.{leb-true}
use Rattle.definition.specs.Lists.{◌and_then◌, is_less, from, upto, champion, flat}
use Rattle.definition.specs.Book.{Book}
use Rattle.definition.specs.Scope.{Scope}
use Rattle.definition.specs.Choice.{Test, on, same, pairs_with, rule_has, count, counted, best, is_candidate, candidates, is_open, tests, better, best_of, chosen, unless_zero, choice}
use Rattle.laws.specs.Tests.{both, and}
use Rattle.laws.specs.Members.{any_from, filter_in, filter_from, mem_length, mem_map, mem_flat, mem_from, from_bounds, mem_map_of, mem_flat_of}
use Rattle.laws.specs.Orders.{lt_is}
use Rattle.laws.specs.Champions.{champion_in, champion_keeps, champion_most}
use Rattle.theorems.specs.Partition.{counted_in}

-- TESTS. A test of n sites, a pair's smaller id first
abbrev pub Known : ℕ → Test → Type 0
Known n (on s) = s < n
Known n (same x y) = (x < y) × (y < n)

pub known_listed : (b : Book) (t : Test) → Known (length b.sites) t → Memᴰ t (tests b)
unfolding tests pairs_with
known_listed b (on s) h = mathlib.Core.List.Memᴰ.append_left _ (mem_map on s (upto (length b.sites)) (mem_from 0 (length b.sites) s (omega arith) (omega arith)))
known_listed b (same x y) h =
    let n = length b.sites in
    mathlib.Core.List.Memᴰ.append_right (map on (upto (length b.sites)))
    (mem_flat (pairs_with (length b.sites)) (same x y) x (upto (length b.sites)) (mem_from 0 (length b.sites) x (omega arith) (omega arith))
    (mem_map (same x) y (from (suc x) (length b.sites - suc x)) (mem_from (suc x) (length b.sites - suc x) y (omega arith) (omega arith))))

pub tests_known : (b : Book) (t : Test) → Memᴰ t (tests b) → Known (length b.sites) t
unfolding tests pairs_with
tests_known b t m = go (mathlib.Core.List.Memᴰ.append_cases (map on (upto (length b.sites))) m)
  where
    go : Memᴰ t (map on (upto (length b.sites))) ⊎ Memᴰ t (flat (pairs_with (length b.sites)) (upto (length b.sites))) → Known (length b.sites) t
    go (inl n) =
        let r = mem_map_of on t (upto (length b.sites)) n in
        let q = from_bounds 0 (length b.sites) r.0 r.1 in
        subst (Known (length b.sites)) (sym r.2) (let z : r.0 < length b.sites = omega arith in z)
    go (inr n) =
        let r = mem_flat_of (pairs_with (length b.sites)) t (upto (length b.sites)) n in
        let u = mem_map_of (same r.0) t (from (suc r.0) (length b.sites - suc r.0)) r.2 in
        let q = from_bounds (suc r.0) (length b.sites - suc r.0) u.0 u.1 in
        subst (Known (length b.sites)) (sym u.2) (let z : (r.0 < u.0) × (u.0 < length b.sites) = (omega arith, omega arith) in z)

-- THE BEST. A comparison that begins with counts: who is better counts no fewer
less_first : (o p : Ordering) → is_less (o and_then p) ≡ true → is_le o ≡ true
less_first Ordering.lt p e = refl
less_first Ordering.eq p e = refl
less_first Ordering.gt p e = absurd (true≢false (sym e))

module _ (b : Book) (σ : Scope) (w : List ℕ) where
  won : (t u : Test) → better b σ w t u ≡ true → count b w u ≤ count b w t
  unfolding better
  won t u e = leb-true (count b w u) (count b w t) (less_first (compare (count b w u) (count b w t)) _ e)

  lost : (t u : Test) → better b σ w t u ≡ false → count b w t ≤ count b w u
  unfolding better
  lost t u e = go (dec_lt (count b w u) (count b w t))
    where
      go : Dec (count b w u < count b w t) → count b w t ≤ count b w u
      go (yes h) = absurd (let z : true ≡ false = rw (lt_is (count b w u) (count b w t) h) at e in true≢false z)
      go (no h) = omega (arith, h)

  pub candidate_parts : (t : Test) → Memᴰ t (candidates b σ w) → Memᴰ t (tests b) × (is_open σ t ≡ true)
  unfolding candidates is_candidate
  candidate_parts t m = let r = filter_in (is_candidate b σ w) t (tests b) m in (r.0, (both (is_open σ t) _ r.1).0)

  -- an open test that counts a rule is a candidate
  pub is_listed : (t : Test) → Memᴰ t (tests b) → is_open σ t ≡ true → (i : ℕ) → Memᴰ i (counted b t w) → Memᴰ t (candidates b σ w)
  unfolding candidates is_candidate rule_has
  is_listed t m o i n =
      let c = counted_in b t w i n in
      filter_from (is_candidate b σ w) m (and o (any_from (rule_has b t) c.0 c.1))

  -- a chosen test is open, and some rule is counted
  pub choice_some : (t : Test) → choice b σ w ≡ some t → Memᴰ t (tests b) × (is_open σ t ≡ true) × (0 < count b w t)
  unfolding choice best
  choice_some t e = go (candidates b σ w) refl e
    where
      positive : (n : ℕ) (c : Test) → unless_zero n c ≡ some t → (c ≡ t) × (0 < n)
      positive zero c q = let z : ◌≡◌ {A = ℕ} 0 1 = cc in absurd (omega arith)
      positive (suc n) c q = let same : c ≡ t = cc in (same, omega arith)

      go : (cs : List Test) → candidates b σ w ≡ cs → chosen (count b w) (best_of (better b σ w) cs) ≡ some t → Memᴰ t (tests b) × (is_open σ t ≡ true) × (0 < count b w t)
      go [] p q = let z : ◌≡◌ {A = ℕ} 0 1 = cc in absurd (omega arith)
      go (c ∷ cs) p q =
          let r = positive (count b w (champion (better b σ w) c cs)) (champion (better b σ w) c cs) q in
          let m : Memᴰ t (candidates b σ w) = rw (p, ← r.0) (champion_in (better b σ w) c cs) in
          let f = candidate_parts t m in
          (f.0, f.1, rw (← r.0) r.1)

  -- where none is chosen, no open test counts a rule
  pub choice_none : choice b σ w ≡ none → (t : Test) → Memᴰ t (tests b) → is_open σ t ≡ true → (i : ℕ) → Memᴰ i (counted b t w) → ⊥
  unfolding choice best
  choice_none e t m o i n = go (candidates b σ w) refl e (is_listed t m o i n)
    where
      nought : (n : ℕ) (c : Test) → unless_zero n c ≡ none → n ≡ 0
      nought zero c q = refl
      nought (suc n) c q = let z : ◌≡◌ {A = ℕ} 0 1 = cc in absurd (omega arith)

      most : (c : Test) (cs : List Test) → (t ≡ c) ⊎ Memᴰ t cs → count b w t ≤ count b w (champion (better b σ w) c cs)
      most c cs (inl q) = rw q (champion_keeps (better b σ w) (count b w) won lost c cs)
      most c cs (inr k) = champion_most (better b σ w) (count b w) won lost c cs t k

      go : (cs : List Test) → candidates b σ w ≡ cs → chosen (count b w) (best_of (better b σ w) cs) ≡ none → Memᴰ t cs → ⊥
      go [] p q k = mathlib.Core.List.Memᴰ.not-nil k
      go (c ∷ cs) p q k =
          let z = nought (count b w (champion (better b σ w) c cs)) (champion (better b σ w) c cs) q in
          let y = most c cs (mathlib.Core.List.Memᴰ.cases_cons k) in
          let x = mem_length n in
          omega arith
