-- The book that the tables are, and what refusals 4 and 5 leave of an accepted book's tables: they may be read, and name ids below S.
use Rattle.std.proofs.Common.{◌≡◌, ℕ, zero, suc, ◌+◌, ◌*◌, ◌<◌, ◌≤◌, true, ◌&&◌, ◌⊎◌, List, length, get_or, refl, ap, ◌∙◌, subst, inl, inr, arith, ltb-true, leb-true}
use Rattle.definition.specs.Accept.{shape_ok, smaller_than, site_ok, sites_ok, constraint_ok, pair_ok, rule_ok, rules_ok}
use Rattle.definition.specs.Book.{slots, pair_slots, impure_slots, Site, no_site, site}
use Rattle.definition.specs.Lists.{◌below◌, upto, all}
use Rattle.definition.specs.Tables.{site_words, site_at, rule_words, rule_word, constraint_at, pair_at, rule_at, book_of}
use Rattle.laws.specs.Members.{all_at, mem_map, mem_from, getD_mem}
use Rattle.laws.specs.Tests.{both, every_at}
use Rattle.laws.specs.Ranges.{map_at}
use Rattle.theorems.specs.Refusals.{sites_length}
use Rattle.tables.specs.Held.{Sited, Held, site_slot, end_slot, Named}
use Rattle.tables.proofs.Fields.{source_count, constraint_count, pair_count, impure_count}

module _ (n S R : ℕ) (sites rules : List ℕ) where
  pub site_is : (s : ℕ) → s < S → site (book_of n S R sites rules) s ≡ site_at sites s
  unfolding book_of site
  site_is s h = map_at (site_at sites) 0 S s no_site h ∙ ap (site_at sites) (omega arith)

module _ (S R : ℕ) (sites rules : List ℕ) where
  module _ (e : sites_ok (book_of slots S R sites rules) ≡ true) (s : ℕ) (h : s < S) where
    site_passes : site_ok (book_of slots S R sites rules) s ≡ true
    unfolding sites_ok
    site_passes = all_at (site_ok (book_of slots S R sites rules)) e (let z = sites_length slots S R sites rules in mem_from 0 (length (book_of slots S R sites rules).sites) s (omega arith) (omega arith))

    -- the record's own tests, read at the table
    pub shape_passes : shape_ok (site_at sites s) ≡ true
    unfolding site_ok
    shape_passes = subst (λ x. shape_ok x ≡ true) (site_is slots S R sites rules s h) (every_at _ 0 site_passes)

    pub sources_below : (k : ℕ) → k < length (site_at sites s).sources → get_or (site_at sites s).sources k 0 < s
    unfolding site_ok smaller_than
    sources_below k l =
        let z : all (smaller_than s) (site_at sites s).sources ≡ true = subst (λ (x : Site). all (smaller_than s) x.sources ≡ true) (site_is slots S R sites rules s h) (every_at _ 1 site_passes) in
        ltb-true _ s (all_at (smaller_than s) z (getD_mem (site_at sites s).sources k 0 l))

    pub sited : site_words * S ≤ length sites → Sited sites s
    unfolding shape_ok
    sited l =
        let z : length (site_at sites s).sources ≤ 4 = leb-true _ 4 (every_at _ 3 shape_passes) in
        let y = source_count sites s in
        record { inside = omega arith; sources = omega arith }

  module _ (e : rules_ok slots (book_of slots S R sites rules) ≡ true) (i : ℕ) (h : i < R) where
    pub rule_passes : rule_ok slots S (rule_at slots rules i) ≡ true
    unfolding rules_ok book_of
    rule_passes = subst (λ k. rule_ok slots k (rule_at slots rules i) ≡ true) (sites_length slots S R sites rules) (all_at (rule_ok slots (length (book_of slots S R sites rules).sites)) e (mem_map (rule_at slots rules) i (upto R) (mem_from 0 R i (omega arith) (omega arith))))

    pub held : rule_words slots * R ≤ length rules → Held rules i
    unfolding rule_ok
    held l =
        let a : length (rule_at slots rules i).constraints ≤ slots = leb-true _ slots (every_at _ 0 rule_passes) in
        let b : length (rule_at slots rules i).pairs ≤ pair_slots = leb-true _ pair_slots (every_at _ 1 rule_passes) in
        let c : length (rule_at slots rules i).impure ≤ impure_slots = leb-true _ impure_slots (every_at _ 2 rule_passes) in
        let x = constraint_count rules i in
        let y = pair_count rules i in
        let z = impure_count rules i in
        record { inside = omega arith; constraints = omega arith; pairs = omega arith; impure = omega arith }

    pub result_below : (rule_at slots rules i).result < S
    unfolding rule_ok
    result_below = ltb-true (rule_at slots rules i).result S (every_at _ 3 rule_passes)

    pub impure_below : (k : ℕ) → k < length (rule_at slots rules i).impure → get_or (rule_at slots rules i).impure k 0 < S
    unfolding rule_ok smaller_than
    impure_below k l = ltb-true _ S (all_at (smaller_than S) (every_at _ 7 rule_passes) (getD_mem (rule_at slots rules i).impure k 0 l))

    constraint_below : (k : ℕ) → k < rule_word slots rules i 3 → site_slot rules i k < S
    unfolding rule_ok rule_at constraint_at constraint_ok
    constraint_below k l =
        let m = mem_map (constraint_at slots rules i) k (upto (rule_word slots rules i 3)) (mem_from 0 (rule_word slots rules i 3) k (omega arith) (omega arith)) in
        ltb-true (site_slot rules i k) S (both (site_slot rules i k below S) _ (all_at (constraint_ok S) (every_at _ 4 rule_passes) m)).0

    pair_below : (k : ℕ) → k < rule_word slots rules i 4 → (end_slot rules i (2 * k) < S) × (end_slot rules i (2 * k + 1) < S)
    unfolding rule_ok rule_at pair_at pair_ok
    pair_below k l =
        let a = rule_word slots rules i (22 + 2 * k) in
        let b = rule_word slots rules i (22 + 2 * k + 1) in
        let m = mem_map (pair_at slots rules i) k (upto (rule_word slots rules i 4)) (mem_from 0 (rule_word slots rules i 4) k (omega arith) (omega arith)) in
        let p = both (rule_word slots rules i (22 + 2 * k) below S && rule_word slots rules i (22 + 2 * k + 1) below S) _ (all_at (pair_ok S) (every_at _ 6 rule_passes) m) in
        let q = both (rule_word slots rules i (22 + 2 * k) below S) _ p.0 in
        let f : a < S = ltb-true _ S q.0 in
        let g : b < S = ltb-true _ S q.1 in
        let u : end_slot rules i (2 * k) ≡ a = ap (λ j. rule_word slots rules i j) (omega arith) in
        let v : end_slot rules i (2 * k + 1) ≡ b = ap (λ j. rule_word slots rules i j) (omega arith) in
        (omega arith, omega arith)

    end_below : (k : ℕ) → k < 2 * rule_word slots rules i 4 → end_slot rules i k < S
    end_below k l = go (half k)
      where
        half : (k : ℕ) → (m : ℕ) × ((k ≡ 2 * m) ⊎ (k ≡ 2 * m + 1))
        half zero = (0, inl refl)
        half (suc k) = up (half k)
          where
            up : (m : ℕ) × ((k ≡ 2 * m) ⊎ (k ≡ 2 * m + 1)) → (m : ℕ) × ((suc k ≡ 2 * m) ⊎ (suc k ≡ 2 * m + 1))
            up (m, inl q) = (m, inr (omega arith))
            up (m, inr q) = (suc m, inl (omega arith))

        go : (m : ℕ) × ((k ≡ 2 * m) ⊎ (k ≡ 2 * m + 1)) → end_slot rules i k < S
        go (m, inl q) = rw q (pair_below m (omega arith)).0
        go (m, inr q) = rw q (pair_below m (omega arith)).1

    pub rule_named : Named S rules i
    rule_named = record { sites = constraint_below; ends = end_below }
