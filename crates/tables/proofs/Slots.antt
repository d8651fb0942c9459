-- A rule's constraints and pairs in their slots, as the loops of `tables` meet them.
use Rattle.std.proofs.Common.{◌≡◌, ℕ, zero, suc, ◌+◌, ◌-◌, ◌*◌, ◌<◌, ◌≤◌, true, false, eqb, List, [], ◌∷◌, map, length, get_or, sym, refl, ap, ◌∙◌, subst, arith, ◌⊎◌, inl, inr, eqb-true}
use Rattle.std.specs.Prelude.{Option, None, Some, MatchOption}
use lib.ListN.{length-map}
use Rattle.definition.specs.Book.{slots, is_on, constrains, pattern_in, pattern_on, label, linked}
use Rattle.definition.specs.Lists.{◌is◌, from, upto, any}
use Rattle.definition.specs.Tables.{signed, rule_word, constraint_start, constraint_at, pair_at, rule_at}
use Rattle.laws.specs.Tests.{split}
use borrow.Author.Tests.{eqb-false, eq-eqb, ne_eqb}
use Rattle.laws.specs.Loops.{relabel, map_inside}
use Rattle.tables.specs.Held.{shown, last_pairs, site_slot, end_slot, FirstOn, Labels, Ended}
use Rattle.tables.specs.declared.Pattern.{Pattern}

module _ (t : List ℕ) (i s : ℕ) where
  pub constrains_all : {n : ℕ} → n ≡ rule_word slots t i 3
      → any (is_on s) (map (constraint_at slots t i) (upto n)) ≡ constrains (rule_at slots t i) s
  unfolding constrains rule_at
  constrains_all e = rw e

  -- the first constraint on s, of n from slot a on
  pattern_first : (a n k : ℕ) → a ≤ k → k < a + n → site_slot t i k ≡ s → ((j : ℕ) → a ≤ j → j < k → site_slot t i j ≡ s → ⊥)
      → (constraint_at slots t i k).pattern ≡ pattern_in (map (constraint_at slots t i) (from a n)) s
  unfolding constraint_at
  pattern_first a zero k l h e none = absurd (omega arith)
  pattern_first a (suc n) k l h e none = go (split (eqb a k))
      (λ m. pattern_first (suc a) n k m (omega arith) e (λ j q. none j (omega arith)))
    where
      go : (eqb a k ≡ true) ⊎ (eqb a k ≡ false)
          → (suc a ≤ k → (constraint_at slots t i k).pattern ≡ pattern_in (map (constraint_at slots t i) (from (suc a) n)) s)
          → (constraint_at slots t i k).pattern ≡ pattern_in (map (constraint_at slots t i) (from a (suc n))) s
      go (inl q) rec = let z = eqb-true a k q in rw (z, eq-eqb (site_slot t i k) s e)
      go (inr q) rec = let z = eqb-false a k q in
          rw (ne_eqb (site_slot t i a) s (none a (omega arith) (omega arith))) (rec (omega arith))

  pattern_none : (a n : ℕ) → ((j : ℕ) → a ≤ j → j < a + n → site_slot t i j ≡ s → ⊥)
      → pattern_in [] s ≡ pattern_in (map (constraint_at slots t i) (from a n)) s
  unfolding constraint_at
  pattern_none a zero none = refl
  pattern_none a (suc n) none = rw (ne_eqb (site_slot t i a) s (none a (omega arith) (omega arith)))
      (pattern_none (suc a) n (λ j q h. none j (omega arith) (omega arith)))

  pub first_on : {n : ℕ} → n ≡ rule_word slots t i 3 → (r : Option ℕ)
      → MatchOption r ((j : ℕ) → 0 ≤ j → j < n → site_slot t i j ≡ s → ⊥)
      (λ k. (0 ≤ k) × (k < n) × (site_slot t i k ≡ s) × ((j : ℕ) → 0 ≤ j → j < k → site_slot t i j ≡ s → ⊥))
      → FirstOn t i s r
  first_on e None m = λ j q h. m j (omega arith) (omega arith) h
  first_on e (Some k) m = (omega (arith, m.1), m.2, λ j q h. m.3 j (omega arith) q h)

  pub pattern_found : {k : ℕ} → FirstOn t i s (Some k) → (constraint_at slots t i k).pattern ≡ pattern_on (rule_at slots t i) s
  unfolding pattern_on rule_at
  pattern_found {k} f = pattern_first 0 (rule_word slots t i 3) k (omega arith) (omega (arith, f.0)) f.1 (λ j _ q. f.2 j q)

  pub pattern_missing : FirstOn t i s None → pattern_in [] s ≡ pattern_on (rule_at slots t i) s
  unfolding pattern_on rule_at
  pattern_missing f = pattern_none 0 (rule_word slots t i 3) (λ j _ q. f j (omega arith))

-- the pattern in slot k, word by word
pub slot_shown : (t : List ℕ) (i k : ℕ) (p : Pattern) → p.kind ≡ rule_word slots t i (constraint_start k + 1)
    → p.fields ≡ rule_word slots t i (constraint_start k + 2) → p.number ≡ signed (rule_word slots t i (constraint_start k + 3))
    → shown p ≡ (constraint_at slots t i k).pattern
unfolding constraint_at
slot_shown t i k p e f g = rw (e, f, g)

-- PAIRS, from the last on
module _ (t : List ℕ) (i : ℕ) where
  pairs_all : (n : ℕ) → n ≡ rule_word slots t i 4 → last_pairs t i n ≡ (rule_at slots t i).pairs
  unfolding last_pairs rule_at
  pairs_all n e = let z : rule_word slots t i 4 - n ≡ 0 = omega arith in rw (z, e)

  pairs_none : (x n : ℕ) → n ≡ 0 → label (last_pairs t i n) x ≡ x
  unfolding last_pairs
  pairs_none x n e = rw e

  pairs_more : (n : ℕ) → (n ≡ 0 → ⊥) → n ≤ rule_word slots t i 4
      → last_pairs t i n ≡ pair_at slots t i (rule_word slots t i 4 - n) ∷ last_pairs t i (n - 1)
  unfolding last_pairs
  pairs_more n f h =
      let m = rule_word slots t i 4 in
      let x : n ≡ suc (n - 1) = omega arith in
      let y : suc (m - n) ≡ m - (n - 1) = omega arith in
      ap (λ j. map (pair_at slots t i) (from (m - n) j)) x ∙ rw y

  pub own_label_each : {l : List ℕ} → length l ≡ 8 → ((k : ℕ) → k < 8 → get_or l k 0 ≡ end_slot t i k) → Labels t i 0 l
  own_label_each h e = record { long = h; each = λ k h. e k h ∙ sym (pairs_none (end_slot t i k) 0 refl) }

  pub labels_now : {l : List ℕ} {n m : ℕ} → Labels t i n l → n ≡ m → Labels t i m l
  labels_now {l} v e = subst (λ m. Labels t i m l) e v

  -- one pair more, that in slot k: what has the label of its second end gets that of its first
  pub label_turn : {l : List ℕ} {n k : ℕ} → Labels t i n l → k + n + 1 ≡ rule_word slots t i 4 → k < 4
      → Labels t i (n + 1) (map (relabel (get_or l (2 * k + 1) 0) (get_or l (2 * k) 0)) l)
  unfolding pair_at
  label_turn {l} {n} {k} v e h = record {
    long = length-map l (relabel (get_or l (2 * k + 1) 0) (get_or l (2 * k) 0)) ∙ v.long;
    each = λ j q.
        let m : rule_word slots t i 4 - (n + 1) ≡ k = omega arith in
        let p : n + 1 - 1 ≡ n = omega arith in
        let z : 22 + (2 * k + 1) ≡ 22 + 2 * k + 1 = omega arith in
        map_inside (relabel (get_or l (2 * k + 1) 0) (get_or l (2 * k) 0)) l j 0 0 (omega (arith, v.long))
        ∙ rw (
          v.each j q,
          v.each (2 * k) (omega arith),
          v.each (2 * k + 1) (omega arith),
          z,
          pairs_more (n + 1)
              (λ y. omega arith) (omega arith),
          m,
          p,
        );
  }

  -- all pairs are joined: the labels of two ends tell whether they are linked
  pub labels_tell : {l : List ℕ} {x y j k : ℕ} → Labels t i (rule_word slots t i 4) l → Ended t i x (Some j)
      → Ended t i y (Some k) → get_or l j 0 is get_or l k 0 ≡ linked (rule_at slots t i).pairs x y
  unfolding linked
  labels_tell v p q = rw (v.each _ p.0, v.each _ q.0, p.1, q.1, pairs_all _ refl)
