-- Two different sites in one class of a rule are ends of its pairs.
use Rattle.std.proofs.Common.{◌≡◌, ℕ, ◌+◌, ◌*◌, ◌<◌, ◌≤◌, true, false, eqb, ◌⊎◌, List, [], ◌∷◌, map, sym, refl, ap, ◌∙◌, subst, inl, inr, arith, eq-eqb, eqb-true}
use mathlib.Core.List.{Memᴰ}
use borrow.Author.Tests.{eqb-false}
use Rattle.definition.specs.Book.{slots, Pair, label, linked}
use Rattle.definition.specs.Lists.{◌is◌, upto, any}
use Rattle.definition.specs.Tables.{rule_word, pair_at, rule_at}
use Rattle.laws.specs.Members.{any_at, mem_map, mem_from, from_bounds, mem_map_of}
use Rattle.laws.specs.Tests.{split, clash, one_of, neither}
use Rattle.std.specs.Prelude.{Option, None, Some, MatchOption}
use Rattle.tables.specs.Held.{is_end, end_slot, Ended}

module _ (x : ℕ) where
  not_ends : (p : Pair) → is_end x p ≡ false → (p.a is x ≡ false) × (p.b is x ≡ false)
  unfolding is_end
  not_ends p e = neither (p.a is x) _ e

  outside : (ps : List Pair) → any (is_end x) ps ≡ false → (z : ℕ) → label ps z ≡ x → z ≡ x
  outside [] h z e = e
  outside (p ∷ ps) h z e = go (split (eqb (label ps z) (label ps p.b))) (neither (is_end x p) _ h) (outside ps)
    where
      go : (eqb (label ps z) (label ps p.b) ≡ true) ⊎ (eqb (label ps z) (label ps p.b) ≡ false) → (is_end x p ≡ false)
          × (any (is_end x) ps ≡ false) → (any (is_end x) ps ≡ false → (y : ℕ) → label ps y ≡ x → y ≡ x) → z ≡ x
      go (inl f) n rec = absurd (eqb-false p.a x (not_ends p n.0).0 (rec n.1 p.a (rw f at e)))
      go (inr f) n rec = rec n.1 z (rw f at e)

  own_label : (ps : List Pair) → any (is_end x) ps ≡ false → label ps x ≡ x
  own_label [] h = refl
  own_label (p ∷ ps) h = go (split (eqb (label ps x) (label ps p.b))) (neither (is_end x p) _ h) (own_label ps)
    where
      go : (eqb (label ps x) (label ps p.b) ≡ true) ⊎ (eqb (label ps x) (label ps p.b) ≡ false) → (is_end x p ≡ false)
          × (any (is_end x) ps ≡ false) → (any (is_end x) ps ≡ false → label ps x ≡ x) → label (p ∷ ps) x ≡ x
      go (inl f) n rec = absurd
          (eqb-false p.b x (not_ends p n.0).1 (outside ps n.1 p.b (sym (eqb-true (label ps x) (label ps p.b) f) ∙ rec n.1)))
      go (inr f) n rec = rw f (rec n.1)

pub linked_self : (ps : List Pair) (x y : ℕ) → x ≡ y → linked ps x y ≡ true
unfolding linked
linked_self ps x y e = eq-eqb (label ps x) (label ps y) (ap (label ps) e)

pub linked_flip : (ps : List Pair) (x y : ℕ) → linked ps x y ≡ true → linked ps y x ≡ true
unfolding linked
linked_flip ps x y e = eq-eqb (label ps y) (label ps x) (sym (eqb-true (label ps x) (label ps y) e))

-- x and y in one class: x is an end
pub linked_end : (ps : List Pair) (x y : ℕ) → linked ps x y ≡ true → (x ≡ y → ⊥) → any (is_end x) ps ≡ true
unfolding linked
linked_end ps x y e n = go (split (any (is_end x) ps))
  where
    go : (any (is_end x) ps ≡ true) ⊎ (any (is_end x) ps ≡ false) → any (is_end x) ps ≡ true
    go (inl f) = f
    go (inr f) = absurd (n (sym (outside x ps f y (sym (eqb-true (label ps x) (label ps y) e) ∙ own_label x ps f))))

-- what `rule_links` answers before it looks at labels
pub no_first_end : (ps : List Pair) (x y : ℕ) → (x ≡ y → ⊥) → any (is_end x) ps ≡ false → linked ps x y ≡ false
no_first_end ps x y n f = go (split (linked ps x y))
  where
    go : (linked ps x y ≡ true) ⊎ (linked ps x y ≡ false) → linked ps x y ≡ false
    go (inl e) = clash (linked_end ps x y e n) f
    go (inr e) = e

pub no_second_end : (ps : List Pair) (x y : ℕ) → (x ≡ y → ⊥) → any (is_end y) ps ≡ false → linked ps x y ≡ false
no_second_end ps x y n f = go (split (linked ps x y))
  where
    go : (linked ps x y ≡ true) ⊎ (linked ps x y ≡ false) → linked ps x y ≡ false
    go (inl e) = clash (linked_end ps y x (linked_flip ps x y e) (λ z. n (sym z))) f
    go (inr e) = e

-- THE PAIRS IN THEIR SLOTS
module _ (t : List ℕ) (i x : ℕ) where
  -- an end stands in the table
  at_end : (k j : ℕ) → k < rule_word slots t i 4 → j < 2 → end_slot t i (2 * k + j) ≡ x
      → Memᴰ x (map (end_slot t i) (upto (2 * rule_word slots t i 4)))
  at_end k j h l e = subst (λ z. Memᴰ z (map (end_slot t i) (upto (2 * rule_word slots t i 4)))) e
      (mem_map (end_slot t i) (2 * k + j) (upto (2 * rule_word slots t i 4))
      (mem_from 0 (2 * rule_word slots t i 4) (2 * k + j) (omega arith) (omega arith)))

  pub end_stands : any (is_end x) (rule_at slots t i).pairs ≡ true
      → Memᴰ x (map (end_slot t i) (upto (2 * rule_word slots t i 4)))
  unfolding rule_at is_end pair_at
  end_stands e =
      let r = any_at (is_end x) (map (pair_at slots t i) (upto (rule_word slots t i 4))) e in
      let q = mem_map_of (pair_at slots t i) r.0 (upto (rule_word slots t i 4)) r.1 in
      let b = from_bounds 0 (rule_word slots t i 4) q.0 q.1 in
      go q.0 (omega arith) (sym (ap (is_end x) q.2) ∙ r.2)
    where
      go : (k : ℕ) → k < rule_word slots t i 4 → is_end x (pair_at slots t i k) ≡ true
          → Memᴰ x (map (end_slot t i) (upto (2 * rule_word slots t i 4)))
      go k h f = either (one_of (eqb (rule_word slots t i (22 + 2 * k)) x) _ f)
        where
          either : (eqb (rule_word slots t i (22 + 2 * k)) x ≡ true) ⊎ (eqb (rule_word slots t i (22 + 2 * k + 1)) x ≡ true)
              → Memᴰ x (map (end_slot t i) (upto (2 * rule_word slots t i 4)))
          either (inl g) = at_end k 0 h (omega arith)
              (ap (λ j. rule_word slots t i j) (omega arith) ∙ eqb-true (rule_word slots t i (22 + 2 * k)) x g)
          either (inr g) = at_end k 1 h (omega arith)
              (ap (λ j. rule_word slots t i j) (omega arith) ∙ eqb-true (rule_word slots t i (22 + 2 * k + 1)) x g)

-- THE SEARCH for x among the n ends
module _ (t : List ℕ) (i x : ℕ) {n : ℕ} (e : n ≡ 2 * rule_word slots t i 4) where
  no_end : ((j : ℕ) → 0 ≤ j → j < n → end_slot t i j ≡ x → ⊥) → any (is_end x) (rule_at slots t i).pairs ≡ false
  no_end none = go (split (any (is_end x) (rule_at slots t i).pairs))
    where
      go : (any (is_end x) (rule_at slots t i).pairs ≡ true) ⊎ (any (is_end x) (rule_at slots t i).pairs ≡ false)
          → any (is_end x) (rule_at slots t i).pairs ≡ false
      go (inl f) =
          let q = mem_map_of (end_slot t i) x (upto (2 * rule_word slots t i 4)) (end_stands t i x f) in
          let b = from_bounds 0 (2 * rule_word slots t i 4) q.0 q.1 in
          absurd (none q.0 (omega arith) (omega arith) (sym q.2))
      go (inr f) = f

  pub end_found : n ≤ 8 → (r : Option ℕ)
      → MatchOption r ((j : ℕ) → 0 ≤ j → j < n → end_slot t i j ≡ x → ⊥)
      (λ k. (0 ≤ k) × (k < n) × (end_slot t i k ≡ x) × ((j : ℕ) → 0 ≤ j → j < k → end_slot t i j ≡ x → ⊥))
      → Ended t i x r
  end_found h None m = no_end m
  end_found h (Some k) m = (omega (arith, m.1), m.2)
