-- What refusals 4 to 8 leave: the facts of an accepted book that the tree's theorems stand on.
use Rattle.std.specs.Prelude.{◌≡◌, refl, ◌⊎◌, false, ◌&&◌, not, ℕ, suc, ◌≤◌, ◌<◌, ltb, length}
use Rattle.std.proofs.Math.Path.{sym, subst}
use Rattle.std.proofs.Common.{◌∙◌, ap, inl, inr, arith}
use Rattle.std.proofs.Math.Bool.{true}
use mathlib.Core.List.Memᴰ
use mathlib.Core.List.{List, [], ◌∷◌, ◌++◌, map, Memᴰ}
use Rattle.std.proofs.Math.Dec.{eqb}
use Rattle.std.proofs.Math.ListN.{get_or, get_or-eq_default}
use borrow.Author.Tests.{eqb-true, eqb-false, eq-eqb, ltb-true, ltb-false, leb-true, not-true}
use Rattle.definition.specs.Lists.{every, any, flat, same_number}
use Rattle.laws.specs.Tests.{split, every_at, both, and, clash, implied}
use Rattle.laws.specs.Members.{all_at, any_from, mem_length, mem_from, mem_flat, mem_map_of, mem_flat_of, getD_mem, lone_list}
use Rattle.definition.specs.Book.{Book, Site, Rule, Constraint, Pair, site, no_site, rule, no_rule, pattern_on, pattern_in, constrains, is_on}
use Rattle.definition.specs.Accept.{shape_ok, twins, site_ok, sites_ok, pattern_ok, once, rule_ok, rules_ok, fields_agree, fields_ok, apart, sound_below, named, sound, constraints_of, ends, agrees_with, apart_ok, constraint_ok, no_twin, pair_apart, pair_ok, site_of, smaller_than, sound_from, sound_ok}
use Rattle.laws.specs.Orders.{same_number_self}

pub record Good (b : Book) : Type 0 where
  pub low : (x r : ℕ) → Memᴰ r (site b x).sources → r < x
  pub lone : (x y z : ℕ) → (site b x).kind ≡ 7 → Memᴰ y (site b x).sources → Memᴰ z (site b x).sources → y ≡ z
  pub twin : (x y : ℕ) → (site b x).kind ≡ 7 → (site b y).kind ≡ 7 → (s : ℕ) → Memᴰ s (site b x).sources → Memᴰ s (site b y).sources
      → (site b x).pattern ≡ (site b y).pattern → (site b x).number ≡ (site b y).number → (site b x).position ≡ (site b y).position → x ≡ y
  pub unique : (i : ℕ) (c : Constraint) → Memᴰ c (rule b i).constraints → pattern_on (rule b i) c.site ≡ c.pattern
  pub fields : (i j : ℕ) (c e : Constraint) → Memᴰ c (rule b i).constraints → Memᴰ e (rule b j).constraints
      → c.site ≡ e.site → c.pattern.kind ≡ e.pattern.kind → c.pattern.number ≡ e.pattern.number → c.pattern.fields ≡ e.pattern.fields
  pub apart : (i : ℕ) (p : Pair) → Memᴰ p (rule b i).pairs → (constrains (rule b i) p.a ≡ false) × (constrains (rule b i) p.b ≡ false)
  pub differ : (i : ℕ) (p : Pair) → Memᴰ p (rule b i).pairs → p.a ≡ p.b → ⊥
  pub known : (i s : ℕ) → i < length b.rules → Memᴰ s (named (rule b i)) → s < length b.sites
  pub sound : (i s : ℕ) → i < length b.rules → Memᴰ s (named (rule b i)) → sound_below (suc s) b (rule b i) s ≡ true

-- the tests passed; m is the most constraints of a rule
pub record Passed (m : ℕ) (b : Book) : Type 0 where
  pub four : sites_ok b ≡ true
  pub five : rules_ok m b ≡ true
  pub six : fields_ok b ≡ true
  pub seven : apart_ok b ≡ true
  pub eight : sound_ok b ≡ true

pub inside_book : (b : Book) (x : ℕ) → (site b x).kind ≡ 7 → x < length b.sites
unfolding site no_site
inside_book b x e = go (split (ltb x (length b.sites)))
  where
    go : (ltb x (length b.sites) ≡ true) ⊎ (ltb x (length b.sites) ≡ false) → x < length b.sites
    go (inl q) = ltb-true x (length b.sites) q
    go (inr q) =
        let z : ◌≡◌ {A = ℕ} 0 7 = sym (ap (λ (s : Site). s.kind) (get_or-eq_default b.sites no_site (ltb-false x (length b.sites) q))) ∙ e in
        absurd (omega arith)

-- LISTS
once_unique : (cs : List Constraint) → once cs ≡ true → (c : Constraint) → Memᴰ c cs → pattern_in cs c.site ≡ c.pattern
unfolding is_on
once_unique [] e c m = absurd (Memᴰ.not-nil m)
once_unique (k ∷ cs) e c m = go (Memᴰ.cases_cons m) (split (eqb k.site c.site)) (once_unique cs)
  where
    none_later : any (is_on k.site) cs ≡ false
    none_later = not-true _ (both (not (any (is_on k.site) cs)) _ e).0

    go : (c ≡ k) ⊎ Memᴰ c cs → (eqb k.site c.site ≡ true) ⊎ (eqb k.site c.site ≡ false)
        → (once cs ≡ true → (d : Constraint) → Memᴰ d cs → pattern_in cs d.site ≡ d.pattern) → pattern_in (k ∷ cs) c.site ≡ c.pattern
    go (inl q) (inl f) rec = rw f (ap (λ (d : Constraint). d.pattern) (sym q))
    go (inl q) (inr f) rec = absurd (eqb-false k.site c.site f (ap (λ (d : Constraint). d.site) (sym q)))
    go (inr n) (inl f) rec = clash (any_from (is_on k.site) n (eq-eqb c.site k.site (sym (eqb-true k.site c.site f)))) none_later
    go (inr n) (inr f) rec = rw f (rec (both (not (any (is_on k.site) cs)) _ e).1 c n)

-- a rule is in the book, or asks nothing
rule_cases : (b : Book) (i : ℕ) → Memᴰ (rule b i) b.rules ⊎ (rule b i ≡ no_rule)
unfolding rule
rule_cases b i = go (split (ltb i (length b.rules)))
  where
    go : (ltb i (length b.rules) ≡ true) ⊎ (ltb i (length b.rules) ≡ false) → Memᴰ (get_or b.rules i no_rule) b.rules ⊎ (get_or b.rules i no_rule ≡ no_rule)
    go (inl e) = inl (getD_mem b.rules i no_rule (ltb-true i (length b.rules) e))
    go (inr e) = inr (get_or-eq_default b.rules no_rule (ltb-false i (length b.rules) e))

pub rule_in : (b : Book) (i : ℕ) → i < length b.rules → Memᴰ (rule b i) b.rules
unfolding rule
rule_in b i h = getD_mem b.rules i no_rule h

no_constraint : (b : Book) (i : ℕ) (c : Constraint) → rule b i ≡ no_rule → Memᴰ c (rule b i).constraints → ⊥
unfolding no_rule
no_constraint b i c e m = Memᴰ.not-nil (subst (λ (r : Rule). Memᴰ c r.constraints) e m)

no_pair : (b : Book) (i : ℕ) (p : Pair) → rule b i ≡ no_rule → Memᴰ p (rule b i).pairs → ⊥
unfolding no_rule
no_pair b i p e m = Memᴰ.not-nil (subst (λ (r : Rule). Memᴰ p r.pairs) e m)

no_source : (b : Book) (x r : ℕ) → length b.sites ≤ x → Memᴰ r (site b x).sources → ⊥
unfolding site no_site
no_source b x r h m = Memᴰ.not-nil (subst (λ (s : Site). Memᴰ r s.sources) (get_or-eq_default b.sites no_site h) m)

-- the parts of a rule's test, of a book of S sites
pub record RuleParts (m S : ℕ) (r : Rule) : Type 0 where
  pub few : length r.constraints ≤ m
  pub few_pairs : length r.pairs ≤ 4
  pub result_known : r.result < S
  pub constraint_right : (c : Constraint) → Memᴰ c r.constraints → (c.site < S) × (pattern_ok c.pattern ≡ true)
  pub each_once : once r.constraints ≡ true
  pub pair_right : (p : Pair) → Memᴰ p r.pairs → (p.a < S) × (p.b < S) × (p.a ≡ p.b → ⊥)
  pub impure_known : (s : ℕ) → Memᴰ s r.impure → s < S

rule_parts : (m S : ℕ) (r : Rule) → rule_ok m S r ≡ true → RuleParts m S r
unfolding rule_ok constraint_ok pair_ok smaller_than
rule_parts m S r e = record {
  few = leb-true (length r.constraints) m (every_at _ 0 e);
  few_pairs = leb-true (length r.pairs) 4 (every_at _ 1 e);
  result_known = ltb-true r.result S (every_at _ 3 e);
  constraint_right = λ c k. let q = both (ltb c.site S) _ (all_at (constraint_ok S) (every_at _ 4 e) k) in (ltb-true c.site S q.0, q.1);
  each_once = every_at _ 5 e;
  pair_right = λ p k.
      let q = both (ltb p.a S && ltb p.b S) _ (all_at (pair_ok S) (every_at _ 6 e) k) in
      let q' = both (ltb p.a S) _ q.0 in
      (ltb-true p.a S q'.0, ltb-true p.b S q'.1, eqb-false p.a p.b (not-true _ q.1));
  impure_known = λ s k. ltb-true s S (all_at (smaller_than S) (every_at _ 7 e) k);
}

module _ (m : ℕ) (b : Book) (h : Passed m b) where
  pub rule_of : (i : ℕ) → Memᴰ (rule b i) b.rules → RuleParts m (length b.sites) (rule b i)
  unfolding rules_ok
  rule_of i k = rule_parts m (length b.sites) (rule b i) (all_at (rule_ok m (length b.sites)) h.five k)

  site_right : (x : ℕ) → x < length b.sites → site_ok b x ≡ true
  unfolding sites_ok
  site_right x l = all_at (site_ok b) h.four (mem_from 0 (length b.sites) x (omega arith) (omega arith))

  low' : (x r : ℕ) → Memᴰ r (site b x).sources → r < x
  unfolding site_ok smaller_than
  low' x r k = go (split (ltb x (length b.sites)))
    where
      go : (ltb x (length b.sites) ≡ true) ⊎ (ltb x (length b.sites) ≡ false) → r < x
      go (inl e) = ltb-true r x (all_at (smaller_than x) (every_at _ 1 (site_right x (ltb-true x (length b.sites) e))) k)
      go (inr e) = absurd (no_source b x r (ltb-false x (length b.sites) e) k)

  lone' : (x y z : ℕ) → (site b x).kind ≡ 7 → Memᴰ y (site b x).sources → Memᴰ z (site b x).sources → y ≡ z
  unfolding site_ok shape_ok
  lone' x y z e my mz =
      let n = inside_book b x e in
      let s : shape_ok (site b x) ≡ true = every_at _ 0 (site_right x n) in
      lone_list (site b x).sources (eqb-true (length (site b x).sources) 1 (implied (eqb (site b x).kind 7) _ (eq-eqb (site b x).kind 7 e) (every_at _ 4 s))) y z my mz

  not_twins : (x y : ℕ) → x < y → y < length b.sites → twins (site b x) (site b y) ≡ false
  unfolding site_ok no_twin
  not_twins x y l k = not-true _ (all_at (no_twin b y) (every_at _ 2 (site_right y k)) (mem_from 0 y x (omega arith) (omega arith)))

  is_twins : (x y : ℕ) → (site b x).kind ≡ 7 → (site b y).kind ≡ 7 → (s : ℕ) → Memᴰ s (site b x).sources → Memᴰ s (site b y).sources
      → (site b x).pattern ≡ (site b y).pattern → (site b x).number ≡ (site b y).number → (site b x).position ≡ (site b y).position → twins (site b x) (site b y) ≡ true
  unfolding twins every
  is_twins x y kx ky s mx my p n q =
      let fx : get_or (site b x).sources 0 0 ≡ s = lone' x _ s kx (getD_mem (site b x).sources 0 0 (mem_length mx)) mx in
      let fy : get_or (site b y).sources 0 0 ≡ s = lone' y _ s ky (getD_mem (site b y).sources 0 0 (mem_length my)) my in
      and (eq-eqb (site b x).kind 7 kx)
      (and (eq-eqb (site b y).kind 7 ky)
      (and (eq-eqb (get_or (site b x).sources 0 0) (get_or (site b y).sources 0 0) (fx ∙ sym fy))
      (and (eq-eqb (site b x).pattern (site b y).pattern p)
      (and (subst (λ z. same_number (site b x).number z ≡ true) n (same_number_self (site b x).number))
      (and (eq-eqb (site b x).position (site b y).position q) refl)))))

  twin' : (x y : ℕ) → (site b x).kind ≡ 7 → (site b y).kind ≡ 7 → (s : ℕ) → Memᴰ s (site b x).sources → Memᴰ s (site b y).sources
      → (site b x).pattern ≡ (site b y).pattern → (site b x).number ≡ (site b y).number → (site b x).position ≡ (site b y).position → x ≡ y
  twin' x y kx ky s mx my p n q = go (split (ltb x y)) (split (ltb y x))
    where
      go : (ltb x y ≡ true) ⊎ (ltb x y ≡ false) → (ltb y x ≡ true) ⊎ (ltb y x ≡ false) → x ≡ y
      go (inl e) f = clash (is_twins x y kx ky s mx my p n q) (not_twins x y (ltb-true x y e) (inside_book b y ky))
      go (inr e) (inl f) = clash (is_twins y x ky kx s my mx (sym p) (sym n) (sym q)) (not_twins y x (ltb-true y x f) (inside_book b x kx))
      go (inr e) (inr f) = let z = ltb-false x y e in let w = ltb-false y x f in omega arith

  unique' : (i : ℕ) (c : Constraint) → Memᴰ c (rule b i).constraints → pattern_on (rule b i) c.site ≡ c.pattern
  unfolding pattern_on
  unique' i c k = go (rule_cases b i)
    where
      go : Memᴰ (rule b i) b.rules ⊎ (rule b i ≡ no_rule) → pattern_in (rule b i).constraints c.site ≡ c.pattern
      go (inl n) = once_unique (rule b i).constraints (rule_of i n).each_once c k
      go (inr e) = absurd (no_constraint b i c e k)

  in_all : (i : ℕ) (c : Constraint) → Memᴰ c (rule b i).constraints → Memᴰ c (flat constraints_of b.rules)
  unfolding constraints_of
  in_all i c k = go (rule_cases b i)
    where
      go : Memᴰ (rule b i) b.rules ⊎ (rule b i ≡ no_rule) → Memᴰ c (flat constraints_of b.rules)
      go (inl n) = mem_flat constraints_of c (rule b i) b.rules n k
      go (inr e) = absurd (no_constraint b i c e k)

  fields' : (i j : ℕ) (c e : Constraint) → Memᴰ c (rule b i).constraints → Memᴰ e (rule b j).constraints
      → c.site ≡ e.site → c.pattern.kind ≡ e.pattern.kind → c.pattern.number ≡ e.pattern.number → c.pattern.fields ≡ e.pattern.fields
  unfolding fields_ok fields_agree agrees_with
  fields' i j c e mc me p q r =
      let cs = flat constraints_of b.rules in
      let f : fields_agree c e ≡ true = all_at (fields_agree c) (all_at (agrees_with (flat constraints_of b.rules)) h.six (in_all i c mc)) (in_all j e me) in
      let n : same_number c.pattern.number e.pattern.number ≡ true = subst (λ z. same_number c.pattern.number z ≡ true) r (same_number_self c.pattern.number) in
      eqb-true c.pattern.fields e.pattern.fields
      (implied (eqb c.site e.site && eqb c.pattern.kind e.pattern.kind && same_number c.pattern.number e.pattern.number) _
      (and (and (eq-eqb c.site e.site p) (eq-eqb c.pattern.kind e.pattern.kind q)) n) f)

  apart' : (i : ℕ) (p : Pair) → Memᴰ p (rule b i).pairs → (constrains (rule b i) p.a ≡ false) × (constrains (rule b i) p.b ≡ false)
  unfolding apart_ok apart pair_apart
  apart' i p k = go (rule_cases b i)
    where
      go : Memᴰ (rule b i) b.rules ⊎ (rule b i ≡ no_rule) → (constrains (rule b i) p.a ≡ false) × (constrains (rule b i) p.b ≡ false)
      go (inl n) =
          let q = both (not (constrains (rule b i) p.a)) _ (all_at (pair_apart (rule b i)) (all_at apart h.seven n) k) in
          (not-true _ q.0, not-true _ q.1)
      go (inr e) = absurd (no_pair b i p e k)

  differ' : (i : ℕ) (p : Pair) → Memᴰ p (rule b i).pairs → p.a ≡ p.b → ⊥
  differ' i p k = go (rule_cases b i)
    where
      go : Memᴰ (rule b i) b.rules ⊎ (rule b i ≡ no_rule) → p.a ≡ p.b → ⊥
      go (inl n) = ((rule_of i n).pair_right p k).2
      go (inr e) = absurd (no_pair b i p e k)

  known' : (i s : ℕ) → i < length b.rules → Memᴰ s (named (rule b i)) → s < length b.sites
  unfolding named site_of ends
  known' i s l k = go₁ (Memᴰ.append_cases (map site_of r.constraints ++ flat ends r.pairs ++ r.impure) k)
    where
      r : Rule
      r = rule b i

      q : RuleParts m (length b.sites) r
      q = rule_of i (rule_in b i l)

      two : (p : Pair) → Memᴰ p r.pairs → (s ≡ p.a) ⊎ Memᴰ s (p.b ∷ []) → s < length b.sites
      two p n (inl e) = let z = q.pair_right p n in omega arith
      two p n (inr e) = let z = q.pair_right p n in let y = Memᴰ.eq_of_singleton e in omega arith

      go₃ : Memᴰ s (map site_of r.constraints) ⊎ Memᴰ s (flat ends r.pairs) → s < length b.sites
      go₃ (inl n) = let z = mem_map_of site_of s r.constraints n in let y = (q.constraint_right z.0 z.1).0 in let e = z.2 in omega arith
      go₃ (inr n) = let z = mem_flat_of ends s r.pairs n in two z.0 z.1 (Memᴰ.cases_cons z.2)

      go₂ : Memᴰ s (map site_of r.constraints ++ flat ends r.pairs) ⊎ Memᴰ s r.impure → s < length b.sites
      go₂ (inl n) = go₃ (Memᴰ.append_cases (map site_of r.constraints) n)
      go₂ (inr n) = q.impure_known s n

      go₁ : Memᴰ s (map site_of r.constraints ++ flat ends r.pairs ++ r.impure) ⊎ Memᴰ s (r.result ∷ []) → s < length b.sites
      go₁ (inl n) = go₂ (Memᴰ.append_cases (map site_of r.constraints ++ flat ends r.pairs) n)
      go₁ (inr n) = let z = q.result_known in let y = Memᴰ.eq_of_singleton n in omega arith

  sound' : (i s : ℕ) → i < length b.rules → Memᴰ s (named (rule b i)) → sound_below (suc s) b (rule b i) s ≡ true
  unfolding sound_ok sound sound_from
  sound' i s l k = all_at (sound_from b (rule b i)) (all_at (sound b) h.eight (rule_in b i l)) k

  pub good : Good b
  good = record { low = low'; lone = lone'; twin = twin'; unique = unique'; fields = fields'; apart = apart'; differ = differ'; known = known'; sound = sound' }
