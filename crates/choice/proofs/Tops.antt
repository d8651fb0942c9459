-- A test of positive count is had by a rule of the highest priority, so the search over those rules' tests misses nothing.
use mathlib.Core.Path.{◌≡◌, sym, ap, subst, ◌∙◌}
use mathlib.Core.Logic.{◌⊎◌, inl, inr}
use mathlib.Core.Bool.{true}
use mathlib.Core.List.{List, map, Memᴰ}
use Prim.Native.Nat.{ℕ, ◌*◌, ◌≤◌, ◌<◌, max}
use native.Mathlib.Omega.{arith}
use lib.Dec.{leb}
use borrow.Author.Tests.{eqb-true, eq-eqb, leb-true, lt-ltb}
use Rattle.definition.specs.Book.{slots, is_on, constrains, linked}
use Rattle.definition.specs.Choice.{Test, has, on, same}
use Rattle.definition.specs.Lists.{upto, filter, all}
use Rattle.definition.specs.Tables.{rule_word, constraint_at, rule_at}
use Rattle.laws.specs.Greatest.{greatest, greatest_over, greatest_of}
use Rattle.laws.specs.Members.{all_at, any_at, filter_in, some_member, mem_map, mem_map_of}
use Rattle.laws.specs.Tests.{both, one_of}
use Rattle.theorems.specs.Choices.{Known}
use Rattle.tables.specs.Held.{rank_of, site_slot, end_slot}
use Rattle.tables.proofs.Ends.{linked_flip, linked_end, end_stands}
use Rattle.order.specs.Parts.{rule_tests, lack_top, passes_top}
use Rattle.order.proofs.Asks.{bars_not, lack_all}
use Rattle.choice.specs.Worth.{count_of, match_worth, pair_worth, constraints_worth, end_worth, pairs_worth, rank_above, top_of, rule_worth, part_worth}

-- a rule of the highest priority that has the test
pub record TopHas (rules part : List ℕ) (t : Test) : Type 0 where
  pub rule : ℕ
  pub member : Memᴰ rule part
  pub top : rank_above rules rule ≡ top_of rules part
  pub has_it : has (rule_at slots rules rule) t ≡ true

pub top_has : (rules part : List ℕ) (t : Test) → 0 < count_of rules t part → TopHas rules part t
unfolding count_of passes_top rule_tests top_of rank_above
top_has rules part t h =
    let T = lack_top (rule_tests rules t) (rank_of rules) part in
    let s = some_member (filter (passes_top rules t T) part) h in
    let c = filter_in (passes_top rules t T) s.0 part s.1 in
    let q = both (has (rule_at slots rules s.0) t) _ c.1 in
    let g = greatest_over (rank_above rules) s.0 part c.0 in
    let m = greatest_of (rank_above rules) part (omega arith) in
    let a : all (bars_not (rule_tests rules t) (rank_of rules) (rank_of rules s.0)) part ≡ true = sym (lack_all (rule_tests rules t) (rank_of rules) (rank_of rules s.0) part) ∙ q.1 in
    let o = one_of (has (rule_at slots rules m.0) t) _ (all_at (bars_not (rule_tests rules t) (rank_of rules) (rank_of rules s.0)) a m.1) in
    go s.0 c.0 q.0 g m.0 m.1 m.2 o
  where
    go : (i : ℕ) → Memᴰ i part → has (rule_at slots rules i) t ≡ true → rank_above rules i ≤ greatest (rank_above rules) part
        → (m : ℕ) → Memᴰ m part → rank_above rules m ≡ greatest (rank_above rules) part → (has (rule_at slots rules m) t ≡ true) ⊎ (leb (rank_of rules m) (rank_of rules i) ≡ true) → TopHas rules part t
    go i mi hi g m mm em (inl e) = record { rule = m; member = mm; top = em; has_it = e }
    go i mi hi g m mm em (inr e) = record { rule = i; member = mi; top = (let x = leb-true (rank_of rules m) (rank_of rules i) e in omega arith); has_it = hi }

-- a test that rule i has is among those tried
module _ (w : Test → ℕ) (rules : List ℕ) (i : ℕ) where
  pub on_tried : (s : ℕ) → constrains (rule_at slots rules i) s ≡ true → w (on s) ≤ constraints_worth w rules i
  unfolding constraints_worth match_worth constrains rule_at constraint_at is_on
  on_tried s e =
      let n = rule_word slots rules i 3 in
      let r = any_at (is_on s) (map (constraint_at slots rules i) (upto (rule_word slots rules i 3))) e in
      let q = mem_map_of (constraint_at slots rules i) r.0 (upto (rule_word slots rules i 3)) r.1 in
      let f : site_slot rules i q.0 ≡ s = eqb-true (site_slot rules i q.0) s (sym (ap (is_on s) q.2) ∙ r.2) in
      greatest_over (match_worth w) s (map (site_slot rules i) (upto (rule_word slots rules i 3)))
      (subst (λ x. Memᴰ x (map (site_slot rules i) (upto (rule_word slots rules i 3)))) f (mem_map (site_slot rules i) q.0 (upto (rule_word slots rules i 3)) q.1))

  pub same_tried : (x y : ℕ) → x < y → linked (rule_at slots rules i).pairs x y ≡ true → w (same x y) ≤ pairs_worth w rules i
  unfolding pairs_worth end_worth pair_worth
  same_tried x y h e =
      let mx = end_stands rules i x (linked_end (rule_at slots rules i).pairs x y e (λ z. omega arith)) in
      let my = end_stands rules i y (linked_end (rule_at slots rules i).pairs y x (linked_flip (rule_at slots rules i).pairs x y e) (λ z. omega arith)) in
      let a = greatest_over (end_worth w rules i) x (map (end_slot rules i) (upto (2 * rule_word slots rules i 4))) mx in
      let b = greatest_over (pair_worth w (rule_at slots rules i) x) y (map (end_slot rules i) (upto (2 * rule_word slots rules i 4))) my in
      let c : pair_worth w (rule_at slots rules i) x y ≡ w (same x y) = rw (lt-ltb x y h, e) in
      omega arith

pub tried : (w : Test → ℕ) (rules part : List ℕ) (n : ℕ) (t : Test) → Known n t → TopHas rules part t → w t ≤ part_worth w rules part
unfolding part_worth rule_worth has
tried w rules part n t o h =
    let g = greatest_over (rule_worth w rules (top_of rules part)) h.rule part h.member in
    let e : rule_worth w rules (top_of rules part) h.rule ≡ max (constraints_worth w rules h.rule) (pairs_worth w rules h.rule) = rw (eq-eqb (rank_above rules h.rule) (top_of rules part) h.top) in
    go t o h.has_it (omega arith)
  where
    go : (u : Test) → Known n u → has (rule_at slots rules h.rule) u ≡ true → max (constraints_worth w rules h.rule) (pairs_worth w rules h.rule) ≤ part_worth w rules part → w u ≤ part_worth w rules part
    go (on s) p f b = let z = on_tried w rules h.rule s f in omega arith
    go (same x y) p f b = let z = same_tried w rules h.rule x y p.0 f in omega arith
