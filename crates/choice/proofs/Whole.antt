-- What the search finds is the definition's choice.
use mathlib.Core.Path.{◌≡◌, refl, sym, ap, subst, ◌∙◌}
use mathlib.Core.Logic.{◌⊎◌, inl, inr}
use mathlib.Core.Bool.{Bool, true, false, ◌&&◌, not}
use mathlib.Core.List.{List, map, Memᴰ}
use Prim.Native.Nat.{ℕ, ◌*◌, ◌≤◌, ◌<◌, max}
use native.Mathlib.Decide.{dec_lt}
use native.Mathlib.Omega.{arith}
use lib.Dec.{eqb, ltb}
use lib.ListN.{length, get_or}
use borrow.Author.Tests.{ltb-true}
use Rattle.definition.specs.Book.{most, slots, Pair, Book, rule, linked}
use Rattle.definition.specs.Choice.{Test, tests, testable, is_open, count, state_of, choice, on, same}
use Rattle.definition.specs.Lists.{upto, filter}
use Rattle.std.specs.Prelude.{if◌then◌else◌}
use Rattle.definition.specs.Scope.{matched, Scope}
use Rattle.definition.specs.Tables.{rule_word, rule_at, book_of}
use Rattle.laws.specs.Ascending.{asc, mem_index, asc_filter, Within, Distinct, filter_distinct, asc_length}
use Rattle.laws.specs.Greatest.{greatest, greatest_over, greatest_under, greatest_same}
use Rattle.laws.specs.Members.{filter_in, from_bounds, mem_map_of}
use Rattle.laws.specs.Tests.{split}
use Rattle.theorems.specs.Choices.{Known, known_listed, tests_known}
use Rattle.theorems.specs.Refusals.{sites_length, rule_is}
use Rattle.tables.specs.Held.{Words, rank_of, site_slot, end_slot, Named}
use Rattle.order.specs.Parts.{Names, rule_tests, lack_top, passes_top}
use Rattle.order.proofs.Cuts.{counted_side}
use Rattle.choice.specs.Worth.{open_at, state_at, count_of, worth, worth_of, decoded, shown_best, match_worth, pair_worth, constraints_worth, end_worth, pairs_worth, rank_above, top_of, rule_worth, part_worth, Joined, Stands, Chosen}
use Rattle.std.specs.declared.option.Option as option_code
use Rattle.tables.specs.declared.Test as code_test
use Rattle.choice.proofs.Keys.{book_worth, choice_worth}
use Rattle.choice.proofs.Tops.{top_has, tried}

-- COUNTS: over W as the ascending list of a part, and over the part
count_part : (b : Book) (rules : List ℕ) → Words rules → (R : ℕ) (part : List ℕ) → Within R part → Distinct part → ((i : ℕ) → Memᴰ i part → rule b i ≡ rule_at slots rules i) → (t : Test)
    → count b (asc R part) t ≡ count_of rules t part
unfolding count_of
count_part b rules W R part w d h t =
    let p : ℕ → Bool = passes_top rules t (lack_top (rule_tests rules t) (rank_of rules) part) in
    ap length (sym (counted_side b rules W R part w h t) ∙ asc_filter R p part)
    ∙ asc_length R (filter p part) (λ i m. w i (filter_in p i part m).0) (filter_distinct p part d)

-- THE TESTS TRIED are the book's
module _ (w : Test → ℕ) (b : Book) (rules part : List ℕ) (names : Names (length b.sites) rules part) where
  known_le : (t : Test) → Known (length b.sites) t → w t ≤ greatest w (tests b)
  known_le t o = greatest_over w t (tests b) (known_listed b t o)

  slot_below : (g : ℕ → ℕ) (n m : ℕ) → ((k : ℕ) → k < n → g k < m) → (x : ℕ) → Memᴰ x (map g (upto n)) → x < m
  slot_below g n m h x q = let r = mem_map_of g x (upto n) q in let z = from_bounds 0 n r.0 r.1 in let y = h r.0 (omega arith) in let e = r.2 in omega arith

  pair_le : (i x y : ℕ) → y < length b.sites → pair_worth w (rule_at slots rules i) x y ≤ greatest w (tests b)
  unfolding pair_worth
  pair_le i x y h = go (split (ltb x y)) (split (linked (rule_at slots rules i).pairs x y))
    where
      go : (ltb x y ≡ true) ⊎ (ltb x y ≡ false) → (linked (rule_at slots rules i).pairs x y ≡ true) ⊎ (linked (rule_at slots rules i).pairs x y ≡ false) → pair_worth w (rule_at slots rules i) x y ≤ greatest w (tests b)
      go (inl e) (inl f) = rw (e, f) (known_le (same x y) (ltb-true x y e, h))
      go (inl e) (inr f) = rw (e, f) (omega arith)
      go (inr e) f = rw e (omega arith)

  rule_le : (i : ℕ) → Named (length b.sites) rules i → (top : ℕ) → rule_worth w rules top i ≤ greatest w (tests b)
  unfolding rule_worth constraints_worth match_worth pairs_worth end_worth
  rule_le i n top =
      go (eqb (rank_above rules i) top)
      (greatest_under (match_worth w) (greatest w (tests b)) (map (site_slot rules i) (upto (rule_word slots rules i 3))) (λ s m. known_le (on s) (slot_below (site_slot rules i) (rule_word slots rules i 3) (length b.sites) n.sites s m)))
      (greatest_under (end_worth w rules i) (greatest w (tests b)) (map (end_slot rules i) (upto (2 * rule_word slots rules i 4)))
      (λ x m. greatest_under (pair_worth w (rule_at slots rules i) x) (greatest w (tests b)) (map (end_slot rules i) (upto (2 * rule_word slots rules i 4)))
      (λ y k. pair_le i x y (slot_below (end_slot rules i) (2 * rule_word slots rules i 4) (length b.sites) n.ends y k))))
    where
      go : (t : Bool) {p q : ℕ} → p ≤ greatest w (tests b) → q ≤ greatest w (tests b) → (if t then max p q else 0) ≤ greatest w (tests b)
      go true h k = omega arith
      go false h k = omega arith

  part_le : part_worth w rules part ≤ greatest w (tests b)
  unfolding part_worth
  part_le = greatest_under (rule_worth w rules (top_of rules part)) (greatest w (tests b)) part (λ i m. let r = mem_index i part m in rule_le i (subst (Named (length b.sites) rules) r.2 (names.named r.0 r.1)) (top_of rules part))

zero_count : (o : Bool) (n s : ℕ) (t : Test) → n ≡ 0 → worth o n s t ≡ 0
unfolding worth
zero_count true n s t e = rw e
zero_count false n s t e = refl

-- no test is worth more than what was found
tried_all : (b : Book) (rules st root part : List ℕ) (t : Test) → Known (length b.sites) t → worth_of rules st root part t ≤ part_worth (worth_of rules st root part) rules part
unfolding worth_of
tried_all b rules st root part t o = go (dec_lt 0 (count_of rules t part))
  where
    go : Dec (0 < count_of rules t part) → worth_of rules st root part t ≤ part_worth (worth_of rules st root part) rules part
    go (yes e) = tried (worth_of rules st root part) rules part (length b.sites) t o (top_has rules part t e)
    go (no e) = let y = zero_count (open_at st root t) (count_of rules t part) (state_at st t) t (omega (arith, e)) in omega arith

part_greatest : (b : Book) (rules st root part : List ℕ) → Names (length b.sites) rules part → part_worth (worth_of rules st root part) rules part ≡ greatest (worth_of rules st root part) (tests b)
part_greatest b rules st root part names =
    let w : Test → ℕ = worth_of rules st root part in
    let x = part_le w b rules part names in
    let y = greatest_under w (part_worth w rules part) (tests b) (λ t m. tried_all b rules st root part t (tests_known b t m)) in
    omega arith

-- SCOPE
open_same : (st root : List ℕ) (joined : List Pair) (n : ℕ) → n ≤ most → Joined root joined → (t : Test) → Known n t → is_open (record { states = st; joined = joined }) t ≡ open_at st root t
unfolding is_open open_at
open_same st root joined n h j (on s) k = refl
open_same st root joined n h j (same x y) k = ap (λ z. (testable st x && testable st y) && not z) (sym (j.agrees x y (omega (arith, k.0, k.1)) (omega (arith, k.1)) (λ e. omega (arith, k.0))))

state_same : (st : List ℕ) (joined : List Pair) (t : Test) → state_of (record { states = st; joined = joined }) t ≡ state_at st t
unfolding state_at
state_same st joined (on s) = refl
state_same st joined (same x y) = refl

state_low : (st : List ℕ) → ((k : ℕ) → get_or st k 0 ≤ matched) → (t : Test) → state_at st t ≤ matched
unfolding state_at
state_low st h (on s) = h s
state_low st h (same x y) = let z = h x in omega arith

-- WHAT THE CODE FINDS
pub found : (rules states root part : List ℕ) → Words rules → (r : option_code.Option code_test.Test) → r ≡ decoded (part_worth (worth_of rules states root part) rules part) → Chosen rules states root part r
unfolding worth_of book_worth
found rules states root part W r e = record { answer = λ S R sites joined p. go S R sites joined p }
  where
    go : (S R : ℕ) (sites : List ℕ) (joined : List Pair) → Stands S R rules states root part joined → shown_best r ≡ choice (book_of slots S R sites rules) (record { states = states; joined = joined }) (asc R part)
    go S R sites joined p =
        let b = book_of slots S R sites rules in
        let σ : Scope = record { states = states; joined = joined } in
        let n = sites_length slots S R sites rules in
        let few : length b.sites ≤ most = (let z = p.few in omega arith) in
        let names : Names (length b.sites) rules part = subst (λ k. Names k rules part) (sym n) p.names in
        let same_worth : (t : Test) → Memᴰ t (tests b) → worth_of rules states root part t ≡ book_worth b σ (asc R part) t = λ t m.
        sym (rw (open_same states root joined (length b.sites) few p.classes t (tests_known b t m), count_part b rules W R part p.within p.distinct (λ i k. rule_is slots S R sites rules i (p.within i k)) t, state_same states joined t)) in
        let low : (t : Test) → Memᴰ t (tests b) → state_of σ t ≤ matched = λ t m. (let z = state_same states joined t in let y = state_low states p.states_ok t in omega arith) in
        ap shown_best e
        ∙ ap (λ k. shown_best (decoded k)) (part_greatest b rules states root part names ∙ greatest_same (worth_of rules states root part) (book_worth b σ (asc R part)) (tests b) same_worth)
        ∙ choice_worth b σ (asc R part) few low
