-- What the code's small answers are of tests and of their worth.
use mathlib.Core.Path.{◌≡◌, refl, sym, ap, ◌∙◌}
use mathlib.Core.Bool.{Bool, true, false, ◌&&◌}
use mathlib.Core.List.{List}
use Prim.Native.Nat.{ℕ, ◌+◌, ◌-◌, ◌*◌, ◌≤◌, ◌<◌, max}
use native.Mathlib.Omega.{arith}
use lib.Dec.{eqb, leb}
use lib.ListN.{length, get_or, set}
use lib.Seq.{get_or-set_same, get_or-set_other}
use mathlib.Core.Logic.{◌⊎◌, inl, inr}
use Rattle.laws.specs.Tests.{split}
use borrow.Author.Tests.{eqb-true, eqb-false, eq-eqb, ne_eqb, lt-ltb, le-ltb, le-leb, lt-leb}
use Rattle.definition.specs.Book.{Rule, linked}
use Rattle.definition.specs.Choice.{Test, same}
use Rattle.definition.specs.Lists.{◌below◌, filter}
use Rattle.std.specs.Prelude.{if◌then◌else◌}
use Rattle.laws.specs.Greatest.{greatest}
use Rattle.laws.specs.Members.{filter_all}
use Rattle.tables.specs.Held.{rank_of}
use Rattle.order.specs.Parts.{rule_tests, lack_top, passes_top}
use Rattle.choice.specs.Worth.{open_at, state_at, count_of, count_from, last_code, code_room, state_room, code, key_of, worth, worth_of, worth_from, Tells, pair_worth, constraints_worth, pairs_worth, rank_above, top_of, rule_worth, part_worth}
use Rattle.choice.specs.declared.tests.Told.{Told}

module _ (rules st root part : List ℕ) (bar : ℕ) (t : Test) (best : ℕ) where
  pub test_shut : open_at st root t ≡ false → best ≡ max best (worth_from rules st root part bar t)
  unfolding worth_from worth
  test_shut e = rw e (omega arith)

  pub test_none : open_at st root t ≡ true → count_from rules t part bar ≡ 0 → best ≡ max best (worth_from rules st root part bar t)
  unfolding worth_from worth
  test_none e z = rw (e, z) (omega arith)

  module _ (e : open_at st root t ≡ true) {s c : ℕ} (es : s ≡ state_at st t) (ec : c ≡ code t) where
    key_parts : (n : ℕ) → key_of n (state_at st t) (code t) ≡ n * state_room + (s * code_room + (last_code - c))
    unfolding key_of
    key_parts n = rw (← es, ← ec) (omega arith)

    worth_le : worth_from rules st root part bar t ≤ length part * state_room + (s * code_room + (last_code - c))
    unfolding worth_from worth count_from
    worth_le =
        let p : ℕ → Bool = passes_top rules t (max bar (lack_top (rule_tests rules t) (rank_of rules) part)) in
        let n = length (filter p part) in
        let z = filter_all p part in
        let y = key_parts (length (filter p part)) in
        rw e (go (0 below length (filter p part)) (omega arith))
      where
        go : (u : Bool) {k m : ℕ} → k ≤ m → (if u then k else 0) ≤ m
        go true h = h
        go false h = omega arith

    -- counting every rule would not be better
    pub test_behind : length part * state_room + (s * code_room + (last_code - c)) ≤ best → best ≡ max best (worth_from rules st root part bar t)
    test_behind h = let z = worth_le in omega arith

    pub test_some : {n : ℕ} → n ≡ count_from rules t part bar → (n ≡ 0 → ⊥) → n * state_room + (s * code_room + (last_code - c)) ≡ worth_from rules st root part bar t
    unfolding worth_from worth
    test_some {n} en z = rw (e, ← en, lt-ltb 0 n (omega arith)) (sym (key_parts n))

module _ (w : Test → ℕ) (r : Rule) (x y : ℕ) where
  pub pair_some : x < y → linked r.pairs x y ≡ true → w (same x y) ≡ pair_worth w r x y
  unfolding pair_worth
  pair_some h e = rw (lt-ltb x y h, e)

  pub pair_unlinked : (b : ℕ) → x < y → linked r.pairs x y ≡ false → b ≡ max b (pair_worth w r x y)
  unfolding pair_worth
  pair_unlinked b h e = rw (lt-ltb x y h, e) (omega arith)

  pub pair_late : (b : ℕ) → y ≤ x → b ≡ max b (pair_worth w r x y)
  unfolding pair_worth
  pair_late b h = rw (le-ltb x y h) (omega arith)

module _ (w : Test → ℕ) (rules : List ℕ) (top i best : ℕ) {p : ℕ} (ep : p ≡ rank_of rules i) where
  pub rule_top : p + 1 ≡ top → {m r : ℕ} → m ≡ max best (constraints_worth w rules i) → r ≡ max m (pairs_worth w rules i) → r ≡ max best (rule_worth w rules top i)
  unfolding rule_worth rank_above
  rule_top e em er = rw (eq-eqb (rank_of rules i + 1) top (ap (λ x. x + 1) (sym ep) ∙ e)) (omega arith)

  pub rule_low : (p + 1 ≡ top → ⊥) → best ≡ max best (rule_worth w rules top i)
  unfolding rule_worth rank_above
  rule_low e = rw (ne_eqb (rank_of rules i + 1) top (λ z. e (ap (λ x. x + 1) ep ∙ z))) (omega arith)

-- a rule passes where its mark says that it has the test, and its priority reaches the bar
module _ (rules : List ℕ) (t : Test) (part : List ℕ) (top : ℕ) {r : Told} (v : Tells rules t part r) (k : ℕ) (h : k < length part) where
  passes_told : {p : ℕ} → p ≡ rank_of rules (get_or part k 0) → get_or r.had k false && leb top (p + 1) ≡ passes_top rules t top (get_or part k 0)
  unfolding passes_top
  passes_told ep = rw (v.marks k h, ep)

  pub told_no : get_or r.had k false ≡ false → false ≡ passes_top rules t top (get_or part k 0)
  told_no e = rw e at (passes_told {p = rank_of rules (get_or part k 0)} refl)

  module _ (e : get_or r.had k false ≡ true) {p : ℕ} (ep : p ≡ rank_of rules (get_or part k 0)) where
    pub told_yes : top ≤ p + 1 → true ≡ passes_top rules t top (get_or part k 0)
    told_yes q = rw (e, le-leb top (p + 1) q) at (passes_told ep)

    pub told_low : p + 1 < top → false ≡ passes_top rules t top (get_or part k 0)
    told_low q = rw (e, lt-leb top (p + 1) q) at (passes_told ep)

pub counted_all : (rules : List ℕ) (t : Test) (part : List ℕ) (bar top n : ℕ) {lack : ℕ} → lack ≡ lack_top (rule_tests rules t) (rank_of rules) part → top ≡ max bar lack → n ≡ length (filter (passes_top rules t top) part) → n ≡ count_from rules t part bar
unfolding count_from
counted_all rules t part bar top n f e en = en ∙ ap (λ z. length (filter (passes_top rules t z) part)) (e ∙ ap (max bar) f)

-- with no other rules beside the part
worth_alone : (rules st root part : List ℕ) (t : Test) → worth_from rules st root part 0 t ≡ worth_of rules st root part t
unfolding worth_from worth_of count_from count_of
worth_alone rules st root part t =
    let l = lack_top (rule_tests rules t) (rank_of rules) part in
    let z : max 0 l ≡ l = omega arith in
    ap (λ k. worth (open_at st root t) (length (filter (passes_top rules t k) part)) (state_at st t) t) z

pub part_alone : (rules st root part : List ℕ) → part_worth (worth_from rules st root part 0) rules part ≡ part_worth (worth_of rules st root part) rules part
part_alone rules st root part = ap (λ w. part_worth w rules part) (λ i t. worth_alone rules st root part t i)

pub part_top : (w : Test → ℕ) (rules part : List ℕ) {b top : ℕ} → b ≡ max 0 (greatest (rule_worth w rules top) part) → top ≡ top_of rules part → b ≡ part_worth w rules part
unfolding part_worth
part_top w rules part {b} {top} e f = (let z : b ≡ greatest (rule_worth w rules top) part = omega arith in z) ∙ ap (λ k. greatest (rule_worth w rules k) part) f

-- one mark more
pub mark_more : {f : ℕ → Bool} (l : List Bool) {k : ℕ} {u : Bool} → k < length l → ((j : ℕ) → j < k → get_or l j false ≡ f j) → u ≡ f k → (j : ℕ) → j < k + 1 → get_or (set l k u) j false ≡ f j
mark_more {f} l {k} {u} h old e j q = go (split (eqb j k))
  where
    go : (eqb j k ≡ true) ⊎ (eqb j k ≡ false) → get_or (set l k u) j false ≡ f j
    go (inl t) = let s = eqb-true j k t in rw s (get_or-set_same l k u false h ∙ e)
    go (inr t) = let s = eqb-false j k t in get_or-set_other l k j u false s ∙ old j (omega arith)
