-- The pairs of a rule, counted over the rules near it, are worth what they are worth over the part: the others lack them all.
use mathlib.Core.Path.{◌≡◌, refl, sym, ap, subst, ◌∙◌}
use mathlib.Core.Logic.{◌⊎◌, inl, inr}
use mathlib.Core.Bool.{Bool, true, false}
use mathlib.Core.List.{List, [], ◌∷◌, ◌++◌, map, Memᴰ}
use Prim.Native.Nat.{ℕ, ◌+◌, ◌-◌, ◌*◌, ◌≤◌, ◌<◌, max}
use native.Mathlib.Omega.{arith}
use native.Mathlib.Numerals.{add-one}
use mir.Val.{bool_byte}
use lib.Dec.{ltb}
use lib.ListN.{length, get_or, set, take, drop, length-set}
use lib.Seq.{append_snoc, take-suc, take-set-le, get_or-set_same}
use borrow.Author.Tests.{le-leb, lt-leb, ltb-true}
use Rattle.definition.specs.Book.{slots, linked}
use Rattle.definition.specs.Choice.{Test, has, same}
use Rattle.definition.specs.Lists.{upto, from, filter, each}
use Rattle.definition.specs.Tables.{rule_word, rule_at}
use Rattle.laws.specs.Ascending.{mem_index}
use Rattle.laws.specs.Greatest.{greatest_same}
use Rattle.laws.specs.Members.{filter_in, filter_from, mem_map_of, from_bounds, getD_mem, filter_all, filter_narrow, two_members}
use Rattle.laws.specs.Runs.{in_slots, in_slice, one, one_le, one_kept}
use Rattle.laws.specs.Tests.{split, clash, both}
use Rattle.tables.specs.Held.{Held, rank_of, end_slot}
use Rattle.tables.proofs.Ends.{linked_flip, linked_end, end_stands}
use Rattle.order.specs.Parts.{Parts, raised, raise, rule_tests, lack_top, passes_top}
use Rattle.choice.specs.Worth.{count_from, worth_from, pair_worth, end_worth, pairs_worth, Marks, is_marked, marked_ends, is_near}

-- A TEST THAT ONLY NEAR RULES HAVE
module _ (t : ℕ → Bool) (rank : ℕ → ℕ) where
  raised_max : (u : Bool) (r acc : ℕ) → raised u r acc ≡ max acc (raised u r 0)
  raised_max true r acc = omega arith
  raised_max false r acc = omega arith

  each_max : (l : List ℕ) (acc : ℕ) → each (raise t rank) l acc ≡ max acc (each (raise t rank) l 0)
  unfolding raise
  each_max [] acc = omega arith
  each_max (j ∷ js) acc = omega (arith, each_max js (raised (t j) (rank j) acc), each_max js (raised (t j) (rank j) 0), raised_max (t j) (rank j) acc)

module _ (t p : ℕ → Bool) (rank : ℕ → ℕ) (h : (j : ℕ) → t j ≡ true → p j ≡ true) where
  lack_narrow : (l : List ℕ) → lack_top t rank l ≡ max (lack_top p rank l) (lack_top t rank (filter p l))
  unfolding lack_top raise
  lack_narrow [] = omega arith
  lack_narrow (j ∷ js) = go (split (t j)) (split (p j)) (lack_narrow js)
    where
      go : (t j ≡ true) ⊎ (t j ≡ false) → (p j ≡ true) ⊎ (p j ≡ false) → each (raise t rank) js 0 ≡ max (each (raise p rank) js 0) (each (raise t rank) (filter p js) 0) → each (raise t rank) (j ∷ js) 0 ≡ max (each (raise p rank) (j ∷ js) 0) (each (raise t rank) (filter p (j ∷ js)) 0)
      go (inl e) (inl f) rec =
          let z : raised (t j) (rank j) 0 ≡ 0 = rw e in
          rw f (omega (arith, rec, z, each_max t rank js (raised (t j) (rank j) 0), each_max t rank (filter p js) (raised (t j) (rank j) 0)))
      go (inl e) (inr f) rec = clash (h j e) f
      go (inr e) (inl f) rec = rw f (omega (arith, rec, each_max t rank js (raised (t j) (rank j) 0), each_max t rank (filter p js) (raised (t j) (rank j) 0)))
      go (inr e) (inr f) rec =
          let z : raised (t j) (rank j) 0 ≡ max 0 (rank j + 1) = rw e in
          rw f (omega (arith, rec, z, each_max t rank js (raised (t j) (rank j) 0), each_max p rank js (max 0 (rank j + 1))))

-- the count over the near rules is the count over the part
count_narrow : (rules : List ℕ) (t : Test) (p : ℕ → Bool) → ((j : ℕ) → rule_tests rules t j ≡ true → p j ≡ true) → (part : List ℕ) (bar : ℕ)
    → count_from rules t (filter p part) (max bar (lack_top p (rank_of rules) part)) ≡ count_from rules t part bar
unfolding count_from passes_top
count_narrow rules t p h part bar =
    let T = max bar (lack_top (rule_tests rules t) (rank_of rules) part) in
    let e : max (max bar (lack_top p (rank_of rules) part)) (lack_top (rule_tests rules t) (rank_of rules) (filter p part)) ≡ T =
    omega (arith, lack_narrow (rule_tests rules t) p (rank_of rules) h part) in
    ap (λ z. length (filter (passes_top rules t z) (filter p part))) e
    ∙ ap length (filter_narrow p (passes_top rules t T) (λ j e. h j (both (rule_tests rules t j) _ e).0) part)

-- RULES WITH A PAIR of rule i are near
module _ {rules : List ℕ} {i : ℕ} {marks : List Bool} (v : Marks rules i marks) where
  end_marked : (x : ℕ) → Memᴰ x (map (end_slot rules i) (upto (2 * rule_word slots rules i 4))) → is_marked marks x ≡ true
  unfolding is_marked
  end_marked x m =
      let q = mem_map_of (end_slot rules i) x (upto (2 * rule_word slots rules i 4)) m in
      let b = from_bounds 0 (2 * rule_word slots rules i 4) q.0 q.1 in
      ap (λ z. get_or marks z false) q.2 ∙ v.each q.0 (omega arith)

  module _ (x y : ℕ) (h : x < y) (e : linked (rule_at slots rules i).pairs x y ≡ true) where
    first_at : (j : ℕ) → linked (rule_at slots rules j).pairs x y ≡ true → Memᴰ x (map (end_slot rules j) (upto (2 * rule_word slots rules j 4)))
    first_at j f = end_stands rules j x (linked_end (rule_at slots rules j).pairs x y f (λ z. omega arith))

    second_at : (j : ℕ) → linked (rule_at slots rules j).pairs x y ≡ true → Memᴰ y (map (end_slot rules j) (upto (2 * rule_word slots rules j 4)))
    second_at j f = end_stands rules j y (linked_end (rule_at slots rules j).pairs y x (linked_flip (rule_at slots rules j).pairs x y f) (λ z. omega arith))

    has_near : (j : ℕ) → rule_tests rules (same x y) j ≡ true → is_near rules marks j ≡ true
    unfolding rule_tests has is_near marked_ends
    has_near j f = le-leb 2 (length (filter (is_marked marks) (map (end_slot rules j) (upto (2 * rule_word slots rules j 4)))))
        (two_members (filter (is_marked marks) (map (end_slot rules j) (upto (2 * rule_word slots rules j 4)))) x y
        (filter_from (is_marked marks) (first_at j f) (end_marked x (first_at i e))) (filter_from (is_marked marks) (second_at j f) (end_marked y (second_at i e))) (λ z. omega arith))

  module _ (st root part : List ℕ) (bar : ℕ) {l : List ℕ} {raised_bar : ℕ} (el : l ≡ filter (is_near rules marks) part) (eb : raised_bar ≡ max bar (lack_top (is_near rules marks) (rank_of rules) part)) where
    pair_same : (x y : ℕ) → pair_worth (worth_from rules st root l raised_bar) (rule_at slots rules i) x y ≡ pair_worth (worth_from rules st root part bar) (rule_at slots rules i) x y
    unfolding pair_worth worth_from
    pair_same x y = go (split (ltb x y)) (split (linked (rule_at slots rules i).pairs x y))
      where
        go : (ltb x y ≡ true) ⊎ (ltb x y ≡ false) → (linked (rule_at slots rules i).pairs x y ≡ true) ⊎ (linked (rule_at slots rules i).pairs x y ≡ false) → pair_worth (worth_from rules st root l raised_bar) (rule_at slots rules i) x y ≡ pair_worth (worth_from rules st root part bar) (rule_at slots rules i) x y
        go (inl e) (inl f) = rw (e, f, el, eb, count_narrow rules (same x y) (is_near rules marks) (has_near x y (ltb-true x y e) f) part bar)
        go (inl e) (inr f) = rw (e, f)
        go (inr e) f = rw e

    pub near_worth : pairs_worth (worth_from rules st root l raised_bar) rules i ≡ pairs_worth (worth_from rules st root part bar) rules i
    unfolding pairs_worth end_worth
    near_worth =
        let xs = map (end_slot rules i) (upto (2 * rule_word slots rules i 4)) in
        greatest_same (end_worth (worth_from rules st root l raised_bar) rules i) (end_worth (worth_from rules st root part bar) rules i) xs (λ x m. greatest_same (pair_worth (worth_from rules st root l raised_bar) (rule_at slots rules i) x) (pair_worth (worth_from rules st root part bar) (rule_at slots rules i) x) xs (λ y k. pair_same x y))

pub no_pairs : (w : Test → ℕ) (rules : List ℕ) (i best : ℕ) {n : ℕ} → n ≡ 2 * rule_word slots rules i 4 → n ≡ 0 → best ≡ max best (pairs_worth w rules i)
unfolding pairs_worth
no_pairs w rules i best e z = let y : 2 * rule_word slots rules i 4 ≡ 0 = sym e ∙ z in rw y (omega arith)

pub near_parts : {rules part l : List ℕ} (p : ℕ → Bool) → Parts rules part → l ≡ filter p part → Parts rules l
near_parts {rules} {part} {l} p h e = record {
  held = λ k q.
      let m = filter_in p (get_or l k 0) part (subst (λ z. Memᴰ (get_or l k 0) z) e (getD_mem l k 0 q)) in
      let r = mem_index (get_or l k 0) part m.0 in
      subst (Held rules) r.2 (h.held r.0 r.1);
  short = let z = ap length e in let y = filter_all p part in omega (arith, h.short);
}

-- THE LOOPS. Marks on the first k ends
pub record Marking (rules : List ℕ) (i k : ℕ) (marks : List Bool) : Type 0 where
  pub long : length marks ≡ 252
  pub so_far : (j : ℕ) → j < k → get_or marks (end_slot rules i j) false ≡ true

-- a test as a number
pub byte_one : (b : Bool) → bool_byte b ≡ one b
byte_one true = refl
byte_one false = refl

-- m of the first k ends are marked
pub record MarkTold (marks : List Bool) (g : ℕ → ℕ) (n k m : ℕ) : Type 0 where
  pub few : m ≤ k
  pub is : m + length (filter (is_marked marks) (map g (from k (n - k)))) ≡ length (filter (is_marked marks) (map g (from 0 (n - 0))))

module _ {marks : List Bool} {g : ℕ → ℕ} {n k m : ℕ} (v : MarkTold marks g n k m) where
  pub told_turn : k < n → {e : ℕ} {u : Bool} {r : ℕ} → e ≡ g k → u ≡ get_or marks e false → r ≡ m + one u → MarkTold marks g n (k + 1) r
  unfolding is_marked
  told_turn h {e} {u} f t q =
      let y : one u ≡ one (is_marked marks (g k)) = ap one (t ∙ ap (λ z. get_or marks z false) f) in
      let z : length (filter (is_marked marks) (map g (from k (n - k)))) ≡ one (is_marked marks (g k)) + length (filter (is_marked marks) (map g (from (k + 1) (n - (k + 1))))) = rw ((in_slots g n).more k h) (one_kept (is_marked marks (g k)) (g k) (filter (is_marked marks) (map g (from (k + 1) (n - (k + 1)))))) in
      record { few = omega (arith, v.few, one_le u); is = omega (arith, v.is, z) }

pub told_ends : (rules : List ℕ) (marks : List Bool) (j : ℕ) {n k m : ℕ} → MarkTold marks (end_slot rules j) n k m → n ≤ k → n ≡ 2 * rule_word slots rules j 4 → m ≡ marked_ends rules marks j
unfolding marked_ends
told_ends rules marks j {n} {k} {m} v h e =
    let a : filter (is_marked marks) (map (end_slot rules j) (from k (n - k))) ≡ [] = rw ((in_slots (end_slot rules j) n).none k h) in
    let b : n - 0 ≡ 2 * rule_word slots rules j 4 = omega arith in
    let c : m ≡ length (filter (is_marked marks) (map (end_slot rules j) (from 0 (n - 0)))) = omega (arith, v.is, ap length a) in
    c ∙ ap (λ z. length (filter (is_marked marks) (map (end_slot rules j) (from 0 z)))) b

pub near_yes : (rules : List ℕ) (marks : List Bool) {m : ℕ} (x : ℕ) → m ≡ marked_ends rules marks x → 2 ≤ m → is_near rules marks x ≡ true
unfolding is_near
near_yes rules marks x e h = le-leb 2 (marked_ends rules marks x) (omega arith)

pub near_no : (rules : List ℕ) (marks : List Bool) {m : ℕ} (x : ℕ) → m ≡ marked_ends rules marks x → m < 2 → is_near rules marks x ≡ false
unfolding is_near
near_no rules marks x e h = lt-leb 2 (marked_ends rules marks x) (omega arith)

-- the near ones of the first k rules stand in front
pub record Sharing (p : ℕ → Bool) (part : List ℕ) (k n : ℕ) (ids : List ℕ) : Type 0 where
  pub few : n ≤ k
  pub long : length ids ≡ 252
  pub is : take n ids ++ filter p (drop k part) ≡ filter p part

pub share_starts : (p : ℕ → Bool) (part ids : List ℕ) → length ids ≡ 252 → Sharing p part 0 0 ids
share_starts p part ids h = record { few = omega arith; long = h; is = refl }

module _ {p : ℕ → Bool} {part : List ℕ} {k n : ℕ} {ids : List ℕ} (v : Sharing p part k n ids) where
  pub share_take : k < length part → n < 252 → {x : ℕ} → x ≡ get_or part k 0 → p x ≡ true → Sharing p part (k + 1) (n + 1) (set ids n x)
  share_take h l {x} e t =
      let a : filter p (drop k part) ≡ x ∷ filter p (drop (k + 1) part) = rw ((in_slice part).more k h, ← e, t) in
      let s : n < length (set ids n x) = (let z = length-set ids n x in omega (arith, v.long)) in
      let b : take (n + 1) (set ids n x) ≡ take n ids ++ (x ∷ []) = rw (add-one n) (take-suc (set ids n x) n 0 s ∙ rw (take-set-le n ids n x (omega arith), get_or-set_same ids n x 0 (omega (arith, v.long)))) in
      record {
        few = omega (arith, v.few);
        long = length-set ids n x ∙ v.long;
        is = ap (λ z. z ++ filter p (drop (k + 1) part)) b ∙ append_snoc (take n ids) x (filter p (drop (k + 1) part)) ∙ ap (λ z. take n ids ++ z) (sym a) ∙ v.is;
      }

  pub share_skip : k < length part → {x : ℕ} → x ≡ get_or part k 0 → p x ≡ false → Sharing p part (k + 1) n ids
  share_skip h {x} e t =
      let a : filter p (drop k part) ≡ filter p (drop (k + 1) part) = rw ((in_slice part).more k h, ← e, t) in
      record { few = omega (arith, v.few); long = v.long; is = ap (λ z. take n ids ++ z) (sym a) ∙ v.is }
