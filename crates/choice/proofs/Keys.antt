-- The definition's champion is the test of greatest worth: what has the greatest key beats every other.
use mathlib.Core.Path.{◌≡◌, refl, sym, ap, subst, ◌∙◌}
use mathlib.Core.Logic.{◌⊎◌, inl, inr}
use mathlib.Core.Bool.{true, false}
use mathlib.Core.List.{List, [], ◌∷◌, Memᴰ}
use mathlib.Core.Option.{none, some}
use Prim.Native.Nat.{Ordering}
use Prim.Native.Nat.{ℕ, zero, suc, ◌+◌, ◌-◌, ◌*◌, ◌/◌, ◌%◌, ◌≤◌, ◌<◌, compare}
use native.Mathlib.Decide.{dec_lt}
use native.Mathlib.Omega.{arith}
use lib.Dec.{ltb}
use lib.ListN.{length}
use borrow.Author.Tests.{ne_eqb, ltb-true, ltb-false, lt-ltb, le-ltb}
use Rattle.definition.specs.Book.{most, Book}
use Rattle.definition.specs.Choice.{Test, tests, is_open, counted, count, candidates, state_of, compare_tests, better, best_of, best, unless_zero, chosen, choice, on, same}
use Rattle.definition.specs.Lists.{◌and_then◌, champion}
use Rattle.definition.specs.Scope.{matched, Scope}
use Rattle.laws.specs.Champions.{champion_in}
use Rattle.laws.specs.Greatest.{greatest, greatest_over, greatest_of}
use Rattle.laws.specs.Members.{some_member}
use Rattle.laws.specs.Orders.{lt_is, eq_is}
use Rattle.laws.specs.Tests.{split}
use Rattle.laws.specs.Winners.{gt_is, champion_is}
use Rattle.theorems.specs.Choices.{Known, tests_known, candidate_parts, is_listed}
use Rattle.tables.specs.Held.{test_of}
use Rattle.choice.specs.Worth.{last_code, code_room, code, key_of, worth, of_code, decoded, shown_best}

-- CODES
pub code_le : (n : ℕ) (t : Test) → n ≤ most → Known n t → code t ≤ last_code
unfolding code
code_le n (on s) h k = omega arith
code_le n (same x y) h k = omega (arith, k.0, k.1)

-- the smaller code comes first
test_order : (n : ℕ) (t u : Test) → n ≤ most → Known n t → Known n u → code t ≤ code u → (u ≡ t) ⊎ ((compare_tests t u ≡ Ordering.lt) × (compare_tests u t ≡ Ordering.gt))
unfolding code
test_order n (on s) (on r) h k l c = go (dec_lt s r)
  where
    go : Dec (s < r) → (on r ≡ on s) ⊎ ((compare s r ≡ Ordering.lt) × (compare r s ≡ Ordering.gt))
    go (yes q) = inr (lt_is s r q, gt_is r s q)
    go (no q) = inl (ap on (omega (arith, q)))
test_order n (on s) (same v w) h k l c = inr (refl, refl)
test_order n (same x y) (on r) h k l c = absurd (omega arith)
test_order n (same x y) (same v w) h k l c = go (dec_lt x v) (dec_lt y w)
  where
    go : Dec (x < v) → Dec (y < w) → (same v w ≡ same x y) ⊎ ((compare x v and_then compare y w ≡ Ordering.lt) × (compare v x and_then compare w y ≡ Ordering.gt))
    go (yes p) q = inr (rw (lt_is x v p), rw (gt_is v x p))
    go (no p) (yes q) = let z : x ≡ v = omega (arith, p, k.1, l.1) in inr (rw (eq_is x v z) (lt_is y w q), rw (eq_is v x (sym z)) (gt_is w y q))
    go (no p) (no q) =
        let z : x ≡ v = omega (arith, p, k.1, l.1) in
        let u : y ≡ w = omega (arith, p, q, k.1, l.1) in
        inl (λ i. same (sym z i) (sym u i))

same_tests : (t : Test) → compare_tests t t ≡ Ordering.eq
same_tests (on s) = eq_is s s refl
same_tests (same x y) = rw (eq_is x x refl) (eq_is y y refl)

-- KEYS: the greater key has the greater count, or the same and the greater state, or both the same and no greater code
lexical : (m n r s d c : ℕ) → r ≤ matched → s ≤ matched → d ≤ last_code → c ≤ last_code → key_of m r d ≤ key_of n s c → (m < n) ⊎ ((m ≡ n) × ((r < s) ⊎ ((r ≡ s) × (c ≤ d))))
unfolding key_of
lexical m n r s d c hr hs hd hc h = go (dec_lt m n) (dec_lt r s)
  where
    go : Dec (m < n) → Dec (r < s) → (m < n) ⊎ ((m ≡ n) × ((r < s) ⊎ ((r ≡ s) × (c ≤ d))))
    go (yes p) q = inl p
    go (no p) (yes q) = inr (omega (arith, p), inl q)
    go (no p) (no q) = inr (omega (arith, p), inr (omega (arith, p, q), omega (arith, p, q)))

-- counts and states decide before the codes do
module _ (b : Book) (σ : Scope) (w : List ℕ) (t u : Test) where
  verdict : (count b w u < count b w t) ⊎ ((count b w u ≡ count b w t) × ((state_of σ u < state_of σ t) ⊎ ((state_of σ u ≡ state_of σ t) × ((u ≡ t) ⊎ ((compare_tests t u ≡ Ordering.lt) × (compare_tests u t ≡ Ordering.gt))))))
      → ((u ≡ t) ⊎ (better b σ w t u ≡ true)) × (better b σ w u t ≡ false)
  unfolding better
  verdict (inl p) = (inr (rw (lt_is (count b w u) (count b w t) p)), rw (gt_is (count b w t) (count b w u) p))
  verdict (inr (e, inl p)) = (inr (rw (eq_is (count b w u) (count b w t) e, lt_is (state_of σ u) (state_of σ t) p)), rw (eq_is (count b w t) (count b w u) (sym e), gt_is (state_of σ t) (state_of σ u) p))
  verdict (inr (e, inr (f, inl q))) = (inl q, rw (eq_is (count b w t) (count b w u) (sym e), eq_is (state_of σ t) (state_of σ u) (sym f), self))
    where
      self : compare_tests u t ≡ Ordering.eq
      self = subst (λ z. compare_tests u z ≡ Ordering.eq) q (same_tests u)
  verdict (inr (e, inr (f, inr q))) =
      (inr (rw (eq_is (count b w u) (count b w t) e, eq_is (state_of σ u) (state_of σ t) f, q.0)), rw (eq_is (count b w t) (count b w u) (sym e), eq_is (state_of σ t) (state_of σ u) (sym f), q.1))

-- DECODING
from_code : (n : ℕ) (t : Test) → n ≤ most → Known n t → test_of (of_code (code t)) ≡ t
unfolding of_code code
from_code n (on s) h k = rw (lt-ltb s 256 (omega arith))
from_code n (same x y) h k =
    let e : (256 * x + y + 256 - 256) / 256 ≡ x = omega (arith, k.1) in
    let f : (256 * x + y + 256 - 256) % 256 ≡ y = omega (arith, k.1) in
    rw (le-ltb (256 * x + y + 256) 256 (omega arith), e, f)

decode_key : (n m s : ℕ) (t : Test) → n ≤ most → Known n t → 0 < m → shown_best (decoded (key_of m s (code t))) ≡ some t
unfolding decoded key_of
decode_key n m s t h o p =
    let c = code_le n t h o in
    let k = (m * 4 + s) * code_room + (last_code - code t) in
    let e : k % code_room ≡ last_code - code t = omega arith in
    let f : last_code - (last_code - code t) ≡ code t = omega arith in
    rw (e, ne_eqb k 0 (λ z. omega arith), le-ltb last_code (last_code - code t) (omega arith), f) (ap some (from_code n t h o))

none_decoded : shown_best (decoded 0) ≡ none
unfolding decoded
none_decoded = refl

-- THE CHOICE
module _ (b : Book) (σ : Scope) (w : List ℕ) where
  -- what the definition's test is worth
  unfoldable pub book_worth : Test → ℕ
  book_worth t = worth (is_open σ t) (count b w t) (state_of σ t) t

  worth_zero : (t : Test) → is_open σ t ≡ true → book_worth t ≡ 0 → count b w t ≡ 0
  unfolding book_worth worth key_of
  worth_zero t o e = go (split (ltb 0 (count b w t)))
    where
      go : (ltb 0 (count b w t) ≡ true) ⊎ (ltb 0 (count b w t) ≡ false) → count b w t ≡ 0
      go (inl f) = absurd (let z = ltb-true 0 (count b w t) f in let y : (count b w t * 4 + state_of σ t) * code_room + (last_code - code t) ≡ 0 = rw (o, f) at e in omega arith)
      go (inr f) = let z = ltb-false 0 (count b w t) f in omega arith

  worth_key : (t : Test) → 0 < book_worth t → (is_open σ t ≡ true) × (0 < count b w t) × (book_worth t ≡ key_of (count b w t) (state_of σ t) (code t))
  unfolding book_worth worth
  worth_key t h = go (split (is_open σ t)) (split (ltb 0 (count b w t)))
    where
      go : (is_open σ t ≡ true) ⊎ (is_open σ t ≡ false) → (ltb 0 (count b w t) ≡ true) ⊎ (ltb 0 (count b w t) ≡ false) → (is_open σ t ≡ true) × (0 < count b w t) × (book_worth t ≡ key_of (count b w t) (state_of σ t) (code t))
      go (inl o) (inl f) = (o, ltb-true 0 (count b w t) f, rw (o, f))
      go (inl o) (inr f) = absurd (let z : 0 < 0 = rw (o, f) at h in omega arith)
      go (inr o) f = absurd (let z : 0 < 0 = rw o at h in omega arith)

  module _ (few : length b.sites ≤ most) (low : (t : Test) → Memᴰ t (tests b) → state_of σ t ≤ matched) where
    -- nothing is worth anything: no candidate counts a rule
    none_chosen : ((t : Test) → Memᴰ t (tests b) → book_worth t ≡ 0) → choice b σ w ≡ none
    unfolding choice best
    none_chosen h = go (candidates b σ w) refl
      where
        go : (cs : List Test) → candidates b σ w ≡ cs → chosen (count b w) (best_of (better b σ w) cs) ≡ none
        go [] e = refl
        go (c ∷ cs) e =
            let d = champion (better b σ w) c cs in
            let m : Memᴰ d (candidates b σ w) = rw e (champion_in (better b σ w) c cs) in
            let p = candidate_parts b σ w d m in
            let z = worth_zero d p.1 (h d p.0) in
            ap (λ n. unless_zero n d) z

    -- t is worth more than nothing, and no test is worth more
    module _ (t : Test) (m : Memᴰ t (tests b)) (pos : 0 < book_worth t) (top : (u : Test) → Memᴰ u (tests b) → book_worth u ≤ book_worth t) where
      beats : (u : Test) → Memᴰ u (candidates b σ w) → ((u ≡ t) ⊎ (better b σ w t u ≡ true)) × (better b σ w u t ≡ false)
      beats u n =
          let p = candidate_parts b σ w u n in
          let q = worth_key t pos in
          go p.0 (dec_lt 0 (book_worth u)) p.1 q
        where
          go : Memᴰ u (tests b) → Dec (0 < book_worth u) → is_open σ u ≡ true → (is_open σ t ≡ true) × (0 < count b w t) × (book_worth t ≡ key_of (count b w t) (state_of σ t) (code t)) → ((u ≡ t) ⊎ (better b σ w t u ≡ true)) × (better b σ w u t ≡ false)
          go mu (no z) o q = verdict b σ w t u (inl (let y = worth_zero u o (omega (arith, z)) in omega (arith, q.1)))
          go mu (yes z) o q =
              let k = worth_key u z in
              let kt = tests_known b t m in
              let ku = tests_known b u mu in
              let l = lexical (count b w u) (count b w t) (state_of σ u) (state_of σ t) (code u) (code t) (low u mu) (low t m) (code_le (length b.sites) u few ku) (code_le (length b.sites) t few kt)
              (let a = top u mu in let c = k.2 in let d = q.2 in omega arith) in
              verdict b σ w t u (deep l)
            where
              deep : (count b w u < count b w t) ⊎ ((count b w u ≡ count b w t) × ((state_of σ u < state_of σ t) ⊎ ((state_of σ u ≡ state_of σ t) × (code t ≤ code u))))
                  → (count b w u < count b w t) ⊎ ((count b w u ≡ count b w t) × ((state_of σ u < state_of σ t) ⊎ ((state_of σ u ≡ state_of σ t) × ((u ≡ t) ⊎ ((compare_tests t u ≡ Ordering.lt) × (compare_tests u t ≡ Ordering.gt))))))
              deep (inl p) = inl p
              deep (inr (e, inl p)) = inr (e, inl p)
              deep (inr (e, inr (f, p))) = inr (e, inr (f, test_order (length b.sites) t u few (tests_known b t m) (tests_known b u mu) p))

      one_chosen : choice b σ w ≡ some t
      unfolding choice best
      one_chosen =
          let q = worth_key t pos in
          let s = some_member (counted b t w) q.1 in
          go (candidates b σ w) refl (is_listed b σ w t m q.0 s.0 s.1) q.1
        where
          counts_some : (n : ℕ) → 0 < n → unless_zero n t ≡ some t
          counts_some zero h = absurd (omega arith)
          counts_some (suc n) h = refl

          go : (cs : List Test) → candidates b σ w ≡ cs → Memᴰ t cs → 0 < count b w t → chosen (count b w) (best_of (better b σ w) cs) ≡ some t
          go [] e n h = absurd (mathlib.Core.List.Memᴰ.not-nil n)
          go (c ∷ cs) e n h =
              let z = champion_is (better b σ w) t c cs n (λ u k. beats u (rw e k)) in
              ap (λ d. unless_zero (count b w d) d) z ∙ counts_some (count b w t) h

    pub choice_worth : shown_best (decoded (greatest book_worth (tests b))) ≡ choice b σ w
    choice_worth = go (dec_lt 0 (greatest book_worth (tests b)))
      where
        go : Dec (0 < greatest book_worth (tests b)) → shown_best (decoded (greatest book_worth (tests b))) ≡ choice b σ w
        go (no h) =
            let z : greatest book_worth (tests b) ≡ 0 = omega (arith, h) in
            ap (λ k. shown_best (decoded k)) z ∙ none_decoded ∙ sym (none_chosen (λ t m. (let y = greatest_over book_worth t (tests b) m in omega arith)))
        go (yes h) =
            let r = greatest_of book_worth (tests b) h in
            let q = worth_key r.0 (let z = r.2 in omega arith) in
            ap (λ k. shown_best (decoded k)) (sym r.2 ∙ q.2)
            ∙ decode_key (length b.sites) (count b w r.0) (state_of σ r.0) r.0 few (tests_known b r.0 r.1) q.1
            ∙ sym (one_chosen r.0 r.1 (let z = r.2 in omega arith) (λ u m. (let y = greatest_over book_worth u (tests b) m in let z = r.2 in omega arith)))
