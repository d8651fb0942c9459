-- What stands in a let list: sites of the book, and no more than there are states, since each entry takes one of the states below Emitted.
use Rattle.std.specs.Prelude.{◌≡◌, ◌⊎◌, Bool, set, if◌then◌else◌}
use Rattle.std.proofs.Math.Path.{refl}
use Rattle.std.proofs.Common.{◌∙◌, ap, inl, inr, ltb-true, lt-ltb}
use Rattle.std.proofs.Math.Bool.{true, false}
use mathlib.Core.List.Memᴰ
use mathlib.Core.List.{List, [], ◌∷◌, ◌++◌, Memᴰ}
use Prim.Native.Nat.{ℕ, zero, suc, ◌+◌, ◌≤◌, ◌<◌}
use native.Mathlib.Omega.{arith}
use Rattle.std.proofs.Math.Dec.{ltb}
use Rattle.std.proofs.Math.ListN.{length, length-set, length-append}
use Rattle.definition.specs.Lists.{each}
use Rattle.definition.specs.Book.{Book, site}
use Rattle.definition.specs.Scope.{state, Use, never_listed, mark, add_let, use_below, use_site, use_all}
use Rattle.theorems.specs.Accepted.{Good}

-- how many states are below Emitted
abbrev pub low : List ℕ → ℕ
low [] = 0
low (x ∷ xs) = if ltb x 2 then suc (low xs) else low xs

pub low_length : (st : List ℕ) → low st ≤ length st
low_length [] = omega arith
low_length (x ∷ xs) = go (ltb x 2) (low_length xs)
  where
    go : (t : Bool) → low xs ≤ length xs → (if t then suc (low xs) else low xs) ≤ suc (length xs)
    go true h = omega arith
    go false h = omega arith

-- marking one of them
pub low_set : (st : List ℕ) (s : ℕ) → s < length st → state st s < 2 → suc (low (set st s 2)) ≡ low st
low_set [] s h l = absurd (omega arith)
low_set (x ∷ xs) zero h l = rw (lt-ltb x 2 l) refl
low_set (x ∷ xs) (suc s) h l = go (ltb x 2) (low_set xs s (omega arith) l)
  where
    go : (t : Bool) → suc (low (set xs s 2)) ≡ low xs → suc (if t then suc (low (set xs s 2)) else low (set xs s 2)) ≡ (if t then suc (low xs) else low xs)
    go true e = ap suc e
    go false e = e

-- from u to v no more was listed than was marked
pub record Spent (u v : Use) : Type 0 where
  pub size : length v.states ≡ length u.states
  pub spent : length v.lets + low v.states ≤ length u.lets + low u.states

spent_refl : (u : Use) → Spent u u
spent_refl u = record { size = refl; spent = omega arith }

spent_trans : {u v w : Use} → Spent u v → Spent v w → Spent u w
spent_trans p q = record { size = q.size ∙ p.size; spent = omega (arith, p.spent, q.spent) }

module _ (b : Book) (g : Good b) where
  each_spent : (f : ℕ → Use → Use) (ss : List ℕ) → ((s : ℕ) → Memᴰ s ss → (u : Use) → length b.sites ≤ length u.states → Spent u (f s u))
      → (u : Use) → length b.sites ≤ length u.states → Spent u (each f ss u)
  each_spent f [] h u l = spent_refl u
  each_spent f (s ∷ ss) h u l =
      let p = h s (Memᴰ.head refl) u l in
      spent_trans p (each_spent f ss (λ r m. h r (Memᴰ.tail m)) (f s u) (omega (arith, p.size)))

  let_length : (s : ℕ) (u : Use) → length (add_let b s u).lets ≤ suc (length u.lets)
  unfolding add_let
  let_length s u = go (never_listed (site b s))
    where
      go : (t : Bool) → length (if t then u.lets else u.lets ++ (s ∷ [])) ≤ suc (length u.lets)
      go true = omega arith
      go false = let e : length (u.lets ++ (s ∷ [])) ≡ length u.lets + 1 = length-append u.lets (s ∷ []) in omega arith

  use_spent : (n s : ℕ) → s < length b.sites → (u : Use) → length b.sites ≤ length u.states → Spent u (use_below n b s u)
  unfolding use_below mark add_let
  use_spent zero s k u l = spent_refl u
  use_spent (suc n) s k u l = go (ltb (state u.states s) 2) refl (use_spent n)
    where
      go : (t : Bool) → ltb (state u.states s) 2 ≡ t → ((r : ℕ) → r < length b.sites → (v : Use) → length b.sites ≤ length v.states → Spent v (use_below n b r v)) → Spent u (use_below (suc n) b s u)
      go false e rec = rw (e, use_below) (spent_refl u)
      go true e rec =
          let z = length-set u.states s 2 in
          let m = low_set u.states s (omega arith) (ltb-true (state u.states s) 2 e) in
          let p = each_spent (use_below n b) (site b s).sources (λ r q. rec r (let y = g.low s r q in omega arith)) (mark s u) (omega arith) in
          let w = each (use_below n b) (site b s).sources (mark s u) in
          rw (e, use_below) (record { size = p.size ∙ z; spent = omega (arith, p.spent, let_length s w, m) })

  pub all_spent : (ss st : List ℕ) → ((s : ℕ) → Memᴰ s ss → s < length b.sites) → length b.sites ≤ length st → Spent (record { states = st; lets = [] }) (use_all b ss st)
  unfolding use_all use_site
  all_spent ss st h l = each_spent (use_site b) ss (λ s m. use_spent (suc s) s (h s m)) (record { states = st; lets = [] }) l

  pub lets_few : (ss st : List ℕ) → ((s : ℕ) → Memᴰ s ss → s < length b.sites) → length b.sites ≤ length st → length (use_all b ss st).lets ≤ length st
  lets_few ss st h l = let p = (all_spent ss st h l).spent in let q = low_length st in omega arith

  -- ITS ENTRIES are sites of the book
  abbrev Low : Use → Type 0
  Low u = (x : ℕ) → Memᴰ x u.lets → x < length b.sites

  each_low : (f : ℕ → Use → Use) → (ss : List ℕ) → ((s : ℕ) → Memᴰ s ss → (u : Use) → Low u → Low (f s u)) → (u : Use) → Low u → Low (each f ss u)
  each_low f [] h u l = l
  each_low f (s ∷ ss) h u l = each_low f ss (λ x m. h x (Memᴰ.tail m)) (f s u) (h s (Memᴰ.head refl) u l)

  let_low : (s : ℕ) (u : Use) → s < length b.sites → Low u → Low (add_let b s u)
  unfolding add_let
  let_low s u k l x m = go (never_listed (site b s)) m
    where
      two : Memᴰ x u.lets ⊎ Memᴰ x (s ∷ []) → x < length b.sites
      two (inl n) = l x n
      two (inr n) = let e = Memᴰ.eq_of_singleton n in omega arith

      go : (t : Bool) → Memᴰ x (if◌then◌else◌ t u.lets (u.lets ++ (s ∷ []))) → x < length b.sites
      go true n = l x n
      go false n = two (Memᴰ.append_cases u.lets n)

  use_low : (n s : ℕ) → s < length b.sites → (u : Use) → Low u → Low (use_below n b s u)
  unfolding use_below mark
  use_low zero s k u l = l
  use_low (suc n) s k u l = go (ltb (state u.states s) 2) refl (use_low n)
    where
      go : (t : Bool) → ltb (state u.states s) 2 ≡ t → ((r : ℕ) → r < length b.sites → (v : Use) → Low v → Low (use_below n b r v)) → Low (use_below (suc n) b s u)
      go false e rec = rw (e, use_below) l
      go true e rec =
          rw (e, use_below) (let_low s (each (use_below n b) (site b s).sources (mark s u)) k
          (each_low (use_below n b) (site b s).sources (λ r m. rec r (let z = g.low s r m in omega arith)) (mark s u) l))

  pub sites_low : (ss : List ℕ) → ((s : ℕ) → Memᴰ s ss → s < length b.sites) → (st : List ℕ) → Low (use_all b ss st)
  unfolding use_site use_all
  sites_low ss h st = each_low (use_site b) ss (λ s m u l. use_low (suc s) s (h s m) u l) (record { states = st; lets = [] }) (λ x m. absurd (Memᴰ.not-nil m))
