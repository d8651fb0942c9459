-- Laws of a loop over k below n, from the front. What it has still to do at k is the list `xs k`: element k, then `xs (k + 1)`; from n on nothing.
-- An invariant says that the answer over the whole list is the answer over `xs k`, put together with what was found so far.
use Rattle.std.specs.Prelude.{◌≡◌, Bool, true, false, List, [], ◌∷◌, map, ℕ, suc, ◌+◌, ◌-◌, ◌≤◌, ◌<◌, length, get_or, drop, if◌then◌else◌}
use Rattle.std.proofs.Common.{ap, add-one, arith, drop_of_length-le, drop-cons}
use Rattle.definition.specs.Lists.{from, keep, filter, any, each}

pub record Runs {A : Type 0} (xs : ℕ → List A) (g : ℕ → A) (n : ℕ) : Type 0 where
  pub more : (k : ℕ) → k < n → xs k ≡ g k ∷ xs (k + 1)
  pub none : (k : ℕ) → n ≤ k → xs k ≡ []

-- the slots 0 to n - 1 of a record
pub in_slots : {A : Type 0} (g : ℕ → A) (n : ℕ) → Runs (λ k. map g (from k (n - k))) g n
in_slots g n = record {
  more = λ k h. let e : n - k ≡ suc (n - (k + 1)) = omega arith in rw (e, add-one k);
  none = λ k h. let e : n - k ≡ 0 = omega arith in rw e;
}

-- the elements of a slice
pub in_slice : (l : List ℕ) → Runs (λ k. drop k l) (λ k. get_or l k 0) (length l)
in_slice l = record { more = λ k h. rw add-one (drop-cons l k 0 h); none = λ k h. drop_of_length-le l {i = k} h }

module _ {A : Type 0} {xs : ℕ → List A} {g : ℕ → A} {n : ℕ} (r : Runs xs g n) (p : A → Bool) (k : ℕ) where
  pub any_skip : k < n → p (g k) ≡ false → any p (xs (k + 1)) ≡ any p (xs k)
  any_skip h e = rw (r.more k h, e)

  pub any_hit : k < n → p (g k) ≡ true → any p (xs k) ≡ true
  any_hit h e = rw (r.more k h, e)

  pub any_end : n ≤ k → any p (xs k) ≡ false
  any_end h = rw (r.none k h)

-- any fold
module _ {A B : Type 0} {xs : ℕ → List A} {g : ℕ → A} {n : ℕ} (r : Runs xs g n) (f : A → B → B) (k : ℕ) where
  pub each_more : k < n → (b : B) → each f (xs k) b ≡ each f (xs (k + 1)) (f (g k) b)
  each_more h b = rw (r.more k h)

  pub each_end : n ≤ k → (b : B) → each f (xs k) b ≡ b
  each_end h b = rw (r.none k h)

-- A LOOP THAT COUNTS those of a slice that pass a test: n of them before k
abbrev pub one : Bool → ℕ
one t = if t then 1 else 0

pub one_le : (t : Bool) → one t ≤ 1
one_le true = omega arith
one_le false = omega arith

pub one_kept : {A : Type 0} (t : Bool) (x : A) (xs : List A) → length (keep t x xs) ≡ one t + length xs
one_kept true x xs = omega arith
one_kept false x xs = omega arith

pub record Tallied (p : ℕ → Bool) (l : List ℕ) (k n : ℕ) : Type 0 where
  pub within : k ≤ length l
  pub few : n ≤ k
  pub is : n + length (filter p (drop k l)) ≡ length (filter p l)

pub tally_starts : (p : ℕ → Bool) (l : List ℕ) → Tallied p l 0 0
tally_starts p l = record { within = omega arith; few = omega arith; is = omega arith }

module _ {p : ℕ → Bool} {l : List ℕ} {k n : ℕ} (v : Tallied p l k n) where
  pub tally_turn : k < length l → {u : Bool} {r : ℕ} → u ≡ p (get_or l k 0) → r ≡ n + one u → Tallied p l (k + 1) r
  tally_turn h {u} {r} eu er =
      let m : length (filter p (drop k l)) ≡ one (p (get_or l k 0)) + length (filter p (drop (k + 1) l)) = rw ((in_slice l).more k h) (one_kept (p (get_or l k 0)) (get_or l k 0) (filter p (drop (k + 1) l))) in
      let z : one u ≡ one (p (get_or l k 0)) = ap one eu in
      let y = one_le u in
      record { within = omega arith; few = omega (arith, v.few); is = omega (arith, v.is) }

  pub tally_ends : length l ≤ k → n ≡ length (filter p l)
  tally_ends h = let z : length (filter p (drop k l)) ≡ 0 = rw ((in_slice l).none k h) in omega (arith, v.is)
