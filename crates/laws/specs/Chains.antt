-- What the calls `all` and `any` of a range, or of a window of a list, answer, where the closure answers a test.
use Prim.Native.Nat.{ℕ, zero, suc, ◌+◌, ◌-◌, ◌≤◌}
use mathlib.Core.Path.{◌≡◌, refl, sym, ap, ◌∙◌}
use mathlib.Core.Bool.{Bool, true, false, ◌&&◌, ◌||◌}
use mathlib.Core.List.{List, map}
use Rattle.std.proofs.Common.{arith, add-one, drop-cons}
use lib.ListN.{length, get_or, take, drop}
use denote.Ref.{Bor}
use denote.Param.Members.{Mut}
use Rattle.std.proofs.iter.Yields.{nat_range_steps, fronts}
use Rattle.std.proofs.lemmas.Iterator.{YieldsList-from_range, YieldsList-from_slice}
use Rattle.std.proofs.lemmas.Iterator.Search.{all_from_yields_List, any_from_yields_List}
use Rattle.std.specs.Fn.{Called}
use Rattle.std.specs.Iterator.{YieldsThen}
use Rattle.std.specs.List.{FoldsTo, list_all, list_any, range_with_len}
use Rattle.std.specs.Option.{MatchOption}
use Rattle.std.specs.Prelude.{Option}
use Rattle.std.specs.Slice.Iter.{iter_rest}
use Rattle.std.proofs.Common.{Iter}
use Rattle.std.specs.declared.ops.Range.{Range}
use Rattle.definition.specs.Lists.{◌is◌, from, upto, all, any}
use Rattle.definition.specs.Tables.{is_zero, zero_from}
use Rattle.laws.specs.Turns.{all_map, any_map}

all_listed : (p : ℕ → Bool) (a n : ℕ) → list_all p (range_with_len a n) ≡ all p (from a n)
all_listed p a zero = refl
all_listed p a (suc n) = rw (add-one a) (ap (λ (t : Bool). p a && t) (all_listed p (suc a) n))

any_listed : (p : ℕ → Bool) (a n : ℕ) → list_any p (range_with_len a n) ≡ any p (from a n)
any_listed p a zero = refl
any_listed p a (suc n) = rw (add-one a) (ap (λ (t : Bool). p a || t) (any_listed p (suc a) n))

module _ {F : Type 0} (g : Mut F (ℕ × Unit {0}) Bool) where
  -- the closure answers the test p of a number, and changes nothing
  abbrev pub Asks : F → (ℕ → Bool) → Type 0
  Asks f p = (x : ℕ) (b : Bool) (q : F) → Called g f (x, tt) b q → (q ≡ f) × (b ≡ p x)

  -- `all` asked the closure of numbers of the range up to the first that fails, `any` up to the first that passes
  abbrev pub AskedAll : Range ℕ → Range ℕ → F → Bool → Type 0
  AskedAll s u f r =
      (xs : List ℕ) × (o : Option ℕ) × (j : F) × YieldsThen nat_range_steps s xs o u × FoldsTo (λ p x q. Called g p (x, tt) true q) f xs j
      × MatchOption o (r ≡ true) (λ x. (r ≡ false) × ((h : F) × Called g j (x, tt) false h))

  abbrev pub AskedAny : Range ℕ → Range ℕ → F → Bool → Type 0
  AskedAny s u f r =
      (xs : List ℕ) × (o : Option ℕ) × (j : F) × YieldsThen nat_range_steps s xs o u × FoldsTo (λ p x q. Called g p (x, tt) false q) f xs j
      × MatchOption o (r ≡ false) (λ x. (r ≡ true) × ((h : F) × Called g j (x, tt) true h))

module _ {F : Type 0} {g : Mut F (ℕ × Unit {0}) Bool} {u : Range ℕ} {f : F} {r : Bool} where
  pub all_between : (p : ℕ → Bool) (a b : ℕ) → AskedAll g (record { start = a; end = b }) u f r → Asks g f p → r ≡ all p (from a (b - a))
  all_between p a b ran k = all_from_yields_List p u f r ran (YieldsList-from_range a b (b - a) refl refl) k ∙ all_listed p a (b - a)

  pub any_between : (p : ℕ → Bool) (a b : ℕ) → AskedAny g (record { start = a; end = b }) u f r → Asks g f p → r ≡ any p (from a (b - a))
  any_between p a b ran k = any_from_yields_List p u f r ran (YieldsList-from_range a b (b - a) refl refl) k ∙ any_listed p a (b - a)

  pub all_below : (p : ℕ → Bool) (n : ℕ) → AskedAll g (record { start = 0; end = n }) u f r → Asks g f p → r ≡ all p (upto n)
  all_below p n ran k = all_from_yields_List p u f r ran (YieldsList-from_range 0 n n refl (omega arith)) k ∙ all_listed p 0 n

  pub any_below : (p : ℕ → Bool) (n : ℕ) → AskedAny g (record { start = 0; end = n }) u f r → Asks g f p → r ≡ any p (upto n)
  any_below p n ran k = any_from_yields_List p u f r ran (YieldsList-from_range 0 n n refl (omega arith)) k ∙ any_listed p 0 n

  -- the same of what h makes of the numbers
  module _ {A : Type 0} (p : A → Bool) (h : ℕ → A) where
    pub all_mapped : (n : ℕ) → AskedAll g (record { start = 0; end = n }) u f r → Asks g f (λ k. p (h k)) → r ≡ all p (map h (upto n))
    all_mapped n ran k = all_below (λ k. p (h k)) n ran k ∙ sym (all_map p h (upto n))

    pub any_mapped : (n : ℕ) → AskedAny g (record { start = 0; end = n }) u f r → Asks g f (λ k. p (h k)) → r ≡ any p (map h (upto n))
    any_mapped n ran k = any_below (λ k. p (h k)) n ran k ∙ sym (any_map p h (upto n))

    pub any_mapped_between : (a b : ℕ) → AskedAny g (record { start = a; end = b }) u f r → Asks g f (λ k. p (h k)) → r ≡ any p (map h (from a (b - a)))
    any_mapped_between a b ran k = any_between (λ k. p (h k)) a b ran k ∙ sym (any_map p h (from a (b - a)))

-- A WINDOW of a list, its n items from o on
module _ (p : ℕ → Bool) where
  pub window_is : (t : List ℕ) (o n : ℕ) → o + n ≤ length t → list_all p (take n (drop o t)) ≡ all (λ k. p (get_or t k 0)) (from o n)
  window_is t o zero h = refl
  window_is t o (suc n) h = rw (drop-cons t o 0 (omega arith)) (ap (λ (b : Bool). p (get_or t o 0) && b) (window_is t (suc o) n (omega arith)))

module _ {F : Type 0} (g : Mut F (Bor ℕ × Unit {0}) Bool) where
  abbrev pub AsksItem : F → (ℕ → Bool) → Type 0
  AsksItem f p = (x : Bor ℕ) (b : Bool) (q : F) → Called g f (x, tt) b q → (q ≡ f) × (b ≡ p x.now)

  abbrev pub AskedItems : Iter ℕ → Iter ℕ → F → Bool → Type 0
  AskedItems s u f r =
      (xs : List (Bor ℕ)) × (o : Option (Bor ℕ)) × (j : F) × YieldsThen fronts s xs o u × FoldsTo (λ p x q. Called g p (x, tt) true q) f xs j
      × MatchOption o (r ≡ true) (λ x. (r ≡ false) × ((h : F) × Called g j (x, tt) false h))

module _ {F : Type 0} {g : Mut F (Bor ℕ × Unit {0}) Bool} {s u : Iter ℕ} {f : F} {r : Bool} where
  pub all_window : (p : ℕ → Bool) (t : List ℕ) (o n m : ℕ) → AskedItems g s u f r → iter_rest s ≡ take m (drop o t) → m ≡ n → o + n ≤ length t
      → AsksItem g f p → r ≡ all (λ k. p (get_or t k 0)) (from o n)
  all_window p t o n m ran e i h k =
      all_from_yields_List p u f r ran (YieldsList-from_slice (take n (drop o t)) (e ∙ ap (λ (j : ℕ). take j (drop o t)) i)) k ∙ window_is p t o n h

  -- they are zero
  pub zero_window : (t : List ℕ) (o n m : ℕ) → AskedItems g s u f r → iter_rest s ≡ take m (drop o t) → m ≡ n → o + n ≤ length t
      → AsksItem g f (λ x. x is 0) → r ≡ zero_from t o n
  unfolding is_zero
  zero_window t o n m ran e i h k = all_window (λ x. x is 0) t o n m ran e i h k
