-- The ids that `ids_with` collects are the members of a set: an id is a member where its entry is that of the set.
use mathlib.Core.Path.{◌≡◌, refl, sym, ◌∙◌, ap, fun_ext}
use mathlib.Core.Bool.{Bool, false}
use mathlib.Core.List.{List, [], ◌∷◌, ◌++◌, append-nil}
use Prim.Native.Nat.{ℕ, zero, suc, ◌+◌}
use lib.Dec.{eqb-suc-suc, eqb-zero-suc, eqb-suc-zero}
use lib.ListN.{get_or}
use borrow.Author.Tests.{eq-eqb, ne_eqb}
use Rattle.definition.specs.Book.{most}
use Rattle.definition.specs.Lists.{◌is◌, upto, filter}
use Rattle.definition.specs.Sets.{Class, unmerged, in_set, Sets, same_class, is_member, members, remove}
use Rattle.laws.specs.Ranges.{filter_more, filter_none}
use Rattle.sets.specs.declared.Store.{Store}
use Rattle.sets.specs.View.{class_of}
use Rattle.sets.specs.Promises.{view}
use Rattle.sets.specs.Entries.{has_entry, ids_with}

-- one more turn of the loop
pub ids_take : (a : ℕ) (l : List ℕ) (i : ℕ) → get_or l i 0 ≡ a → ids_with a l (i + 1) ≡ ids_with a l i ++ (i ∷ [])
unfolding ids_with has_entry
ids_take a l i e = filter_more (has_entry a l) i ∙ rw (eq-eqb (get_or l i 0) a e)

pub ids_skip : (a : ℕ) (l : List ℕ) (i : ℕ) → (get_or l i 0 ≡ a → ⊥) → ids_with a l (i + 1) ≡ ids_with a l i
unfolding ids_with has_entry
ids_skip a l i n = filter_more (has_entry a l) i ∙ rw (ne_eqb (get_or l i 0) a n) (append-nil (ids_with a l i))

-- two entries, not both 0, are of one class where they are the same
pub same_entry : (rank : List ℕ) (a b : ℕ) → (◌≡◌ {A = ℕ} a 0 → ◌≡◌ {A = ℕ} b 0 → ⊥)
    → same_class (class_of rank a) (class_of rank b) ≡ a is b
same_entry rank zero zero n = absurd (n refl refl)
same_entry rank zero (suc q) n = sym (eqb-zero-suc q)
same_entry rank (suc p) zero n = sym (eqb-suc-zero p)
same_entry rank (suc p) (suc q) n = sym (eqb-suc-suc p q)

module _ (s : Store) (x : ℕ) (n : ◌≡◌ {A = ℕ} (get_or s.root x 0) 0 → ⊥) where
  pub member_entry : (z : ℕ) → has_entry (get_or s.root x 0) s.root z ≡ is_member x (view s) z
  unfolding has_entry is_member
  member_entry z = sym (same_entry s.rank (get_or s.root z 0) (get_or s.root x 0) (λ e. n))

  ids_below : (k : ℕ) → ids_with (get_or s.root x 0) s.root k ≡ filter (is_member x (view s)) (upto k)
  unfolding ids_with
  ids_below k = ap (λ (p : ℕ → Bool). filter p (upto k)) (fun_ext member_entry)

  pub ids_members : ids_with (get_or s.root x 0) s.root most ≡ members x (view s)
  unfolding members
  ids_members = ids_below most

-- an unmerged id has no members, and nothing goes with it
module _ (s : Sets) (x : ℕ) (e : s x ≡ unmerged) where
  same_none : (c : Class) → same_class c unmerged ≡ false
  same_none unmerged = refl
  same_none (in_set r k) = refl

  no_member : (z : ℕ) → is_member x s z ≡ false
  unfolding is_member
  no_member z = rw e (same_none (s z))

  pub no_members : members x s ≡ []
  unfolding members
  no_members = filter_none (is_member x s) no_member (upto most)

  pub none_removed : s ≡ remove x s
  none_removed = fun_ext (λ z. rw (no_member z))
