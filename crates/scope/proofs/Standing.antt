-- The code's scope stands for the definition's, and goes on doing so in each way that a scope changes.
use mathlib.Core.Path.{◌≡◌, refl, ◌∙◌, ap, subst}
use mathlib.Core.Bool.{◌&&◌, not}
use mathlib.Core.List.{List, []}
use Prim.Native.Nat.{ℕ, zero, suc, ◌<◌}
use native.Mathlib.Omega.{arith}
use Rattle.std.specs.Prelude.{Result}
use lib.Dec.{eqb-suc-suc}
use lib.ListN.{get_or, set, replicate}
use borrow.Author.Tests.{lt-ltb, ne_eqb}
use Rattle.definition.specs.Lists.{◌is◌, every}
use Rattle.definition.specs.Book.{Pair, Pattern, Book, most, linked}
use Rattle.definition.specs.Sets.{Sets, same_class, merge}
use Rattle.definition.specs.Scope as plan
use Rattle.definition.specs.Scope.{matched, nowhere, worked_out, arm_states, use_all, root, inside, joining}
use Rattle.definition.specs.Answers.{known, mergeable, merged_sets}
use Rattle.definition.specs.Tree.{let_words}
use Rattle.refusal.specs.declared.Refusal.{Refusal}
use Rattle.sets.specs.declared.Store.{Store}
use Rattle.sets.specs.View.{class_of, read, same_root}
use Rattle.sets.specs.Promises.{view, Merges}
use Rattle.room.specs.Wrote.{Writes}
use Rattle.room.specs.declared.Writer.{Writer}
use Rattle.scope.specs.declared.Scope.{Scope}
use Rattle.scope.specs.States.{arm_bindings, With, Fresh}
use Rattle.scope.specs.Uses.{Listed}
use Rattle.scope.specs.Classes.{label_in, Joined, Joins, matching, Stands}
use Rattle.scope.proofs.Labels.{made_rooted, merged_linked, same_linked}

-- CLASSES
zero_at : (n z : ℕ) → ◌≡◌ {A = ℕ} (get_or (replicate n 0) z 0) 0
zero_at zero z = refl
zero_at (suc n) zero = refl
zero_at (suc n) (suc z) = zero_at n z

-- at the root nothing is joined
pub joined_none : {root rank : List ℕ} → root ≡ nowhere → Joined [] root rank
unfolding nowhere linked
joined_none {root} {rank} e = record {
  made = record { roots = λ z r p. absurd (empty z r p); ranks = λ r p. absurd (empty r r p) };
  agree = λ u v. rw (here u, here v);
}
  where
    here : (z : ℕ) → ◌≡◌ {A = ℕ} (get_or root z 0) 0
    here z = rw e (zero_at most z)

    empty : (z r : ℕ) → get_or root z 0 ≡ suc r → ⊥
    empty z r p = omega (arith, here z)

module _ {ps : List Pair} {root rank : List ℕ} (j : Joined ps root rank) where
  -- by the roots alone
  pub roots_linked : (x y : ℕ) → (x ≡ y → ⊥) → same_root root x y ≡ linked ps x y
  unfolding same_root
  roots_linked x y n =
      go (get_or root x 0) (get_or root y 0) ∙ same_linked ps (read root rank) (made_rooted root rank j.made) j.agree x y n
    where
      go : (p q : ℕ) → not (p is 0) && p is q ≡ same_class (class_of rank p) (class_of rank q)
      go zero q = refl
      go (suc p) zero = rw (ne_eqb (suc p) 0 (λ e. omega arith))
      go (suc p) (suc q) = rw (ne_eqb (suc p) 0 (λ e. omega arith)) (eqb-suc-suc p q)

-- states st, and the classes of a store
abbrev pub scope_of : List ℕ → Store → Scope
scope_of st k = record { states = st; root = k.root; rank = k.rank }

pub joins : (st : List ℕ) (k t : Store) (x y : ℕ) → x < most → y < most → (x ≡ y → ⊥) → {r : Result (Unit {0}) Refusal}
    → Merges k x y t r → Joins x y (scope_of st k) (scope_of st t)
unfolding merged_sets mergeable known every
joins st k t x y hx hy n h =
    let e : view t ≡ merge x y (view k) = h.sets ∙ rw (lt-ltb x most hx, lt-ltb y most hy, ne_eqb x y n) in
    record {
      states = refl;
      classes = λ ps j. record {
        made = t.made;
        agree = λ u v.
            ap (λ (s : Sets). label_in (s u) u is label_in (s v) v) e
            ∙ merged_linked ps (view k) (made_rooted k.root k.rank j.made) j.agree x y u v;
      };
    }

-- SCOPES
joined_with : {st : List ℕ} {s r : Scope} {ps : List Pair} → With st s r → Joined ps s.root s.rank → Joined ps r.root r.rank
joined_with {ps = ps} w j = rw (w.root, w.rank) j

pub stands_root : (b : Book) {r : Scope} → Fresh (worked_out b nowhere) r → Stands (root b) r
unfolding root
stands_root b f = record { states = f.states; classes = joined_none f.root }

module _ {σ : plan.Scope} {s : Scope} (h : Stands σ s) where
  pub stands_matching : (x : ℕ) {r : Scope} → With (set s.states x matched) s r → Stands (matching σ x) r
  stands_matching x w = record { states = w.states ∙ ap (λ st. set st x matched) h.states; classes = joined_with w h.classes }

  pub stands_joining : {x y : ℕ} {r : Scope} → Joins x y s r → Stands (joining σ x y) r
  stands_joining j = record { states = j.states ∙ h.states; classes = j.classes σ.joined h.classes }

  -- a step's let list: the scope after it, and its words
  module _ {b : Book} {ss : List ℕ} {o : Writer ℕ} {n : ℕ} {r : Scope} {p : Writer ℕ} (w : Listed b ss s o n r p) where
    pub stands_used : Stands (record { states = (use_all b ss σ.states).states; joined = σ.joined }) r
    stands_used = record {
      states = w.scope.states ∙ ap (λ st. (use_all b ss st).states) h.states;
      classes = joined_with w.scope h.classes;
    }

    pub used_words : Writes o (let_words (use_all b ss σ.states).lets) p
    used_words = subst (λ st. Writes o (let_words (use_all b ss st).lets) p) h.states w.wrote

pub stands_inside : (b : Book) (σ : plan.Scope) (x : ℕ) (p : Pattern) {s r : Scope} → Stands (matching σ x) s
    → With (arm_bindings b x p s.states) s r → Stands (inside b σ x p) r
unfolding inside arm_states arm_bindings
stands_inside b σ x p h w = record { states = w.states ∙ ap (arm_bindings b x p) h.states; classes = joined_with w h.classes }
