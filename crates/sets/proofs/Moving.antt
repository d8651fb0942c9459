-- Roots whose entries a are renamed to b: the set of a goes into that of b, or, where b is 0, it is removed.
use mathlib.Core.Path.{◌≡◌, refl, sym, ◌∙◌, ap, fun_ext}
use mathlib.Core.Bool.{Bool, true, false}
use mathlib.Core.List.{List, map}
use Prim.Native.Nat.{ℕ, zero, suc, ◌+◌, ◌<◌}
use native.Mathlib.Omega.{arith}
use native.Mathlib.Decide.{ℕ_discrete}
use lib.Dec.{eqb-suc-suc, eqb-zero-suc}
use lib.ListN.{get_or, length, set, get_or-map}
use lib.Seq.{get_or-set_same, get_or-set_other}
use borrow.Author.Tests.{eq-eqb, ne_eqb}
use Rattle.definition.specs.Lists.{◌is◌}
use Rattle.std.specs.Prelude.{if◌then◌else◌}
use Rattle.definition.specs.Sets.{unmerged, in_set, moved, move, remove}
use Rattle.laws.specs.Loops.{relabel}
use Rattle.sets.specs.declared.Store.{Store}
use Rattle.sets.specs.View.{class_of, read, tally, Made}
use Rattle.sets.specs.Promises.{view}
use Rattle.sets.specs.Entries.{has_entry}
use Rattle.sets.proofs.Tallies.{tally_into, tally_else}
use Rattle.sets.proofs.Listed.{member_entry}

-- ENTRIES of a list l in which b stands for a
module _ (l : List ℕ) (a b : ℕ) (n : ◌≡◌ {A = ℕ} 0 a → ⊥) where
  renamed : (z : ℕ) → get_or (map (relabel a b) l) z 0 ≡ relabel a b (get_or l z 0)
  renamed z = rw (ne_eqb 0 a n) at (get_or-map (relabel a b) l z 0)

  -- an entry that is not b was there before, and is not a
  was : (z v : ℕ) → (v ≡ b → ⊥) → get_or (map (relabel a b) l) z 0 ≡ v → (get_or l z 0 ≡ v) × (v ≡ a → ⊥)
  was z v g h = go (ℕ_discrete (get_or l z 0) a)
    where
      go : Dec (get_or l z 0 ≡ a) → (get_or l z 0 ≡ v) × (v ≡ a → ⊥)
      go (yes e) = absurd (g (sym h ∙ renamed z ∙ rw (e, eq-eqb a a refl)))
      go (no f) = let e : get_or l z 0 ≡ v = rw (ne_eqb (get_or l z 0) a f) at (sym (renamed z) ∙ h) in (e, λ y. f (e ∙ y))

  stays : (z v : ℕ) → (v ≡ a → ⊥) → get_or l z 0 ≡ v → get_or (map (relabel a b) l) z 0 ≡ v
  stays z v g e = renamed z ∙ rw (e, ne_eqb v a g)

-- THE OTHER SETS are as they were
module _ (s : Store) (a b : ℕ) (n : ◌≡◌ {A = ℕ} 0 a → ⊥) (d : a ≡ b → ⊥) where
  other_roots : (z r : ℕ) → (suc r ≡ b → ⊥) → get_or (map (relabel a b) s.root) z 0 ≡ suc r
      → get_or (map (relabel a b) s.root) r 0 ≡ suc r
  other_roots z r g h = let t = was s.root a b n z (suc r) g h in stays s.root a b n r (suc r) t.1 (s.made.roots z r t.0)

  other_ranks : (r : ℕ) → (suc r ≡ b → ⊥) → get_or (map (relabel a b) s.root) r 0 ≡ suc r
      → get_or s.rank r 0 < tally (suc r) (map (relabel a b) s.root)
  other_ranks r g h =
      let t = was s.root a b n r (suc r) g h in
      rw (tally_else a b d (suc r) t.1 g s.root) (s.made.ranks r t.0)

-- TWO SETS BECOME ONE: the root p goes, the root q stays, and its rank is m
module _ (s : Store) (p q m : ℕ) (n : p ≡ q → ⊥) (hk : q < length s.rank) (hq : get_or s.root q 0 ≡ suc q)
    (small : m < tally (suc p) s.root + tally (suc q) s.root) where
  some : ◌≡◌ {A = ℕ} 0 (suc p) → ⊥
  some e = omega arith

  apart : suc p ≡ suc q → ⊥
  apart e = n (omega arith)

  moved_class : (v : ℕ) → class_of (set s.rank q m) (relabel (suc p) (suc q) v) ≡ moved p q m (class_of s.rank v)
  moved_class zero = rw (eqb-zero-suc p)
  moved_class (suc t) = rw (eqb-suc-suc t p) (go (ℕ_discrete t p))
    where
      at_q : get_or (set s.rank q m) q 0 ≡ m
      at_q = get_or-set_same s.rank q m 0 hk

      go : Dec (t ≡ p) → class_of (set s.rank q m) (if t is p then suc q else suc t) ≡ moved p q m (in_set t (get_or s.rank t 0))
      go (yes e) = rw (e, eq-eqb p p refl) (ap (in_set q) at_q)
      go (no h) = rw (ne_eqb t p h) (at (ℕ_discrete t q))
        where
          at : Dec (t ≡ q)
              → in_set t (get_or (set s.rank q m) t 0) ≡ (if t is q then in_set q m else in_set t (get_or s.rank t 0))
          at (yes e) = rw (e, eq-eqb q q refl) (ap (in_set q) at_q)
          at (no g) = rw (ne_eqb t q g) (ap (in_set t) (get_or-set_other s.rank q t m 0 g))

  moved_view : (z : ℕ) → read (map (relabel (suc p) (suc q)) s.root) (set s.rank q m) z ≡ move p q m (view s) z
  moved_view z = rw (renamed s.root (suc p) (suc q) some z) (moved_class (get_or s.root z 0))

  moved_roots : (z r : ℕ) → get_or (map (relabel (suc p) (suc q)) s.root) z 0 ≡ suc r
      → get_or (map (relabel (suc p) (suc q)) s.root) r 0 ≡ suc r
  moved_roots z r h = go (ℕ_discrete r q)
    where
      go : Dec (r ≡ q) → get_or (map (relabel (suc p) (suc q)) s.root) r 0 ≡ suc r
      go (yes e) = rw e (stays s.root (suc p) (suc q) some q (suc q) (λ y. apart (sym y)) hq)
      go (no g) = other_roots s (suc p) (suc q) some apart z r (λ y. g (omega arith)) h

  moved_ranks : (r : ℕ) → get_or (map (relabel (suc p) (suc q)) s.root) r 0 ≡ suc r
      → get_or (set s.rank q m) r 0 < tally (suc r) (map (relabel (suc p) (suc q)) s.root)
  moved_ranks r h = go (ℕ_discrete r q)
    where
      go : Dec (r ≡ q) → get_or (set s.rank q m) r 0 < tally (suc r) (map (relabel (suc p) (suc q)) s.root)
      go (yes e) = rw (e, get_or-set_same s.rank q m 0 hk, tally_into (suc p) (suc q) apart s.root) small
      go (no g) =
          rw (get_or-set_other s.rank q r m 0 g) (other_ranks s (suc p) (suc q) some apart r (λ y. g (omega arith)) h)

  pub moved_made : Made (map (relabel (suc p) (suc q)) s.root) (set s.rank q m)
  moved_made = record { roots = moved_roots; ranks = moved_ranks }

  pub moved_sets : read (map (relabel (suc p) (suc q)) s.root) (set s.rank q m) ≡ move p q m (view s)
  moved_sets = fun_ext moved_view

-- ONE SET IS REMOVED: that of x
module _ (s : Store) (x : ℕ) (n : ◌≡◌ {A = ℕ} (get_or s.root x 0) 0 → ⊥) where
  gone_class : (k : List ℕ) (t : Bool) (v : ℕ) → class_of k (if t then 0 else v) ≡ (if t then unmerged else class_of k v)
  gone_class k true v = refl
  gone_class k false v = refl

  gone_view : (z : ℕ) → read (map (relabel (get_or s.root x 0) 0) s.root) s.rank z ≡ remove x (view s) z
  unfolding has_entry
  gone_view z =
      rw (renamed s.root (get_or s.root x 0) 0 (λ e. n (sym e)) z, ← member_entry s x n z)
      (gone_class s.rank (get_or s.root z 0 is get_or s.root x 0) (get_or s.root z 0))

  pub removed_made : Made (map (relabel (get_or s.root x 0) 0) s.root) s.rank
  removed_made = record {
    roots = λ z r h. other_roots s (get_or s.root x 0) 0 (λ e. n (sym e)) n z r (λ y. omega arith) h;
    ranks = λ r h. other_ranks s (get_or s.root x 0) 0 (λ e. n (sym e)) n r (λ y. omega arith) h;
  }

  pub removed_sets : read (map (relabel (get_or s.root x 0) 0) s.root) s.rank ≡ remove x (view s)
  removed_sets = fun_ext gone_view
