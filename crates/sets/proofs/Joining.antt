-- The sets of two ids become one: which root stays, and with which rank.
use mathlib.Core.Path.{◌≡◌, sym, ◌∙◌, ap, ap₂}
use mathlib.Core.List.{List, [], ◌∷◌, map}
use Prim.Native.Nat.{ℕ, zero, suc, ◌+◌, ◌-◌, ◌≤◌, ◌<◌}
use native.Mathlib.Omega.{arith}
use lib.ListN.{get_or, length, set}
use borrow.Author.Tests.{ne_eqb, lt-ltb, le-ltb}
use Rattle.definition.specs.Sets.{Sets, unmerged, in_set, move, join, join_classes}
use Rattle.laws.specs.Loops.{relabel}
use Rattle.sets.specs.declared.Store.{Store}
use Rattle.sets.specs.View.{class_of, read, tally, Made}
use Rattle.sets.specs.Promises.{view}
use Rattle.sets.specs.Entries.{Joinable}
use Rattle.sets.proofs.Tallies.{tally_two}
use Rattle.sets.proofs.Moving.{moved_made, moved_sets}

-- the entry of an id, and the rank of its set
abbrev pub entry : Store → ℕ → ℕ
entry s x = get_or s.root x 0

abbrev pub rank_of : Store → ℕ → ℕ
rank_of s x = get_or s.rank (entry s x - 1) 0

in_range : (l : List ℕ) (i v : ℕ) → get_or l i 0 ≡ suc v → i < length l
in_range [] i v e = absurd (omega arith)
in_range (x ∷ xs) zero v e = omega arith
in_range (x ∷ xs) (suc i) v e = omega (arith, in_range xs i v e)

-- the entry of an id that is in a set is that of a root
pub record Rooted (s : Store) (e : ℕ) : Type 0 where
  pub one : e ≡ suc (e - 1)
  pub root : get_or s.root (e - 1) 0 ≡ suc (e - 1)
  pub rank : get_or s.rank (e - 1) 0 < tally (suc (e - 1)) s.root
  pub below : e ≤ length s.root

rooted : (s : Store) (x : ℕ) → (view s x ≡ unmerged → ⊥) → Rooted s (entry s x)
rooted s x h =
    let some : ◌≡◌ {A = ℕ} (entry s x) 0 → ⊥ = λ z. h (ap (class_of s.rank) z) in
    let one : entry s x ≡ suc (entry s x - 1) = omega arith in
    let root = s.made.roots x (entry s x - 1) one in
    let below = in_range s.root (entry s x - 1) (entry s x - 1) root in
    record { one = one; root = root; rank = s.made.ranks _ root; below = omega (arith, below) }

flip : {s : Store} {x y : ℕ} → Joinable s x y → Joinable s y x
flip j = record { x_id = j.y_id; y_id = j.x_id; x_merged = j.y_merged; y_merged = j.x_merged }

-- the arrays in which the entries `from` are `to`, and the root of `to` has rank m, are a store's, and their sets are t
pub record Moves (s : Store) (from to m : ℕ) (t : Sets) : Type 0 where
  pub made : Made (map (relabel from to) s.root) (set s.rank (to - 1) m)
  pub sets : read (map (relabel from to) s.root) (set s.rank (to - 1) m) ≡ t

module _ {s : Store} {x y : ℕ} (j : Joinable s x y) where
  pub at_x : Rooted s (entry s x)
  at_x = rooted s x j.x_merged

  pub at_y : Rooted s (entry s y)
  at_y = rooted s y j.y_merged

  differ : (entry s x ≡ entry s y → ⊥) → entry s x - 1 ≡ entry s y - 1 → ⊥
  differ n e = n (omega (arith, at_x.one, at_y.one))

  -- the set of x goes into that of y
  into : (entry s x ≡ entry s y → ⊥) → length s.rank ≡ length s.root → (m : ℕ)
      → m < tally (suc (entry s x - 1)) s.root + tally (suc (entry s y - 1)) s.root
      → Moves s (entry s x) (entry s y) m (move (entry s x - 1) (entry s y - 1) m (view s))
  into n long m small =
      let room : entry s y - 1 < length s.rank = omega (arith, at_y.one, at_y.below) in
      let made = moved_made s (entry s x - 1) (entry s y - 1) m (differ n) room at_y.root small in
      let sets = moved_sets s (entry s x - 1) (entry s y - 1) m (differ n) room at_y.root small in
      let e : map (relabel (entry s x) (entry s y)) s.root ≡ map (relabel (suc (entry s x - 1)) (suc (entry s y - 1))) s.root =
      ap₂ (λ (a b : ℕ). map (relabel a b) s.root) at_x.one at_y.one in
      record { made = rw e made; sets = rw e sets }

module _ {s : Store} {x y : ℕ} (j : Joinable s x y) where
  seen : join x y (view s) ≡ join_classes (in_set (entry s x - 1) (rank_of s x)) (in_set (entry s y - 1) (rank_of s y)) (view s)
  seen = ap₂ (λ (a b : ℕ). join_classes (class_of s.rank a) (class_of s.rank b) (view s)) (at_x j).one (at_y j).one

  module _ (n : entry s x ≡ entry s y → ⊥) where
    -- two sets, each of more members than its rank, leave room for a rank one higher
    pub grown : rank_of s y ≡ rank_of s x → rank_of s x + 1 < length s.root
    grown e =
        let two = tally_two (suc (entry s x - 1)) (suc (entry s y - 1)) (λ q. differ j n (omega arith)) s.root in
        omega (arith, (at_x j).rank, (at_y j).rank, two)

    module _ (long : length s.rank ≡ length s.root) where
      -- the greater rank stays
      pub join_second : rank_of s x < rank_of s y → Moves s (entry s x) (entry s y) (rank_of s y) (join x y (view s))
      join_second h =
          let t = into j n long (rank_of s y) (omega (arith, (at_y j).rank)) in
          record { made = t.made; sets = t.sets ∙ sym (seen ∙ rw (ne_eqb _ _ (differ j n), lt-ltb _ _ h)) }

      pub join_first : rank_of s y < rank_of s x → Moves s (entry s y) (entry s x) (rank_of s x) (join x y (view s))
      join_first h =
          let t = into (flip j) (λ e. n (sym e)) long (rank_of s x) (omega (arith, (at_x j).rank)) in
          let g : rank_of s y ≤ rank_of s x = omega arith in
          record { made = t.made; sets = t.sets ∙ sym (seen ∙ rw (ne_eqb _ _ (differ j n), le-ltb _ _ g, lt-ltb _ _ h)) }

      -- on a tie the first stays, and its rank grows
      pub join_tie : rank_of s y ≡ rank_of s x → Moves s (entry s y) (entry s x) (rank_of s x + 1) (join x y (view s))
      join_tie e =
          let t = into (flip j) (λ e. n (sym e)) long (rank_of s x + 1) (omega (arith, (at_x j).rank, (at_y j).rank)) in
          let g : rank_of s y ≤ rank_of s x = omega arith in
          let h : rank_of s x ≤ rank_of s y = omega arith in
          record { made = t.made; sets = t.sets ∙ sym (seen ∙ rw (ne_eqb _ _ (differ j n), le-ltb _ _ g, le-ltb _ _ h)) }
