-- The root block, and what its words leave of the whole room.
use Rattle.std.specs.Prelude.{Ok, Err}
use mathlib.Core.Path.{◌≡◌, sym, ◌∙◌, ap, subst}
use mathlib.Core.List.{List, [], ◌++◌}
use Prim.Native.Nat.{ℕ, ◌^◌, ◌≤◌, ◌<◌, min}
use native.Mathlib.Omega.{arith}
use lib.ListN.{length, get_or, take, drop, replicate, length-append, length-drop}
use lib.Seq.{length-take-le}
use borrow.Author.Tests.{le-leb, lt-leb}
use Rattle.definition.specs.Lists.{upto}
use Rattle.definition.specs.Book.{Book, most, slots}
use Rattle.definition.specs.Scope.{worked_out, nowhere, root}
use Rattle.definition.specs.Plan.{block, tree}
use Rattle.definition.specs.Tree.{nesting, words}
use Rattle.definition.specs.Answers.{answered, written}
use Rattle.laws.specs.Members.{from_bounds}
use Rattle.laws.specs.Loops.{front_range}
use Rattle.laws.specs.Ascending.{asc, asc_upto, from_distinct}
use Rattle.laws.specs.Lending.{front_back}
use Rattle.theorems.specs.Refusals.{rules_length}
use Rattle.room.specs.Wrote.{Wrote, Inside}
use Rattle.room.specs.declared.Writer.{Writer}
use Rattle.room.proofs.Written.{whole_fits}
use Rattle.scope.specs.declared.Scope.{Scope}
use Rattle.scope.specs.States.{Fresh}
use Rattle.scope.proofs.Standing.{joined_none, stands_root}
use Rattle.blocks.specs.declared.books.Book as code
use Rattle.blocks.specs.Work.{book_in, Part, Scoped, Lays, Planning}
use Rattle.blocks.specs.Made.{BlockMade}
use Rattle.blocks.proofs.Bounds.{root_bounded}
use Rattle.refusal.specs.declared.Refusal.{Refusal}
use Rattle.plan.specs.Leaves.{Leaves}

root_scoped : (b : Book) {s : Scope} → Fresh (worked_out b nowhere) s → Scoped s
root_scoped b f = record { joined = []; classes = joined_none f.root; states_ok = rw f.states (root_bounded b) }

all_part : (R : ℕ) → Part R (upto R)
all_part R = record { within = λ i m. (let z = from_bounds 0 R i m in omega arith); distinct = from_distinct 0 R }

module _ (k : code.Book) (order : List ℕ) (n : length order ≡ most) (e : (i : ℕ) → i < most → get_or order i 0 ≡ i) {s : Scope}
    (f : Fresh (worked_out (book_in k) nowhere) s) {o : Writer ℕ} where
  pub root_planning : length o.room.now ≤ 2 ^ 20 → Inside o → Planning k.rule_count s (take k.rule_count order) o
  root_planning h i = record {
    scope = root_scoped (book_in k) f;
    rules_of = rw (front_range k.rule_count most order k.accepted.few n e) (all_part k.rule_count);
    room = record { short = h; inside = i };
  }

  pub root_made : {p : Writer ℕ} → BlockMade k nesting s (take k.rule_count order) o p → Lays o (words (tree (book_in k))) p
  unfolding tree
  root_made {p} h =
      let b = book_in k in
      let R = k.rule_count in
      let t : asc R (take R order) ≡ upto (length b.rules) =
      ap (asc R) (front_range R most order k.accepted.few n e) ∙ asc_upto R ∙ ap upto (sym (rules_length slots k.sites.count R k.sites.words.now k.rules.now))
      in
      subst (λ w. Lays o (words (block b nesting (root b) w)) p) t (h.wrote (root b) (stands_root b f))

-- the front n of the room was lent: all of it, or more than any tree needs
module _ (l ws zs : List ℕ) (n : ℕ) {end : ℕ} (few : length ws < 2 ^ 20) (lent : n ≡ min (length l) (2 ^ 20)) (w : Wrote (take n l) 0 ws end zs) where
  inside : n ≤ length l
  inside = omega (arith, lent)

  front : length (take n l) ≡ n
  front = length-take-le n l inside

  pub tree_fits : end ≤ n → Leaves (written ws l) (Ok end) (zs ++ drop n l)
  unfolding written
  tree_fits h =
      let k : length ws ≤ n = omega (arith, w.next, front) in
      let q = whole_fits w (omega (arith, front)) in
      let t = le-leb (length ws) (length l) (omega (arith, k, inside)) in
      record { answer = rw t (ap answered q.0); room = rw t (ap (λ z. z ++ drop n l) q.1 ∙ front_back ws l n k inside) }

  pub tree_short : n < end → {m : List ℕ} → m ≡ replicate (length (zs ++ drop n l)) 0 → Leaves (written ws l) (Err Refusal.Room) m
  unfolding written
  tree_short h {m} e =
      let t = lt-leb (length ws) (length l) (omega (arith, w.next, front, lent, few)) in
      let z : length (zs ++ drop n l) ≡ length l = simp (length-append, length-drop) (omega (arith, w.size, front, inside)) in
      record { answer = rw t; room = rw t (e ∙ ap (λ k. replicate k 0) z) }
