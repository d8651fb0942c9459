-- `sets::Store::merge` meets its contract: both ids enter, then their sets are joined; at the refusal the test that led there is
-- the definition's.
use mathlib.Core.Path.{◌≡◌, refl, sym, ap, ◌∙◌}
use mathlib.Core.Bool.{true}
use Prim.Native.Nat.{ℕ, ◌<◌}
use native.Mathlib.Omega.{arith}
use borrow.Author.Tests.{le-ltb, lt-ltb, eq-eqb, ne_eqb}
use Rattle.definition.specs.Book.{most}
use Rattle.definition.specs.Lists.{every}
use Rattle.definition.specs.Sets.{unmerged, Sets, enter, join}
use Rattle.definition.specs.Answers.{known, mergeable, merge_answer, merged_sets}
use Rattle.sets.specs.Promises.{view}
use Rattle.sets.proofs.Entering.{enter_some, enter_keeps}
use Rattle.sets.proofs.Store.merge.Goals as goal
use Rattle.sets.proofs.Store.merge.Goals.{then-x-ge-MOST-via-then-x-ge-MOST}
use Rattle.sets.proofs.Store.merge.Goals.{then-x-ge-MOST-via-else-x-ge-MOST+then-y-ge-MOST}
use Rattle.sets.proofs.Store.merge.Goals.{then-x-ge-MOST-via-else-x-ge-MOST+else-y-ge-MOST+then-x-y}

pub returns-then-x-ge-MOST : goal.returns-then-x-ge-MOST
unfolding known every mergeable merge_answer merged_sets
returns-then-x-ge-MOST c =
    elim c.then-x-ge-MOST.branch [
      | then-x-ge-MOST-via-then-x-ge-MOST w ↦
          let h = le-ltb _ _ w.if-x-ge-MOST.true in record { answer = rw h; sets = rw h; kept = λ n e. refl }
      | then-x-ge-MOST-via-else-x-ge-MOST+then-y-ge-MOST w ↦
          let h = lt-ltb _ _ w.if-x-ge-MOST.false in
          let g = le-ltb _ _ w.if-y-ge-MOST.true in
          record { answer = rw (h, g); sets = rw (h, g); kept = λ n e. refl }
      | then-x-ge-MOST-via-else-x-ge-MOST+else-y-ge-MOST+then-x-y w ↦
          let h = lt-ltb _ _ w.if-x-ge-MOST.false in
          let g = lt-ltb _ _ w.if-y-ge-MOST.false in
          let e = eq-eqb _ _ w.if-x-y.true in
          record { answer = rw (h, g, e); sets = rw (h, g, e); kept = λ n e. refl }
    ]

pub join-requires : goal.join-requires
join-requires c =
    let x = c.args.x in
    let y = c.args.y in
    let s = c.args.self.now in
    let one = c.enter.new.self in
    let first : view one x ≡ unmerged → ⊥ = λ e. enter_some (view s) x (ap (λ (s : Sets). s x) (sym c.enter.ensures) ∙ e) in
    record {
      x_id = omega arith;
      y_id = omega arith;
      x_merged = λ e. enter_keeps (view one) x y first (ap (λ (s : Sets). s x) (sym c.enter-2.ensures) ∙ e);
      y_merged = λ e. enter_some (view one) y (ap (λ (s : Sets). s y) (sym c.enter-2.ensures) ∙ e);
    }

good : (x y : ℕ) → x < most → y < most → (x ≡ y → ⊥) → mergeable x y ≡ true
unfolding known every mergeable
good x y hx hy n = rw (lt-ltb x most hx, lt-ltb y most hy, ne_eqb x y n)

pub returns : goal.returns
unfolding merge_answer merged_sets
returns c =
    let x = c.args.x in
    let y = c.args.y in
    let g = good x y (omega arith) (omega arith) c.if-x-y.false in
    record {
      answer = rw g;
      sets = rw g (c.join.ensures ∙ ap (join x y) (c.enter-2.ensures ∙ ap (λ (s : Sets). enter s y) c.enter.ensures));
      kept = λ n e. let f = rw g at e in let z : ◌≡◌ {A = ℕ} 0 1 = cc in absurd (omega arith);
    }
