-- `sets::Store::remove_set_of` meets its contract: `ids_with` lists the members, and renaming their entry to 0 removes them.
use Prim.Native.Nat.{ℕ}
use mathlib.Core.List.{List}
use mathlib.Core.Path.{◌≡◌, refl, ap, ◌∙◌, sym}
use lib.ListN.{get_or}
use native.Mathlib.Omega.{arith}
use Rattle.std.proofs.lemmas.Result.{err_from_is_err_and}
use borrow.Author.Tests.{le-ltb, lt-ltb}
use Rattle.definition.specs.Sets.{unmerged}
use Rattle.definition.specs.Answers.{known, answered, remove_answer, sets_left}
use Rattle.sets.specs.View.{class_of}
use Rattle.sets.specs.Promises.{view, listed}
use Rattle.sets.proofs.Listed.{ids_members, no_members, none_removed}
use Rattle.sets.proofs.Moving.{removed_made, removed_sets}
use Rattle.sets.proofs.Store.remove_set_of.Goals as goal

pub returns-in_err-entry : goal.returns-in_err-entry
unfolding known remove_answer sets_left
returns-in_err-entry c =
    let p = err_from_is_err_and c.from_residual.result c.from_residual.ensures.1 in
    let r = c.in_err-entry.ensures in
    let h = le-ltb _ _ r.0 in
    rw (p.1, p.2, r.1) (record { answer = rw h; sets = rw h; kept = λ n e. refl })

pub returns-then-entry-eq0 : goal.returns-then-entry-eq0
unfolding known remove_answer sets_left
returns-then-entry-eq0 c =
    let s = c.args.self.now in
    let e = c.in_ok-entry.ensures in
    let h = lt-ltb _ _ e.0 in
    let alone : view s c.args.x ≡ unmerged = ap (class_of s.rank) (sym e.1 ∙ c.if-entry-eq0.true) in
    let ms = no_members (view s) c.args.x alone in
    record { answer = rw (h, ms); sets = rw h (none_removed (view s) c.args.x alone); kept = λ n e. refl }

pub invariant_of-self : goal.invariant_of-self
invariant_of-self c =
    let e = c.in_ok-entry.ensures in
    let made = removed_made c.args.self.now c.args.x (λ z. c.if-entry-eq0.false (e.1 ∙ z)) in
    record { made = rw (c.relabelled-self.ensures, e.1) made }

pub returns : goal.returns
unfolding known remove_answer sets_left
returns c =
    let s = c.args.self.now in
    let e = c.in_ok-entry.ensures in
    let h = lt-ltb _ _ e.0 in
    let some : ◌≡◌ {A = ℕ} (get_or s.root c.args.x 0) 0 → ⊥ = λ z. c.if-entry-eq0.false (e.1 ∙ z) in
    record {
      answer = rw (h, c.ids_with-members.ensures, e.1) (ap (λ (l : List ℕ). answered (listed l)) (ids_members s c.args.x some));
      sets = rw (h, c.relabelled-self.ensures, e.1) (removed_sets s c.args.x some);
      kept = λ n d. let f = rw h at d in let z : ◌≡◌ {A = ℕ} 0 1 = cc in absurd (omega arith);
    }
