-- `sets::Store::find` meets its contract: where the id is known, its entry less 1 is the representative.
use Rattle.std.specs.Prelude.{◌≡◌, List, ℕ, zero, suc, ◌-◌, ◌≤◌, Option, Some, None, SomeIff}
use Rattle.std.proofs.Common.{refl, arith, ap}
use Rattle.std.proofs.Math.Option.{some}
use Rattle.std.proofs.lemmas.Result.{err_from_is_err_and}
use borrow.Author.Tests.{le-ltb, lt-ltb}
use Rattle.definition.specs.Sets.{representative}
use Rattle.definition.specs.Answers.{known, answered, find_answer}
use Rattle.sets.specs.View.{class_of}
use Rattle.sets.specs.Promises.{optional}
use Rattle.sets.proofs.Store.find.Goals as goal

pub returns-in_err-label : goal.returns-in_err-label
unfolding known find_answer
returns-in_err-label c =
    let p = err_from_is_err_and c.from_residual.result c.from_residual.ensures.1 in
    let r = c.in_err-label.ensures in
    rw (p.1, p.2, r.1) (record { answer = rw (le-ltb _ _ r.0) })

-- one less than an entry, where there is one less
less_one : (rank : List ℕ) (e : ℕ) (o : Option ℕ) → SomeIff o (1 ≤ e) (e - 1) → optional o ≡ representative (class_of rank e)
less_one rank zero None h = refl
less_one rank zero (Some a) h = absurd (omega arith)
less_one rank (suc r) None h = absurd (h (omega arith))
less_one rank (suc r) (Some a) h = ap some (omega arith)

pub returns : goal.returns
unfolding known find_answer
returns c =
    let e = c.in_ok-label.ensures in
    record { answer = rw (lt-ltb _ _ e.0, ← e.1) (ap answered (less_one _ _ _ (rw c.from.ensures at c.checked_sub.ensures))) }
