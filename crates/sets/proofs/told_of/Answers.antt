-- `sets::told_of` meets its contract: at each return the tests that led there are those of the definition.
use Rattle.std.proofs.Common.{sym, ap}
use Rattle.std.proofs.lemmas.Result.{err_from_is_err_and}
use borrow.Author.Tests.{le-ltb, lt-ltb}
use Rattle.definition.specs.Answers.{known, answered, same_answer}
use Rattle.sets.proofs.Listed.{same_entry}
use Rattle.sets.proofs.told_of.Goals as goal

pub returns-in_err-a : goal.returns-in_err-a
unfolding known same_answer
returns-in_err-a c =
    let p = err_from_is_err_and c.from_residual.result c.from_residual.ensures.1 in
    let r = c.in_err-a.ensures in
    rw (p.1, p.2, r.1) (record { answer = λ k. rw (le-ltb _ _ r.0) })

pub returns-in_err-b : goal.returns-in_err-b
unfolding known same_answer
returns-in_err-b c =
    let p = err_from_is_err_and c.from_residual-in_err-b.result c.from_residual-in_err-b.ensures.1 in
    let r = c.in_err-b.ensures in
    rw (p.1, p.2, r.1) (record { answer = λ k. rw (lt-ltb _ _ c.in_ok-a.ensures.0, le-ltb _ _ r.0) })

pub returns-then-a-ne0 : goal.returns-then-a-ne0
unfolding known same_answer
returns-then-a-ne0 c =
    let a = c.in_ok-a.ensures in
    let b = c.in_ok-b.ensures in
    record {
      answer = λ k.
          rw (lt-ltb _ _ a.0, lt-ltb _ _ b.0, ← a.1, ← b.1) (ap answered (sym (same_entry k _ _ (λ e f. c.if-a-ne0.true e))));
    }

pub returns-else-a-ne0 : goal.returns-else-a-ne0
unfolding known same_answer
returns-else-a-ne0 c =
    let a = c.in_ok-a.ensures in
    let b = c.in_ok-b.ensures in
    record { answer = λ k. rw (lt-ltb _ _ a.0, lt-ltb _ _ b.0, ← a.1, c.if-a-ne0.false) }
