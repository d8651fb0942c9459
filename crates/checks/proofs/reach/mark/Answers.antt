-- The loop keeps its invariant, and the contract follows from it at each return.
use Prim.Native.Nat.{ℕ}
use mathlib.Core.Path.{◌≡◌, subst}
use mathlib.Core.List.{map}
use native.Mathlib.Omega.{arith}
use Rattle.checks.proofs.Marking.{marked_nothing, marked_more}
use Rattle.checks.specs.Marks.{stepped, Marked}
use Rattle.definition.specs.Lists.{upto}
use borrow.Author.Rules.{rules}
use Rattle.checks.proofs.reach.mark.Goals as goal

pub loop-k-init : goal.loop-k-init
loop-k-init c = (omega arith, c.requires.1, marked_nothing _ _)

pub overflow_mul-s : goal.overflow_mul-s
overflow_mul-s c = omega (arith, (c.requires.2 c.loop-k.k c.loop-k-test.true).0)

pub overflow_add-s : goal.overflow_add-s
overflow_add-s c = omega (arith, (c.requires.2 c.loop-k.k c.loop-k-test.true).0)

pub offset_bounds-words-at : goal.offset_bounds-words-at
offset_bounds-words-at c = omega (arith, (c.requires.2 c.loop-k.k c.loop-k-test.true).0)

pub bounds-words-at : goal.bounds-words-at
bounds-words-at c = omega (arith, (c.requires.2 c.loop-k.k c.loop-k-test.true).0)

pub bounds-marks-s : goal.bounds-marks-s
unfolding stepped
bounds-marks-s c = omega (arith, (c.requires.2 c.loop-k.k c.loop-k-test.true).1)

pub loop-k-preserved : goal.loop-k-preserved
unfolding stepped
loop-k-preserved c =
    let args = c.args in
    let loop = c.loop-k in
    let ids = stepped args.words.now args.at args.step in
    (search rules, search rules, marked_more ids loop.k loop.invariant.2 (c.requires.2 loop.k c.loop-k-test.true).1 (omega arith))

pub returns : goal.returns
returns c =
    let args = c.args in
    let loop = c.loop-k in
    let e : loop.k ≡ args.n = omega arith in subst (λ (n : ℕ). Marked args.limit (map (stepped args.words.now args.at args.step) (upto n)) args.marks.now loop.marks) e loop.invariant.2
