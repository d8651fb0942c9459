-- The loop keeps its invariant, and the contract follows from it at each return.
use Rattle.std.proofs.Common.{◌≡◌, ℕ, ◌+◌, ◌%◌, ◌^◌, sym, refl, ap, ◌∙◌, ap₂, add-one, arith, rules}
use Rattle.definition.specs.Bytes.{edition_1, sum_of}
use borrow.Author.Rules.{rules}
use Rattle.frames.proofs.block_sum.Goals as goal

pub loop-k-init : goal.loop-k-init
unfolding sum_of
loop-k-init c = (search rules, refl)

pub loop-k-preserved : goal.loop-k-preserved
unfolding sum_of
loop-k-preserved c =
    let args = c.args in
    let loop = c.loop-k in
    (search rules, ap (λ (x : ℕ). x % 2 ^ 32) (ap₂ (λ (x y : ℕ). x + y) loop.invariant.1 (c.read32-sum.ensures ∙ omega arith)) ∙ ap (sum_of edition_1.weight args.book.now args.at) (sym (add-one loop.k)))

pub returns : goal.returns
returns c =
    let args = c.args in
    let loop = c.loop-k in
    let e : loop.k ≡ 128 = omega arith in loop.invariant.1 ∙ ap (sum_of edition_1.weight args.book.now args.at) e
