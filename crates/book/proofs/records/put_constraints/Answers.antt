-- The loop keeps its invariant, and the contract follows from it at each return.
use Prim.Native.Nat.{ℕ, ◌+◌, ◌*◌}
use mathlib.Core.Path.{◌≡◌, refl, ap, ◌∙◌}
use mathlib.Core.List.{List}
use native.Mathlib.Omega.{arith}
use lib.Seq.{sets}
use Rattle.book.proofs.Recording.{four_fields, written}
use Rattle.definition.specs.Bytes.{constraint_fields}
use Rattle.definition.specs.Lists.{upto, flat}
use Rattle.laws.specs.Stores.{records_more_at}
use borrow.Author.Rules.{rules}
use Rattle.book.proofs.records.put_constraints.Goals as goal

pub loop-k-init : goal.loop-k-init
loop-k-init c = (search rules, refl)

pub loop-k-preserved : goal.loop-k-preserved
loop-k-preserved c =
    let args = c.args in
    let loop = c.loop-k in
    let fields = constraint_fields args.book.now args.o in
    let start = args.at + 4 * loop.k in
    let now : c.copy_from_slice.new.self ≡ fields loop.k = c.copy_from_slice.ensures.after ∙ c.constraint_fields.ensures in
    let long = four_fields args.book.now args.o loop.k in (
      search rules,
      written loop.rules _ (fields loop.k) start _ now (omega arith) (omega arith)
          ∙ ap (λ (m : List ℕ). sets m start (fields loop.k)) loop.invariant.1
          ∙ records_more_at args.rules.now args.at fields 4 loop.k (four_fields args.book.now args.o),
    )

pub returns : goal.returns
returns c =
    let args = c.args in
    let loop = c.loop-k in
    let e : loop.k ≡ 4 = omega arith in loop.invariant.1 ∙ ap (λ (n : ℕ). sets args.rules.now args.at (flat (constraint_fields args.book.now args.o) (upto n))) e
