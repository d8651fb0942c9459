-- The loop keeps its invariant, and the contract follows from it at each return.
use Prim.Native.Nat.{ℕ, ◌+◌, ◌*◌}
use mathlib.Core.Path.{◌≡◌, refl, ap, ap₂, ◌∙◌}
use mathlib.Core.List.{List, map}
use native.Mathlib.Omega.{arith}
use lib.ListN.{length, set}
use lib.Seq.{sets, length-sets}
use Rattle.definition.specs.Book.{slots}
use Rattle.definition.specs.Bytes.{le16, id_field}
use Rattle.definition.specs.Lists.{upto}
use Rattle.laws.specs.Stores.{words_more}
use borrow.Author.Rules.{rules}
use Rattle.book.proofs.records.put_ids.Goals as goal

pub loop-k-init : goal.loop-k-init
loop-k-init c = (search rules, refl)

pub bounds-rules-at : goal.bounds-rules-at
bounds-rules-at c =
    let args = c.args in
    let loop = c.loop-k in
    let h : length loop.rules ≡ length args.rules.now = ap length loop.invariant.1 ∙ length-sets args.rules.now args.at (map (id_field slots args.book.now args.o) (upto loop.k)) in omega arith

pub loop-k-preserved : goal.loop-k-preserved
unfolding id_field
loop-k-preserved c =
    let args = c.args in
    let loop = c.loop-k in
    let q : args.o + 46 ≡ args.o + 14 + 32 = omega arith in (
      search rules,
      ap₂ (λ (m : List ℕ) (x : ℕ). set m (args.at + loop.k) x) loop.invariant.1 (c.read16-id.ensures.0 ∙ ap (λ (o : ℕ). le16 args.book.now (o + 2 * loop.k)) q)
          ∙ words_more args.rules.now args.at (id_field slots args.book.now args.o) loop.k,
    )

pub returns : goal.returns
returns c =
    let args = c.args in
    let loop = c.loop-k in
    let e : loop.k ≡ 12 = omega arith in loop.invariant.1 ∙ ap (λ (n : ℕ). sets args.rules.now args.at (map (id_field slots args.book.now args.o) (upto n))) e
