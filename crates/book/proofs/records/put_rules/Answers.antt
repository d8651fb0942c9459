-- The loop keeps its invariant, and the contract follows from it at each return.
use Prim.Native.Nat.{ℕ, ◌*◌}
use mathlib.Core.Path.{◌≡◌, refl, ap, ◌∙◌}
use mathlib.Core.List.{List}
use native.Mathlib.Omega.{arith}
use lib.ListN.{length}
use lib.Seq.{sets, length-sets}
use Rattle.book.proofs.Recording.{length_rule_fields}
use Rattle.definition.specs.Book.{slots}
use Rattle.definition.specs.Bytes.{rule_fields, rule_record, rule_table}
use Rattle.definition.specs.Lists.{upto, flat}
use Rattle.laws.specs.Stores.{records_more}
use borrow.Author.Rules.{rules}
use Rattle.book.proofs.records.put_rules.Goals as goal

pub loop-i-init : goal.loop-i-init
loop-i-init c = (search rules, refl)

pub put_rule-requires : goal.put_rule-requires
put_rule-requires c =
    let args = c.args in
    let loop = c.loop-i in
    let h : length loop.rules ≡ length args.rules.now = ap length loop.invariant.1 ∙ length-sets args.rules.now 0 (flat (rule_record slots args.sites args.book.now) (upto loop.i)) in (omega arith, omega arith)

pub loop-i-preserved : goal.loop-i-preserved
unfolding rule_record
loop-i-preserved c =
    let args = c.args in
    let loop = c.loop-i in
    let b = args.book.now in
    let now = c.put_rule.ensures ∙ ap (λ (o : ℕ). sets loop.rules (34 * loop.i) (rule_fields slots b o)) c.rule_offset.ensures in (
      search rules,
      now
          ∙ ap (λ (m : List ℕ). sets m (34 * loop.i) ((rule_record slots args.sites args.book.now) loop.i)) loop.invariant.1
          ∙ records_more args.rules.now (rule_record slots args.sites args.book.now) 34 loop.i (λ i. length_rule_fields args.book.now _),
    )

pub returns : goal.returns
unfolding rule_table
returns c =
    let args = c.args in
    let loop = c.loop-i in
    let e : loop.i ≡ args.count = omega arith in loop.invariant.1 ∙ ap (λ (n : ℕ). sets args.rules.now 0 (flat (rule_record slots args.sites args.book.now) (upto n))) e
