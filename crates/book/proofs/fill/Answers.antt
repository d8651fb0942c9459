-- The tables are the definition's, since they are long enough; the tests are asked of them.
use Prim.Native.Nat.{◌*◌}
use mathlib.Core.Path.{◌≡◌, ap, ap₂, ◌∙◌}
use native.Mathlib.Omega.{arith}
use lib.ListN.{length, take}
use lib.Seq.{length-sets}
use Rattle.definition.specs.Book.{slots}
use Rattle.definition.specs.Accept.{lowest}
use Rattle.definition.specs.Bytes.{site_table, rule_table}
use Rattle.laws.specs.Stores.{take_sets}
use Rattle.book.specs.Shapes.{record_tests}
use Rattle.book.specs.Reply.{Roomy}
use Rattle.book.proofs.Recording.{length_site_table, length_rule_table}
use borrow.Author.Rules.{rules}
use Rattle.book.proofs.fill.Goals as goal

pub returns : goal.returns
returns c =
    let b = c.args.book.now in
    let S = c.args.size.sites in
    let R = c.args.size.rules in
    let z = c.requires in
    let n : length c.args.sites.now ≡ 1512 = search rules in
    let m : length c.args.rules.now ≡ 8568 = search rules in
    let t = ap (take (6 * S)) c.put_sites.ensures ∙ take_sets c.args.sites.now (site_table b S) (6 * S) (length_site_table b S) (omega (arith, n, z.sites)) in
    let u = ap (take (34 * R)) c.put_rules.ensures ∙ take_sets c.args.rules.now (rule_table slots b S R) (34 * R) (length_rule_table b S R) (omega (arith, m, z.rules)) in
    let l : Roomy _ _ = record { sites = ap length c.put_sites.ensures ∙ length-sets _ 0 (site_table b S) ∙ n; rules = ap length c.put_rules.ensures ∙ length-sets _ 0 (rule_table slots b S R) ∙ m } in
    record { sites = t; rules = u; roomy = l; answer = c.check_front.ensures ∙ ap₂ (λ x y. lowest 4 (record_tests b S R x y)) t u }
