-- The loop keeps its invariant, and the contract follows from it at each return.
use Prim.Native.Nat.{ℕ, ◌*◌}
use mathlib.Core.Path.{◌≡◌, refl, ap, ◌∙◌}
use mathlib.Core.List.{List}
use native.Mathlib.Omega.{arith}
use lib.Seq.{sets}
use Rattle.book.proofs.Recording.{length_site_fields, written}
use Rattle.definition.specs.Bytes.{site_fields, site_offset, site_record, site_table}
use Rattle.definition.specs.Lists.{upto, flat}
use Rattle.laws.specs.Stores.{records_more}
use borrow.Author.Rules.{rules}
use Rattle.book.proofs.records.put_sites.Goals as goal

pub loop-s-init : goal.loop-s-init
loop-s-init c = (search rules, refl)

pub loop-s-preserved : goal.loop-s-preserved
unfolding site_record
loop-s-preserved c =
    let args = c.args in
    let loop = c.loop-s in
    let b = args.book.now in
    let now : c.copy_from_slice.new.self ≡ site_record b loop.s = c.copy_from_slice.ensures.after ∙ c.site_fields.ensures ∙ ap (site_fields b) c.site_offset.ensures in
    let long = length_site_fields b (site_offset loop.s) in (
      search rules,
      written loop.sites _ (site_record b loop.s) (6 * loop.s) _ now (omega arith) (omega arith)
          ∙ ap (λ (m : List ℕ). sets m (6 * loop.s) (site_record b loop.s)) loop.invariant.1
          ∙ records_more args.sites.now (site_record b) 6 loop.s (λ i. length_site_fields b _),
    )

pub returns : goal.returns
unfolding site_table
returns c =
    let args = c.args in
    let loop = c.loop-s in
    let e : loop.s ≡ args.count = omega arith in loop.invariant.1 ∙ ap (λ (n : ℕ). sets args.sites.now 0 (flat (site_record args.book.now) (upto n))) e
