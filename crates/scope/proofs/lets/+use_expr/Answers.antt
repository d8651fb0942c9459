-- Each call falls, and the contract follows at each return.
use mathlib.Core.Path.{◌≡◌, refl, sym, ◌∙◌, ap}
use Prim.Native.Nat.{◌-◌, ◌≤◌, ◌<◌}
use native.Mathlib.Omega.{arith}
use lib.ListN.{length, get_or}
use Rattle.definition.specs.Book.{most}
use Rattle.definition.specs.Scope.{never_listed}
use Rattle.definition.specs.Tables.{site_at}
use Rattle.scope.proofs.Drawings.{site_same}
use Rattle.scope.proofs.Uses.{used_few, turning_starts, turning_turn, turning_ends, marked, marked_few}
use Rattle.scope.proofs.Uses.{use_again, use_unlisted, use_listed}
use borrow.Author.Rules.{rules}
use Rattle.scope.proofs.lets.+use_expr.Goals as goal

pub returns-then-scope-x-ge-EMITTED : goal.returns-then-scope-x-ge-EMITTED
returns-then-scope-x-ge-EMITTED t c =
    λ b d f h. use_again d _ c.requires f _ _ (omega (arith, c.if-scope-x-ge-EMITTED.true))

pub loop-k-init : goal.loop-k-init
loop-k-init t c =
    let s = c.args.scope.now in
    let long : length s.states ≡ most = search rules in
    (omega (arith, marked_few s long c.args.x refl), λ b d f h. turning_starts _ _ (marked s c.args.x) _)

pub overflow_add-lets : goal.overflow_add-lets
overflow_add-lets t c = omega (arith, used_few c.use_expr-lets.ensures, c.loop-k.invariant.0)

pub loop-k-preserved : goal.loop-k-preserved
loop-k-preserved t c =
    let sites = c.args.sites.now in
    let k = c.loop-k.k in
    let sources = (site_at sites.words.now c.args.x).sources in
    let same = site_same c.site-site.ensures in
    let count : c.source_count-sources.result ≡ length sources = rw same at c.source_count-sources.ensures.0 in
    let source : c.source.result ≡ get_or sources k 0 = rw same at c.source.ensures in
    let within : k < length sources = omega (arith, count, c.loop-k-test.true) in
    let less : c.source.result < c.args.x = omega (arith, source, sites.table.lower c.args.x k c.requires within) in (
      omega (arith, used_few c.use_expr-lets.ensures, c.loop-k.invariant.0),
      λ b d f h.
          turning_turn (c.loop-k.invariant.1 b d f h) within source (c.use_expr-lets.ensures b d f (omega (arith, less))),
    )

pub returns-then-never_listed : goal.returns-then-never_listed
returns-then-never_listed t c =
    let long : length c.args.scope.now.states ≡ most = search rules in
    let known : c.args.x < length c.args.scope.now.states = omega (arith, long, c.args.sites.now.table.few, c.requires) in
    let sources = (site_at c.args.sites.now.words.now c.args.x).sources in
    let same = site_same c.site-site.ensures in
    let count : c.source_count-sources.result ≡ length sources = rw same at c.source_count-sources.ensures.0 in
    let done : length sources ≤ c.loop-k.k = omega (arith, count, c.loop-k-test.false) in
    let unlisted = ap never_listed (sym same) ∙ sym c.never_listed.ensures ∙ c.if-never_listed.true in
    λ b d f h.
    let ended = turning_ends (c.loop-k.invariant.1 b d (f - 1) (omega arith)) done in
    use_unlisted d _ c.requires f h _ known (omega (arith, c.if-scope-x-ge-EMITTED.false)) ended unlisted

pub returns : goal.returns
returns t c =
    let long : length c.args.scope.now.states ≡ most = search rules in
    let known : c.args.x < length c.args.scope.now.states = omega (arith, long, c.args.sites.now.table.few, c.requires) in
    let sources = (site_at c.args.sites.now.words.now c.args.x).sources in
    let same = site_same c.site-site.ensures in
    let count : c.source_count-sources.result ≡ length sources = rw same at c.source_count-sources.ensures.0 in
    let done : length sources ≤ c.loop-k.k = omega (arith, count, c.loop-k-test.false) in
    let listed = ap never_listed (sym same) ∙ sym c.never_listed.ensures ∙ c.if-never_listed.false in
    λ b d f h.
    let ended = turning_ends (c.loop-k.invariant.1 b d (f - 1) (omega arith)) done in
    use_listed d _ c.requires f h _ known (omega (arith, c.if-scope-x-ge-EMITTED.false)) ended listed c.put_let.ensures
