-- The loop keeps its invariant, and the contract follows from it at each return.
use Prim.Native.Nat.{ℕ, ◌-◌}
use mathlib.Core.List.{List}
use mathlib.Core.Path.{◌≡◌, refl, sym, ap, ◌∙◌}
use native.Mathlib.Omega.{arith}
use Rattle.checks.proofs.Records.{site_same, sources_fit_same}
use Rattle.checks.proofs.Visits.{visit_fails, visit_passes}
use Rattle.checks.specs.Marks.{pending}
use Rattle.definition.specs.Accept.{sound_from}
use Rattle.definition.specs.Book.{slots}
use Rattle.definition.specs.Tables.{site_at, rule_at, book_of}
use Rattle.checks.proofs.reach.marked_sound.Goals as goal

pub loop-s-init : goal.loop-s-init
loop-s-init c = λ R u. refl

pub visit-requires : goal.visit-requires
visit-requires c =
    let pre = c.requires in
    let s = c.loop-s.s - 1 in
    (omega arith, omega arith, sources_fit_same c.args.sites.now s c.site_record.ensures (pre.3.each s (omega arith)))

pub returns-then-not-visit : goal.returns-then-not-visit
returns-then-not-visit c =
    let args = c.args in
    let loop = c.loop-s in
    let t = args.sites.now in
    let w = c.site_record.result.now in
    let rule = rule_at slots args.rule.now.words.now 0 in
    let same = sym (site_same t (loop.s - 1) c.site_record.ensures (c.requires.3.each (loop.s - 1) (omega arith)).few) in
    let visited = λ (R : ℕ) (u : List ℕ).
    visit_fails slots args.count R t u (site_at w 0) rule (loop.s - 1) loop.s loop.marks _ c.visit.result c.visit.ensures in
    λ R u. sym (sym (loop.invariant R u) ∙ visited R u (omega arith) c.requires.3 same (omega arith) c.if-not-visit.true)

pub loop-s-preserved : goal.loop-s-preserved
loop-s-preserved c =
    let args = c.args in
    let loop = c.loop-s in
    let t = args.sites.now in
    let w = c.site_record.result.now in
    let rule = rule_at slots args.rule.now.words.now 0 in
    let same = sym (site_same t (loop.s - 1) c.site_record.ensures (c.requires.3.each (loop.s - 1) (omega arith)).few) in
    let visited = λ (R : ℕ) (u : List ℕ).
    visit_passes slots args.count R t u (site_at w 0) rule (loop.s - 1) loop.s loop.marks _ c.visit.result c.visit.ensures in
    λ R u. sym (sym (loop.invariant R u) ∙ visited R u (omega arith) c.requires.3 same (omega arith) c.if-not-visit.false)

pub returns : goal.returns
unfolding pending
returns c =
    let args = c.args in
    let loop = c.loop-s in
    λ R u.
    let judge = sound_from (book_of slots args.count R args.sites.now u) (rule_at slots args.rule.now.words.now 0) in
    let e : loop.s ≡ 0 = omega arith in sym (sym (loop.invariant R u) ∙ ap (pending judge loop.marks) e)
