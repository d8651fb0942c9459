-- The cycle `making` of `blocks` meets its contracts: what its members have to show on their way.
use mathlib.Core.Path.{refl, ap}
use Prim.Native.Nat.{◌<◌, ◌-◌}
use lib.ListN.{length, take, drop}
use Rattle.blocks.specs.Made.{Takes}
use native.Mathlib.Omega.{arith}
use Rattle.laws.specs.Lending.{tail_length}
use Rattle.tables.specs.Held.{test_of}
use Rattle.blocks.proofs.Laying.{lays, lays_one, lays_then, roomy_after}
use Rattle.blocks.proofs.Scoping.{some_scope, some_stands, scoped_inside, scoped_used}
use Rattle.blocks.proofs.Scoping.{scoped_matching, scoped_joining, entered_match}
use Rattle.blocks.proofs.Ready.{drawn, parts, few_rules, cut_part}
use Rattle.blocks.proofs.Making.{arm_made, equal_made, step_match, step_equal}
use Rattle.blocks.proofs.ArmsLoop.{arms_turn, match_made}
use Rattle.blocks.proofs.StepsLoop.{steps_start, steps_stop, steps_turn, block_made}
use Rattle.blocks.proofs.+making.Goals as goal

pub make_arm-least_pattern-pattern-requires : goal.make_arm-least_pattern-pattern-requires
make_arm-least_pattern-pattern-requires t c = (parts c.args.book.now c.requires.0.rules_of, c.requires.1.1.1)

pub make_arm-gather-taken-requires : goal.make_arm-gather-taken-requires
make_arm-gather-taken-requires t c = parts c.args.book.now c.requires.0.rules_of

pub make_arm-sort-requires : goal.make_arm-sort-requires
make_arm-sort-requires t c =
    let k = c.args.book.now in
    let p = c.requires in (
      omega (arith, c.decreases, p.1.1.0),
      record {
        scope = scoped_inside p.0.scope _ _ _ (c.enter_arm-inside.ensures _ (drawn k));
        rules_of = cut_part k p.0.rules_of c.gather-taken.ensures;
        room = roomy_after (lays (c.put_pattern.ensures _ (drawn k))) p.0.room;
      },
    )

pub make_arm-returns : goal.make_arm-returns
make_arm-returns t c =
    let k = c.args.book.now in
    let pattern = c.put_pattern.ensures _ (drawn k) in
    let inside = c.enter_arm-inside.ensures _ (drawn k) in
    let arm = arm_made k c.requires.0.rules_of c.least_pattern-pattern.ensures c.gather-taken.ensures in
    arm c.sort.new.order (lays pattern) inside c.sort.ensures c.sort.auto.order

pub make_control_flow-make_match-requires : goal.make_control_flow-make_match-requires
make_control_flow-make_match-requires t c =
    let p = c.requires in
    let v = c.test_lets.ensures _ (drawn c.args.book.now) in
    let used = scoped_used p.0.scope _ _ v.scope in
    let source = c.match_source-inside.ensures in
    let known : c.in-On.s < c.args.book.now.sites.count = rw c.in-On.is at p.1.0 in (
      omega (arith, c.decreases),
      (
        record { scope = scoped_matching used _ source; rules_of = p.0.rules_of; room = roomy_after (lays v.wrote) p.0.room },
        (entered_match used _ source, (known, p.1.1)),
      ),
    )

pub make_control_flow-join-inside-requires : goal.make_control_flow-join-inside-requires
make_control_flow-join-inside-requires t c =
    let p = c.requires in
    let few = c.args.book.now.sites.table.few in
    let v = c.test_lets.ensures _ (drawn c.args.book.now) in
    let known : (c.in-Same.x < c.in-Same.y) × (c.in-Same.y < c.args.book.now.sites.count) = rw c.in-Same.is at p.1.0 in (
      (scoped_used p.0.scope _ _ v.scope).classes.made,
      (omega (arith, few, known.0, known.1), (omega (arith, few, known.1), λ e. omega (arith, known.0))),
    )

pub make_control_flow-make_equal-requires : goal.make_control_flow-make_equal-requires
make_control_flow-make_equal-requires t c =
    let p = c.requires in
    let v = c.test_lets.ensures _ (drawn c.args.book.now) in
    let known : (c.in-Same.x < c.in-Same.y) × (c.in-Same.y < c.args.book.now.sites.count) = rw c.in-Same.is at p.1.0 in
    let used = scoped_used p.0.scope _ _ v.scope in (
      omega (arith, c.decreases),
      (
        record {
          scope = scoped_joining used c.join-inside.ensures;
          rules_of = p.0.rules_of;
          room = roomy_after (lays v.wrote) p.0.room;
        },
        (known, p.1.1),
      ),
    )

pub make_control_flow-returns-in-On : goal.make_control_flow-returns-in-On
make_control_flow-returns-in-On t c =
    let v = c.test_lets.ensures _ (drawn c.args.book.now) in
    step_match c.requires.0.scope _ _ (ap test_of c.in-On.is) v c.match_source-inside.ensures c.make_match.ensures

pub make_control_flow-returns-in-Same : goal.make_control_flow-returns-in-Same
make_control_flow-returns-in-Same t c =
    let v = c.test_lets.ensures _ (drawn c.args.book.now) in
    step_equal c.requires.0.scope _ _ _ (ap test_of c.in-Same.is) v c.join-inside.ensures c.make_equal.ensures

pub make_equal-returns : goal.make_equal-returns
make_equal-returns t c = equal_made c.put.ensures c.put-2.ensures c.put-3.ensures c.sort.ensures

pub make_match-overflow_add-arms : goal.make_match-overflow_add-arms
make_match-overflow_add-arms t c =
    let l = c.loop-taken.invariant in
    record { fits = omega (arith, c.loop-taken-test.true, l.few, l.long, few_rules c.args.book.now c.requires.0.rules_of) }

pub make_match-loop-taken-preserved : goal.make_match-loop-taken-preserved
make_match-loop-taken-preserved t c =
    arms_turn c.loop-taken.invariant c.requires.1.0 c.loop-taken-test.true _ c.make_arm-taken.ensures

pub make_match-returns : goal.make_match-returns
make_match-returns t c =
    let made = match_made c.loop-taken.invariant c.loop-taken-test.false in
    made c.put.ensures c.put-2.ensures c.put-3.ensures c.patch.ensures

pub make_steps-loop-next-init : goal.make_steps-loop-next-init
make_steps-loop-next-init t c = steps_start _ _ _ _ _ c.requires

pub make_steps-overflow_add-count : goal.make_steps-overflow_add-count
make_steps-overflow_add-count t c =
    let k = c.args.book.now in
    let l = c.loop-next in
    let i = l.invariant in
    let part = take (length l.order - l.taken) (drop l.taken l.order) in
    let next : Takes k c.args.left l.scope part c.in-Some.next c.next_test.new.order = c.in-Some.ensures in
    let few = few_rules k c.requires.rules_of in
    record { fits = omega (arith, next.counts, next.within, tail_length l.order l.taken, i.few, i.inside, i.long, few) }

pub make_steps-loop-next-preserved : goal.make_steps-loop-next-preserved
make_steps-loop-next-preserved t c =
    let step = c.make_control_flow in
    steps_turn c.loop-next.invariant _ c.in-Some.ensures _ refl step.new.order step.auto.order step.ensures

pub make_steps-returns : goal.make_steps-returns
make_steps-returns t c = steps_stop c.loop-next.invariant _ c.in_default.ensures

pub sort-overflow_cast-returns : goal.sort-overflow_cast-returns
sort-overflow_cast-returns t c = omega (arith, c.make_steps-steps.ensures.long, few_rules c.args.book.now c.requires.rules_of)

pub sort-overflow_add-steps : goal.sort-overflow_add-steps
sort-overflow_add-steps t c =
    let made = c.make_steps-steps.ensures in
    record { fits = omega (arith, made.long, made.few, made.within, few_rules c.args.book.now c.requires.rules_of) }

pub sort-words_after-requires : goal.sort-words_after-requires
sort-words_after-requires t c =
    let p = c.requires in
    let start = lays_then (lays_one c.put.ensures) (lays_one c.put-2.ensures) in
    let steps = (c.make_steps-steps.ensures.rest (some_scope p.scope) (some_stands p.scope)).wrote in
    let room = roomy_after (lays_then (lays_then start steps) (lays c.put_returns.ensures)) p.room in
    omega (arith, room.short, room.inside, c.patch.ensures.next)

pub sort-returns : goal.sort-returns
sort-returns t c =
    let made = block_made c.put.ensures c.put-2.ensures c.make_steps-steps.ensures c.put_returns.ensures in
    made c.patch.ensures c.words_after.ensures c.patch-2.ensures
