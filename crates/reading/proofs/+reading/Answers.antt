-- The cycle `reading` meets its contracts: what the check does not find alone.
use Rattle.std.proofs.Common.{◌+◌, refl, sym, ap}
use mathlib.Core.Path.{ap₂}
use Rattle.definition.specs.Tree.{match}
use Rattle.definition.specs.Read.{read_lets, read_flow, read_tagged, read_step, read_arm, read_steps, read_counted, read_block}
use Rattle.reading.specs.Acts.{steps_after, flow_after, arms_after}
use Rattle.reading.proofs.Readers.{id_yes, block_is}
use Rattle.reading.proofs.Loops.{loop_starts, loop_stop, loop_turn, as_read, step_onto, arm_onto, ends_then}
use Rattle.reading.proofs.+reading.Goals as goal

pub arms-loop-i-init : goal.arms-loop-i-init
unfolding read_flow flow_after
arms-loop-i-init g t c =
    let a = g.R.Reader.acts in
    loop_starts (match c.in_ok-site.site) (rw (c.in_ok-site.ensures, c.in_ok-count.ensures, id_yes c.in_ok-site.site c.if-site-gt-LAST.false))
    (λ k. ap₂ (λ s m. a.leaves (arms_after a c.in_ok-site.site 1 s k) m) (sym c.enter_match-mark.ensures.into) (sym c.enter_match-mark.ensures.mark))

pub arms-returns-in_err-rest : goal.arms-returns-in_err-rest
arms-returns-in_err-rest g t c =
    rw c.from_residual-in_err-rest.ensures (record { is = loop_stop c.loop-i.invariant (read_arm (read_block c.args.left)) arm_onto (λ m u. refl) c.loop-i-test.true c.in_err-rest.ensures.is })

pub arms-loop-i-preserved : goal.arms-loop-i-preserved
unfolding arms_after
arms-loop-i-preserved g t c =
    let a = g.R.Reader.acts in
    loop_turn c.loop-i.invariant (read_arm (read_block c.args.left)) arm_onto (λ m u. refl) c.loop-i-test.true c.in_ok-rest.ensures
    (λ x k e. ap (λ s. a.leaves (arms_after a c.in_ok-site.site (c.loop-i.i + 1 + 1) s k) c.enter_match-mark.result) (sym e))

pub block-returns-in_err-inside : goal.block-returns-in_err-inside
block-returns-in_err-inside g t c =
    rw c.from_residual-in_err-inside.ensures (record { is = rw (block_is c.args.left c.args.w.now c.if-left-eq0.false, c.in_ok-count.ensures, c.in_err-inside.ensures.read) })

pub block-returns-in_err-rest : goal.block-returns-in_err-rest
block-returns-in_err-rest g t c =
    rw c.from_residual-in_err-rest.ensures (record { is = rw (block_is c.args.left c.args.w.now c.if-left-eq0.false, c.in_ok-count.ensures, c.in_ok-inside.ensures.read, c.in_err-rest.ensures.is) })

pub block-returns-then-not-is_empty : goal.block-returns-then-not-is_empty
block-returns-then-not-is_empty g t c = let e = c.in_ok-rest.ensures in
    record { is = rw (block_is c.args.left c.args.w.now c.if-left-eq0.false, c.in_ok-count.ensures, c.in_ok-inside.ensures.read, e.is.1, ← c.if-not-is_empty.ensures) }

pub block-returns : goal.block-returns
block-returns g t c = let e = c.in_ok-rest.ensures in
    record { is = (e.is.0, rw (block_is c.args.left c.args.w.now c.if-left-eq0.false, c.in_ok-count.ensures, c.in_ok-inside.ensures.read, e.is.1, ← c.if-not-is_empty.ensures), e.is.2) }

pub step-returns : goal.step-returns
unfolding read_step
step-returns g t c = let a = g.R.Reader.acts in
    ends_then read_lets (read_tagged (read_block c.args.left)) (read_step (read_block c.args.left)) (λ u. refl) (a.lets c.args.reader.now c.args.i) (flow_after a) c.args.w.now c.in_ok-w.w c.flow.result c.in_ok-w.ensures c.flow.ensures

pub steps-loop-i-init : goal.steps-loop-i-init
unfolding read_counted
steps-loop-i-init g t c = loop_starts (λ k. k) (rw c.in_ok-count.ensures (as_read (read_steps (read_block c.args.left) c.in_ok-count.count c.in_ok-count.w.now))) (λ k. refl)

pub steps-returns-in_err-rest : goal.steps-returns-in_err-rest
steps-returns-in_err-rest g t c =
    rw c.from_residual-in_err-rest.ensures (record { is = loop_stop c.loop-i.invariant (read_step (read_block c.args.left)) step_onto (λ m u. refl) c.loop-i-test.true c.in_err-rest.ensures.is })

pub steps-loop-i-preserved : goal.steps-loop-i-preserved
unfolding steps_after
steps-loop-i-preserved g t c =
    loop_turn c.loop-i.invariant (read_step (read_block c.args.left)) step_onto (λ m u. refl) c.loop-i-test.true c.in_ok-rest.ensures
    (λ x k e. ap (λ s. steps_after g.R.Reader.acts (c.loop-i.i + 1 + 1) s k) (sym e))
