-- The loop keeps its invariant: a near rule is listed, and any other raises the bar.
use mathlib.Core.Path.{refl, sym, ◌∙◌}
use native.Mathlib.Omega.{arith}
use Rattle.tables.specs.Held.{rank_of}
use Rattle.order.proofs.Asks.{at_rule, lack_starts, lack_turn}
use Rattle.choice.specs.Worth.{marked_ends}
use Rattle.choice.proofs.Nearby.{share_starts, share_take, share_skip, near_yes, near_no}
use Rattle.choice.proofs.sharing.Goals as goal
use Rattle.choice.proofs.sharing.Goals.{then-marked-ge2, else-marked-ge2}

pub loop-x-init : goal.loop-x-init
loop-x-init c = (share_starts _ _ _ refl, lack_starts _ _ _)

pub loop-x-preserved : goal.loop-x-preserved
loop-x-preserved c =
    let g = c.loop-x.invariant in
    let h = c.loop-x-test.true in
    let is = c.rule_at-rule.ensures in
    let m = c.marked.ensures ∙ at_rule (λ t i. marked_ends t c.args.marks.now i) is in
    elim c.if-marked-ge2.branch [
      | then-marked-ge2 w ↦
          let y = near_yes _ _ _ m w.if-marked-ge2.true in
          rw (w.ids-is, w.n-is, w.bar-is) (
            share_take g.0 h (omega (arith, g.0.few, h, c.args.asked.now.parts.short)) refl y,
            lack_turn g.1 h refl
                (sym y) refl refl,
          )
      | else-marked-ge2 w ↦
          let n = near_no _ _ _ m w.if-marked-ge2.false in
          rw (w.ids-is, w.n-is, w.bar-is) (
            share_skip g.0 h refl n,
            lack_turn g.1 h refl (sym n)
                (w.priority.ensures ∙ at_rule rank_of is) w.max-bar.ensures,
          )
    ]
