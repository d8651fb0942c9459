-- `pattern_ok` meets its contract, kind by kind.
use native.Mathlib.Omega.{arith}
use borrow.Author.Tests.{ne_eqb}
use Rattle.tree.proofs.ByKind.{kind_low, kind_two, kind_three, kind_fields, kind_high}
use Rattle.tree.proofs.pattern_ok.Goals as goal

pub returns-in-0 : goal.returns-in-0
returns-in-0 c = let a = c.args in kind_low a.kind a.fields a.number (omega arith)

pub returns-in-2 : goal.returns-in-2
returns-in-2 c = let a = c.args in kind_two a.kind a.fields a.number c.in-2.is

pub returns-then-fields-eq1 : goal.returns-then-fields-eq1
returns-then-fields-eq1 c = let a = c.args in kind_three a.kind a.fields a.number c.in-3.is c.if-fields-eq1.true

pub returns-else-fields-eq1 : goal.returns-else-fields-eq1
returns-else-fields-eq1 c =
    let a = c.args in
    rw (ne_eqb a.fields 1 c.if-fields-eq1.false) (kind_fields a.kind a.fields a.number c.in-3.is c.if-fields-eq1.false)

pub returns-in_default : goal.returns-in_default
returns-in_default c = let a = c.args in kind_high a.kind a.fields a.number (omega arith) (λ e. omega arith) (λ e. omega arith)
