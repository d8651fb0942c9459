-- The tests 1 to 3 leave to know where the records are; the tables that are made of them decide the rest.
use mathlib.Core.Path.{refl}
use native.Mathlib.Omega.{arith}
use Rattle.std.proofs.lemmas.Result.{err_from_is_err_and}
use Rattle.frames.proofs.Framing.{at_least_one, sizes}
use Rattle.book.proofs.Replies.{passed_early, early_refused, late_refused, late_tables}
use Rattle.book.proofs.read.Goals as goal

pub returns-in_err-check_blocks : goal.returns-in_err-check_blocks
returns-in_err-check_blocks c =
    let p = err_from_is_err_and c.from_residual.result c.from_residual.ensures.1 in
    rw (p.1, p.2) (early_refused c.args.book.now c.in_err-check_blocks.field-0.0 c.in_err-check_blocks.ensures)

pub read16-requires : goal.read16-requires
read16-requires c = let h = at_least_one c.args.book.now (passed_early c.args.book.now c.in_ok-check_blocks.ensures).0 in omega arith

pub read16-requires-2 : goal.read16-requires-2
read16-requires-2 c = let h = at_least_one c.args.book.now (passed_early c.args.book.now c.in_ok-check_blocks.ensures).0 in omega arith

pub fill-requires : goal.fill-requires
fill-requires c = sizes c.args.book.now _ _ c.read16.ensures.0 c.read16-2.ensures.0 (passed_early c.args.book.now c.in_ok-check_blocks.ensures).2

pub returns-in_err-fill : goal.returns-in_err-fill
returns-in_err-fill c =
    let p = err_from_is_err_and c.from_residual-in_err-fill.result c.from_residual-in_err-fill.ensures.1 in
    let passed = passed_early c.args.book.now c.in_ok-check_blocks.ensures in
    rw (p.1, p.2) (late_refused c.args.book.now c.read16.ensures.0 c.read16-2.ensures.0 passed c.in_err-fill.ensures c.in_err-fill.field-0.0 refl)

pub returns : goal.returns
returns c =
    late_tables c.args.book.now c.read16.ensures.0 c.read16-2.ensures.0 (passed_early c.args.book.now c.in_ok-check_blocks.ensures) c.in_ok-fill.ensures refl _ refl refl
