-- `plan` meets its contract: the tables read are the book, and its tree is written or its refusal told.
use mathlib.Core.Path.{refl, sym}
use lib.Seq.{length-take-le}
use Rattle.std.proofs.lemmas.Result.{err_from_is_err_and}
use Rattle.plan.proofs.Deciding.{site_room, rule_room, sites_table, rules_accepted, tree_few, planned_tree, planned_refusal}
use Rattle.plan.proofs.plan.Goals as goal

pub returns-in_err-size : goal.returns-in_err-size
returns-in_err-size c =
    let p = err_from_is_err_and c.from_residual.result c.from_residual.ensures.1 in
    rw (p.1, p.2) (planned_refusal c.in_err-size.ensures _ refl _)

pub slice_bounds-sites-end : goal.slice_bounds-sites-end
slice_bounds-sites-end c = site_room c.in_ok-size.ensures c.in_ok-size.size refl

pub slice_bounds-put_tables-end : goal.slice_bounds-put_tables-end
slice_bounds-put_tables-end c = sym (length-take-le _ _ (site_room c.in_ok-size.ensures c.in_ok-size.size refl))

pub slice_bounds-rules-end : goal.slice_bounds-rules-end
slice_bounds-rules-end c = rule_room c.in_ok-size.ensures c.in_ok-size.size refl

pub slice_bounds-put_tables-end-2 : goal.slice_bounds-put_tables-end-2
slice_bounds-put_tables-end-2 c = sym (length-take-le _ _ (rule_room c.in_ok-size.ensures c.in_ok-size.size refl))

pub put_tables-requires-clause-table : goal.put_tables-requires-clause-table
put_tables-requires-clause-table c = sites_table c.in_ok-size.ensures c.in_ok-size.size refl

pub put_tables-requires-clause-accepted : goal.put_tables-requires-clause-accepted
put_tables-requires-clause-accepted c = rules_accepted c.in_ok-size.ensures c.in_ok-size.size refl

pub put_tables-requires-clause-few : goal.put_tables-requires-clause-few
put_tables-requires-clause-few c = tree_few c.in_ok-size.ensures c.in_ok-size.size refl

pub returns : goal.returns
returns c = planned_tree c.in_ok-size.ensures c.in_ok-size.size refl _ c.put_tables.ensures
