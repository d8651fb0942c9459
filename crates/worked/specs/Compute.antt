-- Replies with every definition open: `computed` is what the table's proof computes with, and it is the reply of the definitions.
use Rattle.std.specs.Prelude.{◌≡◌, refl}
use Rattle.std.proofs.Common.{ap}
use Rattle.definition.specs.Lists.{every}
use Rattle.definition.specs.Book.{no_site, no_rule, site, rule, is_on, constrains, pattern_on, linked}
use Rattle.definition.specs.Tables.{source_at, site_at, constraint_at, pair_at, impure_at, rule_at, book_of, is_zero, site_tidy, rule_tidy}
use Rattle.definition.specs.Bytes.{block_count, length_ok, blocks_wanted, frame, site_fields, constraint_fields, id_field, rule_fields, site_gap, rule_gap, site_gaps, rule_gaps, sites_pass, rules_pass}
use Rattle.definition.specs.Accept.{shape_ok, twins, smaller_than, no_twin, site_ok, sites_ok, pattern_ok, constraint_ok, pair_ok, rule_ok, rules_ok, fields_agree, constraints_of, agrees_with, fields_ok, pair_apart, apart, apart_ok, grants, granted, sound_below, sound_from, site_of, ends, named, sound, sound_ok}
use Rattle.definition.specs.Scope.{is_there, ready, worked_out, never_listed, mark, add_let, use_below, use_site, use_all, nowhere, root, binds, bound_by, emit_bound, arm_states, inside}
use Rattle.definition.specs.Choice.{pairs_with, tests, has, is_open, at_least, no_bar, counts, counted, stays, deferred, rule_has, is_candidate, candidates, better, best, choice}
use Rattle.definition.specs.Plan.{outranks, uses_of, return_steps, returns, compare_patterns, same_pattern, asks_for, asking, stands_at, place_at, places, arms, flow, steps, block, tree}
use Rattle.definition.specs.Tree.{let_words, pattern_words, block_words, step_words, flow_words, arm_words, words}
use Rattle.definition.specs.Read.{id_ok, read_lets, read_places, read_pattern, read_arm, read_flow, read_tagged, read_step, read_counted, read_framed, read_block}
use Rattle.definition.specs.Walk.{holds, agree, hits, flow_hits, arm_hits, walk as walk_block, sites_in, flow_sites, arm_sites}
use Rattle.definition.specs.Sets.{is_member, members}
use Rattle.definition.specs.Answers.{written, one_length, covers, walked, known, mergeable, merge_answer, find_answer, same_answer, merged_sets, remove_answer, sets_left}
use Rattle.worked.specs.Calls.{Call, plan, walk, merge, find, same, remove, Reply, planning, reply}
use Rattle.worked.specs.Quick.{tally, zero_first, sums_by, framed_by, frames_by, sites_by, rules_by, book_by, refusal_by, planned_by, through, planned_through}

unfoldable pub computed : Call → Reply
unfolding every
    no_site no_rule site rule is_on constrains pattern_on linked
    source_at site_at constraint_at pair_at impure_at rule_at book_of is_zero site_tidy rule_tidy
    block_count length_ok blocks_wanted frame site_fields constraint_fields id_field rule_fields site_gap rule_gap site_gaps rule_gaps sites_pass rules_pass
    shape_ok twins smaller_than no_twin site_ok sites_ok pattern_ok constraint_ok pair_ok rule_ok rules_ok fields_agree constraints_of agrees_with fields_ok pair_apart apart apart_ok grants granted sound_below sound_from site_of ends named sound sound_ok
    is_there ready worked_out never_listed mark add_let use_below use_site use_all nowhere root binds bound_by arm_states emit_bound inside
    pairs_with tests has is_open at_least no_bar counts counted stays deferred rule_has is_candidate candidates better best choice
    outranks uses_of return_steps returns compare_patterns same_pattern asks_for asking stands_at place_at places arms flow steps block tree
    let_words pattern_words block_words step_words flow_words arm_words words
    id_ok read_lets read_places read_pattern read_arm read_flow read_tagged read_step read_counted read_framed read_block
    holds agree hits flow_hits arm_hits walk_block sites_in flow_sites arm_sites
    is_member members
    written one_length covers walked known mergeable merge_answer find_answer same_answer merged_sets remove_answer sets_left
    tally zero_first sums_by framed_by frames_by sites_by rules_by book_by refusal_by planned_by
computed (plan book room) = planning (planned_by through book room)
computed (walk ws d) = reply (walk ws d)
computed (merge x y) = reply (merge x y)
computed (find x s) = reply (find x s)
computed (same x y s) = reply (same x y s)
computed (remove x s) = reply (remove x s)

pub computed_is : (c : Call) → reply c ≡ computed c
unfolding computed
computed_is (plan book room) = ap planning (planned_through book room)
computed_is (walk ws d) = refl
computed_is (merge x y) = refl
computed_is (find x s) = refl
computed_is (same x y s) = refl
computed_is (remove x s) = refl
