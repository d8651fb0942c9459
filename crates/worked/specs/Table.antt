-- The worked books A to J as one table of calls and replies (document 01, "Worked books" and "Refusal numbers").
use Rattle.std.specs.Prelude.{true, ◌≡◌, refl, List, [], ◌∷◌, ◌++◌, map, ℕ, ℤ, pos, negsuc, replicate}
use Rattle.std.proofs.Common.{◌∙◌}
use Rattle.std.proofs.Math.Option.{none, some}
use Rattle.definition.specs.Walk.{Reading}
use Rattle.definition.specs.Sets.{Sets, no_sets}
use Rattle.definition.specs.Answers.{refused, answered, done, merged_sets, sets_left}
use Rattle.worked.specs.Books.{book_A, words_A, book_B, words_B, book_C, words_C, book_D, words_D, book_E, words_E, book_F, words_F, book_H, words_H, book_I, book_placed, words_placed, book_empty, book_cut, book_changed, book_short, book_head, book_kind_8, book_count_5, book_two_field_counts, book_unbound}
use Rattle.worked.specs.Calls.{plan, walk, merge, find, same, remove, merging, finding, comparing, removing, reply, Row, ◌gives◌, fits, refuses, stops_at, nothing_matches, refuses_walk}
use Rattle.worked.specs.Compute.{computed, computed_is}

-- a room of n words, each 9
abbrev pub nines : ℕ → List ℕ
nines n = replicate n 9

-- site 0 reads as this pattern kind, number and identity, sites 1 and 2 as ConstInt 0 of identities 1 and 2
abbrev pub reads : ℕ → ℤ → ℕ → Reading
reads kind number identity = record { kinds = kind ∷ 0 ∷ 0 ∷ []; numbers = number ∷ pos 0 ∷ pos 0 ∷ []; identities = identity ∷ 1 ∷ 2 ∷ [] }

-- a reading with a number too few, and one of one site
abbrev pub torn : Reading
torn = record { kinds = 2 ∷ 0 ∷ 0 ∷ []; numbers = pos 1 ∷ pos 0 ∷ []; identities = 0 ∷ 1 ∷ 2 ∷ [] }

abbrev pub one_site : Reading
one_site = record { kinds = 2 ∷ []; numbers = pos 1 ∷ []; identities = 0 ∷ [] }

-- J: merges (1,2), (1,3), (2,4); then 4's set is removed
abbrev pub store_J : Sets
store_J = merged_sets 2 4 (merged_sets 1 3 (merged_sets 1 2 no_sets))

abbrev pub store_after_J : Sets
store_after_J = sets_left 4 store_J

abbrev pub table : List Row
table =
    plan book_A (nines 4) gives fits 2 (words_A ++ nines 2)
    ∷ plan book_B (nines 23) gives fits 21 (words_B ++ nines 2)
    ∷ plan book_C (nines 14) gives fits 12 (words_C ++ nines 2)
    ∷ plan book_D (nines 15) gives fits 13 (words_D ++ nines 2)
    ∷ plan book_E (nines 20) gives fits 18 (words_E ++ nines 2)
    ∷ plan book_F (nines 32) gives fits 30 (words_F ++ nines 2)
    -- G
    ∷ plan book_B (nines 20) gives refuses 9 (replicate 20 0)
    ∷ plan book_B (nines 21) gives fits 21 words_B
    ∷ plan book_H (nines 28) gives fits 26 (words_H ++ nines 2)
    ∷ plan book_I (nines 3) gives refuses 7 (nines 3)
    -- J
    ∷ find 3 store_J gives finding (answered (some 1))
    ∷ find 4 store_J gives finding (answered (some 1))
    ∷ same 3 4 store_J gives comparing (answered true)
    ∷ remove 4 store_J gives removing (answered (1 ∷ 2 ∷ 3 ∷ 4 ∷ []))
    ∷ find 1 store_after_J gives finding (answered none)
    ∷ remove 1 store_after_J gives removing (answered [])
    -- places, and the refusals of a book
    ∷ plan book_placed (nines 20) gives fits 18 (words_placed ++ nines 2)
    ∷ plan book_empty (nines 3) gives refuses 1 (nines 3)
    ∷ plan book_cut (nines 3) gives refuses 1 (nines 3)
    ∷ plan book_changed (nines 3) gives refuses 2 (nines 3)
    ∷ plan book_short (nines 3) gives refuses 3 (nines 3)
    ∷ plan book_head (nines 3) gives refuses 3 (nines 3)
    ∷ plan book_kind_8 (nines 3) gives refuses 4 (nines 3)
    ∷ plan book_count_5 (nines 3) gives refuses 5 (nines 3)
    ∷ plan book_two_field_counts (nines 3) gives refuses 6 (nines 3)
    ∷ plan book_unbound (nines 3) gives refuses 8 (nines 3)
    -- walks, and their refusals
    ∷ walk words_B (reads 2 (pos 1) 0) gives stops_at 0 1
    ∷ walk words_B (reads 2 (pos 5) 0) gives stops_at 1 2
    ∷ walk words_D (reads 0 (pos 0) 1) gives stops_at 0 2
    ∷ walk words_F (reads 2 (pos 5) 0) gives nothing_matches
    ∷ walk words_H (reads 0 (negsuc 399) 0) gives stops_at 1 2
    ∷ walk words_B torn gives refuses_walk 10
    ∷ walk [] (reads 2 (pos 1) 0) gives refuses_walk 11
    ∷ walk words_B one_site gives refuses_walk 12
    -- ids above 251, and one id twice
    ∷ find 252 store_J gives finding (refused 16)
    ∷ merge 251 252 gives merging (refused 16)
    ∷ merge 3 3 gives merging (refused 16)
    ∷ merge 1 2 gives merging (answered done)
    ∷ []
